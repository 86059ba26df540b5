use Rattle.std.proofs.Common.{◌≡◌, ℕ, ◌<◌, length, ap, sym, ◌∙◌, inl, inr, arith}
use Rattle.std.proofs.lemmas.Bool.{cases_eq}
use Rattle.std.proofs.lemmas.List.{length-set, get_or-set_same, get_or-set_other, get_or_read}
use Rattle.reservation_stations.specs.declared.turn_set.TurnSet.{TurnSet}
use Rattle.reservation_stations.specs.TurnSet.{holds}
use Rattle.reservation_stations.specs.Noting.{no_turns}
use Rattle.reservation_stations.specs.AreSets.{awaits}
use Rattle.reservation_stations.proofs.Missing.{told_short, told_both, awaits-fed_same, awaits-fed_other}
use Rattle.reservation_stations.proofs.sets.Sets.tell.Goals as goal

pub returns : goal.returns
returns c = record {
  told = λ n w e m sets.
      let index = c.args.index in
      let items = c.args.self.now.dependents.items in
      let inside : index < length items = omega (arith, c.requires.inside, c.args.self.now.dependents.ok) in
      let told : (turn : ℕ) → turn < 256 → holds c.index.result.now turn ≡ awaits index (m turn) =
      λ turn within. ap (λ (s : TurnSet). holds s turn) (get_or_read items index c.index.result.now inside c.index.ensures no_turns)
      ∙ sets.dependents turn index within (omega (arith, inside, sets.every_index)) in
      record {
        every_index = length-set items index c.none.result ∙ sets.every_index;
        waiting = sets.waiting;
        executing = sets.executing;
        short = λ turn within. told_short index (m turn) (holds c.args.self.now.short turn) (holds c.take_out-2.new.self turn) (holds c.take_out.new.self turn)
            (holds c.index.result.now turn) (holds c.args.self.now.both turn) (c.take_out-2.ensures.taken turn) (c.take_out.ensures.taken turn)
            (sets.short turn within) (told turn within) (sets.both turn within);
        both = λ turn within. told_both index (m turn) (holds c.args.self.now.both turn) (holds c.take_out-3.new.self turn) (holds c.index.result.now turn)
            (c.take_out-3.ensures.taken turn) (sets.both turn within) (told turn within);
        dependents = λ turn k within below. elim (cases_eq k index) [
          | inl same ↦
              rw same (ap (λ (s : TurnSet). holds s turn) (get_or-set_same items index c.none.result no_turns inside) ∙ c.none.ensures.none turn
              ∙ sym (awaits-fed_same index (m turn)))
          | inr differ ↦
              ap (λ (s : TurnSet). holds s turn) (get_or-set_other items index k c.none.result no_turns differ) ∙ sets.dependents turn k within below
              ∙ sym (awaits-fed_other index k (m turn) differ)
        ];
      };
}
