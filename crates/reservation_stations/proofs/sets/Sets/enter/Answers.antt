use Rattle.std.proofs.Common.{◌≡◌, ◌∙◌, ◌==◌, ◌&&◌, ◌||◌, ℕ, true, false, is_some, length, refl, ap, sym, arith}
use Rattle.reservation_stations.specs.declared.sets.Sets.{Sets}
use Rattle.reservation_stations.specs.TurnSet.{holds}
use Rattle.reservation_stations.specs.Noting.{dependents_of}
use Rattle.reservation_stations.specs.AreSets.{Missing, misses_one, misses_both, are_two}
use Rattle.reservation_stations.proofs.Noted.{put_for, left_for, alone, awaited_alone, awaited_once, noted_both, AreSets-noted}
use Rattle.reservation_stations.proofs.sets.Sets.enter.Goals.{then-are_two, else-are_two}
use Rattle.reservation_stations.proofs.sets.Sets.enter.Goals as goal

pub returns-after-are_two : goal.returns-after-are_two
returns-after-are_two c = record {
  entered = λ n w e m free sets.
      let turn = c.args.turn in
      let old = c.args.self.now in
      let mid = c.if-are_two.self in
      let new : Sets = record mid { dependents = c.note-then-is_some.new.dependents } in
      let value : Missing = record { first = c.args.first; second = c.args.second } in
      let bit = c.bit_of-at.ensures.bit in
      let some : is_some c.args.first ≡ true = sym c.is_some.ensures.some ∙ c.if-is_some.true in
      let first = c.note-then-is_some.ensures.noted turn bit in
      let inserted : (other : ℕ) → holds c.insert-then-is_some.new.self other ≡ (holds old.short other || (misses_one value && (other == turn))) =
      λ other. put_for (misses_one value) (holds old.short other) (holds c.insert-then-is_some.new.self other) (other == turn) (ap (λ b. b || is_some c.args.second) some)
      (c.insert-then-is_some.ensures.inserted turn bit other)
      in
      elim c.if-are_two.branch [
        | then-are_two v ↦
            let two : are_two c.args.first c.args.second ≡ true = sym c.are_two.ensures.two ∙ v.if-are_two.true in
            let second = v.note.ensures.noted turn bit in
            let is = v.self-is in
            AreSets-noted n turn old new w e m value free sets
            (first.every_index ∙ ap (λ (s : Sets). length s.dependents.items) is ∙ second.every_index)
            (λ other. ap (λ (s : Sets). holds s.waiting other) is ∙ c.insert.ensures.inserted turn bit other)
            (λ other. ap (λ (s : Sets). holds s.executing other) is)
            (λ other. ap (λ (s : Sets). holds s.short other) is ∙ inserted other)
            (λ other. ap (λ (s : Sets). holds s.both other) is
            ∙ put_for (misses_both value) (holds old.both other) (holds v.insert-then-are_two.new.self other) (other == turn) two (v.insert-then-are_two.ensures.inserted turn bit other))
            (λ k other below. noted_both k c.index-then-is_some.result v.index.result c.args.first c.args.second (holds (dependents_of old.dependents.items k) other)
            (holds (dependents_of mid.dependents.items k) other) (holds (dependents_of new.dependents.items k) other) (other == turn) c.index-then-is_some.ensures.index v.index.ensures.index
            (ap (λ (s : Sets). holds (dependents_of s.dependents.items k) other) is ∙ second.noted k other below)
            (first.noted k other (omega (arith, below, second.every_index, ap (λ (s : Sets). length s.dependents.items) is))))
        | else-are_two v ↦
            let one : are_two c.args.first c.args.second ≡ false = sym c.are_two.ensures.two ∙ v.if-are_two.false in
            let is = v.self-is in
            AreSets-noted n turn old new w e m value free sets
            (first.every_index ∙ ap (λ (s : Sets). length s.dependents.items) is)
            (λ other. ap (λ (s : Sets). holds s.waiting other) is ∙ c.insert.ensures.inserted turn bit other)
            (λ other. ap (λ (s : Sets). holds s.executing other) is)
            (λ other. ap (λ (s : Sets). holds s.short other) is ∙ inserted other)
            (λ other. ap (λ (s : Sets). holds s.both other) is ∙ left_for (misses_both value) (holds old.both other) (other == turn) one)
            (λ k other below. first.noted k other (omega (arith, below, ap (λ (s : Sets). length s.dependents.items) is))
            ∙ (λ i. holds (dependents_of (is i).dependents.items k) other
            || (awaited_once k c.index-then-is_some.result c.args.first c.args.second c.index-then-is_some.ensures.index one i && (other == turn))))
      ];
}

pub returns-then-is_some-2 : goal.returns-then-is_some-2
returns-then-is_some-2 c = record {
  entered = λ n w e m free sets.
      let turn = c.args.turn in
      let old = c.args.self.now in
      let new : Sets = record old { waiting = c.insert.new.self; short = c.insert-then-is_some-2.new.self; dependents = c.note-then-is_some-2.new.dependents } in
      let value : Missing = record { first = c.args.first; second = c.args.second } in
      let bit = c.bit_of-at.ensures.bit in
      let none : is_some c.args.first ≡ false = sym c.is_some.ensures.some ∙ c.if-is_some.false in
      let some : is_some c.args.second ≡ true = sym c.is_some-else-is_some.ensures.some ∙ c.if-is_some-2.true in
      let second = c.note-then-is_some-2.ensures.noted turn bit in
      AreSets-noted n turn old new w e m value free sets
      second.every_index
      (λ other. c.insert.ensures.inserted turn bit other)
      (λ other. refl)
      (λ other. put_for (misses_one value) (holds old.short other) (holds new.short other) (other == turn) (λ i. none i || some i) (c.insert-then-is_some-2.ensures.inserted turn bit other))
      (λ other. left_for (misses_both value) (holds old.both other) (other == turn) (alone c.args.first c.args.second none))
      (λ k other below. second.noted k other below
      ∙ ap (λ b. holds (dependents_of old.dependents.items k) other || (b && (other == turn)))
      (awaited_alone k c.index-then-is_some-2.result c.args.first c.args.second none c.index-then-is_some-2.ensures.index));
}
