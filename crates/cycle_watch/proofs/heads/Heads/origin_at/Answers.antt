use Rattle.std.proofs.Common.{◌≡◌, ◌∙◌, ◌==◌, ◌-◌, ◌≤◌, Bool, false, if◌then◌else◌, option_map, ap, arith, sym}
use Rattle.std.proofs.lemmas.Bool.{ne_eqb}
use Rattle.insight_model.specs.Origin.{first_origin, newest, room_origin}
use Rattle.cycle_watch.specs.Facts.{charge_in}
use Rattle.cycle_watch.proofs.heads.Heads.origin_at.Goals as goal

pub returns-else-place-facts : goal.returns-else-place-facts
returns-else-place-facts c = record {
  origin = λ f shown tells at.
      let p = c.args.self.now.last.params in
      let flush = newest f (option_map charge_in c.args.self.now.refill) in
      let kept = c.args.facts.now.kept in
      let later : (c.args.place - kept == 0) ≡ false = ne_eqb (c.args.place - kept) 0 (λ e. c.if-place-facts.false (omega (arith, e, c.requires.appended))) in
      c.room_origin.ensures.origin f shown tells at
      ∙ ap (λ (b : Bool). if b then first_origin p f flush shown else room_origin p f shown) (sym later);
}
