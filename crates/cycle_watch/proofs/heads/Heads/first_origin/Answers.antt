use Rattle.std.proofs.Common.{◌≡◌, ◌∙◌, ◌==◌, Bool, false, if◌then◌else◌, None, Option, option_map, ap, sym}
use Rattle.std.proofs.lemmas.Bool.{ne_eqb}
use Rattle.insight_model.specs.declared.cycle_cause.CycleCause.TheVariants.{Icache, Start}
use Rattle.insight_model.specs.Cause.{Charge, charge}
use Rattle.insight_model.specs.Facts.{or_else}
use Rattle.insight_model.specs.Origin.{first_origin, newest, room_origin, unflushed_origin}
use Rattle.cycle_watch.specs.Facts.{charge_in}
use Rattle.cycle_watch.proofs.Appending.{origin_of_room}
use Rattle.cycle_watch.proofs.heads.Heads.first_origin.Goals as goal

pub returns : goal.returns
returns c = record {
  origin = λ f shown tells at.
      let p = c.args.self.now.last.params in
      let refill = option_map charge_in c.args.self.now.refill in
      let none : newest f refill ≡ None =
      ap (λ (o : Option Charge). or_else o refill) (sym tells.flush) ∙ sym c.newest.ensures.newest ∙ ap (option_map charge_in) c.in_default.is in
      let some : (f.fetched == 0) ≡ false = ne_eqb f.fetched 0 (λ e. c.if-facts-eq0.false (tells.fetched ∙ e)) in
      c.room_origin.ensures.origin f shown tells at ∙ sym (origin_of_room p f (newest f refill) shown none some (sym tells.paid ∙ c.if-facts.false));
}
