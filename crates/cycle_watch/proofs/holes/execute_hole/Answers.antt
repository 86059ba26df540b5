use Rattle.std.proofs.Common.{◌∙◌, ap, sym}
use Rattle.std.proofs.lemmas.Option.{same_Some}
use Rattle.insight_model.specs.Cause.{charge}
use Rattle.insight_model.specs.Sight.{Shown}
use Rattle.insight_model.specs.Hole.{own_cause}
use Rattle.cycle_watch.specs.Shown.{shown_in}
use Rattle.cycle_watch.proofs.holes.execute_hole.Goals as goal

pub returns : goal.returns
returns g c = record {
  hole = λ is there.
      (λ i. charge ((c.new.ensures.cause ∙ c.own_cause.ensures.own) i) (c.new.ensures.addr i))
      ∙ ap (λ (x : Shown). charge (own_cause x) x.addr) (same_Some (shown_in c.shown-shown.result) is (sym c.shown-shown.ensures.shown ∙ there));
}
