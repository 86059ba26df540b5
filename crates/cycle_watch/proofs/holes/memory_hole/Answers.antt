use Rattle.std.proofs.Common.{◌∙◌, sym}
use Rattle.std.proofs.lemmas.Option.{same_Some}
use Rattle.insight_model.specs.Cause.{charge}
use Rattle.insight_model.specs.Hole.{memory_stall}
use Rattle.cycle_watch.specs.Shown.{shown_in}
use Rattle.cycle_watch.specs.Known.{kept_of}
use Rattle.cycle_watch.proofs.holes.memory_hole.Goals as goal

pub returns : goal.returns
returns g c = record {
  hole = λ mark is was there.
      let held = c.mark-mark.result.now in
      let same = same_Some held mark (sym c.mark-mark.ensures.mark ∙ was) in
      let seen = same_Some (shown_in c.shown-shown.result) is (sym c.shown-shown.ensures.shown ∙ there) in
      (λ i. charge ((c.new.ensures.cause ∙ c.memory_cause.ensures.cause) i) (c.new.ensures.addr i))
      ∙ (λ i. memory_stall c.args.facts.now.cycle (kept_of (same i) (seen i), (same i).miss));
}
