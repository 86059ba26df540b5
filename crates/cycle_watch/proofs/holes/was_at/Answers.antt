use Rattle.std.proofs.Common.{◌∙◌, ap, sym}
use Rattle.std.proofs.lemmas.Option.{same_Some}
use Rattle.cycle_watch.specs.declared.mark.Mark.{Mark}
use Rattle.cycle_watch.specs.Shown.{outcome_in, shown_in}
use Rattle.cycle_watch.specs.Stages.{is_in}
use Rattle.cycle_watch.proofs.holes.was_at.Goals as goal

pub returns : goal.returns
returns c = record {
  at = λ mark here.
      let held = c.mark.result.now in
      c.is_in.ensures.stage (outcome_in held.shown) ∙ ap (λ (m : Mark). is_in c.args.stage (shown_in m.shown).progress) (same_Some held mark (sym c.mark.ensures.mark ∙ here));
}
