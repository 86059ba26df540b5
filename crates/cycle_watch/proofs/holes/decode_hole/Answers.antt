use Rattle.std.proofs.Common.{◌∙◌, ap, sym}
use Rattle.std.proofs.lemmas.Option.{same_Some}
use Rattle.insight_model.specs.Cause.{charge}
use Rattle.insight_model.specs.Sight.{Shown}
use Rattle.insight_model.specs.Hole.{decode_cause, past_decode}
use Rattle.cycle_watch.specs.Shown.{shown_in}
use Rattle.cycle_watch.proofs.holes.decode_hole.Goals as goal

pub returns : goal.returns
returns g c = record {
  hole = λ is there.
      let w = (g.S.Watched.sight c.args.side.now).window in
      (λ i. charge ((c.new.ensures.cause ∙ c.decode_cause.ensures.cause) i) (c.new.ensures.addr i))
      ∙ ap (λ (x : Shown). charge (decode_cause (past_decode w) x) x.addr) (same_Some (shown_in c.shown-shown.result) is (sym c.shown-shown.ensures.shown ∙ there));
}
