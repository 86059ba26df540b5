use Rattle.std.proofs.Common.{◌≡◌, ◌∙◌, ◌≤◌, ◌<◌, ◌-◌, ap, arith, length, not, refl, sym, take}
use Rattle.insight_model.specs.Sight.{Shown, is_waiting_at, writes_shown}
use Rattle.insight_model.specs.Hole.{is_withheld, past_decode}
use Rattle.cycle_watch.specs.Shown.{shown_in}
use Rattle.cycle_watch.proofs.Withheld.{withheld_last, withheld_other, withheld_writer}
use Rattle.cycle_watch.proofs.holes.is_withheld.Goals as goal

pub returns-then-is_writer : goal.returns-then-is_writer
returns-then-is_writer g c =
    let w = (g.S.Watched.sight c.args.side.now).window in
    let n = c.loop-place.place in
    let x : Shown = shown_in c.shown-shown.result in
    record {
      withheld =
          ap not c.gives_value.ensures.gives
          ∙ sym (c.loop-place.invariant ∙ withheld_last w n x c.args.register (omega arith) c.shown-shown.ensures.shown
          ∙ withheld_writer (is_waiting_at x.progress) (writes_shown c.args.register x) x (take (n - 1) w) c.args.register refl (sym c.is_writer.ensures.writer ∙ c.if-is_writer.true));
    }

pub loop-place-preserved : goal.loop-place-preserved
loop-place-preserved g c =
    let w = (g.S.Watched.sight c.args.side.now).window in
    let n = c.loop-place.place in
    let x : Shown = shown_in c.shown-shown.result in
    c.loop-place.invariant ∙ withheld_last w n x c.args.register (omega arith) c.shown-shown.ensures.shown
    ∙ withheld_other (is_waiting_at x.progress) (writes_shown c.args.register x) x (take (n - 1) w) c.args.register refl (sym c.is_writer.ensures.writer ∙ c.if-is_writer.false)
