use Rattle.std.proofs.Common.{◌≡◌, ◌∙◌, ◌-◌, ◌<◌, false, None, Option, Some, ap, arith, drop, length, sym}
use Rattle.std.specs.List.{last_or}
use Rattle.std.specs.Option.{option_map_or}
use Rattle.std.specs.Prelude.{slice_get}
use Rattle.insight_model.specs.Fetch.{is_predicted_elsewhere}
use Rattle.insight_model.specs.Sight.{Shown}
use Rattle.cycle_watch.specs.Shown.{shown_in}
use Rattle.cycle_watch.proofs.Windows.{last_dropped}
use Rattle.cycle_watch.proofs.heads.is_last_elsewhere.Goals as goal

pub returns-then-facts-gt0 : goal.returns-then-facts-gt0
returns-then-facts-gt0 g c =
    let w = (g.S.Watched.sight c.args.side.now).window in
    let first = length w - c.args.facts.now.appended in
    let fit : first < length w = omega (arith, c.if-facts-gt0.true, c.requires.appended) in
    let place : c.len.result - 1 ≡ length w - 1 = omega (arith, c.len.ensures.count) in
    let last : last_or None (drop first w) ≡ Some (shown_in c.shown.result) =
    last_dropped None w first fit ∙ ap (slice_get w) (sym place) ∙ c.shown.ensures.shown in
    record {
      elsewhere = c.is_predicted_elsewhere.ensures.elsewhere ∙ ap (λ (o : Option Shown). option_map_or is_predicted_elsewhere o false) (sym last);
    }
