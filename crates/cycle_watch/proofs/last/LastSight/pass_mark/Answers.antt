use Rattle.std.proofs.Common.{◌≡◌, ◌∙◌, Some, option_map, ap, rules, subst, sym}
use Rattle.std.specs.Prelude.{slice_get}
use Rattle.std.proofs.lemmas.Option.{same_Some}
use Rattle.insight_model.specs.Sight.{Shown}
use Rattle.cycle_watch.specs.declared.mark.Mark.{Mark}
use Rattle.cycle_watch.specs.Shown.{outcome_in, progress_of, shown_in}
use Rattle.cycle_watch.proofs.Advanced.{stands_still}
use Rattle.cycle_watch.proofs.Still.{place_seen, still_seen}
use Rattle.cycle_watch.proofs.last.LastSight.pass_mark.Goals as goal

pub returns-else-ne : goal.returns-else-ne
returns-else-ne g c = record {
  marks = λ mark is here there.
      let held = c.mark.result.now in
      let own : held ≡ mark = same_Some held mark (sym c.mark.ensures.mark ∙ here) in
      let equal : held.shown.progress ≡ c.progress.result = search rules in
      let now : progress_of is ≡ c.progress.result = same_Some (progress_of is) c.progress.result (sym (ap (option_map progress_of) there) ∙ c.progress.ensures.progress) in
      let was : progress_of (shown_in mark.shown) ≡ mark.shown.progress = place_seen mark.shown.progress (outcome_in mark.shown) in
      let same : progress_of (shown_in mark.shown) ≡ progress_of is = was ∙ ap (λ (m : Mark). m.shown.progress) (sym own) ∙ equal ∙ sym now in
      stands_still c.args.self.now c.args.cycle c.args.place mark is here (still_seen (shown_in mark.shown) is (c.requires.still mark is here there) same);
}
