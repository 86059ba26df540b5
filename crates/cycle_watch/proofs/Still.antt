-- An instruction that is seen still, at the same place, is seen the same.
use Rattle.std.proofs.Common.{◌≡◌, Some, refl, sym}
use Rattle.insight_model.specs.Sight.{Outcome, Progress, Shown, waiting, executing, accessing, done, outcome_in}
use Rattle.cycle_watch.specs.declared.shown.Progress.{Progress as ProgressInCode}
use Rattle.cycle_watch.specs.declared.shown.Progress.TheVariants as code
use Rattle.cycle_watch.specs.Shown.{place_of, progress_in, progress_of}
use Rattle.cycle_watch.specs.Facts.{IsStill}

same_progress : (p q : Progress) → place_of p ≡ place_of q → ((o : Outcome) → outcome_in p ≡ Some o → outcome_in q ≡ Some o) → p ≡ q
same_progress waiting waiting same told = refl
same_progress (executing e o) (executing f q) same told = let there : Some q ≡ Some o = told o refl in cc
same_progress (accessing e o) (accessing f q) same told = let there : Some q ≡ Some o = told o refl in cc
same_progress (done o) (done q) same told = let there : Some q ≡ Some o = told o refl in cc
same_progress p q same told = cc

pub still_seen : (was is : Shown) → IsStill was is → progress_of was ≡ progress_of is → was ≡ is
still_seen was is still same = λ i. record {
  addr = sym still.addr i;
  word = sym still.word i;
  predicted = sym still.predicted i;
  since = sym still.since i;
  progress = same_progress was.progress is.progress same still.outcome i;
}

-- how far it has come is known without what it came to
pub place_seen : (q : ProgressInCode) (o : Outcome) → place_of (progress_in q o) ≡ q
place_seen code.Waiting o = refl
place_seen (code.Executing e) o = refl
place_seen (code.Accessing e) o = refl
place_seen code.Done o = refl
