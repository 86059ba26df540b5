-- What is seen of an instruction, as the code has it.
use Rattle.std.specs.Prelude.{ℕ, Option, Some, None}
use Rattle.insight_model.specs.Sight.{Outcome, next_seen, Progress, Shown, waiting, executing, accessing, done}
use Rattle.cycle_watch.specs.declared.shown.Progress.{Progress as ProgressInCode}
use Rattle.cycle_watch.specs.declared.shown.Progress.TheVariants as progress
use Rattle.cycle_watch.specs.declared.shown.Shown.{Shown as ShownInCode}

abbrev pub progress_in : ProgressInCode → Outcome → Progress
progress_in progress.Waiting o = waiting
progress_in (progress.Executing e) o = executing e o
progress_in (progress.Accessing e) o = accessing e o
progress_in progress.Done o = done o

abbrev pub outcome_in : ShownInCode → Outcome
outcome_in shown = record { next = next_seen shown.cause shown.next; access = shown.access; cause = shown.cause }

-- what it comes to is seen once it has begun
abbrev pub shown_in : ShownInCode → Shown
shown_in shown = record {
  addr = shown.addr;
  word = shown.word;
  predicted = shown.predicted;
  since = shown.since;
  progress = progress_in shown.progress (outcome_in shown);
}

-- how far it has come, without what it came to
abbrev pub place_of : Progress → ProgressInCode
place_of waiting = progress.Waiting
place_of (executing e o) = progress.Executing e
place_of (accessing e o) = progress.Accessing e
place_of (done o) = progress.Done

abbrev pub progress_of : Shown → ProgressInCode
progress_of shown = place_of shown.progress
