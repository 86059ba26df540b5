-- How what is seen as a cycle begins follows what was seen a cycle before.
use Rattle.std.specs.Prelude.{◌≡◌, ℕ, ◌+◌, ◌≤◌, ◌<◌, ◌^◌, Some, length, slice_get}
use Rattle.insight_model.specs.Sight.{Outcome, Shown, Sight, outcome_shown}
use Rattle.insight_model.specs.Facts.{appended_count, departed, kept_count, left_count}

-- It is the same instruction, seen later: what it came to is seen still.
pub record IsStill (before after : Shown) : Type 0 where
  pub addr : after.addr ≡ before.addr
  pub word : after.word ≡ before.word
  pub predicted : after.predicted ≡ before.predicted
  pub since : after.since ≡ before.since
  pub outcome : (o : Outcome) → outcome_shown before ≡ Some o → outcome_shown after ≡ Some o

-- One sight may follow another: nothing that is counted falls, what was appended is in the window, no more left and
-- stayed than there were, those that stayed are the same, and at most eight left. All numbers are within bounds.
pub record Follows (before after : Sight) : Type 0 where
  pub retired : before.retired ≤ after.retired
  pub exceptions : before.counts.exceptions ≤ after.counts.exceptions
  pub fetched : before.counts.fetched ≤ after.counts.fetched
  pub appended : appended_count before after ≤ length after.window
  pub kept : left_count before after + kept_count before after ≤ length before.window
  pub still : (place : ℕ) (was is : Shown) → place < kept_count before after
      → slice_get before.window (left_count before after + place) ≡ Some was → slice_get after.window place ≡ Some is → IsStill was is
  pub leave : left_count before after ≤ 8
  pub small : departed after < 2 ^ 63
  pub within : length after.window ≤ 256
