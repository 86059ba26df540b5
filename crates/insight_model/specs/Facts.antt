-- What a cycle did, told by the states before and after it
-- (Hennessy and Patterson, Computer Architecture, section 3.6, commit, speculation and its recovery).
use Rattle.std.specs.Prelude.{ℕ, ◌+◌, ◌-◌, ◌==◌, ◌&&◌, not, nat_lt, nat_le, if◌then◌else◌, Bool, true, false, is_none, is_some, Option, Some, None, unwrap_or, List, [], ◌∷◌, ◌++◌, length, take, drop, map, slice_get, option_and_then, position}
use Rattle.std.specs.List.{last_or}
use Rattle.std.specs.Option.{option_map_or}
use Rattle.mono_model.specs.declared.final_state.End.{End}
use Rattle.mono_model.specs.declared.final_state.End.TheVariants.{Pass, Fail, Limit, OutputFull, Running}
use Rattle.insight_model.specs.declared.cycle_cause.CycleCause.TheVariants as cause
use Rattle.insight_model.specs.Cause.{Charge, charge}
use Rattle.insight_model.specs.Sight.{Outcome, Progress, waiting, executing, accessing, done, Shown, Sight, is_fence_i_shown}

-- A record that stayed in the window, before and after the cycle.
pub record Kept : Type 0 where
  pub before : Shown
  pub after : Shown

pub record Facts : Type 0 where
  pub cycle : ℕ
  -- how many left and how many were appended before the cycle; the first of these is the number of the oldest record
  pub number : ℕ
  pub fetched : ℕ
  -- the window before the cycle: those that left, in this order, of which the last may have trapped; those that stayed;
  -- those that were squashed
  pub left : List Shown
  pub trapped : Bool
  pub kept : List Kept
  pub squashed : List Shown
  -- those that were appended
  pub appended : List Shown
  -- the place of the mispredicted record among those that stayed and were squashed
  pub mispredicted : Option ℕ
  pub interrupted : Bool
  pub replayed : Bool
  -- what flushed, and what that is charged to
  pub flush : Option Charge
  -- the address at which fetch stands or has begun
  pub fetch_at : ℕ
  -- the first record appended was waited for
  pub paid : Bool
  -- the address at which a miss began
  pub missed : Option ℕ
  -- fetch waited for a miss that began before
  pub waited : Bool
  -- the run ended before fetch
  pub stopped : Bool

-- How many left, were appended, and stayed.
abbrev pub departed : Sight → ℕ
departed s = s.retired + s.counts.exceptions

abbrev pub left_count : Sight → Sight → ℕ
left_count before after = departed after - departed before

abbrev pub appended_count : Sight → Sight → ℕ
appended_count before after = after.counts.fetched - before.counts.fetched

abbrev pub kept_count : Sight → Sight → ℕ
kept_count before after = length after.window - appended_count before after

-- the records of both windows in pairs, from the first of each on
abbrev pub pairs : List Shown → List Shown → List Kept
pairs [] after = []
pairs (b ∷ before) [] = []
pairs (b ∷ before) (a ∷ after) = record { before = b; after = a } ∷ pairs before after

-- A record was mispredicted: its latency is over, and it goes elsewhere than predicted; one with a cause never counts.
abbrev pub goes_elsewhere : ℕ → Outcome → Bool
goes_elsewhere predicted o = is_none o.cause && not (o.next == predicted)

abbrev pub is_redirecting_at : ℕ → ℕ → Progress → Bool
is_redirecting_at cycle predicted waiting = false
is_redirecting_at cycle predicted (executing e o) = nat_le e cycle && goes_elsewhere predicted o
is_redirecting_at cycle predicted (accessing e o) = false
is_redirecting_at cycle predicted (done o) = false

abbrev pub is_redirecting : ℕ → Shown → Bool
is_redirecting cycle shown = is_redirecting_at cycle shown.predicted shown.progress

abbrev pub addr_or : ℕ → Option Shown → ℕ
addr_or other shown = option_map_or (λ rec. rec.addr) shown other

-- the first that applies, as in the order of the phases
abbrev pub or_else : Option Charge → Option Charge → Option Charge
or_else None other = other
or_else (Some flush) other = Some flush

abbrev pub charge_where : Bool → Charge → Option Charge
charge_where true flush = Some flush
charge_where false flush = None

abbrev pub has_stopped : End → Bool
has_stopped Pass = true
has_stopped (Fail code) = true
has_stopped OutputFull = true
has_stopped Limit = false
has_stopped Running = false

abbrev pub fetch_at_of : Sight → List Shown → ℕ
fetch_at_of after appended = addr_or (unwrap_or after.missing 0) (slice_get appended 0)

-- An interrupt is charged to the handler, a trap and a FENCE.I to themselves, a replay to the time read, and a
-- misprediction to what was mispredicted.
abbrev pub flush_of : Sight → Sight → ℕ → Option Shown → List Shown → Option Shown → Option Charge
flush_of before after fetch_at leaver others wrong =
    or_else (charge_where (nat_lt before.counts.interrupts after.counts.interrupts) (charge cause.Interrupt fetch_at))
    (or_else (charge_where (nat_lt before.counts.exceptions after.counts.exceptions) (charge cause.Trap (addr_or 0 leaver)))
    (or_else (charge_where (option_map_or is_fence_i_shown leaver false) (charge cause.Fence (addr_or 0 leaver)))
    (or_else (charge_where (nat_lt before.counts.replays after.counts.replays) (charge cause.Replay (addr_or 0 (slice_get others 0))))
    (charge_where (is_some wrong) (charge cause.Mispredict (addr_or 0 wrong))))))

abbrev pub wrong_place : Sight → Sight → List Shown → Option ℕ
wrong_place before after others =
    if nat_lt before.counts.mispredicted after.counts.mispredicted then position (is_redirecting before.cycle) others else None

-- The miss of the record that is fetched next was over, unless a flush dropped it. One that is shown after the cycle began
-- in it, unless nothing was appended and it was there before.
abbrev pub missed_of : Sight → List Shown → Bool → Option ℕ
missed_of after [] true = None
missed_of after [] false = after.missing
missed_of after (rec ∷ rest) paid = after.missing

abbrev pub facts_by : Sight → Sight → ℕ → ℕ → Facts
facts_by before after left_length kept_length =
    let left = take left_length before.window in
    let others = drop left_length before.window in
    let appended = drop kept_length after.window in
    let wrong = wrong_place before after others in
    let fetch_at = fetch_at_of after appended in
    let flush = flush_of before after fetch_at (last_or None left) others (option_and_then (slice_get others) wrong) in
    let paid = is_some before.missing && is_none flush in
    record {
      cycle = before.cycle;
      number = departed before;
      fetched = before.counts.fetched;
      left = left;
      trapped = nat_lt before.counts.exceptions after.counts.exceptions;
      kept = pairs others (take kept_length after.window);
      squashed = drop kept_length others;
      appended = appended;
      mispredicted = wrong;
      interrupted = nat_lt before.counts.interrupts after.counts.interrupts;
      replayed = nat_lt before.counts.replays after.counts.replays;
      flush = flush;
      fetch_at = fetch_at;
      paid = paid;
      missed = missed_of after appended paid;
      waited = is_none flush && nat_lt before.cycle before.resume;
      stopped = has_stopped after.end;
    }

-- what a cycle did, by what is seen before and after it
unfoldable pub facts : Sight → Sight → Facts
facts before after = facts_by before after (left_count before after) (kept_count before after)

-- the cycles of a run
unfoldable pub facts_between : List Sight → List Facts
facts_between [] = []
facts_between (last ∷ []) = []
facts_between (before ∷ after ∷ rest) = facts before after ∷ facts_between (after ∷ rest)

-- the windows before and after the cycle
abbrev pub window_before : Facts → List Shown
window_before f = f.left ++ map (λ k. k.before) f.kept ++ f.squashed

abbrev pub window_after : Facts → List Shown
window_after f = map (λ k. k.after) f.kept ++ f.appended
