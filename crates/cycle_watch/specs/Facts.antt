-- What was seen last, and what a cycle did since, as the code has them.
use Rattle.std.specs.Prelude.{◌≡◌, ℕ, ◌+◌, ◌≤◌, ◌<◌, ◌^◌, false, is_some, nat_lt, Option, Some, None, option_map, List, [], ◌∷◌, length, map, take, drop, slice_get, vec_capacity}
use Rattle.std.specs.Option.{option_map_or}
use Rattle.timing_core.specs.Counts.{counts_in}
use Rattle.insight_model.specs.declared.cycle_cause.CycleCause.TheVariants as cause
use Rattle.insight_model.specs.Cause.{Charge, charge}
use Rattle.insight_model.specs.Sight.{Shown, Sight, is_fence_i_shown}
pub use Rattle.insight_model.specs.Following.{Follows, IsStill}
use Rattle.insight_model.specs.Stack.{waiting_in}
use Rattle.insight_model.specs.Facts.{Facts, addr_or, appended_count, charge_where, facts as cycle_facts, kept_count, left_count, or_else, pairs}
use Rattle.insight_model.specs.Accesses.{CacheAccess, loads as loads_from}
use Rattle.cycle_watch.specs.declared.charge.Charge.{Charge as ChargeInCode}
use Rattle.cycle_watch.specs.declared.facts.Facts.{Facts as FactsInCode}
use Rattle.cycle_watch.specs.declared.last.LastSight.{LastSight}
use Rattle.cycle_watch.specs.declared.last.LoadMade.{LoadMade}
use Rattle.cycle_watch.specs.declared.mark.Mark.{Mark}
use Rattle.cycle_watch.specs.Shown.{shown_in}

abbrev pub charge_in : ChargeInCode → Charge
charge_in c = charge c.cause c.addr

-- the instructions under way as they were seen last
abbrev pub window_in : List Mark → List Shown
window_in marks = map (λ mark. shown_in mark.shown) marks

-- all that is seen but the cycle and the instructions under way; how the run stood then isn't kept
pub record Notes (s : Sight) (last : LastSight) : Type 0 where
  pub retired : last.retired ≡ s.retired
  pub counts : counts_in last.counts ≡ s.counts
  pub resume : last.resume ≡ s.resume
  pub missing : last.missing ≡ s.missing
  pub waiting : last.waiting ≡ waiting_in s.window

-- room for as many instructions as a window has
pub record HasRoom (last : LastSight) : Type 0 where
  pub marks : last.marks.capacity ≡ 256
  pub loads : 256 ≤ vec_capacity last.loads

-- the sight was seen last
pub record Keeps (s : Sight) (last : LastSight) : Type 0 where
  pub cycle : last.cycle ≡ s.cycle
  pub noted : Notes s last
  pub window : window_in last.marks.items ≡ s.window
  pub room : HasRoom last

-- and this one may follow the one that was seen last
pub record IsFollowed (last : LastSight) (after : Sight) : Type 0 where
  pub before : Sight
  pub keeps : Keeps before last
  pub follows : Follows before after

-- What flushed, of the last that left and of those that stayed.
abbrev pub leaving_flush : Sight → Sight → Option Shown → Option Charge
leaving_flush before after leaver =
    or_else (charge_where (nat_lt before.counts.exceptions after.counts.exceptions) (charge cause.Trap (addr_or 0 leaver)))
    (charge_where (option_map_or is_fence_i_shown leaver false) (charge cause.Fence (addr_or 0 leaver)))

abbrev pub staying_flush : Sight → Sight → List Shown → Option Shown → Option Charge
staying_flush before after others wrong =
    or_else (charge_where (nat_lt before.counts.replays after.counts.replays) (charge cause.Replay (addr_or 0 (slice_get others 0))))
    (charge_where (is_some wrong) (charge cause.Mispredict (addr_or 0 wrong)))

-- a load that accessed the data cache
abbrev pub access_in : LoadMade → CacheAccess
access_in made = record { by = made.by; what = loads_from made.addr }

-- the load of the instruction at an address, if it made one
abbrev pub loads_made : ℕ → Option ℕ → List CacheAccess
loads_made by None = []
loads_made by (Some addr) = record { by = by; what = loads_from addr } ∷ []

-- The machine may be seen some cycles later, if nothing happens in those between: what is seen is the same then, but for
-- the cycle, and that the run may have ended by its limit.
abbrev pub at_cycle : ℕ → Sight → Sight
at_cycle cycle s = record s { cycle = cycle }

abbrev pub idle : Sight → Sight
idle s = at_cycle (s.cycle + 1) s

-- what the code tells of a cycle, with the windows before and after it
abbrev pub facts_in : List Shown → List Shown → FactsInCode → Facts
facts_in before after f = record {
  cycle = f.cycle;
  number = f.number;
  fetched = f.fetched;
  left = take f.left before;
  trapped = f.trapped;
  kept = pairs (drop f.left before) (take f.kept after);
  squashed = drop f.kept (drop f.left before);
  appended = drop f.kept after;
  mispredicted = f.mispredicted;
  interrupted = f.interrupted;
  replayed = f.replayed;
  flush = option_map charge_in f.flush;
  fetch_at = f.fetch_at;
  paid = f.paid;
  missed = f.missed;
  waited = f.waited;
  stopped = f.stopped;
}

-- and how many instructions there were
pub record IsTold (before after : Sight) (f : FactsInCode) : Type 0 where
  pub facts : facts_in before.window after.window f ≡ cycle_facts before after
  pub all : f.before ≡ length before.window
  pub left : f.left ≡ left_count before after
  pub kept : f.kept ≡ kept_count before after
  pub appended : f.appended ≡ appended_count before after

-- it may pass the cycle that led to this sight, as it is told
pub record MayPassTo (last : LastSight) (after : Sight) (f : FactsInCode) : Type 0 where
  pub before : Sight
  pub keeps : Keeps before last
  pub follows : Follows before after
  pub told : IsTold before after f
  pub small : before.cycle < 2 ^ 48
