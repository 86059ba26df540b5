-- The head of a cycle: the one record, or address, that the cycle is charged to, and the cause. Each cycle has one
-- (Gottschall and others, TIP: Time-Proportional Instruction Profiling, MICRO 2021: the oldest instruction, each cycle).
use Rattle.std.specs.Prelude.{ℕ, ◌+◌, ◌-◌, ◌==◌, nat_lt, if◌then◌else◌, Bool, false, Option, List, [], ◌∷◌, slice_get, slice_index, slice_index_or}
use Rattle.std.specs.Option.{option_map_or}
use Rattle.mono_model.specs.declared.params.Params.{Params}
use Rattle.insight_model.specs.declared.pipeline.Pipeline.{Pipeline}
use Rattle.insight_model.specs.declared.pipeline.Pipeline.TheVariants as pipeline
use Rattle.insight_model.specs.declared.cycle_cause.CycleCause.{CycleCause}
use Rattle.insight_model.specs.declared.cycle_cause.CycleCause.TheVariants.{Commit, Dcache, Icache, Interrupt, Replay, Start}
use Rattle.insight_model.specs.Cause.{Charge, charge}
use Rattle.insight_model.specs.Sight.{Progress, executing, Shown, class_shown, access_shown, is_done_at}
use Rattle.insight_model.specs.Facts.{Facts, window_before}
use Rattle.insight_model.specs.Hole.{Holes, class_cause}

-- What is known of the window's records as a cycle begins: the misses and the origins, and in order the holes.
pub record Known : Type 0 where
  pub misses : List ℕ
  pub origins : List Charge
  -- the newest flush, if nothing was appended after it yet
  pub refill : Option Charge
  pub holes : Holes

-- the oldest record would be done by now, had it hit
abbrev pub is_missing_at : ℕ → ℕ → Progress → Bool
is_missing_at cycle miss (executing e o) = nat_lt (e - miss) cycle
is_missing_at cycle miss other = false

-- its access is seen after the cycle at the latest
abbrev pub latest : Facts → Shown → Shown
latest f oldest = option_map_or (λ k. k.after) (slice_get f.kept 0) oldest

abbrev pub unit_cause : Facts → ℕ → Shown → CycleCause
unit_cause f miss oldest =
    if is_missing_at f.cycle miss oldest.progress then Dcache else class_cause (class_shown oldest) (access_shown (latest f oldest))

-- An oldest record that can't be done yet, however fast it is, was fetched late: that is charged to its origin.
abbrev pub is_young : Params → ℕ → Shown → Bool
is_young p cycle oldest = nat_lt cycle (oldest.since + p.core_front + 2)

abbrev pub undone_head : Params → Facts → Known → Shown → Charge
undone_head p f known oldest =
    if is_young p f.cycle oldest
    then slice_index_or known.origins 0 (charge Start oldest.addr)
    else charge (unit_cause f (slice_index known.misses 0) oldest) oldest.addr

abbrev pub oldest_head : Params → Facts → Known → Shown → Charge
oldest_head p f known oldest =
    if is_done_at oldest.progress then charge Commit oldest.addr
    else (if f.replayed then charge Replay oldest.addr else undone_head p f known oldest)

-- in a window
abbrev pub window_head : Params → Facts → Known → List Shown → Charge
window_head p f known [] = charge (if f.cycle == 0 then Start else Icache) f.fetch_at
window_head p f known (oldest ∷ rest) = oldest_head p f known oldest

-- in order
abbrev pub inorder_head : Known → List Shown → Charge
inorder_head known [] = known.holes.write
inorder_head known (oldest ∷ rest) = if is_done_at oldest.progress then charge Commit oldest.addr else known.holes.write

abbrev pub uninterrupted_head : Pipeline → Params → Facts → Known → Charge
uninterrupted_head pipeline.Window p f known = window_head p f known (window_before f)
uninterrupted_head pipeline.Inorder p f known = inorder_head known (window_before f)

unfoldable pub head : Pipeline → Params → Facts → Known → Charge
head kind p f known = if f.interrupted then charge Interrupt f.fetch_at else uninterrupted_head kind p f known
