-- What is known of the instructions under way, as the code has it.
use Rattle.std.specs.Prelude.{◌≡◌, ℕ, ◌^◌, ◌≤◌, ◌<◌, ◌==◌, if◌then◌else◌, ◌++◌, Option, option_map, option_to_list, List, length, map, replicate, slice_set, take, vec_capacity}
use Rattle.mono_model.specs.declared.params.Params.{Params}
use Rattle.insight_model.specs.declared.pipeline.Pipeline.{Pipeline}
use Rattle.insight_model.specs.declared.pipeline.Pipeline.TheVariants.{Inorder}
use Rattle.insight_model.specs.declared.cycle_cause.CycleCause.{CycleCause}
use Rattle.insight_model.specs.declared.cycle_cause.CycleCause.TheVariants.{Commit, Dcache, Replay}
use Rattle.insight_model.specs.Cause.{Charge, charge}
use Rattle.insight_model.specs.Sight.{Shown, Sight, access_shown, class_shown, is_done_at}
use Rattle.insight_model.specs.Facts.{Facts, Kept, kept_count, window_before}
use Rattle.insight_model.specs.Accesses.{load_access, miss_after}
use Rattle.insight_model.specs.Origin.{first_origin, new_origins, newest, room_origin}
use Rattle.insight_model.specs.Hole.{Holes, class_cause}
use Rattle.insight_model.specs.Head.{Known, is_missing_at, is_young}
use Rattle.cycle_watch.specs.declared.facts.Facts.{Facts as FactsInCode}
use Rattle.cycle_watch.specs.declared.heads.Heads.{Heads}
use Rattle.cycle_watch.specs.declared.holes.Holes.{Holes as HolesInCode}
use Rattle.cycle_watch.specs.declared.last.LastSight.{LastSight}
use Rattle.cycle_watch.specs.declared.mark.Mark.{Mark}
use Rattle.cycle_watch.specs.Shown.{shown_in}
use Rattle.cycle_watch.specs.Facts.{Follows, HasRoom, IsTold, Keeps, Notes, access_in, charge_in, window_in}

abbrev pub misses_in : List Mark → List ℕ
misses_in marks = map (λ mark. mark.miss) marks

abbrev pub origins_in : List Mark → List Charge
origins_in marks = map (λ mark. charge_in mark.origin) marks

abbrev pub holes_in : HolesInCode → Holes
holes_in holes = record {
  decode = charge_in holes.decode;
  execute = charge_in holes.execute;
  memory = charge_in holes.memory;
  write = charge_in holes.write;
}

-- which machine is watched
pub record Watches (kind : Pipeline) (p : Params) (last : LastSight) : Type 0 where
  pub pipeline : last.pipeline ≡ kind
  pub params : last.params ≡ p

-- an instruction before a cycle, as it was seen last, and after it
abbrev pub kept_of : Mark → Shown → Kept
kept_of mark is = record { before = shown_in mark.shown; after = is }

-- The instruction at a place has advanced: it is remembered as it is seen now, with its miss, and its load is noted.
pub record HasAdvanced (before : LastSight) (cycle place : ℕ) (mark : Mark) (is : Shown) (after : LastSight) : Type 0 where
  pub now : Mark
  pub marks : after.marks ≡ record before.marks { items = slice_set before.marks.items place now }
  pub seen : shown_in now.shown ≡ is
  pub miss : now.miss ≡ miss_after before.pipeline before.params cycle (kept_of mark is) mark.miss
  pub same : now ≡ record mark { shown = now.shown; miss = now.miss }
  pub loads : map access_in after.loads.items
      ≡ map access_in before.loads.items ++ option_to_list (load_access before.pipeline (kept_of mark is))
  pub rest : after ≡ record before { marks = after.marks; loads = after.loads }
  pub room : vec_capacity before.loads ≤ vec_capacity after.loads

-- A cycle was passed but for those that were appended: of the others it is kept how far they have come, and what their
-- misses add.
pub record HasPassed (before after : Sight) (last : LastSight) : Type 0 where
  pub cycle : last.cycle ≡ after.cycle
  pub noted : Notes after last
  pub window : window_in last.marks.items ≡ take (kept_count before after) after.window
  pub room : HasRoom last

-- what is known; the holes in order alone
pub record KnowsAs (known : Known) (heads : Heads) : Type 0 where
  pub misses : misses_in heads.last.marks.items ≡ known.misses
  pub origins : origins_in heads.last.marks.items ≡ known.origins
  pub refill : option_map charge_in heads.refill ≡ known.refill
  pub holes : heads.last.pipeline ≡ Inorder → holes_in heads.holes ≡ known.holes

-- the observer stands where this is seen, and knows this
pub record StandsAt (kind : Pipeline) (p : Params) (s : Sight) (known : Known) (heads : Heads) : Type 0 where
  pub watches : Watches kind p heads.last
  pub keeps : Keeps s heads.last
  pub knows : KnowsAs known heads

-- it may pass the cycle that led to this sight, as it is told
pub record MayPass (heads : Heads) (after : Sight) (f : FactsInCode) : Type 0 where
  pub pipeline : Pipeline
  pub params : Params
  pub before : Sight
  pub known : Known
  pub stands : StandsAt pipeline params before known heads
  pub follows : Follows before after
  pub told : IsTold before after f
  pub small : before.cycle < 2 ^ 48

-- what an oldest instruction waits for that isn't done, by what is seen of it before the cycle and at the latest
abbrev pub unit_cause_by : ℕ → ℕ → Shown → Shown → CycleCause
unit_cause_by cycle miss oldest seen =
    if is_missing_at cycle miss oldest.progress then Dcache else class_cause (class_shown oldest) (access_shown seen)

abbrev pub undone_head_by : Params → ℕ → Mark → Shown → Charge
undone_head_by p cycle mark seen =
    if is_young p cycle (shown_in mark.shown) then charge_in mark.origin
    else charge (unit_cause_by cycle mark.miss (shown_in mark.shown) seen) mark.shown.addr

abbrev pub oldest_head_by : Params → FactsInCode → Mark → Shown → Charge
oldest_head_by p f mark seen =
    if is_done_at (shown_in mark.shown).progress then charge Commit mark.shown.addr
    else (if f.replayed then charge Replay mark.shown.addr else undone_head_by p f.cycle mark seen)

-- what a cycle did, as far as an origin needs it
pub record TellsOrigin (f : FactsInCode) (told : Facts) : Type 0 where
  pub before : f.before ≡ length (window_before told)
  pub fetched : f.fetched ≡ told.fetched
  pub paid : f.paid ≡ told.paid
  pub flush : option_map charge_in f.flush ≡ told.flush

-- the origin of the record at a place among those that were appended
abbrev pub origin_of : Params → Facts → Option Charge → ℕ → Shown → Charge
origin_of p f flush place shown = if place == 0 then first_origin p f flush shown else room_origin p f shown

-- These were appended, with the origins that they have by what the cycle did.
pub record HasAppended (before : Heads) (f : Facts) (shown : List Shown) (after : Heads) : Type 0 where
  pub window : window_in after.last.marks.items ≡ window_in before.last.marks.items ++ shown
  pub misses : misses_in after.last.marks.items ≡ misses_in before.last.marks.items ++ replicate (length shown) 0
  pub origins : origins_in after.last.marks.items
      ≡ origins_in before.last.marks.items ++ new_origins before.last.params f (newest f (option_map charge_in before.refill)) shown
  pub rest : after ≡ record before { last = record before.last { marks = record before.last.marks { items = after.last.marks.items } } }
