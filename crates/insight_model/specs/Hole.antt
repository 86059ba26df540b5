-- In order: why a stage is empty. A bubble keeps the cause that made it, until it has gone through Write
-- (Hennessy and Patterson, Computer Architecture, appendix C.2, stalls).
use Rattle.std.specs.Prelude.{ℕ, ◌-◌, ◌||◌, not, nat_le, if◌then◌else◌, Bool, true, false, Option, Some, None, List, [], ◌∷◌, length, drop, filter, reverse, zip}
use Rattle.std.specs.List.{list_any}
use Rattle.std.specs.Option.{option_map_or}
use Rattle.fsim_base.specs.declared.access.Access.{Access}
use Rattle.fsim_base.specs.declared.instruction.Class.{Class}
use Rattle.fsim_base.specs.declared.instruction.Class.TheVariants as class
use Rattle.insight_model.specs.declared.cycle_cause.CycleCause.{CycleCause}
use Rattle.insight_model.specs.declared.cycle_cause.CycleCause.TheVariants as cause
use Rattle.insight_model.specs.Cause.{Charge, charge}
use Rattle.insight_model.specs.Sight.{Progress, Shown, class_shown, first_source_shown, second_source_shown, writes_shown, access_shown, is_device_load_in, gives_value, is_waiting_at, is_executing_at, is_accessing_at, is_done_at}
use Rattle.insight_model.specs.Facts.{Facts, Kept, window_after}
use Rattle.insight_model.specs.Accesses.{until_at}

-- The cause of a class; a load of a device has its own.
abbrev pub class_cause : Class → Access → CycleCause
class_cause class.Alu made = cause.Alu
class_cause class.Mul made = cause.Mul
class_cause class.Div made = cause.Div
class_cause class.Load made = if is_device_load_in made then cause.Device else cause.Load
class_cause class.Store made = cause.Store
class_cause class.Serial made = cause.Serial

-- A source is withheld if the youngest older record that writes it gives no value; the older ones stand youngest first.
abbrev pub is_withheld : List Shown → ℕ → Bool
is_withheld [] register = false
is_withheld (rec ∷ older) register = if writes_shown register rec then not (gives_value rec) else is_withheld older register

abbrev pub is_source_withheld : List Shown → Option ℕ → Bool
is_source_withheld older source = option_map_or (is_withheld older) source false

-- Why each stage is empty, if it is.
pub record Holes : Type 0 where
  pub decode : Charge
  pub execute : Charge
  pub memory : Charge
  pub write : Charge

unfoldable pub holes_start : ℕ → Holes
holes_start entry =
    let start = charge cause.Start entry in record { decode = start; execute = start; memory = start; write = start }

-- A flush empties stages: an interrupt all four, a trap or FENCE.I those before Write, what else flushes Decode.
abbrev pub flushed_by : CycleCause → Charge → Holes → Holes
flushed_by cause.Interrupt flush h = record { decode = flush; execute = flush; memory = flush; write = flush }
flushed_by cause.Trap flush h = record h { decode = flush; execute = flush; memory = flush }
flushed_by cause.Fence flush h = record h { decode = flush; execute = flush; memory = flush }
flushed_by other flush h = record h { decode = flush }

abbrev pub flushed_holes : Option Charge → Holes → Holes
flushed_holes None h = h
flushed_holes (Some flush) h = flushed_by flush.cause flush h

-- The record that stays in a stage, with its miss, if one does; and whether the stage has one after the cycle.
abbrev pub stays_in : (Progress → Bool) → List (Kept × ℕ) → Option (Kept × ℕ)
stays_in stage [] = None
stays_in stage (k ∷ rest) = if stage k.0.before.progress then (if stage k.0.after.progress then Some k else None) else stays_in stage rest

abbrev pub has_in : (Progress → Bool) → List Shown → Bool
has_in stage shown = list_any (λ rec. stage rec.progress) shown

abbrev pub own_cause : Shown → CycleCause
own_cause rec = class_cause (class_shown rec) (access_shown rec)

-- What a record holds up by staying in Memory: by its miss, as long as it would be gone by now without it.
abbrev pub memory_stall : ℕ → Kept × ℕ → Charge
memory_stall cycle k =
    charge (if nat_le (until_at k.0.before.progress - cycle) k.1 then cause.Dcache else own_cause k.0.after) k.0.after.addr

abbrev pub execute_stall : Kept × ℕ → Charge
execute_stall k = charge (own_cause k.0.after) k.0.after.addr

-- in Decode: for a source without a value, else to be the oldest
abbrev pub waits_to_be_oldest : Class → CycleCause
waits_to_be_oldest class.Serial = cause.Serial
waits_to_be_oldest other = cause.Device

abbrev pub decode_cause : List Shown → Shown → CycleCause
decode_cause older rec =
    if is_source_withheld older (first_source_shown rec) || is_source_withheld older (second_source_shown rec)
    then cause.Operand
    else waits_to_be_oldest (class_shown rec)

abbrev pub decode_stall : List Shown → Kept × ℕ → Charge
decode_stall older k = charge (decode_cause older k.0.after) k.0.after.addr

-- the records past Decode, the youngest first
abbrev pub past_decode : List Shown → List Shown
past_decode shown = reverse (filter (λ rec. not (is_waiting_at rec.progress)) shown)

-- A stage that is empty after the cycle has the hole of the stage before it, or one that a record makes by staying there.
abbrev pub moved_in : Bool → Charge → Charge → Option Charge → Charge
moved_in true own before stall = own
moved_in false own before None = before
moved_in false own before (Some stall) = stall

abbrev pub stall_of : (Kept × ℕ → Charge) → Option (Kept × ℕ) → Option Charge
stall_of stall k = option_map_or (λ x. Some (stall x)) k None

abbrev pub moved_holes : Facts → List (Kept × ℕ) → List Shown → Holes → Holes
moved_holes f kept shown h = record {
  decode = if has_in is_waiting_at shown then h.decode else charge cause.Icache f.fetch_at;
  execute = moved_in (has_in is_executing_at shown) h.execute h.decode (stall_of (decode_stall (past_decode shown)) (stays_in is_waiting_at kept));
  memory = moved_in (has_in is_accessing_at shown) h.memory h.execute (stall_of execute_stall (stays_in is_executing_at kept));
  write = moved_in (has_in is_done_at shown) h.write h.memory (stall_of (memory_stall f.cycle) (stays_in is_accessing_at kept));
}

-- the holes after a cycle, by those before it and the misses before it; none changes if the run ended before fetch
unfoldable pub holes_after : Facts → List ℕ → Holes → Holes
holes_after f misses h =
    if f.stopped then h
    else moved_holes f (zip f.kept (drop (length f.left) misses)) (window_after f) (flushed_holes f.flush h)
