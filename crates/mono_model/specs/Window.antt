-- The window: the instructions under way, the oldest first
-- (Hennessy and Patterson, Computer Architecture, section 3.6, the reorder buffer).
use Rattle.std.specs.Prelude.{ℕ, ◌+◌, ◌-◌, ◌/◌, ◌%◌, ◌^◌, ◌==◌, ◌&&◌, nat_le, nat_lt, if◌then◌else◌, Bool, true, false, is_none, Option, Some, None, List, [], ◌∷◌}
use Rattle.fsim_base.specs.Width.{width_bytes}
use Rattle.fsim_base.specs.declared.access.Access.{Access}
use Rattle.fsim_base.specs.declared.access.Access.TheVariants as access
use Rattle.fsim_base.specs.declared.access.Spot.TheVariants.{Ram}
use Rattle.fsim_base.specs.declared.instruction.Class.{Class}
use Rattle.fsim_base.specs.declared.instruction.Class.TheVariants as class
use Rattle.mono_model.specs.Found.{Found, class_in, destination_in}
use Rattle.mono_model.specs.Result.{Result}

-- How far an instruction has come.
pub data Stage : Type 0 where
  -- it waits for its operands or a unit
  waiting : Stage
  -- it executes until this cycle, with the result that it then has
  until : ℕ → Result → Stage
  -- it is done, with its result
  done : Result → Stage

-- An instruction in the window.
pub record Record : Type 0 where
  pub addr : ℕ
  pub found : Found
  -- the address that was predicted to follow
  pub predicted : ℕ
  -- the time that it was given, in cycles, if any was
  pub time : Option ℕ
  -- the cycle in which it was fetched
  pub since : ℕ
  pub stage : Stage

abbrev pub class_at : Record → Class
class_at rec = class_in rec.found

abbrev pub is_waiting_stage : Stage → Bool
is_waiting_stage waiting = true
is_waiting_stage (until e r) = false
is_waiting_stage (done r) = false

abbrev pub is_done_stage : Stage → Bool
is_done_stage waiting = false
is_done_stage (until e r) = false
is_done_stage (done r) = true

abbrev pub is_waiting : Record → Bool
is_waiting rec = is_waiting_stage rec.stage

-- how many records wait
abbrev pub waiting_count : List Record → ℕ
waiting_count [] = 0
waiting_count (rec ∷ rest) = (if is_waiting rec then 1 else 0) + waiting_count rest

-- the destination is this register
abbrev pub is_register : ℕ → Option ℕ → Bool
is_register register None = false
is_register register (Some destination) = destination == register

abbrev pub value_if : Bool → ℕ → Option ℕ
value_if true value = Some value
value_if false value = None

-- what a record gives to younger ones: its value once it is done without a cause
abbrev pub value_at : Stage → Option ℕ
value_at waiting = None
value_at (until e r) = None
value_at (done r) = value_if (is_none r.cause) r.value

-- A register's value over the older records, which stand youngest first: that of the youngest of them that writes it, once
-- that one is done without a cause, and before then none; the architectural register where no older record writes it.
-- Nothing writes register 0.
abbrev pub written_value : (ℕ → ℕ) → List Record → ℕ → Option ℕ
written_value regs [] register = Some (regs register)
written_value regs (rec ∷ older) register =
    if is_register register (destination_in rec.found) then value_at rec.stage else written_value regs older register

-- The operand of a record: its source's value, if it has one by now, and 0 where there is no source.
abbrev pub operand : (ℕ → ℕ) → List Record → Option ℕ → Option ℕ
operand regs older None = Some 0
operand regs older (Some register) = written_value regs older register

-- the access covers an address: it is a store to RAM with a byte there
abbrev pub covers : Access → ℕ → Bool
covers (access.Store addr width Ram) x = nat_le addr x && nat_lt x (addr + width_bytes width)
covers made x = false

abbrev pub first_address : Access → ℕ
first_address access.Nothing = 0
first_address (access.Load addr width spot) = addr
first_address (access.Store addr width spot) = addr

-- a store with a cause covers nothing, nor does one that was not executed yet
abbrev pub result_covers : Result → ℕ → Bool
result_covers r x = is_none r.cause && covers r.access x

abbrev pub stage_covers : Stage → ℕ → Bool
stage_covers waiting x = false
stage_covers (until e r) x = result_covers r x
stage_covers (done r) x = result_covers r x

-- the byte that a store puts at an address that it covers
abbrev pub stored_byte : Result → ℕ → ℕ
stored_byte r x = r.value / 256 ^ (x - first_address r.access) % 256

abbrev pub stage_byte : Stage → ℕ → ℕ
stage_byte waiting x = 0
stage_byte (until e r) x = stored_byte r x
stage_byte (done r) x = stored_byte r x

-- A loaded byte: that of the youngest older store to RAM without a cause that covers the address, else memory's.
abbrev pub loaded_byte : (ℕ → ℕ) → List Record → ℕ → ℕ
loaded_byte ram [] x = ram x
loaded_byte ram (rec ∷ older) x = if stage_covers rec.stage x then stage_byte rec.stage x else loaded_byte ram older x

abbrev pub is_store_class : Class → Bool
is_store_class class.Store = true
is_store_class other = false

abbrev pub is_unfinished_store : Record → Bool
is_unfinished_store rec = if is_store_class (class_at rec) then (if is_done_stage rec.stage then false else true) else false

-- all stores among some records are done
abbrev pub are_stores_done : List Record → Bool
are_stores_done [] = true
are_stores_done (rec ∷ older) = if is_unfinished_store rec then false else are_stores_done older

-- a division that executes, and how many do among some records
abbrev pub is_busy_division : Class → Stage → Bool
is_busy_division class.Div (until e r) = true
is_busy_division other stage = false

abbrev pub busy_divisions : List Record → ℕ
busy_divisions [] = 0
busy_divisions (rec ∷ rest) = (if is_busy_division (class_at rec) rec.stage then 1 else 0) + busy_divisions rest
