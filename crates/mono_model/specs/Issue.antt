-- The fourth phase of a cycle: records with operands and a unit begin to execute, from the oldest to the youngest
-- (Hennessy and Patterson, Computer Architecture, section 3.6, issue and execute; section 3.4, Tomasulo's algorithm).
use Rattle.std.specs.Prelude.{ℕ, ◌+◌, ◌&&◌, nat_le, nat_lt, if◌then◌else◌, Bool, true, false, is_none, is_some, unwrap_or, Option, Some, None, List, [], ◌∷◌}
use Rattle.fsim_base.specs.declared.access.Access.{Access}
use Rattle.fsim_base.specs.declared.access.Access.TheVariants as access
use Rattle.fsim_base.specs.declared.access.Spot.TheVariants.{Ram, Device}
use Rattle.fsim_base.specs.declared.cause.Cause.{Cause}
use Rattle.fsim_base.specs.declared.instruction.Class.{Class}
use Rattle.fsim_base.specs.declared.instruction.Class.TheVariants as class
use Rattle.cache_timing.specs.Caches.{CachesState, Served, loaded}
use Rattle.mono_model.specs.declared.params.Params.{Params}
use Rattle.mono_model.specs.declared.setup.Setup.{Setup}
use Rattle.mono_model.specs.Setup.{ram_range, caches_params}
use Rattle.mono_model.specs.Arch.{Arch}
use Rattle.mono_model.specs.Found.{first_source, second_source}
use Rattle.mono_model.specs.Result.{Result, Seen, executed, is_time_read}
use Rattle.mono_model.specs.Window.{Record, until, class_at, is_waiting, operand, loaded_byte, are_stores_done, busy_divisions}
use Rattle.mono_model.specs.Machine.{Machine, flushed}

-- How many records of each unit kind have begun in this cycle.
pub record Used : Type 0 where
  pub alu : ℕ
  pub mul : ℕ
  pub div : ℕ
  pub mem : ℕ

abbrev pub none_used : Used
none_used = record { alu = 0; mul = 0; div = 0; mem = 0 }

abbrev pub with_used : Class → Used → Used
with_used class.Alu used = record used { alu = used.alu + 1 }
with_used class.Serial used = record used { alu = used.alu + 1 }
with_used class.Mul used = record used { mul = used.mul + 1 }
with_used class.Div used = record used { div = used.div + 1 }
with_used class.Load used = record used { mem = used.mem + 1 }
with_used class.Store used = record used { mem = used.mem + 1 }

abbrev pub latency_of : Params → Class → ℕ
latency_of p class.Alu = p.alu_latency
latency_of p class.Serial = p.alu_latency
latency_of p class.Mul = p.mul_latency
latency_of p class.Div = p.div_latency
latency_of p class.Load = p.mem_latency
latency_of p class.Store = p.mem_latency

-- What the walk carries to a record: the older records as they are by now, the youngest first, with the units that they
-- began to use in this cycle and the caches that they left.
pub record Passed : Type 0 where
  pub older : List Record
  pub used : Used
  pub caches : CachesState

-- The first condition: it waits, and has passed the front of the pipeline.
abbrev pub is_past_front : Params → ℕ → Record → Bool
is_past_front p cycle rec = is_waiting rec && nat_le (rec.since + p.core_front) cycle

-- The second: each of its sources has a value.
abbrev pub has_operands : Arch → List Record → Record → Bool
has_operands a older rec =
    is_some (operand a.regs older (first_source rec.found)) && is_some (operand a.regs older (second_source rec.found))

-- With these it executes. It sees memory under the older stores, and the committed CSRs and devices.
abbrev pub operand_value : Arch → List Record → Option ℕ → ℕ
operand_value a older source = unwrap_or (operand a.regs older source) 0

abbrev pub seen_from : Arch → List Record → Option ℕ → Seen
seen_from a older time = record { bytes = loaded_byte a.ram older; csrs = a.csrs; devices = a.devices; time = time }

unfoldable pub ready_result : Setup → Arch → List Record → Record → Result
ready_result s a older rec =
    executed (ram_range s.params) rec.found rec.addr
    (operand_value a older (first_source rec.found)) (operand_value a older (second_source rec.found)) (seen_from a older rec.time)

-- The third: its class allows it. A load of a device, a CSR instruction and MRET issue only as the oldest; any other load
-- only when all older stores are done.
abbrev pub is_oldest : List Record → Bool
is_oldest [] = true
is_oldest (rec ∷ older) = false

abbrev pub load_allows : Access → List Record → Bool
load_allows (access.Load addr width Device) older = is_oldest older
load_allows made older = are_stores_done older

abbrev pub class_allows : Class → Access → List Record → Bool
class_allows class.Alu made older = true
class_allows class.Mul made older = true
class_allows class.Div made older = true
class_allows class.Load made older = load_allows made older
class_allows class.Store made older = true
class_allows class.Serial made older = is_oldest older

-- The fourth: a unit is free. In a cycle at most `count` records of each kind issue. Of divisions, those of the window that
-- execute, with the new one, are at most `div_count`.
abbrev pub has_unit : Params → ℕ → Used → Class → Bool
has_unit p dividing used class.Alu = nat_lt used.alu p.alu_count
has_unit p dividing used class.Serial = nat_lt used.alu p.alu_count
has_unit p dividing used class.Mul = nat_lt used.mul p.mul_count
has_unit p dividing used class.Div = nat_le (dividing + 1) p.div_count
has_unit p dividing used class.Load = nat_lt used.mem p.mem_count
has_unit p dividing used class.Store = nat_lt used.mem p.mem_count

-- A record issues where all of these hold.
abbrev pub issues : Setup → Machine → Passed → Record → List Record → Bool
issues s m p rec younger =
    is_past_front s.params m.cycle rec
    && has_operands m.arch p.older rec
    && class_allows (class_at rec) (ready_result s m.arch p.older rec).access p.older
    && has_unit s.params (busy_divisions p.older + busy_divisions younger) p.used (class_at rec)

-- a load of RAM without a cause accesses the data cache, on wrong paths too
abbrev pub no_miss : CachesState → Served
no_miss caches = record { state = caches; cycles = 0 }

abbrev pub cached : Setup → Option Cause → Access → CachesState → Served
cached s None (access.Load addr width Ram) caches = loaded (caches_params s.params) caches addr
cached s cause made caches = no_miss caches

-- A record behind its turn, with the units begun and the caches behind it.
pub record Turned : Type 0 where
  pub turned : Record
  pub used : Used
  pub caches : CachesState

abbrev pub unchanged : Passed → Record → Turned
unchanged p rec = record { turned = rec; used = p.used; caches = p.caches }

-- it has its result when the latency of its class and the miss of the cache are over
abbrev pub begun : Setup → ℕ → Passed → Record → Result → Turned
begun s cycle p rec r =
    let served = cached s r.cause r.access p.caches in
    record {
      turned = record rec { stage = until (cycle + latency_of s.params (class_at rec) + served.cycles) r };
      used = with_used (class_at rec) p.used;
      caches = served.state;
    }

unfoldable pub turn_of : Setup → Machine → Passed → Record → List Record → Turned
turn_of s m p rec younger =
    if issues s m p rec younger then begun s m.cycle p rec (ready_result s m.arch p.older rec) else unchanged p rec

-- The walk over the window, from the oldest record to the youngest: the records behind it, and the caches.
pub record Walked : Type 0 where
  pub records : List Record
  pub caches : CachesState

abbrev pub walked_on : Record → Walked → Walked
walked_on rec w = record w { records = rec ∷ w.records }

abbrev pub passed : Turned → List Record → Passed
passed t older = record { older = t.turned ∷ older; used = t.used; caches = t.caches }

-- from a place on, in the machine as it was before the phase
unfoldable pub walk : Setup → Machine → Passed → List Record → Walked
walk s m p [] = record { records = []; caches = p.caches }
walk s m p (rec ∷ younger) =
    let t = turn_of s m p rec younger in
    walked_on t.turned (walk s m (passed t p.older) younger)

-- The oldest record, where it reads the time and has none and the first two conditions hold, is sent back to fetch to be
-- given this cycle as its time.
abbrev pub wants_time_result : Record → Result → Bool
wants_time_result rec r = is_none rec.time && is_time_read rec.found r.access

abbrev pub wants_time_first : Setup → Machine → List Record → Bool
wants_time_first s m [] = false
wants_time_first s m (rec ∷ younger) =
    is_past_front s.params m.cycle rec
    && has_operands m.arch [] rec
    && wants_time_result rec (ready_result s m.arch [] rec)

unfoldable pub wants_time : Setup → Machine → Bool
wants_time s m = wants_time_first s m m.window

abbrev pub oldest_address : Machine → List Record → ℕ
oldest_address m [] = m.fetch_addr
oldest_address m (rec ∷ rest) = rec.addr

abbrev pub replayed : Machine → Machine
replayed m =
    let f = flushed [] (oldest_address m m.window) m in
    record f { kept = Some m.cycle; counts = record f.counts { replays = f.counts.replays + 1 } }

-- before the oldest record
abbrev pub none_passed : Machine → Passed
none_passed m = record { older = []; used = none_used; caches = m.caches }

abbrev pub issued : Setup → Machine → Machine
issued s m =
    let w = walk s m (none_passed m) m.window in
    record m { window = w.records; caches = w.caches }

unfoldable pub issue_phase : Setup → Machine → Machine
issue_phase s m = if wants_time s m then replayed m else issued s m
