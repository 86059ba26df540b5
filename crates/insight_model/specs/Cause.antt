-- What a cycle is charged to: a cause and an address
-- (Gottschall and others, TIP: Time-Proportional Instruction Profiling, MICRO 2021).
use Rattle.std.specs.Prelude.{ℕ, ◌==◌, Bool, List, [], ◌∷◌, codes}
use Rattle.mono_model.specs.Report.{Text}
use Rattle.insight_model.specs.declared.cycle_cause.CycleCause.{CycleCause}
use Rattle.insight_model.specs.declared.cycle_cause.CycleCause.TheVariants.{Commit, Alu, Mul, Div, Load, Store, Device, Serial, Operand, Dcache, Icache, Window, Stations, Mispredict, Trap, Interrupt, Replay, Fence, Start}

pub record Charge : Type 0 where
  pub cause : CycleCause
  pub addr : ℕ

abbrev pub charge : CycleCause → ℕ → Charge
charge cause addr = record { cause = cause; addr = addr }

-- all causes, in the order in which they are written
abbrev pub causes : List CycleCause
causes =
    Commit ∷ Alu ∷ Mul ∷ Div ∷ Load ∷ Store ∷ Device ∷ Serial ∷ Operand ∷ Dcache ∷ Icache ∷ Window ∷ Stations
    ∷ Mispredict ∷ Trap ∷ Interrupt ∷ Replay ∷ Fence ∷ Start ∷ []

-- the place of a cause among them
abbrev pub cause_place : CycleCause → ℕ
cause_place Commit = 0
cause_place Alu = 1
cause_place Mul = 2
cause_place Div = 3
cause_place Load = 4
cause_place Store = 5
cause_place Device = 6
cause_place Serial = 7
cause_place Operand = 8
cause_place Dcache = 9
cause_place Icache = 10
cause_place Window = 11
cause_place Stations = 12
cause_place Mispredict = 13
cause_place Trap = 14
cause_place Interrupt = 15
cause_place Replay = 16
cause_place Fence = 17
cause_place Start = 18

abbrev pub is_cause : CycleCause → CycleCause → Bool
is_cause a b = cause_place a == cause_place b

abbrev pub cause_name : CycleCause → Text
cause_name Commit = codes "commit"
cause_name Alu = codes "alu"
cause_name Mul = codes "mul"
cause_name Div = codes "div"
cause_name Load = codes "load"
cause_name Store = codes "store"
cause_name Device = codes "device"
cause_name Serial = codes "serial"
cause_name Operand = codes "operand"
cause_name Dcache = codes "dcache"
cause_name Icache = codes "icache"
cause_name Window = codes "window"
cause_name Stations = codes "stations"
cause_name Mispredict = codes "mispredict"
cause_name Trap = codes "trap"
cause_name Interrupt = codes "interrupt"
cause_name Replay = codes "replay"
cause_name Fence = codes "fence"
cause_name Start = codes "start"
