-- A timing side as the split state takes it: the demand run that it makes, and where it stands there.
use Rattle.std.specs.Prelude.{◌≡◌, ◌↔◌, ℕ, suc, ◌≤◌, ◌&&◌, Bool, true, false, is_none, Option, Some, None}
use Rattle.trace_entry.specs.declared.Entry.{Entry}
use Rattle.mono_model.specs.declared.setup.Setup.{Setup}
use Rattle.mono_model.specs.Setup.{is_setup}
use Rattle.mono_model.specs.Path.{openings, has_stop}
use Rattle.mono_model.specs.Demand.{place_start, told, needs_entry, needed_entry}
use Rattle.mono_model.specs.Split.{is_halted, is_boundary, told_by, held_after}
use Rattle.machine_laws.specs.DemandRun.{DemandRun}
use Rattle.machine_laws.specs.SplitLaw.{IsRunIn, IsRanged}
use Rattle.time_model.specs.declared.side.Taken.{Taken}
use Rattle.time_model.specs.declared.side.Taken.TheVariants.{Used, Dropped}
use Rattle.time_model.specs.declared.turn.Turn.{Turn}
use Rattle.time_model.specs.declared.state.TimingState.{TimingState}
use Rattle.time_model.specs.Piped.{Piped}
use Rattle.time_model.specs.Standing.{SideStandsFor, wants_in, is_told_out}
use Rattle.time_model.specs.Turns.{order_told}
use Rattle.time_model.specs.Running.{IsSilent}
use Rattle.split_core.specs.Along.{At, rounds_on, IsReachedOn}
use Rattle.split_core.specs.Cycles.{Cycles, ends_place}

pub record Timed (T : Type 0) : Type 1 where
  -- which setups it may have
  pub allows : Setup → Type 0
  -- its demand run
  pub run : Setup → DemandRun
  -- it stands behind so many steps of that run
  pub stands : Setup → ℕ → T → Type 0
  -- whether it wants an entry, the entry that it holds, and its epoch
  pub wants : T → Bool
  pub held : T → Option Entry
  pub epoch : T → ℕ
  -- a boundary is never further than so many rounds
  pub rounds : Setup → ℕ

-- a timing side of a pipeline
abbrev pub timed_of : {P A : Type 0} → Piped P A → (Setup → ℕ) → Timed (TimingState P A)
timed_of piped rounds = record {
  allows = piped.allows;
  run = piped.run;
  stands = SideStandsFor piped;
  wants = wants_in piped;
  held = λ side. side.telling.held;
  epoch = λ side. side.telling.epoch;
  rounds = rounds;
}

-- one step of the demand run was made
pub record IsMadeOn {T : Type 0} (timed : Timed T) (s : Setup) (k : ℕ) (old new : T) (turn : Turn) : Type 0 where
  pub stands : timed.stands s (suc k) new
  pub held : timed.held new ≡ held_after (told_by ((timed.run s).places k) ((timed.run s).places (suc k))) ((timed.run s).places k) ((timed.run s).places (suc k)) (timed.held old)
  pub told : order_told turn ≡ told_by ((timed.run s).places k) ((timed.run s).places (suc k))

-- What a step makes of the side: nothing while the entry that its place needs isn't held, nothing where the run is over,
-- and in every other case one step of the demand run.
pub record IsStepOn {T : Type 0} (timed : Timed T) (s : Setup) (k : ℕ) (old new : T) (turn : Turn) : Type 0 where
  pub waits : needs_entry ((timed.run s).places k) ≡ true → timed.held old ≡ None → (order_told turn ≡ None) × (new ≡ old)
  pub rests : is_told_out ((timed.run s).places k) ≡ true → (order_told turn ≡ None) × (new ≡ old)
  pub goes : (needs_entry ((timed.run s).places k) && is_none (timed.held old)) ≡ false → is_told_out ((timed.run s).places k) ≡ false → IsMadeOn timed s k old new turn

-- a step was made, or tried for, whatever run the side stood for
abbrev pub StepsOn : {T : Type 0} → Timed T → T → T → Turn → Type 0
StepsOn timed old new turn = (s : Setup) (k : ℕ) → timed.allows s → timed.stands s k old → IsStepOn timed s k old new turn

-- one that ends no cycle
pub record IsInnerOn {T : Type 0} (timed : Timed T) (old new : T) (turn : Turn) : Type 0 where
  pub made : StepsOn timed old new turn
  pub inner : (s : Setup) (k : ℕ) → timed.stands s k old → ends_place ((timed.run s).places k) ≡ false

-- Some steps were made that told no order and ended no cycle, and after them one that did this; it may have ended one.
pub record IsRunInCycleOn {T : Type 0} (timed : Timed T) (old new : T) (turn : Turn) : Type 0 where
  pub behind : T
  pub silent : IsSilent (IsInnerOn timed) old behind
  pub last : StepsOn timed behind new turn

-- an entry may be handed to a side: where it is of the side's epoch, it is the one that the side's place needs
pub record IsRightOn {T : Type 0} (timed : Timed T) (entry : Entry) (side : T) : Type 0 where
  pub setup : Setup
  pub allowed : timed.allows setup
  pub steps : ℕ
  pub stands : timed.stands setup steps side
  pub needed : entry.epoch ≡ timed.epoch side → entry ≡ needed_entry setup ((timed.run setup).places steps)

-- An entry of the side's epoch was held and any other dropped, and from the side behind that some steps were made, the
-- last of which did this and alone may have ended a cycle.
pub record IsFedOn {T : Type 0} (timed : Timed T) (entry : Entry) (old new : T) (turn : Turn) : Type 0 where
  pub answer : Taken
  pub taken : T
  pub stands : (s : Setup) (k : ℕ) → timed.stands s k old → (entry.epoch ≡ timed.epoch old → entry ≡ needed_entry s ((timed.run s).places k)) → timed.stands s k taken
  pub used : answer ≡ Used → timed.held taken ≡ Some entry
  pub dropped : answer ≡ Dropped → taken ≡ old
  pub by_epoch : (answer ≡ Used) ↔ (entry.epoch ≡ timed.epoch old)
  pub run : IsRunInCycleOn timed taken new turn

-- what it needs of the demand run alone
pub record IsSplit (allows : Setup → Type 0) (run : Setup → DemandRun) (rounds : Setup → ℕ) : Type 0 where
  -- the law of the split state
  pub law : (s : Setup) (x : At) → allows s → IsReachedOn s (run s) x → IsRunIn s (run s) x.split
  pub ranged : (s : Setup) (x : At) → allows s → IsReachedOn s (run s) x → IsRanged x.split
  -- the rounds to a boundary come to one
  pub arrives : (s : Setup) (x : At) → allows s → IsReachedOn s (run s) x → is_boundary (rounds_on s (run s) (rounds s) x).split ≡ true
  -- the last order is told by the last step, within the bound
  pub stop : (s : Setup) (k : ℕ) → has_stop (told ((run s).places k)) ≡ is_halted ((run s).places k).run.at
  pub halts : (s : Setup) (k : ℕ) → allows s → (run s).bound ≤ k → is_halted ((run s).places k).run.at ≡ true
  -- it goes from cycle to cycle
  pub cycles : (s : Setup) → Cycles (run s)

-- What the split state needs of the demand run and of the side.
pub record IsTimed {T : Type 0} (timed : Timed T) : Type 0 where
  pub sound : (s : Setup) → timed.allows s → is_setup s ≡ true
  pub start : (s : Setup) → (timed.run s).places 0 ≡ place_start s
  pub epoch : (s : Setup) (k : ℕ) (side : T) → timed.stands s k side → timed.epoch side ≡ openings (told ((timed.run s).places k))
  -- it wants an entry where its place needs one and none is held
  pub needs : (s : Setup) (k : ℕ) (side : T) → timed.stands s k side → timed.wants side ≡ (needs_entry ((timed.run s).places k) && is_none (timed.held side))
  -- the law of the split state
  pub law : (s : Setup) (x : At) → timed.allows s → IsReachedOn s (timed.run s) x → IsRunIn s (timed.run s) x.split
  pub ranged : (s : Setup) (x : At) → timed.allows s → IsReachedOn s (timed.run s) x → IsRanged x.split
  -- the rounds to a boundary come to one
  pub arrives : (s : Setup) (x : At) → timed.allows s → IsReachedOn s (timed.run s) x → is_boundary (rounds_on s (timed.run s) (timed.rounds s) x).split ≡ true
  -- the last order is told by the last step, within the bound
  pub stop : (s : Setup) (k : ℕ) → has_stop (told ((timed.run s).places k)) ≡ is_halted ((timed.run s).places k).run.at
  pub halts : (s : Setup) (k : ℕ) → timed.allows s → (timed.run s).bound ≤ k → is_halted ((timed.run s).places k).run.at ≡ true
  -- it goes from cycle to cycle
  pub cycles : (s : Setup) → Cycles (timed.run s)
