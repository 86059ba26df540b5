-- A pipeline as the frame of a timing side takes it: the demand run that it makes, and where it stands there.
use Rattle.std.specs.Prelude.{◌≡◌, ℕ, suc, ◌-◌, ◌≤◌, ◌^◌, true, false, None, ◌++◌, length}
use Rattle.trace_entry.specs.declared.Entry.{Entry}
use Rattle.mono_model.specs.declared.setup.Setup.{Setup}
use Rattle.mono_model.specs.Setup.{is_setup}
use Rattle.mono_model.specs.Path.{openings}
use Rattle.mono_model.specs.Demand.{At, is_try, Place, place_start, told, needed_entry}
use Rattle.mono_model.specs.Split.{is_halted, has_appended}
use Rattle.machine_laws.specs.DemandRun.{DemandRun}
use Rattle.machine_laws.proofs.SplitSteps.{Owes, Stepped}
use Rattle.timing_laws.specs.Seen.{seen}
use Rattle.timing_core.specs.declared.orders.Orders.{Orders}
use Rattle.timing_core.specs.declared.state.TimingCore.{TimingCore}
use Rattle.timing_core.specs.Orders.{orders_in}
use Rattle.timing_core.specs.CoreStandsFor.{CoreStandsFor}
use Rattle.timing_core.specs.Small.{IsSmall}
use Rattle.time_model.specs.declared.fetched.Fetched.{Fetched}
use Rattle.time_model.specs.Turns.{is_ending}

pub record Piped (P A : Type 0) : Type 1 where
  -- which setups it may have
  pub allows : Setup → Type 0
  -- its demand run
  pub run : Setup → DemandRun
  -- its turns, as the split state sees them
  pub seen : A → At
  -- the turn with which a run begins
  pub first : A
  -- It has what can be seen of the run after so many steps, and the turn that comes next there; orders that are still to
  -- be told make no difference.
  pub stands : Setup → ℕ → P → A → Type 0
  -- the parts that each pipeline has
  pub core : P → TimingCore

-- the place of its run after so many steps
abbrev pub place_of : {P A : Type 0} → Piped P A → Setup → ℕ → Place
place_of piped s k = (piped.run s).places k

-- One step on: it stands there, and these are the orders that were made.
pub record IsNext {P A : Type 0} (piped : Piped P A) (s : Setup) (k : ℕ) (new : P) (next : A) (made : Orders) : Type 0 where
  pub stands : piped.stands s (suc k) new next
  pub orders : orders_in made ++ (place_of piped s k).run.demand.orders ≡ (place_of piped s (suc k)).run.demand.orders

-- A turn that is no try was made, whatever run it stood in.
abbrev pub IsTurned : {P A : Type 0} → Piped P A → P → A → P → A → Orders → Type 0
IsTurned piped old at new next made =
    (s : Setup) (k : ℕ) → piped.allows s → piped.stands s k old at → (place_of piped s k).owed ≡ 0 → IsNext piped s k new next made

-- a try may be made with this entry: it comes next, all is told, and the place needs the entry
pub record MayTry {P A : Type 0} (piped : Piped P A) (pipeline : P) (at : A) (entry : Entry) : Type 0 where
  pub setup : Setup
  pub allowed : piped.allows setup
  pub steps : ℕ
  pub stands : piped.stands setup steps pipeline at
  pub told : (place_of piped setup steps).owed ≡ 0
  pub tries : is_try (piped.seen at) ≡ true
  pub needed : entry ≡ needed_entry setup (place_of piped setup steps)

-- a try was made, whatever run it stood in that needs the entry
pub record IsFetched {P A : Type 0} (piped : Piped P A) (entry : Entry) (old : P) (at : A) (new : P) (next : A) (fetched : Fetched) : Type 0 where
  pub made : (s : Setup) (k : ℕ) → piped.allows s → piped.stands s k old at → (place_of piped s k).owed ≡ 0
      → entry ≡ needed_entry s (place_of piped s k) → IsNext piped s k new next fetched.orders
  pub appended : (s : Setup) (k : ℕ) → piped.allows s → piped.stands s k old at → (place_of piped s k).owed ≡ 0
      → entry ≡ needed_entry s (place_of piped s k) → fetched.appended ≡ has_appended (place_of piped s k) (place_of piped s (suc k))

-- one that appended its instruction and made no order, and another comes next
pub record IsGone {P A : Type 0} (piped : Piped P A) (entry : Entry) (old : P) (at : A) (new : P) (next : A) : Type 0 where
  pub fetched : IsFetched piped entry old at new next (record { orders = record { first = None; second = None }; appended = true })
  pub tries : is_try (piped.seen next) ≡ true

-- a turn that is no try, and not after the end
pub record IsPhase {P A : Type 0} (piped : Piped P A) (old : P) (at : A) (new : P) (next : A) (due : Orders) : Type 0 where
  pub plain : is_try (piped.seen at) ≡ false
  pub goes : is_halted (piped.seen at) ≡ false
  pub made : IsTurned piped old at new next due

-- one that ends no cycle
pub record IsInnerPhase {P A : Type 0} (piped : Piped P A) (old : P) (at : A) (new : P) (next : A) (due : Orders) : Type 0 where
  pub phase : IsPhase piped old at new next due
  pub inner : is_ending (piped.seen at) ≡ false

-- some phases of a kind that made no order, one after the other
pub data IsQuietBy {P A : Type 0} (phase : P → A → P → A → Orders → Type 0) (old : P) (at : A) : P → A → Type 0 where
  start : IsQuietBy phase old at old at
  more : (mid new : P) (between next : A) (made : Orders) → IsQuietBy phase old at mid between → phase mid between new next made → made.first ≡ None → IsQuietBy phase old at new next

-- one at most, with its orders
pub data IsMadeOnce {P A : Type 0} (phase : P → A → P → A → Orders → Type 0) (old : P) (at : A) (made : Orders) : P → A → Type 0 where
  nothing : made.first ≡ None → IsMadeOnce phase old at made old at
  once : (new : P) (next : A) → phase old at new next made → IsMadeOnce phase old at made new next

-- some that made no order, and one at most after these
pub record IsStriddenBy {P A : Type 0} (phase : P → A → P → A → Orders → Type 0) (old : P) (at : A) (new : P) (next : A) (made : Orders) : Type 0 where
  pub mid : P
  pub between : A
  pub quiet : IsQuietBy phase old at mid between
  pub last : IsMadeOnce phase mid between made new next

-- the same of phases of any kind
abbrev pub IsQuiet : {P A : Type 0} → Piped P A → P → A → P → A → Type 0
IsQuiet piped = IsQuietBy (IsPhase piped)

abbrev pub IsStridden : {P A : Type 0} → Piped P A → P → A → P → A → Orders → Type 0
IsStridden piped = IsStriddenBy (IsPhase piped)

-- and of those that end no cycle
abbrev pub IsInnerStride : {P A : Type 0} → Piped P A → P → A → P → A → Orders → Type 0
IsInnerStride piped = IsStriddenBy (IsInnerPhase piped)

-- What the frame needs of the demand run and of the pipeline.
pub record IsPiped {P A : Type 0} (piped : Piped P A) : Type 0 where
  pub sound : (s : Setup) → piped.allows s → is_setup s ≡ true
  pub start : (s : Setup) → place_of piped s 0 ≡ place_start s
  -- which orders a place owes, and what a step tells
  pub owes : (s : Setup) (k : ℕ) → Owes (place_of piped s k)
  pub stepped : (s : Setup) (k : ℕ) → is_halted (place_of piped s k).run.at ≡ false → Stepped (place_of piped s k) (place_of piped s (suc k))
  -- a turn is one step where it has at most one order, else one step an order
  pub turned : (s : Setup) (k : ℕ) → (place_of piped s k).owed ≡ 0
      → (place_of piped s (suc k)).owed ≡ length (place_of piped s (suc k)).run.demand.orders - length (place_of piped s k).run.demand.orders - 1
  pub owing : (s : Setup) (k more : ℕ) → (place_of piped s k).owed ≡ suc more → place_of piped s (suc k) ≡ record { run = (place_of piped s k).run; owed = more }
  -- where orders are told that were owed, the pipeline stands still
  pub still : (s : Setup) (k more : ℕ) (pipeline : P) (at : A) → (place_of piped s k).owed ≡ suc more → piped.stands s k pipeline at → piped.stands s (suc k) pipeline at
  -- the turn that comes next, and the parts
  pub at : (s : Setup) (k : ℕ) (pipeline : P) (at : A) → piped.stands s k pipeline at → piped.seen at ≡ (place_of piped s k).run.at
  pub core : (s : Setup) (k : ℕ) (pipeline : P) (at : A) → piped.stands s k pipeline at → CoreStandsFor s (seen s (place_of piped s k).run.demand) (piped.core pipeline)
  -- the numbers are small
  pub small : (s : Setup) (k : ℕ) → piped.allows s → IsSmall (seen s (place_of piped s k).run.demand)
  pub epoch : (s : Setup) (k : ℕ) → piped.allows s → openings (told (place_of piped s k)) ≤ 2 ^ 44
