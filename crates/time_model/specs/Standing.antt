-- Where a timing side stands: after so many steps of its demand run; and what a step makes of it.
use Rattle.std.specs.Prelude.{◌≡◌, ℕ, suc, ◌==◌, ◌&&◌, Bool, true, false, is_none, IfSome, Option, Some, None, List, [], ◌∷◌, take}
use Rattle.rollback_cmds.specs.declared.order.Order.{Order}
use Rattle.trace_entry.specs.declared.Entry.{Entry}
use Rattle.mono_model.specs.declared.setup.Setup.{Setup}
use Rattle.mono_model.specs.Path.{openings}
use Rattle.mono_model.specs.Demand.{is_try, Place, told, needs_entry, needed_entry}
use Rattle.mono_model.specs.Split.{is_halted, told_by, held_after}
use Rattle.time_model.specs.declared.state.TimingState.{TimingState}
use Rattle.time_model.specs.declared.turn.Turn.{Turn}
use Rattle.time_model.specs.declared.turn.Turn.TheVariants.{Want, Halted}
use Rattle.time_model.specs.Turns.{is_ending, turn_told}
use Rattle.time_model.specs.Piped.{Piped, place_of}

-- an order that is owed, as a list
abbrev pub owed_in : Option Order → List Order
owed_in None = []
owed_in (Some o) = o ∷ []

-- the orders of a place that were not told yet, the newest first
abbrev pub untold : Place → List Order
untold p = take p.owed p.run.demand.orders

-- A timing side stands after `k` steps of the demand run: its pipeline does, and the entry that it holds is the one that
-- the place needs, where all orders of its turn are told.
pub record SideStandsFor {P A : Type 0} (piped : Piped P A) (s : Setup) (k : ℕ) (side : TimingState P A) : Type 0 where
  pub pipeline : piped.stands s k side.pipeline side.at
  pub owed : owed_in side.telling.owed ≡ untold (place_of piped s k)
  pub epoch : side.telling.epoch ≡ openings (told (place_of piped s k))
  pub held : (place_of piped s k).owed ≡ 0 → IfSome side.telling.held (λ e. e ≡ needed_entry s (place_of piped s k))

-- it stands behind some steps of the run of a setup that is allowed
pub record IsStanding {P A : Type 0} (piped : Piped P A) (side : TimingState P A) : Type 0 where
  pub setup : Setup
  pub sound : piped.allows setup
  pub steps : ℕ
  pub stands : SideStandsFor piped setup steps side

-- the entry of the instruction to fetch next is needed: the next step is a try, and none is held
unfoldable pub wants_in : {P A : Type 0} → Piped P A → TimingState P A → Bool
wants_in piped side = is_none side.telling.owed && is_try (piped.seen side.at) && is_none side.telling.held

-- the run is over and all is told
abbrev pub is_told_out : Place → Bool
is_told_out p = is_halted p.run.at && p.owed == 0

-- and as the side has it
abbrev pub over_in : {P A : Type 0} → Piped P A → TimingState P A → Bool
over_in piped side = is_none side.telling.owed && is_halted (piped.seen side.at)

-- the next step ends a cycle
abbrev pub ends_in : {P A : Type 0} → Piped P A → TimingState P A → Bool
ends_in piped side = is_none side.telling.owed && is_ending (piped.seen side.at)

-- one step of the demand run was made
pub record IsMade {P A : Type 0} (piped : Piped P A) (s : Setup) (k : ℕ) (old new : TimingState P A) (turn : Turn) : Type 0 where
  pub stands : SideStandsFor piped s (suc k) new
  pub held : new.telling.held
      ≡ held_after (told_by (place_of piped s k) (place_of piped s (suc k))) (place_of piped s k) (place_of piped s (suc k)) old.telling.held
  pub turn_is : turn ≡ turn_told (told_by (place_of piped s k) (place_of piped s (suc k))) (place_of piped s k).run.at

-- What a step makes of the side: nothing while the entry that its place needs isn't held, nothing where the run is over,
-- and in every other case one step of the demand run.
pub record IsStep {P A : Type 0} (piped : Piped P A) (s : Setup) (k : ℕ) (old new : TimingState P A) (turn : Turn) : Type 0 where
  pub waits : needs_entry (place_of piped s k) ≡ true → old.telling.held ≡ None → (turn ≡ Want) × (new ≡ old)
  pub rests : is_told_out (place_of piped s k) ≡ true → (turn ≡ Halted) × (new ≡ old)
  pub goes : (needs_entry (place_of piped s k) && is_none old.telling.held) ≡ false → is_told_out (place_of piped s k) ≡ false → IsMade piped s k old new turn

-- an entry may be handed to a side: where it is of the side's epoch, it is the one that the side's place needs
pub record IsRight {P A : Type 0} (piped : Piped P A) (entry : Entry) (side : TimingState P A) : Type 0 where
  pub setup : Setup
  pub sound : piped.allows setup
  pub steps : ℕ
  pub stands : SideStandsFor piped setup steps side
  pub needed : entry.epoch ≡ side.telling.epoch → entry ≡ needed_entry setup (place_of piped setup steps)
