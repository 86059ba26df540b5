-- A turn in its parts: what the pipeline makes, and the orders that stand to be told after it.
use Rattle.std.specs.Prelude.{◌≡◌, ℕ, suc, if◌then◌else◌, None, ◌++◌}
use Rattle.mono_model.specs.declared.setup.Setup.{Setup}
use Rattle.mono_model.specs.Demand.{told}
use Rattle.mono_model.specs.Split.{has_appended}
use Rattle.timing_core.specs.declared.orders.Orders.{Orders}
use Rattle.timing_core.specs.Orders.{orders_in}
use Rattle.time_model.specs.declared.state.TimingState.{TimingState}
use Rattle.time_model.specs.Piped.{Piped, place_of}

-- a side with this turn as the one that comes next, which is kept beside it while turns are made
abbrev pub placed : {P A : Type 0} → A → TimingState P A → TimingState P A
placed at side = record side { at = at }

-- the next step, but for its telling: the orders that stand to be told are the owed one, or those of the turn
pub record IsTold {P A : Type 0} (piped : Piped P A) (s : Setup) (k : ℕ) (old new : TimingState P A) (due : Orders) : Type 0 where
  pub stands : piped.stands s (suc k) new.pipeline new.at
  pub orders : orders_in due ++ told (place_of piped s k) ≡ (place_of piped s (suc k)).run.demand.orders
  pub held : new.telling.held ≡ (if has_appended (place_of piped s k) (place_of piped s (suc k)) then None else old.telling.held)
