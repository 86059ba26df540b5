-- The setups that the in-order machine may have.
use Rattle.std.specs.Prelude.{◌≡◌, ◌≤◌, true}
use Rattle.mono_model.specs.declared.setup.Setup.{Setup}
use Rattle.mono_model.specs.Setup.{is_setup}

-- a run of the in-order machine may have this setup: the window has room for a record in each stage
pub record IsInorder (s : Setup) : Type 0 where
  pub sound : is_setup s ≡ true
  pub window : 4 ≤ s.params.core_window
