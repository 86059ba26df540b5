-- The law of served time reads: no record executes that reads the time and was given none.
use Rattle.std.specs.Prelude.{◌≡◌, ℕ, false, Option, List, [], ◌∷◌}
use Rattle.mono_model.specs.Found.{Found}
use Rattle.mono_model.specs.Sequence.{is_unserved}
use Rattle.mono_model.specs.Window.{Record, Stage, waiting, until, done}

-- from its issue on, a record that reads the time has one
abbrev pub IsServed : Found → Option ℕ → Stage → Type 0
IsServed found time waiting = Unit {0}
IsServed found time (until e r) = is_unserved found r time ≡ false
IsServed found time (done r) = is_unserved found r time ≡ false

-- so have all records of a window
abbrev pub AreServed : List Record → Type 0
AreServed [] = Unit {0}
AreServed (rec ∷ rest) = IsServed rec.found rec.time rec.stage × AreServed rest
