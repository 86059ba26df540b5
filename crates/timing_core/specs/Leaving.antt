-- What the oldest slot does in the phase of commit, apart from the state behind it.
use Rattle.std.specs.Prelude.{ℕ, ◌+◌, Option, Some, None}
use Rattle.timing_side.specs.Timing.{Timing}
use Rattle.timing_side.specs.Commit as phase
use Rattle.timing_core.specs.declared.commit.Leaving.{Leaving}
use Rattle.timing_core.specs.declared.commit.Leaving.TheVariants.{Stays, Full, Leaves, Faults, Syncs, Ends}
use Rattle.timing_core.specs.declared.commit.Ending.{Ending}
use Rattle.timing_core.specs.declared.commit.Ending.TheVariants.{Plain, Trap, Sync}
use Rattle.timing_core.specs.declared.commit.Committed.{Committed}

-- what it does
abbrev pub kind_of : phase.Leaving → Leaving
kind_of phase.stays = Stays
kind_of (phase.full behind) = Full
kind_of (phase.leaves behind) = Leaves
kind_of (phase.faults handler behind) = Faults handler
kind_of (phase.syncs behind) = Syncs
kind_of (phase.ends behind) = Ends

-- the state behind it
abbrev pub behind_of : Timing → phase.Leaving → Timing
behind_of t phase.stays = t
behind_of t (phase.full behind) = behind
behind_of t (phase.leaves behind) = behind
behind_of t (phase.faults handler behind) = behind
behind_of t (phase.syncs behind) = behind
behind_of t (phase.ends behind) = behind

-- how the phase ended
abbrev pub ending_in : Ending → phase.Ending
ending_in Plain = phase.plain
ending_in (Trap handler) = phase.trap handler
ending_in Sync = phase.sync

-- how the phase ends behind a slot, of which so many left before; None where the next may follow
abbrev pub ended_by : Leaving → ℕ → Option Committed
ended_by Stays left = Some (record { left = left; ending = Plain })
ended_by Full left = Some (record { left = left; ending = Plain })
ended_by Leaves left = None
ended_by (Faults handler) left = Some (record { left = left + 1; ending = Trap handler })
ended_by Syncs left = Some (record { left = left + 1; ending = Sync })
ended_by Ends left = Some (record { left = left + 1; ending = Plain })
