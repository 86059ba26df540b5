-- The second phase of a cycle: the oldest records, once done, leave in order and change the architectural state
-- (Hennessy and Patterson, Computer Architecture, section 3.6, commit).
use Rattle.std.specs.Prelude.{ℕ, zero, suc, ◌+◌, Bool, true, false, Option, Some, None, List, [], ◌∷◌}
use Rattle.fsim_base.specs.declared.access.Access.{Access}
use Rattle.fsim_base.specs.declared.access.Access.TheVariants as access
use Rattle.fsim_base.specs.declared.access.Spot.TheVariants.{Ram}
use Rattle.fsim_base.specs.declared.cause.Cause.{Cause}
use Rattle.fsim_base.specs.declared.instruction.Flow.{Flow}
use Rattle.fsim_base.specs.declared.instruction.Flow.TheVariants as flow
use Rattle.device_bus.specs.declared.undo.Note.{Note}
use Rattle.device_bus.specs.declared.undo.Note.TheVariants as note
use Rattle.branch_predictor.specs.Predictor.{trained}
use Rattle.cache_timing.specs.Caches.{CachesState, stored}
use Rattle.cache_timing.specs.declared.params.AllCaches.{AllCaches}
use Rattle.mono_model.specs.declared.final_state.End.TheVariants.{OutputFull}
use Rattle.mono_model.specs.declared.setup.Setup.{Setup}
use Rattle.mono_model.specs.Setup.{predictor_params, caches_params}
use Rattle.mono_model.specs.Arch.{synced}
use Rattle.mono_model.specs.Found.{flow_in, is_fence_i}
use Rattle.mono_model.specs.Result.{Result}
use Rattle.mono_model.specs.Effect.{effect, note_of}
use Rattle.mono_model.specs.Final.{end_of}
use Rattle.mono_model.specs.Alone.{has_no_room}
use Rattle.mono_model.specs.Window.{Record, Stage, waiting, until, done}
use Rattle.mono_model.specs.Machine.{Machine, flushed}

-- The oldest record, by what it does in this phase, with the machine behind it.
pub data Leaving : Type 0 where
  -- there is none, or it isn't done
  stays : Leaving
  -- the output has no room for its byte: the run ends before it
  full : Machine → Leaving
  -- it leaves, and the next may follow
  leaves : Machine → Leaving
  -- it leaves with its trap taken, and all younger records are flushed
  faults : Machine → Leaving
  -- a FENCE.I leaves, and all younger records are flushed
  syncs : Machine → Leaving
  -- it leaves and ends the run
  ends : Machine → Leaving

-- a store to RAM accesses the data cache
abbrev pub caches_after : AllCaches → Access → CachesState → CachesState
caches_after p (access.Store addr width Ram) caches = stored p caches addr
caches_after p made caches = caches

abbrev pub branch_count : Flow → ℕ
branch_count flow.Plain = 0
branch_count flow.Branch = 1
branch_count flow.Jump = 1

-- a record without a cause leaves, and its changes are made
abbrev pub committed : Setup → Record → List Record → Result → Machine → Machine
committed s rec rest r m = record m {
  arch = effect rec.found r rec.time rec.addr m.arch;
  window = rest;
  predictor = trained (predictor_params s.params) m.predictor rec.addr (flow_in rec.found) r.next;
  caches = caches_after (caches_params s.params) r.access m.caches;
  counts = record m.counts { branches = m.counts.branches + branch_count (flow_in rec.found) };
}

-- a record with a cause leaves: its trap is taken, and fetch goes on at the handler
abbrev pub faulted : Record → List Record → Result → Machine → Machine
faulted rec rest r m =
    let trap = effect rec.found r rec.time rec.addr m.arch in
    let f = flushed [] trap.pc (record m { window = rest }) in
    record f { arch = trap; counts = record f.counts { exceptions = f.counts.exceptions + 1 } }

-- fetch sees memory as it stands behind a FENCE.I, and goes on behind it
abbrev pub fenced : Setup → Machine → Machine
fenced s m = let f = flushed [] m.arch.pc m in record f { arch = synced s f.arch }

-- What the oldest record does once it is done: by its cause, by whether the output has no room for its byte, by what it
-- does outside, and by whether it is a FENCE.I. Three machines are given: as it stands, with the trap taken, and with
-- the changes made.
abbrev pub leaving_by : Setup → Machine → Machine → Machine → Option Cause → Bool → Note → Bool → Leaving
leaving_by s now trapped changed (Some cause) no_room what fence = faults trapped
leaving_by s now trapped changed None true what fence = full (record now { end = OutputFull })
leaving_by s now trapped changed None false (note.End halt) fence = ends (record changed { end = end_of halt })
leaving_by s now trapped changed None false what true = syncs (fenced s changed)
leaving_by s now trapped changed None false what false = leaves changed

abbrev pub leaving_stage : Setup → Record → List Record → Stage → Machine → Leaving
leaving_stage s rec rest waiting m = stays
leaving_stage s rec rest (until e r) m = stays
leaving_stage s rec rest (done r) m =
    leaving_by s m (faulted rec rest r m) (committed s rec rest r m)
    r.cause (has_no_room s (note_of r m.arch) m.arch) (note_of r m.arch) (is_fence_i rec.found)

-- what the oldest record does
unfoldable pub leaving : Setup → Machine → Leaving
leaving s m = elim m.window [
  | [] ↦ stays
  | rec ∷ rest ↦ leaving_stage s rec rest rec.stage m
]

-- How the phase ended, beside the machine behind it.
pub data Ending : Type 0 where
  -- without a flush
  plain : Ending
  -- by a trap
  trap : Ending
  -- by a FENCE.I
  sync : Ending

pub record Committed : Type 0 where
  pub machine : Machine
  -- how many records left
  pub left : ℕ
  pub ending : Ending

abbrev pub ended_with : Machine → ℕ → Ending → Committed
ended_with m left ending = record { machine = m; left = left; ending = ending }

-- at most so many more records leave, where `left` have left
unfoldable pub commits : Setup → ℕ → ℕ → Machine → Committed
commits s zero left m = ended_with m left plain
commits s (suc more) left m = elim (leaving s m) [
  | stays ↦ ended_with m left plain
  | full behind ↦ ended_with behind left plain
  | leaves behind ↦ commits s more (left + 1) behind
  | faults behind ↦ ended_with behind (left + 1) trap
  | syncs behind ↦ ended_with behind (left + 1) sync
  | ends behind ↦ ended_with behind (left + 1) plain
]

unfoldable pub commit_phase : Setup → Machine → Committed
commit_phase s m = commits s s.params.core_commit 0 m
