-- What the oldest record does, case by case; and what one commit keeps, every commit keeps.
use Rattle.std.proofs.Common.{◌≡◌, ℕ, zero, suc, ◌+◌, Bool, true, false, Option, Some, None, List, [], ◌∷◌, refl, ap}
use Rattle.fsim_base.specs.declared.cause.Cause.{Cause}
use Rattle.fsim_base.specs.declared.instruction.Halt.{Halt}
use Rattle.device_bus.specs.declared.undo.Note.{Note}
use Rattle.device_bus.specs.declared.undo.Note.TheVariants as note
use Rattle.mono_model.specs.declared.final_state.End.TheVariants.{OutputFull}
use Rattle.mono_model.specs.declared.setup.Setup.{Setup}
use Rattle.mono_model.specs.Found.{is_fence_i}
use Rattle.mono_model.specs.Result.{Result}
use Rattle.mono_model.specs.Effect.{note_of}
use Rattle.mono_model.specs.Sequence.{halt_in}
use Rattle.mono_model.specs.Final.{end_of}
use Rattle.mono_model.specs.Alone.{has_no_room}
use Rattle.mono_model.specs.Window.{Record, Stage, waiting, until, done}
use Rattle.mono_model.specs.Machine.{Machine}
use Rattle.mono_model.specs.Commit.{Leaving, stays, full, leaves, faults, syncs, ends, committed, faulted, fenced, leaving_by, leaving_stage, leaving, plain, trap, sync, Committed, ended_with, commits}

-- the oldest record is done, with this result
pub record IsDone (m : Machine) (rec : Record) (rest : List Record) (r : Result) : Type 0 where
  pub window : m.window ≡ rec ∷ rest
  pub stage : rec.stage ≡ done r

-- it leaves without a trap, and so ends the run or not
pub record Passes (s : Setup) (m : Machine) (r : Result) (halt : Option Halt) : Type 0 where
  pub cause : r.cause ≡ None
  pub room : has_no_room s (note_of r m.arch) m.arch ≡ false
  pub halts : halt_in (note_of r m.arch) ≡ halt

-- `P` in each case of a record that is done
pub record InEachCase (s : Setup) (m : Machine) (rec : Record) (rest : List Record) (r : Result) (P : Leaving → Type 0) : Type 0 where
  pub if_faults : (cause : Cause) → r.cause ≡ Some cause → P (faults (faulted rec rest r m))
  pub if_full : r.cause ≡ None → has_no_room s (note_of r m.arch) m.arch ≡ true → P (full (record m { end = OutputFull }))
  pub if_ends : (halt : Halt) → Passes s m r (Some halt) → P (ends (record (committed s rec rest r m) { end = end_of halt }))
  pub if_syncs : Passes s m r None → is_fence_i rec.found ≡ true → P (syncs (fenced s (committed s rec rest r m)))
  pub if_leaves : Passes s m r None → is_fence_i rec.found ≡ false → P (leaves (committed s rec rest r m))

module _ (s : Setup) (m : Machine) (rec : Record) (rest : List Record) (r : Result) (P : Leaving → Type 0) (each : InEachCase s m rec rest r P) where
  passing : (what : Note) (fence : Bool) → note_of r m.arch ≡ what → is_fence_i rec.found ≡ fence → r.cause ≡ None → has_no_room s (note_of r m.arch) m.arch ≡ false →
      P (leaving_by s m (faulted rec rest r m) (committed s rec rest r m) None false what fence)
  passing (note.End halt) fence is it none room = each.if_ends halt (record { cause = none; room = room; halts = ap halt_in is })
  passing note.Nothing true is it none room = each.if_syncs (record { cause = none; room = room; halts = ap halt_in is }) it
  passing (note.Out byte) true is it none room = each.if_syncs (record { cause = none; room = room; halts = ap halt_in is }) it
  passing note.Nothing false is it none room = each.if_leaves (record { cause = none; room = room; halts = ap halt_in is }) it
  passing (note.Out byte) false is it none room = each.if_leaves (record { cause = none; room = room; halts = ap halt_in is }) it

  with_room : (no_room : Bool) → has_no_room s (note_of r m.arch) m.arch ≡ no_room → r.cause ≡ None →
      P (leaving_by s m (faulted rec rest r m) (committed s rec rest r m) None no_room (note_of r m.arch) (is_fence_i rec.found))
  with_room true room none = each.if_full none room
  with_room false room none = passing (note_of r m.arch) (is_fence_i rec.found) refl refl none room

  with_cause : (cause : Option Cause) → r.cause ≡ cause →
      P (leaving_by s m (faulted rec rest r m) (committed s rec rest r m) cause (has_no_room s (note_of r m.arch) m.arch) (note_of r m.arch) (is_fence_i rec.found))
  with_cause (Some cause) is = each.if_faults cause is
  with_cause None is = with_room (has_no_room s (note_of r m.arch) m.arch) refl is

  -- by the cases of a record that is done
  pub done_case : P (leaving_stage s rec rest (done r) m)
  done_case = with_cause r.cause refl

module _ (s : Setup) (m : Machine) (P : Leaving → Type 0) (none : P stays)
    (each : (rec : Record) (rest : List Record) (r : Result) → IsDone m rec rest r → InEachCase s m rec rest r P) where
  by_stage : (rec : Record) (rest : List Record) (stage : Stage) → m.window ≡ rec ∷ rest → rec.stage ≡ stage → P (leaving_stage s rec rest stage m)
  by_stage rec rest waiting there is = none
  by_stage rec rest (until e r) there is = none
  by_stage rec rest (done r) there is = done_case s m rec rest r P (each rec rest r (record { window = there; stage = is }))

  by_window : (w : List Record) → m.window ≡ w → P (elim w [ [] ↦ stays | rec ∷ rest ↦ leaving_stage s rec rest rec.stage m ])
  by_window [] there = none
  by_window (rec ∷ rest) there = by_stage rec rest rec.stage there refl

  -- by what the oldest record does
  pub leaving_case : P (leaving s m)
  unfolding leaving
  leaving_case = by_window m.window refl

-- Behind the oldest record: `P` where the phase goes on, with so many records gone, and `Q` where it has ended.
abbrev pub GoesOn : (ℕ → Machine → Type 0) → (Committed → Type 0) → ℕ → Machine → Leaving → Type 0
GoesOn P Q left m stays = Q (ended_with m left plain)
GoesOn P Q left m (full behind) = Q (ended_with behind left plain)
GoesOn P Q left m (leaves behind) = P (left + 1) behind
GoesOn P Q left m (faults behind) = Q (ended_with behind (left + 1) trap)
GoesOn P Q left m (syncs behind) = Q (ended_with behind (left + 1) sync)
GoesOn P Q left m (ends behind) = Q (ended_with behind (left + 1) plain)

-- What one commit keeps, every commit keeps: `P more left m` where at most `more` records may still leave and `left` have
-- left, and `Q` where the phase has ended.
module _ (s : Setup) (P : ℕ → ℕ → Machine → Type 0) (Q : Committed → Type 0) (last : (left : ℕ) (m : Machine) → P 0 left m → Q (ended_with m left plain))
    (one : (more left : ℕ) (m : Machine) → P (suc more) left m → GoesOn (P more) Q left m (leaving s m)) where
  behind_one : (more left : ℕ) (m : Machine) (l : Leaving) → GoesOn (P more) Q left m l → ((next : Machine) → P more (left + 1) next → Q (commits s more (left + 1) next)) → Q (elim l [
    | stays ↦ ended_with m left plain
    | full next ↦ ended_with next left plain
    | leaves next ↦ commits s more (left + 1) next
    | faults next ↦ ended_with next (left + 1) trap
    | syncs next ↦ ended_with next (left + 1) sync
    | ends next ↦ ended_with next (left + 1) plain
  ])
  behind_one more left m stays goes on = goes
  behind_one more left m (full next) goes on = goes
  behind_one more left m (leaves next) goes on = on next goes
  behind_one more left m (faults next) goes on = goes
  behind_one more left m (syncs next) goes on = goes
  behind_one more left m (ends next) goes on = goes

  pub every_commit : (more left : ℕ) (m : Machine) → P more left m → Q (commits s more left m)
  unfolding commits
  every_commit zero left m is = last left m is
  every_commit (suc more) left m is = behind_one more left m (leaving s m) (one more left m is) (every_commit more (left + 1))
