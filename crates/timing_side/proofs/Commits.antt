-- What the oldest slot does, case by case; and what one commit keeps, every commit keeps.
use Rattle.std.proofs.Common.{◌≡◌, ℕ, zero, suc, ◌+◌, if◌then◌else◌, Bool, true, false, Option, Some, None, List, [], ◌∷◌, refl}
use Rattle.fsim_base.specs.declared.cause.Cause.{Cause}
use Rattle.fsim_base.specs.declared.instruction.Halt.{Halt}
use Rattle.reorder_buffer.specs.declared.slot.Slot.{Slot}
use Rattle.reorder_buffer.specs.declared.slot.SlotState.{SlotState}
use Rattle.reorder_buffer.specs.declared.slot.SlotState.TheVariants.{Waiting, Until, Done}
use Rattle.mono_model.specs.declared.final_state.End.TheVariants.{OutputFull}
use Rattle.mono_model.specs.declared.setup.Setup.{Setup}
use Rattle.mono_model.specs.Found.{is_fence_i}
use Rattle.mono_model.specs.Final.{end_of}
use Rattle.timing_side.specs.Slots.{found_in}
use Rattle.timing_side.specs.Timing.{Timing, cut_to}
use Rattle.timing_side.specs.Commit.{Leaving, stays, full, leaves, faults, syncs, ends, committed, faulted, leaving_by, has_no_room, leaving_done, leaving_state, leaving_first, leaving, plain, trap, sync, Committed, ended_with, after_leaving, commits}

-- the oldest slot is done
pub record IsDone (t : Timing) (slot : Slot) (rest : List Slot) : Type 0 where
  pub slots : t.slots ≡ slot ∷ rest
  pub state : slot.state ≡ Done

-- it leaves without a trap, and so ends the run or not
pub record Passes (s : Setup) (t : Timing) (slot : Slot) (halt : Option Halt) : Type 0 where
  pub cause : slot.cause ≡ None
  pub room : has_no_room s slot t ≡ false
  pub halts : slot.halt ≡ halt

-- `P` in each case of a slot that is done
pub record InEachCase (s : Setup) (t : Timing) (slot : Slot) (rest : List Slot) (P : Leaving → Type 0) : Type 0 where
  pub if_faults : (cause : Cause) → slot.cause ≡ Some cause → P (faults slot.next (faulted slot rest t))
  pub if_full : slot.cause ≡ None → has_no_room s slot t ≡ true → P (full (record t { end = OutputFull }))
  pub if_ends : (halt : Halt) → Passes s t slot (Some halt) → P (ends (record (committed s slot rest t) { end = end_of halt }))
  pub if_syncs : Passes s t slot None → is_fence_i (found_in slot) ≡ true → P (syncs (cut_to [] (committed s slot rest t)))
  pub if_leaves : Passes s t slot None → is_fence_i (found_in slot) ≡ false → P (leaves (committed s slot rest t))

module _ (s : Setup) (t : Timing) (slot : Slot) (rest : List Slot) (P : Leaving → Type 0) (each : InEachCase s t slot rest P) where
  passing : (fence : Bool) (halt : Option Halt) → is_fence_i (found_in slot) ≡ fence → slot.halt ≡ halt → slot.cause ≡ None → has_no_room s slot t ≡ false →
      P (leaving_by fence halt (committed s slot rest t))
  passing fence (Some halt) it is none room = each.if_ends halt (record { cause = none; room = room; halts = is })
  passing true None it is none room = each.if_syncs (record { cause = none; room = room; halts = is }) it
  passing false None it is none room = each.if_leaves (record { cause = none; room = room; halts = is }) it

  with_cause : (cause : Option Cause) → slot.cause ≡ cause → P (leaving_done s slot rest cause t)
  with_cause (Some cause) is = each.if_faults cause is
  with_cause None is = with_room (has_no_room s slot t) refl
    where
      with_room : (no_room : Bool) → has_no_room s slot t ≡ no_room →
          P (if no_room then full (record t { end = OutputFull }) else leaving_by (is_fence_i (found_in slot)) slot.halt (committed s slot rest t))
      with_room true room = each.if_full is room
      with_room false room = passing (is_fence_i (found_in slot)) slot.halt refl refl is room

module _ (s : Setup) (t : Timing) (P : Leaving → Type 0) (none : P stays)
    (each : (slot : Slot) (rest : List Slot) → IsDone t slot rest → InEachCase s t slot rest P) where
  by_state : (slot : Slot) (rest : List Slot) (state : SlotState) → t.slots ≡ slot ∷ rest → slot.state ≡ state → P (leaving_state s slot rest state t)
  by_state slot rest Waiting there is = none
  by_state slot rest (Until e) there is = none
  by_state slot rest Done there is = with_cause s t slot rest P (each slot rest (record { slots = there; state = is })) slot.cause refl

  by_slots : (slots : List Slot) → t.slots ≡ slots → P (leaving_first s slots t)
  by_slots [] there = none
  by_slots (slot ∷ rest) there = by_state slot rest slot.state there refl

  -- by what the oldest slot does
  pub leaving_case : P (leaving s t)
  unfolding leaving
  leaving_case = by_slots t.slots refl

pub commits-suc : (s : Setup) (more left : ℕ) (t : Timing) →
    commits s (suc more) left t ≡ after_leaving (leaving s t) t left (λ behind. commits s more (left + 1) behind)
unfolding commits
commits-suc s more left t = refl

-- Behind the oldest slot: `P` where the phase goes on, with so many slots gone, and `Q` where it has ended.
abbrev pub GoesOn : (ℕ → Timing → Type 0) → (Committed → Type 0) → ℕ → Timing → Leaving → Type 0
GoesOn P Q left t stays = Q (ended_with t left plain)
GoesOn P Q left t (full behind) = Q (ended_with behind left plain)
GoesOn P Q left t (leaves behind) = P (left + 1) behind
GoesOn P Q left t (faults handler behind) = Q (ended_with behind (left + 1) (trap handler))
GoesOn P Q left t (syncs behind) = Q (ended_with behind (left + 1) sync)
GoesOn P Q left t (ends behind) = Q (ended_with behind (left + 1) plain)

-- What one commit keeps, every commit keeps: `P more left t` where at most `more` slots may still leave and `left` have
-- left, and `Q` where the phase has ended.
module _ (s : Setup) (P : ℕ → ℕ → Timing → Type 0) (Q : Committed → Type 0) (last : (left : ℕ) (t : Timing) → P 0 left t → Q (ended_with t left plain))
    (one : (more left : ℕ) (t : Timing) → P (suc more) left t → GoesOn (P more) Q left t (leaving s t)) where
  behind_one : (more left : ℕ) (t : Timing) (l : Leaving) (go_on : Timing → Committed) → GoesOn (P more) Q left t l →
      ((next : Timing) → P more (left + 1) next → Q (go_on next)) → Q (after_leaving l t left go_on)
  behind_one more left t stays go_on goes on = goes
  behind_one more left t (full next) go_on goes on = goes
  behind_one more left t (leaves next) go_on goes on = on next goes
  behind_one more left t (faults handler next) go_on goes on = goes
  behind_one more left t (syncs next) go_on goes on = goes
  behind_one more left t (ends next) go_on goes on = goes

  pub every_commit : (more left : ℕ) (t : Timing) → P more left t → Q (commits s more left t)
  unfolding commits
  every_commit zero left t is = last left t is
  every_commit (suc more) left t is =
      behind_one more left t (leaving s t) (λ behind. commits s more (left + 1) behind) (one more left t is) (every_commit more (left + 1))
