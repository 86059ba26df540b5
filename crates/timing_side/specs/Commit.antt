-- The second phase of a cycle: the oldest slots, once done, leave in order
-- (Hennessy and Patterson, Computer Architecture, section 3.6, commit).
use Rattle.std.specs.Prelude.{ℕ, zero, suc, ◌+◌, ◌&&◌, nat_le, if◌then◌else◌, Bool, true, false, Option, Some, None, List, [], ◌∷◌}
use Rattle.fsim_base.specs.declared.cause.Cause.{Cause}
use Rattle.fsim_base.specs.declared.instruction.Halt.{Halt}
use Rattle.rollback_cmds.specs.declared.order.Order.{Order}
use Rattle.rollback_cmds.specs.declared.order.Order.TheVariants.{Set, Sync}
use Rattle.branch_predictor.specs.Predictor.{trained}
use Rattle.reorder_buffer.specs.declared.slot.Slot.{Slot}
use Rattle.reorder_buffer.specs.declared.slot.SlotState.{SlotState}
use Rattle.reorder_buffer.specs.declared.slot.SlotState.TheVariants.{Waiting, Until, Done}
use Rattle.mono_model.specs.declared.final_state.End.TheVariants.{OutputFull}
use Rattle.mono_model.specs.declared.setup.Setup.{Setup}
use Rattle.mono_model.specs.Setup.{predictor_params, caches_params}
use Rattle.mono_model.specs.Found.{flow_in, is_fence_i}
use Rattle.mono_model.specs.Final.{end_of}
use Rattle.mono_model.specs.Commit.{caches_after, branch_count}
use Rattle.mono_model.specs.Demand.{commit_order}
use Rattle.timing_side.specs.Slots.{found_in}
use Rattle.timing_side.specs.Timing.{Timing, cut_to, Phase}

-- The oldest slot, by what it does in this phase, with the state behind it.
pub data Leaving : Type 0 where
  -- there is none, or it isn't done
  stays : Leaving
  -- the output has no room for its byte: the run ends before it
  full : Timing → Leaving
  -- it leaves, and the next may follow
  leaves : Timing → Leaving
  -- it leaves by a trap to the handler at this address, and all younger slots are flushed
  faults : ℕ → Timing → Leaving
  -- a FENCE.I leaves, and all younger slots are flushed
  syncs : Timing → Leaving
  -- it leaves and ends the run
  ends : Timing → Leaving

-- a slot without a cause leaves; what it does to the timer's interrupt was told of it
abbrev pub committed : Setup → Slot → List Slot → Timing → Timing
committed s slot rest t = record t {
  to_commit = t.to_commit + 1;
  slots = rest;
  predictor = trained (predictor_params s.params) t.predictor slot.addr (flow_in (found_in slot)) slot.next;
  caches = caches_after (caches_params s.params) slot.access t.caches;
  counts = record t.counts { branches = t.counts.branches + branch_count (flow_in (found_in slot)) };
  retired = t.retired + 1;
  output = t.output + (if slot.sends then 1 else 0);
  irq_on = slot.irq_on;
  cmp = slot.cmp;
}

-- a slot with a cause leaves by its trap
abbrev pub faulted : Slot → List Slot → Timing → Timing
faulted slot rest t =
    let f = cut_to [] (record t { slots = rest }) in
    record f { to_commit = f.to_commit + 1; irq_on = slot.irq_on; cmp = slot.cmp; counts = record f.counts { exceptions = f.counts.exceptions + 1 } }

abbrev pub leaving_by : Bool → Option Halt → Timing → Leaving
leaving_by fence (Some halt) t = ends (record t { end = end_of halt })
leaving_by true None t = syncs (cut_to [] t)
leaving_by false None t = leaves t

abbrev pub has_no_room : Setup → Slot → Timing → Bool
has_no_room s slot t = slot.sends && nat_le s.output t.output

abbrev pub leaving_done : Setup → Slot → List Slot → Option Cause → Timing → Leaving
leaving_done s slot rest (Some cause) t = faults slot.next (faulted slot rest t)
leaving_done s slot rest None t =
    if has_no_room s slot t
    then full (record t { end = OutputFull })
    else leaving_by (is_fence_i (found_in slot)) slot.halt (committed s slot rest t)

abbrev pub leaving_state : Setup → Slot → List Slot → SlotState → Timing → Leaving
leaving_state s slot rest Waiting t = stays
leaving_state s slot rest (Until e) t = stays
leaving_state s slot rest Done t = leaving_done s slot rest slot.cause t

abbrev pub leaving_first : Setup → List Slot → Timing → Leaving
leaving_first s [] t = stays
leaving_first s (slot ∷ rest) t = leaving_state s slot rest slot.state t

-- what the oldest slot does
unfoldable pub leaving : Setup → Timing → Leaving
leaving s t = leaving_first s t.slots t

-- How the phase ended.
pub data Ending : Type 0 where
  -- without a flush
  plain : Ending
  -- by a trap to the handler at this address
  trap : ℕ → Ending
  -- by a FENCE.I
  sync : Ending

pub record Committed : Type 0 where
  pub timing : Timing
  -- how many slots left
  pub left : ℕ
  pub ending : Ending

abbrev pub ended_with : Timing → ℕ → Ending → Committed
ended_with t left ending = record { timing = t; left = left; ending = ending }

-- behind the oldest slot, of which `left` had left before: on to the next, or the phase ends
abbrev pub after_leaving : Leaving → Timing → ℕ → (Timing → Committed) → Committed
after_leaving stays t left go_on = ended_with t left plain
after_leaving (full behind) t left go_on = ended_with behind left plain
after_leaving (leaves behind) t left go_on = go_on behind
after_leaving (faults handler behind) t left go_on = ended_with behind (left + 1) (trap handler)
after_leaving (syncs behind) t left go_on = ended_with behind (left + 1) sync
after_leaving (ends behind) t left go_on = ended_with behind (left + 1) plain

-- at most so many more slots leave
unfoldable pub commits : Setup → ℕ → ℕ → Timing → Committed
commits s zero left t = ended_with t left plain
commits s (suc more) left t = after_leaving (leaving s t) t left (λ behind. commits s more (left + 1) behind)

-- Commit first, if slots left, and then what the ending asks for
abbrev pub ending_orders : Ending → ℕ → List Order → List Order
ending_orders plain done os = os
ending_orders (trap handler) done os = Set done handler ∷ os
ending_orders sync done os = Sync done ∷ os

abbrev pub committed_phase : Committed → Phase
committed_phase c = record {
  timing = c.timing;
  orders = ending_orders c.ending c.timing.to_commit (commit_order c.left c.timing.to_commit []);
}

unfoldable pub timing_commit : Setup → Timing → Phase
timing_commit s t = committed_phase (commits s s.params.core_commit 0 t)
