-- What each turn of the timing side keeps: no more instructions retire than are committed, no miss is waited for longer than
-- the caches take, and the slots stand in the order of their fetch.
use Rattle.std.proofs.Common.{◌≡◌, ℕ, zero, suc, ◌+◌, Option, Some, None, List, [], ◌∷◌, refl, sym, subst, arith}
use Rattle.std.proofs.lemmas.Bool.{cond_both}
use Rattle.cache_timing.specs.Caches.{CachesState}
use Rattle.rollback_cmds.specs.declared.order.Order.{Order}
use Rattle.rollback_cmds.specs.declared.order.Order.TheVariants.{Time}
use Rattle.trace_entry.specs.declared.Entry.{Entry}
use Rattle.reorder_buffer.specs.declared.slot.Slot.{Slot}
use Rattle.mono_model.specs.declared.setup.Setup.{Setup}
use Rattle.mono_model.specs.Sound.{IsSetup}
use Rattle.mono_model.specs.Issue.{cached}
use Rattle.mono_model.specs.Demand.{needed_entry}
use Rattle.timing_side.specs.Timing.{timing_start, quiet, ordering}
use Rattle.timing_side.specs.Complete.{completes}
use Rattle.timing_side.specs.Issue.{replayed}
use Rattle.timing_side.specs.Turn.{timing_end_of_cycle}
use Rattle.timing_core.specs.Small.{IsInOrder}
use Rattle.timing_core.proofs.Ordered.{longer, gone_on, completes_kept}
use Rattle.time_model.specs.BoundedLaws.{IsBounded, interrupt_bounded, commits_bounded, completed_bounded, replayed_bounded, try_bounded}
use Rattle.inorder_machine.specs.Demand.{InorderAt, interrupting, writing, accessing, executing, issuing, trying, ending, stopping, halted, inorder_place, seen}
use Rattle.inorder_side.specs.Timing.{InorderTiming, Executing, in_execute, InorderPhase, keeping}
use Rattle.inorder_side.specs.Phases.{timing_inorder_interrupt, write_width, timing_inorder_write, timing_inorder_memory, with_caches, moved, may_move, moving_by, timing_inorder_execute}
use Rattle.inorder_side.specs.Issue.{may_issue, begun, issue_of, issue_from, wants_time, issued, timing_inorder_issue}
use Rattle.inorder_side.specs.Turn.{timing_inorder_turn}
use Rattle.inorder_side.specs.Step.{InorderTimingPlace, InorderStepped, inorder_timing_place_start, step_by, telling, timing_inorder_step}
use Rattle.inorder_timing_laws.specs.Seen.{inorder_held_at}
use Rattle.inorder_timing_laws.proofs.Stepping.{inorder_starts, inorder_place_step}

module _ (s : Setup) where
  moving_bounded : (l : InorderTiming) (x : Option Executing) → IsBounded l.timing → IsBounded (moving_by s x l).inorder.timing
  moving_bounded l None is = is
  moving_bounded l (Some x) is =
      let caches : CachesState = (cached s x.slot.cause x.slot.access l.timing.caches).state in
      let c = completes x.from l.timing.slots in
      cond_both {A = InorderPhase} (may_move l x) (moved s x l) (keeping (quiet l.timing) l.memory) (λ p. IsBounded p.inorder.timing)
      (λ may. completed_bounded c.redirect c.slots (with_caches caches l.timing) (completes_kept x.from 0 l.timing.cycle l.timing.slots is.order)
      (record { retired = is.retired; resume = is.resume; order = is.order })) (λ may. is)

  -- a turn of issue keeps the cycle of a slot's fetch
  turned_fetched : (l : InorderTiming) (older : List Slot) (slot : Slot) → (issue_of s l older slot).fetched ≡ slot.fetched
  unfolding issue_of
  turned_fetched l older slot = cond_both (may_issue l older slot) (begun s l slot) slot (λ (x : Slot). x.fetched ≡ slot.fetched) (λ e. refl) (λ e. refl)

  issue_kept : (l : InorderTiming) (from to : ℕ) (older slots : List Slot) → IsInOrder from to slots → IsInOrder from to (issue_from s l older slots)
  unfolding issue_from
  issue_kept l from to older [] is = is
  issue_kept l from to older (slot ∷ []) is = gone_on from to slot (issue_of s l older slot) [] (turned_fetched l older slot) is
  issue_kept l from to older (slot ∷ next ∷ rest) is = (is.0, issue_kept l slot.fetched to (slot ∷ older) (next ∷ rest) is.1)

  issue_bounded : (l : InorderTiming) → IsBounded l.timing → IsBounded (timing_inorder_issue s l).inorder.timing
  unfolding timing_inorder_issue
  issue_bounded l is =
      cond_both (wants_time l.timing) (ordering (Time l.timing.to_commit l.timing.cycle) (replayed l.timing)) (quiet (issued s l)) (λ p. IsBounded p.timing)
      (λ e. replayed_bounded l.timing is) (λ e. record {
        retired = is.retired;
        resume = is.resume;
        order = issue_kept l 0 l.timing.cycle [] l.timing.slots is.order;
      })

  module _ (facts : IsSetup s) where
    turn_bounded : (e : Entry) (at : InorderAt) (l : InorderTiming) → IsBounded l.timing → IsBounded (timing_inorder_turn s e at l).inorder.timing
    unfolding timing_inorder_turn timing_inorder_interrupt timing_inorder_write timing_inorder_memory timing_inorder_execute timing_end_of_cycle
    turn_bounded e interrupting l is = interrupt_bounded l.timing is
    turn_bounded e writing l is = commits_bounded s (write_width l) l.timing is
    turn_bounded e accessing l is = is
    turn_bounded e executing l is = moving_bounded l (in_execute l.timing.slots) is
    turn_bounded e issuing l is = issue_bounded l is
    turn_bounded e trying l is = try_bounded s facts e l.timing is
    turn_bounded e ending l is = record {
      retired = is.retired;
      resume = omega (arith, is.resume);
      order = longer 0 l.timing.cycle (l.timing.cycle + 1) l.timing.slots (omega arith) is.order;
    }
    turn_bounded e stopping l is = is
    turn_bounded e halted l is = is

    telling_bounded : (l : InorderTiming) (at : InorderAt) (epoch : ℕ) (os : List Order) → IsBounded l.timing → IsBounded (telling l at epoch os).place.inorder.timing
    telling_bounded l at epoch [] is = is
    telling_bounded l at epoch (o ∷ os) is = is

    step_bounded : (e : Entry) (p : InorderTimingPlace) (owed : List Order) → IsBounded p.inorder.timing → IsBounded (step_by s e p owed).place.inorder.timing
    step_bounded e p [] is =
        let behind = timing_inorder_turn s e p.at p.inorder in
        telling_bounded behind.inorder behind.at p.epoch behind.orders (turn_bounded e p.at p.inorder is)
    step_bounded e p (o ∷ os) is = is

    start_bounded : IsBounded (inorder_held_at s (inorder_place s 0)).inorder.timing
    unfolding inorder_place inorder_timing_place_start timing_start
    start_bounded = subst (λ (p : InorderTimingPlace). IsBounded p.inorder.timing) (sym (inorder_starts s)) (record { retired = omega arith; resume = omega arith; order = omega arith })

    pub held_bounded : (k : ℕ) → IsBounded (inorder_held_at s (inorder_place s k)).inorder.timing
    unfolding timing_inorder_step
    held_bounded zero = start_bounded
    held_bounded (suc k) =
        let p = inorder_held_at s (inorder_place s k) in
        subst (λ (x : InorderStepped). IsBounded x.place.inorder.timing) (inorder_place_step s k) (step_bounded (needed_entry s (seen s k)) p p.owed (held_bounded k))
