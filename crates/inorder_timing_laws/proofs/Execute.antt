-- The slot that goes on from Execute to Memory is that of the record.
use Rattle.std.proofs.Common.{◌≡◌, ℕ, suc, ◌+◌, ◌&&◌, nat_le, Bool, true, false, if◌then◌else◌, is_none, Option, Some, None, List, [], ◌∷◌, refl, ap, sym, ◌∙◌, subst}
use Rattle.fsim_base.specs.declared.access.Access.{Access}
use Rattle.fsim_base.specs.declared.cause.Cause.{Cause}
use Rattle.fsim_base.specs.declared.instruction.Class.{Class}
use Rattle.rollback_cmds.specs.declared.order.Order.{Order}
use Rattle.mono_model.specs.declared.setup.Setup.{Setup}
use Rattle.mono_model.specs.Result.{Result}
use Rattle.mono_model.specs.Sequence.{result_at}
use Rattle.mono_model.specs.Path.{path, time_of, entry}
use Rattle.mono_model.specs.Window.{Record, Stage, waiting, until, done, class_at}
use Rattle.mono_model.specs.Issue.{cached}
use Rattle.mono_model.specs.Demand.{Demand}
use Rattle.machine_laws.specs.Relation.{HoldsResult, Tracked, Tracks, Related}
use Rattle.timing_side.specs.Timing.{quiet}
use Rattle.timing_side.specs.Complete.{completes, completed_phase}
use Rattle.timing_laws.specs.Seen.{state_of, slot_of, slots_of, seen}
use Rattle.timing_laws.proofs.Entries.{entry_access, entry_cause, slot_class, IsPhase}
use Rattle.timing_laws.proofs.Complete.{completed_until, completes_phase_seen}
use Rattle.inorder_machine.specs.InorderMachine as inorder
use Rattle.inorder_machine.specs.Execute as phase
use Rattle.inorder_machine.specs.Execute.{memory_latency, moving}
use Rattle.inorder_machine.specs.Demand.{inorder_in, demand_moved}
use Rattle.inorder_side.specs.Timing as held
use Rattle.inorder_side.specs.Timing.{InorderTiming, InorderPhase, keeping}
use Rattle.inorder_side.specs.Phases as timing
use Rattle.inorder_side.specs.Phases.{timing_inorder_execute}
use Rattle.inorder_timing_laws.specs.Seen.{inorder_held}
use Rattle.inorder_timing_laws.proofs.Phases.{IsInorderPhase}

-- what the phase takes of the slot in Execute is what it takes of the record there
record IsAlike (x : held.Executing) (y : inorder.Executing) : Type 0 where
  from : x.from ≡ y.from
  class : x.slot.class ≡ class_at y.instruction
  access : x.slot.access ≡ y.result.access
  cause : x.slot.cause ≡ y.result.cause

abbrev AreAlike : Option held.Executing → Option inorder.Executing → Type 0
AreAlike None None = Unit {0}
AreAlike None (Some y) = ⊥
AreAlike (Some x) None = ⊥
AreAlike (Some x) (Some y) = IsAlike x y

module _ (s : Setup) (os : List Order) where
  record_alike : (n : ℕ) (rec : Record) (stage : Stage) (x : Option held.Executing) (y : Option inorder.Executing) → Tracked s (time_of os n) (path s os n) (path s os (suc n)).pc rec →
      HoldsResult stage (result_at s (time_of os n) (path s os n)) → AreAlike x y →
      AreAlike (held.execute_by (slot_of (entry s os n) rec) (state_of stage) x) (inorder.execute_by rec stage y)
  record_alike n rec waiting x y tracked held alike = alike
  record_alike n rec (until e r) x y tracked held alike = record {
    from = refl;
    class = slot_class s os n (path s os (suc n)).pc rec tracked;
    access = entry_access s os n ∙ ap (λ (t : Result). t.access) (sym held);
    cause = entry_cause s os n ∙ ap (λ (t : Result). t.cause) (sym held);
  }
  record_alike n rec (done r) x y tracked held alike = alike

  execute_alike : (n : ℕ) (window : List Record) (fetch_addr : ℕ) (kept : Option ℕ) → Tracks s (time_of os) (path s os) n window fetch_addr kept →
      AreAlike (held.in_execute (slots_of (entry s os) n window)) (inorder.in_execute window)
  execute_alike n [] fetch_addr kept tracks = tt
  execute_alike n (rec ∷ rest) fetch_addr kept tracks =
      record_alike n rec rec.stage (held.in_execute (slots_of (entry s os) (suc n) rest)) (inorder.in_execute rest) tracks.0 tracks.0.result
      (execute_alike (suc n) rest fetch_addr kept tracks.1)

-- the phase, by what it takes of the slot
abbrev moved_by : Setup → InorderTiming → ℕ → Class → Access → Option Cause → InorderPhase
moved_by s l from class access cause =
    if is_none l.memory && nat_le from l.timing.cycle
    then (let d = cached s cause access l.timing.caches in
    keeping (completed_phase (completes from l.timing.slots) (timing.with_caches d.state l.timing))
    (Some (l.timing.cycle + memory_latency s.params class + d.cycles)))
    else keeping (quiet l.timing) l.memory

-- caches don't matter for the relation
cached_related : (s : Setup) (d : Demand) (x : inorder.Executing) → Related s d →
    Related s (record d { machine = record d.machine { caches = (cached s x.result.cause x.result.access d.machine.caches).state } })
cached_related s d x related = record { arch = related.arch; window = related.window; on = related.on; within = related.within }

unmoved_seen : (s : Setup) (d : Demand) (memory : Option ℕ) → IsInorderPhase s d (demand_moved (phase.unmoved (inorder_in d memory)) d) memory (keeping (quiet (seen s d)) memory)
unmoved_seen s d memory = record { inorder = refl; orders = refl }

moved_seen : (s : Setup) (d : Demand) (memory : Option ℕ) (y : inorder.Executing) → Related s d →
    (let c = cached s y.result.cause y.result.access d.machine.caches in
    IsInorderPhase s d (demand_moved (phase.moved s y (inorder_in d memory)) d) (Some (d.machine.cycle + memory_latency s.params (class_at y.instruction) + c.cycles))
    (keeping (completed_phase (completes y.from (seen s d).slots) (timing.with_caches c.state (seen s d))) (Some (d.machine.cycle + memory_latency s.params (class_at y.instruction) + c.cycles))))
unfolding seen
moved_seen s d memory y related =
    let c = cached s y.result.cause y.result.access d.machine.caches in
    let cold : Demand = record d { machine = record d.machine { caches = c.state } } in
    let is : IsPhase s cold (completed_until y.from cold) (completed_phase (completes y.from (seen s cold).slots) (seen s cold)) = completes_phase_seen s y.from cold (cached_related s d y related) in
    record {
      inorder = λ i. record { timing = is.timing i; memory = Some (d.machine.cycle + memory_latency s.params (class_at y.instruction) + c.cycles) };
      orders = is.orders;
    }

may_move_seen : (s : Setup) (d : Demand) (memory : Option ℕ) (y : inorder.Executing) → Related s d →
    (let x = phase.moving_by s (Some y) (inorder_in d memory) in
    IsInorderPhase s d (demand_moved x d) x.memory (moved_by s (inorder_held s d memory) y.from (class_at y.instruction) y.result.access y.result.cause))
unfolding seen
may_move_seen s d memory y related = by_test (is_none memory && nat_le y.from d.machine.cycle)
  where
    by_test : (b : Bool) →
        (let x = if b then phase.moved s y (inorder_in d memory) else phase.unmoved (inorder_in d memory) in
        let c = cached s y.result.cause y.result.access d.machine.caches in
        IsInorderPhase s d (demand_moved x d) x.memory
        (if b then keeping (completed_phase (completes y.from (seen s d).slots) (timing.with_caches c.state (seen s d))) (Some (d.machine.cycle + memory_latency s.params (class_at y.instruction) + c.cycles))
        else keeping (quiet (seen s d)) memory))
    by_test true = moved_seen s d memory y related
    by_test false = unmoved_seen s d memory

executing_seen : (s : Setup) (d : Demand) (memory : Option ℕ) (x : Option held.Executing) (y : Option inorder.Executing) → Related s d → AreAlike x y →
    (let m = phase.moving_by s y (inorder_in d memory) in
    IsInorderPhase s d (demand_moved m d) m.memory (timing.moving_by s x (inorder_held s d memory)))
executing_seen s d memory None None related alike = unmoved_seen s d memory
executing_seen s d memory None (Some y) related alike = absurd alike
executing_seen s d memory (Some x) None related alike = absurd alike
executing_seen s d memory (Some x) (Some y) related alike =
    let l : InorderTiming = inorder_held s d memory in
    let m = phase.moving_by s (Some y) (inorder_in d memory) in
    let e : timing.moving_by s (Some x) l ≡ moved_by s l y.from (class_at y.instruction) y.result.access y.result.cause =
    λ i. moved_by s l (alike.from i) (alike.class i) (alike.access i) (alike.cause i) in
    subst (λ (p : InorderPhase). IsInorderPhase s d (demand_moved m d) m.memory p) (sym e) (may_move_seen s d memory y related)

pub inorder_execute_seen : (s : Setup) (d : Demand) (memory : Option ℕ) → Related s d →
    (let x = moving s (inorder_in d memory) in IsInorderPhase s d (demand_moved x d) x.memory (timing_inorder_execute s (inorder_held s d memory)))
unfolding timing_inorder_execute moving seen
inorder_execute_seen s d memory related =
    executing_seen s d memory (held.in_execute (slots_of (entry s d.orders) d.to_commit d.machine.window)) (inorder.in_execute d.machine.window) related
    (execute_alike s d.orders d.to_commit d.machine.window d.machine.fetch_addr d.machine.kept related.window)
