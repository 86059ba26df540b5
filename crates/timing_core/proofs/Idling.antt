-- A cycle in which nothing happens, phase by phase.
use Rattle.std.proofs.Common.{◌≡◌, ℕ, zero, suc, ◌+◌, ◌<◌, ◌≤◌, ◌&&◌, ◌==◌, nat_le, nat_lt, Bool, true, false, Some, List, [], ◌∷◌, length, inl, inr, refl, ap, sym, subst, ◌∙◌, arith}
use Rattle.std.specs.Prelude.{slice_get}
use Rattle.std.proofs.lemmas.Bool.{cases_lt}
use Rattle.reorder_buffer.specs.declared.slot.Slot.{Slot}
use Rattle.reorder_buffer.specs.declared.slot.SlotState.{SlotState}
use Rattle.reorder_buffer.specs.declared.slot.SlotState.TheVariants.{Waiting, Until, Done}
use Rattle.mono_model.specs.declared.params.Params.{Params}
use Rattle.mono_model.specs.declared.setup.Setup.{Setup}
use Rattle.mono_model.specs.Final.{has_ended}
use Rattle.mono_model.specs.Issue.{none_used, has_unit}
use Rattle.timing_side.specs.Slots.{is_waiting_state, waiting_count}
use Rattle.timing_side.specs.Timing.{Timing, quiet}
use Rattle.timing_side.specs.Interrupt.{timing_interrupt}
use Rattle.timing_side.specs.Commit as phase
use Rattle.timing_side.specs.Commit.{Leaving, Committed, plain, ended_with, leaving, leaving_first, leaving_state, after_leaving, commits, committed_phase, timing_commit}
use Rattle.timing_side.specs.Complete.{Completed, is_finishing, completed_phase, timing_complete}
use Rattle.timing_side.specs.Issue.{busy_divisions, has_operands, class_allows, may_begin, Walked, walk, wants_time_first, timing_issue}
use Rattle.timing_side.specs.Fetch.{may_fetch}
use Rattle.in_flight.specs.Flight.{older_at, may_start, may_start_at, is_executing_state, executes, executes_at}
use Rattle.timing_core.specs.declared.state.TimingCore.{TimingCore}
use Rattle.timing_core.specs.CoreStandsFor.{CoreStandsFor}
use Rattle.timing_core.specs.Idle.{IsIdle, is_held_up, could_begin}
use Rattle.timing_core.proofs.Phases.{interrupts}
use Rattle.timing_core.proofs.Issuing.{issues}
use Rattle.timing_core.proofs.Finishing.{none_due}
use Rattle.timing_core.proofs.Walks.{walk_starts, walk_ends, rests_some}

-- fetch waits for a miss, or has no room
pub waits_at : (s : Setup) (t : Timing) (cycle resume : ℕ) → resume ≡ t.resume → cycle < resume → may_fetch s (record t { cycle = cycle }) ≡ false
unfolding may_fetch
waits_at s t cycle resume is before =
    let late : nat_le t.resume cycle ≡ false = grind arith in
    ap (λ (b : Bool). b && nat_lt (length t.slots) s.params.core_window && nat_lt (waiting_count t.slots) s.params.core_stations) late

not_both : (a b c : Bool) → (b && c) ≡ false → (a && b && c) ≡ false
not_both true true c is = is
not_both true false c is = refl
not_both false b c is = refl

pub has_none : (s : Setup) (t : Timing) (cycle : ℕ) (room : Bool) → room ≡ (nat_lt (length t.slots) s.params.core_window && nat_lt (waiting_count t.slots) s.params.core_stations) →
    room ≡ false → may_fetch s (record t { cycle = cycle }) ≡ false
unfolding may_fetch
has_none s t cycle room is none = not_both (nat_le t.resume cycle) _ _ (sym is ∙ none)

-- no interrupt is taken before its cycle
not_yet : (on : Bool) (cmp cycle : ℕ) → (on ≡ true → cycle < cmp) → (on && nat_le cmp cycle) ≡ false
not_yet false cmp cycle before = refl
not_yet true cmp cycle before = let early : cycle < cmp = before refl in let e : nat_le cmp cycle ≡ false = grind arith in e

interrupt_quiet : (t : Timing) → (t.irq_on ≡ true → t.cycle < t.cmp) → timing_interrupt t ≡ quiet t
interrupt_quiet t before = interrupts t false (not_yet t.irq_on t.cmp t.cycle before)

-- nothing leaves where the oldest executes
state_stays : (s : Setup) (slot : Slot) (rest : List Slot) (state : SlotState) (t : Timing) → is_executing_state state ≡ true → leaving_state s slot rest state t ≡ phase.stays
state_stays s slot rest Waiting t is = refl
state_stays s slot rest (Until e) t is = refl
state_stays s slot rest Done t is = cc

first_stays : (s : Setup) (slots : List Slot) (t : Timing) → is_held_up slots ≡ true → leaving_first s slots t ≡ phase.stays
first_stays s [] t is = refl
first_stays s (slot ∷ rest) t is = state_stays s slot rest slot.state t is

commits_stay : (s : Setup) (most : ℕ) (t : Timing) → leaving s t ≡ phase.stays → commits s most 0 t ≡ ended_with t 0 plain
unfolding commits
commits_stay s zero t is = refl
commits_stay s (suc more) t is = ap (λ (l : Leaving). after_leaving l t 0 (λ behind. commits s more (0 + 1) behind)) is

commit_quiet : (s : Setup) (t : Timing) → is_held_up t.slots ≡ true → timing_commit s t ≡ quiet t
unfolding leaving timing_commit
commit_quiet s t is = ap committed_phase (commits_stay s s.params.core_commit t (first_stays s t.slots t is))

-- nothing is done before the first slot that executes is
not_finishing : (cycle : ℕ) (state : SlotState) → ((end : ℕ) → state ≡ Until end → cycle < end) → is_finishing cycle state ≡ false
not_finishing cycle Waiting before = refl
not_finishing cycle (Until e) before = let early : cycle < e = before e refl in let r : (e == cycle) ≡ false = grind arith in r
not_finishing cycle Done before = refl

complete_quiet : (t : Timing) → ((k : ℕ) (slot : Slot) (end : ℕ) → slice_get t.slots k ≡ Some slot → slot.state ≡ Until end → t.cycle < end) → timing_complete t ≡ quiet t
unfolding timing_complete
complete_quiet t before = ap (λ (c : Completed). completed_phase c t)
    (none_due t.cycle t.slots (λ k slot there. not_finishing t.cycle slot.state (λ end is. before k slot end there is)))

-- where a slot doesn't execute no latency is to be waited for
not_until : (slots : List Slot) (k : ℕ) (slot : Slot) (end : ℕ) → slice_get slots k ≡ Some slot → slot.state ≡ Until end → executes_at slots k ≡ false → ⊥
not_until slots k slot end there is off =
    let on : executes_at slots k ≡ true = ap executes there ∙ ap is_executing_state is in cc

-- the first end behind one place more that executes, with none between
pub earlier : (slots : List Slot) (from place first now found : ℕ) (at : Slot) →
    ((k : ℕ) (slot : Slot) (end : ℕ) → k < from → slice_get slots k ≡ Some slot → slot.state ≡ Until end → first ≤ end) →
    ((k : ℕ) → from ≤ k → k < place → executes_at slots k ≡ false) → slice_get slots place ≡ Some at → ((end : ℕ) → at.state ≡ Until end → found ≤ end) →
    now ≤ first → now ≤ found → (k : ℕ) (slot : Slot) (end : ℕ) → k < place + 1 → slice_get slots k ≡ Some slot → slot.state ≡ Until end → now ≤ end
earlier slots from place first now found at before rest here ends low few k slot end below there is = elim (cases_lt k from) [
  | inl under ↦ let e = before k slot end under there is in omega (arith, e, low)
  | inr over ↦ elim (cases_lt k place) [
    | inl between ↦ absurd (not_until slots k slot end there is (rest k over between))
    | inr last ↦
        let same : k ≡ place = omega (arith, last, below) in
        let this : at ≡ slot = let that : slice_get slots place ≡ Some slot = subst (λ (n : ℕ). slice_get slots n ≡ Some slot) same there in cc in
        let e = ends end (ap (λ (x : Slot). x.state) this ∙ is) in omega (arith, e, few)
  ]
]

pub earliest : (slots : List Slot) (from first : ℕ) →
    ((k : ℕ) (slot : Slot) (end : ℕ) → k < from → slice_get slots k ≡ Some slot → slot.state ≡ Until end → first ≤ end) →
    ((k : ℕ) → from ≤ k → executes_at slots k ≡ false) → (k : ℕ) (slot : Slot) (end : ℕ) → slice_get slots k ≡ Some slot → slot.state ≡ Until end → first ≤ end
earliest slots from first before rest k slot end there is = elim (cases_lt k from) [
  | inl under ↦ before k slot end under there is
  | inr over ↦ absurd (not_until slots k slot end there is (rest k over))
]

-- none is sent back for the time where the oldest executes
not_waiting : (state : SlotState) → is_executing_state state ≡ true → is_waiting_state state ≡ false
not_waiting Waiting is = cc
not_waiting (Until e) is = refl
not_waiting Done is = cc

none_wants : (p : Params) (cycle : ℕ) (slots : List Slot) → is_held_up slots ≡ true → wants_time_first p cycle slots ≡ false
none_wants p cycle [] is = refl
none_wants p cycle (slot ∷ rest) is =
    ap (λ (waits : Bool). (waits && nat_le (slot.fetched + p.core_front) cycle) && slot.unserved) (not_waiting slot.state is)

-- a slot that has its operands begins in no cycle where its class or the units don't let it
held_back : (waits passed operands allows free : Bool) → ((waits && operands) ≡ true → (allows && free) ≡ false) → (waits && passed && operands && allows && free) ≡ false
held_back false passed operands allows free is = refl
held_back true false operands allows free is = refl
held_back true true false allows free is = refl
held_back true true true allows free is = is refl

module _ (s : Setup) (t : Timing) (none : (k : ℕ) (slot : Slot) → slice_get t.slots k ≡ Some slot → may_start_at t.slots k ≡ true → could_begin s.params t.slots k slot ≡ false) where
  not_begun : (k : ℕ) (slot : Slot) → slice_get t.slots k ≡ Some slot →
      may_begin s.params t.cycle (busy_divisions t.slots) (older_at t.slots k) slot none_used ≡ false
  not_begun k slot there =
      held_back (is_waiting_state slot.state) (nat_le (slot.fetched + s.params.core_front) t.cycle) (has_operands (older_at t.slots k) slot)
      (class_allows slot.class slot.access (older_at t.slots k)) (has_unit s.params (busy_divisions t.slots + none_used.div) none_used slot.class)
      (λ starts. none k slot there (ap (may_start (older_at t.slots k)) there ∙ starts))

  walks_by : walk s t.cycle (busy_divisions t.slots) t.slots [] none_used t.caches ≡ record { slots = t.slots; caches = t.caches }
  walks_by =
      let busy = busy_divisions t.slots in
      walk_starts s t.cycle busy t.slots none_used t.caches
      ∙ rests_some s t.cycle busy (length t.slots) t.slots 0 none_used t.caches (λ k slot above there. not_begun k slot there)
      ∙ walk_ends s t.cycle busy t.slots (0 + length t.slots) none_used t.caches (omega arith)

  issue_quiet : is_held_up t.slots ≡ true → timing_issue s t ≡ quiet t
  issue_quiet held =
      issues s t false (none_wants s.params t.cycle t.slots held)
      ∙ ap (λ (w : Walked). quiet (record t { slots = w.slots; caches = w.caches })) walks_by

-- the core in another cycle stands for the state in that cycle
pub in_cycle : (s : Setup) (t : Timing) (core : TimingCore) (cycle : ℕ) → CoreStandsFor s t (record core { cycle = cycle }) →
    CoreStandsFor s (record t { cycle = core.cycle }) core
in_cycle s t core cycle k = record {
  params = k.params;
  cycle_limit = k.cycle_limit;
  output_limit = k.output_limit;
  room = k.room;
  slots = k.slots;
  predictor = k.predictor;
  caches = k.caches;
  cycle = refl;
  to_commit = k.to_commit;
  resume = k.resume;
  paid = k.paid;
  counts = k.counts;
  retired = k.retired;
  output = k.output;
  irq_on = k.irq_on;
  cmp = k.cmp;
  end = k.end;
}

-- a cycle before anything may happen is idle
pub idles : (s : Setup) (t : Timing) (core : TimingCore) (cycle next : ℕ) → CoreStandsFor s t (record core { cycle = cycle }) → cycle < next →
    is_held_up core.flight.slots ≡ true → has_ended t.end ≡ false →
    ((k : ℕ) (slot : Slot) → slice_get core.flight.slots k ≡ Some slot → may_start_at core.flight.slots k ≡ true → could_begin core.params core.flight.slots k slot ≡ false) →
    ((k : ℕ) (slot : Slot) (end : ℕ) → slice_get core.flight.slots k ≡ Some slot → slot.state ≡ Until end → next ≤ end) →
    next ≤ core.cycle_limit → (core.irq.on ≡ true → next ≤ core.irq.cmp) →
    ((s : Setup) (t : Timing) (cycle : ℕ) → CoreStandsFor s t core → cycle < next → may_fetch s (record t { cycle = cycle }) ≡ false) → IsIdle s t
idles s t core cycle next k before held running none ends limit interrupt fetch =
    let now : cycle ≡ t.cycle = k.cycle in
    let standing : is_held_up t.slots ≡ true = ap is_held_up (sym k.slots) ∙ held in
    record {
      interrupt = interrupt_quiet t (λ on. let due = interrupt (k.irq_on ∙ on) in omega (arith, due, before, now, k.cmp));
      commit = commit_quiet s t standing;
      complete = complete_quiet t (λ n slot end there is. let later = ends n slot end (ap (λ (l : List Slot). slice_get l n) k.slots ∙ there) is in omega (arith, later, before, now));
      issue = issue_quiet s t (λ n slot there starts.
          ap (λ (p : Params). could_begin p t.slots n slot) (sym k.params) ∙ ap (λ (l : List Slot). could_begin core.params l n slot) (sym k.slots)
          ∙ none n slot (ap (λ (l : List Slot). slice_get l n) k.slots ∙ there) (ap (λ (l : List Slot). may_start_at l n) k.slots ∙ starts)) standing;
      fetch = ap (λ (n : ℕ). may_fetch s (record t { cycle = n })) (sym now) ∙ fetch s (record t { cycle = core.cycle }) cycle (in_cycle s t core cycle k) before;
      running = running;
      limit = omega (arith, before, limit, now, k.cycle_limit);
    }
