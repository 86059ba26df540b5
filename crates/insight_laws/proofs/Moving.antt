-- What a cycle makes of the records under way, on either machine.
use Rattle.std.proofs.Common.{◌≡◌, ℕ, ◌+◌, ◌≤◌, ◌&&◌, nat_lt, if◌then◌else◌, is_none, Bool, true, false, Option, Some, None, List, [], ◌∷◌, ◌++◌, length, drop, refl, sym, append-nil, arith}
use Rattle.std.proofs.lemmas.Bool.{and_parts, cond_both}
use Rattle.mono_model.specs.declared.setup.Setup.{Setup}
use Rattle.mono_model.specs.Final.{has_ended}
use Rattle.mono_model.specs.Window.{Record, class_at, is_waiting}
use Rattle.mono_model.specs.Machine.{Machine}
use Rattle.mono_model.specs.Interrupt.{interrupt_phase}
use Rattle.mono_model.specs.Commit.{commit_phase}
use Rattle.mono_model.specs.Complete.{complete_phase, completed_by}
use Rattle.mono_model.specs.Issue.{class_allows, has_operands, issue_phase, replayed}
use Rattle.mono_model.specs.Fetch.{after_try, fetch_phase, fetch_try}
use Rattle.mono_model.specs.Cycle.{cycled, end_of_cycle, phases}
use Rattle.inorder_machine.specs.InorderMachine.{Executing, InorderMachine, has_write, in_execute}
use Rattle.inorder_machine.specs.Write.{inorder_commit, inorder_interrupt, inorder_write, write_width}
use Rattle.inorder_machine.specs.Memory.{inorder_memory}
use Rattle.inorder_machine.specs.Execute.{Moved, inorder_execute, may_move, moved, moving, moving_by, unmoved}
use Rattle.inorder_machine.specs.Issue.{begun, decoded_result, execute_latency, found_in_order, inorder_issue, inorder_wants_time, is_past_fetch, issue_from, issue_of, issued, may_issue}
use Rattle.inorder_machine.specs.Fetch.{inorder_fetch, inorder_may_fetch}
use Rattle.inorder_machine.specs.Cycle.{inorder_cycle_end, inorder_cycled, inorder_phases}
use Rattle.insight_laws.proofs.Later.{AreLater, IsLater, all_same, later_same}
use Rattle.insight_laws.proofs.Advancing.{Advances, AdvancesBy, Fetches, Stays, advances_none, all_fetches, begins_later, commits_advance, complete_stays, completed_stays, completes_later, fetches_none, interrupt_stays, issue_stays, one_fetch, replayed_stays, stays_on}

-- So many left, others stayed, and some were appended.
pub record Moves (m : Machine) (most : ℕ) (y : Machine) : Type 0 where
  pub left : ℕ
  pub kept : List Record
  pub fresh : List Record
  pub few : left ≤ most
  pub retired : m.arch.csrs.retired ≤ y.arch.csrs.retired
  pub exceptions : m.counts.exceptions ≤ y.counts.exceptions
  pub departed : y.arch.csrs.retired + y.counts.exceptions ≡ m.arch.csrs.retired + m.counts.exceptions + left
  pub fetched : y.counts.fetched ≡ m.counts.fetched + length fresh
  pub window : y.window ≡ kept ++ fresh
  pub within : left + length kept ≤ length m.window
  pub later : AreLater kept (drop left m.window)

moves_none : (m : Machine) (most : ℕ) → Moves m most m
moves_none m most = record {
  left = 0;
  kept = m.window;
  fresh = [];
  few = omega arith;
  retired = omega arith;
  exceptions = omega arith;
  departed = omega arith;
  fetched = omega arith;
  window = sym (append-nil m.window);
  within = omega arith;
  later = all_same m.window;
}

moves_by : (m x y : Machine) (most left : ℕ) → Advances m left x → left ≤ most → Fetches x y → Moves m most y
moves_by m x y most left on few more = record {
  left = left;
  kept = x.window;
  fresh = more.fresh;
  few = few;
  retired = omega (arith, on.retired, more.retired);
  exceptions = omega (arith, on.exceptions, more.exceptions);
  departed = omega (arith, on.departed, more.retired, more.exceptions);
  fetched = omega (arith, on.fetched, more.fetched);
  window = more.window;
  within = on.within;
  later = on.later;
}

-- the end of the cycle changes nothing of these
ends_by : (s : Setup) (m y : Machine) (most : ℕ) → Moves m most y → Moves m most (end_of_cycle s y)
unfolding end_of_cycle
ends_by s m y most moves = record {
  left = moves.left;
  kept = moves.kept;
  fresh = moves.fresh;
  few = moves.few;
  retired = moves.retired;
  exceptions = moves.exceptions;
  departed = moves.departed;
  fetched = moves.fetched;
  window = moves.window;
  within = moves.within;
  later = moves.later;
}

-- The monolithic machine.
phases_move : (s : Setup) (m : Machine) → Moves m s.params.core_commit (phases s m)
unfolding fetch_phase commit_phase
phases_move s m =
    let most = s.params.core_commit in
    let i = interrupt_phase m in
    let c = commit_phase s i in
    let gone : AdvancesBy m most c.left c.machine = commits_advance s most m i (stays_on m m i 0 (advances_none m) (interrupt_stays m)) in
    let d = complete_phase c.machine in
    let e = issue_phase s d in
    let at_d = stays_on m c.machine d c.left gone.advances (complete_stays c.machine) in
    let at_e = stays_on m d e c.left at_d (issue_stays s d) in
    cond_both (has_ended c.machine.end) c.machine (fetch_phase s e) (Moves m most)
    (λ over. moves_by m c.machine c.machine most c.left gone.advances gone.few (fetches_none c.machine))
    (λ on. moves_by m e (fetch_phase s e) most c.left at_e gone.few (all_fetches s s.params.core_fetch e))

pub cycle_moves : (s : Setup) (m : Machine) → Moves m s.params.core_commit (cycled s m)
unfolding cycled
cycle_moves s m =
    cond_both (has_ended m.end) m (end_of_cycle s (phases s m)) (Moves m s.params.core_commit) (λ over. moves_none m s.params.core_commit)
    (λ on. ends_by s m (phases s m) s.params.core_commit (phases_move s m))

-- The in-order machine.
moved_stays : (s : Setup) (l : InorderMachine) (x : Option Executing) → AreLater (moving_by s x l).completed.records l.machine.window
moved_stays s l None = all_same l.machine.window
moved_stays s l (Some x) =
    cond_both (may_move l x) (moved s x l) (unmoved l) (λ k. AreLater k.completed.records l.machine.window)
    (λ may. completes_later x.from l.machine.window) (λ off. all_same l.machine.window)

execute_stays : (s : Setup) (l : InorderMachine) → Stays l.machine (inorder_execute s l).machine
unfolding inorder_execute moving
execute_stays s l =
    let x : Moved = moving_by s (in_execute l.machine.window) l in
    let m : Machine = record l.machine { caches = x.caches } in
    let on : Stays m (completed_by x.completed.redirect x.completed.records m) = completed_stays x.completed.redirect x.completed.records m (moved_stays s l (in_execute l.machine.window)) in
    record { retired = on.retired; exceptions = on.exceptions; fetched = on.fetched; later = on.later }

issues_waiting : (s : Setup) (l : InorderMachine) (older : List Record) (rec : Record) → may_issue s l older rec ≡ true → is_waiting rec ≡ true
issues_waiting s l older rec is =
    let past = is_past_fetch l.machine.cycle rec in
    let free = is_none (in_execute older) in
    let has = has_operands l.machine.arch (found_in_order l.memory older) rec in
    let allows = class_allows (class_at rec) (decoded_result s l older rec).access (found_in_order l.memory older) in
    let one : past ≡ true = (and_parts past free (and_parts (past && free) has (and_parts (past && free && has) allows is).0).0).0 in
    (and_parts (is_waiting rec) (nat_lt rec.since l.machine.cycle) one).0

one_later : (s : Setup) (l : InorderMachine) (older : List Record) (rec : Record) → IsLater rec (issue_of s l older rec)
unfolding issue_of
one_later s l older rec =
    let e = l.machine.cycle + execute_latency s.params (class_at rec) in
    cond_both (may_issue s l older rec) (begun s l older rec) rec (λ (r : Record). IsLater rec r)
    (λ may. begins_later rec e (decoded_result s l older rec) (issues_waiting s l older rec may)) (λ off. later_same rec)

issue_later : (s : Setup) (l : InorderMachine) (older w : List Record) → AreLater (issue_from s l older w) w
unfolding issue_from
issue_later s l older [] = tt
issue_later s l older (rec ∷ []) = (one_later s l older rec, tt)
issue_later s l older (rec ∷ next ∷ rest) = (later_same rec, issue_later s l (rec ∷ older) (next ∷ rest))

inorder_issue_stays : (s : Setup) (l : InorderMachine) → Stays l.machine (inorder_issue s l).machine
unfolding inorder_issue
inorder_issue_stays s l =
    cond_both (inorder_wants_time s l.machine) (replayed l.machine) (issued s l) (Stays l.machine) (λ is. replayed_stays l.machine)
    (λ off. record { retired = refl; exceptions = refl; fetched = refl; later = issue_later s l [] l.machine.window })

inorder_fetches : (s : Setup) (l : InorderMachine) → Fetches l.machine (inorder_fetch s l).machine
unfolding inorder_fetch
inorder_fetches s l =
    cond_both (inorder_may_fetch l.machine) (after_try (fetch_try s l.machine) (λ behind. behind)) l.machine (Fetches l.machine)
    (λ may. one_fetch s l.machine) (λ off. fetches_none l.machine)

memory_stays : (l : InorderMachine) → Stays l.machine (inorder_memory l).machine
unfolding inorder_memory
memory_stays l = record { retired = refl; exceptions = refl; fetched = refl; later = all_same l.machine.window }

interrupted_stays : (l : InorderMachine) → Stays l.machine (inorder_interrupt l).machine
unfolding inorder_interrupt
interrupted_stays l = interrupt_stays l.machine

write_advances : (s : Setup) (m : Machine) (l : InorderMachine) → Advances m 0 l.machine → AdvancesBy m (write_width l) (inorder_commit s l).left (inorder_write s l).machine
unfolding inorder_write inorder_commit
write_advances s m l on = commits_advance s (write_width l) m l.machine on

width_one : (b : Bool) → (if b then 1 else 0) ≤ 1
width_one true = omega arith
width_one false = omega arith

inorder_phases_move : (s : Setup) (l : InorderMachine) → Moves l.machine 1 (inorder_phases s l).machine
inorder_phases_move s l =
    let m = l.machine in
    let i = inorder_interrupt l in
    let w = inorder_write s i in
    let left = (inorder_commit s i).left in
    let gone = write_advances s m i (stays_on m m i.machine 0 (advances_none m) (interrupted_stays l)) in
    let few : left ≤ 1 = omega (arith, gone.few, width_one (has_write i)) in
    let a = inorder_memory w in
    let x = inorder_execute s a in
    let e = inorder_issue s x in
    let at_a = stays_on m w.machine a.machine left gone.advances (memory_stays w) in
    let at_x = stays_on m a.machine x.machine left at_a (execute_stays s a) in
    let at_e = stays_on m x.machine e.machine left at_x (inorder_issue_stays s x) in
    cond_both (has_ended w.machine.end) w (inorder_fetch s e) (λ (k : InorderMachine). Moves m 1 k.machine)
    (λ over. moves_by m w.machine w.machine 1 left gone.advances few (fetches_none w.machine))
    (λ on. moves_by m e.machine (inorder_fetch s e).machine 1 left at_e few (inorder_fetches s e))

pub inorder_cycle_moves : (s : Setup) (l : InorderMachine) → Moves l.machine 1 (inorder_cycled s l).machine
unfolding inorder_cycled
inorder_cycle_moves s l =
    cond_both (has_ended l.machine.end) l (inorder_cycle_end s (inorder_phases s l)) (λ (k : InorderMachine). Moves l.machine 1 k.machine) (λ over. moves_none l.machine 1)
    (λ on. ends_by s l.machine (inorder_phases s l).machine 1 (inorder_phases_move s l))
