-- Each stage behind Fetch has at most one record, at every place.
use Rattle.std.proofs.Common.{◌≡◌, ℕ, suc, ◌≤◌, ◌<◌, ◌==◌, nat_le, nat_lt, Bool, true, false, if◌then◌else◌, Option, Some, None, List, [], ◌∷◌, length, refl, sym, subst, arith, ltb-true, ltb-false}
use Rattle.std.proofs.lemmas.Bool.{cond_both, and_parts, eqb-true}
use Rattle.mono_model.specs.declared.setup.Setup.{Setup}
use Rattle.mono_model.specs.Window.{Record, Stage, waiting, until, done, is_done_stage, waiting_count}
use Rattle.mono_model.specs.Machine.{Machine, machine_start, flushed}
use Rattle.mono_model.specs.Interrupt.{is_interrupted, take_interrupt, interrupt_phase}
use Rattle.mono_model.specs.Commit as commit
use Rattle.mono_model.specs.Issue.{replayed}
use Rattle.fsim_base.specs.Number.{wrap_sum}
use Rattle.mono_model.specs.Final.{has_ended, end_of}
use Rattle.mono_model.specs.Result.{Result}
use Rattle.mono_model.specs.Fetch.{Try, misses, appends, turns, cache_read, missed, appended, new_record, predicted_next, fetch_try}
use Rattle.mono_model.proofs.Commits.{done_case}
use Rattle.mono_model.specs.Cycle.{end_of_cycle}
use Rattle.mono_model.specs.Demand.{Demand, demand_committed, demand_try}
use Rattle.machine_laws.proofs.Numbering.{cycle_end_window}
use Rattle.machine_laws.proofs.Phases.{by_window}
use Rattle.inorder_machine.specs.InorderMachine.{InorderMachine, Executing, in_execute, done_count, memory_count, has_write, memory_behind}
use Rattle.inorder_machine.specs.Write.{inorder_commit}
use Rattle.inorder_machine.specs.Execute.{unmoved, moved, may_move, moving_by, moving}
use Rattle.inorder_machine.specs.Issue.{inorder_wants_time, issued, issue_machine}
use Rattle.inorder_machine.specs.Fetch.{inorder_may_fetch}
use Rattle.inorder_machine.specs.Demand.{InorderAt, interrupting, writing, accessing, executing, issuing, trying, ending, stopping, halted, inorder_in, demand_moved, inorder_turn_at, inorder_place}
use Rattle.inorder_laws.specs.Stages.{AreStaged, IsPipeline}
use Rattle.inorder_laws.proofs.Always.{always}
use Rattle.inorder_laws.proofs.Staging.{more_staged, staged_length, fewer_staged, oldest_done, rest_staged, completes_staged, issue_staged, fetch_staged, empty_length}

-- how many records Memory and Write may have, where Memory has so many
abbrev pub most_at : InorderAt → ℕ → ℕ
most_at interrupting memory = suc memory
most_at writing memory = suc memory
most_at accessing memory = memory
most_at executing memory = 1
most_at issuing memory = suc memory
most_at trying memory = suc memory
most_at ending memory = suc memory
most_at stopping memory = suc memory
most_at halted memory = suc memory

-- and a try is made where Decode is empty
abbrev pub MayTry : InorderAt → List Record → Type 0
MayTry interrupting w = Unit {0}
MayTry writing w = Unit {0}
MayTry accessing w = Unit {0}
MayTry executing w = Unit {0}
MayTry issuing w = Unit {0}
MayTry trying w = waiting_count w ≡ 0
MayTry ending w = Unit {0}
MayTry stopping w = Unit {0}
MayTry halted w = Unit {0}

pub record Stands (at : InorderAt) (w : List Record) (memory : Option ℕ) : Type 0 where
  pub staged : AreStaged (most_at at (memory_count memory)) w
  pub tries : MayTry at w

-- a flush empties Memory
behind_staged : (w : List Record) (memory : Option ℕ) → AreStaged (suc (memory_count memory)) w → AreStaged (suc (memory_count (memory_behind w memory))) w
behind_staged [] memory are = tt
behind_staged (rec ∷ rest) memory are = are

behind_written : (w : List Record) (memory : Option ℕ) → AreStaged (memory_count memory) w → AreStaged (memory_count (memory_behind w memory)) w
behind_written [] memory are = tt
behind_written (rec ∷ rest) memory are = are

interrupt_staged : (m : Machine) (n : ℕ) → AreStaged n m.window → AreStaged n (interrupt_phase m).window
unfolding interrupt_phase flushed
interrupt_staged m n are = cond_both (is_interrupted m) (take_interrupt m) m (λ x. AreStaged n x.window) (λ e. tt) (λ e. are)

-- Write: its record leaves.
record Left (k : ℕ) (m : Machine) : Type 0 where
  all : AreStaged (suc k) m.window
  on : has_ended m.end ≡ false → AreStaged k m.window

abbrev left_by : commit.Leaving → Machine → Machine
left_by commit.stays m = m
left_by (commit.full behind) m = behind
left_by (commit.leaves behind) m = behind
left_by (commit.faults behind) m = behind
left_by (commit.syncs behind) m = behind
left_by (commit.ends behind) m = behind

abbrev HasMachine : Machine → commit.Committed → Type 0
HasMachine m c = c.machine ≡ m

one_left : (s : Setup) (m : Machine) → HasMachine (left_by (commit.leaving s m) m) (commit.commits s 1 0 m)
unfolding commit.commits
one_left s m = by_leaving (commit.leaving s m)
  where
    by_leaving : (l : commit.Leaving) → HasMachine (left_by l m) (elim l [
      | commit.stays ↦ commit.ended_with m 0 commit.plain
      | commit.full behind ↦ commit.ended_with behind 0 commit.plain
      | commit.leaves behind ↦ commit.ended_with behind 1 commit.plain
      | commit.faults behind ↦ commit.ended_with behind 1 commit.trap
      | commit.syncs behind ↦ commit.ended_with behind 1 commit.sync
      | commit.ends behind ↦ commit.ended_with behind 1 commit.plain
    ])
    by_leaving commit.stays = refl
    by_leaving (commit.full behind) = refl
    by_leaving (commit.leaves behind) = refl
    by_leaving (commit.faults behind) = refl
    by_leaving (commit.syncs behind) = refl
    by_leaving (commit.ends behind) = refl

rest_left : (k : ℕ) (m : Machine) → AreStaged k m.window → Left k m
rest_left k m are = record { all = more_staged k m.window are; on = λ going. are }

first_left : (s : Setup) (k : ℕ) (m : Machine) (rec : Record) (rest : List Record) (r : Result) → AreStaged (suc k) m.window → AreStaged k rest →
    Left k (left_by (commit.leaving_stage s rec rest (done r) m) m)
unfolding flushed
first_left s k m rec rest r whole are =
    done_case s m rec rest r (λ l. Left k (left_by l m)) (record {
      if_faults = λ cause why. record { all = tt; on = λ going. tt };
      if_full = λ none room. record { all = whole; on = λ going. absurd (cc) };
      if_ends = λ halt passes. rest_left k (record (commit.committed s rec rest r m) { end = end_of halt }) are;
      if_syncs = λ passes fence. record { all = tt; on = λ going. tt };
      if_leaves = λ passes fence. rest_left k (commit.committed s rec rest r m) are;
    })

oldest_left : (s : Setup) (k : ℕ) (m : Machine) (w : List Record) → m.window ≡ w → AreStaged (suc k) w → 0 < done_count w →
    Left k (left_by (elim w [ [] ↦ commit.stays | rec ∷ rest ↦ commit.leaving_stage s rec rest rec.stage m ]) m)
oldest_left s k m [] at are some = absurd (omega arith)
oldest_left s k m (rec ∷ rest) at are some = by_stage rec.stage refl (oldest_done (suc k) rec rest are some)
  where
    whole : AreStaged (suc k) m.window
    whole = subst (AreStaged (suc k)) (sym at) are

    by_stage : (stage : Stage) → rec.stage ≡ stage → is_done_stage stage ≡ true → Left k (left_by (commit.leaving_stage s rec rest stage m) m)
    by_stage waiting is old = cc
    by_stage (until e r) is old = cc
    by_stage (done r) is old = first_left s k m rec rest r whole (rest_staged k rec rest r is are)

no_commit : (s : Setup) (k : ℕ) (m : Machine) → AreStaged k m.window → Left k (commit.commits s 0 0 m).machine
unfolding commit.commits
no_commit s k m are = rest_left k m are

write_left : (s : Setup) (l : InorderMachine) → AreStaged (suc (memory_count l.memory)) l.machine.window → Left (memory_count l.memory) (inorder_commit s l).machine
unfolding inorder_commit commit.leaving
write_left s l are = by_test (has_write l) refl
  where
    m : Machine
    m = l.machine

    k : ℕ
    k = memory_count l.memory

    by_test : (b : Bool) → has_write l ≡ b → Left k (commit.commits s (if b then 1 else 0) 0 m).machine
    by_test true some =
        subst (Left k) (sym (one_left s m)) (oldest_left s k m m.window refl are (omega (arith, ltb-true k (done_count m.window) some)))
    by_test false none = no_commit s k m (fewer_staged (suc k) k m.window are (ltb-false k (done_count m.window) none))

write_stands : (s : Setup) (d behind : Demand) (memory : Option ℕ) → AreStaged (suc (memory_count memory)) d.machine.window → behind.machine ≡ (inorder_commit s (inorder_in d memory)).machine →
    Stands (if has_ended behind.machine.end then ending else accessing) behind.machine.window (memory_behind behind.machine.window memory)
write_stands s d behind memory are is = by_test (has_ended behind.machine.end) refl
  where
    left : Left (memory_count memory) behind.machine
    left = subst (Left (memory_count memory)) (sym is) (write_left s (inorder_in d memory) are)

    by_test : (b : Bool) → has_ended behind.machine.end ≡ b → Stands (if b then ending else accessing) behind.machine.window (memory_behind behind.machine.window memory)
    by_test true ended = record { staged = behind_staged behind.machine.window memory left.all; tries = tt }
    by_test false going = record { staged = behind_written behind.machine.window memory (left.on going); tries = tt }

-- Memory.
memory_staged : (cycle : ℕ) (w : List Record) (memory : Option ℕ) → AreStaged (memory_count memory) w → AreStaged 1 w
memory_staged cycle w None are = more_staged 0 w are
memory_staged cycle w (Some e) are = are

-- Execute.
with_memory : (memory : Option ℕ) (w : List Record) → AreStaged 1 w → AreStaged (suc (memory_count memory)) w
with_memory None w are = are
with_memory (Some e) w are = more_staged 1 w are

move_staged : (s : Setup) (l : InorderMachine) (x : Option Executing) → AreStaged 1 l.machine.window → AreStaged (suc (memory_count (moving_by s x l).memory)) (moving_by s x l).completed.records
move_staged s l None are = with_memory l.memory l.machine.window are
move_staged s l (Some x) are =
    cond_both (may_move l x) (moved s x l) (unmoved l) (λ k. AreStaged (suc (memory_count k.memory)) k.completed.records)
    (λ may. completes_staged 1 x.from l.machine.window are) (λ may. with_memory l.memory l.machine.window are)

execute_staged : (s : Setup) (d : Demand) (memory : Option ℕ) → AreStaged 1 d.machine.window →
    AreStaged (suc (memory_count (moving s (inorder_in d memory)).memory)) (demand_moved (moving s (inorder_in d memory)) d).machine.window
unfolding moving
execute_staged s d memory are =
    let x = moving_by s (in_execute d.machine.window) (inorder_in d memory) in
    subst (AreStaged (suc (memory_count x.memory))) (sym (by_window x.completed.redirect x.completed.records (record d.machine { caches = x.caches })))
    (move_staged s (inorder_in d memory) (in_execute d.machine.window) are)

-- Issue.
issue_window_staged : (s : Setup) (l : InorderMachine) (n : ℕ) → AreStaged n l.machine.window → AreStaged n (issue_machine s l).window
unfolding flushed
issue_window_staged s l n are =
    cond_both (inorder_wants_time s l.machine) (replayed l.machine) (issued s l) (λ x. AreStaged n x.window) (λ e. tt) (λ e. issue_staged s l n [] l.machine.window are)

issue_stands : (m : Machine) (memory : Option ℕ) → AreStaged (suc (memory_count memory)) m.window → (b : Bool) → inorder_may_fetch m ≡ b →
    Stands (if b then trying else ending) m.window (memory_behind m.window memory)
unfolding inorder_may_fetch
issue_stands m memory are true may = record {
  staged = behind_staged m.window memory are;
  tries = eqb-true (waiting_count m.window) 0 (and_parts (nat_le m.resume m.cycle) (waiting_count m.window == 0) may).1;
}
issue_stands m memory are false may = record { staged = behind_staged m.window memory are; tries = tt }

-- Fetch.
abbrev TriesStaged : ℕ → Try → Type 0
TriesStaged n (misses behind) = AreStaged n behind.window
TriesStaged n (appends behind) = AreStaged n behind.window
TriesStaged n (turns behind) = AreStaged n behind.window

try_staged : (s : Setup) (n : ℕ) (m : Machine) → AreStaged n m.window → waiting_count m.window ≡ 0 → TriesStaged n (fetch_try s m)
unfolding fetch_try
try_staged s n m are none =
    let d = cache_read s m in
    let more : AreStaged n (appended s d.state m).window = fetch_staged n m.window (new_record s m) refl are none in
    cond_both (nat_lt 0 d.cycles) (misses (missed d.cycles d.state m))
    (if predicted_next s m == wrap_sum m.fetch_addr 4 then appends (appended s d.state m) else turns (appended s d.state m)) (TriesStaged n)
    (λ e. are)
    (λ e. cond_both (predicted_next s m == wrap_sum m.fetch_addr 4) (appends (appended s d.state m)) (turns (appended s d.state m)) (TriesStaged n) (λ f. more) (λ f. more))

tried_stands : (s : Setup) (t : Try) (d : Demand) (memory : Option ℕ) → TriesStaged (suc (memory_count memory)) t → Stands ending (demand_try s t d).machine.window memory
tried_stands s (misses behind) d memory are = record { staged = are; tries = tt }
tried_stands s (appends behind) d memory are = record { staged = are; tries = tt }
tried_stands s (turns behind) d memory are = record { staged = are; tries = tt }

end_stands : (w : List Record) (memory : Option ℕ) → AreStaged (suc (memory_count memory)) w → (b : Bool) → Stands (if b then stopping else interrupting) w memory
end_stands w memory are true = record { staged = are; tries = tt }
end_stands w memory are false = record { staged = are; tries = tt }

-- each turn keeps it
pub turn_stands : (s : Setup) (at : InorderAt) (d : Demand) (memory : Option ℕ) → Stands at d.machine.window memory →
    Stands (inorder_turn_at s at d memory).at (inorder_turn_at s at d memory).demand.machine.window (inorder_turn_at s at d memory).memory
turn_stands s interrupting d memory stands = record {
  staged = behind_staged (interrupt_phase d.machine).window memory (interrupt_staged d.machine (suc (memory_count memory)) stands.staged);
  tries = tt;
}
turn_stands s writing d memory stands = write_stands s d (demand_committed (inorder_commit s (inorder_in d memory)) d) memory stands.staged refl
turn_stands s accessing d memory stands = record { staged = memory_staged d.machine.cycle d.machine.window memory stands.staged; tries = tt }
turn_stands s executing d memory stands = record { staged = execute_staged s d memory stands.staged; tries = tt }
turn_stands s issuing d memory stands =
    let m : Machine = issue_machine s (inorder_in d memory) in
    issue_stands m memory (issue_window_staged s (inorder_in d memory) (suc (memory_count memory)) stands.staged) (inorder_may_fetch m) refl
turn_stands s trying d memory stands =
    tried_stands s (fetch_try s d.machine) d memory (try_staged s (suc (memory_count memory)) d.machine stands.staged stands.tries)
turn_stands s ending d memory stands =
    let m : Machine = end_of_cycle s d.machine in
    end_stands m.window memory (subst (AreStaged (suc (memory_count memory))) (sym (cycle_end_window s d.machine)) stands.staged) (has_ended m.end)
turn_stands s stopping d memory stands = record { staged = stands.staged; tries = tt }
turn_stands s halted d memory stands = stands

pub start_stands : (s : Setup) → Stands interrupting (machine_start s).window None
unfolding machine_start
start_stands s = record { staged = tt; tries = tt }

place_stands : (s : Setup) (k : ℕ) → Stands (inorder_place s k).run.at (inorder_place s k).run.demand.machine.window (inorder_place s k).run.memory
place_stands s = always s (λ at d memory. Stands at d.machine.window memory) (start_stands s) (turn_stands s)

all_staged : (at : InorderAt) (memory : Option ℕ) (w : List Record) → AreStaged (most_at at (memory_count memory)) w → AreStaged (suc (memory_count memory)) w
all_staged interrupting memory w are = are
all_staged writing memory w are = are
all_staged accessing memory w are = more_staged (memory_count memory) w are
all_staged executing memory w are = with_memory memory w are
all_staged issuing memory w are = are
all_staged trying memory w are = are
all_staged ending memory w are = are
all_staged stopping memory w are = are
all_staged halted memory w are = are

one_memory : (memory : Option ℕ) → memory_count memory ≤ 1
one_memory None = omega arith
one_memory (Some e) = omega arith

pub is_pipeline : (s : Setup) (k : ℕ) → IsPipeline (inorder_place s k)
is_pipeline s k =
    let p = inorder_place s k in
    let are : AreStaged (suc (memory_count p.run.memory)) p.run.demand.machine.window = all_staged p.run.at p.run.memory p.run.demand.machine.window (place_stands s k).staged in
    record { staged = are; within = omega (arith, staged_length (suc (memory_count p.run.memory)) p.run.demand.machine.window are, one_memory p.run.memory) }

pub stands_length : (at : InorderAt) (w : List Record) (memory : Option ℕ) → Stands at w memory → length w ≤ 4
stands_length at w memory stands = omega (arith, staged_length (suc (memory_count memory)) w (all_staged at memory w stands.staged), one_memory memory)

-- with Decode empty there is room for one more
pub stands_room : (w : List Record) (memory : Option ℕ) → Stands trying w memory → length w ≤ 3
stands_room w memory stands = omega (arith, empty_length (suc (memory_count memory)) w stands.staged stands.tries, one_memory memory)
