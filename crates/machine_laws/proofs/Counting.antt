-- What each turn adds to the counts of a run.
use Rattle.std.proofs.Common.{◌≡◌, ℕ, suc, ◌+◌, ◌≤◌, ◌==◌, nat_lt, if◌then◌else◌, Option, Some, None, List, [], ◌∷◌, length, refl, ap, arith, length-append}
use Rattle.std.proofs.lemmas.Bool.{cond_both}
use Rattle.fsim_base.specs.declared.instruction.Flow.{Flow}
use Rattle.fsim_base.specs.declared.instruction.Flow.TheVariants as flow
use Rattle.fsim_base.specs.Number.{wrap_sum}
use Rattle.cache_timing.specs.Caches.{Served}
use Rattle.mono_model.specs.declared.setup.Setup.{Setup}
use Rattle.mono_model.specs.declared.final_state.End.{End}
use Rattle.mono_model.specs.declared.final_state.End.TheVariants.{OutputFull}
use Rattle.mono_model.specs.Found.{flow_in}
use Rattle.mono_model.specs.Final.{end_of}
use Rattle.mono_model.specs.Result.{Result}
use Rattle.mono_model.specs.Window.{Record}
use Rattle.mono_model.specs.Machine.{Counts, Machine, machine_start, flushed}
use Rattle.mono_model.specs.Interrupt.{is_interrupted, take_interrupt, interrupt_phase}
use Rattle.mono_model.specs.Commit.{branch_count, committed, faulted, fenced, leaving, commits, commit_phase}
use Rattle.mono_model.specs.Complete.{completes, completed_by, complete_phase}
use Rattle.mono_model.specs.Issue.{none_passed, wants_time, replayed, issued, issue_phase}
use Rattle.mono_model.specs.Fetch.{Try, misses, appends, turns, cache_read, missed, appended, new_record, predicted_next, tried, fetch_try}
use Rattle.mono_model.specs.Cycle.{end_of_cycle}
use Rattle.mono_model.specs.Demand.{Demand, At, interrupting, committing, completing, issuing, trying, ending, stopping, halted, tried_turn, turn_at, turn, place}
use Rattle.mono_model.proofs.Commits.{GoesOn, leaving_case, every_commit}
use Rattle.machine_laws.specs.Counts.{AreCounted}
use Rattle.machine_laws.proofs.Always.{at_each_turn}
use Rattle.machine_laws.proofs.Phases.{completes_from, walk_length}

-- From a machine to another one, with so many records gone and so many steps made.
pub record CountsOn (m : Machine) (left steps : ℕ) (behind : Machine) : Type 0 where
  pub records : behind.counts.fetched + m.counts.squashed + length m.window ≡ m.counts.fetched + left + behind.counts.squashed + length behind.window
  pub fetched : behind.counts.fetched ≤ m.counts.fetched + steps
  pub interrupts : behind.counts.interrupts ≤ m.counts.interrupts + steps
  pub replays : behind.counts.replays ≤ m.counts.replays + steps
  pub mispredicted : behind.counts.mispredicted ≤ m.counts.mispredicted + steps
  pub exceptions : behind.counts.exceptions ≤ m.counts.exceptions + left
  pub branches : behind.counts.branches ≤ m.counts.branches + left

counts_then : (m between behind : Machine) (left more steps : ℕ) → CountsOn m left 0 between → CountsOn between more steps behind → CountsOn m (left + more) steps behind
counts_then m between behind left more steps first then_ = record {
  records = omega (arith, first.records, then_.records);
  fetched = omega (arith, first.fetched, then_.fetched);
  interrupts = omega (arith, first.interrupts, then_.interrupts);
  replays = omega (arith, first.replays, then_.replays);
  mispredicted = omega (arith, first.mispredicted, then_.mispredicted);
  exceptions = omega (arith, first.exceptions, then_.exceptions);
  branches = omega (arith, first.branches, then_.branches);
}

-- nothing counted
pub same_counts : (m behind : Machine) (steps : ℕ) → behind.counts ≡ m.counts → length behind.window ≡ length m.window → CountsOn m 0 steps behind
same_counts m behind steps same window =
    let fetched : behind.counts.fetched ≡ m.counts.fetched = ap (λ (c : Counts). c.fetched) same in
    let squashed : behind.counts.squashed ≡ m.counts.squashed = ap (λ (c : Counts). c.squashed) same in
    record {
      records = omega arith;
      fetched = omega arith;
      interrupts = omega (arith, ap (λ (c : Counts). c.interrupts) same);
      replays = omega (arith, ap (λ (c : Counts). c.replays) same);
      mispredicted = omega (arith, ap (λ (c : Counts). c.mispredicted) same);
      exceptions = omega (arith, ap (λ (c : Counts). c.exceptions) same);
      branches = omega (arith, ap (λ (c : Counts). c.branches) same);
    }

pub interrupt_counts : (m : Machine) → CountsOn m 0 1 (interrupt_phase m)
unfolding interrupt_phase flushed
interrupt_counts m =
    cond_both (is_interrupted m) (take_interrupt m) m (CountsOn m 0 1)
    (λ e. record { records = omega arith; fetched = omega arith; interrupts = omega arith; replays = omega arith; mispredicted = omega arith; exceptions = omega arith; branches = omega arith })
    (λ e. same_counts m m 1 refl refl)

-- commit
branch_most : (f : Flow) → branch_count f ≤ 1
branch_most flow.Plain = omega arith
branch_most flow.Branch = omega arith
branch_most flow.Jump = omega arith

committed_counts : (s : Setup) (rec : Record) (rest : List Record) (r : Result) (m : Machine) → m.window ≡ rec ∷ rest → CountsOn m 1 0 (committed s rec rest r m)
committed_counts s rec rest r m is =
    let count : length m.window ≡ suc (length rest) = ap (λ (w : List Record). length w) is in
    record {
      records = omega arith;
      fetched = omega arith;
      interrupts = omega arith;
      replays = omega arith;
      mispredicted = omega arith;
      exceptions = omega arith;
      branches = omega (arith, branch_most (flow_in rec.found));
    }

faulted_counts : (rec : Record) (rest : List Record) (r : Result) (m : Machine) → m.window ≡ rec ∷ rest → CountsOn m 1 0 (faulted rec rest r m)
unfolding flushed
faulted_counts rec rest r m is =
    let count : length m.window ≡ suc (length rest) = ap (λ (w : List Record). length w) is in
    record { records = omega arith; fetched = omega arith; interrupts = omega arith; replays = omega arith; mispredicted = omega arith; exceptions = omega arith; branches = omega arith }

-- the end changes no count, and a FENCE.I flushes
ended_counts : (m behind : Machine) (left : ℕ) (end : End) → CountsOn m left 0 behind → CountsOn m left 0 (record behind { end = end })
ended_counts m behind left end on = record {
  records = on.records;
  fetched = on.fetched;
  interrupts = on.interrupts;
  replays = on.replays;
  mispredicted = on.mispredicted;
  exceptions = on.exceptions;
  branches = on.branches;
}

fenced_counts : (s : Setup) (m behind : Machine) (left : ℕ) → CountsOn m left 0 behind → CountsOn m left 0 (fenced s behind)
unfolding flushed
fenced_counts s m behind left on = record {
  records = omega (arith, on.records);
  fetched = on.fetched;
  interrupts = on.interrupts;
  replays = on.replays;
  mispredicted = on.mispredicted;
  exceptions = on.exceptions;
  branches = on.branches;
}

-- what each record adds that leaves
one_counts : (s : Setup) (m between : Machine) (left : ℕ) → CountsOn m left 0 between →
    GoesOn (λ left behind. CountsOn m left 0 behind) (λ c. CountsOn m c.left 0 c.machine) left between (leaving s between)
one_counts s m between left on =
    leaving_case s between (GoesOn (λ left behind. CountsOn m left 0 behind) (λ c. CountsOn m c.left 0 c.machine) left between) on (λ rec rest r is.
    let behind = committed s rec rest r between in
    let more : CountsOn m (left + 1) 0 behind = counts_then m between behind left 1 0 on (committed_counts s rec rest r between is.window) in
    record {
      if_faults = λ cause why. counts_then m between (faulted rec rest r between) left 1 0 on (faulted_counts rec rest r between is.window);
      if_full = λ none room. ended_counts m between left OutputFull on;
      if_ends = λ halt passes. ended_counts m behind (left + 1) (end_of halt) more;
      if_syncs = λ passes fence. fenced_counts s m behind (left + 1) more;
      if_leaves = λ passes fence. more;
    })

-- where at most so many records leave
pub commits_counts : (s : Setup) (most : ℕ) (m : Machine) → CountsOn m (commits s most 0 m).left 0 (commits s most 0 m).machine
commits_counts s most m =
    every_commit s (λ more left behind. CountsOn m left 0 behind) (λ c. CountsOn m c.left 0 c.machine) (λ left behind on. on)
    (λ more left between on. one_counts s m between left on) most 0 m (same_counts m m 0 refl refl)

commit_counts : (s : Setup) (m : Machine) → CountsOn m (commit_phase s m).left 0 (commit_phase s m).machine
unfolding commit_phase
commit_counts s m = commits_counts s s.params.core_commit m

-- complete, issue and fetch
pub by_complete : (redirect : Option ℕ) (records : List Record) (m : Machine) → length records ≤ length m.window → (redirect ≡ None → length records ≡ length m.window) → CountsOn m 0 1 (completed_by redirect records m)
unfolding flushed
by_complete None records m fewer all = record { records = omega (arith, all refl); fetched = omega arith; interrupts = omega arith; replays = omega arith; mispredicted = omega arith; exceptions = omega arith; branches = omega arith }
by_complete (Some addr) records m fewer all = record { records = omega arith; fetched = omega arith; interrupts = omega arith; replays = omega arith; mispredicted = omega arith; exceptions = omega arith; branches = omega arith }

complete_counts : (m : Machine) → CountsOn m 0 1 (complete_phase m)
unfolding complete_phase
complete_counts m =
    let c = completes m.cycle m.window in
    let from = completes_from m.cycle m.window in
    by_complete c.redirect c.records m from.window from.kept

issue_counts : (s : Setup) (m : Machine) → CountsOn m 0 1 (issue_phase s m)
unfolding issue_phase flushed
issue_counts s m =
    cond_both (wants_time s m) (replayed m) (issued s m) (CountsOn m 0 1)
    (λ e. record { records = omega arith; fetched = omega arith; interrupts = omega arith; replays = omega arith; mispredicted = omega arith; exceptions = omega arith; branches = omega arith })
    (λ e. same_counts m (issued s m) 1 refl (walk_length s m (none_passed m) m.window))

abbrev pub TryCounts : Machine → Try → Type 0
TryCounts m (misses behind) = CountsOn m 0 1 behind
TryCounts m (appends behind) = CountsOn m 0 1 behind
TryCounts m (turns behind) = CountsOn m 0 1 behind

tried_counts : (s : Setup) (d : Served) (m : Machine) → TryCounts m (tried s d m)
tried_counts s d m =
    cond_both (nat_lt 0 d.cycles) (misses (missed d.cycles d.state m))
    (if predicted_next s m == wrap_sum m.fetch_addr 4 then appends (appended s d.state m) else turns (appended s d.state m)) (TryCounts m)
    (λ e. same_counts m (missed d.cycles d.state m) 1 refl refl)
    (λ e. cond_both (predicted_next s m == wrap_sum m.fetch_addr 4) (appends (appended s d.state m)) (turns (appended s d.state m)) (TryCounts m)
    (λ f. more) (λ f. more))
  where
    more : CountsOn m 0 1 (appended s d.state m)
    more = record { records = omega (arith, length-append m.window (new_record s m ∷ [])); fetched = omega arith; interrupts = omega arith; replays = omega arith; mispredicted = omega arith; exceptions = omega arith; branches = omega arith }

pub try_counts : (s : Setup) (m : Machine) → TryCounts m (fetch_try s m)
unfolding fetch_try
try_counts s m = tried_counts s (cache_read s m) m

pub cycle_end_counts : (s : Setup) (m : Machine) → CountsOn m 0 1 (end_of_cycle s m)
unfolding end_of_cycle
cycle_end_counts s m = same_counts m (end_of_cycle s m) 1 refl refl

-- one turn
pub counted_on : (k left : ℕ) (d behind : Demand) → behind.to_commit ≡ d.to_commit + left → CountsOn d.machine left 1 behind.machine → AreCounted k d → AreCounted (suc k) behind
counted_on k left d behind same on are = record {
  records = omega (arith, on.records, are.records);
  fetched = omega (arith, on.fetched, are.fetched);
  interrupts = omega (arith, on.interrupts, are.interrupts);
  replays = omega (arith, on.replays, are.replays);
  mispredicted = omega (arith, on.mispredicted, are.mispredicted);
  exceptions = omega (arith, on.exceptions, are.exceptions);
  branches = omega (arith, on.branches, are.branches);
}

pub one_step : (m behind : Machine) (left : ℕ) → CountsOn m left 0 behind → CountsOn m left 1 behind
one_step m behind left on = record {
  records = on.records;
  fetched = omega (arith, on.fetched);
  interrupts = omega (arith, on.interrupts);
  replays = omega (arith, on.replays);
  mispredicted = omega (arith, on.mispredicted);
  exceptions = on.exceptions;
  branches = on.branches;
}

try_counted : (s : Setup) (k : ℕ) (t : Try) (more : ℕ) (d : Demand) → TryCounts d.machine t → AreCounted k d → AreCounted (suc k) (tried_turn s t more d).demand
try_counted s k (misses behind) more d on are = counted_on k 0 d (tried_turn s (misses behind) more d).demand (omega arith) on are
try_counted s k (appends behind) more d on are = counted_on k 0 d (tried_turn s (appends behind) more d).demand (omega arith) on are
try_counted s k (turns behind) more d on are = counted_on k 0 d (tried_turn s (turns behind) more d).demand (omega arith) on are

turn_counted : (s : Setup) (k : ℕ) (at : At) (d : Demand) → AreCounted k d → AreCounted (suc k) (turn_at s at d).demand
turn_counted s k interrupting d are = counted_on k 0 d (turn_at s interrupting d).demand (omega arith) (interrupt_counts d.machine) are
turn_counted s k committing d are =
    let c = commit_phase s d.machine in
    counted_on k c.left d (turn_at s committing d).demand refl (one_step d.machine c.machine c.left (commit_counts s d.machine)) are
turn_counted s k completing d are = counted_on k 0 d (turn_at s completing d).demand (omega arith) (complete_counts d.machine) are
turn_counted s k issuing d are = counted_on k 0 d (turn_at s issuing d).demand (omega arith) (issue_counts s d.machine) are
turn_counted s k (trying more) d are = try_counted s k (fetch_try s d.machine) more d (try_counts s d.machine) are
turn_counted s k ending d are = counted_on k 0 d (turn_at s ending d).demand (omega arith) (cycle_end_counts s d.machine) are
turn_counted s k stopping d are = counted_on k 0 d (turn_at s stopping d).demand (omega arith) (same_counts d.machine d.machine 1 refl refl) are
turn_counted s k halted d are = counted_on k 0 d d (omega arith) (same_counts d.machine d.machine 1 refl refl) are

pub run_counted : (s : Setup) (k : ℕ) → AreCounted k (place s k).run.demand
unfolding turn machine_start
run_counted s =
    at_each_turn s (λ k r owed. AreCounted k r.demand)
    (record { records = refl; fetched = omega arith; interrupts = omega arith; replays = omega arith; mispredicted = omega arith; exceptions = omega arith; branches = omega arith })
    (λ k r are. turn_counted s k r.at r.demand are)
    (λ k owed r are. counted_on k 0 r.demand r.demand (omega arith) (same_counts r.demand.machine r.demand.machine 1 refl refl) are)
