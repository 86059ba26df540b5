-- How far the numbers of a run go: a cycle commits at most `core.commit` instructions, and there are at most `cycles` of them.
use Rattle.std.proofs.Common.{◌≡◌, ℕ, zero, suc, ◌+◌, ◌*◌, ◌≤◌, Bool, true, false, if◌then◌else◌, Option, Some, None, List, [], ◌∷◌, length, refl, ap, sym, ◌∙◌, subst, arith, mul-suc, mul-le-mul_left, le_trans}
use Rattle.rollback_cmds.specs.declared.order.Order.{Order}
use Rattle.mono_model.specs.declared.setup.Setup.{Setup}
use Rattle.mono_model.specs.Final.{has_ended}
use Rattle.mono_model.specs.Machine.{Machine, machine_start}
use Rattle.mono_model.specs.Commit.{Leaving, stays, full, leaves, faults, syncs, ends, leaving, commits, commit_phase}
use Rattle.mono_model.specs.Fetch.{Try, misses, appends, turns, may_fetch, fetch_try}
use Rattle.mono_model.specs.Cycle.{end_of_cycle}
use Rattle.mono_model.specs.Split.{told_by}
use Rattle.mono_model.specs.Demand.{Demand, demand_commit, demand_try, At, interrupting, committing, completing, issuing, trying, ending, stopping, halted, try_or_end, at_after_cycle, tried_turn, turn_at, place, told}
use Rattle.rollback_cmds.specs.declared.order.Order.TheVariants.{Set, Commit, Interrupt, Time, Stop, Sync}
use Rattle.mono_model.proofs.Commits.{GoesOn, every_commit}
use Rattle.machine_laws.specs.Numbers.{last_commit, IsNumbered, AreNumbered, AreAtMost, IsBounded}
use Rattle.machine_laws.proofs.Numbering.{orders_numbered}
use Rattle.machine_laws.proofs.Staying.{done_told}
use Rattle.machine_laws.specs.Telling.{with_order}
use Rattle.machine_laws.proofs.Phases.{interrupt_cycle, commit_from, complete_kept, issue_kept, Tries, try_tries}
use Rattle.machine_laws.proofs.Always.{demand_start, always}
use Rattle.machine_laws.proofs.Reaching.{cycle_end_cycle}
use Rattle.machine_laws.proofs.Halting.{cycle_end_at_limit}
use Rattle.machine_laws.proofs.Telling.{step_told}

-- no more records leave than may
goes_on_most : (most more left : ℕ) (m : Machine) (l : Leaving) → left + suc more ≤ most → GoesOn (λ left m. left + more ≤ most) (λ c. c.left ≤ most) left m l
goes_on_most most more left m stays within = omega arith
goes_on_most most more left m (full behind) within = omega arith
goes_on_most most more left m (leaves behind) within = omega arith
goes_on_most most more left m (faults behind) within = omega arith
goes_on_most most more left m (syncs behind) within = omega arith
goes_on_most most more left m (ends behind) within = omega arith

pub commits_most : (s : Setup) (most : ℕ) (m : Machine) → (commits s most 0 m).left ≤ most
commits_most s most m =
    every_commit s (λ more left m. left + more ≤ most) (λ c. c.left ≤ most) (λ left m within. omega arith)
    (λ more left m within. goes_on_most most more left m (leaving s m) within) most 0 m (omega arith)

commit_most : (s : Setup) (m : Machine) → (commit_phase s m).left ≤ s.params.core_commit
unfolding commit_phase
commit_most s m = commits_most s s.params.core_commit m

-- whether the turn stands in a cycle, and behind its commit
abbrev in_cycle : At → ℕ
in_cycle interrupting = 1
in_cycle committing = 1
in_cycle completing = 1
in_cycle issuing = 1
in_cycle (trying more) = 1
in_cycle ending = 1
in_cycle stopping = 0
in_cycle halted = 0

abbrev behind_commit : At → ℕ
behind_commit interrupting = 0
behind_commit committing = 0
behind_commit completing = 1
behind_commit issuing = 1
behind_commit (trying more) = 1
behind_commit ending = 1
behind_commit stopping = 0
behind_commit halted = 0

record HasBounds (s : Setup) (at : At) (d : Demand) : Type 0 where
  cycle : d.machine.cycle + in_cycle at ≤ s.cycles
  to_commit : d.to_commit ≤ s.params.core_commit * (d.machine.cycle + behind_commit at)

start_bounded : (s : Setup) → 1 ≤ s.cycles → HasBounds s interrupting (demand_start s)
unfolding machine_start
start_bounded s limited = record { cycle = limited; to_commit = omega arith }

-- where neither the cycle number nor what is committed changes
same_bounded : (s : Setup) (at to : At) (d behind : Demand) → in_cycle to ≡ in_cycle at → behind_commit to ≡ behind_commit at → behind.machine.cycle ≡ d.machine.cycle → behind.to_commit ≡ d.to_commit →
    HasBounds s at d → HasBounds s to behind
same_bounded s at to d behind in_it after cycle done is = record {
  cycle = omega (arith, is.cycle);
  to_commit =
      let e : d.machine.cycle + behind_commit at ≡ behind.machine.cycle + behind_commit to = omega arith in
      let f : d.to_commit ≤ s.params.core_commit * (behind.machine.cycle + behind_commit to) = subst (λ (n : ℕ). d.to_commit ≤ s.params.core_commit * n) e is.to_commit in
      omega arith;
}

commit_bounded : (s : Setup) (d : Demand) (b : Bool) → HasBounds s committing d → HasBounds s (if b then ending else completing) (demand_commit s d)
commit_bounded s d b is = by_test b
  where
    c : ℕ
    c = d.machine.cycle

    behind : Machine
    behind = (commit_phase s d.machine).machine

    here : behind.cycle ≡ c
    here = (commit_from s d.machine).cycle

    in_it : behind.cycle + 1 ≤ s.cycles
    in_it = omega (arith, here, is.cycle)

    more : d.to_commit + (commit_phase s d.machine).left ≤ s.params.core_commit * (behind.cycle + 1)
    more =
        let e : suc c ≡ behind.cycle + 1 = omega (arith, here) in
        let was : d.to_commit ≤ s.params.core_commit * c = subst (λ (n : ℕ). d.to_commit ≤ s.params.core_commit * n) (omega arith) is.to_commit in
        let f : d.to_commit + (commit_phase s d.machine).left ≤ s.params.core_commit * suc c = omega (arith, was, commit_most s d.machine, mul-suc s.params.core_commit c) in
        subst (λ (n : ℕ). d.to_commit + (commit_phase s d.machine).left ≤ s.params.core_commit * n) e f

    by_test : (b : Bool) → HasBounds s (if b then ending else completing) (demand_commit s d)
    by_test true = record { cycle = in_it; to_commit = more }
    by_test false = record { cycle = in_it; to_commit = more }

try_or_end_bounded : (s : Setup) (more : ℕ) (d : Demand) → HasBounds s ending d → HasBounds s (try_or_end s more d) d
try_or_end_bounded s zero d is = is
try_or_end_bounded s (suc more) d is = by_test (may_fetch s d.machine)
  where
    by_test : (b : Bool) → HasBounds s (if b then trying more else ending) d
    by_test true = record { cycle = is.cycle; to_commit = is.to_commit }
    by_test false = is

try_bounded : (s : Setup) (t : Try) (more : ℕ) (d : Demand) → Tries d.machine t → HasBounds s (trying more) d → HasBounds s (tried_turn s t more d).at (tried_turn s t more d).demand
try_bounded s (misses behind) more d made is = same_bounded s (trying more) ending d (demand_try s (misses behind) d) refl refl made.cycle refl is
try_bounded s (appends behind) more d made is =
    try_or_end_bounded s more (demand_try s (appends behind) d) (same_bounded s (trying more) ending d (demand_try s (appends behind) d) refl refl made.cycle refl is)
try_bounded s (turns behind) more d made is = same_bounded s (trying more) ending d (demand_try s (turns behind) d) refl refl made.cycle refl is

end_bounded : (s : Setup) (d behind : Demand) → behind.to_commit ≡ d.to_commit → behind.machine ≡ end_of_cycle s d.machine → HasBounds s ending d → HasBounds s (at_after_cycle behind) behind
end_bounded s d behind same ticks is = by_test (has_ended behind.machine.end) refl
  where
    here : behind.machine.cycle ≡ d.machine.cycle + 1
    here = ap (λ (m : Machine). m.cycle) ticks ∙ cycle_end_cycle s d.machine

    more : behind.to_commit ≤ s.params.core_commit * (behind.machine.cycle + 0)
    more =
        let e : d.machine.cycle + 1 ≡ behind.machine.cycle + 0 = omega (arith, here) in
        let f : d.to_commit ≤ s.params.core_commit * (behind.machine.cycle + 0) = subst (λ (n : ℕ). d.to_commit ≤ s.params.core_commit * n) e is.to_commit in
        omega arith

    below : has_ended behind.machine.end ≡ false → behind.machine.cycle ≡ s.cycles → ⊥
    below on limit =
        let ended : has_ended behind.machine.end ≡ true =
        ap (λ (m : Machine). has_ended m.end) ticks ∙ cycle_end_at_limit s d.machine (sym (ap (λ (m : Machine). m.cycle) ticks) ∙ limit) in
        cc

    by_test : (b : Bool) → has_ended behind.machine.end ≡ b → HasBounds s (if b then stopping else interrupting) behind
    by_test true ended = record { cycle = omega (arith, here, is.cycle); to_commit = more }
    by_test false on = record { cycle = omega (arith, here, is.cycle, below on); to_commit = more }

turn_bounded : (s : Setup) (at : At) (d : Demand) → HasBounds s at d → HasBounds s (turn_at s at d).at (turn_at s at d).demand
turn_bounded s interrupting d is = same_bounded s interrupting committing d (turn_at s interrupting d).demand refl refl (interrupt_cycle d.machine) refl is
turn_bounded s committing d is = commit_bounded s d (has_ended (commit_phase s d.machine).machine.end) is
turn_bounded s completing d is = same_bounded s completing issuing d (turn_at s completing d).demand refl refl (complete_kept d.machine).cycle refl is
turn_bounded s issuing d is =
    try_or_end_bounded s s.params.core_fetch (turn_at s issuing d).demand (same_bounded s issuing ending d (turn_at s issuing d).demand refl refl (issue_kept s d.machine).cycle refl is)
turn_bounded s (trying more) d is = try_bounded s (fetch_try s d.machine) more d (try_tries s d.machine) is
turn_bounded s ending d is = end_bounded s d (record d { machine = end_of_cycle s d.machine }) refl refl is
turn_bounded s stopping d is = same_bounded s stopping halted d (turn_at s stopping d).demand refl refl refl refl is
turn_bounded s halted d is = is

-- what is committed is at most what all cycles can commit
place_bounded : (s : Setup) → 1 ≤ s.cycles → (k : ℕ) → HasBounds s (place s k).run.at (place s k).run.demand
place_bounded s limited = always s (HasBounds s) (start_bounded s limited) (turn_bounded s)

behind_in : (at : At) → behind_commit at ≤ in_cycle at
behind_in interrupting = omega arith
behind_in committing = omega arith
behind_in completing = omega arith
behind_in issuing = omega arith
behind_in (trying more) = omega arith
behind_in ending = omega arith
behind_in stopping = omega arith
behind_in halted = omega arith

done_bounded : (s : Setup) → 1 ≤ s.cycles → (k : ℕ) → (place s k).run.demand.to_commit ≤ s.params.core_commit * s.cycles
done_bounded s limited k =
    let p = place s k in
    let is = place_bounded s limited k in
    let within : p.run.demand.machine.cycle + behind_commit p.run.at ≤ s.cycles = omega (arith, is.cycle, behind_in p.run.at) in
    le_trans is.to_commit (mul-le-mul_left s.params.core_commit within)

-- numbers go as far as what is committed and the window
commit_grows : (s : Setup) (o : Order) (os : List Order) → IsNumbered s os o → last_commit os ≤ last_commit (o ∷ os)
commit_grows s (Set m addr) os is = omega arith
commit_grows s (Commit m) os is = is.least
commit_grows s (Interrupt m) os is = omega arith
commit_grows s (Time m v) os is = omega arith
commit_grows s (Stop m) os is = omega arith
commit_grows s (Sync m) os is = omega arith

pub all_at_most : (s : Setup) (n : ℕ) (os : List Order) → AreNumbered s os → last_commit os ≤ n → AreAtMost (n + s.params.core_window) os
all_at_most s n [] are within = tt
all_at_most s n (o ∷ os) are within =
    let less : last_commit os ≤ n = omega (arith, commit_grows s o os are.0) in
    (omega (arith, are.0.most, less), all_at_most s n os are.1 less)

nothing_told : (s : Setup) → length (told (place s 0)) ≤ 0
unfolding place
nothing_told s = omega arith

pub length_added : (o : Option Order) (os : List Order) → length (with_order o os) ≤ length os + 1
length_added None os = omega arith
length_added (Some o) os = omega arith

orders_count : (s : Setup) (k : ℕ) → length (told (place s k)) ≤ k
orders_count s zero = nothing_told s
orders_count s (suc k) =
    let e : length (told (place s (suc k))) ≡ length (with_order (told_by (place s k) (place s (suc k))) (told (place s k))) = ap (λ (os : List Order). length os) (step_told s k) in
    omega (arith, e, length_added (told_by (place s k) (place s (suc k))) (told (place s k)), orders_count s k)

pub run_bounded : (s : Setup) (k : ℕ) → 1 ≤ s.cycles → IsBounded s k (place s k)
run_bounded s k limited =
    let p = place s k in
    let most = done_bounded s limited k in
    record {
      cycle = omega (arith, (place_bounded s limited k).cycle);
      to_commit = most;
      numbers = all_at_most s (s.params.core_commit * s.cycles) (told p) (orders_numbered s k) (subst (λ (n : ℕ). n ≤ s.params.core_commit * s.cycles) (done_told s k) most);
      orders = orders_count s k;
    }
