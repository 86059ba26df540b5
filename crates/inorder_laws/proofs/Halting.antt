-- The demand run halts within its bound of steps.
use Rattle.std.proofs.Common.{◌≡◌, ℕ, zero, suc, ◌+◌, ◌-◌, ◌*◌, ◌≤◌, if◌then◌else◌, Bool, true, false, Option, length, refl, ap, sym, ◌∙◌, subst, arith}
use Rattle.std.proofs.lemmas.Bool.{cond-true}
use Rattle.rollback_cmds.specs.declared.order.Order.TheVariants.{Time}
use Rattle.mono_model.specs.declared.setup.Setup.{Setup}
use Rattle.mono_model.specs.Final.{has_ended}
use Rattle.mono_model.specs.Machine.{machine_start}
use Rattle.mono_model.specs.Commit.{Committed, commits}
use Rattle.mono_model.specs.Fetch.{Try, misses, appends, turns, fetch_try}
use Rattle.mono_model.specs.Cycle.{end_of_cycle}
use Rattle.mono_model.specs.Demand.{Demand, demand_committed, demand_try}
use Rattle.mono_model.specs.Split.{is_halted}
use Rattle.machine_laws.proofs.Phases.{interrupt_cycle, commits_from, Tries, try_tries}
use Rattle.machine_laws.proofs.Reaching.{interrupt_count, commit_count, redirect_count, try_count, if_one_more, cycle_end_cycle}
use Rattle.inorder_machine.specs.InorderMachine.{InorderMachine, in_execute}
use Rattle.inorder_machine.specs.Write.{write_width, inorder_commit}
use Rattle.inorder_machine.specs.Execute.{moving_by, moving}
use Rattle.inorder_machine.specs.Issue.{inorder_wants_time}
use Rattle.inorder_machine.specs.Fetch.{inorder_may_fetch}
use Rattle.inorder_machine.specs.Cycle.{inorder_phases, inorder_cycle_end, inorder_cycled, inorder}
use Rattle.inorder_machine.specs.Demand.{InorderAt, interrupting, writing, accessing, executing, issuing, trying, ending, stopping, halted, inorder_in, demand_inorder_issue, InorderRun, inorder_turn_at, inorder_turn, InorderPlace, inorder_place, inorder_step_bound, seen_at}
use Rattle.inorder_laws.specs.Runs.{starts_cycle, is_inorder_over, InorderHalts}
use Rattle.inorder_laws.proofs.Always.{inorder_owed_behind, at_each_turn}
use Rattle.inorder_laws.proofs.Bounds.{in_cycle, moved_cycle, place_bounded}
use Rattle.inorder_laws.proofs.Leading.{issue_cycle, is_inorder}
use Rattle.inorder_laws.proofs.Owing.{halted_told, still_places}

-- A cycle has eight steps at most. Before it halts the run is no further behind `k` steps than its cycles and turns say.
abbrev Paced : InorderAt → ℕ → ℕ → Type 0
Paced interrupting k cycle = k ≤ cycle * 8
Paced writing k cycle = k ≤ cycle * 8 + 1
Paced accessing k cycle = k ≤ cycle * 8 + 3
Paced executing k cycle = k ≤ cycle * 8 + 4
Paced issuing k cycle = k ≤ cycle * 8 + 5
Paced trying k cycle = k ≤ cycle * 8 + 6
Paced ending k cycle = k ≤ cycle * 8 + 7
Paced stopping k cycle = k ≤ cycle * 8
Paced halted k cycle = Unit {0}

-- with the orders that a turn leaves to be told
abbrev PacedBehind : Demand → InorderRun → ℕ → Type 0
PacedBehind d r k = Paced r.at (suc k + (length r.demand.orders - length d.orders - 1)) r.demand.machine.cycle

write_paced : (d : Demand) (c : Committed) (k : ℕ) → c.machine.cycle ≡ d.machine.cycle → k ≤ d.machine.cycle * 8 + 1 → (b : Bool) →
    Paced (if b then ending else accessing) (suc k + (length (demand_committed c d).orders - length d.orders - 1)) c.machine.cycle
write_paced d c k same paced true = omega (arith, commit_count c d)
write_paced d c k same paced false = omega (arith, commit_count c d)

issue_paced : (k more cycle now : ℕ) → cycle ≡ now → more ≤ 0 → k ≤ now * 8 + 5 → (b : Bool) → Paced (if b then trying else ending) (suc k + more) cycle
issue_paced k more cycle now same none paced true = omega arith
issue_paced k more cycle now same none paced false = omega arith

try_paced : (s : Setup) (t : Try) (d : Demand) (k : ℕ) → Tries d.machine t → k ≤ d.machine.cycle * 8 + 6 →
    Paced ending (suc k + (length (demand_try s t d).orders - length d.orders - 1)) (demand_try s t d).machine.cycle
try_paced s (misses behind) d k made paced = omega (arith, made.cycle, try_count s (misses behind) d)
try_paced s (appends behind) d k made paced = omega (arith, made.cycle, try_count s (appends behind) d)
try_paced s (turns behind) d k made paced = omega (arith, made.cycle, try_count s (turns behind) d)

end_paced : (k more cycle now : ℕ) → cycle ≡ now + 1 → more ≤ 0 → k ≤ now * 8 + 7 → (b : Bool) → Paced (if b then stopping else interrupting) (suc k + more) cycle
end_paced k more cycle now same none paced true = omega arith
end_paced k more cycle now same none paced false = omega arith

turn_paced : (s : Setup) (at : InorderAt) (d : Demand) (memory : Option ℕ) (k : ℕ) → Paced at k d.machine.cycle → PacedBehind d (inorder_turn_at s at d memory) k
unfolding inorder_commit moving
turn_paced s interrupting d memory k paced = omega (arith, interrupt_cycle d.machine, interrupt_count d)
turn_paced s writing d memory k paced =
    let l : InorderMachine = inorder_in d memory in
    let c : Committed = commits s (write_width l) 0 d.machine in
    write_paced d c k (commits_from s (write_width l) d.machine).cycle paced (has_ended c.machine.end)
turn_paced s accessing d memory k paced = omega arith
turn_paced s executing d memory k paced =
    let x = moving_by s (in_execute d.machine.window) (inorder_in d memory) in
    omega (arith, moved_cycle s d memory, redirect_count x.completed.redirect (d.to_commit + length x.completed.records) d.orders)
turn_paced s issuing d memory k paced =
    let behind : Demand = demand_inorder_issue s memory d in
    issue_paced k (length behind.orders - length d.orders - 1) behind.machine.cycle d.machine.cycle (issue_cycle s (inorder_in d memory))
    (omega (arith, if_one_more (inorder_wants_time s d.machine) (Time d.to_commit d.machine.cycle) d.orders)) paced (inorder_may_fetch behind.machine)
turn_paced s trying d memory k paced = try_paced s (fetch_try s d.machine) d k (try_tries s d.machine) paced
turn_paced s ending d memory k paced =
    end_paced k (length d.orders - length d.orders - 1) (end_of_cycle s d.machine).cycle d.machine.cycle (cycle_end_cycle s d.machine) (omega arith) paced (has_ended (end_of_cycle s d.machine).end)
turn_paced s stopping d memory k paced = tt
turn_paced s halted d memory k paced = tt

order_paced : (at : InorderAt) (k owed cycle : ℕ) → Paced at (k + suc owed) cycle → Paced at (suc k + owed) cycle
order_paced interrupting k owed cycle paced = omega (arith, paced)
order_paced writing k owed cycle paced = omega (arith, paced)
order_paced accessing k owed cycle paced = omega (arith, paced)
order_paced executing k owed cycle paced = omega (arith, paced)
order_paced issuing k owed cycle paced = omega (arith, paced)
order_paced trying k owed cycle paced = omega (arith, paced)
order_paced ending k owed cycle paced = omega (arith, paced)
order_paced stopping k owed cycle paced = omega (arith, paced)
order_paced halted k owed cycle paced = tt

abbrev IsPaced : ℕ → InorderRun → ℕ → Type 0
IsPaced k r owed = Paced r.at (k + owed) r.demand.machine.cycle

by_turn : (s : Setup) (k : ℕ) (r : InorderRun) → IsPaced k r 0 → IsPaced (suc k) (inorder_turn s r) (inorder_owed_behind s r)
unfolding inorder_turn
by_turn s k r paced =
    let e : k + 0 ≡ k = omega arith in
    turn_paced s r.at r.demand r.memory k (subst (λ (n : ℕ). Paced r.at n r.demand.machine.cycle) e paced)

place_paced : (s : Setup) (k : ℕ) → IsPaced k (inorder_place s k).run (inorder_place s k).owed
unfolding machine_start
place_paced s = at_each_turn s IsPaced (omega arith) (by_turn s) (λ k owed r paced. order_paced r.at k owed r.demand.machine.cycle paced)

-- so behind its bound of steps it has halted
over_by : (s : Setup) (at : InorderAt) (k cycle : ℕ) → inorder_step_bound s ≤ k → Paced at k cycle → cycle + in_cycle at ≤ s.cycles → at ≡ halted
over_by s interrupting k cycle late paced within = absurd (omega arith)
over_by s writing k cycle late paced within = absurd (omega arith)
over_by s accessing k cycle late paced within = absurd (omega arith)
over_by s executing k cycle late paced within = absurd (omega arith)
over_by s issuing k cycle late paced within = absurd (omega arith)
over_by s trying k cycle late paced within = absurd (omega arith)
over_by s ending k cycle late paced within = absurd (omega arith)
over_by s stopping k cycle late paced within = absurd (omega arith)
over_by s halted k cycle late paced within = refl

halted_at_bound : (s : Setup) → 1 ≤ s.cycles → (inorder_place s (inorder_step_bound s)).run.at ≡ halted
halted_at_bound s limited =
    let k : ℕ = inorder_step_bound s in
    let p : InorderPlace = inorder_place s k in
    over_by s p.run.at (k + p.owed) p.run.demand.machine.cycle (omega arith) (place_paced s k) (place_bounded s limited k).cycle

-- once it has ended the machine stands still
pub ended_stays : (s : Setup) (c : ℕ) → has_ended (inorder s c).machine.end ≡ true → inorder s (suc c) ≡ inorder s c
unfolding inorder inorder_cycled
ended_stays s c ended = cond-true (has_ended (inorder s c).machine.end) (inorder s c) (inorder_cycle_end s (inorder_phases s (inorder s c))) ended

still_on : (s : Setup) (c more : ℕ) → has_ended (inorder s c).machine.end ≡ true → inorder s (more + c) ≡ inorder s c
still_on s c zero ended = ap (inorder s) (omega arith)
still_on s c (suc more) ended =
    let e : suc more + c ≡ suc (more + c) = omega arith in
    let same : inorder s (more + c) ≡ inorder s c = still_on s c more ended in
    ap (inorder s) e ∙ ended_stays s (more + c) (ap (λ (l : InorderMachine). has_ended l.machine.end) same ∙ ended) ∙ same

pub run_halts : (s : Setup) → 1 ≤ s.cycles → InorderHalts s
run_halts s limited =
    let k : ℕ = inorder_step_bound s in
    let p : InorderPlace = inorder_place s k in
    let c : ℕ = p.run.demand.machine.cycle in
    let at : p.run.at ≡ halted = halted_at_bound s limited in
    let is = is_inorder s k (ap starts_cycle at) in
    let over : is_halted (seen_at p.run.at) ≡ true = ap (λ (a : InorderAt). is_halted (seen_at a)) at in
    let last : (s.cycles - c) + c ≡ s.cycles = omega (arith, (place_bounded s limited k).cycle) in
    record {
      at = at;
      told = halted_told s k over;
      state = is.state ∙ sym (still_on s c (s.cycles - c) (is.over ∙ ap is_inorder_over at)) ∙ ap (inorder s) last;
      still = λ n later.
          let e : n ≡ (n - k) + k = omega arith in
          ap (inorder_place s) e ∙ still_places s k (n - k) over;
    }
