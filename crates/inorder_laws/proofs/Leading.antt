-- The turns of a cycle lead from the in-order machine before it to the one behind it.
use Rattle.std.proofs.Common.{◌≡◌, ℕ, suc, ◌≤◌, if◌then◌else◌, Bool, true, false, Option, Some, None, length, refl, ap, sym, ◌∙◌, subst, arith}
use Rattle.std.proofs.lemmas.Bool.{cond-false, cond_both}
use Rattle.mono_model.specs.declared.setup.Setup.{Setup}
use Rattle.mono_model.specs.Final.{has_ended}
use Rattle.mono_model.specs.Machine.{machine_start, flushed}
use Rattle.mono_model.specs.Fetch.{Try, misses, appends, turns, fetch_try, after_try}
use Rattle.mono_model.specs.Issue.{replayed}
use Rattle.mono_model.specs.Demand.{Demand, demand_try}
use Rattle.machine_laws.proofs.Phases.{interrupt_cycle, commits_from, completes_from, by_kept, Tries, try_tries}
use Rattle.machine_laws.proofs.Reaching.{cycle_end_cycle}
use Rattle.inorder_machine.specs.InorderMachine.{InorderMachine, inorder_start, Executing, in_execute}
use Rattle.inorder_machine.specs.Write.{inorder_interrupt, write_width, inorder_commit, inorder_write}
use Rattle.inorder_machine.specs.Memory.{inorder_memory}
use Rattle.inorder_machine.specs.Execute.{unmoved, moved, may_move, moving_by, moving, inorder_execute}
use Rattle.inorder_machine.specs.Issue.{inorder_wants_time, issued, issue_machine, inorder_issue}
use Rattle.inorder_machine.specs.Fetch.{inorder_may_fetch, inorder_fetch}
use Rattle.inorder_machine.specs.Cycle.{after_write, inorder_phases, inorder_cycle_end, inorder_cycled, inorder}
use Rattle.inorder_machine.specs.Demand.{InorderAt, interrupting, writing, accessing, executing, issuing, trying, ending, stopping, halted, inorder_in, inorder_turn_at, inorder_place}
use Rattle.inorder_laws.specs.Runs.{starts_cycle, is_inorder_over, IsInorderPlace}
use Rattle.inorder_laws.proofs.Always.{always}

-- the state behind the cycle in which the run stands
abbrev behind_cycle : Setup → InorderAt → InorderMachine → InorderMachine
behind_cycle s interrupting l = l
behind_cycle s writing l = inorder_cycle_end s (after_write s (inorder_write s l))
behind_cycle s accessing l = inorder_cycle_end s (inorder_fetch s (inorder_issue s (inorder_execute s (inorder_memory l))))
behind_cycle s executing l = inorder_cycle_end s (inorder_fetch s (inorder_issue s (inorder_execute s l)))
behind_cycle s issuing l = inorder_cycle_end s (inorder_fetch s (inorder_issue s l))
behind_cycle s trying l = inorder_cycle_end s (record l { machine = after_try (fetch_try s l.machine) (λ behind. behind) })
behind_cycle s ending l = inorder_cycle_end s l
behind_cycle s stopping l = l
behind_cycle s halted l = l

-- how many cycles there are up to there
abbrev cycles_then : InorderAt → ℕ → ℕ
cycles_then interrupting c = c
cycles_then writing c = suc c
cycles_then accessing c = suc c
cycles_then executing c = suc c
cycles_then issuing c = suc c
cycles_then trying c = suc c
cycles_then ending c = suc c
cycles_then stopping c = c
cycles_then halted c = c

-- at a start of a cycle whether the run has ended is as the turn says
abbrev EndedAt : InorderAt → Bool → Type 0
EndedAt interrupting ended = ended ≡ false
EndedAt writing ended = Unit {0}
EndedAt accessing ended = Unit {0}
EndedAt executing ended = Unit {0}
EndedAt issuing ended = Unit {0}
EndedAt trying ended = Unit {0}
EndedAt ending ended = Unit {0}
EndedAt stopping ended = ended ≡ true
EndedAt halted ended = ended ≡ true

-- a cycle leads from the state at a turn to the in-order machine behind so many cycles
pub record LeadsTo (s : Setup) (c : ℕ) (at : InorderAt) (l : InorderMachine) : Type 0 where
  cycle : l.machine.cycle ≡ c
  state : behind_cycle s at l ≡ inorder s (cycles_then at c)
  ended : EndedAt at (has_ended l.machine.end)

start_leads : (s : Setup) → LeadsTo s 0 interrupting (inorder_start s)
unfolding inorder inorder_start machine_start
start_leads s = record { cycle = refl; state = refl; ended = refl }

interrupt_leads : (s : Setup) (c : ℕ) (l : InorderMachine) → LeadsTo s c interrupting l → LeadsTo s c writing (inorder_interrupt l)
unfolding inorder inorder_cycled inorder_interrupt
interrupt_leads s c l leads = record {
  cycle = interrupt_cycle l.machine ∙ leads.cycle;
  state = sym (cond-false (has_ended l.machine.end) l (inorder_cycle_end s (inorder_phases s l)) leads.ended) ∙ ap (λ (x : InorderMachine). inorder_cycled s x) leads.state;
  ended = tt;
}

write_leads : (s : Setup) (c : ℕ) (l : InorderMachine) → LeadsTo s c writing l → (b : Bool) → has_ended (inorder_write s l).machine.end ≡ b →
    LeadsTo s c (if b then ending else accessing) (inorder_write s l)
unfolding inorder_write inorder_commit
write_leads s c l leads b is = by_test b (ap (λ (x : Bool). inorder_cycle_end s (if x then inorder_write s l else inorder_fetch s (inorder_issue s (inorder_execute s (inorder_memory (inorder_write s l)))))) (sym is) ∙ leads.state)
  where
    here : (inorder_write s l).machine.cycle ≡ c
    here = (commits_from s (write_width l) l.machine).cycle ∙ leads.cycle

    by_test : (b : Bool) → inorder_cycle_end s (if b then inorder_write s l else inorder_fetch s (inorder_issue s (inorder_execute s (inorder_memory (inorder_write s l))))) ≡ inorder s (suc c) →
        LeadsTo s c (if b then ending else accessing) (inorder_write s l)
    by_test true on = record { cycle = here; state = on; ended = tt }
    by_test false on = record { cycle = here; state = on; ended = tt }

memory_leads : (s : Setup) (c : ℕ) (l : InorderMachine) → LeadsTo s c accessing l → LeadsTo s c executing (inorder_memory l)
unfolding inorder_memory
memory_leads s c l leads = record { cycle = leads.cycle; state = leads.state; ended = tt }

pub moved_fewer : (s : Setup) (l : InorderMachine) (x : Option Executing) → length (moving_by s x l).completed.records ≤ length l.machine.window
moved_fewer s l None = omega arith
moved_fewer s l (Some x) =
    cond_both (may_move l x) (moved s x l) (unmoved l) (λ k. length k.completed.records ≤ length l.machine.window)
    (λ may. (completes_from x.from l.machine.window).window) (λ may. omega arith)

pub execute_cycle : (s : Setup) (l : InorderMachine) → (inorder_execute s l).machine.cycle ≡ l.machine.cycle
unfolding inorder_execute moving
execute_cycle s l =
    let x = moving_by s (in_execute l.machine.window) l in
    (by_kept x.completed.redirect x.completed.records (record l.machine { caches = x.caches }) (moved_fewer s l (in_execute l.machine.window))).cycle

execute_leads : (s : Setup) (c : ℕ) (l : InorderMachine) → LeadsTo s c executing l → LeadsTo s c issuing (inorder_execute s l)
execute_leads s c l leads = record { cycle = execute_cycle s l ∙ leads.cycle; state = leads.state; ended = tt }

pub issue_cycle : (s : Setup) (l : InorderMachine) → (issue_machine s l).cycle ≡ l.machine.cycle
unfolding flushed
issue_cycle s l = cond_both (inorder_wants_time s l.machine) (replayed l.machine) (issued s l) (λ x. x.cycle ≡ l.machine.cycle) (λ e. refl) (λ e. refl)

issue_leads : (s : Setup) (c : ℕ) (l : InorderMachine) → LeadsTo s c issuing l → LeadsTo s c (if inorder_may_fetch (inorder_issue s l).machine then trying else ending) (inorder_issue s l)
unfolding inorder_issue inorder_fetch
issue_leads s c l leads = by_test (inorder_may_fetch (inorder_issue s l).machine) leads.state
  where
    here : (inorder_issue s l).machine.cycle ≡ c
    here = issue_cycle s l ∙ leads.cycle

    by_test : (b : Bool) → inorder_cycle_end s (record (inorder_issue s l) { machine = if b then after_try (fetch_try s (inorder_issue s l).machine) (λ behind. behind) else (inorder_issue s l).machine }) ≡ inorder s (suc c) →
        LeadsTo s c (if b then trying else ending) (inorder_issue s l)
    by_test true on = record { cycle = here; state = on; ended = tt }
    by_test false on = record { cycle = here; state = on; ended = tt }

try_leads : (s : Setup) (c : ℕ) (t : Try) (d : Demand) (memory : Option ℕ) → Tries d.machine t → d.machine.cycle ≡ c →
    inorder_cycle_end s (record { machine = after_try t (λ behind. behind); memory = memory }) ≡ inorder s (suc c) → LeadsTo s c ending (inorder_in (demand_try s t d) memory)
try_leads s c (misses behind) d memory is here leads = record { cycle = is.cycle ∙ here; state = leads; ended = tt }
try_leads s c (appends behind) d memory is here leads = record { cycle = is.cycle ∙ here; state = leads; ended = tt }
try_leads s c (turns behind) d memory is here leads = record { cycle = is.cycle ∙ here; state = leads; ended = tt }

next_leads : (s : Setup) (c : ℕ) (l : InorderMachine) → l.machine.cycle ≡ c → l ≡ inorder s c → (b : Bool) → has_ended l.machine.end ≡ b → LeadsTo s c (if b then stopping else interrupting) l
next_leads s c l here is true ended = record { cycle = here; state = is; ended = ended }
next_leads s c l here is false ended = record { cycle = here; state = is; ended = ended }

end_leads : (s : Setup) (c : ℕ) (l : InorderMachine) → LeadsTo s c ending l →
    LeadsTo s (suc c) (if has_ended (inorder_cycle_end s l).machine.end then stopping else interrupting) (inorder_cycle_end s l)
end_leads s c l leads =
    next_leads s (suc c) (inorder_cycle_end s l) (cycle_end_cycle s l.machine ∙ omega (arith, leads.cycle)) leads.state (has_ended (inorder_cycle_end s l).machine.end) refl

-- each turn leads on, and the cycle's last one to the next cycle
cycle_after : InorderAt → ℕ → ℕ
cycle_after interrupting c = c
cycle_after writing c = c
cycle_after accessing c = c
cycle_after executing c = c
cycle_after issuing c = c
cycle_after trying c = c
cycle_after ending c = suc c
cycle_after stopping c = c
cycle_after halted c = c

turn_leads : (s : Setup) (c : ℕ) (at : InorderAt) (d : Demand) (memory : Option ℕ) → LeadsTo s c at (inorder_in d memory) →
    LeadsTo s (cycle_after at c) (inorder_turn_at s at d memory).at (inorder_in (inorder_turn_at s at d memory).demand (inorder_turn_at s at d memory).memory)
unfolding cycle_after inorder_interrupt inorder_write inorder_memory inorder_execute inorder_issue
turn_leads s c interrupting d memory leads = interrupt_leads s c (inorder_in d memory) leads
turn_leads s c writing d memory leads = write_leads s c (inorder_in d memory) leads (has_ended (inorder_commit s (inorder_in d memory)).machine.end) refl
turn_leads s c accessing d memory leads = memory_leads s c (inorder_in d memory) leads
turn_leads s c executing d memory leads = execute_leads s c (inorder_in d memory) leads
turn_leads s c issuing d memory leads = issue_leads s c (inorder_in d memory) leads
turn_leads s c trying d memory leads = try_leads s c (fetch_try s d.machine) d memory (try_tries s d.machine) leads.cycle leads.state
turn_leads s c ending d memory leads = end_leads s c (inorder_in d memory) leads
turn_leads s c stopping d memory leads = record { cycle = leads.cycle; state = leads.state; ended = leads.ended }
turn_leads s c halted d memory leads = leads

-- at each place the turns lead to the in-order machine
leads_by : (s : Setup) (c : ℕ) (at : InorderAt) (l : InorderMachine) → LeadsTo s c at l → LeadsTo s l.machine.cycle at l
leads_by s c at l leads = subst (λ (k : ℕ). LeadsTo s k at l) (sym leads.cycle) leads

pub place_leads : (s : Setup) (k : ℕ) →
    LeadsTo s (inorder_place s k).run.demand.machine.cycle (inorder_place s k).run.at (inorder_in (inorder_place s k).run.demand (inorder_place s k).run.memory)
unfolding inorder_start
place_leads s =
    always s (λ at d memory. LeadsTo s d.machine.cycle at (inorder_in d memory)) (leads_by s 0 interrupting (inorder_start s) (start_leads s))
    (λ at d memory leads. leads_by s (cycle_after at d.machine.cycle) (inorder_turn_at s at d memory).at
    (inorder_in (inorder_turn_at s at d memory).demand (inorder_turn_at s at d memory).memory) (turn_leads s d.machine.cycle at d memory leads))

by_at : (s : Setup) (c : ℕ) (at : InorderAt) (l : InorderMachine) → starts_cycle at ≡ true → LeadsTo s c at l → (l ≡ inorder s c) × (has_ended l.machine.end ≡ is_inorder_over at)
by_at s c interrupting l start leads = (leads.state, leads.ended)
by_at s c writing l start leads = cc
by_at s c accessing l start leads = cc
by_at s c executing l start leads = cc
by_at s c issuing l start leads = cc
by_at s c trying l start leads = cc
by_at s c ending l start leads = cc
by_at s c stopping l start leads = (leads.state, leads.ended)
by_at s c halted l start leads = (leads.state, leads.ended)

-- where a cycle starts and at the end the state is the in-order machine's
pub is_inorder : (s : Setup) (k : ℕ) → starts_cycle (inorder_place s k).run.at ≡ true → IsInorderPlace s (inorder_place s k)
is_inorder s k start =
    let r = (inorder_place s k).run in
    let l : InorderMachine = inorder_in r.demand r.memory in
    let is = by_at s l.machine.cycle r.at l start (place_leads s k) in
    record { state = is.0; over = ap (λ (x : InorderMachine). has_ended x.machine.end) (sym is.0) ∙ is.1 }
