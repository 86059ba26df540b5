-- The turns of a cycle lead from the monolithic machine before it to the one behind it.
use Rattle.std.proofs.Common.{◌≡◌, ℕ, zero, suc, if◌then◌else◌, Bool, true, false, refl, ap, sym, ◌∙◌, subst, arith}
use Rattle.std.proofs.lemmas.Bool.{cond-false}
use Rattle.mono_model.specs.declared.setup.Setup.{Setup}
use Rattle.mono_model.specs.Final.{has_ended}
use Rattle.mono_model.specs.Machine.{Machine, machine_start}
use Rattle.mono_model.specs.Interrupt.{interrupt_phase}
use Rattle.mono_model.specs.Commit.{commit_phase}
use Rattle.mono_model.specs.Complete.{complete_phase}
use Rattle.mono_model.specs.Issue.{issue_phase}
use Rattle.mono_model.specs.Fetch.{Try, misses, appends, turns, may_fetch, fetch_try, after_try, fetches, fetch_phase}
use Rattle.mono_model.specs.Cycle.{after_commit, phases, end_of_cycle, cycled, mono}
use Rattle.mono_model.specs.Demand.{Demand, At, interrupting, committing, completing, issuing, trying, ending, stopping, halted, try_or_end, at_after_commit, at_after_cycle, tried_turn, turn_at, demand_commit, demand_issue, demand_try, place}
use Rattle.mono_model.specs.Split.{is_cycle_start}
use Rattle.machine_laws.specs.Runs.{is_over, IsMono}
use Rattle.machine_laws.proofs.Phases.{interrupt_cycle, commit_from, complete_kept, issue_kept, Tries, try_tries}
use Rattle.machine_laws.proofs.Always.{always}

-- the machine behind the cycle in which the run stands
abbrev behind_cycle : Setup → At → Machine → Machine
behind_cycle s interrupting m = m
behind_cycle s committing m = end_of_cycle s (after_commit s (commit_phase s m).machine)
behind_cycle s completing m = end_of_cycle s (fetch_phase s (issue_phase s (complete_phase m)))
behind_cycle s issuing m = end_of_cycle s (fetch_phase s (issue_phase s m))
behind_cycle s (trying more) m = end_of_cycle s (after_try (fetch_try s m) (λ behind. fetches s more behind))
behind_cycle s ending m = end_of_cycle s m
behind_cycle s stopping m = m
behind_cycle s halted m = m

-- how many cycles there are up to there
abbrev cycles_then : At → ℕ → ℕ
cycles_then interrupting c = c
cycles_then committing c = suc c
cycles_then completing c = suc c
cycles_then issuing c = suc c
cycles_then (trying more) c = suc c
cycles_then ending c = suc c
cycles_then stopping c = c
cycles_then halted c = c

-- at a start of a cycle whether the run has ended is as the turn says
abbrev EndedAt : At → Bool → Type 0
EndedAt interrupting ended = ended ≡ false
EndedAt committing ended = Unit {0}
EndedAt completing ended = Unit {0}
EndedAt issuing ended = Unit {0}
EndedAt (trying more) ended = Unit {0}
EndedAt ending ended = Unit {0}
EndedAt stopping ended = ended ≡ true
EndedAt halted ended = ended ≡ true

-- a cycle leads from the machine at a turn to the monolithic one behind so many cycles
pub record LeadsTo (s : Setup) (c : ℕ) (at : At) (m : Machine) : Type 0 where
  pub cycle : m.cycle ≡ c
  pub machine : behind_cycle s at m ≡ mono s (cycles_then at c)
  pub ended : EndedAt at (has_ended m.end)

-- the run's start
start_leads : (s : Setup) → LeadsTo s 0 interrupting (machine_start s)
unfolding mono machine_start
start_leads s = record { cycle = refl; machine = refl; ended = refl }

interrupt_leads : (s : Setup) (c : ℕ) (m : Machine) → LeadsTo s c interrupting m → LeadsTo s c committing (interrupt_phase m)
unfolding mono cycled
interrupt_leads s c m leads = record {
  cycle = interrupt_cycle m ∙ leads.cycle;
  machine = sym (cond-false (has_ended m.end) m (end_of_cycle s (phases s m)) leads.ended) ∙ ap (λ (x : Machine). cycled s x) leads.machine;
  ended = tt;
}

commit_leads : (s : Setup) (c : ℕ) (d : Demand) → LeadsTo s c committing d.machine → LeadsTo s c (at_after_commit (demand_commit s d)) (commit_phase s d.machine).machine
commit_leads s c d leads = by_test (has_ended behind.end) leads.machine
  where
    behind : Machine
    behind = (commit_phase s d.machine).machine

    here : behind.cycle ≡ c
    here = (commit_from s d.machine).cycle ∙ leads.cycle

    by_test : (b : Bool) → end_of_cycle s (if b then behind else fetch_phase s (issue_phase s (complete_phase behind))) ≡ mono s (suc c) →
        LeadsTo s c (if b then ending else completing) behind
    by_test true is = record { cycle = here; machine = is; ended = tt }
    by_test false is = record { cycle = here; machine = is; ended = tt }

complete_leads : (s : Setup) (c : ℕ) (m : Machine) → LeadsTo s c completing m → LeadsTo s c issuing (complete_phase m)
complete_leads s c m leads = record { cycle = (complete_kept m).cycle ∙ leads.cycle; machine = leads.machine; ended = tt }

-- fetch with so many tries allowed
try_or_end_leads : (s : Setup) (c more : ℕ) (m : Machine) → m.cycle ≡ c → (b : Bool) → end_of_cycle s (if b then after_try (fetch_try s m) (λ behind. fetches s more behind) else m) ≡ mono s (suc c) →
    LeadsTo s c (if b then trying more else ending) m
try_or_end_leads s c more m here true is = record { cycle = here; machine = is; ended = tt }
try_or_end_leads s c more m here false is = record { cycle = here; machine = is; ended = tt }

fetches_lead : (s : Setup) (c more : ℕ) (d : Demand) → d.machine.cycle ≡ c → end_of_cycle s (fetches s more d.machine) ≡ mono s (suc c) → LeadsTo s c (try_or_end s more d) d.machine
unfolding fetches
fetches_lead s c zero d here is = record { cycle = here; machine = is; ended = tt }
fetches_lead s c (suc more) d here is = try_or_end_leads s c more d.machine here (may_fetch s d.machine) is

issue_leads : (s : Setup) (c : ℕ) (d behind : Demand) → behind.machine ≡ issue_phase s d.machine → LeadsTo s c issuing d.machine → LeadsTo s c (try_or_end s s.params.core_fetch behind) behind.machine
unfolding fetch_phase
issue_leads s c d behind is leads =
    fetches_lead s c s.params.core_fetch behind (ap (λ (m : Machine). m.cycle) is ∙ (issue_kept s d.machine).cycle ∙ leads.cycle)
    (ap (λ (m : Machine). end_of_cycle s (fetches s s.params.core_fetch m)) is ∙ leads.machine)

try_leads : (s : Setup) (c : ℕ) (t : Try) (more : ℕ) (d : Demand) → Tries d.machine t → d.machine.cycle ≡ c → end_of_cycle s (after_try t (λ behind. fetches s more behind)) ≡ mono s (suc c) →
    LeadsTo s c (tried_turn s t more d).at (tried_turn s t more d).demand.machine
try_leads s c (misses behind) more d is here leads = record { cycle = is.cycle ∙ here; machine = leads; ended = tt }
try_leads s c (appends behind) more d is here leads = fetches_lead s c more (demand_try s (appends behind) d) (is.cycle ∙ here) leads
try_leads s c (turns behind) more d is here leads = record { cycle = is.cycle ∙ here; machine = leads; ended = tt }

next_leads : (s : Setup) (c : ℕ) (m : Machine) → m.cycle ≡ c → m ≡ mono s c → (b : Bool) → has_ended m.end ≡ b → LeadsTo s c (if b then stopping else interrupting) m
next_leads s c m here is true ended = record { cycle = here; machine = is; ended = ended }
next_leads s c m here is false ended = record { cycle = here; machine = is; ended = ended }

end_leads : (s : Setup) (c : ℕ) (d behind : Demand) → behind.machine ≡ end_of_cycle s d.machine → LeadsTo s c ending d.machine → LeadsTo s (suc c) (at_after_cycle behind) behind.machine
unfolding end_of_cycle
end_leads s c d behind is leads = next_leads s (suc c) behind.machine (ap (λ (m : Machine). m.cycle) is ∙ omega (arith, leads.cycle)) (is ∙ leads.machine) (has_ended behind.machine.end) refl

-- each turn leads on, and the cycle's last one to the next cycle
cycle_after : At → ℕ → ℕ
cycle_after interrupting c = c
cycle_after committing c = c
cycle_after completing c = c
cycle_after issuing c = c
cycle_after (trying more) c = c
cycle_after ending c = suc c
cycle_after stopping c = c
cycle_after halted c = c

turn_leads : (s : Setup) (c : ℕ) (at : At) (d : Demand) → LeadsTo s c at d.machine → LeadsTo s (cycle_after at c) (turn_at s at d).at (turn_at s at d).demand.machine
unfolding cycle_after
turn_leads s c interrupting d leads = interrupt_leads s c d.machine leads
turn_leads s c committing d leads = commit_leads s c d leads
turn_leads s c completing d leads = complete_leads s c d.machine leads
turn_leads s c issuing d leads = issue_leads s c d (demand_issue s d) refl leads
turn_leads s c (trying more) d leads = try_leads s c (fetch_try s d.machine) more d (try_tries s d.machine) leads.cycle leads.machine
turn_leads s c ending d leads = end_leads s c d (record d { machine = end_of_cycle s d.machine }) refl leads
turn_leads s c stopping d leads = record { cycle = leads.cycle; machine = leads.machine; ended = leads.ended }
turn_leads s c halted d leads = leads

-- at each place the turns lead to the monolithic machine
abbrev Leads : Setup → At → Demand → Type 0
Leads s at d = LeadsTo s d.machine.cycle at d.machine

leads_by : (s : Setup) (c : ℕ) (at : At) (m : Machine) → LeadsTo s c at m → LeadsTo s m.cycle at m
leads_by s c at m leads = subst (λ (k : ℕ). LeadsTo s k at m) (sym leads.cycle) leads

pub place_leads : (s : Setup) (k : ℕ) → Leads s (place s k).run.at (place s k).run.demand
place_leads s = always s (Leads s) (leads_by s 0 interrupting (machine_start s) (start_leads s))
    (λ at d leads. leads_by s (cycle_after at d.machine.cycle) (turn_at s at d).at (turn_at s at d).demand.machine (turn_leads s d.machine.cycle at d leads))

by_at : (s : Setup) (c : ℕ) (at : At) (m : Machine) → is_cycle_start at ≡ true → LeadsTo s c at m → (m ≡ mono s c) × (has_ended m.end ≡ is_over at)
by_at s c interrupting m start leads = (leads.machine, leads.ended)
by_at s c committing m start leads = cc
by_at s c completing m start leads = cc
by_at s c issuing m start leads = cc
by_at s c (trying more) m start leads = cc
by_at s c ending m start leads = cc
by_at s c stopping m start leads = (leads.machine, leads.ended)
by_at s c halted m start leads = (leads.machine, leads.ended)

-- where a cycle starts and at the end the machine is the monolithic one
pub is_mono : (s : Setup) (k : ℕ) → is_cycle_start (place s k).run.at ≡ true → IsMono s (place s k)
is_mono s k start =
    let m = (place s k).run.demand.machine in
    let is = by_at s m.cycle (place s k).run.at m start (place_leads s k) in
    record { machine = is.0; over = ap (λ (x : Machine). has_ended x.end) (sym is.0) ∙ is.1 }
