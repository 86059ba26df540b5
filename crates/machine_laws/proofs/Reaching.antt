-- The demand run comes to each cycle, and to its end.
use Rattle.std.proofs.Common.{◌≡◌, ℕ, zero, suc, ◌+◌, ◌-◌, ◌*◌, ◌≤◌, ◌==◌, if◌then◌else◌, Bool, true, false, Option, Some, None, List, ◌∷◌, length, refl, ap, sym, ◌∙◌, ap₂, suc-mul, arith}
use Rattle.std.proofs.lemmas.Bool.{cond_both, cond-true, and_parts, eqb-true}
use Rattle.rollback_cmds.specs.declared.order.Order.{Order}
use Rattle.rollback_cmds.specs.declared.order.Order.TheVariants.{Set, Interrupt, Time}
use Rattle.mono_model.specs.declared.setup.Setup.{Setup}
use Rattle.mono_model.specs.Final.{has_ended}
use Rattle.mono_model.specs.Machine.{Machine, machine_start}
use Rattle.mono_model.specs.Interrupt.{is_interrupted}
use Rattle.mono_model.specs.Commit.{Ending, plain, trap, sync, Committed, commit_phase}
use Rattle.mono_model.specs.Complete.{completes}
use Rattle.mono_model.specs.Issue.{wants_time}
use Rattle.mono_model.specs.Fetch.{Try, misses, appends, turns, may_fetch, fetch_try, predicted_next}
use Rattle.mono_model.specs.Path.{entry}
use Rattle.mono_model.specs.Cycle.{phases, end_of_cycle, cycled, mono}
use Rattle.mono_model.specs.Split.{is_cycle_start, is_place_boundary}
use Rattle.machine_laws.specs.Runs.{is_over, Reaches}
use Rattle.machine_laws.proofs.Phases.{interrupt_cycle, commit_from, complete_kept, issue_kept, Tries, try_tries}
use Rattle.machine_laws.proofs.DemandRun.{is_mono}
use Rattle.mono_model.specs.Demand.{Demand, next, interrupt_orders, ending_orders, commit_order, demand_committed, redirect_orders, time_orders, path_orders, demand_interrupt, demand_commit, demand_complete, demand_issue, demand_try, At, interrupting, committing, completing, issuing, trying, ending, stopping, halted, Run, run_at, try_or_end, at_after_commit, at_after_cycle, tried_turn, turn_at, turn, Place, step, place}
use Rattle.mono_model.proofs.Next.{mono-suc, place-suc}

-- How many orders a turn makes.
pub if_one_more : (b : Bool) (o : Order) (os : List Order) → length (if b then o ∷ os else os) ≤ length os + 1
if_one_more true o os = omega arith
if_one_more false o os = omega arith

if_same : (b : Bool) (o : Order) (os : List Order) → length (if b then os else o ∷ os) ≤ length os + 1
if_same true o os = omega arith
if_same false o os = omega arith

pub interrupt_count : (d : Demand) → length (interrupt_orders d) ≤ length d.orders + 1
interrupt_count d = if_one_more (is_interrupted d.machine) (Interrupt d.to_commit) d.orders

ending_count : (e : Ending) (handler n : ℕ) (os : List Order) → length (ending_orders e handler n os) ≤ length os + 1
ending_count plain handler n os = omega arith
ending_count trap handler n os = omega arith
ending_count sync handler n os = omega arith

pub left_count : (left n : ℕ) (os : List Order) → length (commit_order left n os) ≤ length os + 1
left_count zero n os = omega arith
left_count (suc left) n os = omega arith

pub commit_count : (c : Committed) (d : Demand) → length (demand_committed c d).orders ≤ length d.orders + 2
commit_count c d =
    omega (arith, ending_count c.ending c.machine.arch.pc (d.to_commit + c.left) (commit_order c.left (d.to_commit + c.left) d.orders), left_count c.left (d.to_commit + c.left) d.orders)

pub redirect_count : (redirect : Option ℕ) (n : ℕ) (os : List Order) → length (redirect_orders redirect n os) ≤ length os + 1
redirect_count None n os = omega arith
redirect_count (Some addr) n os = omega arith

pub time_count : (s : Setup) (d : Demand) → length (time_orders s d) ≤ length d.orders + 1
time_count s d = if_one_more (wants_time s d.machine) (Time d.to_commit d.machine.cycle) d.orders

path_count : (s : Setup) (d : Demand) → length (path_orders s d) ≤ length d.orders + 1
path_count s d = if_same ((entry s d.orders (next d)).next == predicted_next s d.machine) (Set (next d + 1) (predicted_next s d.machine)) d.orders

pub try_count : (s : Setup) (t : Try) (d : Demand) → length (demand_try s t d).orders ≤ length d.orders + 1
try_count s (misses behind) d = omega arith
try_count s (appends behind) d = path_count s d
try_count s (turns behind) d = path_count s d

-- Within so many steps the run stands there, with all orders told.
record Reached (s : Setup) (most : ℕ) (r : Run) : Type 0 where
  pub steps : ℕ
  within : steps ≤ most
  stands : place s steps ≡ record { run = r; owed = 0 }

more_reached : (s : Setup) (most more : ℕ) (r : Run) → most ≤ more → Reached s most r → Reached s more r
more_reached s most more r less there = record { steps = there.steps; within = omega (arith, there.within); stands = there.stands }

-- orders that a turn made are told one after the other
told_reached : (s : Setup) (owed k most : ℕ) (r : Run) → k + owed ≤ most → place s k ≡ record { run = r; owed = owed } → Reached s most r
unfolding step
told_reached s zero k most r within is = record { steps = k; within = omega arith; stands = is }
told_reached s (suc owed) k most r within is = told_reached s owed (suc k) most r (omega arith) (place-suc s k ∙ ap (λ (p : Place). step s p) is)

turn_reached : (s : Setup) (most more : ℕ) (at : At) (d : Demand) → length (turn_at s at d).demand.orders ≤ length d.orders + 1 + more → Reached s most (run_at d at) → Reached s (most + 1 + more) (turn_at s at d)
unfolding step turn
turn_reached s most more at d made there =
    told_reached s (length (turn_at s at d).demand.orders - length d.orders - 1) (suc there.steps) (most + 1 + more) (turn_at s at d)
    (omega (arith, there.within)) (place-suc s there.steps ∙ ap (λ (p : Place). step s p) there.stands)

-- the end of a cycle with this number is reached
record Ends (s : Setup) (c most : ℕ) : Type 0 where
  behind : Demand
  cycle : behind.machine.cycle ≡ c
  there : Reached s most (run_at behind ending)

more_ends : (s : Setup) (c most more : ℕ) → most ≤ more → Ends s c most → Ends s c more
more_ends s c most more less ends = record { behind = ends.behind; cycle = ends.cycle; there = more_reached s most more (run_at ends.behind ending) less ends.there }

-- so many tries come to the end of the cycle
by_test : (s : Setup) (c most more : ℕ) (d : Demand) → d.machine.cycle ≡ c → ((there : Reached s most (run_at d (trying more))) → Ends s c (most + suc more)) →
    (b : Bool) → Reached s most (run_at d (if b then trying more else ending)) → Ends s c (most + suc more)
by_test s c most more d here tries true there = tries there
by_test s c most more d here tries false there = record { behind = d; cycle = here; there = more_reached s most (most + suc more) (run_at d ending) (omega arith) there }

by_try : (s : Setup) (c most more : ℕ) (t : Try) (d : Demand) → Tries d.machine t → d.machine.cycle ≡ c →
    ((behind : Demand) → behind.machine.cycle ≡ c → Reached s (most + 1) (run_at behind (try_or_end s more behind)) → Ends s c (most + 1 + more)) →
    Reached s (most + 1) (tried_turn s t more d) → Ends s c (most + suc more)
by_try s c most more (misses behind) d is here on there =
    record { behind = demand_try s (misses behind) d; cycle = is.cycle ∙ here; there = more_reached s (most + 1) (most + suc more) (run_at (demand_try s (misses behind) d) ending) (omega arith) there }
by_try s c most more (appends behind) d is here on there = more_ends s c (most + 1 + more) (most + suc more) (omega arith) (on (demand_try s (appends behind) d) (is.cycle ∙ here) there)
by_try s c most more (turns behind) d is here on there =
    record { behind = demand_try s (turns behind) d; cycle = is.cycle ∙ here; there = more_reached s (most + 1) (most + suc more) (run_at (demand_try s (turns behind) d) ending) (omega arith) there }

once : (s : Setup) (most : ℕ) (at : At) (d : Demand) → length (turn_at s at d).demand.orders ≤ length d.orders + 1 → Reached s most (run_at d at) → Reached s (most + 1) (turn_at s at d)
once s most at d made there = more_reached s (most + 1 + 0) (most + 1) (turn_at s at d) (omega arith) (turn_reached s most 0 at d (omega arith) there)

tries_end : (s : Setup) (c more most : ℕ) (d : Demand) → d.machine.cycle ≡ c → Reached s most (run_at d (try_or_end s more d)) → Ends s c (most + more)
tries_end s c zero most d here there = record { behind = d; cycle = here; there = more_reached s most (most + zero) (run_at d ending) (omega arith) there }
tries_end s c (suc more) most d here there =
    by_test s c most more d here
    (λ at. by_try s c most more (fetch_try s d.machine) d (try_tries s d.machine) here (tries_end s c more (most + 1))
    (once s most (trying more) d (try_count s (fetch_try s d.machine) d) at))
    (may_fetch s d.machine) there

-- behind commit
by_end : (s : Setup) (c most : ℕ) (d : Demand) → d.machine.cycle ≡ c → (b : Bool) → Reached s most (run_at d (if b then ending else completing)) → Ends s c (most + 2 + s.params.core_fetch)
by_end s c most d here true there =
    record { behind = d; cycle = here; there = more_reached s most (most + 2 + s.params.core_fetch) (run_at d ending) (omega arith) there }
by_end s c most d here false there =
    let completed = demand_complete d in
    let issuing_at : Reached s (most + 1) (run_at completed issuing) =
    once s most completing d (redirect_count (completes d.machine.cycle d.machine.window).redirect (d.to_commit + length (completes d.machine.cycle d.machine.window).records) d.orders) there in
    let issued = demand_issue s completed in
    let trying_at : Reached s (most + 1 + 1) (run_at issued (try_or_end s s.params.core_fetch issued)) =
    once s (most + 1) issuing completed (time_count s completed) issuing_at in
    more_ends s c (most + 1 + 1 + s.params.core_fetch) (most + 2 + s.params.core_fetch) (omega arith)
    (tries_end s c s.params.core_fetch (most + 1 + 1) issued ((issue_kept s completed.machine).cycle ∙ (complete_kept d.machine).cycle ∙ here) trying_at)

-- a cycle comes to its end
cycle_ends : (s : Setup) (most : ℕ) (d : Demand) → Reached s most (run_at d interrupting) → Ends s d.machine.cycle (most + 5 + s.params.core_fetch)
cycle_ends s most d there =
    let interrupted = demand_interrupt d in
    let committing_at : Reached s (most + 1) (run_at interrupted committing) = once s most interrupting d (interrupt_count d) there in
    let committed = demand_commit s interrupted in
    let behind : Reached s (most + 1 + 1 + 1) (run_at committed (at_after_commit committed)) =
    turn_reached s (most + 1) 1 committing interrupted (omega (arith, commit_count (commit_phase s interrupted.machine) interrupted)) committing_at in
    more_ends s d.machine.cycle (most + 1 + 1 + 1 + 2 + s.params.core_fetch) (most + 5 + s.params.core_fetch) (omega arith)
    (by_end s d.machine.cycle (most + 1 + 1 + 1) committed ((commit_from s interrupted.machine).cycle ∙ interrupt_cycle d.machine) (has_ended committed.machine.end) behind)

-- and the next one begins, or the run has ended
start_after : (d : Demand) → is_cycle_start (at_after_cycle d) ≡ true
start_after d = cond_both (has_ended d.machine.end) stopping interrupting (λ at. is_cycle_start at ≡ true) (λ e. refl) (λ e. refl)

boundary_of : (p : Place) (r : Run) → p ≡ record { run = r; owed = 0 } → is_cycle_start r.at ≡ true → is_place_boundary p ≡ true
boundary_of p r is start = ap (λ (x : Place). is_place_boundary x) is ∙ start

pub cycle_end_cycle : (s : Setup) (m : Machine) → (end_of_cycle s m).cycle ≡ m.cycle + 1
unfolding end_of_cycle
cycle_end_cycle s m = refl

-- Where a cycle starts after so many: a running machine counts them.
pub record CycleIsReached (s : Setup) (c : ℕ) : Type 0 where
  pub steps : ℕ
  pub reaches : Reaches s c steps
  pub counts : is_over (place s steps).run.at ≡ false → (place s steps).run.demand.machine.cycle ≡ c

next_cycle : (s : Setup) (c most : ℕ) (d : Demand) → d.machine.cycle ≡ c → Reached s most (run_at d interrupting) → most ≤ c * (s.params.core_fetch + 6) → CycleIsReached s (suc c)
next_cycle s c most d here there within =
    let ends = cycle_ends s most d there in
    let behind : Demand = record ends.behind { machine = end_of_cycle s ends.behind.machine } in
    let at = once s (most + 5 + s.params.core_fetch) ending ends.behind (omega arith) ends.there in
    let counts : (place s at.steps).run.demand.machine.cycle ≡ suc c =
    ap (λ (p : Place). p.run.demand.machine.cycle) at.stands ∙ cycle_end_cycle s ends.behind.machine ∙ omega (arith, ends.cycle, here) in
    let boundary : is_place_boundary (place s at.steps) ≡ true = boundary_of (place s at.steps) (run_at behind (at_after_cycle behind)) at.stands (start_after behind) in
    let start : is_cycle_start (place s at.steps).run.at ≡ true = ap (λ (p : Place). is_cycle_start p.run.at) at.stands ∙ start_after behind in
    record {
      steps = at.steps;
      reaches = record {
        boundary = boundary;
        machine = (is_mono s at.steps start).machine ∙ ap (λ (k : ℕ). mono s k) counts;
        within = omega (arith, at.within, within, suc-mul c (s.params.core_fetch + 6));
      };
      counts = λ over. counts;
    }

-- where the run has ended, later cycles leave the monolithic machine as it is
pub ended_stays : (s : Setup) (c : ℕ) → has_ended (mono s c).end ≡ true → mono s (suc c) ≡ mono s c
unfolding cycled
ended_stays s c ended = mono-suc s c ∙ cond-true (has_ended (mono s c).end) (mono s c) (end_of_cycle s (phases s (mono s c))) ended

first_stands : (s : Setup) → CycleIsReached s 0
unfolding place mono machine_start
first_stands s = record { steps = 0; reaches = record { boundary = refl; machine = refl; within = omega arith }; counts = λ over. refl }

pub by_parts : (p : Place) (at : At) → p.run.at ≡ at → p.owed ≡ 0 → p ≡ record { run = run_at p.run.demand at; owed = 0 }
by_parts p at here settled = ap₂ (λ (a : At) (owed : ℕ). record { run = run_at p.run.demand a; owed = owed }) here settled

over_stands : (s : Setup) (c : ℕ) (stands : CycleIsReached s c) → is_over (place s stands.steps).run.at ≡ true → CycleIsReached s (suc c)
over_stands s c stands over =
    let p = place s stands.steps in
    let parts = and_parts (p.owed == 0) (is_cycle_start p.run.at) stands.reaches.boundary in
    let mono_at = is_mono s stands.steps parts.1 in
    let ended : has_ended (mono s c).end ≡ true =
    ap (λ (m : Machine). has_ended m.end) (sym stands.reaches.machine ∙ mono_at.machine) ∙ mono_at.over ∙ over in
    record {
      steps = stands.steps;
      reaches = record {
        boundary = stands.reaches.boundary;
        machine = stands.reaches.machine ∙ sym (ended_stays s c ended);
        within = omega (arith, stands.reaches.within, suc-mul c (s.params.core_fetch + 6));
      };
      counts = λ running. cc;
    }

on_stands : (s : Setup) (c : ℕ) (stands : CycleIsReached s c) (at : At) → (place s stands.steps).run.at ≡ at → is_cycle_start at ≡ true → CycleIsReached s (suc c)
on_stands s c stands interrupting here start =
    let p = place s stands.steps in
    let parts = and_parts (p.owed == 0) (is_cycle_start p.run.at) stands.reaches.boundary in
    next_cycle s c stands.steps p.run.demand (stands.counts (ap is_over here))
    (record { steps = stands.steps; within = omega arith; stands = by_parts p interrupting here (eqb-true p.owed 0 parts.0) }) stands.reaches.within
on_stands s c stands committing here start = cc
on_stands s c stands completing here start = cc
on_stands s c stands issuing here start = cc
on_stands s c stands (trying more) here start = cc
on_stands s c stands ending here start = cc
on_stands s c stands stopping here start = over_stands s c stands (ap is_over here)
on_stands s c stands halted here start = over_stands s c stands (ap is_over here)

pub cycle_stands : (s : Setup) (c : ℕ) → CycleIsReached s c
cycle_stands s zero = first_stands s
cycle_stands s (suc c) =
    let stands = cycle_stands s c in
    let p = place s stands.steps in
    on_stands s c stands p.run.at refl (and_parts (p.owed == 0) (is_cycle_start p.run.at) stands.reaches.boundary).1

-- the start of the cycle after any number of cycles is reached
pub cycle_reached : (s : Setup) (c : ℕ) → (steps : ℕ) × Reaches s c steps
cycle_reached s c = let stands = cycle_stands s c in (stands.steps, stands.reaches)
