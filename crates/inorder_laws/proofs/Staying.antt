-- Orders made later leave what is committed.
use Rattle.std.proofs.Common.{◌≡◌, ℕ, zero, suc, ◌+◌, ◌-◌, ◌≤◌, Option, List, [], ◌∷◌, ◌++◌, length, drop, refl, ap, sym, ◌∙◌, subst, arith, append_assoc, length-append}
use Rattle.rollback_cmds.specs.declared.order.Order.{Order}
use Rattle.rollback_cmds.specs.declared.order.Order.TheVariants.{Stop}
use Rattle.mono_model.specs.declared.setup.Setup.{Setup}
use Rattle.mono_model.specs.Commit.{commits}
use Rattle.mono_model.specs.Fetch.{Try, misses, appends, turns, fetch_try}
use Rattle.mono_model.specs.Path.{path}
use Rattle.mono_model.specs.Demand.{Demand, demand_interrupt, demand_committed, demand_try, Place, told}
use Rattle.machine_laws.specs.Numbers.{last_commit}
use Rattle.machine_laws.specs.Stays.{StaysBelow, StaysAt}
use Rattle.machine_laws.proofs.Making.{AreLater}
use Rattle.machine_laws.proofs.Reaching.{interrupt_count, redirect_count, try_count, if_one_more}
use Rattle.machine_laws.proofs.Staying.{all_earlier, later_append, later_drop, drop_front, below_later, TellsLater, later_stays, FirstFrom, first_of_one, commit_first, one_fewer, below_owed, commit_owed}
use Rattle.inorder_machine.specs.InorderMachine.{in_execute}
use Rattle.inorder_machine.specs.Write.{write_width, inorder_commit}
use Rattle.inorder_machine.specs.Execute.{moving_by, moving}
use Rattle.inorder_machine.specs.Issue.{inorder_wants_time}
use Rattle.rollback_cmds.specs.declared.order.Order.TheVariants.{Time}
use Rattle.inorder_machine.specs.Demand.{InorderAt, interrupting, writing, accessing, executing, issuing, trying, ending, stopping, halted, inorder_in, demand_moved, demand_inorder_issue, InorderRun, inorder_turn_at, inorder_turn, InorderPlace, inorder_step_by, inorder_step, inorder_place, seen}
use Rattle.inorder_laws.proofs.Making.{turn_made}
use Rattle.inorder_laws.proofs.Numbering.{done_is}

-- no turn takes back what is committed
try_done : (s : Setup) (t : Try) (d : Demand) → (demand_try s t d).to_commit ≡ d.to_commit
try_done s (misses behind) d = refl
try_done s (appends behind) d = refl
try_done s (turns behind) d = refl

turn_done : (s : Setup) (at : InorderAt) (d : Demand) (memory : Option ℕ) → d.to_commit ≤ (inorder_turn_at s at d memory).demand.to_commit
turn_done s interrupting d memory = omega arith
turn_done s writing d memory = omega arith
turn_done s accessing d memory = omega arith
turn_done s executing d memory = omega arith
turn_done s issuing d memory = omega arith
turn_done s trying d memory = omega (arith, try_done s (fetch_try s d.machine) d)
turn_done s ending d memory = omega arith
turn_done s stopping d memory = omega arith
turn_done s halted d memory = omega arith

-- From one place on to another: more orders, and more may be committed.
record Onto (p q : InorderPlace) : Type 0 where
  later : List Order
  orders : q.run.demand.orders ≡ later ++ p.run.demand.orders
  are : AreLater p.run.demand.to_commit later
  to_commit : p.run.demand.to_commit ≤ q.run.demand.to_commit
  owed : q.owed ≤ p.owed + length later

onto_start : (p : InorderPlace) → Onto p p
onto_start p = record { later = []; orders = refl; are = tt; to_commit = omega arith; owed = omega arith }

onto_step : (s : Setup) (p : InorderPlace) (owed : ℕ) (r : InorderRun) → Onto p (record { run = r; owed = owed }) → Onto p (inorder_step_by s owed r)
unfolding inorder_turn
onto_step s p zero r onto =
    let made = turn_made s r.at r.demand r.memory in
    let d = turn_done s r.at r.demand r.memory in
    let count : length (inorder_turn s r).demand.orders ≡ length made.made + length r.demand.orders =
    ap (λ (os : List Order). length os) made.orders ∙ length-append made.made r.demand.orders in
    record {
      later = made.made ++ onto.later;
      orders = made.orders ∙ ap (λ (os : List Order). made.made ++ os) onto.orders ∙ sym (append_assoc made.made onto.later p.run.demand.orders);
      are = later_append p.run.demand.to_commit made.made onto.later (all_earlier p.run.demand.to_commit r.demand.to_commit made.made onto.to_commit made.later) onto.are;
      to_commit = omega (arith, onto.to_commit);
      owed = omega (arith, length-append made.made onto.later);
    }
onto_step s p (suc owed) r onto = record { later = onto.later; orders = onto.orders; are = onto.are; to_commit = onto.to_commit; owed = omega (arith, onto.owed) }

onto_on : (s : Setup) (k j : ℕ) → Onto (inorder_place s k) (inorder_place s (j + k))
unfolding inorder_place inorder_step
onto_on s k zero = let e : k ≡ zero + k = omega arith in subst (λ (n : ℕ). Onto (inorder_place s k) (inorder_place s n)) e (onto_start (inorder_place s k))
onto_on s k (suc j) =
    let e : suc (j + k) ≡ suc j + k = omega arith in
    subst (λ (n : ℕ). Onto (inorder_place s k) (inorder_place s n)) e (onto_step s (inorder_place s k) (inorder_place s (j + k)).owed (inorder_place s (j + k)).run (onto_on s k j))

onto : (s : Setup) (k l : ℕ) → k ≤ l → Onto (inorder_place s k) (inorder_place s l)
onto s k l later = let e : (l - k) + k ≡ l = omega arith in subst (λ (n : ℕ). Onto (inorder_place s k) (inorder_place s n)) e (onto_on s k (l - k))

-- What is told from a place with all orders told on speaks of what isn't committed there: only interrupts change the path
-- at that.
pub tells_later : (s : Setup) (k l : ℕ) → (seen s k).owed ≡ 0 → k ≤ l → TellsLater (seen s k) (seen s l)
tells_later s k l settled later =
    let p : Place = seen s k in
    let q : Place = seen s l in
    let o = onto s k l later in
    let rest : told p ≡ p.run.demand.orders = ap (λ (n : ℕ). drop n p.run.demand.orders) settled in
    record {
      later = drop q.owed o.later;
      orders = ap (λ (os : List Order). drop q.owed os) o.orders ∙ drop_front q.owed o.later p.run.demand.orders (omega (arith, o.owed))
          ∙ ap (λ (os : List Order). drop q.owed o.later ++ os) (sym rest);
      are = later_drop p.run.demand.to_commit q.owed o.later o.are;
    }

pub stays_at : (s : Setup) (k l : ℕ) → (seen s k).owed ≡ 0 → k ≤ l → StaysAt s (seen s k) (seen s l)
stays_at s k l settled later = later_stays s (seen s k) (seen s l) (tells_later s k l settled later)

-- The orders of a turn that aren't told yet.
tried_orders : (s : Setup) (d : Demand) → length (demand_try s (fetch_try s d.machine) d).orders ≤ length d.orders + 1
tried_orders s d = try_count s (fetch_try s d.machine) d

turn_first : (s : Setup) (at : InorderAt) (d : Demand) (memory : Option ℕ) → let behind = (inorder_turn_at s at d memory).demand in
    FirstFrom behind.to_commit (length behind.orders - length d.orders - 1) behind.orders
unfolding inorder_commit moving
turn_first s interrupting d memory = first_of_one d.to_commit d.orders (demand_interrupt d).orders (interrupt_count d)
turn_first s writing d memory =
    let c = commits s (write_width (inorder_in d memory)) 0 d.machine in
    commit_first c.ending c.machine.arch.pc (d.to_commit + c.left) c.left (length (demand_committed c d).orders - length d.orders - 1) d.orders refl
turn_first s accessing d memory = first_of_one d.to_commit d.orders d.orders (omega arith)
turn_first s executing d memory =
    let x = moving_by s (in_execute d.machine.window) (inorder_in d memory) in
    first_of_one d.to_commit d.orders (demand_moved x d).orders (redirect_count x.completed.redirect (d.to_commit + length x.completed.records) d.orders)
turn_first s issuing d memory =
    first_of_one d.to_commit d.orders (demand_inorder_issue s memory d).orders (if_one_more (inorder_wants_time s d.machine) (Time d.to_commit d.machine.cycle) d.orders)
turn_first s trying d memory =
    let behind = demand_try s (fetch_try s d.machine) d in
    first_of_one behind.to_commit d.orders behind.orders (tried_orders s d)
turn_first s ending d memory = first_of_one d.to_commit d.orders d.orders (omega arith)
turn_first s stopping d memory = first_of_one d.to_commit d.orders (Stop d.to_commit ∷ d.orders) (omega arith)
turn_first s halted d memory = first_of_one d.to_commit d.orders d.orders (omega arith)

abbrev OwedFrom : InorderPlace → Type 0
OwedFrom p = FirstFrom p.run.demand.to_commit p.owed p.run.demand.orders

step_owed : (s : Setup) (owed : ℕ) (r : InorderRun) → FirstFrom r.demand.to_commit owed r.demand.orders → OwedFrom (inorder_step_by s owed r)
unfolding inorder_turn
step_owed s zero r from = turn_first s r.at r.demand r.memory
step_owed s (suc owed) r from = one_fewer r.demand.to_commit owed r.demand.orders from

place_owed : (s : Setup) (k : ℕ) → OwedFrom (inorder_place s k)
unfolding inorder_place inorder_step
place_owed s zero = tt
place_owed s (suc k) = step_owed s (inorder_place s k).owed (inorder_place s k).run (place_owed s k)

-- From any place on the path below what is committed stays.
pub stays_below : (s : Setup) (k l : ℕ) → k ≤ l → StaysBelow s (seen s k) (seen s l)
stays_below s k l later n under =
    let p : Place = seen s k in
    let q : Place = seen s l in
    let o = onto s k l later in
    sym (below_owed s q.run.demand.to_commit q.owed q.run.demand.orders (place_owed s l) n (omega (arith, o.to_commit)))
    ∙ ap (λ (os : List Order). path s os n) o.orders
    ∙ below_later s p.run.demand.to_commit o.later p.run.demand.orders o.are n under
    ∙ below_owed s p.run.demand.to_commit p.owed p.run.demand.orders (place_owed s k) n under

-- the last Commit told is the last one made
pub done_told : (s : Setup) (k : ℕ) → 4 ≤ s.params.core_window → (inorder_place s k).run.demand.to_commit ≡ last_commit (told (seen s k))
done_told s k room =
    let p : Place = seen s k in
    done_is s k room ∙ sym (commit_owed p.run.demand.to_commit p.owed p.run.demand.orders (place_owed s k))
