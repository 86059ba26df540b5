-- What each turn of the in-order machine makes of the list of orders.
use Rattle.std.proofs.Common.{◌≡◌, ℕ, ◌+◌, ◌<◌, true, Option, Some, None, List, ◌∷◌, length, refl, ap, sym, subst, arith}
use Rattle.std.proofs.lemmas.Bool.{cond_both, cond-true}
use Rattle.rollback_cmds.specs.declared.order.Order.TheVariants.{Time, Stop}
use Rattle.mono_model.specs.declared.setup.Setup.{Setup}
use Rattle.mono_model.specs.Window.{Record}
use Rattle.mono_model.specs.Machine.{Machine, flushed}
use Rattle.mono_model.specs.Complete.{Completed}
use Rattle.mono_model.specs.Commit.{commits}
use Rattle.mono_model.specs.Fetch.{Try, misses, appends, turns, fetch_try}
use Rattle.mono_model.specs.Issue.{replayed}
use Rattle.mono_model.specs.Demand.{Demand, next, demand_committed, demand_try}
use Rattle.machine_laws.proofs.Phases.{commits_from, completes_from, by_window, Tries, try_tries}
use Rattle.machine_laws.proofs.Making.{MadeOnto, made_none, made_one, interrupt_made, commit_made, redirect_made, path_made}
use Rattle.inorder_machine.specs.InorderMachine.{InorderMachine, Executing, in_execute}
use Rattle.inorder_machine.specs.Write.{write_width, inorder_commit}
use Rattle.inorder_machine.specs.Execute.{Moved, unmoved, moved, may_move, moving_by, moving}
use Rattle.inorder_machine.specs.Issue.{inorder_wants_time, issued, issue_machine}
use Rattle.inorder_machine.specs.Demand.{InorderAt, interrupting, writing, accessing, executing, issuing, trying, ending, stopping, halted, inorder_in, demand_moved, demand_inorder_issue, inorder_turn_at}

-- where Execute's record was mispredicted, it is among those that stay
abbrev IsFound : Completed → Type 0
IsFound c = (addr : ℕ) → c.redirect ≡ Some addr → 0 < length c.records

moved_found : (s : Setup) (l : InorderMachine) (x : Option Executing) → IsFound (moving_by s x l).completed
moved_found s l None = λ addr is. cc
moved_found s l (Some x) =
    cond_both (may_move l x) (moved s x l) (unmoved l) (λ k. IsFound k.completed)
    (λ may. (completes_from x.from l.machine.window).redirect) (λ may addr is. cc)

execute_made : (s : Setup) (d : Demand) (memory : Option ℕ) →
    MadeOnto d.to_commit (next (demand_moved (moving s (inorder_in d memory)) d)) d.orders (demand_moved (moving s (inorder_in d memory)) d).orders
unfolding moving
execute_made s d memory =
    let x : Moved = moving_by s (in_execute d.machine.window) (inorder_in d memory) in
    subst (λ (w : List Record). MadeOnto d.to_commit (d.to_commit + length w) d.orders (demand_moved x d).orders)
    (sym (by_window x.completed.redirect x.completed.records (record d.machine { caches = x.caches })))
    (redirect_made x.completed.redirect d.to_commit (d.to_commit + length x.completed.records) d.orders
    (λ addr is. omega (arith, moved_found s (inorder_in d memory) (in_execute d.machine.window) addr is)))

pub replay_empties : (s : Setup) (l : InorderMachine) → inorder_wants_time s l.machine ≡ true → length (issue_machine s l).window ≡ 0
unfolding flushed
replay_empties s l is = ap (λ (x : Machine). length x.window) (cond-true (inorder_wants_time s l.machine) (replayed l.machine) (issued s l) is)

issue_made : (s : Setup) (d : Demand) (memory : Option ℕ) → MadeOnto d.to_commit (next (demand_inorder_issue s memory d)) d.orders (demand_inorder_issue s memory d).orders
issue_made s d memory =
    let to = next (demand_inorder_issue s memory d) in
    cond_both (inorder_wants_time s d.machine) (Time d.to_commit d.machine.cycle ∷ d.orders) d.orders (MadeOnto d.to_commit to d.orders)
    (λ is. made_one d.to_commit to (Time d.to_commit d.machine.cycle) d.orders (omega arith) (omega (arith, replay_empties s (inorder_in d memory) is)))
    (λ is. made_none d.to_commit to d.orders)

try_made : (s : Setup) (t : Try) (d : Demand) → Tries d.machine t → MadeOnto d.to_commit (next (demand_try s t d)) d.orders (demand_try s t d).orders
try_made s (misses behind) d made = made_none d.to_commit (d.to_commit + length behind.window) d.orders
try_made s (appends behind) d made = path_made s d (d.to_commit + length behind.window) (omega (arith, made.window))
try_made s (turns behind) d made = path_made s d (d.to_commit + length behind.window) (omega (arith, made.window))

write_made : (s : Setup) (d : Demand) (most : ℕ) → let c = commits s most 0 d.machine in
    MadeOnto d.to_commit (next (demand_committed c d)) d.orders (demand_committed c d).orders
write_made s d most =
    let c = commits s most 0 d.machine in
    commit_made d.to_commit (d.to_commit + c.left) c.left c.machine.arch.pc c.ending c.machine.window d.orders refl (commits_from s most d.machine).ending

pub turn_made : (s : Setup) (at : InorderAt) (d : Demand) (memory : Option ℕ) →
    MadeOnto d.to_commit (next (inorder_turn_at s at d memory).demand) d.orders (inorder_turn_at s at d memory).demand.orders
unfolding inorder_commit
turn_made s interrupting d memory = interrupt_made d
turn_made s writing d memory = write_made s d (write_width (inorder_in d memory))
turn_made s accessing d memory = made_none d.to_commit (next d) d.orders
turn_made s executing d memory = execute_made s d memory
turn_made s issuing d memory = issue_made s d memory
turn_made s trying d memory = try_made s (fetch_try s d.machine) d (try_tries s d.machine)
turn_made s ending d memory = made_none d.to_commit (next (inorder_turn_at s ending d memory).demand) d.orders
turn_made s stopping d memory = made_one d.to_commit (next d) (Stop d.to_commit) d.orders (omega arith) tt
turn_made s halted d memory = made_none d.to_commit (next d) d.orders
