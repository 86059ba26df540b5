-- The same of the in-order machine.
use Rattle.std.proofs.Common.{◌≡◌, ◌∙◌, ℕ, zero, suc, ◌+◌, ◌-◌, ◌==◌, ◌&&◌, not, Bool, true, false, if◌then◌else◌, is_none, is_some, Option, None, List, ◌∷◌, length, refl, sym, ap, subst, arith}
use Rattle.std.proofs.lemmas.Bool.{eq-eqb}
use Rattle.rollback_cmds.specs.declared.order.Order.TheVariants.{Time}
use Rattle.trace_entry.specs.declared.Entry.{Entry}
use Rattle.mono_model.specs.declared.setup.Setup.{Setup}
use Rattle.mono_model.specs.Machine.{Machine, flushed}
use Rattle.mono_model.specs.Issue.{replayed}
use Rattle.mono_model.specs.Fetch.{fetch_try}
use Rattle.mono_model.specs.Cycle.{end_of_cycle}
use Rattle.mono_model.specs.Demand.{Demand, Place, is_try, needs_entry}
use Rattle.mono_model.specs.Split.{has_appended, held_after, is_halted, told_by}
use Rattle.inorder_machine.specs.Execute.{executed, moving}
use Rattle.inorder_machine.specs.Issue.{issue_machine, issued, inorder_wants_time}
use Rattle.inorder_machine.specs.Write.{inorder_commit, write_width}
use Rattle.inorder_machine.specs.Demand.{InorderAt, InorderPlace, InorderRun, accessing, demand_inorder_issue, demand_moved, ending, executing, halted, interrupting, issuing, inorder_in, inorder_place, inorder_step, inorder_step_by, inorder_time_orders, inorder_turn, inorder_turn_at, seen as seen_place, seen_at, seen_of, stopping, trying, writing}
use Rattle.cycle_watch.proofs.Paid.{HeldAt, Onto, Pays, committed_pays, completed_pays, held_stays, interrupt_pays, none_owed, same, some_held, tells_closed, tried_pays, try_paid}

-- issue
issue_pays : (s : Setup) (memory : Option ℕ) (d : Demand) → (demand_inorder_issue s memory d).machine.paid ≡ true →
    Pays false d.machine (demand_inorder_issue s memory d).machine d.orders (inorder_time_orders s d)
unfolding flushed
issue_pays s memory d paid = by (inorder_wants_time s d.machine) refl
  where
    chosen : Bool → Machine
    chosen b = if b then replayed d.machine else issued s (inorder_in d memory)

    by : (b : Bool) → inorder_wants_time s d.machine ≡ b → Pays false d.machine (demand_inorder_issue s memory d).machine d.orders (inorder_time_orders s d)
    by true is =
        let e : (replayed d.machine).paid ≡ true = ap (λ (b : Bool). (chosen b).paid) (sym is) ∙ paid in
        let none : false ≡ true = e in
        cc
    by false is = record {
      before = λ tries. ap (λ (b : Bool). (chosen b).paid) (sym is) ∙ paid;
      fetched = ap (λ (b : Bool). (chosen b).counts.fetched) is;
      orders = same (ap (λ (b : Bool). if b then Time d.to_commit d.machine.cycle ∷ d.orders else d.orders) is);
    }

-- Execute
moved_pays : (s : Setup) (d : Demand) (memory : Option ℕ) → (demand_moved (moving s (inorder_in d memory)) d).machine.paid ≡ true →
    Pays false d.machine (demand_moved (moving s (inorder_in d memory)) d).machine d.orders (demand_moved (moving s (inorder_in d memory)) d).orders
moved_pays s d memory paid =
    let x = moving s (inorder_in d memory) in
    let m : Machine = record d.machine { caches = x.caches } in
    let pays = completed_pays x.completed.redirect x.completed.records m (d.to_commit + length x.completed.records) d.orders paid in
    record { before = pays.before; fetched = pays.fetched; orders = pays.orders }

-- every turn
turn_pays : (s : Setup) (at : InorderAt) (d : Demand) (memory : Option ℕ) → is_halted (seen_at (inorder_turn_at s at d memory).at) ≡ false → (inorder_turn_at s at d memory).demand.machine.paid ≡ true →
    Pays (is_try (seen_at at)) d.machine (inorder_turn_at s at d memory).demand.machine d.orders (inorder_turn_at s at d memory).demand.orders
unfolding end_of_cycle inorder_commit
turn_pays s interrupting d memory on paid = interrupt_pays d paid
turn_pays s writing d memory on paid = committed_pays s (write_width (inorder_in d memory)) d paid
turn_pays s accessing d memory on paid = record { before = λ tries. paid; fetched = refl; orders = same refl }
turn_pays s executing d memory on paid = moved_pays s d memory paid
turn_pays s issuing d memory on paid = issue_pays s memory d paid
turn_pays s trying d memory on paid = tried_pays s (fetch_try s d.machine) d (try_paid s d.machine) paid
turn_pays s ending d memory on paid = record { before = λ tries. paid; fetched = refl; orders = same refl }
turn_pays s stopping d memory on paid = let e : true ≡ false = on in cc
turn_pays s halted d memory on paid = let e : true ≡ false = on in cc

goes_on : (s : Setup) (at : InorderAt) (d : Demand) (memory : Option ℕ) → is_halted (seen_at (inorder_turn_at s at d memory).at) ≡ false → is_halted (seen_at at) ≡ false
goes_on s interrupting d memory on = refl
goes_on s writing d memory on = refl
goes_on s accessing d memory on = refl
goes_on s executing d memory on = refl
goes_on s issuing d memory on = refl
goes_on s trying d memory on = refl
goes_on s ending d memory on = refl
goes_on s stopping d memory on = refl
goes_on s halted d memory on = on

-- no order is owed
abbrev PaysAll : InorderRun → ℕ → Type 0
PaysAll r owed = is_halted (seen_at r.at) ≡ false → r.demand.machine.paid ≡ true → owed ≡ 0

steps_all : (s : Setup) (owed : ℕ) (r : InorderRun) → PaysAll r owed → PaysAll (inorder_step_by s owed r).run (inorder_step_by s owed r).owed
unfolding inorder_turn
steps_all s zero r here = λ on paid. none_owed r.demand.orders (inorder_turn_at s r.at r.demand r.memory).demand.orders (turn_pays s r.at r.demand r.memory on paid).orders
steps_all s (suc owed) r here = λ on paid. let e : suc owed ≡ 0 = here on paid in absurd (omega (arith, e))

pays_all : (s : Setup) (k : ℕ) → PaysAll (inorder_place s k).run (inorder_place s k).owed
unfolding inorder_place inorder_step
pays_all s zero = λ on paid. refl
pays_all s (suc k) = steps_all s (inorder_place s k).owed (inorder_place s k).run (pays_all s k)

-- a step keeps it, if the entry that is needed was handed over
step_holds : (s : Setup) (owed : ℕ) (r : InorderRun) (held : Option Entry) → PaysAll r owed → HeldAt (seen_of (record { run = r; owed = owed })) held →
    (needs_entry (seen_of (record { run = r; owed = owed })) && is_none held) ≡ false →
    HeldAt (seen_of (inorder_step_by s owed r))
    (held_after (told_by (seen_of (record { run = r; owed = owed })) (seen_of (inorder_step_by s owed r))) (seen_of (record { run = r; owed = owed })) (seen_of (inorder_step_by s owed r)) held)
unfolding inorder_turn
step_holds s zero r held all here handed = λ on paid.
    let behind : InorderRun = inorder_turn_at s r.at r.demand r.memory in
    let pays = turn_pays s r.at r.demand r.memory on paid in
    let p : Place = seen_of (record { run = r; owed = 0 }) in
    let q : Place = seen_of (record { run = behind; owed = length behind.demand.orders - length r.demand.orders - 1 }) in
    let none : has_appended p q ≡ false = ap not (eq-eqb behind.demand.machine.counts.fetched r.demand.machine.counts.fetched pays.fetched) in
    ap (λ (o : Option Entry). is_some o) (held_stays (told_by p q) p q held (tells_closed p.run q.run pays.orders) none) ∙ by (is_try (seen_at r.at)) refl pays on
  where
    by : (b : Bool) → is_try (seen_at r.at) ≡ b →
        Pays (is_try (seen_at r.at)) r.demand.machine (inorder_turn_at s r.at r.demand r.memory).demand.machine r.demand.orders (inorder_turn_at s r.at r.demand r.memory).demand.orders →
        is_halted (seen_at (inorder_turn_at s r.at r.demand r.memory).at) ≡ false → is_some held ≡ true
    by true try pays on = some_held held (ap (λ (b : Bool). b && is_none held) (sym try) ∙ handed)
    by false try pays on = here (goes_on s r.at r.demand r.memory on) (pays.before try)
step_holds s (suc owed) r held all here handed = λ on paid. let e : suc owed ≡ 0 = all on paid in absurd (omega (arith, e))

pub inorder_holds_on : (s : Setup) (k : ℕ) (held : Option Entry) → HeldAt (seen_place s k) held → (needs_entry (seen_place s k) && is_none held) ≡ false →
    HeldAt (seen_place s (suc k)) (held_after (told_by (seen_place s k) (seen_place s (suc k))) (seen_place s k) (seen_place s (suc k)) held)
unfolding inorder_place inorder_step
inorder_holds_on s k held here handed = step_holds s (inorder_place s k).owed (inorder_place s k).run held (pays_all s k) here handed
