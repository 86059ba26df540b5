-- Where the miss of the instruction to fetch next was counted, the timing side holds its entry: a miss is counted by a try,
-- which has the entry, and as long as it counts nothing is appended, and no order is told that opens an epoch.
use Rattle.std.proofs.Common.{◌≡◌, ◌∙◌, ℕ, zero, suc, ◌+◌, ◌-◌, ◌==◌, ◌&&◌, ◌||◌, not, nat_lt, Bool, true, false, if◌then◌else◌, is_none, is_some, Option, Some, None, List, [], ◌∷◌, length, drop, refl, sym, ap, subst, arith}
use Rattle.std.proofs.lemmas.Bool.{eq-eqb}
use Rattle.fsim_base.specs.Number.{wrap_sum}
use Rattle.rollback_cmds.specs.declared.order.Order.{Order}
use Rattle.rollback_cmds.specs.declared.order.Order.TheVariants.{Commit, Interrupt, Time}
use Rattle.trace_entry.specs.declared.Entry.{Entry}
use Rattle.mono_model.specs.declared.setup.Setup.{Setup}
use Rattle.mono_model.specs.Window.{Record}
use Rattle.mono_model.specs.Machine.{Machine, flushed}
use Rattle.mono_model.specs.Interrupt.{interrupt_phase, is_interrupted, take_interrupt}
use Rattle.mono_model.specs.Commit.{Committed, Ending, commit_phase, commits, plain}
use Rattle.mono_model.specs.Complete.{complete_phase, completed_by, completes}
use Rattle.mono_model.specs.Issue.{issue_phase, issued, replayed, wants_time}
use Rattle.mono_model.specs.Fetch.{Try, appended, appends, cache_read, fetch_try, missed, misses, predicted_next, turns}
use Rattle.mono_model.specs.Cycle.{end_of_cycle}
use Rattle.mono_model.specs.Demand.{At, Demand, Place, Run, commit_order, committing, completing, demand_commit, demand_committed, demand_complete, demand_interrupt, demand_issue, demand_try, ending, ending_orders, halted, interrupt_orders, interrupting, is_try, issuing, needs_entry, place, redirect_orders, step, step_by, stopping, time_orders, told, trying, turn, turn_at}
use Rattle.mono_model.specs.Split.{has_appended, held_after, is_halted, newest, opens, told_by}
use Rattle.mono_model.proofs.Commits.{GoesOn, every_commit, leaving_case}
use Rattle.mono_model.proofs.Next.{place-suc}
use Rattle.machine_laws.proofs.Always.{at_each_turn, owed_behind}

-- the orders after a turn, if none of its own opens an epoch
pub data Onto (os behind : List Order) : Type 0 where
  same : behind ≡ os → Onto os behind
  commits_on : (m : ℕ) → behind ≡ Commit m ∷ os → Onto os behind

-- the miss is counted after a turn
pub record Pays (tries : Bool) (old new : Machine) (os behind : List Order) : Type 0 where
  pub before : tries ≡ false → old.paid ≡ true
  pub fetched : new.counts.fetched ≡ old.counts.fetched
  pub orders : Onto os behind

-- the interrupt
pub interrupt_pays : (d : Demand) → (demand_interrupt d).machine.paid ≡ true → Pays false d.machine (demand_interrupt d).machine d.orders (interrupt_orders d)
unfolding interrupt_phase flushed
interrupt_pays d paid = by (is_interrupted d.machine) refl
  where
    chosen : Bool → Machine
    chosen b = if b then take_interrupt d.machine else d.machine

    by : (b : Bool) → is_interrupted d.machine ≡ b → Pays false d.machine (demand_interrupt d).machine d.orders (interrupt_orders d)
    by true is =
        let e : (take_interrupt d.machine).paid ≡ true = ap (λ (b : Bool). (chosen b).paid) (sym is) ∙ paid in
        let none : false ≡ true = e in
        cc
    by false is = record {
      before = λ tries. ap (λ (b : Bool). (chosen b).paid) (sym is) ∙ paid;
      fetched = ap (λ (b : Bool). (chosen b).counts.fetched) is;
      orders = same (ap (λ (b : Bool). if b then Interrupt d.to_commit ∷ d.orders else d.orders) is);
    }

-- commit
abbrev KeepsPaid : Machine → Machine → Type 0
KeepsPaid old m = m.paid ≡ true → (old.paid ≡ true) × (m.counts.fetched ≡ old.counts.fetched)

abbrev EndsPaid : Machine → Committed → Type 0
EndsPaid old c = c.machine.paid ≡ true → (c.ending ≡ plain) × ((old.paid ≡ true) × (c.machine.counts.fetched ≡ old.counts.fetched))

commits_keep : (s : Setup) (old : Machine) (more left : ℕ) (m : Machine) → KeepsPaid old m → EndsPaid old (commits s more left m)
unfolding flushed
commits_keep s old =
    every_commit s (λ more left m. KeepsPaid old m) (EndsPaid old) (λ left m kept paid. (refl, kept paid))
    (λ more left m kept. leaving_case s m (GoesOn (λ left m. KeepsPaid old m) (EndsPaid old) left m) (λ paid. (refl, kept paid)) (λ rec rest r done. record {
      if_faults = λ cause why paid. let none : false ≡ true = paid in cc;
      if_full = λ cause room paid. (refl, kept paid);
      if_ends = λ halt passes paid. (refl, kept paid);
      if_syncs = λ passes fence paid. let none : false ≡ true = paid in cc;
      if_leaves = λ passes fence paid. kept paid;
    }))

commit_onto : (left n : ℕ) (os : List Order) → Onto os (commit_order left n os)
commit_onto zero n os = same refl
commit_onto (suc left) n os = commits_on n refl

pub committed_pays : (s : Setup) (most : ℕ) (d : Demand) → (demand_committed (commits s most 0 d.machine) d).machine.paid ≡ true →
    Pays false d.machine (demand_committed (commits s most 0 d.machine) d).machine d.orders (demand_committed (commits s most 0 d.machine) d).orders
committed_pays s most d paid =
    let c = commits s most 0 d.machine in
    let kept = commits_keep s d.machine most 0 d.machine (λ paid. (paid, refl)) paid in
    let n = d.to_commit + c.left in
    let P : Ending → Type 0 = λ e. Onto d.orders (ending_orders e c.machine.arch.pc n (commit_order c.left n d.orders)) in
    record { before = λ tries. kept.1.0; fetched = kept.1.1; orders = subst P (sym kept.0) (commit_onto c.left n d.orders) }

commit_pays : (s : Setup) (d : Demand) → (demand_commit s d).machine.paid ≡ true → Pays false d.machine (demand_commit s d).machine d.orders (demand_commit s d).orders
unfolding commit_phase
commit_pays s d paid = committed_pays s s.params.core_commit d paid

-- complete
pub completed_pays : (redirect : Option ℕ) (records : List Record) (m : Machine) (n : ℕ) (os : List Order) → (completed_by redirect records m).paid ≡ true →
    Pays false m (completed_by redirect records m) os (redirect_orders redirect n os)
unfolding flushed
completed_pays None records m n os paid = record { before = λ tries. paid; fetched = refl; orders = same refl }
completed_pays (Some addr) records m n os paid = let none : false ≡ true = paid in cc

complete_pays : (d : Demand) → (demand_complete d).machine.paid ≡ true → Pays false d.machine (demand_complete d).machine d.orders (demand_complete d).orders
unfolding complete_phase
complete_pays d paid =
    let c = completes d.machine.cycle d.machine.window in
    completed_pays c.redirect c.records d.machine (d.to_commit + length c.records) d.orders paid

-- issue
issue_pays : (s : Setup) (d : Demand) → (demand_issue s d).machine.paid ≡ true → Pays false d.machine (demand_issue s d).machine d.orders (time_orders s d)
unfolding issue_phase flushed
issue_pays s d paid = by (wants_time s d.machine) refl
  where
    chosen : Bool → Machine
    chosen b = if b then replayed d.machine else issued s d.machine

    by : (b : Bool) → wants_time s d.machine ≡ b → Pays false d.machine (demand_issue s d).machine d.orders (time_orders s d)
    by true is =
        let e : (replayed d.machine).paid ≡ true = ap (λ (b : Bool). (chosen b).paid) (sym is) ∙ paid in
        let none : false ≡ true = e in
        cc
    by false is = record {
      before = λ tries. ap (λ (b : Bool). (chosen b).paid) (sym is) ∙ paid;
      fetched = ap (λ (b : Bool). (chosen b).counts.fetched) is;
      orders = same (ap (λ (b : Bool). if b then Time d.to_commit d.machine.cycle ∷ d.orders else d.orders) is);
    }

-- a try of fetch
abbrev pub TriesPaid : Machine → Try → Type 0
TriesPaid m (misses behind) = behind.counts.fetched ≡ m.counts.fetched
TriesPaid m (appends behind) = behind.paid ≡ false
TriesPaid m (turns behind) = behind.paid ≡ false

pub try_paid : (s : Setup) (m : Machine) → TriesPaid m (fetch_try s m)
unfolding fetch_try
try_paid s m = by (nat_lt 0 (cache_read s m).cycles) (predicted_next s m == wrap_sum m.fetch_addr 4)
  where
    by : (miss on : Bool) → TriesPaid m (if miss then misses (missed (cache_read s m).cycles (cache_read s m).state m)
        else (if on then appends (appended s (cache_read s m).state m) else turns (appended s (cache_read s m).state m)))
    by true on = refl
    by false true = refl
    by false false = refl

pub tried_pays : (s : Setup) (t : Try) (d : Demand) → TriesPaid d.machine t → (demand_try s t d).machine.paid ≡ true → Pays true d.machine (demand_try s t d).machine d.orders (demand_try s t d).orders
tried_pays s (misses behind) d tries paid = record { before = λ none. let e : true ≡ false = none in cc; fetched = tries; orders = same refl }
tried_pays s (appends behind) d tries paid = let none : false ≡ true = sym tries ∙ paid in cc
tried_pays s (turns behind) d tries paid = let none : false ≡ true = sym tries ∙ paid in cc

-- every turn
turn_pays : (s : Setup) (at : At) (d : Demand) → is_halted (turn_at s at d).at ≡ false → (turn_at s at d).demand.machine.paid ≡ true →
    Pays (is_try at) d.machine (turn_at s at d).demand.machine d.orders (turn_at s at d).demand.orders
unfolding end_of_cycle
turn_pays s interrupting d on paid = interrupt_pays d paid
turn_pays s committing d on paid = commit_pays s d paid
turn_pays s completing d on paid = complete_pays d paid
turn_pays s issuing d on paid = issue_pays s d paid
turn_pays s (trying more) d on paid = tried_pays s (fetch_try s d.machine) d (try_paid s d.machine) paid
turn_pays s ending d on paid = record { before = λ tries. paid; fetched = refl; orders = same refl }
turn_pays s stopping d on paid = let e : true ≡ false = on in cc
turn_pays s halted d on paid = let e : true ≡ false = on in cc

goes_on : (s : Setup) (at : At) (d : Demand) → is_halted (turn_at s at d).at ≡ false → is_halted at ≡ false
goes_on s interrupting d on = refl
goes_on s committing d on = refl
goes_on s completing d on = refl
goes_on s issuing d on = refl
goes_on s (trying more) d on = refl
goes_on s ending d on = refl
goes_on s stopping d on = refl
goes_on s halted d on = on

-- no order is owed
pub none_owed : (os behind : List Order) → Onto os behind → length behind - length os - 1 ≡ 0
none_owed os behind (same is) = let e : length behind ≡ length os = ap (length {A = Order}) is in omega (arith, e)
none_owed os behind (commits_on m is) = let e : length behind ≡ length os + 1 = ap (length {A = Order}) is ∙ omega arith in omega (arith, e)

abbrev PaysAll : Run → ℕ → Type 0
PaysAll r owed = is_halted r.at ≡ false → r.demand.machine.paid ≡ true → owed ≡ 0

turned_all : (s : Setup) (r : Run) → PaysAll (turn s r) (owed_behind s r)
unfolding turn
turned_all s r = λ on paid. none_owed r.demand.orders (turn_at s r.at r.demand).demand.orders (turn_pays s r.at r.demand on paid).orders

pays_all : (s : Setup) (k : ℕ) → PaysAll (place s k).run (place s k).owed
pays_all s =
    at_each_turn s (λ k r owed. PaysAll r owed) (λ on paid. refl) (λ k r here. turned_all s r)
    (λ k owed r here. λ on paid. let e : suc owed ≡ 0 = here on paid in absurd (omega (arith, e)))

-- the entry that is held stays
abbrev opens_by : Bool → Option Order → Bool
opens_by level o = opens (if level then None else o)

opens_none : (level : Bool) (m : ℕ) → opens_by level (Some (Commit m)) ≡ false
opens_none true m = refl
opens_none false m = refl

module _ (r behind : Run) (onto : Onto r.demand.orders behind.demand.orders) where
  abbrev from : Place
  from = record { run = r; owed = 0 }

  abbrev to : Place
  to = record { run = behind; owed = length behind.demand.orders - length r.demand.orders - 1 }

  told_to : told to ≡ behind.demand.orders
  told_to = ap (λ (k : ℕ). drop k behind.demand.orders) (none_owed r.demand.orders behind.demand.orders onto)

  pub tells_closed : opens (told_by from to) ≡ false
  tells_closed = by onto
    where
      by : Onto r.demand.orders behind.demand.orders → opens (told_by from to) ≡ false
      by (same is) =
          let level : (length (told from) == length (told to)) ≡ true = eq-eqb (length (told from)) (length (told to)) (sym (ap (length {A = Order}) (told_to ∙ is))) in
          rw level refl
      by (commits_on m is) =
          ap (λ (os : List Order). opens (if length (told from) == length os then None else newest os)) (told_to ∙ is)
          ∙ opens_none (length (told from) == length (Commit m ∷ r.demand.orders)) m

pub held_stays : (o : Option Order) (p q : Place) (held : Option Entry) → opens o ≡ false → has_appended p q ≡ false → held_after o p q held ≡ held
held_stays o p q held closed none = rw (closed, none) refl

pub some_held : (held : Option Entry) → (true && is_none held) ≡ false → is_some held ≡ true
some_held None is = let e : true ≡ false = is in cc
some_held (Some e) is = refl

-- where a miss is counted, the entry is held
abbrev pub HeldAt : Place → Option Entry → Type 0
HeldAt p held = is_halted p.run.at ≡ false → p.run.demand.machine.paid ≡ true → is_some held ≡ true

step_holds : (s : Setup) (owed : ℕ) (r : Run) (held : Option Entry) → PaysAll r owed → HeldAt (record { run = r; owed = owed }) held →
    (needs_entry (record { run = r; owed = owed }) && is_none held) ≡ false →
    HeldAt (step_by s owed r) (held_after (told_by (record { run = r; owed = owed }) (step_by s owed r)) (record { run = r; owed = owed }) (step_by s owed r) held)
unfolding turn
step_holds s zero r held all here handed = λ on paid.
    let behind : Run = turn_at s r.at r.demand in
    let pays = turn_pays s r.at r.demand on paid in
    let p : Place = record { run = r; owed = 0 } in
    let q : Place = record { run = behind; owed = length behind.demand.orders - length r.demand.orders - 1 } in
    let none : has_appended p q ≡ false = ap not (eq-eqb behind.demand.machine.counts.fetched r.demand.machine.counts.fetched pays.fetched) in
    ap (λ (o : Option Entry). is_some o) (held_stays (told_by p q) p q held (tells_closed r behind pays.orders) none) ∙ by (is_try r.at) refl pays on
  where
    by : (b : Bool) → is_try r.at ≡ b → Pays (is_try r.at) r.demand.machine (turn_at s r.at r.demand).demand.machine r.demand.orders (turn_at s r.at r.demand).demand.orders →
        is_halted (turn_at s r.at r.demand).at ≡ false → is_some held ≡ true
    by true try pays on = some_held held (ap (λ (b : Bool). b && is_none held) (sym try) ∙ handed)
    by false try pays on = here (goes_on s r.at r.demand on) (pays.before try)
step_holds s (suc owed) r held all here handed = λ on paid. let e : suc owed ≡ 0 = all on paid in absurd (omega (arith, e))

-- a step keeps it, if the entry that is needed was handed over
pub holds_on : (s : Setup) (k : ℕ) (held : Option Entry) → HeldAt (place s k) held → (needs_entry (place s k) && is_none held) ≡ false →
    HeldAt (place s (suc k)) (held_after (told_by (place s k) (place s (suc k))) (place s k) (place s (suc k)) held)
unfolding step
holds_on s k held here handed =
    let p : Place = place s k in
    let P : Place → Type 0 = λ q. HeldAt q (held_after (told_by p q) p q held) in
    subst P (sym (place-suc s k)) (step_holds s p.owed p.run held (pays_all s k) here handed)
