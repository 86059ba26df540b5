-- What each turn makes of the list of orders.
use Rattle.std.proofs.Common.{◌≡◌, ℕ, zero, suc, ◌+◌, ◌≤◌, ◌<◌, ◌==◌, Option, Some, None, List, [], ◌∷◌, ◌++◌, length, refl, sym, subst, arith}
use Rattle.std.proofs.lemmas.Bool.{cond_both}
use Rattle.rollback_cmds.specs.declared.order.Order.{Order}
use Rattle.rollback_cmds.specs.declared.order.Order.TheVariants.{Set, Commit, Interrupt, Time, Stop, Sync}
use Rattle.mono_model.specs.declared.setup.Setup.{Setup}
use Rattle.mono_model.specs.Window.{Record}
use Rattle.mono_model.specs.Interrupt.{is_interrupted}
use Rattle.mono_model.specs.Commit.{Ending, plain, trap, sync, commit_phase}
use Rattle.mono_model.specs.Complete.{completes}
use Rattle.mono_model.specs.Issue.{wants_time}
use Rattle.mono_model.specs.Fetch.{Try, misses, appends, turns, fetch_try, predicted_next}
use Rattle.mono_model.specs.Path.{entry}
use Rattle.mono_model.specs.Demand.{Demand, next, interrupt_orders, ending_orders, commit_order, redirect_orders, time_orders, path_orders, demand_interrupt, demand_complete, demand_issue, At, interrupting, committing, completing, issuing, trying, ending, stopping, halted, tried_turn, turn_at}
use Rattle.machine_laws.specs.Telling.{OpensAt}
use Rattle.machine_laws.proofs.Phases.{interrupt_flushes, EndingLeft, commit_from, completes_from, complete_window, replay_flushes, Tries, try_tries}

-- each that opens an epoch, but Stop, has this number
abbrev pub AllOpenAt : ℕ → List Order → Type 0
AllOpenAt n [] = Unit {0}
AllOpenAt n (o ∷ os) = OpensAt n o × AllOpenAt n os

-- Made when so many instructions are committed: an order at that number is an Interrupt, a Time or a Stop.
abbrev pub IsLater : ℕ → Order → Type 0
IsLater n (Set m addr) = n < m
IsLater n (Commit m) = n < m
IsLater n (Interrupt m) = n ≤ m
IsLater n (Time m v) = n ≤ m
IsLater n (Stop m) = n ≤ m
IsLater n (Sync m) = n < m

abbrev pub AreLater : ℕ → List Order → Type 0
AreLater n [] = Unit {0}
AreLater n (o ∷ os) = IsLater n o × AreLater n os

-- What a turn makes of the list of orders; `n` is committed before it, and `to` is the number of the record to fetch behind it.
pub record MadeOnto (n to : ℕ) (os behind : List Order) : Type 0 where
  pub made : List Order
  pub orders : behind ≡ made ++ os
  pub later : AreLater n made
  pub opens : AllOpenAt to made

pub made_none : (n to : ℕ) (os : List Order) → MadeOnto n to os os
made_none n to os = record { made = []; orders = refl; later = tt; opens = tt }

pub made_one : (n to : ℕ) (o : Order) (os : List Order) → IsLater n o → OpensAt to o → MadeOnto n to os (o ∷ os)
made_one n to o os is opens = record { made = o ∷ []; orders = refl; later = (is, tt); opens = (opens, tt) }

pub interrupt_made : (d : Demand) → MadeOnto d.to_commit (next (demand_interrupt d)) d.orders (interrupt_orders d)
interrupt_made d =
    let to = next (demand_interrupt d) in
    cond_both (is_interrupted d.machine) (Interrupt d.to_commit ∷ d.orders) d.orders (MadeOnto d.to_commit to d.orders)
    (λ is. made_one d.to_commit to (Interrupt d.to_commit) d.orders (omega arith) (omega (arith, interrupt_flushes d.machine is)))
    (λ is. made_none d.to_commit to d.orders)

pub commit_made : (n m left handler : ℕ) (e : Ending) (w : List Record) (os : List Order) → m ≡ n + left → EndingLeft e left w →
    MadeOnto n (m + length w) os (ending_orders e handler m (commit_order left m os))
commit_made n m zero handler plain w os is more = made_none n (m + length w) os
commit_made n m zero handler trap w os is more = absurd (omega (arith, more.0))
commit_made n m zero handler sync w os is more = absurd (omega (arith, more.0))
commit_made n m (suc left) handler plain w os is more = made_one n (m + length w) (Commit m) os (omega arith) tt
commit_made n m (suc left) handler trap w os is more =
    record { made = Set m handler ∷ Commit m ∷ []; orders = refl; later = (omega arith, (omega arith, tt)); opens = (omega (arith, more.1), (tt, tt)) }
commit_made n m (suc left) handler sync w os is more =
    record { made = Sync m ∷ Commit m ∷ []; orders = refl; later = (omega arith, (omega arith, tt)); opens = (omega (arith, more.1), (tt, tt)) }

pub redirect_made : (redirect : Option ℕ) (n m : ℕ) (os : List Order) → ((addr : ℕ) → redirect ≡ Some addr → n < m) → MadeOnto n m os (redirect_orders redirect m os)
redirect_made None n m os more = made_none n m os
redirect_made (Some addr) n m os more = made_one n m (Set m addr) os (more addr refl) refl

complete_made : (d : Demand) → MadeOnto d.to_commit (next (demand_complete d)) d.orders (demand_complete d).orders
complete_made d =
    let c = completes d.machine.cycle d.machine.window in
    subst (λ (w : List Record). MadeOnto d.to_commit (d.to_commit + length w) d.orders (demand_complete d).orders) (sym (complete_window d.machine))
    (redirect_made c.redirect d.to_commit (d.to_commit + length c.records) d.orders (λ addr is. omega (arith, (completes_from d.machine.cycle d.machine.window).redirect addr is)))

issue_made : (s : Setup) (d : Demand) → MadeOnto d.to_commit (next (demand_issue s d)) d.orders (time_orders s d)
issue_made s d =
    let to = next (demand_issue s d) in
    cond_both (wants_time s d.machine) (Time d.to_commit d.machine.cycle ∷ d.orders) d.orders (MadeOnto d.to_commit to d.orders)
    (λ is. made_one d.to_commit to (Time d.to_commit d.machine.cycle) d.orders (omega arith) (omega (arith, replay_flushes s d.machine is)))
    (λ is. made_none d.to_commit to d.orders)

pub path_made : (s : Setup) (d : Demand) (to : ℕ) → to ≡ next d + 1 → MadeOnto d.to_commit to d.orders (path_orders s d)
path_made s d to is =
    cond_both ((entry s d.orders (next d)).next == predicted_next s d.machine) d.orders (Set (next d + 1) (predicted_next s d.machine) ∷ d.orders) (MadeOnto d.to_commit to d.orders)
    (λ e. made_none d.to_commit to d.orders) (λ e. made_one d.to_commit to (Set (next d + 1) (predicted_next s d.machine)) d.orders (omega arith) (sym is))

try_made : (s : Setup) (t : Try) (more : ℕ) (d : Demand) → Tries d.machine t → MadeOnto d.to_commit (next (tried_turn s t more d).demand) d.orders (tried_turn s t more d).demand.orders
try_made s (misses behind) more d made = made_none d.to_commit (d.to_commit + length behind.window) d.orders
try_made s (appends behind) more d made = path_made s d (d.to_commit + length behind.window) (omega (arith, made.window))
try_made s (turns behind) more d made = path_made s d (d.to_commit + length behind.window) (omega (arith, made.window))

pub turn_made : (s : Setup) (at : At) (d : Demand) → MadeOnto d.to_commit (next (turn_at s at d).demand) d.orders (turn_at s at d).demand.orders
turn_made s interrupting d = interrupt_made d
turn_made s committing d =
    let c = commit_phase s d.machine in
    commit_made d.to_commit (d.to_commit + c.left) c.left c.machine.arch.pc c.ending c.machine.window d.orders refl (commit_from s d.machine).ending
turn_made s completing d = complete_made d
turn_made s issuing d = issue_made s d
turn_made s (trying more) d = try_made s (fetch_try s d.machine) more d (try_tries s d.machine)
turn_made s ending d = made_none d.to_commit (next (turn_at s ending d).demand) d.orders
turn_made s stopping d = made_one d.to_commit (next d) (Stop d.to_commit) d.orders (omega arith) tt
turn_made s halted d = made_none d.to_commit (next d) d.orders
