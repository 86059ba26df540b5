-- Orders made later leave what is committed.
use Rattle.std.proofs.Common.{◌≡◌, ℕ, zero, suc, ◌+◌, ◌-◌, ◌≤◌, ◌<◌, ◌==◌, if◌then◌else◌, List, [], ◌∷◌, ◌++◌, length, drop, refl, ap, sym, ◌∙◌, subst, arith, ⊎_elim, append_assoc, length-append}
use Rattle.std.proofs.lemmas.Bool.{cond-true, cond-false, eq-eqb, ne_eqb, cases_order}
use Rattle.rollback_cmds.specs.declared.order.Order.{Order}
use Rattle.rollback_cmds.specs.declared.order.Order.TheVariants.{Set, Commit, Interrupt, Time, Stop, Sync}
use Rattle.mono_model.specs.declared.setup.Setup.{Setup}
use Rattle.mono_model.specs.Arch.{Arch, interrupted}
use Rattle.mono_model.specs.Commit.{Ending, plain, trap, sync, commit_phase}
use Rattle.mono_model.specs.Complete.{completes}
use Rattle.mono_model.specs.Fetch.{Try, misses, appends, turns, fetch_try}
use Rattle.mono_model.specs.Path.{path}
use Rattle.mono_model.specs.Demand.{Demand, ending_orders, commit_order, demand_interrupt, demand_commit, demand_complete, demand_issue, demand_try, At, interrupting, committing, completing, issuing, trying, ending, stopping, halted, Run, tried_turn, turn_at, turn, step_by, step, place, Place, told, number_of}
use Rattle.machine_laws.specs.Numbers.{last_commit}
use Rattle.machine_laws.specs.Stays.{with_interrupts, StaysBelow, StaysAt}
use Rattle.mono_model.proofs.Path.{path_below, path_at_interrupt, path_at_time, path-commit, path-stop}
use Rattle.machine_laws.proofs.Always.{at_each_turn}
use Rattle.machine_laws.proofs.Making.{IsLater, AreLater, turn_made}
use Rattle.machine_laws.proofs.Numbering.{done_is}
use Rattle.machine_laws.proofs.Reaching.{interrupt_count, left_count, redirect_count, time_count, try_count}

later_from : (n : ℕ) (o : Order) → IsLater n o → n ≤ number_of o
later_from n (Set m addr) is = omega arith
later_from n (Commit m) is = omega arith
later_from n (Interrupt m) is = is
later_from n (Time m v) is = is
later_from n (Stop m) is = is
later_from n (Sync m) is = omega arith

earlier_too : (n m : ℕ) (o : Order) → n ≤ m → IsLater m o → IsLater n o
earlier_too n m (Set k addr) less is = omega arith
earlier_too n m (Commit k) less is = omega arith
earlier_too n m (Interrupt k) less is = omega arith
earlier_too n m (Time k v) less is = omega arith
earlier_too n m (Stop k) less is = omega arith
earlier_too n m (Sync k) less is = omega arith

pub all_earlier : (n m : ℕ) (os : List Order) → n ≤ m → AreLater m os → AreLater n os
all_earlier n m [] less are = tt
all_earlier n m (o ∷ os) less are = (earlier_too n m o less are.0, all_earlier n m os less are.1)

pub later_append : (n : ℕ) (xs ys : List Order) → AreLater n xs → AreLater n ys → AreLater n (xs ++ ys)
later_append n [] ys are more = more
later_append n (o ∷ xs) ys are more = (are.0, later_append n xs ys are.1 more)

pub later_drop : (n k : ℕ) (xs : List Order) → AreLater n xs → AreLater n (drop k xs)
later_drop n zero xs are = are
later_drop n (suc k) [] are = tt
later_drop n (suc k) (o ∷ xs) are = later_drop n k xs are.1

pub drop_front : (k : ℕ) (xs ys : List Order) → k ≤ length xs → drop k (xs ++ ys) ≡ drop k xs ++ ys
drop_front zero xs ys within = refl
drop_front (suc k) [] ys within = absurd (omega arith)
drop_front (suc k) (o ∷ xs) ys within = drop_front k xs ys (omega arith)

-- below the number such orders leave the path
pub below_later : (s : Setup) (n : ℕ) (later os : List Order) → AreLater n later → (k : ℕ) → k < n → path s (later ++ os) k ≡ path s os k
below_later s n [] os are k under = refl
below_later s n (o ∷ later) os are k under = path_below s o (later ++ os) k (omega (arith, later_from n o are.0)) ∙ below_later s n later os are.1 k under

-- at the number each takes its trap, where it is an Interrupt
interrupt_at : (s : Setup) (n m : ℕ) (os : List Order) → n ≤ m → path s (Interrupt m ∷ os) n ≡ (if m == n then interrupted (path s os n) else path s os n)
interrupt_at s n m os from = ⊎_elim (λ same. here same) (λ other. above (⊎_elim (λ over. absurd (omega arith)) (λ over. over) other)) (cases_order m n)
  where
    here : m ≡ n → path s (Interrupt m ∷ os) n ≡ (if m == n then interrupted (path s os n) else path s os n)
    here same = subst (λ (k : ℕ). path s (Interrupt m ∷ os) k ≡ interrupted (path s os k)) same (path_at_interrupt s m os)
        ∙ sym (cond-true (m == n) (interrupted (path s os n)) (path s os n) (eq-eqb m n same))

    above : n < m → path s (Interrupt m ∷ os) n ≡ (if m == n then interrupted (path s os n) else path s os n)
    above over = path_below s (Interrupt m) os n over ∙ sym (cond-false (m == n) (interrupted (path s os n)) (path s os n) (ne_eqb m n (λ same. omega arith)))

time_at : (s : Setup) (n m v : ℕ) (os : List Order) → n ≤ m → path s (Time m v ∷ os) n ≡ path s os n
time_at s n m v os from = ⊎_elim (λ same. here same) (λ other. above (⊎_elim (λ over. absurd (omega arith)) (λ over. over) other)) (cases_order m n)
  where
    here : m ≡ n → path s (Time m v ∷ os) n ≡ path s os n
    here same = subst (λ (k : ℕ). path s (Time m v ∷ os) k ≡ path s os k) same (path_at_time s m v os)

    above : n < m → path s (Time m v ∷ os) n ≡ path s os n
    above over = path_below s (Time m v) os n over

pub at_later : (s : Setup) (n : ℕ) (later os : List Order) → AreLater n later → path s (later ++ os) n ≡ with_interrupts later n (path s os n)
at_later s n [] os are = refl
at_later s n (Set m addr ∷ later) os are = path_below s (Set m addr) (later ++ os) n are.0 ∙ at_later s n later os are.1
at_later s n (Commit m ∷ later) os are = path-commit s m (later ++ os) n ∙ at_later s n later os are.1
at_later s n (Interrupt m ∷ later) os are =
    interrupt_at s n m (later ++ os) are.0 ∙ ap (λ (a : Arch). if m == n then interrupted a else a) (at_later s n later os are.1)
at_later s n (Time m v ∷ later) os are = time_at s n m v (later ++ os) are.0 ∙ at_later s n later os are.1
at_later s n (Stop m ∷ later) os are = path-stop s m (later ++ os) n ∙ at_later s n later os are.1
at_later s n (Sync m ∷ later) os are = path_below s (Sync m) (later ++ os) n are.0 ∙ at_later s n later os are.1

tried_orders : (s : Setup) (t : Try) (more : ℕ) (d : Demand) → (demand_try s t d).orders ≡ (tried_turn s t more d).demand.orders
tried_orders s (misses behind) more d = refl
tried_orders s (appends behind) more d = refl
tried_orders s (turns behind) more d = refl

-- no turn takes back what is committed
try_done : (s : Setup) (t : Try) (more : ℕ) (d : Demand) → (tried_turn s t more d).demand.to_commit ≡ d.to_commit
try_done s (misses behind) more d = refl
try_done s (appends behind) more d = refl
try_done s (turns behind) more d = refl

turn_done : (s : Setup) (at : At) (d : Demand) → d.to_commit ≤ (turn_at s at d).demand.to_commit
turn_done s interrupting d = omega arith
turn_done s committing d = omega arith
turn_done s completing d = omega arith
turn_done s issuing d = omega arith
turn_done s (trying more) d = omega (arith, try_done s (fetch_try s d.machine) more d)
turn_done s ending d = omega arith
turn_done s stopping d = omega arith
turn_done s halted d = omega arith

-- From one place on to another: more orders, and more may be committed.
pub record Onto (p q : Place) : Type 0 where
  pub later : List Order
  pub orders : q.run.demand.orders ≡ later ++ p.run.demand.orders
  are : AreLater p.run.demand.to_commit later
  to_commit : p.run.demand.to_commit ≤ q.run.demand.to_commit
  pub owed : q.owed ≤ p.owed + length later

onto_start : (p : Place) → Onto p p
onto_start p = record { later = []; orders = refl; are = tt; to_commit = omega arith; owed = omega arith }

onto_step : (s : Setup) (p : Place) (owed : ℕ) (r : Run) → Onto p (record { run = r; owed = owed }) → Onto p (step_by s owed r)
unfolding turn
onto_step s p zero r onto =
    let made = turn_made s r.at r.demand in
    let d = turn_done s r.at r.demand in
    let count : length (turn s r).demand.orders ≡ length made.made + length r.demand.orders =
    ap (λ (os : List Order). length os) made.orders ∙ length-append made.made r.demand.orders in
    record {
      later = made.made ++ onto.later;
      orders = made.orders ∙ ap (λ (os : List Order). made.made ++ os) onto.orders ∙ sym (append_assoc made.made onto.later p.run.demand.orders);
      are = later_append p.run.demand.to_commit made.made onto.later (all_earlier p.run.demand.to_commit r.demand.to_commit made.made onto.to_commit made.later) onto.are;
      to_commit = omega (arith, onto.to_commit);
      owed = omega (arith, length-append made.made onto.later);
    }
onto_step s p (suc owed) r onto = record { later = onto.later; orders = onto.orders; are = onto.are; to_commit = onto.to_commit; owed = omega (arith, onto.owed) }

onto_on : (s : Setup) (k j : ℕ) → Onto (place s k) (place s (j + k))
unfolding place step
onto_on s k zero = let e : k ≡ zero + k = omega arith in subst (λ (n : ℕ). Onto (place s k) (place s n)) e (onto_start (place s k))
onto_on s k (suc j) =
    let e : suc (j + k) ≡ suc j + k = omega arith in
    subst (λ (n : ℕ). Onto (place s k) (place s n)) e (onto_step s (place s k) (place s (j + k)).owed (place s (j + k)).run (onto_on s k j))

pub onto : (s : Setup) (k l : ℕ) → k ≤ l → Onto (place s k) (place s l)
onto s k l later = let e : (l - k) + k ≡ l = omega arith in subst (λ (n : ℕ). Onto (place s k) (place s n)) e (onto_on s k (l - k))

-- What is told from a place with all orders told on speaks of what isn't committed there.
pub record TellsLater (p q : Place) : Type 0 where
  pub later : List Order
  pub orders : told q ≡ later ++ told p
  pub are : AreLater p.run.demand.to_commit later

pub tells_later : (s : Setup) (k l : ℕ) → (place s k).owed ≡ 0 → k ≤ l → TellsLater (place s k) (place s l)
tells_later s k l settled later =
    let p = place s k in
    let q = place s l in
    let o = onto s k l later in
    let rest : told p ≡ p.run.demand.orders = ap (λ (n : ℕ). drop n p.run.demand.orders) settled in
    record {
      later = drop q.owed o.later;
      orders = ap (λ (os : List Order). drop q.owed os) o.orders ∙ drop_front q.owed o.later p.run.demand.orders (omega (arith, o.owed))
          ∙ ap (λ (os : List Order). drop q.owed o.later ++ os) (sym rest);
      are = later_drop p.run.demand.to_commit q.owed o.later o.are;
    }

-- So only interrupts change the path at what is committed.
pub later_stays : (s : Setup) (p q : Place) → TellsLater p q → StaysAt s p q
later_stays s p q o = record {
  later = o.later;
  orders = o.orders;
  state = ap (λ (os : List Order). path s os p.run.demand.to_commit) o.orders ∙ at_later s p.run.demand.to_commit o.later (told p) o.are;
}

pub stays_at : (s : Setup) (k l : ℕ) → (place s k).owed ≡ 0 → k ≤ l → StaysAt s (place s k) (place s l)
stays_at s k l settled later = later_stays s (place s k) (place s l) (tells_later s k l settled later)

-- The orders of a turn that aren't told yet: none is a Commit, and they speak of what isn't committed.
abbrev pub IsOwed : ℕ → Order → Type 0
IsOwed n (Set m addr) = n ≤ m
IsOwed n (Commit m) = ⊥
IsOwed n (Interrupt m) = n ≤ m
IsOwed n (Time m v) = n ≤ m
IsOwed n (Stop m) = n ≤ m
IsOwed n (Sync m) = n ≤ m

owed_from : (n : ℕ) (o : Order) → IsOwed n o → n ≤ number_of o
owed_from n (Set m addr) is = is
owed_from n (Commit m) is = absurd is
owed_from n (Interrupt m) is = is
owed_from n (Time m v) is = is
owed_from n (Stop m) is = is
owed_from n (Sync m) is = is

owed_commit : (n : ℕ) (o : Order) (os : List Order) → IsOwed n o → last_commit (o ∷ os) ≡ last_commit os
owed_commit n (Set m addr) os is = refl
owed_commit n (Commit m) os is = absurd is
owed_commit n (Interrupt m) os is = refl
owed_commit n (Time m v) os is = refl
owed_commit n (Stop m) os is = refl
owed_commit n (Sync m) os is = refl

abbrev pub FirstFrom : ℕ → ℕ → List Order → Type 0
FirstFrom n zero os = Unit {0}
FirstFrom n (suc k) [] = Unit {0}
FirstFrom n (suc k) (o ∷ os) = IsOwed n o × FirstFrom n k os

pub one_fewer : (n k : ℕ) (os : List Order) → FirstFrom n (suc k) os → FirstFrom n k os
one_fewer n zero os from = tt
one_fewer n (suc k) [] from = tt
one_fewer n (suc k) (o ∷ os) from = (from.0, one_fewer n k os from.1)

pub first_none : (n k : ℕ) (os : List Order) → k ≡ 0 → FirstFrom n k os
first_none n zero os is = tt
first_none n (suc k) os is = absurd (omega arith)

first_one : (n k : ℕ) (o : Order) (os : List Order) → IsOwed n o → k ≤ 1 → FirstFrom n k (o ∷ os)
first_one n zero o os from most = tt
first_one n (suc k) o os from most = (from, first_none n k os (omega arith))

pub commit_first : (e : Ending) (handler n left k : ℕ) (os : List Order) → k ≡ length (ending_orders e handler n (commit_order left n os)) - length os - 1 → FirstFrom n k (ending_orders e handler n (commit_order left n os))
commit_first plain handler n left k os is = first_none n k (commit_order left n os) (omega (arith, left_count left n os))
commit_first trap handler n left k os is = first_one n k (Set n handler) (commit_order left n os) (omega arith) (omega (arith, left_count left n os))
commit_first sync handler n left k os is = first_one n k (Sync n) (commit_order left n os) (omega arith) (omega (arith, left_count left n os))

-- all turns but commit make one order at most
pub first_of_one : (n : ℕ) (os behind : List Order) → length behind ≤ length os + 1 → FirstFrom n (length behind - length os - 1) behind
first_of_one n os behind most = first_none n (length behind - length os - 1) behind (omega arith)

turn_first : (s : Setup) (at : At) (d : Demand) → let behind = (turn_at s at d).demand in FirstFrom behind.to_commit (length behind.orders - length d.orders - 1) behind.orders
turn_first s interrupting d = first_of_one d.to_commit d.orders (demand_interrupt d).orders (interrupt_count d)
turn_first s committing d =
    let c = commit_phase s d.machine in
    commit_first c.ending c.machine.arch.pc (d.to_commit + c.left) c.left (length (demand_commit s d).orders - length d.orders - 1) d.orders refl
turn_first s completing d =
    let c = completes d.machine.cycle d.machine.window in
    first_of_one d.to_commit d.orders (demand_complete d).orders (redirect_count c.redirect (d.to_commit + length c.records) d.orders)
turn_first s issuing d = first_of_one d.to_commit d.orders (demand_issue s d).orders (time_count s d)
turn_first s (trying more) d =
    let behind = (turn_at s (trying more) d).demand in
    first_of_one behind.to_commit d.orders behind.orders (subst (λ (os : List Order). length os ≤ length d.orders + 1) (tried_orders s (fetch_try s d.machine) more d) (try_count s (fetch_try s d.machine) d))
turn_first s ending d = first_of_one d.to_commit d.orders d.orders (omega arith)
turn_first s stopping d = first_of_one d.to_commit d.orders (Stop d.to_commit ∷ d.orders) (omega arith)
turn_first s halted d = first_of_one d.to_commit d.orders d.orders (omega arith)

abbrev OwedFrom : Place → Type 0
OwedFrom p = FirstFrom p.run.demand.to_commit p.owed p.run.demand.orders

place_owed : (s : Setup) (k : ℕ) → OwedFrom (place s k)
unfolding turn
place_owed s =
    at_each_turn s (λ k r owed. FirstFrom r.demand.to_commit owed r.demand.orders) tt (λ k r from. turn_first s r.at r.demand)
    (λ k owed r from. one_fewer r.demand.to_commit owed r.demand.orders from)

-- the path below what is committed is the same with them and without
pub below_owed : (s : Setup) (n k : ℕ) (os : List Order) → FirstFrom n k os → (i : ℕ) → i < n → path s os i ≡ path s (drop k os) i
below_owed s n zero os from i under = refl
below_owed s n (suc k) [] from i under = refl
below_owed s n (suc k) (o ∷ os) from i under = path_below s o os i (omega (arith, owed_from n o from.0)) ∙ below_owed s n k os from.1 i under

-- From any place on the path below what is committed stays.
pub stays_below : (s : Setup) (k l : ℕ) → k ≤ l → StaysBelow s (place s k) (place s l)
stays_below s k l later n under =
    let p = place s k in
    let q = place s l in
    let o = onto s k l later in
    sym (below_owed s q.run.demand.to_commit q.owed q.run.demand.orders (place_owed s l) n (omega (arith, o.to_commit)))
    ∙ ap (λ (os : List Order). path s os n) o.orders
    ∙ below_later s p.run.demand.to_commit o.later p.run.demand.orders o.are n under
    ∙ below_owed s p.run.demand.to_commit p.owed p.run.demand.orders (place_owed s k) n under

-- The last Commit told is the last one made.
pub commit_owed : (n k : ℕ) (os : List Order) → FirstFrom n k os → last_commit (drop k os) ≡ last_commit os
commit_owed n zero os from = refl
commit_owed n (suc k) [] from = refl
commit_owed n (suc k) (o ∷ os) from = commit_owed n k os from.1 ∙ sym (owed_commit n o os from.0)

pub done_told : (s : Setup) (k : ℕ) → (place s k).run.demand.to_commit ≡ last_commit (told (place s k))
done_told s k =
    let p = place s k in
    done_is s k ∙ sym (commit_owed p.run.demand.to_commit p.owed p.run.demand.orders (place_owed s k))
