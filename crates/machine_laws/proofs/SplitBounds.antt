-- How far the functional side's numbers and the epochs go.
use Rattle.std.proofs.Common.{◌≡◌, ℕ, zero, suc, ◌≤◌, if◌then◌else◌, Bool, true, false, Option, List, [], ◌∷◌, ◌++◌, reverse, length, ap, sym, subst, arith, length-append}
use Rattle.rollback_cmds.specs.declared.order.Order.{Order}
use Rattle.rollback_cmds.specs.declared.order.Order.TheVariants.{Set, Commit, Interrupt, Time, Stop, Sync}
use Rattle.rollback_cmds.specs.Order.{opens_epoch_of}
use Rattle.mono_model.specs.declared.setup.Setup.{Setup}
use Rattle.mono_model.specs.Path.{openings}
use Rattle.mono_model.specs.Demand.{Place, place, told, step_bound}
use Rattle.mono_model.specs.Split.{Split, told_by}
use Rattle.machine_laws.specs.Numbers.{last_commit, AreAtCommit}
use Rattle.machine_laws.specs.SplitLaw.{IsCounted, IsSmallIn}
use Rattle.machine_laws.specs.DemandRun.{DemandRun}
use Rattle.machine_laws.proofs.Laws.{IsDemandRun}
use Rattle.machine_laws.proofs.Bounds.{length_added}
use Rattle.machine_laws.proofs.MonoRun.{mono_laws}
use Rattle.machine_laws.proofs.SplitOrders.{IsOrdered}
use Rattle.machine_laws.proofs.SplitLists.{hand_list, openings_append}
use Rattle.machine_laws.proofs.SplitCounts.{told_front}
use Rattle.machine_laws.proofs.SplitNames.{grown_all}

-- later orders commit no less
commits_more : (xs ys : List Order) → AreAtCommit (xs ++ ys) → last_commit ys ≤ last_commit (xs ++ ys)
commits_more [] ys are = omega arith
commits_more (Set m addr ∷ xs) ys are = commits_more xs ys are.1
commits_more (Commit m ∷ xs) ys are = omega (arith, are.0, commits_more xs ys are.1)
commits_more (Interrupt m ∷ xs) ys are = commits_more xs ys are.1
commits_more (Time m v ∷ xs) ys are = commits_more xs ys are.1
commits_more (Stop m ∷ xs) ys are = commits_more xs ys are.1
commits_more (Sync m ∷ xs) ys are = commits_more xs ys are.1

one_most : (b : Bool) → (if b then 1 else 0) ≤ 1
one_most true = omega arith
one_most false = omega arith

pub openings_most : (os : List Order) → openings os ≤ length os
openings_most [] = omega arith
openings_most (o ∷ os) = omega (arith, one_most (opens_epoch_of o), openings_most os)

module _ {s : Setup} {r : DemandRun} (laws : IsDemandRun s r) where
  -- each step tells one order at most
  pub orders_most : (k : ℕ) → length (told (r.places k)) ≤ k
  orders_most zero = omega (arith, ap (λ (p : Place). length (told p)) laws.start)
  orders_most (suc k) =
      let o : Option Order = told_by (r.places k) (r.places (suc k)) in
      omega (arith, ap (λ (os : List Order). length os) (laws.tells k), length_added o (told (r.places k)), orders_most k)

  pub openings_told_most : (k : ℕ) → 1 ≤ s.cycles → openings (told (r.places k)) ≤ r.bound
  openings_told_most k cycles =
      let grown = grown_all laws k cycles in
      omega (arith, openings_most (told (r.places k)), ap (λ (os : List Order). length os) grown.orders, length-append grown.later (told (r.places k)), orders_most r.bound)

  pub is_small : (x : Split) → IsOrdered r x → IsCounted s x → 1 ≤ s.cycles → IsSmallIn s r x
  is_small x ordered counted cycles =
      let front = hand_list x.hand ++ reverse x.listed_orders in
      let told_is : told x.place ≡ front ++ x.obeyed = told_front x ordered in
      let done : last_commit (told x.place) ≤ r.commits =
      subst (λ (p : Place). last_commit (told p) ≤ r.commits) (sym ordered.at) (omega (arith, laws.done ordered.steps, laws.commits cycles ordered.steps)) in
      let most : last_commit x.obeyed ≤ last_commit (told x.place) =
      subst (λ (os : List Order). last_commit x.obeyed ≤ last_commit os) (sym told_is)
      (commits_more front x.obeyed (subst AreAtCommit told_is (subst (λ (p : Place). AreAtCommit (told p)) (sym ordered.at) (laws.kinds ordered.steps)))) in
      record {
        committed = omega (arith, counted.committed, done, most);
        position = omega (arith, counted.committed, counted.most, done, most);
        obeyed = omega (arith, ap (λ (os : List Order). openings os) told_is, openings_append front x.obeyed);
        epoch = subst (λ (p : Place). openings (told p) ≤ r.bound) (sym ordered.at) (openings_told_most ordered.steps cycles);
      }

pub told_count : (s : Setup) (k : ℕ) → 1 ≤ s.cycles → openings (told (place s k)) ≤ step_bound s
told_count s k cycles = openings_told_most (mono_laws s) k cycles
