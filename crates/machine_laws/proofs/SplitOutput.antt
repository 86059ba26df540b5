-- What the orders told commit has room in the output.
use Rattle.std.proofs.Common.{◌≡◌, ℕ, zero, suc, ◌≤◌, ◌<◌, Option, Some, None, List, [], ◌∷◌, ◌++◌, length, drop, refl, ap, sym, ◌∙◌, subst, arith, ⊎_elim}
use Rattle.std.proofs.lemmas.Bool.{cases_order}
use Rattle.rollback_cmds.specs.declared.order.Order.{Order}
use Rattle.rollback_cmds.specs.declared.order.Order.TheVariants.{Set, Commit, Interrupt, Time, Stop, Sync}
use Rattle.mono_model.specs.declared.setup.Setup.{Setup}
use Rattle.mono_model.specs.Arch.{Arch, trapped, synced}
use Rattle.mono_model.specs.Path.{path}
use Rattle.mono_model.specs.Demand.{Place, place, told, number_of}
use Rattle.mono_model.specs.Split.{told_by}
use Rattle.machine_laws.specs.Numbers.{last_commit, IsAtCommit, AreAtCommit}
use Rattle.machine_laws.specs.Telling.{with_order}
use Rattle.machine_laws.specs.Output.{IsInRoom, AreInRoom}
use Rattle.machine_laws.specs.DemandRun.{DemandRun}
use Rattle.machine_laws.proofs.Laws.{IsDemandRun}
use Rattle.machine_laws.proofs.MonoRun.{mono_laws}
use Rattle.mono_model.proofs.Path.{path_below, path_at_set, path_at_interrupt, path_at_time, path_at_sync, path-commit, path-stop}
use Rattle.machine_laws.proofs.SplitSteps.{Owes, owes_none, owes_one}

-- at its number or before it an order leaves the output
output_at : (s : Setup) (o : Order) (os : List Order) → (path s (o ∷ os) (number_of o)).output ≡ (path s os (number_of o)).output
unfolding trapped synced
output_at s (Set m addr) os = ap (λ (a : Arch). a.output) (path_at_set s m addr os)
output_at s (Commit m) os = ap (λ (a : Arch). a.output) (path-commit s m os m)
output_at s (Interrupt m) os = ap (λ (a : Arch). a.output) (path_at_interrupt s m os)
output_at s (Time m v) os = ap (λ (a : Arch). a.output) (path_at_time s m v os)
output_at s (Stop m) os = ap (λ (a : Arch). a.output) (path-stop s m os m)
output_at s (Sync m) os = ap (λ (a : Arch). a.output) (path_at_sync s m os)

pub output_kept : (s : Setup) (o : Order) (os : List Order) (n : ℕ) → n ≤ number_of o → (path s (o ∷ os) n).output ≡ (path s os n).output
output_kept s o os n most = ⊎_elim here (λ other. ⊎_elim below (λ above. absurd (omega arith)) other) (cases_order n (number_of o))
  where
    here : n ≡ number_of o → (path s (o ∷ os) n).output ≡ (path s os n).output
    here same = subst (λ (k : ℕ). (path s (o ∷ os) k).output ≡ (path s os k).output) (sym same) (output_at s o os)

    below : n < number_of o → (path s (o ∷ os) n).output ≡ (path s os n).output
    below under = ap (λ (a : Arch). a.output) (path_below s o os n under)

pub told_kept : (s : Setup) (p : Place) → Owes p → (path s p.run.demand.orders p.run.demand.to_commit).output ≡ (path s (told p) p.run.demand.to_commit).output
told_kept s p (owes_none all) = ap (λ (k : ℕ). (path s (drop k p.run.demand.orders) p.run.demand.to_commit).output) (sym all)
told_kept s p (owes_one all m o os is opening on) =
    let d = p.run.demand in
    let rest : told p ≡ Commit m ∷ os = ap (λ (k : ℕ). drop k d.orders) all ∙ ap (λ (l : List Order). drop 1 l) is in
    ap (λ (l : List Order). (path s l d.to_commit).output) is ∙ output_kept s o (Commit m ∷ os) d.to_commit (omega (arith, opening.number)) ∙ ap (λ (l : List Order). (path s l d.to_commit).output) (sym rest)

-- each order told commits no more than that
abbrev pub AreWithin : Setup → List Order → Type 0
AreWithin s [] = Unit {0}
AreWithin s (o ∷ os) = (length (path s (o ∷ os) (last_commit (o ∷ os))).output ≤ s.output) × AreWithin s os

one_more : (s : Setup) (o : Option Order) (os : List Order) → length (path s (with_order o os) (last_commit (with_order o os))).output ≤ s.output → AreWithin s os → AreWithin s (with_order o os)
one_more s None os first are = are
one_more s (Some o) os first are = (first, are)

module _ {s : Setup} {r : DemandRun} (laws : IsDemandRun s r) where
  -- what is committed under the orders told has room
  pub run_output : (k : ℕ) → length (path s (told (r.places k)) (r.places k).run.demand.to_commit).output ≤ s.output
  run_output k =
      let p : Place = r.places k in
      subst (λ (bytes : List ℕ). length bytes ≤ s.output) (ap (λ (a : Arch). a.output) (laws.related k).arch ∙ told_kept s p (laws.owes k)) (laws.output k)

  pub told_within : (k : ℕ) → AreWithin s (told (r.places k))
  told_within zero = subst (λ (p : Place). AreWithin s (told p)) (sym laws.start) tt
  told_within (suc k) =
      let o : Option Order = told_by (r.places k) (r.places (suc k)) in
      let os : List Order = told (r.places k) in
      let first : length (path s (told (r.places (suc k))) (last_commit (told (r.places (suc k))))).output ≤ s.output =
      subst (λ (n : ℕ). length (path s (told (r.places (suc k))) n).output ≤ s.output) (laws.done (suc k)) (run_output (suc k)) in
      subst (AreWithin s) (sym (laws.tells k)) (one_more s o os (subst (λ (l : List Order). length (path s l (last_commit l)).output ≤ s.output) (laws.tells k) first) (told_within k))

pub within_behind : (s : Setup) (xs ys : List Order) → AreWithin s (xs ++ ys) → AreWithin s ys
within_behind s [] ys are = are
within_behind s (o ∷ xs) ys are = within_behind s xs ys are.1

kept_within : (s : Setup) (o : Order) (os : List Order) (n : ℕ) → number_of o ≡ n → n ≡ last_commit os → length (path s (o ∷ os) (last_commit os)).output ≤ s.output → length (path s os n).output ≤ s.output
kept_within s o os n is at within =
    subst (λ (bytes : List ℕ). length bytes ≤ s.output) (output_kept s o os n (omega (arith, is)))
    (subst (λ (k : ℕ). length (path s (o ∷ os) k).output ≤ s.output) (sym at) within)

pub commits_within : (s : Setup) (o : Order) (os : List Order) → IsAtCommit os o → length (path s (o ∷ os) (last_commit (o ∷ os))).output ≤ s.output → IsInRoom s os o
commits_within s (Set m addr) os at within = tt
commits_within s (Commit m) os at within = subst (λ (a : Arch). length a.output ≤ s.output) (path-commit s m os m) within
commits_within s (Interrupt m) os at within = kept_within s (Interrupt m) os m refl at within
commits_within s (Time m v) os at within = tt
commits_within s (Stop m) os at within = tt
commits_within s (Sync m) os at within = kept_within s (Sync m) os m refl at within

-- so each order told has room for what it commits
all_in_room : (s : Setup) (os : List Order) → AreAtCommit os → AreWithin s os → AreInRoom s os
all_in_room s [] kinds within = tt
all_in_room s (o ∷ os) kinds within = (commits_within s o os kinds.0 within.0, all_in_room s os kinds.1 within.1)

pub told_in_room : {s : Setup} {r : DemandRun} (laws : IsDemandRun s r) (k : ℕ) → AreInRoom s (told (r.places k))
told_in_room {s = s} {r = r} laws k = all_in_room s (told (r.places k)) (laws.kinds k) (told_within laws k)

pub told_output : (s : Setup) (k : ℕ) → length (path s (told (place s k)) (place s k).run.demand.to_commit).output ≤ s.output
told_output s k = run_output (mono_laws s) k

pub orders_have_room : (s : Setup) (k : ℕ) → AreInRoom s (told (place s k))
orders_have_room s k = told_in_room (mono_laws s) k
