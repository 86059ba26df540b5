-- Undo steps that lead back along a path: one more, one fewer, those from a number on, and along another path.
use Rattle.std.proofs.Common.{◌≡◌, ℕ, zero, suc, ◌+◌, ◌-◌, ◌≤◌, ◌<◌, nat_le, List, [], ◌∷◌, ◌++◌, length, take, drop, refl, ap, sym, ◌∙◌, subst, arith, inl, inr}
use Rattle.std.proofs.lemmas.Bool.{le-leb, lt-leb, cond-true, cond-false, cases_lt}
use Rattle.std.proofs.lemmas.List.{drop_all}
use Rattle.std.specs.List.{All}
use Rattle.std.proofs.lemmas.List.Elements.{All-nil, All-cons}
use Rattle.fsim_base.specs.declared.access.RamRange.{RamRange}
use Rattle.undo_journal.specs.declared.past.Past.{Past}
use Rattle.undo_journal.specs.Journal.{from_number}
use Rattle.mono_model.specs.Arch.{Arch}
use Rattle.func_model.specs.Undo.{undone, all_undone, IsRestorable}
use Rattle.func_model.specs.Walk.{IsStep, LeadsBack}

-- the steps from a number on, without or with the oldest
from_later : (n : ℕ) (past : Past) (later : List Past) → past.number < n → from_number n (past ∷ later) ≡ from_number n later
from_later n past later under = cond-false (nat_le n past.number) (past ∷ from_number n later) (from_number n later) (lt-leb n past.number under)

from_here : (n : ℕ) (past : Past) (later : List Past) → n ≤ past.number → from_number n (past ∷ later) ≡ past ∷ from_number n later
from_here n past later from = cond-true (nat_le n past.number) (past ∷ from_number n later) (from_number n later) (le-leb n past.number from)

module _ (range : RamRange) (at : ℕ → Arch) where
  step_for : (n m : ℕ) (past : Past) → n ≡ m → IsStep range at n past → IsStep range at m past
  step_for n m past same step = subst (λ (k : ℕ). IsStep range at k past) same step

  -- one step more, the newest
  pub leads_more : (m : ℕ) (steps : List Past) (past : Past) → LeadsBack range at m steps → IsStep range at (m + length steps) past → LeadsBack range at m (steps ++ past ∷ [])
  leads_more m [] past leads step = (step_for (m + 0) m past (omega arith) step, tt)
  leads_more m (p ∷ ps) past leads step =
      (leads.0, leads_more (suc m) ps past leads.1 (step_for (m + length (p ∷ ps)) (suc m + length ps) past (omega arith) step))

  -- without the newest step, and what that is
  pub leads_less : (m : ℕ) (steps : List Past) (past : Past) → LeadsBack range at m (steps ++ past ∷ []) → LeadsBack range at m steps × IsStep range at (m + length steps) past
  leads_less m [] past leads = (tt, step_for m (m + 0) past (omega arith) leads.0)
  leads_less m (p ∷ ps) past leads =
      let less = leads_less (suc m) ps past leads.1 in
      ((leads.0, less.0), step_for (suc m + length ps) (m + length (p ∷ ps)) past (omega arith) less.1)

  -- without the newest ones, and those
  pub leads_front : (m k : ℕ) (steps : List Past) → LeadsBack range at m steps → LeadsBack range at m (take k steps)
  leads_front m zero steps leads = tt
  leads_front m (suc k) [] leads = tt
  leads_front m (suc k) (p ∷ ps) leads = (leads.0, leads_front (suc m) k ps leads.1)

  pub leads_newest : (m k : ℕ) (steps : List Past) → LeadsBack range at m steps → k ≤ length steps → LeadsBack range at (m + k) (drop k steps)
  leads_newest m zero steps leads within = subst (λ (n : ℕ). LeadsBack range at n steps) (omega arith) leads
  leads_newest m (suc k) [] leads within = absurd (omega (arith, within))
  leads_newest m (suc k) (p ∷ ps) leads within =
      subst (λ (n : ℕ). LeadsBack range at n (drop k ps)) (omega arith) (leads_newest (suc m) k ps leads.1 (omega (arith, within)))

  -- all of them lead back, and what they name exists
  pub leads_all : (m : ℕ) (steps : List Past) → LeadsBack range at m steps → all_undone range steps (at (m + length steps)) ≡ at m
  leads_all m [] leads = ap at (omega arith)
  leads_all m (p ∷ ps) leads =
      let end : m + length (p ∷ ps) ≡ suc m + length ps = omega arith in
      ap (λ (n : ℕ). undone range p (all_undone range ps (at n))) end ∙ ap (undone range p) (leads_all (suc m) ps leads.1) ∙ leads.0.back

  pub leads_restorable : (m : ℕ) (steps : List Past) → LeadsBack range at m steps → All IsRestorable steps
  leads_restorable m [] leads = All-nil IsRestorable
  leads_restorable m (p ∷ ps) leads = All-cons IsRestorable p ps leads.0.restorable (leads_restorable (suc m) ps leads.1)

  -- all steps are from their first number on
  pub from_all : (m n : ℕ) (steps : List Past) → LeadsBack range at m steps → n ≤ m → from_number n steps ≡ steps
  from_all m n [] leads from = refl
  from_all m n (p ∷ ps) leads from =
      let number : p.number ≡ m = leads.0.number in
      from_here n p ps (omega arith) ∙ ap (λ (later : List Past). p ∷ later) (from_all (suc m) n ps leads.1 (omega arith))

  -- none is from the number behind the newest on
  pub from_none : (m n : ℕ) (steps : List Past) → LeadsBack range at m steps → m + length steps ≤ n → from_number n steps ≡ []
  from_none m n [] leads beyond = refl
  from_none m n (p ∷ ps) leads beyond =
      let number : p.number ≡ m = leads.0.number in
      from_later n p ps (omega arith) ∙ from_none (suc m) n ps leads.1 (omega arith)

  -- the steps from a number on lead back to it
  pub leads_from : (m n : ℕ) (steps : List Past) → LeadsBack range at m steps → m ≤ n → LeadsBack range at n (from_number n steps)
  leads_from m n [] leads from = tt
  leads_from m n (p ∷ ps) leads from =
      let number : p.number ≡ m = leads.0.number in
      elim (cases_lt m n) [
        | inl later ↦ subst (λ (steps : List Past). LeadsBack range at n steps) (sym (from_later n p ps (omega arith))) (leads_from (suc m) n ps leads.1 later)
        | inr here ↦
            let same : m ≡ n = omega arith in
            subst (λ (steps : List Past). LeadsBack range at n steps) (sym (from_all m n (p ∷ ps) leads here))
            (subst (λ (k : ℕ). LeadsBack range at k (p ∷ ps)) same leads)
      ]

  -- how many they are
  pub length_from : (m n : ℕ) (steps : List Past) → LeadsBack range at m steps → m ≤ n → length (from_number n steps) ≡ (m + length steps) - n
  length_from m n [] leads from = omega arith
  length_from m n (p ∷ ps) leads from =
      let number : p.number ≡ m = leads.0.number in
      elim (cases_lt m n) [
        | inl later ↦ ap (λ (steps : List Past). length steps) (from_later n p ps (omega arith)) ∙ (length_from (suc m) n ps leads.1 later ∙ omega arith)
        | inr here ↦ ap (λ (steps : List Past). length steps) (from_all m n (p ∷ ps) leads here) ∙ omega arith
      ]

  -- they are what is left without the oldest, which are as many as the number is further on
  pub drop_from : (m n : ℕ) (steps : List Past) → LeadsBack range at m steps → m ≤ n → drop (n - m) steps ≡ from_number n steps
  drop_from m n [] leads from = drop_all (n - m) [] (omega arith)
  drop_from m n (p ∷ ps) leads from =
      let number : p.number ≡ m = leads.0.number in
      elim (cases_lt m n) [
        | inl later ↦
            let more : n - m ≡ suc (n - suc m) = omega arith in
            ap (λ k. drop k (p ∷ ps)) more ∙ drop_from (suc m) n ps leads.1 later ∙ sym (from_later n p ps (omega arith))
        | inr here ↦
            let none : n - m ≡ 0 = omega arith in
            ap (λ k. drop k (p ∷ ps)) none ∙ sym (from_all m n (p ∷ ps) leads here)
      ]

-- what an undo step gives doesn't depend on the pc behind the instruction
undone_pc : (range : RamRange) (past : Past) (a : Arch) (x : ℕ) → undone range past (record a { pc = x }) ≡ undone range past a
unfolding undone
undone_pc range past a x = refl

-- along another path, the same below its end
module _ (range : RamRange) (at along : ℕ → Arch) (end : ℕ) (below : (k : ℕ) → k < end → along k ≡ at k) where
  module _ (last : (past : Past) → undone range past (along end) ≡ undone range past (at end)) where
    undone_alike : (k : ℕ) (past : Past) → k ≤ end → undone range past (along k) ≡ undone range past (at k)
    undone_alike k past within = elim (cases_lt k end) [
      | inl under ↦ ap (λ (a : Arch). undone range past a) (below k under)
      | inr from ↦
          let same : end ≡ k = omega arith in
          subst (λ (j : ℕ). undone range past (along j) ≡ undone range past (at j)) same (last past)
    ]

    leads_alike : (m : ℕ) (steps : List Past) → m + length steps ≡ end → LeadsBack range at m steps → LeadsBack range along m steps
    leads_alike m [] ends leads = tt
    leads_alike m (p ∷ ps) ends leads =
        let step : IsStep range along m p = record {
          number = leads.0.number;
          back = undone_alike (suc m) p (omega arith) ∙ leads.0.back ∙ sym (below m (omega arith));
          restorable = leads.0.restorable;
        } in
        (step, leads_alike (suc m) ps (omega arith) leads.1)

  -- whose end has another pc
  pub leads_along : (x : ℕ) → along end ≡ record (at end) { pc = x } → (m : ℕ) (steps : List Past) → m + length steps ≡ end → LeadsBack range at m steps →
      LeadsBack range along m steps
  leads_along x bent m steps ends leads =
      leads_alike (λ past. ap (λ (a : Arch). undone range past a) bent ∙ undone_pc range past (at end) x) m steps ends leads
