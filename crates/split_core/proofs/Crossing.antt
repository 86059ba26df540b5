-- From the start of a cycle along the places of a demand run to the start of the next.
use Rattle.std.proofs.Common.{◌≡◌, ℕ, zero, suc, ◌+◌, ◌<◌, ◌≤◌, ◌&&◌, ◌==◌, ◌⊎◌, inl, inr, not, Bool, true, false, refl, ap, sym, ◌∙◌, subst, arith}
use Rattle.std.proofs.lemmas.Bool.{and_parts, cases_lt}
use Rattle.mono_model.specs.Demand.{Place}
use Rattle.mono_model.specs.Split.{is_cycle_start, is_place_boundary}
use Rattle.machine_laws.specs.DemandRun.{DemandRun}
use Rattle.split_core.specs.InCycle.{Closed, Open}
use Rattle.split_core.specs.Cycles.{Cycles, IsStepInside, IsNextStart, StartsCycle, ends_place, is_inside}

never_start : (b : Bool) → not b ≡ true → b ≡ true → ⊥
never_start true inside start = let e : false ≡ true = inside in cc
never_start false inside start = let e : false ≡ true = start in cc

-- no place within a cycle is a boundary
pub never_both : (p : Place) → is_inside p ≡ true → is_place_boundary p ≡ true → ⊥
never_both p inside boundary = never_start (is_cycle_start p.run.at) inside (and_parts (p.owed == 0) (is_cycle_start p.run.at) boundary).1

abbrev SameCycle : DemandRun → ℕ → ℕ → Type 0
SameCycle r j k = (r.places j).run.demand.machine.cycle ≡ (r.places k).run.demand.machine.cycle

module _ (r : DemandRun) (law : Cycles r) (from : ℕ) (starts : StartsCycle (r.places from)) where
  step_in : (k : ℕ) → from ≤ k → Closed r from k → ends_place (r.places k) ≡ false → IsStepInside (r.places k) (r.places (suc k))
  step_in k later closed inner = by (cases_lt from k)
    where
      by : (from < k) ⊎ (k ≤ from) → IsStepInside (r.places k) (r.places (suc k))
      by (inl less) = law.stays k (closed k less (omega arith)) inner
      by (inr most) =
          let same : from ≡ k = omega (arith, later, most) in
          subst (λ (n : ℕ). IsStepInside (r.places n) (r.places (suc n))) same (law.begins from starts)

  pub closed_on : (k : ℕ) → from ≤ k → Closed r from k → ends_place (r.places k) ≡ false → Closed r from (suc k)
  closed_on k later closed inner j above within = by (cases_lt k j)
    where
      by : (k < j) ⊎ (j ≤ k) → is_inside (r.places j) ≡ true
      by (inl more) =
          let same : suc k ≡ j = omega (arith, more, within) in
          subst (λ (n : ℕ). is_inside (r.places n) ≡ true) same (step_in k later closed inner).inside
      by (inr most) = closed j above most

  pub open_on : (k : ℕ) → Closed r from k → Open r from (suc k)
  open_on k closed j above below = closed j above (omega (arith, below))

  -- where all but the last are within the cycle, and that is no boundary, it is within it too
  pub closed_by : (k : ℕ) → from < k → Open r from k → is_place_boundary (r.places k) ≡ false → Closed r from k
  closed_by zero above between off = absurd (omega (arith, above))
  closed_by (suc k) above between off = by (ends_place (r.places k)) refl
    where
      front : Closed r from k
      front j over within = between j over (omega (arith, within))

      by : (b : Bool) → ends_place (r.places k) ≡ b → Closed r from (suc k)
      by true is = let out : is_place_boundary (r.places (suc k)) ≡ true = (law.ends k is).boundary in let e : true ≡ false = sym out ∙ off in cc
      by false is = closed_on k (omega (arith, above)) front is

  same_cycle : (k : ℕ) → from ≤ k → Closed r from k → SameCycle r k from
  same_cycle zero later closed = let same : from ≡ zero = omega (arith, later) in ap (λ (n : ℕ). (r.places n).run.demand.machine.cycle) (sym same)
  same_cycle (suc k) later closed = by (cases_lt k from) (same_cycle k)
    where
      by_end : (b : Bool) → ends_place (r.places k) ≡ b → from ≤ k → (from ≤ k → Closed r from k → SameCycle r k from) → SameCycle r (suc k) from
      by_end true is before behind =
          absurd (never_both (r.places (suc k)) (closed (suc k) (omega (arith, before)) (omega arith)) (law.ends k is).boundary)
      by_end false is before behind =
          let front : Closed r from k = λ j over within. closed j over (omega (arith, within)) in
          (step_in k before front is).cycle ∙ behind before front

      by : (k < from) ⊎ (from ≤ k) → (from ≤ k → Closed r from k → SameCycle r k from) → SameCycle r (suc k) from
      by (inl more) behind = let same : from ≡ suc k = omega (arith, more, later) in ap (λ (n : ℕ). (r.places n).run.demand.machine.cycle) (sym same)
      by (inr before) behind = by_end (ends_place (r.places k)) refl before behind

  -- the last step before the next boundary leads out of the cycle
  last_out : (k : ℕ) → from ≤ k → Open r from (suc k) → is_place_boundary (r.places (suc k)) ≡ true → IsNextStart (r.places k) (r.places (suc k))
  last_out k later between on = by (ends_place (r.places k)) refl
    where
      front : Closed r from k
      front j over within = between j over (omega (arith, within))

      by : (b : Bool) → ends_place (r.places k) ≡ b → IsNextStart (r.places k) (r.places (suc k))
      by true is = law.ends k is
      by false is = absurd (never_both (r.places (suc k)) (closed_on k later front is (suc k) (omega (arith, later)) (omega arith)) on)

  -- at the next boundary the cycle is the next
  pub crossing : (k : ℕ) → from < k → Open r from k → is_place_boundary (r.places k) ≡ true → IsNextStart (r.places from) (r.places k)
  crossing zero above between on = absurd (omega (arith, above))
  crossing (suc k) above between on =
      let out = last_out k (omega (arith, above)) between on in
      let front : Closed r from k = λ j over within. between j over (omega (arith, within)) in
      record {
        boundary = out.boundary;
        cycle = out.cycle ∙ ap (λ (n : ℕ). n + 1) (same_cycle k (omega (arith, above)) front);
        unstopped = out.unstopped;
      }
