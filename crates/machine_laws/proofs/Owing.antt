-- At each place at most the opening behind a Commit isn't told yet; where the run has halted nothing is, and it stands still.
use Rattle.std.proofs.Common.{◌≡◌, ℕ, suc, ◌-◌, Bool, true, false, length, refl, ap, sym, ◌∙◌, subst, arith}
use Rattle.mono_model.specs.declared.setup.Setup.{Setup}
use Rattle.mono_model.specs.Demand.{Demand, At, interrupting, committing, completing, issuing, trying, ending, stopping, halted, run_at, turn, Place, step, place}
use Rattle.mono_model.specs.Split.{is_halted}
use Rattle.machine_laws.proofs.Always.{at_each_place}
use Rattle.mono_model.proofs.Next.{place-suc}
use Rattle.machine_laws.proofs.SplitSteps.{Owes, owes_none, owes_one, step_stepped}

halted_is : (at : At) → is_halted at ≡ true → at ≡ halted
halted_is interrupting over = cc
halted_is committing over = cc
halted_is completing over = cc
halted_is issuing over = cc
halted_is (trying more) over = cc
halted_is ending over = cc
halted_is stopping over = cc
halted_is halted over = refl

place_with : Demand → At → ℕ → Place
place_with d at owed = record { run = run_at d at; owed = owed }

pub still_step : (s : Setup) (p : Place) → is_halted p.run.at ≡ true → p.owed ≡ 0 → step s p ≡ p
unfolding step turn place_with
still_step s p over all =
    let d : Demand = p.run.demand in
    let here : p ≡ place_with d halted 0 = ap (λ (at : At). place_with d at p.owed) (halted_is p.run.at over) ∙ ap (place_with d halted) all in
    let none : length d.orders - length d.orders - 1 ≡ 0 = omega arith in
    ap (step s) here ∙ ap (place_with d halted) none ∙ sym here

pub halted_owes : (p : Place) → is_halted p.run.at ≡ true → Owes p → p.owed ≡ 0
halted_owes p over (owes_none all) = all
halted_owes p over (owes_one all m o os is opening on) = cc

step_owes : (s : Setup) (p : Place) → Owes p → Owes (step s p)
step_owes s p owes = by_test (is_halted p.run.at) refl
  where
    by_test : (b : Bool) → is_halted p.run.at ≡ b → Owes (step s p)
    by_test true over = subst Owes (sym (still_step s p over (halted_owes p over owes))) owes
    by_test false on = (step_stepped s p on owes).owes

pub place_owes : (s : Setup) (k : ℕ) → Owes (place s k)
place_owes s = at_each_place s (λ k p. Unit {0}) (λ k p. Owes p) (λ k. tt) (owes_none refl) (λ k p here there owes. step_owes s p owes)

-- where it has halted all is told
pub halted_told : (s : Setup) (k : ℕ) → is_halted (place s k).run.at ≡ true → (place s k).owed ≡ 0
halted_told s k over = halted_owes (place s k) over (place_owes s k)

pub halted_stays : (s : Setup) (k : ℕ) → is_halted (place s k).run.at ≡ true → place s (suc k) ≡ place s k
halted_stays s k over = place-suc s k ∙ still_step s (place s k) over (halted_told s k over)
