-- At each place at most the opening behind a Commit isn't told yet; where the run has halted nothing is, and it stands still.
use Rattle.std.proofs.Common.{◌≡◌, ℕ, zero, suc, ◌+◌, ◌-◌, Bool, true, false, Option, length, refl, ap, sym, ◌∙◌, subst, arith}
use Rattle.mono_model.specs.declared.setup.Setup.{Setup}
use Rattle.mono_model.specs.Demand.{Demand}
use Rattle.mono_model.specs.Split.{is_halted}
use Rattle.machine_laws.proofs.SplitSteps.{Owes, owes_none, owes_one, Stepped}
use Rattle.inorder_machine.specs.Demand.{InorderAt, interrupting, writing, accessing, executing, issuing, trying, ending, stopping, halted, inorder_run_at, inorder_turn, InorderPlace, inorder_step, inorder_place, seen_at, seen_of, seen}
use Rattle.inorder_laws.proofs.Stepping.{step_stepped}

pub inorder_place_suc : (s : Setup) (k : ℕ) → inorder_place s (suc k) ≡ inorder_step s (inorder_place s k)
unfolding inorder_place
inorder_place_suc s k = refl

halted_is : (at : InorderAt) → is_halted (seen_at at) ≡ true → at ≡ halted
halted_is interrupting over = cc
halted_is writing over = cc
halted_is accessing over = cc
halted_is executing over = cc
halted_is issuing over = cc
halted_is trying over = cc
halted_is ending over = cc
halted_is stopping over = cc
halted_is halted over = refl

place_with : Demand → Option ℕ → InorderAt → ℕ → InorderPlace
place_with d memory at owed = record { run = inorder_run_at d memory at; owed = owed }

still_step : (s : Setup) (p : InorderPlace) → is_halted (seen_at p.run.at) ≡ true → p.owed ≡ 0 → inorder_step s p ≡ p
unfolding inorder_step inorder_turn place_with
still_step s p over all =
    let d : Demand = p.run.demand in
    let here : p ≡ place_with d p.run.memory halted 0 = ap (λ (at : InorderAt). place_with d p.run.memory at p.owed) (halted_is p.run.at over) ∙ ap (place_with d p.run.memory halted) all in
    let none : length d.orders - length d.orders - 1 ≡ 0 = omega arith in
    ap (inorder_step s) here ∙ ap (place_with d p.run.memory halted) none ∙ sym here

halted_owes : (p : InorderPlace) → is_halted (seen_at p.run.at) ≡ true → Owes (seen_of p) → p.owed ≡ 0
halted_owes p over (owes_none all) = all
halted_owes p over (owes_one all m o os is opening on) = cc

step_owes : (s : Setup) (p : InorderPlace) → Owes (seen_of p) → Owes (seen_of (inorder_step s p))
step_owes s p owes = by_test (is_halted (seen_at p.run.at)) refl
  where
    by_test : (b : Bool) → is_halted (seen_at p.run.at) ≡ b → Owes (seen_of (inorder_step s p))
    by_test true over = subst (λ (q : InorderPlace). Owes (seen_of q)) (sym (still_step s p over (halted_owes p over owes))) owes
    by_test false on = (step_stepped s p on owes).owes

pub place_owes : (s : Setup) (k : ℕ) → Owes (seen s k)
unfolding inorder_place
place_owes s zero = owes_none refl
place_owes s (suc k) = step_owes s (inorder_place s k) (place_owes s k)

-- what a step makes
pub place_stepped : (s : Setup) (k : ℕ) → is_halted (seen s k).run.at ≡ false → Stepped (seen s k) (seen s (suc k))
unfolding inorder_place
place_stepped s k on = step_stepped s (inorder_place s k) on (place_owes s k)

-- where it has halted all is told
pub halted_told : (s : Setup) (k : ℕ) → is_halted (seen s k).run.at ≡ true → (inorder_place s k).owed ≡ 0
halted_told s k over = halted_owes (inorder_place s k) over (place_owes s k)

-- and it stands still
pub halted_stays : (s : Setup) (k : ℕ) → is_halted (seen s k).run.at ≡ true → inorder_place s (suc k) ≡ inorder_place s k
halted_stays s k over = inorder_place_suc s k ∙ still_step s (inorder_place s k) over (halted_told s k over)

-- from there on
pub still_places : (s : Setup) (k j : ℕ) → is_halted (seen s k).run.at ≡ true → inorder_place s (j + k) ≡ inorder_place s k
still_places s k zero over = ap (inorder_place s) (omega arith)
still_places s k (suc j) over =
    let e : suc j + k ≡ suc (j + k) = omega arith in
    ap (inorder_place s) e ∙ inorder_place_suc s (j + k) ∙ ap (inorder_step s) (still_places s k j over) ∙ still_step s (inorder_place s k) over (halted_told s k over)
