-- As many cycles are told of a run as it has.
use Rattle.std.proofs.Common.{◌≡◌, ◌∙◌, ℕ, zero, suc, ◌+◌, ◌≤◌, Bool, true, false, List, [], ◌∷◌, length, refl, sym, ap, arith, ⊎_elim}
use Rattle.std.proofs.lemmas.Bool.{cases_order, false≢true}
use Rattle.mono_model.specs.declared.params.Params.{Params}
use Rattle.mono_model.specs.declared.setup.Setup.{Setup}
use Rattle.mono_model.specs.Final.{has_ended}
use Rattle.mono_model.specs.Machine.{Machine, machine_start}
use Rattle.mono_model.specs.Cycle.{mono, cycled, final}
use Rattle.machine_laws.specs.FirstEnd.{EndsOnce}
use Rattle.inorder_machine.specs.InorderMachine.{InorderMachine, inorder_start}
use Rattle.inorder_machine.specs.Cycle.{inorder, inorder_cycled, inorder_final}
use Rattle.inorder_laws.specs.FirstEnd.{InorderEndsOnce}
use Rattle.insight_model.specs.declared.pipeline.Pipeline.{Pipeline}
use Rattle.insight_model.specs.declared.pipeline.Pipeline.TheVariants.{Window, Inorder}
use Rattle.insight_model.specs.Sight.{Sight}
use Rattle.insight_model.specs.OfState.{sight, sights_from, inorder_sight, inorder_sights_from, sights}
use Rattle.insight_model.specs.Facts.{Facts, facts_between}
use Rattle.insight_model.specs.Head.{Known}
use Rattle.insight_model.specs.Cycles.{cycles_from, cycles, known_start, known_after}

cycles_length : (pipeline : Pipeline) (p : Params) (known : Known) (run : List Facts) → length (cycles_from pipeline p known run) ≡ length run
unfolding cycles_from
cycles_length pipeline p known [] = refl
cycles_length pipeline p known (f ∷ rest) = omega (arith, cycles_length pipeline p (known_after pipeline p f known) rest)

-- Over a run that ends once, as many cycles are told from a state on as it has left: of the monolithic machine.
window_more : (s : Setup) (x : Sight) (n : ℕ) (m : Machine) → length (facts_between (x ∷ sights_from s n m)) ≡ length (facts_between (sights_from s n m)) + 1
unfolding sights_from facts_between
window_more s x zero m = omega arith
window_more s x (suc n) m = omega arith

window_next : (s : Setup) (c n k : ℕ) → EndsOnce s c → k ≤ c → (suc k ≤ c → length (facts_between (sights_from s n (mono s (suc k)))) + suc k ≡ c) → (b : Bool) → has_ended (mono s k).end ≡ b → length (facts_between (sight (mono s k) ∷ elim b [ true ↦ [] | false ↦ sights_from s n (cycled s (mono s k)) ])) + k ≡ c
unfolding mono facts_between
window_next s c n k ends below further true e =
    ⊎_elim (λ same. omega (arith, same))
    (λ other. ⊎_elim (λ less. absurd (false≢true (sym (ends.first.before k less) ∙ e)))
    (λ beyond. omega (arith, below, beyond)) other) (cases_order k c)
window_next s c n k ends below further false e =
    ⊎_elim (λ same. absurd (false≢true (sym e ∙ ap (λ j. has_ended (mono s j).end) same ∙ ends.first.ended)))
    (λ other. ⊎_elim (λ less. omega (arith, window_more s (sight (mono s k)) n (cycled s (mono s k)), further (omega (arith, less))))
    (λ beyond. omega (arith, below, beyond)) other) (cases_order k c)

window_span : (s : Setup) (c : ℕ) → EndsOnce s c → (n k : ℕ) → k ≤ c → c ≤ n + k → length (facts_between (sights_from s n (mono s k))) + k ≡ c
unfolding sights_from facts_between
window_span s c ends zero k below above = omega (arith, below, above)
window_span s c ends (suc n) k below above =
    window_next s c n k ends below (λ further. window_span s c ends n (suc k) further (omega (arith, above))) (has_ended (mono s k).end) refl

pub window_cycles : (s : Setup) → EndsOnce s (final s s.cycles).stats.cycles → length (cycles Window s s.cycles) ≡ (final s s.cycles).stats.cycles
unfolding cycles sights mono
window_cycles s ends =
    omega (
      arith,
      cycles_length Window s.params (known_start s.image.entry) (facts_between (sights_from s s.cycles (machine_start s))),
      window_span s ((final s s.cycles).stats.cycles) ends s.cycles zero (omega arith) (omega (arith, ends.within)),
    )

-- Over a run that ends once, as many cycles are told from a state on as it has left: of the in-order machine.
inorder_more : (s : Setup) (x : Sight) (n : ℕ) (m : InorderMachine) → length (facts_between (x ∷ inorder_sights_from s n m)) ≡ length (facts_between (inorder_sights_from s n m)) + 1
unfolding inorder_sights_from facts_between
inorder_more s x zero m = omega arith
inorder_more s x (suc n) m = omega arith

inorder_next : (s : Setup) (c n k : ℕ) → InorderEndsOnce s c → k ≤ c → (suc k ≤ c → length (facts_between (inorder_sights_from s n (inorder s (suc k)))) + suc k ≡ c) → (b : Bool) → has_ended (inorder s k).machine.end ≡ b → length (facts_between (inorder_sight (inorder s k) ∷ elim b [ true ↦ [] | false ↦ inorder_sights_from s n (inorder_cycled s (inorder s k)) ])) + k ≡ c
unfolding inorder facts_between
inorder_next s c n k ends below further true e =
    ⊎_elim (λ same. omega (arith, same))
    (λ other. ⊎_elim (λ less. absurd (false≢true (sym (ends.first.before k less) ∙ e)))
    (λ beyond. omega (arith, below, beyond)) other) (cases_order k c)
inorder_next s c n k ends below further false e =
    ⊎_elim (λ same. absurd (false≢true (sym e ∙ ap (λ j. has_ended (inorder s j).machine.end) same ∙ ends.first.ended)))
    (λ other. ⊎_elim (λ less. omega (arith, inorder_more s (inorder_sight (inorder s k)) n (inorder_cycled s (inorder s k)), further (omega (arith, less))))
    (λ beyond. omega (arith, below, beyond)) other) (cases_order k c)

inorder_span : (s : Setup) (c : ℕ) → InorderEndsOnce s c → (n k : ℕ) → k ≤ c → c ≤ n + k → length (facts_between (inorder_sights_from s n (inorder s k))) + k ≡ c
unfolding inorder_sights_from facts_between
inorder_span s c ends zero k below above = omega (arith, below, above)
inorder_span s c ends (suc n) k below above =
    inorder_next s c n k ends below (λ further. inorder_span s c ends n (suc k) further (omega (arith, above))) (has_ended (inorder s k).machine.end) refl

pub inorder_cycles : (s : Setup) → InorderEndsOnce s (inorder_final s s.cycles).stats.cycles → length (cycles Inorder s s.cycles) ≡ (inorder_final s s.cycles).stats.cycles
unfolding cycles sights inorder
inorder_cycles s ends =
    omega (
      arith,
      cycles_length Inorder s.params (known_start s.image.entry) (facts_between (inorder_sights_from s s.cycles (inorder_start s))),
      inorder_span s ((inorder_final s s.cycles).stats.cycles) ends s.cycles zero (omega arith) (omega (arith, ends.within)),
    )
