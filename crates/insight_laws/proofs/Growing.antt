-- What the cycles of a run did, one after another.
use Rattle.std.proofs.Common.{◌≡◌, ◌∙◌, ℕ, zero, suc, ◌+◌, ◌<◌, ◌≤◌, Bool, true, false, List, [], ◌∷◌, ◌++◌, refl, sym, ap, arith}
use Rattle.mono_model.specs.declared.setup.Setup.{Setup}
use Rattle.mono_model.specs.Final.{has_ended}
use Rattle.mono_model.specs.Machine.{Machine}
use Rattle.mono_model.specs.Cycle.{mono, cycled}
use Rattle.inorder_machine.specs.InorderMachine.{InorderMachine}
use Rattle.inorder_machine.specs.Cycle.{inorder, inorder_cycled}
use Rattle.insight_model.specs.declared.pipeline.Pipeline.TheVariants.{Window, Inorder}
use Rattle.insight_model.specs.Sight.{Sight}
use Rattle.insight_model.specs.OfState.{sight, sights_from, inorder_sight, inorder_sights_from, sights}
use Rattle.insight_model.specs.Facts.{Facts, facts, facts_between}

-- so many cycles from one on
abbrev pub facts_from : (ℕ → Sight) → ℕ → ℕ → List Facts
facts_from seen n zero = []
facts_from seen n (suc count) = facts (seen n) (seen (suc n)) ∷ facts_from seen (suc n) count

pub one_more : (seen : ℕ → Sight) (count n next : ℕ) → next ≡ n + count → facts_from seen n (suc count) ≡ facts_from seen n count ++ facts (seen next) (seen (suc next)) ∷ []
one_more seen zero n next same =
    let here : n ≡ next = omega (arith, same) in
    ap (λ (k : ℕ). facts (seen k) (seen (suc k)) ∷ []) here
one_more seen (suc count) n next same = ap (λ (rest : List Facts). facts (seen n) (seen (suc n)) ∷ rest) (one_more seen count (suc n) next (omega (arith, same)))

-- None of so many cycles from one on began after the end of the run, and with the last of them it has ended, or no more
-- are told.
pub record Lasts (ended : ℕ → Bool) (n count most : ℕ) : Type 0 where
  pub before : (k : ℕ) → n ≤ k → k < n + count → ended k ≡ false
  pub within : count ≤ most
  pub last : count < most → ended (n + count) ≡ true

lasts_next : (ended : ℕ → Bool) (n count most : ℕ) → Lasts ended n (suc count) (suc most) → Lasts ended (suc n) count most
lasts_next ended n count most lasts = record {
  before = λ k from below. lasts.before k (omega (arith, from)) (omega (arith, below));
  within = omega (arith, lasts.within);
  last = λ less. let same : n + suc count ≡ suc n + count = omega arith in ap ended (sym same) ∙ lasts.last (omega (arith, less));
}

-- Of the monolithic machine.
window_head : (s : Setup) (x : Sight) (most : ℕ) (m : Machine) → facts_between (x ∷ sights_from s most m) ≡ facts x (sight m) ∷ facts_between (sights_from s most m)
unfolding sights_from facts_between
window_head s x zero m = refl
window_head s x (suc most) m = refl

window_on : (s : Setup) (most n : ℕ) (b : Bool) → b ≡ false → facts_between (sight (mono s n) ∷ elim b [ true ↦ [] | false ↦ sights_from s most (cycled s (mono s n)) ])
    ≡ facts (sight (mono s n)) (sight (cycled s (mono s n))) ∷ facts_between (sights_from s most (cycled s (mono s n)))
window_on s most n true is = cc
window_on s most n false is = window_head s (sight (mono s n)) most (cycled s (mono s n))

window_off : (s : Setup) (most n : ℕ) (b : Bool) → b ≡ true → facts_between (sight (mono s n) ∷ elim b [ true ↦ [] | false ↦ sights_from s most (cycled s (mono s n)) ]) ≡ []
unfolding facts_between
window_off s most n true is = refl
window_off s most n false is = cc

window_facts : (s : Setup) (most count n : ℕ) → Lasts (λ k. has_ended (mono s k).end) n count most → facts_between (sights_from s most (mono s n)) ≡ facts_from (λ k. sight (mono s k)) n count
unfolding sights_from facts_between mono
window_facts s zero zero n lasts = refl
window_facts s zero (suc count) n lasts = absurd (omega (arith, lasts.within))
window_facts s (suc most) zero n lasts =
    let same : n ≡ n + 0 = omega arith in
    window_off s most n (has_ended (mono s n).end) (ap (λ (k : ℕ). has_ended (mono s k).end) same ∙ lasts.last (omega arith))
window_facts s (suc most) (suc count) n lasts =
    window_on s most n (has_ended (mono s n).end) (lasts.before n (omega arith) (omega arith))
    ∙ ap (λ (rest : List Facts). facts (sight (mono s n)) (sight (cycled s (mono s n))) ∷ rest)
    (window_facts s most count (suc n) (lasts_next (λ k. has_ended (mono s k).end) n count most lasts))

pub window_told : (s : Setup) (most count : ℕ) → Lasts (λ k. has_ended (mono s k).end) 0 count most → facts_between (sights Window s most) ≡ facts_from (λ k. sight (mono s k)) 0 count
unfolding sights mono
window_told s most count lasts = window_facts s most count 0 lasts

-- Of the in-order machine.
inorder_head : (s : Setup) (x : Sight) (most : ℕ) (l : InorderMachine) → facts_between (x ∷ inorder_sights_from s most l) ≡ facts x (inorder_sight l) ∷ facts_between (inorder_sights_from s most l)
unfolding inorder_sights_from facts_between
inorder_head s x zero l = refl
inorder_head s x (suc most) l = refl

inorder_on : (s : Setup) (most n : ℕ) (b : Bool) → b ≡ false → facts_between (inorder_sight (inorder s n) ∷ elim b [ true ↦ [] | false ↦ inorder_sights_from s most (inorder_cycled s (inorder s n)) ])
    ≡ facts (inorder_sight (inorder s n)) (inorder_sight (inorder_cycled s (inorder s n))) ∷ facts_between (inorder_sights_from s most (inorder_cycled s (inorder s n)))
inorder_on s most n true is = cc
inorder_on s most n false is = inorder_head s (inorder_sight (inorder s n)) most (inorder_cycled s (inorder s n))

inorder_off : (s : Setup) (most n : ℕ) (b : Bool) → b ≡ true → facts_between (inorder_sight (inorder s n) ∷ elim b [ true ↦ [] | false ↦ inorder_sights_from s most (inorder_cycled s (inorder s n)) ]) ≡ []
unfolding facts_between
inorder_off s most n true is = refl
inorder_off s most n false is = cc

inorder_facts : (s : Setup) (most count n : ℕ) → Lasts (λ k. has_ended (inorder s k).machine.end) n count most →
    facts_between (inorder_sights_from s most (inorder s n)) ≡ facts_from (λ k. inorder_sight (inorder s k)) n count
unfolding inorder_sights_from facts_between inorder
inorder_facts s zero zero n lasts = refl
inorder_facts s zero (suc count) n lasts = absurd (omega (arith, lasts.within))
inorder_facts s (suc most) zero n lasts =
    let same : n ≡ n + 0 = omega arith in
    inorder_off s most n (has_ended (inorder s n).machine.end) (ap (λ (k : ℕ). has_ended (inorder s k).machine.end) same ∙ lasts.last (omega arith))
inorder_facts s (suc most) (suc count) n lasts =
    inorder_on s most n (has_ended (inorder s n).machine.end) (lasts.before n (omega arith) (omega arith))
    ∙ ap (λ (rest : List Facts). facts (inorder_sight (inorder s n)) (inorder_sight (inorder_cycled s (inorder s n))) ∷ rest)
    (inorder_facts s most count (suc n) (lasts_next (λ k. has_ended (inorder s k).machine.end) n count most lasts))

pub inorder_told : (s : Setup) (most count : ℕ) → Lasts (λ k. has_ended (inorder s k).machine.end) 0 count most → facts_between (sights Inorder s most) ≡ facts_from (λ k. inorder_sight (inorder s k)) 0 count
unfolding sights inorder
inorder_told s most count lasts = inorder_facts s most count 0 lasts
