-- What is kept of counters and targets.
use Rattle.std.proofs.Common.{◌≡◌, ◌≢◌, ℕ, ◌<◌, ◌/◌, ◌%◌, ◌==◌, if◌then◌else◌, true, List, length, set, slice_get, Some, ◌⊎◌, inl, inr, refl, sym, ap, ◌∙◌, arith}
use Rattle.std.proofs.lemmas.Bool.{cases_eq}
use Rattle.std.proofs.lemmas.Option.{gets, slice_get_within}
use Rattle.std.proofs.lemmas.Grind.{common_steps}
use Rattle.fsim_base.specs.declared.instruction.Flow.{Flow}
use Rattle.fsim_base.specs.declared.instruction.Flow.TheVariants.{Plain, Branch, Jump}
use Rattle.branch_predictor.specs.declared.params.PredKind.{PredKind}
use Rattle.branch_predictor.specs.declared.params.PredKind.TheVariants.{Static, Bimodal, Gshare}
use Rattle.branch_predictor.specs.declared.params.PredParams.{PredParams}
use Rattle.branch_predictor.specs.declared.params.Target.{Target}
use Rattle.branch_predictor.specs.Predictor.{Predicting, untrained, followed, placed}
use Rattle.branch_predictor.specs.PredictorStandsFor.{counter_kept, known_at}

-- a predictor that isn't static keeps its counters
pub counter_kept-all : (kind : PredKind) (counter : ℕ) → kind ≢ Static → counter_kept kind counter ≡ counter
counter_kept-all Static counter apart = absurd (apart refl)
counter_kept-all Bimodal counter apart = refl
counter_kept-all Gshare counter apart = refl

pub counter_kept-untrained : (kind : PredKind) → counter_kept kind 1 ≡ 1
counter_kept-untrained Static = refl
counter_kept-untrained Bimodal = refl
counter_kept-untrained Gshare = refl

-- what is placed leads to its target
pub followed-taken : (flow : Flow) (next behind : ℕ) → flow ≢ Plain → followed flow true next behind ≡ next
followed-taken Plain next behind apart = absurd (apart refl)
followed-taken Branch next behind apart = refl
followed-taken Jump next behind apart = refl

-- no place knows anything before
pub known_at-untrained : (p : PredParams) (i : ℕ) → known_at p untrained i ≡ record { addr = 0; flow = Plain; next = 4 }
known_at-untrained p i = grind (arith, common_steps)

-- what the places know once a target was placed
pub known_at-placed : (p : PredParams) (target : Target) (s : Predicting) (i : ℕ) → p.targets ≢ 0 → known_at p (placed p target s) i ≡ (if i == target.addr / 4 % p.targets then target else known_at p s i)
known_at-placed p target s i some = grind (arith, common_steps)

-- the item at an index that was set, and at any other
set_same : {X : Type 0} (xs : List X) (index : ℕ) (x : X) → index < length xs → slice_get (set xs index x) index ≡ Some x
set_same xs index x within = grind (arith, common_steps, gets)

set_other : {X : Type 0} (xs : List X) (index i : ℕ) (x : X) → i < length xs → i ≢ index → slice_get (set xs index x) i ≡ slice_get xs i
set_other xs index i x within apart = grind (arith, common_steps, gets)

-- the cases below: whether the index is that of the target
placed_by : {X : Type 0} (of : Target → X) (p : PredParams) (target : Target) (s : Predicting) (xs : List X) (index i : ℕ) (x : X) → p.targets ≢ 0 → index ≡ target.addr / 4 % p.targets → index < length xs → x ≡ of target → slice_get xs i ≡ Some (of (known_at p s i)) → (i ≡ index) ⊎ (i ≢ index) → slice_get (set xs index x) i ≡ Some (of (known_at p (placed p target s) i))
placed_by of p target s xs index i x some place within is stood (inl at) =
    let known : known_at p (placed p target s) i ≡ target = grind (arith, known_at-placed p target s i some) in
    rw at (set_same xs index x within) ∙ ap Some is ∙ ap (λ t. Some (of t)) (sym known)
placed_by of p target s xs index i x some place within is stood (inr apart) =
    let known : known_at p (placed p target s) i ≡ known_at p s i = grind (arith, known_at-placed p target s i some) in
    set_other xs index i x (slice_get_within xs i _ stood) apart ∙ stood ∙ ap (λ t. Some (of t)) (sym known)

-- a vector that keeps something of what each place knows, once a target was placed
pub kept-placed : {X : Type 0} (of : Target → X) (p : PredParams) (target : Target) (s : Predicting) (xs : List X) (index i : ℕ) (x : X) → p.targets ≢ 0 → index ≡ target.addr / 4 % p.targets → index < length xs → x ≡ of target → slice_get xs i ≡ Some (of (known_at p s i)) → slice_get (set xs index x) i ≡ Some (of (known_at p (placed p target s) i))
kept-placed of p target s xs index i x some place within is stood =
    placed_by of p target s xs index i x some place within is stood (cases_eq i index)
