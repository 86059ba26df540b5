-- Counts by kinds add up to the whole where each element is of one kind.
use Rattle.std.proofs.Common.{◌≡◌, ℕ, ◌+◌, Bool, if◌then◌else◌, List, [], ◌∷◌, length, refl, arith}
use Rattle.std.specs.Prelude.{sum_by, count_by}
use Rattle.std.proofs.lemmas.List.Sums.{sum_by-cons}
use Rattle.mono_model.specs.declared.params.Params.{Params}
use Rattle.insight_model.specs.declared.pipeline.Pipeline.{Pipeline}
use Rattle.insight_model.specs.declared.cycle_cause.CycleCause.{CycleCause}
use Rattle.insight_model.specs.declared.cycle_cause.CycleCause.TheVariants as cause
use Rattle.insight_model.specs.declared.fetch_end.FetchEnd.{FetchEnd}
use Rattle.insight_model.specs.declared.fetch_end.FetchEnd.TheVariants as fetch
use Rattle.insight_model.specs.Cause.{causes, is_cause}
use Rattle.insight_model.specs.Cycles.{Cycle}
use Rattle.insight_model.specs.Fetch.{fetch_end, fetch_ends, is_fetch_end}
use Rattle.insight_model.specs.Stack.{head_count, fetch_count}

pub sum_by_nothing : {X : Type 0} (xs : List X) → sum_by (λ x. 0) xs ≡ 0
sum_by_nothing [] = refl
sum_by_nothing (x ∷ xs) = omega (arith, sum_by-cons (λ y. 0) x xs, sum_by_nothing xs)

pub sum_by_added : {X : Type 0} (f g h : X → ℕ) → ((x : X) → h x ≡ f x + g x) → (xs : List X) → sum_by h xs ≡ sum_by f xs + sum_by g xs
sum_by_added f g h each [] = refl
sum_by_added f g h each (x ∷ xs) =
    omega (arith, sum_by-cons f x xs, sum_by-cons g x xs, sum_by-cons h x xs, each x, sum_by_added f g h each xs)

-- an element is of one of the kinds: so the counts of all kinds are the number of elements
counts_by_kind : {X K : Type 0} (is : K → X → Bool) (kinds : List K) → ((x : X) → count_by (λ k. is k x) kinds ≡ 1) → (xs : List X) → sum_by (λ k. count_by (λ x. is k x) xs) kinds ≡ length xs
counts_by_kind is kinds one [] = sum_by_nothing kinds
counts_by_kind is kinds one (x ∷ xs) =
    omega (
      arith,
      one x,
      counts_by_kind is kinds one xs,
      sum_by_added (λ k. if is k x then 1 else 0) (λ k. count_by (λ y. is k y) xs) (λ k. count_by (λ y. is k y) (x ∷ xs)) (λ k. sum_by-cons (λ y. if is k y then 1 else 0) x xs) kinds,
    )

one_cause : (c : CycleCause) → count_by (λ k. is_cause k c) causes ≡ 1
one_cause cause.Commit = refl
one_cause cause.Alu = refl
one_cause cause.Mul = refl
one_cause cause.Div = refl
one_cause cause.Load = refl
one_cause cause.Store = refl
one_cause cause.Device = refl
one_cause cause.Serial = refl
one_cause cause.Operand = refl
one_cause cause.Dcache = refl
one_cause cause.Icache = refl
one_cause cause.Window = refl
one_cause cause.Stations = refl
one_cause cause.Mispredict = refl
one_cause cause.Trap = refl
one_cause cause.Interrupt = refl
one_cause cause.Replay = refl
one_cause cause.Fence = refl
one_cause cause.Start = refl

one_fetch_end : (e : FetchEnd) → count_by (λ k. is_fetch_end k e) fetch_ends ≡ 1
one_fetch_end fetch.Width = refl
one_fetch_end fetch.Taken = refl
one_fetch_end fetch.Window = refl
one_fetch_end fetch.Stations = refl
one_fetch_end fetch.Icache = refl
one_fetch_end fetch.Ended = refl

pub heads_add_up : (run : List Cycle) → sum_by (head_count run) causes ≡ length run
heads_add_up run = counts_by_kind (λ k (c : Cycle). is_cause k c.head.cause) causes (λ c. one_cause c.head.cause) run

pub fetch_ends_add_up : (pipeline : Pipeline) (p : Params) (run : List Cycle) → sum_by (fetch_count pipeline p run) fetch_ends ≡ length run
fetch_ends_add_up pipeline p run =
    counts_by_kind (λ k (c : Cycle). is_fetch_end k (fetch_end pipeline p c.facts)) fetch_ends (λ c. one_fetch_end (fetch_end pipeline p c.facts)) run
