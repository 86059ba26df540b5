-- What a station misses, once a value is there.
use Rattle.std.proofs.Common.{◌≡◌, ◌≢◌, ℕ, ◌==◌, ◌||◌, ◌&&◌, not, Bool, true, false, is_some, if◌then◌else◌, Option, Some, None, refl, ap, sym, ◌∙◌, inl, inr, arith, eq-eqb}
use Rattle.std.proofs.lemmas.Bool.{cases_eq, ne_eqb, both_ways, or_parts}
use Rattle.std.proofs.lemmas.Bool.Decides.{nat_tests}
use Rattle.reservation_stations.specs.Changes.{without}
use Rattle.reservation_stations.specs.Places.{is_index}
use Rattle.reservation_stations.specs.AreSets.{Missing, nothing, misses_one, misses_both, are_two, awaits, fed, put}

or_true : (b : Bool) → (b || true) ≡ true
or_true true = refl
or_true false = refl

pub or_false : (b : Bool) → (b || false) ≡ b
or_false true = refl
or_false false = refl

and_true : (b : Bool) → (b && true) ≡ b
and_true true = refl
and_true false = refl

and_false : (b : Bool) → (b && false) ≡ false
and_false true = refl
and_false false = refl

regrouped : (was a b here : Bool) → ((was || (a && here)) || (b && here)) ≡ (was || ((a || b) && here))
regrouped true a b here = refl
regrouped false true b true = refl
regrouped false true b false = and_false b
regrouped false false b here = refl

one_fed : (index : ℕ) (a b : Option ℕ) →
    (is_some (without index a) || is_some (without index b)) ≡ ((is_some a || is_some b) && not ((is_index index a || is_index index b) && not (are_two a b)))
one_fed index None None = refl
one_fed index None (Some b) = grind (arith, nat_tests)
one_fed index (Some a) None = grind (arith, nat_tests)
one_fed index (Some a) (Some b) = grind (arith, nat_tests)

both_fed : (index : ℕ) (a b : Option ℕ) → are_two (without index a) (without index b) ≡ (are_two a b && not (is_index index a || is_index index b))
both_fed index None b = refl
both_fed index (Some a) None = grind (arith, nat_tests)
both_fed index (Some a) (Some b) = grind (arith, nat_tests)

is_index-without_same : (index : ℕ) (a : Option ℕ) → is_index index (without index a) ≡ false
is_index-without_same index None = refl
is_index-without_same index (Some a) = grind (arith, nat_tests)

is_index-without_other : (index k : ℕ) (a : Option ℕ) → k ≢ index → is_index k (without index a) ≡ is_index k a
is_index-without_other index k None differ = refl
is_index-without_other index k (Some a) differ = grind (arith, nat_tests)

pub told_short : (index : ℕ) (missed : Missing) (was now lost told both : Bool) → now ≡ (was && not lost) → lost ≡ (told && not both) →
    was ≡ misses_one missed → told ≡ awaits index missed → both ≡ misses_both missed → now ≡ misses_one (fed index missed)
told_short index missed was now lost told both now_is lost_is was_is told_is both_is =
    now_is ∙ (λ i. was_is i && not ((lost_is ∙ (λ j. told_is j && not (both_is j))) i)) ∙ sym (one_fed index missed.first missed.second)

pub told_both : (index : ℕ) (missed : Missing) (was now told : Bool) → now ≡ (was && not told) → was ≡ misses_both missed → told ≡ awaits index missed →
    now ≡ misses_both (fed index missed)
told_both index missed was now told now_is was_is told_is =
    now_is ∙ (λ i. was_is i && not (told_is i)) ∙ sym (both_fed index missed.first missed.second)

pub awaits-fed_same : (index : ℕ) (missed : Missing) → awaits index (fed index missed) ≡ false
awaits-fed_same index missed = λ i. is_index-without_same index missed.first i || is_index-without_same index missed.second i

pub awaits-fed_other : (index k : ℕ) (missed : Missing) → k ≢ index → awaits k (fed index missed) ≡ awaits k missed
awaits-fed_other index k missed differ = λ i. is_index-without_other index k missed.first differ i || is_index-without_other index k missed.second differ i

pub without-same : (index : ℕ) (a : Option ℕ) → is_index index a ≡ false → without index a ≡ a
without-same index None none = refl
without-same index (Some a) none = rw (ne_eqb a index (λ same. both_ways (index == a) none (eq-eqb index a (sym same)))) refl

-- where nothing is awaited of it, nothing changes
pub fed-same : (index : ℕ) (missed : Missing) → awaits index missed ≡ false → fed index missed ≡ missed
fed-same index missed none =
    let parts = or_parts (is_index index missed.first) (is_index index missed.second) none in
    λ i. record { first = without-same index missed.first parts.0 i; second = without-same index missed.second parts.1 i }

-- what one turn changes
module _ (turn : ℕ) where
  pub put_here : {X : Type 0} (value : X) (of : ℕ → X) (other : ℕ) → other ≡ turn → put turn value of other ≡ value
  put_here value of other same = ap (λ b. if b then value else of other) (eq-eqb other turn same)

  pub put_elsewhere : {X : Type 0} (value : X) (of : ℕ → X) (other : ℕ) → other ≢ turn → put turn value of other ≡ of other
  put_elsewhere value of other differ = ap (λ b. if b then value else of other) (ne_eqb other turn differ)

  pub put_same : {X : Type 0} (value : X) (of : ℕ → X) (other : ℕ) → of turn ≡ value → of other ≡ put turn value of other
  put_same value of other is = elim (cases_eq other turn) [
    | inl same ↦ ap of same ∙ is ∙ sym (put_here value of other same)
    | inr differ ↦ sym (put_elsewhere value of other differ)
  ]

  -- what is put into a set, and what is taken out
  pub put_in : (other : ℕ) (of : ℕ → Bool) (was now : Bool) → now ≡ (was || (other == turn)) → was ≡ of other → now ≡ put turn true of other
  put_in other of was now now_is was_is = elim (cases_eq other turn) [
    | inl same ↦ now_is ∙ ap (λ b. was || b) (eq-eqb other turn same) ∙ or_true was ∙ sym (put_here true of other same)
    | inr differ ↦ now_is ∙ ap (λ b. was || b) (ne_eqb other turn differ) ∙ or_false was ∙ was_is ∙ sym (put_elsewhere true of other differ)
  ]

  pub put_out : (other : ℕ) (of : ℕ → Bool) (was now : Bool) → now ≡ (was && not (other == turn)) → was ≡ of other → now ≡ put turn false of other
  put_out other of was now now_is was_is = elim (cases_eq other turn) [
    | inl same ↦ now_is ∙ ap (λ b. was && not b) (eq-eqb other turn same) ∙ and_false was ∙ sym (put_here false of other same)
    | inr differ ↦ now_is ∙ ap (λ b. was && not b) (ne_eqb other turn differ) ∙ and_true was ∙ was_is ∙ sym (put_elsewhere false of other differ)
  ]

  module _ (test : Missing → Bool) (value : Missing) (missed : ℕ → Missing) (other : ℕ) where
    -- something of what a station misses, as it enters
    pub entered_by : (was now : Bool) → test nothing ≡ false → missed turn ≡ nothing → now ≡ (was || (test value && (other == turn))) → was ≡ test (missed other) →
        now ≡ test (put turn value missed other)
    entered_by was now none free now_is was_is = elim (cases_eq other turn) [
      | inl same ↦
          let off : was ≡ false = was_is ∙ ap (λ t. test (missed t)) same ∙ ap test free ∙ none in
          now_is ∙ (λ i. off i || (test value && eq-eqb other turn same i)) ∙ and_true (test value) ∙ sym (ap test (put_here value missed other same))
      | inr differ ↦
          now_is ∙ ap (λ b. was || (test value && b)) (ne_eqb other turn differ) ∙ ap (λ b. was || b) (and_false (test value)) ∙ or_false was ∙ was_is
          ∙ sym (ap test (put_elsewhere value missed other differ))
    ]

-- two notes of one turn
pub noted_twice : (was mid now a b here : Bool) → mid ≡ (was || (a && here)) → now ≡ (mid || (b && here)) → now ≡ (was || ((a || b) && here))
noted_twice was mid now a b here mid_is now_is = now_is ∙ ap (λ x. x || (b && here)) mid_is ∙ regrouped was a b here

-- what of it is kept
pub kept_by : (test : Missing → Bool) (missed : Missing) (live was now : Bool) → test nothing ≡ false → now ≡ (was && live) → was ≡ test missed →
    now ≡ test (if live then missed else nothing)
kept_by test missed true was now none now_is was_is = now_is ∙ and_true was ∙ was_is
kept_by test missed false was now none now_is was_is = now_is ∙ and_false was ∙ sym none
