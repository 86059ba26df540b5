-- The sets as a station enters: its turn is noted by what it misses.
use Rattle.std.proofs.Common.{◌≡◌, ℕ, ◌<◌, ◌==◌, ◌||◌, ◌&&◌, not, Bool, true, false, is_some, Option, Some, None, length, refl, ap, sym, ◌∙◌, arith}
use Rattle.std.proofs.lemmas.Bool.{both_ways, eqb-true}
use Rattle.reservation_stations.specs.declared.sets.Sets.{Sets}
use Rattle.reservation_stations.specs.TurnSet.{holds}
use Rattle.reservation_stations.specs.Places.{is_index}
use Rattle.reservation_stations.specs.Noting.{dependents_of}
use Rattle.reservation_stations.specs.AreSets.{AreSets, Missing, nothing, misses_one, misses_both, are_two, awaits, put}
use Rattle.reservation_stations.proofs.Missing.{or_false, put_in, entered_by, noted_twice}

-- put into a set where a test holds, and left out where it doesn't
pub put_for : (test was now here : Bool) → test ≡ true → now ≡ (was || here) → now ≡ (was || (test && here))
put_for test was now here is now_is = now_is ∙ ap (λ b. was || (b && here)) (sym is)

pub left_for : (test was here : Bool) → test ≡ false → was ≡ (was || (test && here))
left_for test was here is = sym (or_false was) ∙ ap (λ b. was || (b && here)) (sym is)

-- what is missed where one operand has no producer
pub alone : (first second : Option ℕ) → is_some first ≡ false → are_two first second ≡ false
alone None second none = refl
alone (Some index) second none = absurd cc

pub awaited_alone : (k index : ℕ) (first second : Option ℕ) → is_some first ≡ false → second ≡ Some index → (k == index) ≡ (is_index k first || is_index k second)
awaited_alone k index None second none is = ap (is_index k) (sym is)
awaited_alone k index (Some other) second none is = absurd cc

-- and where both have the same
or_same : (b : Bool) → b ≡ (b || b)
or_same true = refl
or_same false = refl

same_by : (index other : ℕ) (b : Bool) → (index == other) ≡ b → not b ≡ false → index ≡ other
same_by index other true same one = eqb-true index other same
same_by index other false same one = absurd (both_ways (not false) one refl)

awaited_by : (k index : ℕ) (second : Option ℕ) → are_two (Some index) second ≡ false → (k == index) ≡ ((k == index) || is_index k second)
awaited_by k index None one = sym (or_false (k == index))
awaited_by k index (Some other) one = or_same (k == index) ∙ ap (λ s. (k == index) || (k == s)) (same_by index other (index == other) refl one)

pub awaited_once : (k index : ℕ) (first second : Option ℕ) → first ≡ Some index → are_two first second ≡ false → (k == index) ≡ (is_index k first || is_index k second)
awaited_once k index first second is one =
    awaited_by k index second (ap (λ o. are_two o second) (sym is) ∙ one) ∙ ap (λ o. is_index k o || is_index k second) (sym is)

-- the second noted in front of the first
or_turned : (a b : Bool) → (a || b) ≡ (b || a)
or_turned true true = refl
or_turned true false = refl
or_turned false true = refl
or_turned false false = refl

pub noted_both : (k index other : ℕ) (first second : Option ℕ) (was mid now here : Bool) → first ≡ Some index → second ≡ Some other →
    mid ≡ (was || ((k == other) && here)) → now ≡ (mid || ((k == index) && here)) → now ≡ (was || ((is_index k first || is_index k second) && here))
noted_both k index other first second was mid now here first_is second_is mid_is now_is =
    noted_twice was mid now (k == other) (k == index) here mid_is now_is
    ∙ ap (λ b. was || (b && here)) (or_turned (k == other) (k == index) ∙ λ i. is_index k (sym first_is i) || is_index k (sym second_is i))

-- the sets of a station more
pub AreSets-noted : (capacity turn : ℕ) (old new : Sets) (waits executes : ℕ → Bool) (missed : ℕ → Missing) (value : Missing) → missed turn ≡ nothing → AreSets capacity waits executes missed old →
    length new.dependents.items ≡ length old.dependents.items →
    ((other : ℕ) → holds new.waiting other ≡ (holds old.waiting other || (other == turn))) → ((other : ℕ) → holds new.executing other ≡ holds old.executing other) →
    ((other : ℕ) → holds new.short other ≡ (holds old.short other || (misses_one value && (other == turn)))) →
    ((other : ℕ) → holds new.both other ≡ (holds old.both other || (misses_both value && (other == turn)))) →
    ((index other : ℕ) → index < length old.dependents.items → holds (dependents_of new.dependents.items index) other ≡ (holds (dependents_of old.dependents.items index) other || (awaits index value && (other == turn)))) →
    AreSets capacity (put turn true waits) executes (put turn value missed) new
AreSets-noted capacity turn old new waits executes missed value free sets long waiting executing short both dependents = record {
  every_index = long ∙ sets.every_index;
  waiting = λ other within. put_in turn other waits (holds old.waiting other) (holds new.waiting other) (waiting other) (sets.waiting other within);
  executing = λ other within. executing other ∙ sets.executing other within;
  short = λ other within. entered_by turn misses_one value missed other (holds old.short other) (holds new.short other) refl free (short other) (sets.short other within);
  both = λ other within. entered_by turn misses_both value missed other (holds old.both other) (holds new.both other) refl free (both other) (sets.both other within);
  dependents = λ other k within below. entered_by turn (awaits k) value missed other (holds (dependents_of old.dependents.items k) other) (holds (dependents_of new.dependents.items k) other) refl free
      (dependents k other (omega (arith, below, sets.every_index))) (sets.dependents other k within below);
}
