-- The sets of places, and the first place of four of them.
use Rattle.std.proofs.Common.{◌≡◌, ℕ, ◌+◌, ◌-◌, ◌%◌, ◌^◌, ◌<◌, ◌≤◌, ◌==◌, ◌&&◌, not, Bool, true, false, IsTrue, Option, Some, None, List, length, refl, ap, sym, ◌∙◌, subst, inl, inr, arith}
use Rattle.std.specs.Prelude.{slice_get, nat_le}
use Rattle.std.specs.Int.{bit_at}
use Rattle.std.proofs.lemmas.Bool.{cases_lt}
use Rattle.std.proofs.lemmas.Bool.Decides.{nat_tests}
use Rattle.std.proofs.lemmas.Option.{slice_get_past}
use Rattle.std.proofs.lemmas.Nat.Bits.{bit_at_above}
use Rattle.reservation_stations.specs.declared.station.Station.{Station}
use Rattle.reservation_stations.specs.declared.sets.Sets.{Sets}
use Rattle.reservation_stations.specs.declared.sought.Sought.{Sought}
use Rattle.reservation_stations.specs.declared.sought.Sought.TheVariants.{Ready, Executing}
use Rattle.reservation_stations.specs.Readiness.{Window, is_waiting, older_than, can_begin, can_begin_at, executes_at, executes, is_sought_at}
use Rattle.reservation_stations.specs.TurnSet.{holds}
use Rattle.reservation_stations.specs.PlaceSet.{has}
use Rattle.reservation_stations.specs.Places.{place_of}
use Rattle.reservation_stations.specs.AreSets.{AreSetsOf, missing, misses_one, waits}
use Rattle.reservation_stations.specs.declared.place_set.PlaceSet.{PlaceSet}
use Rattle.reservation_stations.proofs.Reading.{has_operands-missing}

has_inside : (from word place : ℕ) → from ≤ place → has (record { from = from; word = word }) place ≡ (bit_at word (place - from) == 1)
has_inside from word place behind =
    let e : nat_le from place ≡ true = grind (arith, nat_tests) in
    ap (λ b. b && (bit_at word (place - from) == 1)) e

le_from : (from place : ℕ) → nat_le from place ≡ true → from ≤ place
le_from from place is = grind (arith, nat_tests)

both_true : (b c : Bool) → (b && c) ≡ true → (b ≡ true) × (c ≡ true)
both_true true c is = (refl, is)
both_true false c is = absurd cc

pub has_within : (from word place : ℕ) → word < 2 ^ 64 → IsTrue (has (record { from = from; word = word }) place) → (from ≤ place) × (place < from + 64)
has_within from word place fits there =
    let parts = both_true (nat_le from place) (bit_at word (place - from) == 1) there in
    let behind = le_from from place parts.0 in (
      behind,
      elim (cases_lt place (from + 64)) [
        | inl inside ↦ inside
        | inr past ↦ absurd (let off : bit_at word (place - from) ≡ 0 = bit_at_above word 64 (place - from) fits (omega (arith, past)) in
            let e : (0 == 1) ≡ true = ap (λ n. n == 1) (sym off) ∙ parts.1 in cc)
      ],
    )

-- it begins where it waits and misses nothing
begins : (older : List Station) (o : Option Station) → (waits o && not (misses_one (missing older o))) ≡ can_begin older o
begins older None = refl
begins older (Some station) = ap (λ b. is_waiting station.mark && b) (has_operands-missing older station)

-- the turn of a place among the 64 from one on
abbrev pub turn_among : ℕ → ℕ → ℕ → ℕ
turn_among retired from k = ((retired + from) % 256 + k) % 256

module _ (capacity retired : ℕ) (stations : List Station) (sets : Sets) (are : AreSetsOf capacity retired stations sets) (small : retired < 256) (from word : ℕ) (few : from ≤ 192) (place : ℕ) (behind : from ≤ place) (inside : place < from + 64) where
  its : place_of retired (turn_among retired from (place - from)) ≡ place
  its = omega (arith, small, few, behind, inside)

  pub ready_there : ((k : ℕ) → k < 64 → (bit_at word k == 1) ≡ (holds sets.waiting (turn_among retired from k) && not (holds sets.short (turn_among retired from k)))) →
      has (record { from = from; word = word }) place ≡ can_begin_at stations place
  ready_there is =
      let t = turn_among retired from (place - from) in
      let fits : t < 256 = omega arith in
      has_inside from word place behind ∙ is (place - from) (omega (arith, behind, inside))
      ∙ (λ i. are.waiting t fits i && not (are.short t fits i))
      ∙ begins (older_than (place_of retired t) stations) (slice_get stations (place_of retired t))
      ∙ ap (can_begin_at stations) its

  pub executing_there : ((k : ℕ) → k < 64 → (bit_at word k == 1) ≡ holds sets.executing (turn_among retired from k)) →
      has (record { from = from; word = word }) place ≡ executes_at stations place
  executing_there is =
      let t = turn_among retired from (place - from) in
      let fits : t < 256 = omega arith in
      has_inside from word place behind ∙ is (place - from) (omega (arith, behind, inside))
      ∙ are.executing t fits ∙ ap (executes_at stations) its

-- none behind the list
no_begin_past : (stations : List Station) (place : ℕ) → length stations ≤ place → can_begin_at stations place ≡ false
no_begin_past stations place past = ap (can_begin (older_than place stations)) (slice_get_past stations place past)

no_executes_past : (stations : List Station) (place : ℕ) → length stations ≤ place → executes_at stations place ≡ false
no_executes_past stations place past = ap executes (slice_get_past stations place past)

pub none_past : (sought : Sought) (stations : List Station) (place : ℕ) → length stations ≤ place → is_sought_at sought stations place ≡ false
none_past Ready = no_begin_past
none_past Executing = no_executes_past

pub seen_sets : (capacity retired : ℕ) (sets : Sets) (v w : Window) → AreSetsOf capacity retired v.stations sets → v ≡ w → AreSetsOf capacity retired w.stations sets
seen_sets capacity retired sets v w are is = subst (λ (u : Window). AreSetsOf capacity retired u.stations sets) is are

-- no place in front of the next 64 is one of them, where none of these is
pub none_before : (test : ℕ → Bool) (from block : ℕ) (set : PlaceSet) → ((k : ℕ) → from ≤ k → k < block → test k ≡ false) →
    ((place : ℕ) → block ≤ place → place < block + 64 → has set place ≡ test place) →
    ((k : ℕ) → from ≤ k → has set k ≡ false) → (k : ℕ) → from ≤ k → k < block + 64 → test k ≡ false
none_before test from block set before each empty k behind inside = elim (cases_lt k block) [
  | inl ahead ↦ before k behind ahead
  | inr there ↦ sym (each k there inside) ∙ empty k behind
]
