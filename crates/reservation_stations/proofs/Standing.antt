-- What is true of the stations at their places, by turns, as they enter, change and leave.
use Rattle.std.proofs.Common.{◌≡◌, ◌≢◌, ℕ, zero, suc, ◌+◌, ◌%◌, ◌<◌, ◌≤◌, Bool, Option, Some, None, List, [], ◌∷◌, ◌++◌, length, take, reverse, refl, ap, sym, ◌∙◌, inl, inr, arith, if◌then◌else◌, true, false}
use Rattle.std.specs.Prelude.{nat_lt, slice_get}
use Rattle.std.proofs.lemmas.Bool.{cases_eq, cases_lt}
use Rattle.std.proofs.lemmas.Option.{slice_get_past}
use Rattle.reservation_stations.specs.declared.station.Station.{Station}
use Rattle.reservation_stations.specs.declared.sets.Sets.{Sets}
use Rattle.reservation_stations.specs.Readiness.{older_than}
use Rattle.reservation_stations.specs.Places.{place_of}
use Rattle.reservation_stations.specs.AreSets.{AreSets, Missing, misses_one, misses_both, awaits, put}
use Rattle.reservation_stations.proofs.Missing.{put_here, put_elsewhere}
use Rattle.reservation_stations.proofs.Places.{get_part}
use Rattle.std.proofs.lemmas.Bool.Decides.{nat_tests}
use Rattle.std.proofs.lemmas.List.{take-take, length-take}

-- the same sets, by what is the same of each turn
pub AreSets-as : {capacity : ℕ} {w e w' e' : ℕ → Bool} {m m' : ℕ → Missing} {sets : Sets} → AreSets capacity w e m sets →
    ((t : ℕ) → t < 256 → w t ≡ w' t) → ((t : ℕ) → t < 256 → e t ≡ e' t) → ((t : ℕ) → t < 256 → m t ≡ m' t) → AreSets capacity w' e' m' sets
AreSets-as are w_is e_is m_is = record {
  every_index = are.every_index;
  waiting = λ t within. are.waiting t within ∙ w_is t within;
  executing = λ t within. are.executing t within ∙ e_is t within;
  short = λ t within. are.short t within ∙ ap misses_one (m_is t within);
  both = λ t within. are.both t within ∙ ap misses_both (m_is t within);
  dependents = λ t index within below. are.dependents t index within below ∙ ap (awaits index) (m_is t within);
}

-- the turn of a place, and the place of a turn
pub place_there : (retired place : ℕ) → retired < 256 → place < 256 → place_of retired ((retired + place) % 256) ≡ place
place_there retired place small few = omega (arith, small, few)

pub same_turn : (retired t u : ℕ) → retired < 256 → t < 256 → u < 256 → place_of retired t ≡ place_of retired u → t ≡ u
same_turn retired t u small within within_too same = omega (arith, small, within, within_too, same)

pub first_turn : (retired t : ℕ) → retired < 256 → t < 256 → t ≢ retired → place_of retired t ≡ suc (place_of ((retired + 1) % 256) t)
first_turn retired t small within differ = omega (arith, small, within, differ)

pub last_turn : (retired : ℕ) → retired < 256 → place_of ((retired + 1) % 256) retired ≡ 255
last_turn retired small = omega (arith, small)

pub own_turn : (retired : ℕ) → retired < 256 → place_of retired retired ≡ 0
own_turn retired small = omega (arith, small)

-- the places of a longer list
take_front : (xs ys : List Station) (p : ℕ) → p ≤ length xs → take p (xs ++ ys) ≡ take p xs
take_front xs ys zero within = refl
take_front [] ys (suc p) within = absurd (omega (arith, within))
take_front (x ∷ xs) ys (suc p) within = ap (λ zs. x ∷ zs) (take_front xs ys p (omega (arith, within)))

take_whole : (xs : List Station) → take (length xs) xs ≡ xs
take_whole [] = refl
take_whole (x ∷ xs) = ap (λ zs. x ∷ zs) (take_whole xs)

get_front : (xs ys : List Station) (p : ℕ) → p < length xs → slice_get (xs ++ ys) p ≡ slice_get xs p
get_front [] ys p within = absurd (omega (arith, within))
get_front (x ∷ xs) ys zero within = refl
get_front (x ∷ xs) ys (suc p) within = get_front xs ys p (omega (arith, within))

get_last : (xs : List Station) (x : Station) → slice_get (xs ++ x ∷ []) (length xs) ≡ Some x
get_last [] x = refl
get_last (y ∷ xs) x = get_last xs x

long : (xs : List Station) (x : Station) → length (xs ++ x ∷ []) ≡ suc (length xs)
long [] x = refl
long (y ∷ xs) x = ap suc (long xs x)

-- what a function says of a station beside the older ones; of no station it says always the same
module _ {X : Type 0} (of : List Station → Option Station → X) (empty : X) (nowhere : (older : List Station) → of older None ≡ empty) where
  abbrev pub at_place : List Station → ℕ → X
  at_place stations place = of (older_than place stations) (slice_get stations place)

  pub past : (stations : List Station) (place : ℕ) → length stations ≤ place → at_place stations place ≡ empty
  past stations place behind = ap (of (older_than place stations)) (slice_get_past stations place behind) ∙ nowhere (older_than place stations)

  front : (xs : List Station) (x : Station) (p : ℕ) → p < length xs → at_place (xs ++ x ∷ []) p ≡ at_place xs p
  front xs x p within = λ i. of (reverse (take_front xs (x ∷ []) p (omega (arith, within)) i)) (get_front xs (x ∷ []) p within i)

  pub last : (xs : List Station) (x : Station) → at_place (xs ++ x ∷ []) (length xs) ≡ of (reverse xs) (Some x)
  last xs x = λ i. of (reverse ((take_front xs (x ∷ []) (length xs) (omega arith) ∙ take_whole xs) i)) (get_last xs x i)

  apart : (xs : List Station) (x : Station) (p : ℕ) → p ≢ length xs → at_place (xs ++ x ∷ []) p ≡ at_place xs p
  apart xs x p differ = elim (cases_lt p (length xs)) [
    | inl before ↦ front xs x p before
    | inr behind ↦ past (xs ++ x ∷ []) p (omega (arith, behind, differ, long xs x)) ∙ sym (past xs p behind)
  ]

  module _ (retired : ℕ) (small : retired < 256) (xs : List Station) (x : Station) (few : length xs < 256) (turn : ℕ) (within : turn < 256) (there : place_of retired turn ≡ length xs) where
    elsewhere : (t : ℕ) → t < 256 → t ≢ turn → place_of retired t ≢ length xs
    elsewhere t inside differ same = differ (same_turn retired t turn small inside within (same ∙ sym there))

    -- a station enters at a turn
    pub entered_at : (t : ℕ) → t < 256 → put turn (of (reverse xs) (Some x)) (λ u. at_place xs (place_of retired u)) t ≡ at_place (xs ++ x ∷ []) (place_of retired t)
    entered_at t inside = elim (cases_eq t turn) [
      | inl same ↦
          put_here turn (of (reverse xs) (Some x)) (λ u. at_place xs (place_of retired u)) t same ∙ sym (last xs x)
          ∙ ap (at_place (xs ++ x ∷ [])) (sym (ap (place_of retired) same ∙ there))
      | inr differ ↦
          put_elsewhere turn (of (reverse xs) (Some x)) (λ u. at_place xs (place_of retired u)) t differ ∙ sym (apart xs x (place_of retired t) (elsewhere t inside differ))
    ]

    pub nothing_yet : at_place xs (place_of retired turn) ≡ empty
    nothing_yet = past xs (place_of retired turn) (omega (arith, there))

  -- those from a place on leave
  pub kept_at : (xs : List Station) (kept p : ℕ) → at_place (take kept xs) p ≡ (if nat_lt p kept then at_place xs p else empty)
  kept_at xs kept p = elim (cases_lt p kept) [
    | inl before ↦
        let is : nat_lt p kept ≡ true = grind (arith, nat_tests) in
        (λ i. of (reverse (take-take p kept xs (omega (arith, before)) i)) (get_part xs kept p before i)) ∙ ap (λ b. if b then at_place xs p else empty) (sym is)
    | inr behind ↦
        let is_not : nat_lt p kept ≡ false = grind (arith, nat_tests) in
        past (take kept xs) p (omega (arith, behind, length-take kept xs)) ∙ ap (λ b. if b then at_place xs p else empty) (sym is_not)
  ]

-- the oldest leaves
module _ {X : Type 0} (of : Option Station → X) (empty : X) (nowhere : of None ≡ empty) (retired : ℕ) (small : retired < 256) (x : Station) (xs : List Station) (few : length xs < 256) where
  pub retired_at : (t : ℕ) → t < 256 → put retired empty (λ u. of (slice_get (x ∷ xs) (place_of retired u))) t ≡ of (slice_get xs (place_of ((retired + 1) % 256) t))
  retired_at t inside = elim (cases_eq t retired) [
    | inl same ↦
        put_here retired empty (λ u. of (slice_get (x ∷ xs) (place_of retired u))) t same
        ∙ sym (ap (λ u. of (slice_get xs (place_of ((retired + 1) % 256) u))) same
        ∙ ap of (slice_get_past xs (place_of ((retired + 1) % 256) retired) (omega (arith, few, last_turn retired small))) ∙ nowhere)
    | inr differ ↦
        put_elsewhere retired empty (λ u. of (slice_get (x ∷ xs) (place_of retired u))) t differ
        ∙ ap (λ p. of (slice_get (x ∷ xs) p)) (first_turn retired t small inside differ)
  ]
