-- A list of steps with rising numbers: its newest step, one step more, and the steps from a number on.
use Rattle.std.proofs.Common.{◌≡◌, ℕ, zero, suc, ◌+◌, ◌-◌, ◌<◌, ◌≤◌, nat_lt, nat_le, if◌then◌else◌, Bool, true, false, List, [], ◌∷◌, ◌++◌, length, get_or, take, drop, refl, ap, ◌∙◌, arith, Some, IfSome, All, inl, inr}
use Rattle.std.specs.Prelude.{filter}
use Rattle.std.specs.Int.{from_bool}
use Rattle.std.specs.List.{prefix_len}
use Rattle.std.proofs.lemmas.List.Quantifiers.{all_pairs_push}
use Rattle.std.proofs.lemmas.Option.{slice_get-get_or}
use Rattle.std.proofs.lemmas.Bool.{cases_lt}
use Rattle.std.proofs.lemmas.List.{get_or_append_left, length-append, length-take, get_or-take, take_more}
use Rattle.std.proofs.lemmas.List.Elements.{All-filter, filter-append}
use Rattle.undo_journal.specs.declared.past.Past.{Past}
use Rattle.undo_journal.specs.Journal.{IsRising, newest, from_number}

-- the first step is below all later ones, and the later ones rise
first_below : (p : Past) (ps : List Past) → IsRising (p ∷ ps) → All (λ q. p.number < q.number) ps
first_below p ps rising = λ k d within. rising zero (suc k) d (omega arith) (omega arith)

rest_rises : (p : Past) (ps : List Past) → IsRising (p ∷ ps) → IsRising ps
rest_rises p ps rising = λ i j d before within. rising (suc i) (suc j) d (omega arith) (omega arith)

-- where every number is n or above, nothing is left out
all_from : (n : ℕ) (ps : List Past) → All (λ q. n ≤ q.number) ps → from_number n ps ≡ ps
all_from n [] from = refl
all_from n (p ∷ ps) from =
    let here : n ≤ p.number = from zero p (omega arith) in
    let rest : from_number n ps ≡ ps = all_from n ps (λ k d within. from (suc k) d (omega arith)) in
    grind (arith, rest)

-- to drop the first steps below n is to keep those from n on
skip_one : (k : ℕ) (p : Past) (ps : List Past) → drop (1 + k) (p ∷ ps) ≡ drop k ps
skip_one k p ps = let e : 1 + k ≡ suc k = omega arith in rw e refl

pub drop_below : (n : ℕ) (ps : List Past) → IsRising ps → drop (prefix_len (λ q. nat_lt q.number n) ps) ps ≡ from_number n ps
drop_below n [] rising = refl
drop_below n (p ∷ ps) rising =
    let rest : drop (prefix_len (λ q. nat_lt q.number n) ps) ps ≡ from_number n ps = drop_below n ps (rest_rises p ps rising) in
    let later : All (λ q. p.number < q.number) ps = first_below p ps rising in
    let all : n ≤ p.number → from_number n ps ≡ ps = λ from. all_from n ps (λ k d within. omega (arith, later k d within)) in
    grind (arith, rest, all, skip_one)

-- without the oldest ones
pub rising_without : (n : ℕ) (ps : List Past) → IsRising ps → IsRising (drop n ps)
rising_without zero ps rising = rising
rising_without (suc n) [] rising = rising
rising_without (suc n) (p ∷ ps) rising = rising_without n ps (rest_rises p ps rising)

-- without the newest ones
pub rising_front : (n : ℕ) (ps : List Past) → IsRising ps → IsRising (take n ps)
rising_front n ps rising i j d before within =
    let low : get_or (take n ps) i d ≡ get_or ps i d = get_or-take n ps i d (omega (arith, length-take n ps)) in
    let high : get_or (take n ps) j d ≡ get_or ps j d = get_or-take n ps j d (omega (arith, length-take n ps)) in
    rw (low, high) (rising i j d before (omega (arith, length-take n ps)))

-- a step above the newest one goes on rising
pub rising_with_one_more : (ps : List Past) (p : Past) → IsRising ps → IfSome (newest ps) (λ q. q.number < p.number) → IsRising (ps ++ p ∷ [])
rising_with_one_more ps p rising above = all_pairs_push (λ p q. p.number < q.number) ps p rising (λ k d within.
    let last : newest ps ≡ Some (get_or ps (length ps - 1) d) = slice_get-get_or ps (length ps - 1) d (omega arith) in
    let below : (get_or ps (length ps - 1) d).number < p.number = rw last at above in
    elim (cases_lt k (length ps - 1)) [
      | inl earlier ↦ omega (arith, rising k (length ps - 1) d earlier (omega arith))
      | inr newest ↦ let e : k ≡ length ps - 1 = omega arith in rw e below
    ])

-- the newest of steps whose numbers are below n
pub newest_below : (n : ℕ) (ps : List Past) → All (λ p. p.number < n) ps → IfSome (newest ps) (λ p. p.number < n)
newest_below n [] below = tt
newest_below n (p ∷ ps) below =
    let last : newest (p ∷ ps) ≡ Some (get_or (p ∷ ps) (length (p ∷ ps) - 1) p) = slice_get-get_or (p ∷ ps) (length (p ∷ ps) - 1) p (omega arith) in
    rw last (below (length (p ∷ ps) - 1) p (omega arith))

-- fewer steps have no higher numbers
pub below_from : (m n : ℕ) (ps : List Past) → All (λ p. p.number < n) ps → All (λ p. p.number < n) (from_number m ps)
below_from m n ps below = All-filter (λ p. nat_le m p.number) (λ p. p.number < n) ps below

pub below_front : (n : ℕ) (ps : List Past) (p : Past) → All (λ p. p.number < n) (ps ++ p ∷ []) → All (λ p. p.number < n) ps
below_front n ps p below = λ k d within.
    rw (← get_or_append_left ps (p ∷ []) d k within) (below k d (omega (arith, length-append ps (p ∷ []))))

-- the bytes that one step more takes back
sent_one : (b : Bool) (p : Past) → length (if b then p ∷ [] else []) ≡ from_bool b
sent_one true p = refl
sent_one false p = refl

pub sent_within : (b : Bool) → from_bool b ≤ 1
sent_within true = omega arith
sent_within false = omega arith

pub sent_more : (steps : List Past) (k : ℕ) (p : Past) → k < length steps → get_or steps k p ≡ p
    → length (filter (λ q. q.out) (take (k + 1) steps)) ≡ length (filter (λ q. q.out) (take k steps)) + from_bool p.out
sent_more steps k p under read =
    let out : Past → Bool = λ q. q.out in
    let before = take k steps in
    ap (λ (l : List Past). length (filter out l)) (take_more steps k p under ∙ ap (λ (q : Past). before ++ q ∷ []) read)
    ∙ ap (λ (l : List Past). length l) (filter-append out before (p ∷ []))
    ∙ length-append (filter out before) (filter out (p ∷ []))
    ∙ ap (λ (n : ℕ). length (filter out before) + n) (sent_one p.out p)
