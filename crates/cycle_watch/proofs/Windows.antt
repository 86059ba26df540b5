-- The windows before and after a cycle, in pairs.
use Rattle.std.proofs.Common.{◌≡◌, ◌∙◌, ℕ, zero, suc, ◌+◌, ◌-◌, ◌≤◌, ◌<◌, List, [], ◌∷◌, ◌++◌, Option, Some, None, length, take, drop, map, refl, ap, sym, arith}
use Rattle.std.specs.Prelude.{slice_get, unwrap_or}
use Rattle.std.specs.List.{last_or}
use Rattle.std.specs.Option.{option_map_or}
use Rattle.std.proofs.lemmas.List.{append_assoc, length-drop, length-take, length-take-le, take-append-drop}
use Rattle.mono_model.specs.declared.params.Params.{Params}
use Rattle.insight_model.specs.declared.pipeline.Pipeline.{Pipeline}
use Rattle.insight_model.specs.Sight.{Shown}
use Rattle.insight_model.specs.Facts.{Kept, pairs}
use Rattle.insight_model.specs.Accesses.{kept_misses, miss_after}

-- the records of both windows are those of the pairs
pub pairs_before : (xs ys : List Shown) → map (λ (k : Kept). k.before) (pairs xs ys) ≡ take (length ys) xs
pairs_before [] [] = refl
pairs_before [] (y ∷ ys) = refl
pairs_before (x ∷ xs) [] = refl
pairs_before (x ∷ xs) (y ∷ ys) = ap (λ (rest : List Shown). x ∷ rest) (pairs_before xs ys)

pub pairs_after : (xs ys : List Shown) → length ys ≤ length xs → map (λ (k : Kept). k.after) (pairs xs ys) ≡ ys
pairs_after [] [] fit = refl
pairs_after [] (y ∷ ys) fit = absurd (omega (arith, fit))
pairs_after (x ∷ xs) [] fit = refl
pairs_after (x ∷ xs) (y ∷ ys) fit = ap (λ (rest : List Shown). y ∷ rest) (pairs_after xs ys (omega (arith, fit)))

pub pairs_length : (xs ys : List Shown) → length ys ≤ length xs → length (pairs xs ys) ≡ length ys
pairs_length [] [] fit = refl
pairs_length [] (y ∷ ys) fit = absurd (omega (arith, fit))
pairs_length (x ∷ xs) [] fit = refl
pairs_length (x ∷ xs) (y ∷ ys) fit = ap suc (pairs_length xs ys (omega (arith, fit)))

-- one more
pub pairs_push : (xs ys : List Shown) (x y : Shown) → length xs ≡ length ys →
    pairs (xs ++ x ∷ []) (ys ++ y ∷ []) ≡ pairs xs ys ++ (record { before = x; after = y } ∷ [])
pairs_push [] [] x y fit = refl
pairs_push [] (b ∷ ys) x y fit = absurd (omega (arith, fit))
pairs_push (a ∷ xs) [] x y fit = absurd (omega (arith, fit))
pairs_push (a ∷ xs) (b ∷ ys) x y fit =
    ap (λ (rest : List Kept). record { before = a; after = b } ∷ rest) (pairs_push xs ys x y (omega (arith, fit)))

pub misses_push : (pipeline : Pipeline) (p : Params) (cycle : ℕ) (ks : List Kept) (k : Kept) (ms : List ℕ) (m : ℕ) → length ks ≡ length ms →
    kept_misses pipeline p cycle (ks ++ k ∷ []) (ms ++ m ∷ []) ≡ kept_misses pipeline p cycle ks ms ++ (miss_after pipeline p cycle k m ∷ [])
misses_push pipeline p cycle [] k [] m fit = refl
misses_push pipeline p cycle [] k (a ∷ ms) m fit = absurd (omega (arith, fit))
misses_push pipeline p cycle (a ∷ ks) k [] m fit = absurd (omega (arith, fit))
misses_push pipeline p cycle (a ∷ ks) k (b ∷ ms) m fit =
    ap (λ (rest : List ℕ). miss_after pipeline p cycle a b ∷ rest) (misses_push pipeline p cycle ks k ms m (omega (arith, fit)))

-- the last of so many
pub last_taken : {A : Type 0} (o : Option A) (xs : List A) (n : ℕ) → n < length xs → last_or o (take (suc n) xs) ≡ slice_get xs n
last_taken o [] n fit = absurd (omega (arith, fit))
last_taken o (x ∷ xs) zero fit = refl
last_taken o (x ∷ xs) (suc n) fit = last_taken (Some x) xs n (omega (arith, fit))

-- what stands so far after a place
pub get_dropped : {A : Type 0} (xs : List A) (n k : ℕ) → slice_get (drop n xs) k ≡ slice_get xs (n + k)
get_dropped xs zero k = let e : 0 + k ≡ k = omega arith in ap (slice_get xs) (sym e)
get_dropped [] (suc n) k = refl
get_dropped (x ∷ xs) (suc n) k = let e : suc n + k ≡ suc (n + k) = omega arith in get_dropped xs n k ∙ ap (slice_get (x ∷ xs)) (sym e)

pub get_taken : {A : Type 0} (xs : List A) (n k : ℕ) → k < n → slice_get (take n xs) k ≡ slice_get xs k
get_taken xs zero k fit = absurd (omega (arith, fit))
get_taken [] (suc n) k fit = refl
get_taken (x ∷ xs) (suc n) zero fit = refl
get_taken (x ∷ xs) (suc n) (suc k) fit = get_taken xs n k (omega (arith, fit))

pub take_push : {A : Type 0} (xs : List A) (i : ℕ) (x : A) → slice_get xs i ≡ Some x → take (suc i) xs ≡ take i xs ++ x ∷ []
take_push {A = A} [] i x is = cc
take_push {A = A} (a ∷ xs) zero x is = let e : a ≡ x = cc in ap (λ (b : A). b ∷ []) e
take_push {A = A} (a ∷ xs) (suc i) x is = ap (λ (rest : List A). a ∷ rest) (take_push xs i x is)

-- those beyond the shorter list make no pair
pub pairs_cut : (n : ℕ) (xs ys : List Shown) → pairs (take n xs) (take n ys) ≡ pairs xs (take n ys)
pairs_cut zero [] ys = refl
pairs_cut zero (x ∷ xs) ys = refl
pairs_cut (suc n) [] ys = refl
pairs_cut (suc n) (x ∷ xs) [] = refl
pairs_cut (suc n) (x ∷ xs) (y ∷ ys) = ap (λ (rest : List Kept). record { before = x; after = y } ∷ rest) (pairs_cut n xs ys)

pub misses_cut : (pipeline : Pipeline) (p : Params) (cycle : ℕ) (ks : List Kept) (n : ℕ) (ms : List ℕ) → length ks ≤ n →
    kept_misses pipeline p cycle ks (take n ms) ≡ kept_misses pipeline p cycle ks ms
misses_cut pipeline p cycle [] n ms fit = refl
misses_cut pipeline p cycle (k ∷ ks) zero ms fit = absurd (omega (arith, fit))
misses_cut pipeline p cycle (k ∷ ks) (suc n) [] fit = refl
misses_cut pipeline p cycle (k ∷ ks) (suc n) (m ∷ ms) fit =
    ap (λ (rest : List ℕ). miss_after pipeline p cycle k m ∷ rest) (misses_cut pipeline p cycle ks n ms (omega (arith, fit)))

-- the window before a cycle: those that left, those that stayed, and those that were squashed
pub window_whole : (w a : List Shown) (left kept : ℕ) → kept ≤ length a →
    take left w ++ map (λ (k : Kept). k.before) (pairs (drop left w) (take kept a)) ++ drop kept (drop left w) ≡ w
window_whole w a left kept fit =
    let there : length (take kept a) ≡ kept = length-take-le kept a fit in
    ap (λ (stayed : List Shown). take left w ++ stayed ++ drop kept (drop left w))
    (pairs_before (drop left w) (take kept a) ∙ ap (λ (n : ℕ). take n (drop left w)) there)
    ∙ append_assoc (take left w) (take kept (drop left w)) (drop kept (drop left w))
    ∙ ap (λ (others : List Shown). take left w ++ others) (take-append-drop kept (drop left w))
    ∙ take-append-drop left w

-- the window after it: those that stayed, and those that were appended
pub window_after_whole : (w a : List Shown) (left kept : ℕ) → left + kept ≤ length w →
    map (λ (k : Kept). k.after) (pairs (drop left w) (take kept a)) ++ drop kept a ≡ a
window_after_whole w a left kept fit =
    ap (λ (stayed : List Shown). stayed ++ drop kept a)
    (pairs_after (drop left w) (take kept a) (omega (arith, length-take kept a, length-drop left w, fit)))
    ∙ take-append-drop kept a

-- the oldest that stayed, as it is seen at the latest
pub latest_pair : (xs ys : List Shown) (d : Shown) → length ys ≤ length xs →
    option_map_or (λ (k : Kept). k.after) (slice_get (pairs xs ys) 0) d ≡ unwrap_or (slice_get ys 0) d
latest_pair [] [] d fit = refl
latest_pair [] (y ∷ ys) d fit = absurd (omega (arith, fit))
latest_pair (x ∷ xs) [] d fit = refl
latest_pair (x ∷ xs) (y ∷ ys) d fit = refl

-- the last of those from a place on
last_all : {A : Type 0} (o : Option A) (x : A) (xs : List A) → last_or o (x ∷ xs) ≡ slice_get (x ∷ xs) (length xs)
last_all o x [] = refl
last_all o x (y ∷ ys) = last_all (Some x) y ys

pub last_dropped : {A : Type 0} (o : Option A) (xs : List A) (n : ℕ) → n < length xs → last_or o (drop n xs) ≡ slice_get xs (length xs - 1)
last_dropped o [] n fit = absurd (omega (arith, fit))
last_dropped o (x ∷ xs) zero fit = let e : length xs ≡ suc (length xs) - 1 = omega arith in last_all o x xs ∙ ap (slice_get (x ∷ xs)) e
last_dropped o (x ∷ xs) (suc n) fit =
    let e : suc (length xs - 1) ≡ suc (length xs) - 1 = omega (arith, fit) in last_dropped o xs n (omega (arith, fit)) ∙ ap (slice_get (x ∷ xs)) e
