-- A register is withheld by the youngest that writes it: one more instruction.
use Rattle.std.proofs.Common.{◌≡◌, ◌∙◌, ℕ, suc, ◌+◌, ◌-◌, ◌<◌, ◌&&◌, Bool, true, false, not, Some, List, [], ◌∷◌, ◌++◌, cond, if◌then◌else◌, take, refl, ap, sym, arith}
use Rattle.std.specs.Prelude.{filter, reverse, slice_get}
use Rattle.std.proofs.lemmas.List.{append-nil, reverse-append}
use Rattle.std.proofs.lemmas.List.Elements.{filter-append}
use Rattle.insight_model.specs.Sight.{Shown, gives_value, is_waiting_at, writes_shown}
use Rattle.insight_model.specs.Hole.{is_withheld, past_decode}
use Rattle.cycle_watch.proofs.Windows.{take_push}

abbrev past : Shown → Bool
past rec = not (is_waiting_at rec.progress)

-- by the youngest, if it is past Decode and writes the register, and else by those before it
abbrev pub withheld_by : Bool → Shown → List Shown → ℕ → Bool
withheld_by waits x xs r =
    if waits then is_withheld (past_decode xs) r else (if writes_shown r x then not (gives_value x) else is_withheld (past_decode xs) r)

pub withheld_push : (xs : List Shown) (x : Shown) (r : ℕ) → is_withheld (past_decode (xs ++ x ∷ [])) r ≡ withheld_by (is_waiting_at x.progress) x xs r
withheld_push xs x r =
    ap (λ (l : List Shown). is_withheld (reverse l) r) (filter-append past xs (x ∷ [])) ∙ by (is_waiting_at x.progress)
  where
    by : (b : Bool) → is_withheld (reverse (filter past xs ++ cond (not b) (x ∷ []) [])) r ≡ withheld_by b x xs r
    by true = ap (λ (l : List Shown). is_withheld (reverse l) r) (append-nil (filter past xs))
    by false = ap (λ (l : List Shown). is_withheld l r) (reverse-append (filter past xs) (x ∷ []))

-- by the youngest of the first of them
pub withheld_last : (w : List Shown) (n : ℕ) (x : Shown) (r : ℕ) → 0 < n → slice_get w (n - 1) ≡ Some x →
    is_withheld (past_decode (take n w)) r ≡ withheld_by (is_waiting_at x.progress) x (take (n - 1) w) r
withheld_last w n x r some here =
    let last : n ≡ suc (n - 1) = omega (arith, some) in
    ap (λ (k : ℕ). is_withheld (past_decode (take k w)) r) last
    ∙ ap (λ (l : List Shown). is_withheld (past_decode l) r) (take_push w (n - 1) x here)
    ∙ withheld_push (take (n - 1) w) x r

pub withheld_writer : (waits writes : Bool) (x : Shown) (xs : List Shown) (r : ℕ) → writes_shown r x ≡ writes → (not waits && writes) ≡ true → withheld_by waits x xs r ≡ not (gives_value x)
withheld_writer true writes x xs r is writer = cc
withheld_writer false false x xs r is writer = cc
withheld_writer false true x xs r is writer = ap (λ (b : Bool). if b then not (gives_value x) else is_withheld (past_decode xs) r) is

pub withheld_other : (waits writes : Bool) (x : Shown) (xs : List Shown) (r : ℕ) → writes_shown r x ≡ writes → (not waits && writes) ≡ false → withheld_by waits x xs r ≡ is_withheld (past_decode xs) r
withheld_other true writes x xs r is other = refl
withheld_other false true x xs r is other = cc
withheld_other false false x xs r is other = ap (λ (b : Bool). if b then not (gives_value x) else is_withheld (past_decode xs) r) is
