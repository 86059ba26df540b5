-- The list of a set: the line in front of the others.
use Rattle.std.proofs.Common.{◌≡◌, ◌≢◌, ℕ, zero, suc, ◌==◌, ◌⊎◌, inl, inr, true, false, not, List, [], ◌∷◌, take, arith, ap, refl, ◌∙◌, sym}
use Rattle.std.specs.Prelude.{slice_get, Some}
use Rattle.std.specs.List.{remove}
use Rattle.std.proofs.lemmas.Bool.{cases_eq}
use Rattle.std.proofs.lemmas.Option.{same_Some, none-some}
use Rattle.std.proofs.lemmas.List.Elements.{All-nil, All-cons, All-head, All-tail, All-filter, All-take}
use Rattle.cache_timing.specs.declared.cache.Line.{Line}
use Rattle.cache_timing.specs.Cache.{holds, holds_dirty, without}
use Rattle.cache_timing.specs.CacheStandsFor.{Absent, Distinct}

-- a line has another number than this one
abbrev IsOther : ℕ → Line → Type 0
IsOther number line = line.number ≢ number

absent-head : (number : ℕ) (line : Line) (lines : List Line) → Absent number (line ∷ lines) → line.number ≢ number
absent-head number line lines h = All-head (IsOther number) line lines h

absent-tail : (number : ℕ) (line : Line) (lines : List Line) → Absent number (line ∷ lines) → Absent number lines
absent-tail number line lines h = All-tail (IsOther number) line lines h

-- what stands in a list without a line has another number
absent-at : (number : ℕ) (set : List Line) (place : ℕ) (line : Line) → Absent number set → slice_get set place ≡ Some line → line.number ≢ number
absent-at number [] place line h at = absurd (none-some line at)
absent-at number (first ∷ lines) zero line h at =
    λ e. absent-head number first lines h (ap (λ (l : Line). l.number) (same_Some first line at) ∙ e)
absent-at number (first ∷ lines) (suc place) line h at = absent-at number lines place line (absent-tail number first lines h) at

-- a line that stands nowhere in a list is absent
pub absent-from_places : (number : ℕ) (set : List Line) →
    ((place : ℕ) (line : Line) → slice_get set place ≡ Some line → line.number ≢ number) → Absent number set
absent-from_places number [] h = All-nil (IsOther number)
absent-from_places number (line ∷ lines) h =
    All-cons (IsOther number) line lines (h zero line refl) (absent-from_places number lines (λ place l at. h (suc place) l at))

without-same : (number : ℕ) (line : Line) (lines : List Line) → line.number ≡ number → without number (line ∷ lines) ≡ without number lines
without-same number line lines e = grind (arith, e)

without-other : (number : ℕ) (line : Line) (lines : List Line) → line.number ≢ number → without number (line ∷ lines) ≡ line ∷ without number lines
without-other number line lines e = grind (arith, e)

pub without-absent : (number : ℕ) (set : List Line) → Absent number set → without number set ≡ set
without-absent number [] h = refl
without-absent number (line ∷ lines) h =
    without-other number line lines (absent-head number line lines h) ∙ ap (λ ls. line ∷ ls) (without-absent number lines (absent-tail number line lines h))

pub holds-absent : (number : ℕ) (set : List Line) → Absent number set → holds number set ≡ false
holds-absent number [] h = refl
holds-absent number (line ∷ lines) h =
    grind (arith, holds-absent number lines (absent-tail number line lines h), absent-head number line lines h)

pub holds_dirty-absent : (number : ℕ) (set : List Line) → Absent number set → holds_dirty number set ≡ false
holds_dirty-absent number [] h = refl
holds_dirty-absent number (line ∷ lines) h =
    grind (arith, holds_dirty-absent number lines (absent-tail number line lines h), absent-head number line lines h)

-- the other lines are those at the other places
pub without-at : (set : List Line) (place : ℕ) (line : Line) → Distinct set → slice_get set place ≡ Some line → without line.number set ≡ remove set place
without-at [] place line h at = absurd (none-some line at)
without-at (first ∷ lines) zero line h at =
    let e : first.number ≡ line.number = ap (λ (l : Line). l.number) (same_Some first line at) in
    without-same line.number first lines e ∙ ap (λ n. without n lines) (sym e) ∙ without-absent first.number lines h.0
without-at (first ∷ lines) (suc place) line h at =
    without-other line.number first lines (λ e. absent-at first.number lines place line h.0 at (sym e))
    ∙ ap (λ ls. first ∷ ls) (without-at lines place line h.1 at)

pub holds-at : (set : List Line) (place : ℕ) (line : Line) → slice_get set place ≡ Some line → holds line.number set ≡ true
holds-at [] place line at = absurd (none-some line at)
holds-at (first ∷ lines) zero line at = grind (arith, ap (λ (l : Line). l.number) (same_Some first line at))
holds-at (first ∷ lines) (suc place) line at = grind (arith, holds-at lines place line at)

pub holds_dirty-at : (set : List Line) (place : ℕ) (line : Line) → Distinct set → slice_get set place ≡ Some line → holds_dirty line.number set ≡ line.dirty
holds_dirty-at [] place line h at = absurd (none-some line at)
holds_dirty-at (first ∷ lines) zero line h at =
    let e : first ≡ line = same_Some first line at in
    grind (arith, holds_dirty-absent first.number lines h.0, ap (λ (l : Line). l.number) e, ap (λ (l : Line). l.dirty) e)
holds_dirty-at (first ∷ lines) (suc place) line h at =
    grind (arith, holds_dirty-at lines place line h.1 at, absent-at first.number lines place line h.0 at)

-- by the first line of a list
absent-without-cons : (number : ℕ) (line : Line) (lines : List Line) → Absent number (without number lines) →
    (line.number ≡ number) ⊎ (line.number ≢ number) → Absent number (without number (line ∷ lines))
absent-without-cons number line lines h (inl e) = rw (without-same number line lines e) h
absent-without-cons number line lines h (inr e) = rw (without-other number line lines e) (All-cons (IsOther number) line (without number lines) e h)

pub absent-without : (number : ℕ) (set : List Line) → Absent number (without number set)
absent-without number [] = All-nil (IsOther number)
absent-without number (line ∷ lines) = absent-without-cons number line lines (absent-without number lines) (cases_eq line.number number)

distinct-without-cons : (number : ℕ) (line : Line) (lines : List Line) → Absent line.number lines → Distinct (without number lines) →
    (line.number ≡ number) ⊎ (line.number ≢ number) → Distinct (without number (line ∷ lines))
distinct-without-cons number line lines a h (inl e) = rw (without-same number line lines e) h
distinct-without-cons number line lines a h (inr e) =
    rw (without-other number line lines e) (All-filter (λ l. not (l.number == number)) (IsOther line.number) lines a, h)

pub distinct-without : (number : ℕ) (set : List Line) → Distinct set → Distinct (without number set)
distinct-without number [] h = tt
distinct-without number (line ∷ lines) h =
    distinct-without-cons number line lines h.0 (distinct-without number lines h.1) (cases_eq line.number number)

pub distinct-take : (n : ℕ) (set : List Line) → Distinct set → Distinct (take n set)
distinct-take zero set h = tt
distinct-take (suc n) [] h = tt
distinct-take (suc n) (line ∷ lines) h = (All-take (IsOther line.number) n lines h.0, distinct-take n lines h.1)
