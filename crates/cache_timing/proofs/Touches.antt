-- A set after an access: a hit, and a miss that takes the way used longest ago.
use Rattle.std.proofs.Common.{◌≡◌, ◌≢◌, ℕ, suc, ◌+◌, ◌*◌, ◌^◌, ◌<◌, ◌≤◌, Bool, true, false, not, ◌||◌, ◌==◌, List, ◌∷◌, take, length, arith, ap, refl, ◌∙◌, sym, subst, add-one}
use Rattle.std.specs.Prelude.{slice_get, Option, Some, All}
use Rattle.std.specs.List.{remove}
use Rattle.std.proofs.lemmas.List.{take_all, length-take}
use Rattle.std.proofs.lemmas.List.Edits.{length-remove}
use Rattle.std.proofs.lemmas.List.Elements.{All-cons, All-filter, All-take}
use Rattle.std.proofs.lemmas.Option.{slice_get_within, get_or_from_slice_get}
use Rattle.cache_timing.specs.declared.params.CacheParams.{CacheParams}
use Rattle.cache_timing.specs.declared.cache.Line.{Line}
use Rattle.cache_timing.specs.Cache.{fronted, without, holds, holds_dirty}
use Rattle.cache_timing.specs.CacheStandsFor.{IsSet, Absent, Distinct}
use Rattle.cache_timing.proofs.Lists.{without-absent, holds_dirty-absent, without-at, holds-at, holds_dirty-at, absent-without, distinct-without, distinct-take, absent-from_places}
use Rattle.cache_timing.proofs.Places.{take-front}
use Rattle.cache_timing.proofs.Sets.{IsUpdate, IsSet-used}

-- the line's address has 32 bits
abbrev Fits : ℕ → Line → Type 0
Fits length line = line.number * length < 2 ^ 32

abbrev pub line_of : ℕ → Bool → Line
line_of number dirty = record { number = number; dirty = dirty }

-- the list after an access has no line twice, whatever it met
distinct_after : (ways number : ℕ) (writes : Bool) (set : List Line) → Distinct set → Distinct (take ways (fronted number writes set))
distinct_after ways number writes set d = distinct-take ways (fronted number writes set) (absent-without number set, distinct-without number set d)

fit_after : (size ways number : ℕ) (writes : Bool) (set : List Line) → All (Fits size) set → number * size < 2 ^ 32 →
    All (Fits size) (take ways (fronted number writes set))
fit_after size ways number writes set f h =
    All-take (Fits size) ways (fronted number writes set)
    (All-cons (Fits size) (line_of number (writes || holds_dirty number set)) (without number set) h
    (All-filter (λ line. not (line.number == number)) (Fits size) set f))

length_after : (ways number : ℕ) (writes : Bool) (set : List Line) → length (take ways (fronted number writes set)) ≤ ways
length_after ways number writes set = omega (arith, length-take ways (fronted number writes set))

-- a hit brings the line to the front
pub fronted-hit : (set : List Line) (place : ℕ) (line : Line) (writes : Bool) → Distinct set → slice_get set place ≡ Some line →
    fronted line.number writes set ≡ line_of line.number (writes || line.dirty) ∷ remove set place
fronted-hit set place line writes d at =
    ap (λ dirty. line_of line.number (writes || dirty) ∷ without line.number set) (holds_dirty-at set place line d at)
    ∙ ap (λ lines. line_of line.number (writes || line.dirty) ∷ lines) (without-at set place line d at)

or_false : (b : Bool) → (b || false) ≡ b
or_false true = refl
or_false false = refl

-- a miss puts it there
fronted-miss : (number : ℕ) (set : List Line) (writes : Bool) → Absent number set → fronted number writes set ≡ line_of number writes ∷ set
fronted-miss number set writes a =
    ap (λ dirty. line_of number (writes || dirty) ∷ without number set) (holds_dirty-absent number set a)
    ∙ ap (λ dirty. line_of number dirty ∷ without number set) (or_false writes)
    ∙ ap (λ lines. line_of number writes ∷ lines) (without-absent number set a)

-- what was in the list fits it with the line in front
pub hit_fits : (ways : ℕ) (set : List Line) (place : ℕ) (line front : Line) → length set ≤ ways → slice_get set place ≡ Some line →
    take ways (front ∷ remove set place) ≡ front ∷ remove set place
hit_fits ways set place line front within at =
    let inside : place < length set = slice_get_within set place line at in
    let shorter : length (remove set place) + 1 ≡ length set = length-remove set place inside in
    take_all ways (front ∷ remove set place) (omega arith)

pub fits_at : (size : ℕ) (set : List Line) (place : ℕ) (line : Line) → All (Fits size) set → slice_get set place ≡ Some line → line.number * size < 2 ^ 32
fits_at size set place line f at =
    let P : Line → Type 0 = Fits size in
    subst P (get_or_from_slice_get set place line line at) (f place line (slice_get_within set place line at))

pub IsSet-hit : (p : CacheParams) (line line' : ℕ → Option Line) (age age' : ℕ → ℕ) (used : ℕ) (held : Line) (writes : Bool) (set : List Line) →
    IsUpdate p.ways line line' age age' used (line_of held.number (writes || held.dirty)) → IsSet p line age set → line used ≡ Some held →
    IsSet p line' age' (take p.ways (fronted held.number writes set))
IsSet-hit p line line' age age' used held writes set u old held_there =
    let at : slice_get set (age used) ≡ Some held = sym (old.lines used u.here) ∙ held_there in
    IsSet-used p line line' age age' used (line_of held.number (writes || held.dirty)) set (take p.ways (fronted held.number writes set)) u old
    (ap (take p.ways) (fronted-hit set (age used) held writes old.distinct at)
    ∙ hit_fits p.ways set (age used) held (line_of held.number (writes || held.dirty)) old.within at)
    (length_after p.ways held.number writes set)
    (distinct_after p.ways held.number writes set old.distinct)
    (fit_after p.line p.ways held.number writes set old.fit (fits_at p.line set (age used) held old.fit at))

pub holds-hit : (p : CacheParams) (line : ℕ → Option Line) (age : ℕ → ℕ) (used : ℕ) (held : Line) (set : List Line) →
    IsSet p line age set → used < p.ways → line used ≡ Some held → holds held.number set ≡ true
holds-hit p line age used held set old here held_there = holds-at set (age used) held (sym (old.lines used here) ∙ held_there)

-- where no way holds the line, the list lacks it
pub absent-from_ways : (p : CacheParams) (line : ℕ → Option Line) (age : ℕ → ℕ) (number : ℕ) (set : List Line) → IsSet p line age set →
    ((way : ℕ) (held : Line) → way < p.ways → line way ≡ Some held → held.number ≢ number) → Absent number set
absent-from_ways p line age number set old missing =
    absent-from_places number set (λ place held at.
    let inside : place < p.ways = omega (arith, slice_get_within set place held at, old.within) in
    let here : old.order.way place < p.ways = old.order.way_within place inside in
    missing (old.order.way place) held here
    (old.lines (old.order.way place) here ∙ ap (slice_get set) (old.order.age_of_way place inside) ∙ at))

pub IsSet-miss : (p : CacheParams) (line line' : ℕ → Option Line) (age age' : ℕ → ℕ) (used number : ℕ) (writes : Bool) (set : List Line) →
    IsUpdate p.ways line line' age age' used (line_of number writes) → IsSet p line age set → age used + 1 ≡ p.ways → Absent number set →
    number * p.line < 2 ^ 32 → IsSet p line' age' (take p.ways (fronted number writes set))
IsSet-miss p line line' age age' used number writes set u old last a fits =
    let ways : p.ways ≡ suc (age used) = sym last ∙ add-one (age used) in
    IsSet-used p line line' age age' used (line_of number writes) set (take p.ways (fronted number writes set)) u old
    (ap (take p.ways) (fronted-miss number set writes a) ∙ ap (λ n. take n (line_of number writes ∷ set)) ways
    ∙ take-front (line_of number writes) set (age used) (omega (arith, old.within)))
    (length_after p.ways number writes set)
    (distinct_after p.ways number writes set old.distinct)
    (fit_after p.line p.ways number writes set old.fit fits)

-- what a miss drops is what the way used longest ago held
pub dropped-miss : (p : CacheParams) (line : ℕ → Option Line) (age : ℕ → ℕ) (used number : ℕ) (writes : Bool) (set : List Line) →
    IsSet p line age set → used < p.ways → age used + 1 ≡ p.ways → Absent number set → slice_get (fronted number writes set) p.ways ≡ line used
dropped-miss p line age used number writes set old here last a =
    ap (λ lines. slice_get lines p.ways) (fronted-miss number set writes a)
    ∙ ap (slice_get (line_of number writes ∷ set)) (sym last ∙ add-one (age used)) ∙ sym (old.lines used here)
