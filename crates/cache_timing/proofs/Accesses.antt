-- What the cache stands for after a hit, and after a miss.
use Rattle.std.proofs.Common.{◌≡◌, ◌≢◌, ℕ, zero, suc, ◌+◌, ◌-◌, ◌*◌, ◌%◌, ◌/◌, ◌^◌, ◌<◌, Bool, true, false, ◌||◌, ◌&&◌, List, take, arith, ap, refl, ◌∙◌, sym, subst}
use Rattle.std.specs.Prelude.{Option, Some, None, IfSome, slice_get}
use Rattle.cache_timing.specs.declared.params.CacheParams.{CacheParams}
use Rattle.cache_timing.specs.declared.cache.Line.{Line}
use Rattle.cache_timing.specs.declared.cache.Cache.{Cache}
use Rattle.cache_timing.specs.declared.cache.Touch.TheVariants as touch
use Rattle.cache_timing.specs.Cache.{put_at, fronted, holds, touched_line, touched, written_back}
use Rattle.cache_timing.specs.Ages.{IsOrder}
use Rattle.cache_timing.specs.CacheStandsFor.{IsSet, IsFirst, CacheStandsFor, IsPut, Absent, line_at, age_at}
use Rattle.cache_timing.proofs.Lists.{holds-absent}
use Rattle.cache_timing.proofs.Touches.{line_of, fits_at, IsSet-hit, holds-hit, IsSet-miss, dropped-miss, absent-from_ways}
use Rattle.cache_timing.proofs.Kept.{IsUpdate-put, CacheStandsFor-put}

-- what is shown at the cache's own sizes holds at those that it has
pub at_sizes : (it : Cache) (p : CacheParams) (back : Bool) (sets : ℕ → List Line) (Q : CacheParams → Type 0) → CacheStandsFor it p back sets →
    (CacheStandsFor it it.params back sets → Q it.params) → Q p
at_sizes it p back sets Q keeps f =
    let K : CacheParams → Type 0 = λ q. CacheStandsFor it q back sets in subst Q keeps.sizes (f (subst K (sym keeps.sizes) keeps))

-- the line of an access is the first of its set then
pub first_after : (ways number : ℕ) (writes : Bool) (set : List Line) → 0 < ways → IsFirst (take ways (fronted number writes set)) number
first_after zero number writes set some = absurd (omega arith)
first_after (suc ways) number writes set some = refl

hit_here : (old new : Cache) (back : Bool) (sets : ℕ → List Line) (way : ℕ) (held : Line) (writes : Bool) → CacheStandsFor old old.params back sets →
    IsPut old new (held.number % old.params.sets) way (line_of held.number (writes || held.dirty)) → held.number % old.params.sets < old.params.sets →
    way < old.params.ways → line_at old (held.number % old.params.sets) way ≡ Some held →
    CacheStandsFor new old.params back (touched_line old.params held.number writes sets).sets
hit_here old new back sets way held writes keeps put within here there =
    let set : ℕ = held.number % old.params.sets in
    CacheStandsFor-put old new old.params back sets set way (line_of held.number (writes || held.dirty)) (take old.params.ways (fronted held.number writes (sets set)))
    keeps put here within
    (IsSet-hit old.params (line_at old set) (line_at new set) (age_at old set) (age_at new set) way held writes (sets set)
    (IsUpdate-put old new set way (line_of held.number (writes || held.dirty)) put here within) (keeps.lists set within) there)
    (first_after old.params.ways held.number writes (sets set) (omega (arith, here)))

pub touch_hit : (p : CacheParams) (number : ℕ) (writes : Bool) (sets : ℕ → List Line) → holds number (sets (number % p.sets)) ≡ true →
    (touched_line p number writes sets).touch ≡ touch.Hit
touch_hit p number writes sets h = rw h refl

touch_miss : (p : CacheParams) (number : ℕ) (writes : Bool) (sets : ℕ → List Line) → holds number (sets (number % p.sets)) ≡ false →
    (touched_line p number writes sets).touch ≡ touch.Miss (written_back p.line (slice_get (fronted number writes (sets (number % p.sets))) p.ways))
touch_miss p number writes sets h = rw h refl

-- a hit
pub CacheStandsFor-hit : (old new : Cache) (p : CacheParams) (back : Bool) (sets : ℕ → List Line) (set way : ℕ) (held : Line) (writes : Bool) →
    CacheStandsFor old p back sets → set ≡ held.number % old.params.sets → IsPut old new set way (line_of held.number (writes || held.dirty)) →
    set < old.params.sets → way < old.params.ways → line_at old set way ≡ Some held →
    CacheStandsFor new p back (touched_line p held.number writes sets).sets
CacheStandsFor-hit old new p back sets set way held writes keeps is put within here there =
    let Put : ℕ → Type 0 = λ k. IsPut old new k way (line_of held.number (writes || held.dirty)) in
    let Within : ℕ → Type 0 = λ k. k < old.params.sets in
    let There : ℕ → Type 0 = λ k. line_at old k way ≡ Some held in
    at_sizes old p back sets (λ q. CacheStandsFor new q back (touched_line q held.number writes sets).sets) keeps
    (λ own. hit_here old new back sets way held writes own (subst Put is put) (subst Within is within) here (subst There is there))

pub touch-hit : (old : Cache) (p : CacheParams) (back : Bool) (sets : ℕ → List Line) (set way : ℕ) (held : Line) (writes : Bool) →
    CacheStandsFor old p back sets → set ≡ held.number % old.params.sets → set < old.params.sets → way < old.params.ways → line_at old set way ≡ Some held →
    (touched_line p held.number writes sets).touch ≡ touch.Hit
touch-hit old p back sets set way held writes keeps is within here there =
    let Held : ℕ → Type 0 = λ k. holds held.number (sets k) ≡ true in
    at_sizes old p back sets (λ q. (touched_line q held.number writes sets).touch ≡ touch.Hit) keeps
    (λ own.
    touch_hit old.params held.number writes sets
    (subst Held is (holds-hit old.params (line_at old set) (age_at old set) way held (sets set) (own.lists set within) here there)))

-- the way used longest ago of a set that lacks the line
pub record IsMiss (old : Cache) (set way number : ℕ) : Type 0 where
  pub place : set ≡ number % old.params.sets
  pub within : set < old.params.sets
  pub here : way < old.params.ways
  pub oldest : IsOrder old.params.ways (age_at old set) → age_at old set way + 1 ≡ old.params.ways
  pub missing : (w : ℕ) (held : Line) → w < old.params.ways → line_at old set w ≡ Some held → held.number ≢ number

-- the way that has the last age in an order
pub last_age : (it : Cache) (set way : ℕ) → 0 < it.params.ways →
    ((w : ℕ) → w < it.params.ways → age_at it set w ≡ it.params.ways - 1 → age_at it set way ≡ it.params.ways - 1) →
    IsOrder it.params.ways (age_at it set) → age_at it set way + 1 ≡ it.params.ways
last_age it set way some oldest o =
    let inside : it.params.ways - 1 < it.params.ways = omega arith in
    let last : age_at it set way ≡ it.params.ways - 1 =
    oldest (o.way (it.params.ways - 1)) (o.way_within (it.params.ways - 1) inside) (o.age_of_way (it.params.ways - 1) inside) in
    omega arith

miss_here : (old new : Cache) (back : Bool) (sets : ℕ → List Line) (set way : ℕ) (line : Line) → CacheStandsFor old old.params back sets →
    IsMiss old set way line.number → IsPut old new set way line → line.number * old.params.line < 2 ^ 32 →
    CacheStandsFor new old.params back (put_at set (take old.params.ways (fronted line.number line.dirty (sets set))) sets)
miss_here old new back sets set way line keeps miss put fits =
    let own : IsSet old.params (line_at old set) (age_at old set) (sets set) = keeps.lists set miss.within in
    CacheStandsFor-put old new old.params back sets set way line (take old.params.ways (fronted line.number line.dirty (sets set))) keeps put miss.here miss.within
    (IsSet-miss old.params (line_at old set) (line_at new set) (age_at old set) (age_at new set) way line.number line.dirty (sets set)
    (IsUpdate-put old new set way line put miss.here miss.within) own (miss.oldest own.order)
    (absent-from_ways old.params (line_at old set) (age_at old set) line.number (sets set) own miss.missing) fits)
    (first_after old.params.ways line.number line.dirty (sets set) (omega (arith, miss.here)))

pub CacheStandsFor-miss : (old new : Cache) (p : CacheParams) (back : Bool) (sets : ℕ → List Line) (set way : ℕ) (line : Line) → CacheStandsFor old p back sets →
    IsMiss old set way line.number → IsPut old new set way line → line.number * old.params.line < 2 ^ 32 →
    CacheStandsFor new p back (touched_line p line.number line.dirty sets).sets
CacheStandsFor-miss old new p back sets set way line keeps miss put fits =
    let After : ℕ → Type 0 = λ k. CacheStandsFor new old.params back (put_at k (take old.params.ways (fronted line.number line.dirty (sets k))) sets) in
    at_sizes old p back sets (λ q. CacheStandsFor new q back (touched_line q line.number line.dirty sets).sets) keeps
    (λ own. subst After miss.place (miss_here old new back sets set way line own miss put fits))

touch_miss_here : (old : Cache) (back : Bool) (sets : ℕ → List Line) (set way number : ℕ) (writes : Bool) → CacheStandsFor old old.params back sets →
    IsMiss old set way number →
    (holds number (sets set) ≡ false) × (slice_get (fronted number writes (sets set)) old.params.ways ≡ line_at old set way)
touch_miss_here old back sets set way number writes keeps miss =
    let own : IsSet old.params (line_at old set) (age_at old set) (sets set) = keeps.lists set miss.within in
    let absent : Absent number (sets set) = absent-from_ways old.params (line_at old set) (age_at old set) number (sets set) own miss.missing in (
      holds-absent number (sets set) absent,
      dropped-miss old.params (line_at old set) (age_at old set) way number writes (sets set) own miss.here (miss.oldest own.order) absent,
    )

-- a miss drops what the way held
pub touch-miss : (old : Cache) (p : CacheParams) (back : Bool) (sets : ℕ → List Line) (set way number : ℕ) (writes : Bool) → CacheStandsFor old p back sets →
    IsMiss old set way number → (touched_line p number writes sets).touch ≡ touch.Miss (written_back p.line (line_at old set way))
touch-miss old p back sets set way number writes keeps miss =
    at_sizes old p back sets (λ q. (touched_line q number writes sets).touch ≡ touch.Miss (written_back q.line (line_at old set way))) keeps
    (λ own.
    let Holds : ℕ → Type 0 = λ k. holds number (sets k) ≡ false in
    let Drops : ℕ → Type 0 = λ k. slice_get (fronted number writes (sets k)) old.params.ways ≡ line_at old set way in
    let here : (holds number (sets set) ≡ false) × (slice_get (fronted number writes (sets set)) old.params.ways ≡ line_at old set way) =
    touch_miss_here old back sets set way number writes own miss in
    touch_miss old.params number writes sets (subst Holds miss.place here.0)
    ∙ ap (λ line. touch.Miss (written_back old.params.line line)) (subst Drops miss.place here.1))

line_fits : (p : CacheParams) (line : ℕ → Option Line) (age : ℕ → ℕ) (set : List Line) (way : ℕ) → IsSet p line age set → way < p.ways →
    (o : Option Line) → line way ≡ o → IfSome o (λ l. l.number * p.line < 2 ^ 32)
line_fits p line age set way own here None is = tt
line_fits p line age set way own here (Some l) is = fits_at p.line set (age way) l own.fit (sym (own.lines way here) ∙ is)

-- the address of what a way holds has 32 bits
pub fits-at : (it : Cache) (p : CacheParams) (back : Bool) (sets : ℕ → List Line) (set way : ℕ) → CacheStandsFor it p back sets → set < it.params.sets →
    way < it.params.ways → IfSome (line_at it set way) (λ l. l.number * it.params.line < 2 ^ 32)
fits-at it p back sets set way keeps within here =
    at_sizes it p back sets (λ _. IfSome (line_at it set way) (λ l. l.number * it.params.line < 2 ^ 32)) keeps
    (λ own. line_fits it.params (line_at it set) (age_at it set) (sets set) way (own.lists set within) here (line_at it set way) refl)

written_back-some : (size bits : ℕ) (line : Line) → size ≡ 2 ^ bits → line.dirty ≡ true → line.number * size < 2 ^ 32 →
    Some (line.number * 2 ^ bits % 2 ^ 32) ≡ written_back size (Some line)
written_back-some size bits line power dirty fits =
    let same : line.number * 2 ^ bits ≡ line.number * size = ap (λ n. line.number * n) (sym power) in
    let whole : line.number * 2 ^ bits % 2 ^ 32 ≡ line.number * size = omega arith in rw dirty (ap Some whole)

-- the address of a dirty line by a shift
pub dirty-at : (it : Cache) (p : CacheParams) (back : Bool) (sets : ℕ → List Line) (set way : ℕ) (line : Line) → CacheStandsFor it p back sets →
    set < it.params.sets → way < it.params.ways → line_at it set way ≡ Some line → line.dirty ≡ true →
    Some (line.number * 2 ^ it.line_bits % 2 ^ 32) ≡ written_back p.line (line_at it set way)
dirty-at it p back sets set way line keeps within here is dirty =
    let F : Option Line → Type 0 = λ o. IfSome o (λ l. l.number * it.params.line < 2 ^ 32) in
    at_sizes it p back sets (λ q. Some (line.number * 2 ^ it.line_bits % 2 ^ 32) ≡ written_back q.line (line_at it set way)) keeps
    (λ _.
    written_back-some it.params.line it.line_bits line it.line_power dirty (subst F is (fits-at it p back sets set way keeps within here))
    ∙ ap (written_back it.params.line) (sym is))

nothing_touched : (p : CacheParams) (back : Bool) (sets : ℕ → List Line) (addr : ℕ) (write : Bool) → p.ways ≡ 0 →
    touched p back sets addr write ≡ record { sets = sets; touch = touch.None }
unfolding touched
nothing_touched p back sets addr write none = grind (arith, none)

pub line_touched : (p : CacheParams) (back : Bool) (sets : ℕ → List Line) (addr : ℕ) (write : Bool) → p.ways ≢ 0 →
    touched p back sets addr write ≡ touched_line p (addr / p.line) (back && write) sets
unfolding touched
line_touched p back sets addr write some = grind (arith, some)

-- a cache without ways is left as it is
pub touched-none : (it : Cache) (p : CacheParams) (back : Bool) (sets : ℕ → List Line) (addr : ℕ) (write : Bool) → CacheStandsFor it p back sets →
    it.params.ways ≡ 0 → touched p back sets addr write ≡ record { sets = sets; touch = touch.None }
touched-none it p back sets addr write keeps none =
    nothing_touched p back sets addr write (ap (λ (q : CacheParams). q.ways) (sym keeps.sizes) ∙ none)

-- an access goes to the line of its number, which a shift finds
pub touched-some : (it : Cache) (p : CacheParams) (back : Bool) (sets : ℕ → List Line) (addr : ℕ) (write : Bool) (number : ℕ) (writes : Bool) →
    CacheStandsFor it p back sets → it.params.ways ≢ 0 → number ≡ addr / 2 ^ it.line_bits → writes ≡ (it.back && write) →
    touched p back sets addr write ≡ touched_line p number writes sets
touched-some it p back sets addr write number writes keeps some shifted policy =
    let length : p.line ≡ 2 ^ it.line_bits = ap (λ (q : CacheParams). q.line) (sym keeps.sizes) ∙ it.line_power in
    let ways : p.ways ≢ 0 = λ none. some (ap (λ (q : CacheParams). q.ways) keeps.sizes ∙ none) in
    line_touched p back sets addr write ways
    ∙ ap (λ size. touched_line p (addr / size) (back && write) sets) length
    ∙ ap (λ n. touched_line p n (back && write) sets) (sym shifted)
    ∙ ap (λ b. touched_line p number (b && write) sets) (sym keeps.policy)
    ∙ ap (λ b. touched_line p number b sets) (sym policy)
