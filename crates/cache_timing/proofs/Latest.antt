-- A read of the line used last in its set changes nothing: it is the first of its set already.
use Rattle.std.proofs.Common.{◌≡◌, ◌≢◌, ℕ, ◌%◌, ◌/◌, ◌^◌, ◌<◌, Bool, true, false, ◌&&◌, List, [], ◌∷◌, take, inl, inr, arith, ap, refl, ◌∙◌, sym, subst}
use Rattle.std.specs.Prelude.{Option, Some, IfSome}
use Rattle.std.proofs.lemmas.Bool.{cases_eq}
use Rattle.fsim_base.proofs.Powers.{power_positive}
use Rattle.cache_timing.specs.declared.params.CacheParams.{CacheParams}
use Rattle.cache_timing.specs.declared.cache.Line.{Line}
use Rattle.cache_timing.specs.declared.cache.Cache.{Cache}
use Rattle.cache_timing.specs.declared.cache.Touch.TheVariants as touch
use Rattle.cache_timing.specs.declared.last_line.LastLine.{LastLine}
use Rattle.cache_timing.specs.declared.params.AllCaches.{AllCaches}
use Rattle.cache_timing.specs.Caches.{CachesState, followed, dcache_touched, fetched, loaded, stored, icache_counted, dcache_counted}
use Rattle.cache_timing.specs.Cache.{Touched, touched, touched_line, fronted, holds}
use Rattle.cache_timing.specs.CacheStandsFor.{IsSet, IsFirst, CacheStandsFor, line_at, age_at, latest_at}
use Rattle.cache_timing.specs.CachesStandFor.{IsLatest}
use Rattle.cache_timing.proofs.Lists.{holds-at}
use Rattle.cache_timing.proofs.Touches.{fronted-hit, hit_fits}
use Rattle.cache_timing.proofs.Kept.{put_at-same, put_at-other}
use Rattle.cache_timing.proofs.Accesses.{at_sizes, first_after, touch_hit, line_touched}

first_held : (number : ℕ) (set : List Line) → IsFirst set number → holds number set ≡ true
first_held number [] first = absurd first
first_held number (line ∷ lines) first =
    let Held : ℕ → Type 0 = λ n. holds n (line ∷ lines) ≡ true in subst Held first (holds-at (line ∷ lines) 0 line refl)

first_ways : (p : CacheParams) (line : ℕ → Option Line) (age : ℕ → ℕ) (number : ℕ) (set : List Line) → IsSet p line age set →
    IsFirst set number → p.ways ≢ 0
first_ways p line age number [] own first = absurd first
first_ways p line age number (l ∷ lines) own first = λ none. absurd (omega (arith, own.within, none))

first_stays : (p : CacheParams) (line : ℕ → Option Line) (age : ℕ → ℕ) (number : ℕ) (set : List Line) → IsSet p line age set →
    IsFirst set number → take p.ways (fronted number false set) ≡ set
first_stays p line age number [] own first = absurd first
first_stays p line age number (l ∷ lines) own first =
    let Stays : ℕ → Type 0 = λ n. take p.ways (fronted n false (l ∷ lines)) ≡ l ∷ lines in
    subst Stays first
    (ap (take p.ways) (fronted-hit (l ∷ lines) 0 l false own.distinct refl) ∙ hit_fits p.ways (l ∷ lines) 0 l l own.within refl)

lists_stay : (it : Cache) (p : CacheParams) (back : Bool) (sets : ℕ → List Line) (number : ℕ) → CacheStandsFor it p back sets →
    number % p.sets < p.sets → IsFirst (sets (number % p.sets)) number → (i : ℕ) → (touched_line p number false sets).sets i ≡ sets i
lists_stay it p back sets number keeps within first i =
    let set : ℕ = number % p.sets in
    let list : List Line = take p.ways (fronted number false (sets set)) in
    elim (cases_eq i set) [
      | inl e ↦
          put_at-same set i list sets e
          ∙ first_stays p (line_at it set) (age_at it set) number (sets set) (keeps.lists set within) first ∙ ap sets (sym e)
      | inr e ↦ put_at-other set i list sets e
    ]

CacheStandsFor-same : (it : Cache) (p : CacheParams) (back : Bool) (sets sets' : ℕ → List Line) → CacheStandsFor it p back sets →
    ((i : ℕ) → sets' i ≡ sets i) → CacheStandsFor it p back sets'
CacheStandsFor-same it p back sets sets' keeps same = record {
  sizes = keeps.sizes;
  policy = keeps.policy;
  lists = λ i within. subst (IsSet p (line_at it i) (age_at it i)) (sym (same i)) (keeps.lists i within);
  latest = λ i within.
      let Latest : List Line → Type 0 = λ set. IfSome (latest_at it i) (IsFirst set) in
      subst Latest (sym (same i)) (keeps.latest i within);
}

place_within : (it : Cache) (p : CacheParams) (back : Bool) (sets : ℕ → List Line) (number : ℕ) → CacheStandsFor it p back sets →
    number % p.sets < p.sets
place_within it p back sets number keeps =
    at_sizes it p back sets (λ q. number % q.sets < q.sets) keeps
    (λ _. let positive : 0 < it.params.sets = power_positive it.params.sets it.in_range.sets in omega arith)

-- a read of an address is a hit that leaves the cache as it is
abbrev pub IsRead : Cache → CacheParams → Bool → Touched → Type 0
IsRead it p back t = (t.touch ≡ touch.Hit) × CacheStandsFor it p back t.sets

-- the line of an address is the first of its set
abbrev pub IsFront : CacheParams → (ℕ → List Line) → ℕ → Type 0
IsFront p sets addr = IsFirst (sets (addr / p.line % p.sets)) (addr / p.line)

pub front_ways : (it : Cache) (p : CacheParams) (back : Bool) (sets : ℕ → List Line) (addr : ℕ) → CacheStandsFor it p back sets →
    IsFront p sets addr → p.ways ≢ 0
front_ways it p back sets addr keeps first =
    let set : ℕ = addr / p.line % p.sets in
    first_ways p (line_at it set) (age_at it set) (addr / p.line) (sets set)
    (keeps.lists set (place_within it p back sets (addr / p.line) keeps)) first

pub read_only : (b : Bool) → false ≡ (b && false)
read_only true = refl
read_only false = refl

-- so is any access of the line in front that doesn't make it dirty
pub access-front : (it : Cache) (p : CacheParams) (back : Bool) (sets : ℕ → List Line) (addr : ℕ) (write : Bool) → CacheStandsFor it p back sets →
    false ≡ (back && write) → IsFront p sets addr → IsRead it p back (touched p back sets addr write)
access-front it p back sets addr write keeps clean first =
    let number : ℕ = addr / p.line in
    let set : ℕ = number % p.sets in
    let within : set < p.sets = place_within it p back sets number keeps in
    let some : p.ways ≢ 0 = front_ways it p back sets addr keeps first in
    let same : touched p back sets addr write ≡ touched_line p number false sets =
    line_touched p back sets addr write some ∙ ap (λ b. touched_line p number b sets) (sym clean) in
    subst (IsRead it p back) (sym same) (
      touch_hit p number false sets (first_held number (sets set) first),
      CacheStandsFor-same it p back sets (touched_line p number false sets).sets keeps
          (lists_stay it p back sets number keeps within first),
    )

latest_front : (it : Cache) (p : CacheParams) (back : Bool) (sets : ℕ → List Line) (addr : ℕ) → CacheStandsFor it p back sets →
    latest_at it (addr / 2 ^ it.line_bits % it.params.sets) ≡ Some (addr / 2 ^ it.line_bits) → IsFront p sets addr
latest_front it p back sets addr keeps is =
    let number : ℕ = addr / 2 ^ it.line_bits in
    at_sizes it p back sets (λ q. IsFront q sets addr) keeps
    (λ own.
    let Latest : Option ℕ → Type 0 = λ o. IfSome o (IsFirst (sets (number % it.params.sets))) in
    let First : ℕ → Type 0 = λ size. IsFirst (sets (addr / size % it.params.sets)) (addr / size) in
    subst First (sym it.line_power)
    (subst Latest is (own.latest (number % it.params.sets) (place_within it it.params back sets number own))))

pub access-latest : (it : Cache) (p : CacheParams) (back : Bool) (sets : ℕ → List Line) (addr : ℕ) (write : Bool) → CacheStandsFor it p back sets →
    false ≡ (it.back && write) → latest_at it (addr / 2 ^ it.line_bits % it.params.sets) ≡ Some (addr / 2 ^ it.line_bits) →
    IsRead it p back (touched p back sets addr write)
access-latest it p back sets addr write keeps clean is =
    access-front it p back sets addr write keeps (clean ∙ ap (λ b. b && write) keeps.policy) (latest_front it p back sets addr keeps is)

-- an address of the line that was accessed last
pub record IsAgain (line : LastLine) (p : CacheParams) (sets : ℕ → List Line) (addr : ℕ) : Type 0 where
  pub length : line.length ≡ p.line
  pub same : line.addr / p.line ≡ addr / p.line
  pub front : IsFront p sets addr

pub IsAgain-latest : (line : LastLine) (p : CacheParams) (sets : ℕ → List Line) (addr : ℕ) → IsLatest line p sets → line.length ≢ 0 →
    line.addr / line.length ≡ addr / line.length → IsAgain line p sets addr
IsAgain-latest line p sets addr latest some same =
    let First : ℕ → Type 0 = λ number. IsFirst (sets (number % p.sets)) number in
    let Same : ℕ → Type 0 = λ size. line.addr / size ≡ addr / size in
    let here : (line.length ≡ p.line) × First (line.addr / p.line) = latest some in
    let own : line.addr / p.line ≡ addr / p.line = subst Same here.0 same in
    record { length = here.0; same = own; front = subst First own here.1 }

-- the line of an access is the first of its set then
pub IsLatest-touched : (line : LastLine) (p : CacheParams) (back : Bool) (sets : ℕ → List Line) (addr : ℕ) (write : Bool) → p.ways ≢ 0 →
    line.length ≡ p.line → line.addr / p.line ≡ addr / p.line → IsLatest line p (touched p back sets addr write).sets
IsLatest-touched line p back sets addr write ways length same =
    let number : ℕ = addr / p.line in
    let set : ℕ = number % p.sets in
    let list : List Line = take p.ways (fronted number (back && write) (sets set)) in
    let First : ℕ → Type 0 = λ n. IsFirst ((touched p back sets addr write).sets (n % p.sets)) n in
    let Front : Touched → Type 0 = λ t. IsFirst (t.sets set) number in
    let Of : List Line → Type 0 = λ lines. IsFirst lines number in
    let front : Of list = first_after p.ways number (back && write) (sets set) (omega (arith, ways)) in
    λ some. (
      length,
      subst First (sym same)
          (subst Front (sym (line_touched p back sets addr write ways)) (subst Of (sym (put_at-same set set list sets refl)) front)),
    )

pub IsLatest-around : (it : Cache) (line : LastLine) (p : CacheParams) (back : Bool) (sets : ℕ → List Line) (addr : ℕ) (write : Bool) → it.params ≡ p →
    p.ways ≢ 0 → line.addr ≡ addr → line.length ≡ it.params.line → IsLatest line p (touched p back sets addr write).sets
IsLatest-around it line p back sets addr write sizes ways at length =
    IsLatest-touched line p back sets addr write ways (length ∙ ap (λ (q : CacheParams). q.line) sizes) (ap (λ n. n / p.line) at)

-- a fetch that hits adds no cycles
pub fetched-hit : (p : AllCaches) (s : CachesState) (addr : ℕ) → (touched p.icache false s.icache addr false).touch ≡ touch.Hit →
    fetched p s addr ≡ record {
      state = record s {
        icache = (touched p.icache false s.icache addr false).sets;
        counts = icache_counted touch.Hit s.counts;
      };
      cycles = 0;
    }
unfolding fetched
fetched-hit p s addr hit = rw hit refl

-- nor does a load that hits
pub loaded-hit : (p : AllCaches) (s : CachesState) (addr : ℕ) → (touched p.dcache p.back s.dcache addr false).touch ≡ touch.Hit →
    loaded p s addr ≡ record {
      state = record s {
        dcache = (touched p.dcache p.back s.dcache addr false).sets;
        counts = dcache_counted touch.Hit s.counts;
      };
      cycles = 0;
    }
unfolding loaded
loaded-hit p s addr hit = rw hit refl

-- an access of a cache that isn't there changes nothing, and adds no cycles
pub fetched-none : (p : AllCaches) (s : CachesState) (addr : ℕ) →
    touched p.icache false s.icache addr false ≡ record { sets = s.icache; touch = touch.None } →
    fetched p s addr ≡ record { state = s; cycles = 0 }
unfolding fetched
fetched-none p s addr none = rw none refl

pub loaded-none : (p : AllCaches) (s : CachesState) (addr : ℕ) →
    touched p.dcache p.back s.dcache addr false ≡ record { sets = s.dcache; touch = touch.None } →
    loaded p s addr ≡ record { state = s; cycles = 0 }
unfolding loaded
loaded-none p s addr none = rw none refl

pub stored-none : (p : AllCaches) (s : CachesState) (addr : ℕ) →
    touched p.dcache p.back s.dcache addr true ≡ record { sets = s.dcache; touch = touch.None } → stored p s addr ≡ s
unfolding stored
stored-none p s addr none = ap (λ (t : Touched). (followed p p.dcache.miss addr t.touch (dcache_touched s t)).state) none
