-- What the cache stands for after one way of one set was used.
use Rattle.std.proofs.Common.{◌≡◌, ◌≢◌, ℕ, ◌+◌, ◌*◌, ◌<◌, ◌⊎◌, inl, inr, Bool, List, length, arith, ap, ◌∙◌, sym, subst, get_or-set_same, get_or-set_other}
use Rattle.std.specs.Prelude.{Option, Some, None, IfSome, slice_get, slice_index_or, vec_len}
use Rattle.std.proofs.lemmas.Bool.{cases_eq}
use Rattle.std.proofs.lemmas.Nat.{same_from_place, rows}
use Rattle.std.proofs.lemmas.Grind.{common_steps}
use Rattle.cache_timing.specs.declared.params.CacheParams.{CacheParams}
use Rattle.cache_timing.specs.declared.cache.Line.{Line}
use Rattle.cache_timing.specs.declared.cache.Cache.{Cache}
use Rattle.cache_timing.specs.Cache.{put_at}
use Rattle.cache_timing.specs.Ages.{IsOrder, age_of}
use Rattle.cache_timing.specs.CacheStandsFor.{IsSet, IsFirst, CacheStandsFor, IsPut, line_at, age_at, latest_at}
use Rattle.cache_timing.proofs.Sets.{IsUpdate}

-- ways of other sets, and other ways of this one, lie elsewhere
other_place : (ways set way i w : ℕ) → way < ways → w < ways → (i ≢ set) ⊎ (w ≢ way) → i * ways + w ≢ set * ways + way
other_place ways set way i w here h (inl other) = λ e. other (same_from_place i w set way ways h here e).0
other_place ways set way i w here h (inr other) = λ e. other (same_from_place i w set way ways h here e).1

other_line : (old new : Cache) (set way i w : ℕ) (line : Line) → IsPut old new set way line → way < old.params.ways → w < old.params.ways →
    (i ≢ set) ⊎ (w ≢ way) → line_at new i w ≡ line_at old i w
other_line old new set way i w line put here h other =
    ap (λ (p : CacheParams). slice_index_or new.lines.items (i * p.ways + w) None) put.sizes
    ∙ ap (λ items. slice_index_or items (i * old.params.ways + w) None) put.lines
    ∙ get_or-set_other old.lines.items (set * old.params.ways + way) (i * old.params.ways + w) (Some line) None
    (other_place old.params.ways set way i w here h other)

own_line : (old new : Cache) (set way : ℕ) (line : Line) → IsPut old new set way line → way < old.params.ways → set < old.params.sets →
    line_at new set way ≡ Some line
own_line old new set way line put here within =
    let count : vec_len old.lines ≡ old.params.sets * old.params.ways = old.every_line in
    let room : set * old.params.ways + way < length old.lines.items = grind (arith, common_steps, rows) in
    ap (λ (p : CacheParams). slice_index_or new.lines.items (set * p.ways + way) None) put.sizes
    ∙ ap (λ items. slice_index_or items (set * old.params.ways + way) None) put.lines
    ∙ get_or-set_same old.lines.items (set * old.params.ways + way) (Some line) None room

pub IsUpdate-put : (old new : Cache) (set way : ℕ) (line : Line) → IsPut old new set way line → way < old.params.ways → set < old.params.sets →
    IsUpdate old.params.ways (line_at old set) (line_at new set) (age_at old set) (age_at new set) way line
IsUpdate-put old new set way line put here within = record {
  here = here;
  first = own_line old new set way line put here within;
  others = λ w h other. other_line old new set way set w line put here h (inr other);
  ages = put.ages;
}

-- a set stands for the same list where its ways hold the same lines at the same ages
IsOrder-same : (ways : ℕ) (age age' : ℕ → ℕ) → IsOrder ways age → ((w : ℕ) → w < ways → age' w ≡ age w) → IsOrder ways age'
IsOrder-same ways age age' o same = record {
  way = o.way;
  age_within = λ w h. omega (arith, same w h, o.age_within w h);
  way_within = o.way_within;
  age_of_way = λ a h. same (o.way a) (o.way_within a h) ∙ o.age_of_way a h;
  way_of_age = λ w h. ap o.way (same w h) ∙ o.way_of_age w h;
}

IsSet-same : (p : CacheParams) (line line' : ℕ → Option Line) (age age' : ℕ → ℕ) (set : List Line) → IsSet p line age set →
    ((w : ℕ) → w < p.ways → line' w ≡ line w) → ((w : ℕ) → w < p.ways → age' w ≡ age w) → IsSet p line' age' set
IsSet-same p line line' age age' set old lines ages = record {
  order = IsOrder-same p.ways age age' old.order ages;
  within = old.within;
  lines = λ w h. lines w h ∙ old.lines w h ∙ ap (slice_get set) (sym (ages w h));
  distinct = old.distinct;
  fit = old.fit;
}

pub put_at-same : (set i : ℕ) (lines : List Line) (sets : ℕ → List Line) → i ≡ set → put_at set lines sets i ≡ lines
put_at-same set i lines sets e = grind (arith, e)

pub put_at-other : (set i : ℕ) (lines : List Line) (sets : ℕ → List Line) → i ≢ set → put_at set lines sets i ≡ sets i
put_at-other set i lines sets e = grind (arith, e)

-- the set that was used stands for its new list, and each other one for its old list
lists_after : (old new : Cache) (sets : ℕ → List Line) (set way : ℕ) (line : Line) (lines : List Line) → IsPut old new set way line →
    way < old.params.ways → IsSet old.params (line_at new set) (age_at new set) lines → (i : ℕ) →
    IsSet old.params (line_at old i) (age_at old i) (sets i) → (i ≡ set) ⊎ (i ≢ set) →
    IsSet old.params (line_at new i) (age_at new i) (put_at set lines sets i)
lists_after old new sets set way line lines put here own i before (inl e) =
    let At : ℕ → Type 0 = λ k. IsSet old.params (line_at new k) (age_at new k) lines in
    let Of : List Line → Type 0 = IsSet old.params (line_at new i) (age_at new i) in
    subst Of (sym (put_at-same set i lines sets e)) (subst At (sym e) own)
lists_after old new sets set way line lines put here own i before (inr e) =
    let Of : List Line → Type 0 = IsSet old.params (line_at new i) (age_at new i) in
    subst Of (sym (put_at-other set i lines sets e))
    (IsSet-same old.params (line_at old i) (line_at new i) (age_at old i) (age_at new i) (sets i) before
    (λ w h. other_line old new set way i w line put here h (inl e)) (λ w h. ap (λ word. age_of word w) (put.others i e)))

-- the latest line of the set that was used is the one that it was used for, and each other set has its old one
latest_after : (old new : Cache) (sets : ℕ → List Line) (set way : ℕ) (line : Line) (lines : List Line) → IsPut old new set way line →
    set < old.params.sets → IsFirst lines line.number → (i : ℕ) → IfSome (latest_at old i) (IsFirst (sets i)) → (i ≡ set) ⊎ (i ≢ set) →
    IfSome (latest_at new i) (IsFirst (put_at set lines sets i))
latest_after old new sets set way line lines put within first i before (inl e) =
    let count : vec_len old.latest ≡ old.params.sets = old.every_latest in
    let room : set < length old.latest.items = omega arith in
    let own : latest_at new i ≡ Some line.number =
    ap (latest_at new) e ∙ ap (λ items. slice_index_or items set None) put.latest
    ∙ get_or-set_same old.latest.items set (Some line.number) None room in
    let Of : List Line → Type 0 = λ list. IfSome (latest_at new i) (IsFirst list) in
    let Latest : Option ℕ → Type 0 = λ o. IfSome o (IsFirst lines) in
    subst Of (sym (put_at-same set i lines sets e)) (subst Latest (sym own) first)
latest_after old new sets set way line lines put within first i before (inr e) =
    let kept : latest_at new i ≡ latest_at old i =
    ap (λ items. slice_index_or items i None) put.latest ∙ get_or-set_other old.latest.items set i (Some line.number) None e in
    let Of : List Line → Type 0 = λ list. IfSome (latest_at new i) (IsFirst list) in
    let Latest : Option ℕ → Type 0 = λ o. IfSome o (IsFirst (sets i)) in
    subst Of (sym (put_at-other set i lines sets e)) (subst Latest (sym kept) before)

pub CacheStandsFor-put : (old new : Cache) (p : CacheParams) (back : Bool) (sets : ℕ → List Line) (set way : ℕ) (line : Line) (lines : List Line) →
    CacheStandsFor old p back sets → IsPut old new set way line → way < old.params.ways → set < old.params.sets →
    IsSet old.params (line_at new set) (age_at new set) lines → IsFirst lines line.number → CacheStandsFor new p back (put_at set lines sets)
CacheStandsFor-put old new p back sets set way line lines keeps put here within own first = record {
  sizes = put.sizes ∙ keeps.sizes;
  policy = put.policy ∙ keeps.policy;
  lists = λ i inside.
      let Before : CacheParams → Type 0 = λ q. IsSet q (line_at old i) (age_at old i) (sets i) in
      let After : CacheParams → Type 0 = λ q. IsSet q (line_at new i) (age_at new i) (put_at set lines sets i) in
      subst After keeps.sizes
      (lists_after old new sets set way line lines put here own i (subst Before (sym keeps.sizes) (keeps.lists i inside)) (cases_eq i set));
  latest = λ i inside. latest_after old new sets set way line lines put within first i (keeps.latest i inside) (cases_eq i set);
}
