-- Accesses of the caches are made, one after another, and counted.
use Rattle.std.proofs.Common.{◌≡◌, ◌∙◌, ℕ, suc, ◌+◌, Option, Some, None, List, [], ◌∷◌, ◌++◌, append_assoc, map, take, refl, sym, ap, subst, arith}
use Rattle.std.specs.Prelude.{filter_map, flat_map, option_to_list, slice_get}
use Rattle.std.specs.List.{cons_option}
use Rattle.std.proofs.lemmas.Grind.{flat_map-append}
use Rattle.std.proofs.lemmas.List.{append-nil}
use Rattle.std.proofs.lemmas.List.Elements.{filter_map-append}
use Rattle.elf_image.specs.declared.image.Image.{Image}
use Rattle.cache_timing.specs.declared.params.AllCaches.{AllCaches}
use Rattle.cache_timing.specs.declared.caches.Caches.{Caches}
use Rattle.cache_timing.specs.declared.counts.CacheCounts.{CacheCounts}
use Rattle.cache_timing.specs.Caches.{CachesState}
use Rattle.cache_timing.specs.CachesStandFor.{CachesStandFor}
use Rattle.insight_model.specs.Accesses.{CacheAccess, CacheUse, Change, changes_from, rise, used}
use Rattle.insight_model.specs.Profile.{Event, cache_events, change_events, row_of}
use Rattle.insight_model.specs.Sight.{Shown}
use Rattle.cycle_watch.specs.declared.profile.Profiling.{Profiling}
use Rattle.cycle_watch.specs.Profiled.{HasAccessed, HasCounted, Makes, access_events, caches_after}
use Rattle.cycle_watch.proofs.RowEvents.{counted_still}
use Rattle.cycle_watch.proofs.Windows.{take_push}

pub caches_both : (p : AllCaches) (state : CachesState) (some more : List CacheAccess) → caches_after p state (some ++ more) ≡ caches_after p (caches_after p state some) more
caches_both p state [] more = refl
caches_both p state (made ∷ some) more = caches_both p (used p state made.what) some more

changes_both : (p : AllCaches) (state : CachesState) (some more : List CacheAccess) → changes_from p state (some ++ more) ≡ changes_from p state some ++ changes_from p (caches_after p state some) more
changes_both p state [] more = refl
changes_both p state (made ∷ some) more =
    let after : CachesState = used p state made.what in
    ap (λ (rest : List Change). record { by = made.by; counts = rise state.counts after.counts } ∷ rest) (changes_both p after some more)

pub access_both : (image : Image) (p : AllCaches) (state : CachesState) (some more : List CacheAccess) →
    access_events image p state (some ++ more) ≡ access_events image p state some ++ access_events image p (caches_after p state some) more
access_both image p state some more =
    ap (flat_map (change_events image)) (changes_both p state some more)
    ∙ flat_map-append (change_events image) (changes_from p state some) (changes_from p (caches_after p state some) more)

-- none, and more
pub makes_none : (old : Profiling) → Makes [] old old
makes_none old = record {
  each = λ image p state all appended has.
      let E : List Event → Type 0 = λ es. HasAccessed image p state es appended old in
      subst E (sym (append-nil all)) has;
}

pub makes_more : (some more : List CacheAccess) (old mid new : Profiling) → Makes some old mid → Makes more mid new → Makes (some ++ more) old new
makes_more some more old mid new first second = record {
  each = λ image p state all appended has.
      let then = caches_after p state some in
      let es = access_events image p state some in
      let fs = access_events image p then more in
      let there : HasAccessed image p (caches_after p then more) ((all ++ es) ++ fs) appended new =
      second.each image p then (all ++ es) appended (first.each image p state all appended has) in
      let S : CachesState → Type 0 = λ s. HasAccessed image p s (all ++ access_events image p state (some ++ more)) appended new in
      let E : List Event → Type 0 = λ xs. HasAccessed image p (caches_after p then more) xs appended new in
      subst S (sym (caches_both p state some more))
      (subst E (append_assoc all es fs ∙ ap (λ (xs : List Event). all ++ xs) (sym (access_both image p state some more))) there);
}

-- made so far, of a list that each makes one or none of
abbrev pub MakesFirst : {A : Type 0} → (A → Option CacheAccess) → ℕ → List A → Profiling → Profiling → Type 0
MakesFirst makes place items old new = Makes (filter_map makes (take place items)) old new

pub makes_next : {A : Type 0} (makes : A → Option CacheAccess) (place next : ℕ) (items : List A) (x : A) (old mid new : Profiling) → slice_get items place ≡ Some x → next ≡ place + 1 →
    MakesFirst makes place items old mid → Makes (option_to_list (makes x)) mid new → MakesFirst makes next items old new
makes_next {A = A} makes place next items x old mid new there on first second =
    let one : filter_map makes (x ∷ []) ≡ option_to_list (makes x) = one_of (makes x) in
    let step : next ≡ suc place = omega (arith, on) in
    let all : filter_map makes (take next items) ≡ filter_map makes (take place items) ++ option_to_list (makes x) =
    ap (λ (n : ℕ). filter_map makes (take n items)) step ∙ ap (filter_map makes) (take_push items place x there)
    ∙ filter_map-append makes (take place items) (x ∷ []) ∙ ap (λ (xs : List CacheAccess). filter_map makes (take place items) ++ xs) one in
    let M : List CacheAccess → Type 0 = λ xs. Makes xs old new in
    subst M (sym all) (makes_more (filter_map makes (take place items)) (option_to_list (makes x)) old mid new first second)
  where
    one_of : (o : Option CacheAccess) → cons_option o [] ≡ option_to_list o
    one_of None = refl
    one_of (Some made) = refl

pub made_all : {A : Type 0} (makes : A → CacheAccess) (items : List A) → filter_map (λ x. Some (makes x)) items ≡ map makes items
made_all makes [] = refl
made_all makes (x ∷ items) = ap (λ (rest : List CacheAccess). makes x ∷ rest) (made_all makes items)

-- one access: the caches change, and then the counts
module _ (by : ℕ) (what : CacheUse) (old mid new : Profiling) (before after : CacheCounts) where
  pub one_made : (old_caches : (p : AllCaches) (s : CachesState) → CachesStandFor old.caches p s → before ≡ s.counts) →
      ((p : AllCaches) (s : CachesState) → CachesStandFor old.caches p s → CachesStandFor mid.caches p (used p s what)) →
      ((p : AllCaches) (s : CachesState) → CachesStandFor mid.caches p s → after ≡ s.counts) → mid.rows ≡ old.rows → mid.counts ≡ old.counts → new.caches ≡ mid.caches →
      ((image : Image) (all : List Event) (appended : List Shown) → HasCounted image all appended mid → HasCounted image (all ++ cache_events (row_of image by) (rise before after)) appended new) →
      Makes (record { by = by; what = what } ∷ []) old new
  one_made had made has rows counts caches counted = record {
    each = λ image p state all appended there.
        let next : CachesState = used p state what in
        let stands : CachesStandFor mid.caches p next = made p state there.caches in
        let S : Caches → Type 0 = λ c. CachesStandFor c p next in
        let E : List Event → Type 0 = λ es. HasCounted image es appended new in
        let rose : rise before after ≡ rise state.counts next.counts = λ i. rise (had p state there.caches i) (has p next stands i) in
        let same : cache_events (row_of image by) (rise before after) ≡ access_events image p state (record { by = by; what = what } ∷ []) =
        ap (cache_events (row_of image by)) rose ∙ sym (append-nil (cache_events (row_of image by) (rise state.counts next.counts))) in
        record {
          counted = subst E (ap (λ (es : List Event). all ++ es) same) (counted image all appended (counted_still image all appended old mid rows counts there.counted));
          caches = subst S (sym caches) stands;
        };
  }
