-- A profile of some cycles, and of more.
use Rattle.std.proofs.Common.{◌≡◌, ◌∙◌, ℕ, ◌≤◌, List, [], ◌∷◌, ◌++◌, append_assoc, length, map, sym, ap, subst, arith}
use Rattle.std.specs.Prelude.{All, flat_map}
use Rattle.std.proofs.lemmas.Grind.{flat_map-append}
use Rattle.std.proofs.lemmas.List.{append-nil, map-append}
use Rattle.std.proofs.lemmas.List.Elements.{All-append}
use Rattle.elf_image.specs.declared.image.Image.{Image}
use Rattle.cache_timing.specs.declared.params.AllCaches.{AllCaches}
use Rattle.cache_timing.specs.declared.caches.Caches.{Caches}
use Rattle.cache_timing.specs.Caches.{CachesState, cold}
use Rattle.cache_timing.specs.CachesStandFor.{CachesStandFor}
use Rattle.insight_model.specs.declared.pipeline.Pipeline.{Pipeline}
use Rattle.insight_model.specs.Sight.{Shown}
use Rattle.insight_model.specs.Facts.{window_before}
use Rattle.insight_model.specs.Accesses.{CacheAccess, accesses}
use Rattle.insight_model.specs.Cycles.{Cycle}
use Rattle.insight_model.specs.Profile.{Event, cycle_events}
use Rattle.cycle_watch.specs.declared.charge.Charge.{Charge as ChargeInCode}
use Rattle.cycle_watch.specs.declared.profile.Profiling.{Profiling}
use Rattle.cycle_watch.specs.Profiled.{HasAccessed, HasCounted, IsProfileOf, Makes, Passes, access_events, caches_after, run_accesses, run_appended, run_events, spent_event}
use Rattle.cycle_watch.proofs.Making.{access_both, caches_both}
use Rattle.cycle_watch.proofs.RowEvents.{CountSame, both, counted_still, recounted}
use Rattle.cycle_watch.proofs.RowLists.{Appends, Counts}

-- what is counted alone, and what is made alone
pub passes_appends : (events : Image → List Event) (shown : List Shown) (old new : Profiling) → new ≡ record old { counts = new.counts } → Appends events shown old new → Passes events [] shown old new
passes_appends events shown old new is appends = record {
  each = λ image p state all appended has.
      let E : List Event → Type 0 = λ es. HasCounted image es (appended ++ shown) new in
      let C : Caches → Type 0 = λ c. CachesStandFor c p state in
      record {
        counted = subst E (sym (append-nil (all ++ events image))) (appends.each image all appended has.counted);
        caches = subst C (sym (ap (λ (x : Profiling). x.caches) is)) has.caches;
      };
}

pub passes_counts : (events : Image → List Event) (old new : Profiling) → new ≡ record old { counts = new.counts } → Counts events old new → Passes events [] [] old new
passes_counts events old new is counts = passes_appends events [] old new is (record {
  each = λ image all appended has.
      let S : List Shown → Type 0 = λ shown. HasCounted image (all ++ events image) shown new in
      subst S (sym (append-nil appended)) (counts.each image all appended has);
})

pub passes_makes : (made : List CacheAccess) (old new : Profiling) → Makes made old new → Passes (λ image. []) made [] old new
passes_makes made old new makes = record {
  each = λ image p state all appended has.
      let S : List Shown → Type 0 = λ shown. HasAccessed image p (caches_after p state made) ((all ++ []) ++ access_events image p state made) shown new in
      let E : List Event → Type 0 = λ es. HasAccessed image p (caches_after p state made) (es ++ access_events image p state made) appended new in
      subst S (sym (append-nil appended)) (subst E (sym (append-nil all)) (makes.each image p state all appended has));
}

pub passes_as : (es fs : Image → List Event) (ms ns : List CacheAccess) (xs ys : List Shown) (old new : Profiling) → ((image : Image) → es image ≡ fs image) → ms ≡ ns → xs ≡ ys → Passes es ms xs old new → Passes fs ns ys old new
passes_as es fs ms ns xs ys old new same makes shown passes = record {
  each = λ image p state all appended has.
      let M : List CacheAccess → Type 0 = λ made. HasAccessed image p (caches_after p state made) ((all ++ fs image) ++ access_events image p state made) (appended ++ ys) new in
      let S : List Shown → Type 0 = λ zs. HasAccessed image p (caches_after p state ms) ((all ++ fs image) ++ access_events image p state ms) (appended ++ zs) new in
      let E : List Event → Type 0 = λ gs. HasAccessed image p (caches_after p state ms) ((all ++ gs) ++ access_events image p state ms) (appended ++ xs) new in
      subst M makes (subst S shown (subst E (same image) (passes.each image p state all appended has)));
}

pub reaccessed : (image : Image) (p : AllCaches) (state : CachesState) (xs ys : List Event) (appended : List Shown) (profiling : Profiling) → CountSame xs ys → HasAccessed image p state xs appended profiling → HasAccessed image p state ys appended profiling
reaccessed image p state xs ys appended profiling same has = record { counted = recounted image xs ys appended profiling same has.counted; caches = has.caches }

-- one after the other
module _ (es fs : Image → List Event) (ms ns : List CacheAccess) (xs ys : List Shown) (old mid new : Profiling) where
  both_same : (image : Image) (all A B : List Event) → CountSame ((((all ++ es image) ++ A) ++ fs image) ++ B) ((all ++ (es image ++ fs image)) ++ (A ++ B))
  both_same image all A B = record {
    each = λ row column.
        omega (
          arith,
          both row column (((all ++ es image) ++ A) ++ fs image) B,
          both row column ((all ++ es image) ++ A) (fs image),
          both row column (all ++ es image) A,
          both row column all (es image),
          both row column (all ++ (es image ++ fs image)) (A ++ B),
          both row column A B,
          both row column all (es image ++ fs image),
          both row column (es image) (fs image),
        );
  }

  pub passes_both : Passes es ms xs old mid → Passes fs ns ys mid new → Passes (λ image. es image ++ fs image) (ms ++ ns) (xs ++ ys) old new
  passes_both first second = record {
    each = λ image p state all appended has.
        let then = caches_after p state ms in
        let A = access_events image p state ms in
        let B = access_events image p then ns in
        let there = second.each image p then ((all ++ es image) ++ A) (appended ++ xs) (first.each image p state all appended has) in
        let C : CachesState → Type 0 = λ s. HasAccessed image p s ((all ++ (es image ++ fs image)) ++ access_events image p state (ms ++ ns)) (appended ++ (xs ++ ys)) new in
        let E : List Event → Type 0 = λ gs. HasAccessed image p (caches_after p then ns) ((all ++ (es image ++ fs image)) ++ gs) (appended ++ (xs ++ ys)) new in
        let S : List Shown → Type 0 = λ zs. HasAccessed image p (caches_after p then ns) ((all ++ (es image ++ fs image)) ++ (A ++ B)) zs new in
        subst C (sym (caches_both p state ms ns))
        (subst E (sym (access_both image p state ms ns))
        (subst S (append_assoc appended xs ys)
        (reaccessed image p (caches_after p then ns) ((((all ++ es image) ++ A) ++ fs image) ++ B) ((all ++ (es image ++ fs image)) ++ (A ++ B)) ((appended ++ xs) ++ ys) new (both_same image all A B) there)));
  }

-- what some cycles access, and more
pub accesses_more : (kind : Pipeline) (run more : List Cycle) → run_accesses kind (run ++ more) ≡ run_accesses kind run ++ run_accesses kind more
accesses_more kind run more =
    ap (flat_map (accesses kind)) (map-append (λ (cycle : Cycle). cycle.facts) run more)
    ∙ flat_map-append (accesses kind) (map (λ (cycle : Cycle). cycle.facts) run) (map (λ (cycle : Cycle). cycle.facts) more)

module _ (image : Image) (p : AllCaches) (kind : Pipeline) (run more : List Cycle) where
  more_same : (events : List Event) → CountSame events (flat_map (cycle_events image) more) →
      CountSame ((run_events image p kind run ++ events) ++ access_events image p (caches_after p cold (run_accesses kind run)) (run_accesses kind more)) (run_events image p kind (run ++ more))
  more_same events same =
      let R = flat_map (cycle_events image) run in
      let M = flat_map (cycle_events image) more in
      let A = access_events image p cold (run_accesses kind run) in
      let B = access_events image p (caches_after p cold (run_accesses kind run)) (run_accesses kind more) in
      let all : run_events image p kind (run ++ more) ≡ (R ++ M) ++ (A ++ B) =
      λ i. flat_map-append (cycle_events image) run more i
      ++ (ap (access_events image p cold) (accesses_more kind run more) ∙ access_both image p cold (run_accesses kind run) (run_accesses kind more)) i in
      let S : List Event → Type 0 = λ es. CountSame (((R ++ A) ++ events) ++ B) es in
      let here : CountSame (((R ++ A) ++ events) ++ B) ((R ++ M) ++ (A ++ B)) = record {
        each = λ row column.
            omega (
              arith,
              both row column ((R ++ A) ++ events) B,
              both row column (R ++ A) events,
              both row column R A,
              both row column (R ++ M) (A ++ B),
              both row column R M,
              both row column A B,
              same.each row column,
            );
      } in
      subst S (sym all) here

  pub profile_more : (old new : Profiling) (events : Image → List Event) (made : List CacheAccess) (shown : List Shown) → IsProfileOf image p kind run old → Passes events made shown old new →
      CountSame (events image) (flat_map (cycle_events image) more) → made ≡ run_accesses kind more → shown ≡ run_appended more → All (λ cycle. length (window_before cycle.facts) ≤ 256) more →
      All (λ cycle. length cycle.facts.appended ≤ 256) more → IsProfileOf image p kind (run ++ more) new
  profile_more old new events made shown is passes same accessed noted few fresh =
      let state = caches_after p cold (run_accesses kind run) in
      let all = run_events image p kind run in
      let there = passes.each image p state all (run_appended run) is.accessed in
      let M : List CacheAccess → Type 0 = λ ms. HasAccessed image p (caches_after p state ms) ((all ++ events image) ++ access_events image p state ms) (run_appended run ++ shown) new in
      let S : List Shown → Type 0 = λ zs. HasAccessed image p (caches_after p state (run_accesses kind more)) ((all ++ events image) ++ access_events image p state (run_accesses kind more)) zs new in
      let C : CachesState → Type 0 = λ s. HasAccessed image p s (run_events image p kind (run ++ more)) (run_appended (run ++ more)) new in
      let appended : run_appended run ++ shown ≡ run_appended (run ++ more) =
      ap (λ (zs : List Shown). run_appended run ++ zs) noted ∙ sym (flat_map-append (λ (cycle : Cycle). cycle.facts.appended) run more) in
      let after : caches_after p cold (run_accesses kind (run ++ more)) ≡ caches_after p state (run_accesses kind more) =
      ap (caches_after p cold) (accesses_more kind run more) ∙ caches_both p cold (run_accesses kind run) (run_accesses kind more) in
      record {
        accessed = subst C (sym after)
            (reaccessed image p (caches_after p state (run_accesses kind more)) ((all ++ events image) ++ access_events image p state (run_accesses kind more)) (run_events image p kind (run ++ more)) (run_appended (run ++ more)) new
            (more_same (events image) same) (subst S appended (subst M accessed there)));
        few = All-append (λ (cycle : Cycle). length (window_before cycle.facts) ≤ 256) run more is.few few;
        new = All-append (λ (cycle : Cycle). length cycle.facts.appended ≤ 256) run more is.new fresh;
      }

-- cycles are counted after the heads have gone on
pub passes_alone : (head : ChargeInCode) (cycles : ℕ) (old mid new : Profiling) → mid.rows ≡ old.rows → mid.counts ≡ old.counts → mid.caches ≡ old.caches → new ≡ record mid { counts = new.counts } →
    ((image : Image) (all : List Event) (appended : List Shown) → HasCounted image all appended mid → HasCounted image (all ++ spent_event image head cycles ∷ []) appended new) →
    Passes (λ image. spent_event image head cycles ∷ []) [] [] old new
passes_alone head cycles old mid new rows counts caches is counted = record {
  each = λ image p state all appended has.
      let E : List Event → Type 0 = λ es. HasCounted image es (appended ++ []) new in
      let S : List Shown → Type 0 = λ shown. HasCounted image (all ++ spent_event image head cycles ∷ []) shown new in
      let C : Caches → Type 0 = λ c. CachesStandFor c p state in
      record {
        counted = subst E (sym (append-nil (all ++ spent_event image head cycles ∷ [])))
            (subst S (sym (append-nil appended)) (counted image all appended (counted_still image all appended old mid rows counts has.counted)));
        caches = subst C (sym (ap (λ (x : Profiling). x.caches) is ∙ caches)) has.caches;
      };
}

-- the observer goes on without counting
pub passes_still : (events : Image → List Event) (made : List CacheAccess) (shown : List Shown) (old mid new : Profiling) → new.rows ≡ mid.rows → new.counts ≡ mid.counts → new.caches ≡ mid.caches →
    Passes events made shown old mid → Passes events made shown old new
passes_still events made shown old mid new rows counts caches passes = record {
  each = λ image p state all appended has.
      let there = passes.each image p state all appended has in
      let C : Caches → Type 0 = λ c. CachesStandFor c p (caches_after p state made) in
      record {
        counted = counted_still image ((all ++ events image) ++ access_events image p state made) (appended ++ shown) mid new rows counts there.counted;
        caches = subst C (sym caches) there.caches;
      };
}
