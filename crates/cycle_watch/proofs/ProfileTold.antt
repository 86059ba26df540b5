-- What is counted of a cycle, as the code tells of it, is what the cycle counts.
use Rattle.std.proofs.Common.{◌≡◌, ◌∙◌, ℕ, ◌+◌, ◌-◌, ◌≤◌, ◌<◌, nat_lt, Bool, true, false, if◌then◌else◌, List, [], ◌∷◌, ◌++◌, append_assoc, drop, length, map, take, refl, sym, ap, subst, arith, rules}
use Rattle.std.specs.Prelude.{filter_map, flat_map, option_and_then, option_to_list, slice_get}
use Rattle.std.proofs.lemmas.Bool.{ltb-true}
use Rattle.std.proofs.lemmas.List.{append-nil, drop-drop, length-drop, length-take-le, take-append-drop, take-take}
use Rattle.elf_image.specs.declared.image.Image.{Image}
use Rattle.insight_model.specs.declared.pipeline.Pipeline.{Pipeline}
use Rattle.insight_model.specs.Cause.{Charge}
use Rattle.insight_model.specs.Sight.{Shown, Sight}
use Rattle.insight_model.specs.Facts.{Facts, facts as cycle_facts, window_before}
use Rattle.insight_model.specs.Accesses.{CacheAccess, accesses, fetch_access, fetch_at_address, fetched_anew, load_access, retired_in, store_access}
use Rattle.insight_model.specs.Cycles.{Cycle}
use Rattle.insight_model.specs.Profile.{Event, cycle_events, events_at, fetched, once, retired_events, spent, trapped_record, wrong_record}
use Rattle.insight_model.specs.Profile as profile
use Rattle.cycle_watch.specs.declared.charge.Charge.{Charge as ChargeInCode}
use Rattle.cycle_watch.specs.declared.facts.Facts.{Facts as FactsInCode}
use Rattle.cycle_watch.specs.declared.profile.Profiling.{Profiling}
use Rattle.cycle_watch.specs.Facts.{Follows, IsTold, charge_in}
use Rattle.cycle_watch.specs.Profiled.{IsProfileOf, Passes, events_before, fetched_after, retired_before, spent_event, squashed_before, trapped_before, wrong_before}
use Rattle.cache_timing.specs.declared.params.AllCaches.{AllCaches}
use Rattle.cycle_watch.proofs.Heading.{told_before}
use Rattle.cycle_watch.proofs.ProfileMore.{passes_both, passes_still, profile_more}
use Rattle.cycle_watch.proofs.RowEvents.{CountSame}
use Rattle.cycle_watch.proofs.Windows.{pairs_before}

-- those that left but for the last of them
taken_by : (b : Bool) (n : ℕ) (w : List Shown) → n ≤ length w → (if b then take (length (take n w) - 1) (take n w) else take n w) ≡ take (if b then n - 1 else n) w
taken_by true n w fit =
    ap (λ (k : ℕ). take (k - 1) (take n w)) (length-take-le n w fit) ∙ take-take (n - 1) n w (omega arith)
taken_by false n w fit = refl

dropped_by : (b : Bool) (n : ℕ) (w : List Shown) → (if b then drop 1 (drop n w) else drop n w) ≡ drop (n + (if b then 1 else 0)) w
dropped_by true n w = drop-drop 1 n w
dropped_by false n w = let e : n ≡ n + 0 = omega arith in ap (λ (k : ℕ). drop k w) e

four : (A B C D : List CacheAccess) → A ++ (B ++ C ++ D) ≡ A ++ B ++ C ++ D
four A B C D = sym (append_assoc A (B ++ C) D) ∙ ap (λ (xs : List CacheAccess). xs ++ D) (sym (append_assoc A B C))

pub same_by : (xs ys : List Event) → xs ≡ ys → CountSame xs ys
same_by xs ys is = let S : List Event → Type 0 = λ zs. CountSame xs zs in subst S is (record { each = λ row column. refl })

module _ (before after : Sight) (f : FactsInCode) (told : IsTold before after f) (follows : Follows before after) where
  abbrev did : Facts
  did = cycle_facts before after

  left_fit : f.left ≤ length before.window
  left_fit = omega (arith, told.left, follows.kept)

  pub retired_told : retired_before f before.window ≡ retired_in did
  retired_told = sym (ap retired_in (sym told.facts) ∙ taken_by f.trapped f.left before.window left_fit)

  trapped_told : trapped_before f before.window ≡ trapped_record did
  trapped_told = ap trapped_record told.facts

  squashed_told : squashed_before f before.window ≡ did.squashed
  squashed_told = sym (drop-drop f.kept f.left before.window) ∙ ap (λ (x : Facts). x.squashed) told.facts

  others_told : map (λ k. k.before) did.kept ++ did.squashed ≡ drop f.left before.window
  others_told =
      let there : length (take f.kept after.window) ≡ f.kept = length-take-le f.kept after.window (omega (arith, told.kept)) in
      ap (λ (x : Facts). map (λ k. k.before) x.kept ++ x.squashed) (sym told.facts)
      ∙ ap (λ (xs : List Shown). xs ++ drop f.kept (drop f.left before.window))
      (pairs_before (drop f.left before.window) (take f.kept after.window) ∙ ap (λ (n : ℕ). take n (drop f.left before.window)) there)
      ∙ take-append-drop f.kept (drop f.left before.window)

  wrong_told : wrong_before f before.window ≡ wrong_record did
  wrong_told = λ i. option_and_then (slice_get (sym others_told i)) ((ap (λ (x : Facts). x.mispredicted) told.facts) i)

  appended_told : drop f.kept after.window ≡ did.appended
  appended_told = ap (λ (x : Facts). x.appended) told.facts

  fetched_told : fetched_after f after.window ≡ fetched_anew did
  fetched_told = sym (ap fetched_anew (sym told.facts) ∙ dropped_by f.paid f.kept after.window)

  -- one that trapped has left
  pub trap_leaves : f.trapped ≡ true → 0 < f.left
  unfolding cycle_facts
  trap_leaves trapped =
      let rose : nat_lt before.counts.exceptions after.counts.exceptions ≡ true = ap (λ (x : Facts). x.trapped) (sym told.facts) ∙ trapped in
      omega (arith, told.left, follows.retired, ltb-true before.counts.exceptions after.counts.exceptions rose)

  -- what is counted
  module _ (image : Image) (head : ChargeInCode) where
    abbrev cycle : Cycle
    cycle = record { facts = did; head = charge_in head }

    abbrev N : List Event
    N = events_at image fetched (drop f.kept after.window)

    events_told : (spent_event image head 1 ∷ events_before image f before.window) ++ N ≡ cycle_events image cycle
    unfolding cycle_events
    events_told =
        λ i. spent_event image head 1 ∷ flat_map (retired_events image) (retired_told i) ++ events_at image profile.trapped (option_to_list (trapped_told i))
        ++ events_at image profile.squashed (squashed_told i) ++ events_at image profile.mispredicted (option_to_list (wrong_told i)) ++ events_at image fetched (appended_told i)

    pub events_same : CountSame ((spent_event image head 1 ∷ events_before image f before.window) ++ N) (flat_map (cycle_events image) (cycle ∷ []))
    events_same =
        same_by ((spent_event image head 1 ∷ events_before image f before.window) ++ N) (flat_map (cycle_events image) (cycle ∷ []))
        (events_told ∙ sym (append-nil (cycle_events image cycle)))

  -- what is made
  accesses_told : (kind : Pipeline) (loads : List CacheAccess) → loads ≡ filter_map (load_access kind) did.kept →
      filter_map store_access (retired_before f before.window) ++ (loads ++ filter_map fetch_access (fetched_after f after.window) ++ map fetch_at_address (option_to_list f.missed))
      ≡ accesses kind did
  unfolding accesses
  accesses_told kind loads are =
      four (filter_map store_access (retired_before f before.window)) loads (filter_map fetch_access (fetched_after f after.window)) (map fetch_at_address (option_to_list f.missed))
      ∙ (λ i. filter_map store_access (retired_told i) ++ are i ++ filter_map fetch_access (fetched_told i) ++ map fetch_at_address (option_to_list ((ap (λ (x : Facts). x.missed) told.facts) i)))

  appended_few : length did.appended ≤ 256
  appended_few =
      let count : length did.appended ≡ length (drop f.kept after.window) = ap (length {A = Shown}) (sym appended_told) in
      omega (arith, count, length-drop f.kept after.window, follows.within)

  -- a profile of one cycle more
  pub profiled_one : (image : Image) (p : AllCaches) (kind : Pipeline) (run : List Cycle) (head : ChargeInCode) (charge : Charge) (loads : List CacheAccess) (old new : Profiling) →
      IsProfileOf image p kind run old → charge_in head ≡ charge → loads ≡ filter_map (load_access kind) did.kept → length before.window ≤ 256 →
      Passes (λ image. (spent_event image head 1 ∷ events_before image f before.window) ++ events_at image fetched (drop f.kept after.window))
      (filter_map store_access (retired_before f before.window) ++ (loads ++ filter_map fetch_access (fetched_after f after.window) ++ map fetch_at_address (option_to_list f.missed)))
      (drop f.kept after.window) old new → IsProfileOf image p kind (run ++ record { facts = did; head = charge } ∷ []) new
  profiled_one image p kind run head charge loads old new is charged are within passes =
      let C : Charge → Type 0 = λ c. IsProfileOf image p kind (run ++ record { facts = did; head = c } ∷ []) new in
      let made = filter_map store_access (retired_before f before.window) ++ (loads ++ filter_map fetch_access (fetched_after f after.window) ++ map fetch_at_address (option_to_list f.missed)) in
      let one : Cycle = record { facts = did; head = charge_in head } in
      let window : length (window_before did) ≤ 256 = omega (arith, ap (length {A = Shown}) (told_before before after f told follows), within) in
      let fresh : length did.appended ≤ 256 = appended_few in
      subst C charged
      (profile_more image p kind run (one ∷ []) old new (λ image. (spent_event image head 1 ∷ events_before image f before.window) ++ events_at image fetched (drop f.kept after.window)) made (drop f.kept after.window) is passes
      (events_same image head) (accesses_told kind loads are ∙ sym (append-nil (accesses kind did))) (appended_told ∙ sym (append-nil did.appended)) (search rules) (search rules))

  -- by what is remembered before the cycle was passed and after it
  pub profiled_cycle : (image : Image) (p : AllCaches) (kind : Pipeline) (run : List Cycle) (head : ChargeInCode) (charge : Charge) (olds news : List Shown) (loads : List CacheAccess) (old mid now new : Profiling) →
      IsProfileOf image p kind run old → charge_in head ≡ charge → olds ≡ before.window → news ≡ after.window → loads ≡ filter_map (load_access kind) did.kept → length before.window ≤ 256 →
      Passes (λ image. spent_event image head 1 ∷ events_before image f olds) (filter_map store_access (retired_before f olds)) [] old mid →
      now.rows ≡ mid.rows → now.counts ≡ mid.counts → now.caches ≡ mid.caches →
      Passes (λ image. events_at image fetched (drop f.kept news)) (loads ++ filter_map fetch_access (fetched_after f news) ++ map fetch_at_address (option_to_list f.missed)) (drop f.kept news) now new →
      IsProfileOf image p kind (run ++ record { facts = did; head = charge } ∷ []) new
  profiled_cycle image p kind run head charge olds news loads old mid now new is charged were are loaded within first rows counts caches second =
      let A : List Shown → Type 0 = λ w. Passes (λ image. spent_event image head 1 ∷ events_before image f w) (filter_map store_access (retired_before f w)) [] old mid in
      let B : List Shown → Type 0 = λ w. Passes (λ image. events_at image fetched (drop f.kept w)) (loads ++ filter_map fetch_access (fetched_after f w) ++ map fetch_at_address (option_to_list f.missed)) (drop f.kept w) now new in
      let es : Image → List Event = λ image. spent_event image head 1 ∷ events_before image f before.window in
      let ms = filter_map store_access (retired_before f before.window) in
      profiled_one image p kind run head charge loads old new is charged loaded within
      (passes_both es (λ image. events_at image fetched (drop f.kept after.window)) ms
      (loads ++ filter_map fetch_access (fetched_after f after.window) ++ map fetch_at_address (option_to_list f.missed)) [] (drop f.kept after.window) old now new
      (passes_still es ms [] old mid now rows counts caches (subst A were first)) (subst B are second))
