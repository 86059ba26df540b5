-- All that is counted of a run that is short enough has room in 64 bits.
use Rattle.std.proofs.Common.{◌≡◌, ℕ, suc, ◌+◌, ◌*◌, ◌-◌, ◌^◌, ◌≤◌, ◌<◌, ◌==◌, nat_lt, Bool, true, false, if◌then◌else◌, Option, Some, None, List, [], ◌∷◌, ◌++◌, drop, length, length-append, map, take, refl, arith}
use Rattle.std.specs.Prelude.{All, filter_map, flat_map, option_to_list, sum_by}
use Rattle.std.specs.List.{cons_option}
use Rattle.std.proofs.lemmas.List.{length-drop, length-map, length-take}
use Rattle.std.proofs.lemmas.List.Sums.{sum_by-append, sum_by-cons}
use Rattle.elf_image.specs.declared.image.Image.{Image}
use Rattle.cache_timing.specs.declared.params.AllCaches.{AllCaches}
use Rattle.cache_timing.specs.declared.counts.CacheCounts.{CacheCounts}
use Rattle.cache_timing.specs.declared.cache.Touch.{Touch}
use Rattle.cache_timing.specs.declared.cache.Touch.TheVariants as touch
use Rattle.cache_timing.specs.Cache.{touched}
use Rattle.cache_timing.specs.Caches.{CachesState, accesses_after, cold, dcache_touched, drained, fetched as fetched_by, followed, icache_touched, loaded, missed, misses_after, stored}
use Rattle.insight_model.specs.declared.pipeline.Pipeline.{Pipeline}
use Rattle.insight_model.specs.Sight.{Shown}
use Rattle.insight_model.specs.Facts.{Facts, window_before}
use Rattle.insight_model.specs.Accesses.{CacheAccess, CacheUse, accesses, fetch_access, fetch_at_address, fetched_anew, fetches, load_access, loads, retired_in, rise, store_access, stores, used}
use Rattle.insight_model.specs.Cycles.{Cycle}
use Rattle.insight_model.specs.Profile.{Column, Event, cache_events, cycle_events, events_at, fetched, is_taken, mispredicted, once, own_events, retired, retired_events, row_of, spent, squashed, taken, trapped, trapped_record, wrong_record}
use Rattle.cycle_watch.specs.Profiled.{access_events, run_accesses, run_events}
use Rattle.cycle_watch.proofs.RowFilling.{seven, some}

-- how much some events count, in whatever rows and columns
abbrev pub weight : List Event → ℕ
weight events = sum_by (λ event. event.amount) events

pub weight_both : (xs ys : List Event) → weight (xs ++ ys) ≡ weight xs + weight ys
weight_both xs ys = sum_by-append (λ (event : Event). event.amount) xs ys

weight_next : (event : Event) (xs : List Event) → weight (event ∷ xs) ≡ event.amount + weight xs
weight_next event xs = sum_by-cons (λ (e : Event). e.amount) event xs

-- those of a row count no more
pub weight_own : (row : ℕ) (events : List Event) → weight (own_events row events) ≤ weight events
weight_own row [] = omega arith
weight_own row (event ∷ rest) = by (weight_own row rest) (event.row == row)
  where
    by : weight (own_events row rest) ≤ weight rest → (b : Bool) → weight (if b then event ∷ own_events row rest else own_events row rest) ≤ weight (event ∷ rest)
    by others true = omega (arith, weight_next event (own_events row rest), weight_next event rest, others)
    by others false = omega (arith, weight_next event rest, others)

weight_at : (image : Image) (column : Column) (shown : List Shown) → weight (events_at image column shown) ≡ length shown
weight_at image column [] = refl
weight_at image column (rec ∷ rest) = omega (arith, weight_next (once image column rec.addr) (events_at image column rest), weight_at image column rest)

retired_most : (image : Image) (rec : Shown) → weight (retired_events image rec) ≤ 2
retired_most image rec = by (is_taken rec)
  where
    by : (b : Bool) → weight (once image retired rec.addr ∷ (if b then once image taken rec.addr ∷ [] else [])) ≤ 2
    by true = omega arith
    by false = omega arith

weight_retired : (image : Image) (shown : List Shown) → weight (flat_map (retired_events image) shown) ≤ 2 * length shown
weight_retired image [] = omega arith
weight_retired image (rec ∷ rest) =
    omega (arith, weight_both (retired_events image rec) (flat_map (retired_events image) rest), weight_retired image rest, retired_most image rec)

one_at_most : {A : Type 0} (o : Option A) → length (option_to_list o) ≤ 1
one_at_most None = omega arith
one_at_most (Some x) = omega arith

mapped_most : {A B : Type 0} (f : A → Option B) (xs : List A) → length (filter_map f xs) ≤ length xs
mapped_most f [] = omega arith
mapped_most {B = B} f (x ∷ xs) = by (mapped_most f xs) (f x)
  where
    by : length (filter_map f xs) ≤ length xs → (o : Option B) → length (cons_option o (filter_map f xs)) ≤ length (x ∷ xs)
    by others None = omega (arith, others)
    by others (Some y) = omega (arith, others)

-- what an access counts
record Grows (a b : CacheCounts) : Type 0 where
  icache_accesses : b.icache_accesses ≤ a.icache_accesses + 2
  icache_misses : b.icache_misses ≤ a.icache_misses + 2
  dcache_accesses : b.dcache_accesses ≤ a.dcache_accesses + 2
  dcache_misses : b.dcache_misses ≤ a.dcache_misses + 2
  l2_accesses : b.l2_accesses ≤ a.l2_accesses + 2
  l2_misses : b.l2_misses ≤ a.l2_misses + 2
  writebacks : b.writebacks ≤ a.writebacks + 2

record GrowsBelow (a b : CacheCounts) : Type 0 where
  icache_accesses : b.icache_accesses ≡ a.icache_accesses
  icache_misses : b.icache_misses ≡ a.icache_misses
  dcache_accesses : b.dcache_accesses ≡ a.dcache_accesses
  dcache_misses : b.dcache_misses ≡ a.dcache_misses
  l2_accesses : b.l2_accesses ≤ a.l2_accesses + 2
  l2_misses : b.l2_misses ≤ a.l2_misses + 2
  writebacks : b.writebacks ≤ a.writebacks + 2

one_access : (t : Touch) (n : ℕ) → accesses_after t n ≤ n + 1
one_access touch.None n = omega arith
one_access touch.Hit n = omega arith
one_access (touch.Miss dropped) n = omega arith

one_miss : (t : Touch) (n : ℕ) → misses_after t n ≤ n + 1
one_miss touch.None n = omega arith
one_miss touch.Hit n = omega arith
one_miss (touch.Miss dropped) n = omega arith

module _ (p : AllCaches) where
  drained_below : (own addr : ℕ) (dropped : Option ℕ) (s : CachesState) → GrowsBelow s.counts (drained p dropped (missed p own s addr).state).counts
  drained_below own addr None s = record {
    icache_accesses = refl;
    icache_misses = refl;
    dcache_accesses = refl;
    dcache_misses = refl;
    l2_accesses = omega (arith, one_access (touched p.l2 false s.l2 addr false).touch s.counts.l2_accesses);
    l2_misses = omega (arith, one_miss (touched p.l2 false s.l2 addr false).touch s.counts.l2_misses);
    writebacks = omega arith;
  }
  drained_below own addr (Some first) s =
      let t = touched p.l2 false s.l2 addr false in
      let u = touched p.l2 false t.sets first false in
      let a = accesses_after t.touch s.counts.l2_accesses in
      let m = misses_after t.touch s.counts.l2_misses in
      record {
        icache_accesses = refl;
        icache_misses = refl;
        dcache_accesses = refl;
        dcache_misses = refl;
        l2_accesses = omega (arith, one_access t.touch s.counts.l2_accesses, one_access u.touch a);
        l2_misses = omega (arith, one_miss t.touch s.counts.l2_misses, one_miss u.touch m);
        writebacks = omega arith;
      }

  none_below : (a : CacheCounts) → GrowsBelow a a
  none_below a = record {
    icache_accesses = refl;
    icache_misses = refl;
    dcache_accesses = refl;
    dcache_misses = refl;
    l2_accesses = omega arith;
    l2_misses = omega arith;
    writebacks = omega arith;
  }

  followed_below : (own addr : ℕ) (t : Touch) (s : CachesState) → GrowsBelow s.counts (followed p own addr t s).state.counts
  followed_below own addr touch.None s = none_below s.counts
  followed_below own addr touch.Hit s = none_below s.counts
  followed_below own addr (touch.Miss dropped) s = drained_below own addr dropped s

  icache_grows : (s : CachesState) (t : Touch) (b : CacheCounts) →
      GrowsBelow (record s.counts { icache_accesses = accesses_after t s.counts.icache_accesses; icache_misses = misses_after t s.counts.icache_misses }) b → Grows s.counts b
  icache_grows s t b below = record {
    icache_accesses = omega (arith, below.icache_accesses, one_access t s.counts.icache_accesses);
    icache_misses = omega (arith, below.icache_misses, one_miss t s.counts.icache_misses);
    dcache_accesses = omega (arith, below.dcache_accesses);
    dcache_misses = omega (arith, below.dcache_misses);
    l2_accesses = below.l2_accesses;
    l2_misses = below.l2_misses;
    writebacks = below.writebacks;
  }

  dcache_grows : (s : CachesState) (t : Touch) (b : CacheCounts) →
      GrowsBelow (record s.counts { dcache_accesses = accesses_after t s.counts.dcache_accesses; dcache_misses = misses_after t s.counts.dcache_misses }) b → Grows s.counts b
  dcache_grows s t b below = record {
    icache_accesses = omega (arith, below.icache_accesses);
    icache_misses = omega (arith, below.icache_misses);
    dcache_accesses = omega (arith, below.dcache_accesses, one_access t s.counts.dcache_accesses);
    dcache_misses = omega (arith, below.dcache_misses, one_miss t s.counts.dcache_misses);
    l2_accesses = below.l2_accesses;
    l2_misses = below.l2_misses;
    writebacks = below.writebacks;
  }

  used_grows : (s : CachesState) (what : CacheUse) → Grows s.counts (used p s what).counts
  unfolding fetched_by loaded stored
  used_grows s (fetches addr) =
      let t = touched p.icache false s.icache addr false in
      icache_grows s t.touch (used p s (fetches addr)).counts (followed_below p.icache.miss addr t.touch (icache_touched s t))
  used_grows s (loads addr) =
      let t = touched p.dcache p.back s.dcache addr false in
      dcache_grows s t.touch (used p s (loads addr)).counts (followed_below p.dcache.miss addr t.touch (dcache_touched s t))
  used_grows s (stores addr) =
      let t = touched p.dcache p.back s.dcache addr true in
      dcache_grows s t.touch (used p s (stores addr)).counts (followed_below p.dcache.miss addr t.touch (dcache_touched s t))

some_weight : (events : List Event) → weight (some events) ≤ weight events
some_weight [] = omega arith
some_weight (event ∷ rest) = by (some_weight rest) (nat_lt 0 event.amount)
  where
    by : weight (some rest) ≤ weight rest → (b : Bool) → weight (if b then event ∷ some rest else some rest) ≤ weight (event ∷ rest)
    by others true = omega (arith, weight_next event (some rest), weight_next event rest, others)
    by others false = omega (arith, weight_next event rest, others)

rise_weight : (row : ℕ) (a b : CacheCounts) → Grows a b → weight (cache_events row (rise a b)) ≤ 14
rise_weight row a b grows =
    let all : weight (seven row (rise a b)) ≤ 14 =
    omega (arith, grows.icache_accesses, grows.icache_misses, grows.dcache_accesses, grows.dcache_misses, grows.l2_accesses, grows.l2_misses, grows.writebacks) in
    omega (arith, all, some_weight (seven row (rise a b)))

pub access_weight : (image : Image) (p : AllCaches) (state : CachesState) (made : List CacheAccess) → weight (access_events image p state made) ≤ 14 * length made
access_weight image p state [] = omega arith
access_weight image p state (one ∷ rest) =
    let next = used p state one.what in
    let here = rise_weight (row_of image one.by) state.counts next.counts (used_grows p state one.what) in
    omega (arith, here, weight_both (cache_events (row_of image one.by) (rise state.counts next.counts)) (access_events image p next rest), access_weight image p next rest)

-- what a cycle counts and accesses
kept_fewer : (b : Bool) (xs : List Shown) → length (if b then take (length xs - 1) xs else xs) ≤ length xs
kept_fewer true xs = omega (arith, length-take (length xs - 1) xs)
kept_fewer false xs = omega arith

new_fewer : (b : Bool) (xs : List Shown) → length (if b then drop 1 xs else xs) ≤ length xs
new_fewer true xs = omega (arith, length-drop 1 xs)
new_fewer false xs = omega arith

module _ (f : Facts) (few : length (window_before f) ≤ 256) (new : length f.appended ≤ 256) where
  all_few : length f.left + (length f.kept + length f.squashed) ≤ 256
  all_few =
      omega (
        arith,
        few,
        length-append (f.left ++ map (λ k. k.before) f.kept) f.squashed,
        length-append f.left (map (λ k. k.before) f.kept),
        length-map f.kept (λ k. k.before),
      )

  cycle_accesses : (kind : Pipeline) → length (accesses kind f) ≤ 1024
  unfolding accesses
  cycle_accesses kind =
      let stored_there = filter_map store_access (retired_in f) in
      let loaded_there = filter_map (load_access kind) f.kept in
      let fetched_there = filter_map fetch_access (fetched_anew f) in
      let missed_there = map fetch_at_address (option_to_list f.missed) in
      omega (
        arith,
        all_few,
        new,
        length-append (stored_there ++ loaded_there ++ fetched_there) missed_there,
        length-append (stored_there ++ loaded_there) fetched_there,
        length-append stored_there loaded_there,
        mapped_most store_access (retired_in f),
        mapped_most (load_access kind) f.kept,
        mapped_most fetch_access (fetched_anew f),
        length-map (option_to_list f.missed) fetch_at_address,
        one_at_most f.missed,
        kept_fewer f.trapped f.left,
        new_fewer f.paid f.appended,
      )

cycle_weight : (image : Image) (cycle : Cycle) → length (window_before cycle.facts) ≤ 256 → length cycle.facts.appended ≤ 256 → weight (cycle_events image cycle) ≤ 1024
unfolding cycle_events
cycle_weight image cycle few new =
    let f = cycle.facts in
    let A = flat_map (retired_events image) (retired_in f) in
    let B = events_at image trapped (option_to_list (trapped_record f)) in
    let C = events_at image squashed f.squashed in
    let D = events_at image mispredicted (option_to_list (wrong_record f)) in
    let E = events_at image fetched f.appended in
    omega (
      arith,
      all_few f few new,
      new,
      weight_next (once image (spent cycle.head.cause) cycle.head.addr) (A ++ B ++ C ++ D ++ E),
      weight_both (A ++ B ++ C ++ D) E,
      weight_both (A ++ B ++ C) D,
      weight_both (A ++ B) C,
      weight_both A B,
      weight_retired image (retired_in f),
      kept_fewer f.trapped f.left,
      weight_at image trapped (option_to_list (trapped_record f)),
      one_at_most (trapped_record f),
      weight_at image squashed f.squashed,
      weight_at image mispredicted (option_to_list (wrong_record f)),
      one_at_most (wrong_record f),
      weight_at image fetched f.appended,
    )

-- and a run
cycles_weight : (image : Image) (run : List Cycle) → All (λ cycle. length (window_before cycle.facts) ≤ 256) run → All (λ cycle. length cycle.facts.appended ≤ 256) run →
    weight (flat_map (cycle_events image) run) ≤ 1024 * length run
cycles_weight image [] few new = omega arith
cycles_weight image (cycle ∷ run) few new =
    omega (
      arith,
      weight_both (cycle_events image cycle) (flat_map (cycle_events image) run),
      cycle_weight image cycle (few 0 cycle (omega arith)) (new 0 cycle (omega arith)),
      cycles_weight image run (λ k d below. few (suc k) d (omega (arith, below))) (λ k d below. new (suc k) d (omega (arith, below))),
    )

cycles_accesses : (kind : Pipeline) (run : List Cycle) → All (λ cycle. length (window_before cycle.facts) ≤ 256) run → All (λ cycle. length cycle.facts.appended ≤ 256) run →
    length (run_accesses kind run) ≤ 1024 * length run
cycles_accesses kind [] few new = omega arith
cycles_accesses kind (cycle ∷ run) few new =
    omega (
      arith,
      length-append (accesses kind cycle.facts) (run_accesses kind run),
      cycle_accesses cycle.facts (few 0 cycle (omega arith)) (new 0 cycle (omega arith)) kind,
      cycles_accesses kind run (λ k d below. few (suc k) d (omega (arith, below))) (λ k d below. new (suc k) d (omega (arith, below))),
    )

pub run_weight : (image : Image) (p : AllCaches) (kind : Pipeline) (run : List Cycle) → All (λ cycle. length (window_before cycle.facts) ≤ 256) run → All (λ cycle. length cycle.facts.appended ≤ 256) run →
    length run < 2 ^ 48 → weight (run_events image p kind run) < 2 ^ 63
run_weight image p kind run few new short =
    omega (
      arith,
      short,
      weight_both (flat_map (cycle_events image) run) (access_events image p cold (run_accesses kind run)),
      cycles_weight image run few new,
      access_weight image p cold (run_accesses kind run),
      cycles_accesses kind run few new,
    )
