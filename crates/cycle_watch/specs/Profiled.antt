-- What was counted of the cycles that went by: a profile. A count stands still at its largest value.
use Rattle.std.specs.Prelude.{◌≡◌, ℕ, ◌+◌, ◌-◌, ◌^◌, ◌≤◌, ◌==◌, nat_lt, min, All, unwrap_or, if◌then◌else◌, None, Some, Option, option_and_then, option_to_list, List, [], ◌∷◌, ◌++◌, drop, filter, flat_map, length, map, slice_get, slice_index, slice_index_or, slice_set, sum, sum_by, take, zip}
use Rattle.std.specs.List.{last_or, list_any}
use Rattle.mono_model.specs.declared.params.Params.{Params}
use Rattle.mono_model.specs.Setup.{caches_params}
use Rattle.elf_image.specs.declared.image.Image.{Image}
use Rattle.cache_timing.specs.declared.params.AllCaches.{AllCaches}
use Rattle.cache_timing.specs.declared.counts.CacheCounts.{CacheCounts}
use Rattle.cache_timing.specs.Caches.{CachesState, cold}
use Rattle.cache_timing.specs.CachesStandFor.{CachesStandFor}
use Rattle.text_rows.specs.Rows.{AreRowsOf}
use Rattle.insight_model.specs.declared.pipeline.Pipeline.{Pipeline}
use Rattle.insight_model.specs.Sight.{Shown, Sight}
use Rattle.insight_model.specs.Facts.{window_before}
use Rattle.insight_model.specs.Head.{Known}
use Rattle.insight_model.specs.Cycles.{Cycle}
use Rattle.insight_model.specs.Accesses.{CacheAccess, accesses, changes_from, used}
use Rattle.insight_model.specs.Profile as profile
use Rattle.insight_model.specs.Profile.{Event, amount_in, change_events, cycle_events, event_columns, events_at, other_row, numbers_line, own_events, retired_events, row_of, spent_columns}
use Rattle.mono_model.specs.Report.{Text}
use Rattle.report_text.specs.RowText.{row_number}
use Rattle.cycle_watch.specs.declared.charge.Charge.{Charge as ChargeInCode}
use Rattle.cycle_watch.specs.declared.facts.Facts.{Facts as FactsInCode}
use Rattle.cycle_watch.specs.declared.profile.Profiling.{Profiling}
use Rattle.cycle_watch.specs.declared.profile_row.Column.{Column as ColumnInCode}
use Rattle.cycle_watch.specs.declared.profile_row.Column.TheVariants as code
use Rattle.cycle_watch.specs.declared.profile_row.ProfileRow.{ProfileRow}
use Rattle.cycle_watch.specs.Known.{StandsAt}
use Rattle.cycle_watch.specs.Passing.{WentBy}

-- so much more, in 64 bits
abbrev pub capped : ℕ → ℕ → ℕ
capped count by = min (count + by) (2 ^ 64 - 1)

-- the counts of a row, in the order of their columns
abbrev pub counts_of : ProfileRow → List ℕ
counts_of row =
    row.retired ∷ row.trapped ∷ row.taken ∷ row.fetched ∷ row.squashed ∷ row.mispredicted ∷ row.caches

abbrev pub numbers_of : ProfileRow → List ℕ
numbers_of row = counts_of row ++ capped 0 (sum row.spent) ∷ row.spent

abbrev pub column_in : ColumnInCode → profile.Column
column_in code.Retired = profile.retired
column_in code.Trapped = profile.trapped
column_in code.Taken = profile.taken
column_in code.Fetched = profile.fetched
column_in code.Squashed = profile.squashed
column_in code.Mispredicted = profile.mispredicted

-- what caches counted, in the order of the columns
abbrev pub cache_numbers : CacheCounts → List ℕ
cache_numbers counts =
    counts.icache_accesses ∷ counts.icache_misses ∷ counts.dcache_accesses ∷ counts.dcache_misses
    ∷ counts.l2_accesses ∷ counts.l2_misses ∷ counts.writebacks ∷ []

abbrev pub risen : List ℕ → ℕ → ℕ → List ℕ
risen counts place by = slice_set counts place (capped (slice_index counts place) by)

abbrev pub added : List ℕ → List ℕ → List ℕ
added counts rises = map (λ k. capped k.0 k.1) (zip counts rises)

-- the caches after some accesses
abbrev pub caches_after : AllCaches → CachesState → List CacheAccess → CachesState
caches_after p caches [] = caches
caches_after p caches (made ∷ rest) = caches_after p (used p caches made.what) rest

-- what some accesses are counted as, in caches that stood so before them
abbrev pub access_events : Image → AllCaches → CachesState → List CacheAccess → List Event
access_events image p caches made = flat_map (change_events image) (changes_from p caches made)

-- the accesses of some cycles, and those that were appended in them
abbrev pub run_accesses : Pipeline → List Cycle → List CacheAccess
run_accesses pipeline run = flat_map (accesses pipeline) (map (λ cycle. cycle.facts) run)

abbrev pub run_appended : List Cycle → List Shown
run_appended run = flat_map (λ cycle. cycle.facts.appended) run

-- all that is counted of some cycles of a run from its start
abbrev pub run_events : Image → AllCaches → Pipeline → List Cycle → List Event
run_events image p pipeline run = flat_map (cycle_events image) run ++ access_events image p cold (run_accesses pipeline run)

-- the name of the row at a place
abbrev pub row_at : List ℕ → ℕ → ℕ
row_at rows place = slice_index_or rows place other_row

-- a row has the counts of these events, which are its own
pub record HasCounts (own : List Event) (row : ProfileRow) : Type 0 where
  pub counts : counts_of row ≡ map (λ column. capped 0 (amount_in column own)) event_columns
  pub spent : row.spent ≡ map (λ column. capped 0 (amount_in column own)) spent_columns

-- the word of the last of these instructions that is one of a row
abbrev pub word_among : Image → ℕ → List Shown → ℕ
word_among image row shown =
    unwrap_or (last_or None (map (λ rec. unwrap_or rec.word 0) (filter (λ rec. row_of image rec.addr == row) shown))) 0

-- Each row has counted its own of these events, and has the word of the last of these instructions that is its own.
pub record HasCounted (image : Image) (all : List Event) (appended : List Shown) (profiling : Profiling) : Type 0 where
  pub rows : AreRowsOf image profiling.rows
  pub each : length profiling.counts.items ≡ length profiling.rows + 1
  pub counts : (place : ℕ) (row : ProfileRow) → slice_get profiling.counts.items place ≡ Some row
      → HasCounts (own_events (row_at profiling.rows place) all) row
  pub words : (place : ℕ) (row : ProfileRow) → slice_get profiling.counts.items place ≡ Some row
      → row.word ≡ word_among image (row_at profiling.rows place) appended

-- and its caches have made these accesses, each of which was counted
pub record HasAccessed (image : Image) (p : AllCaches) (state : CachesState) (all : List Event) (appended : List Shown) (profiling : Profiling) : Type 0 where
  pub counted : HasCounted image all appended profiling
  pub caches : CachesStandFor profiling.caches p state

-- These accesses are made, one after another, and counted.
pub record Makes (made : List CacheAccess) (old new : Profiling) : Type 0 where
  pub each : (image : Image) (p : AllCaches) (state : CachesState) (all : List Event) (appended : List Shown) → HasAccessed image p state all appended old
      → HasAccessed image p (caches_after p state made) (all ++ access_events image p state made) appended new

-- These events are counted, these accesses made, and these instructions were appended, in whatever order.
pub record Passes (events : Image → List Event) (made : List CacheAccess) (shown : List Shown) (old new : Profiling) : Type 0 where
  pub each : (image : Image) (p : AllCaches) (state : CachesState) (all : List Event) (appended : List Shown) → HasAccessed image p state all appended old
      → HasAccessed image p (caches_after p state made) ((all ++ events image) ++ access_events image p state made) (appended ++ shown) new

-- Of the instructions that were under way before a cycle, those that retired, and the ones that trapped, were squashed and
-- were mispredicted, as the code tells of it.
abbrev pub retired_before : FactsInCode → List Shown → List Shown
retired_before f window = take (if f.trapped then f.left - 1 else f.left) window

abbrev pub trapped_before : FactsInCode → List Shown → Option Shown
trapped_before f window = if f.trapped then last_or None (take f.left window) else None

abbrev pub squashed_before : FactsInCode → List Shown → List Shown
squashed_before f window = drop (f.left + f.kept) window

abbrev pub wrong_before : FactsInCode → List Shown → Option Shown
wrong_before f window = option_and_then (slice_get (drop f.left window)) f.mispredicted

-- and of those after it, the ones that were fetched without having been waited for
abbrev pub fetched_after : FactsInCode → List Shown → List Shown
fetched_after f window = drop (f.kept + (if f.paid then 1 else 0)) window

-- what is counted of those before it
abbrev pub events_before : Image → FactsInCode → List Shown → List Event
events_before image f window =
    flat_map (retired_events image) (retired_before f window)
    ++ events_at image profile.trapped (option_to_list (trapped_before f window))
    ++ events_at image profile.squashed (squashed_before f window)
    ++ events_at image profile.mispredicted (option_to_list (wrong_before f window))

-- cycles that were charged so
abbrev pub spent_event : Image → ChargeInCode → ℕ → Event
spent_event image head cycles = record { row = row_of image head.addr; column = profile.spent head.cause; amount = cycles }

-- the line of a row, if something was counted in it
abbrev pub row_text : Option ℕ → ProfileRow → Text
row_text addr row =
    if list_any (λ number. nat_lt 0 number) (numbers_of row) then numbers_line (row_number addr) row.word (numbers_of row) else []

-- a profile of these cycles, in each of which a window holds 256 instructions at most
pub record IsProfileOf (image : Image) (p : AllCaches) (pipeline : Pipeline) (run : List Cycle) (profiling : Profiling) : Type 0 where
  pub accessed : HasAccessed image p (caches_after p cold (run_accesses pipeline run)) (run_events image p pipeline run) (run_appended run) profiling
  pub few : All (λ cycle. length (window_before cycle.facts) ≤ 256) run
  pub new : All (λ cycle. length cycle.facts.appended ≤ 256) run

-- the cycles of all rows and causes
abbrev pub cycles_of : Profiling → ℕ
cycles_of profiling = sum_by (λ row. sum row.spent) profiling.counts.items

-- an observer has profiled these cycles, and others went by since
pub record IsProfiling (profiling : Profiling) (after : Sight) : Type 0 where
  pub image : Image
  pub pipeline : Pipeline
  pub params : Params
  pub before : Sight
  pub known : Known
  pub run : List Cycle
  pub more : ℕ
  pub stands : StandsAt pipeline params before known profiling.heads
  pub profiled : IsProfileOf image (caches_params params) pipeline run profiling
  pub all : length run ≡ before.cycle
  pub went : WentBy pipeline more before after
