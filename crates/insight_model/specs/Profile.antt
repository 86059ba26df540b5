-- The profile: a row of counts for each word of text, and one for all other addresses.
use Rattle.std.specs.Prelude.{ℕ, ◌+◌, ◌%◌, ◌^◌, ◌==◌, ◌&&◌, not, nat_lt, if◌then◌else◌, Bool, false, Option, None, unwrap_or, option_and_then, option_to_list, slice_get, List, [], ◌∷◌, ◌++◌, codes, decimal, filter, flat_map, map, sum, sum_by}
use Rattle.std.specs.List.{last_or, join_with_byte}
use Rattle.std.specs.Option.{option_map_or}
use Rattle.fsim_base.specs.Number.{wrap_sum}
use Rattle.cache_timing.specs.declared.counts.CacheCounts.{CacheCounts}
use Rattle.elf_image.specs.declared.image.Image.{Image}
use Rattle.mono_model.specs.declared.setup.Setup.{Setup}
use Rattle.mono_model.specs.Setup.{caches_params}
use Rattle.mono_model.specs.Found.{has_text}
use Rattle.mono_model.specs.Report.{Text, hex, joined, line_feed}
use Rattle.insight_model.specs.declared.pipeline.Pipeline.{Pipeline}
use Rattle.insight_model.specs.declared.cycle_cause.CycleCause.{CycleCause}
use Rattle.insight_model.specs.Cause.{causes, cause_name, cause_place}
use Rattle.insight_model.specs.Sight.{Shown, outcome_shown}
use Rattle.insight_model.specs.Facts.{Facts}
use Rattle.insight_model.specs.Accesses.{Change, changes, retired_in}
use Rattle.insight_model.specs.Cycles.{Cycle, cycles}

-- The row of an address: the address itself if it is a word of text; all others share one, which stands last.
abbrev pub other_row : ℕ
other_row = 2 ^ 32

abbrev pub row_of : Image → ℕ → ℕ
row_of image addr = if addr % 4 == 0 && has_text image addr then addr else other_row

-- What is counted in a row.
pub data Column : Type 0 where
  -- records that left, without a trap and with one; those that went elsewhere than on
  retired : Column
  trapped : Column
  taken : Column
  -- records that were appended, squashed, mispredicted
  fetched : Column
  squashed : Column
  mispredicted : Column
  -- what the caches counted
  icache_accesses : Column
  icache_misses : Column
  dcache_accesses : Column
  dcache_misses : Column
  l2_accesses : Column
  l2_misses : Column
  writebacks : Column
  -- cycles, by what they were spent on
  spent : CycleCause → Column

-- the columns before the cycles, in the order in which they are written, and the place of each column
abbrev pub event_columns : List Column
event_columns =
    retired ∷ trapped ∷ taken ∷ fetched ∷ squashed ∷ mispredicted ∷ icache_accesses ∷ icache_misses
    ∷ dcache_accesses ∷ dcache_misses ∷ l2_accesses ∷ l2_misses ∷ writebacks ∷ []

abbrev pub spent_columns : List Column
spent_columns = map spent causes

abbrev pub column_place : Column → ℕ
column_place retired = 0
column_place trapped = 1
column_place taken = 2
column_place fetched = 3
column_place squashed = 4
column_place mispredicted = 5
column_place icache_accesses = 6
column_place icache_misses = 7
column_place dcache_accesses = 8
column_place dcache_misses = 9
column_place l2_accesses = 10
column_place l2_misses = 11
column_place writebacks = 12
column_place (spent cause) = 13 + cause_place cause

-- Something to be counted: in which row and column, and how much.
pub record Event : Type 0 where
  pub row : ℕ
  pub column : Column
  pub amount : ℕ

abbrev pub once : Image → Column → ℕ → Event
once image column addr = record { row = row_of image addr; column = column; amount = 1 }

abbrev pub goes_on : ℕ → ℕ → Bool
goes_on addr next = next == wrap_sum addr 4

abbrev pub is_taken : Shown → Bool
is_taken shown = option_map_or (λ o. not (goes_on shown.addr o.next)) (outcome_shown shown) false

abbrev pub retired_events : Image → Shown → List Event
retired_events image shown =
    once image retired shown.addr ∷ (if is_taken shown then once image taken shown.addr ∷ [] else [])

abbrev pub trapped_record : Facts → Option Shown
trapped_record f = if f.trapped then last_or None f.left else None

abbrev pub wrong_record : Facts → Option Shown
wrong_record f = option_and_then (slice_get (map (λ k. k.before) f.kept ++ f.squashed)) f.mispredicted

abbrev pub events_at : Image → Column → List Shown → List Event
events_at image column shown = map (λ rec. once image column rec.addr) shown

-- the events of a cycle, but for those of the caches
unfoldable pub cycle_events : Image → Cycle → List Event
cycle_events image cycle =
    once image (spent cycle.head.cause) cycle.head.addr
    ∷ flat_map (retired_events image) (retired_in cycle.facts)
    ++ events_at image trapped (option_to_list (trapped_record cycle.facts))
    ++ events_at image squashed cycle.facts.squashed
    ++ events_at image mispredicted (option_to_list (wrong_record cycle.facts))
    ++ events_at image fetched cycle.facts.appended

abbrev pub change_event : ℕ → Column → ℕ → Event
change_event row column amount = record { row = row; column = column; amount = amount }

abbrev pub cache_events : ℕ → CacheCounts → List Event
cache_events row counts =
    filter (λ event. nat_lt 0 event.amount)
    (change_event row icache_accesses counts.icache_accesses
    ∷ change_event row icache_misses counts.icache_misses
    ∷ change_event row dcache_accesses counts.dcache_accesses
    ∷ change_event row dcache_misses counts.dcache_misses
    ∷ change_event row l2_accesses counts.l2_accesses
    ∷ change_event row l2_misses counts.l2_misses
    ∷ change_event row writebacks counts.writebacks
    ∷ [])

abbrev pub change_events : Image → Change → List Event
change_events image change = cache_events (row_of image change.by) change.counts

-- the events of a run
unfoldable pub events : Pipeline → Setup → List Cycle → List Event
events pipeline s run =
    flat_map (cycle_events s.image) run
    ++ flat_map (change_events s.image) (changes (caches_params s.params) pipeline (map (λ cycle. cycle.facts) run))

-- A row: its counts by columns, among the events of this row.
abbrev pub amount_in : Column → List Event → ℕ
amount_in column own = sum_by (λ event. if column_place event.column == column_place column then event.amount else 0) own

abbrev pub own_events : ℕ → List Event → List Event
own_events row all = filter (λ event. event.row == row) all

-- the word of the record that was appended last in this row, and 0 if none was
abbrev pub words_in : Image → ℕ → Facts → List ℕ
words_in image row f = map (λ rec. unwrap_or rec.word 0) (filter (λ rec. row_of image rec.addr == row) f.appended)

abbrev pub last_word : Image → ℕ → List Facts → ℕ
last_word image row run = unwrap_or (last_or None (flat_map (words_in image row) run)) 0

-- the rows in which something was counted, by address
abbrev pub with_row : ℕ → List ℕ → List ℕ
with_row row [] = row ∷ []
with_row row (first ∷ rest) =
    if row == first then first ∷ rest else (if nat_lt row first then row ∷ first ∷ rest else first ∷ with_row row rest)

abbrev pub rows_of : List Event → List ℕ
rows_of [] = []
rows_of (event ∷ rest) = with_row event.row (rows_of rest)

-- The lines: numbers with commas between them.
abbrev pub row_name : ℕ → Text
row_name row = if row == other_row then codes "other" else hex 8 row

abbrev pub numbers_line : ℕ → ℕ → List ℕ → Text
numbers_line row word numbers = join_with_byte 44 (row_name row ∷ hex 8 word ∷ map decimal numbers) ++ line_feed

abbrev pub spent_in : List Event → List ℕ
spent_in own = map (λ column. amount_in column own) spent_columns

abbrev pub profile_numbers : List Event → List ℕ
profile_numbers own = map (λ column. amount_in column own) event_columns ++ sum (spent_in own) ∷ spent_in own

abbrev pub profile_line : Image → List Facts → List Event → ℕ → Text
profile_line image run all row = numbers_line row (last_word image row run) (profile_numbers (own_events row all))

unfoldable pub profile_header : Text
profile_header =
    codes "address,word,retired,exceptions,taken,fetched,squashed,mispredicted,"
    ++ codes "icache_accesses,icache_misses,dcache_accesses,dcache_misses,l2_accesses,l2_misses,writebacks,cycles,"
    ++ join_with_byte 44 (map cause_name causes) ++ line_feed

abbrev pub profile_lines : Setup → List Cycle → List Event → List Text
profile_lines s run all = map (profile_line s.image (map (λ cycle. cycle.facts) run) all) (rows_of all)

abbrev pub profile_of : Pipeline → Setup → List Cycle → Text
profile_of pipeline s run = profile_header ++ joined (profile_lines s run (events pipeline s run))

-- the profile of a run, over at most so many cycles
unfoldable pub profile_text : Pipeline → Setup → ℕ → Text
profile_text pipeline s most = profile_of pipeline s (cycles pipeline s most)
