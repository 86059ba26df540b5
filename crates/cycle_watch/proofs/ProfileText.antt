-- The rows of a profile, as they are written, and what their cycles add up to.
use Rattle.std.proofs.Common.{◌≡◌, ◌∙◌, ℕ, suc, ◌^◌, ◌≤◌, ◌<◌, nat_lt, List, [], ◌∷◌, ◌++◌, length, map, sum, get_or, Option, Some, None, refl, sym, ap, subst, arith}
use Rattle.std.specs.Prelude.{flat_map, if◌then◌else◌, slice_get, sum_by, take, unwrap_or}
use Rattle.std.specs.List.{last_or, list_any}
use Rattle.std.proofs.lemmas.List.Sums.{sum_by-cons}
use Rattle.std.proofs.lemmas.Option.{slice_get_within, unwrap_or-slice_get}
use Rattle.elf_image.specs.declared.image.Image.{Image}
use Rattle.mono_model.specs.declared.setup.Setup.{Setup}
use Rattle.mono_model.specs.Report.{Text, joined}
use Rattle.mono_model.specs.Setup.{caches_params}
use Rattle.cache_timing.specs.declared.params.AllCaches.{AllCaches}
use Rattle.fsim_ports.specs.Sink.{grown}
use Rattle.insight_model.specs.declared.pipeline.Pipeline.{Pipeline}
use Rattle.insight_model.specs.Facts.{Facts}
use Rattle.insight_model.specs.Accesses.{changes}
use Rattle.insight_model.specs.Cycles.{Cycle}
use Rattle.insight_model.specs.Profile.{Event, events, last_word, numbers_line, other_row, own_events, profile_line, profile_lines, profile_numbers, rows_of, words_in}
use Rattle.insight_laws.proofs.Listed.{has_row, rows_listed}
use Rattle.insight_laws.proofs.RowSums.{all_once, split_events}
use Rattle.insight_laws.proofs.TextRows.{address_at, addresses, addresses_length, addresses_rise}
use Rattle.report_text.specs.RowText.{row_number}
use Rattle.report_text.proofs.RowLines.{number_is, one_text, text_of}
use Rattle.cycle_watch.specs.declared.profile.Profiling.{Profiling}
use Rattle.cycle_watch.specs.declared.profile_row.ProfileRow.{ProfileRow}
use Rattle.cycle_watch.specs.Profiled.{HasCounted, HasCounts, IsProfileOf, cycles_of, numbers_of, row_at, row_text, run_appended, run_events, word_among}
use Rattle.cycle_watch.proofs.ColumnSums.{any_counted, cycles_in, numbers_are, spent_is, spent_sum}
use Rattle.cycle_watch.proofs.RowEvents.{words_among, words_both}
use Rattle.cycle_watch.proofs.RowStands.{all_stand, row_counted, run_cycles, run_sound}
use Rattle.cycle_watch.proofs.Weights.{run_weight, weight, weight_own}

abbrev pub facts_of : List Cycle → List Facts
facts_of run = map (λ cycle. cycle.facts) run

-- the word that was appended last
words_are : (image : Image) (row : ℕ) (run : List Cycle) → words_among image row (run_appended run) ≡ flat_map (words_in image row) (facts_of run)
words_are image row [] = refl
words_are image row (cycle ∷ run) =
    words_both image row cycle.facts.appended (run_appended run) ∙ ap (λ (ws : List ℕ). words_among image row cycle.facts.appended ++ ws) (words_are image row run)

word_is : (image : Image) (row : ℕ) (run : List Cycle) → word_among image row (run_appended run) ≡ last_word image row (facts_of run)
word_is image row run = ap (λ (ws : List ℕ). unwrap_or (last_or None ws) 0) (words_are image row run)

-- a sum over rows
sum_level : {A : Type 0} (f : A → ℕ) (h : ℕ → ℕ) (xs : List A) (ys : List ℕ) (d : ℕ) → length xs ≡ length ys → ((k : ℕ) (x : A) → slice_get xs k ≡ Some x → f x ≡ h (get_or ys k d)) → sum_by f xs ≡ sum_by h ys
sum_level f h [] [] d level same = refl
sum_level f h [] (y ∷ ys) d level same = absurd (omega (arith, level))
sum_level f h (x ∷ xs) [] d level same = absurd (omega (arith, level))
sum_level f h (x ∷ xs) (y ∷ ys) d level same =
    let first : f x ≡ h y = same 0 x refl in
    omega (arith, sum_by-cons f x xs, sum_by-cons h y ys, first, sum_level f h xs ys d (omega (arith, level)) (λ k z there. same (suc k) z there))

module _ (image : Image) (p : AllCaches) (kind : Pipeline) (run : List Cycle) (profiling : Profiling) (is : IsProfileOf image p kind run profiling) (short : length run < 2 ^ 48) where
  abbrev all : List Event
  all = run_events image p kind run

  abbrev rows : List ℕ
  rows = addresses profiling.rows

  abbrev counted : HasCounted image all (run_appended run) profiling
  counted = is.accessed.counted

  own_light : (row : ℕ) → weight (own_events row all) < 2 ^ 63
  own_light row = omega (arith, weight_own row all, run_weight image p kind run is.few is.new short)

  -- what a row has counted
  module _ (place : ℕ) (row : ProfileRow) (there : slice_get profiling.counts.items place ≡ Some row) where
    abbrev own : ℕ
    own = get_or rows place other_row

    own_is : own ≡ row_at profiling.rows place
    own_is = address_at profiling.rows place

    own_counts : HasCounts (own_events own all) row
    own_counts = let P : ℕ → Type 0 = λ r. HasCounts (own_events r all) row in subst P (sym own_is) (counted.counts place row there)

    own_word : row.word ≡ last_word image own (facts_of run)
    own_word = counted.words place row there ∙ ap (λ (r : ℕ). word_among image r (run_appended run)) (sym own_is) ∙ word_is image own run

    own_numbers : numbers_of row ≡ profile_numbers (own_events own all)
    own_numbers = numbers_are (own_events own all) row own_counts (own_light own)

    pub place_within : place < length rows
    place_within = omega (arith, slice_get_within profiling.counts.items place row there, counted.each, addresses_length profiling.rows)

    named : row_number (slice_get profiling.rows place) ≡ own
    named = number_is (slice_get profiling.rows place) ∙ unwrap_or-slice_get profiling.rows place other_row ∙ sym own_is

    some_is : list_any (λ number. nat_lt 0 number) (numbers_of row) ≡ has_row own all
    some_is = ap (list_any (λ number. nat_lt 0 number)) own_numbers ∙ any_counted (own_events own all) ∙ sym (row_counted rows all own (run_sound image profiling.rows counted.rows p kind run))

    line_is : numbers_line (row_number (slice_get profiling.rows place)) row.word (numbers_of row) ≡ profile_line image (facts_of run) all own
    line_is = λ i. numbers_line (named i) (own_word i) (own_numbers i)

    pub text_is : row_text (slice_get profiling.rows place) row ≡ one_text (has_row own all) (profile_line image (facts_of run) all own)
    text_is = λ i. if some_is i then line_is i else []

    cycles_are : sum row.spent ≡ sum_by cycles_in (own_events own all)
    cycles_are = ap sum (spent_is (own_events own all) row own_counts (own_light own)) ∙ spent_sum (own_events own all)

  -- all rows
  abbrev pub lines_to : List ℕ → Text
  lines_to some = text_of (profile_line image (facts_of run) all) (λ row. has_row row all) some

  pub lines_all : joined (map (profile_line image (facts_of run) all) (rows_of all)) ≡ lines_to rows
  lines_all =
      ap (λ (rs : List ℕ). joined (map (profile_line image (facts_of run) all) rs))
      (rows_listed rows all (addresses_rise profiling.rows counted.rows.rising counted.rows.fit) (all_stand rows all (run_sound image profiling.rows counted.rows p kind run)))

  -- the cycles of all rows
  pub cycles_sum : cycles_of profiling ≡ length run
  cycles_sum =
      sum_level (λ (row : ProfileRow). sum row.spent) (λ (r : ℕ). sum_by cycles_in (own_events r all)) profiling.counts.items rows other_row
      (omega (arith, counted.each, addresses_length profiling.rows)) (λ k row there. cycles_are k row there)
      ∙ split_events cycles_in rows all
      (all_once rows all (addresses_rise profiling.rows counted.rows.rising counted.rows.fit) (all_stand rows all (run_sound image profiling.rows counted.rows p kind run)))
      ∙ run_cycles image p kind run

-- what is written is what the definition says
pub events_are : (kind : Pipeline) (s : Setup) (run : List Cycle) → events kind s run ≡ run_events s.image (caches_params s.params) kind run
unfolding events changes
events_are kind s run = refl

pub lines_are : (kind : Pipeline) (s : Setup) (run : List Cycle) →
    joined (profile_lines s run (events kind s run)) ≡ joined (map (profile_line s.image (facts_of run) (run_events s.image (caches_params s.params) kind run)) (rows_of (run_events s.image (caches_params s.params) kind run)))
lines_are kind s run = ap (λ (es : List Event). joined (profile_lines s run es)) (events_are kind s run)

-- the first rows were written
pub record WritesRows (profiling : Profiling) (done before now : ℕ) (old new : Option Text) : Type 0 where
  pub count : before ≤ now
  pub written : (s : Setup) (kind : Pipeline) (run : List Cycle) → IsProfileOf s.image (caches_params s.params) kind run profiling → length run < 2 ^ 48
      → new ≡ grown old (text_of (profile_line s.image (facts_of run) (run_events s.image (caches_params s.params) kind run)) (λ row. has_row row (run_events s.image (caches_params s.params) kind run)) (take done (addresses profiling.rows)))
