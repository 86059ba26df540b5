-- A row of a profile counts one thing more.
use Rattle.std.proofs.Common.{◌≡◌, ◌∙◌, ℕ, ◌+◌, ◌≤◌, ◌<◌, ◌==◌, nat_lt, Bool, true, false, if◌then◌else◌, Some, List, [], ◌∷◌, ◌++◌, drop, map, take, refl, sym, ap, arith}
use Rattle.std.specs.Prelude.{filter, slice_get, slice_set, unwrap_or}
use Rattle.std.proofs.lemmas.Bool.{eq-eqb, ltb-false, ne_eqb}
use Rattle.std.proofs.lemmas.List.Sums.{sum_by-cons}
use Rattle.elf_image.specs.declared.image.Image.{Image}
use Rattle.cache_timing.specs.declared.counts.CacheCounts.{CacheCounts}
use Rattle.text_rows.specs.Rows.{IsRowOf}
use Rattle.insight_model.specs.Cause.{cause_place}
use Rattle.insight_model.specs.Sight.{Shown}
use Rattle.insight_model.specs.Profile.{Column, Event, amount_in, cache_events, change_event, column_place, event_columns, fetched, once, own_events, row_of, spent_columns}
use Rattle.insight_model.specs.Profile as profile
use Rattle.cycle_watch.specs.declared.charge.Charge.{Charge as ChargeInCode}
use Rattle.cycle_watch.specs.declared.profile.Profiling.{Profiling}
use Rattle.cycle_watch.specs.declared.profile_row.Column.{Column as ColumnInCode}
use Rattle.cycle_watch.specs.declared.profile_row.Column.TheVariants as code
use Rattle.cycle_watch.specs.declared.profile_row.ProfileRow.{ProfileRow}
use Rattle.cycle_watch.specs.Profiled.{HasCounted, HasCounts, added, cache_numbers, capped, column_in, counts_of, risen, spent_event}
use Rattle.cycle_watch.proofs.RowCounts.{amount_of, capped_more, event_counted, map_here, spent_counted, spent_place}
use Rattle.cycle_watch.proofs.RowEvents.{amount_both, appended_own, counted_in, event_own, word_own}

-- no column that isn't a cycle's has a cause's place
pub column_below : (column : ColumnInCode) → column_place (column_in column) < 13
column_below code.Retired = omega arith
column_below code.Trapped = omega arith
column_below code.Taken = omega arith
column_below code.Fetched = omega arith
column_below code.Squashed = omega arith
column_below code.Mispredicted = omega arith

module _ (image : Image) (all : List Event) (appended : List Shown) (old new : Profiling) (place : ℕ) (before after : ProfileRow) where
  pub spent_in : (head : ChargeInCode) (cycles : ℕ) → HasCounted image all appended old → new ≡ record old { counts = new.counts } → IsRowOf old.rows head.addr place →
      slice_get old.counts.items place ≡ Some before → new.counts.items ≡ slice_set old.counts.items place after → (cause : ℕ) → cause ≡ cause_place head.cause → after ≡ record before { spent = risen before.spent cause cycles } →
      HasCounted image (all ++ spent_event image head cycles ∷ []) appended new
  spent_in head cycles has is found there changed cause named row =
      let event : Event = spent_event image head cycles in
      counted_in image all (event ∷ []) appended appended old new head.addr place before after has is found there changed (event_own image event head.addr appended refl)
      (λ was. spent_counted (own_events (row_of image head.addr) all) event before after cause (ap (λ (n : ℕ). 13 + n) (sym named)) was (ap (λ (r : ProfileRow). counts_of r) row) (ap (λ (r : ProfileRow). r.spent) row))
      (λ was. ap (λ (r : ProfileRow). r.word) row ∙ was)

  pub one_in : (column : ColumnInCode) (addr : ℕ) → HasCounted image all appended old → new ≡ record old { counts = new.counts } → IsRowOf old.rows addr place →
      slice_get old.counts.items place ≡ Some before → new.counts.items ≡ slice_set old.counts.items place after →
      counts_of after ≡ risen (counts_of before) (column_place (column_in column)) 1 → after.word ≡ before.word → after.spent ≡ before.spent →
      HasCounted image (all ++ once image (column_in column) addr ∷ []) appended new
  one_in column addr has is found there changed counts word spent =
      let event : Event = once image (column_in column) addr in
      counted_in image all (event ∷ []) appended appended old new addr place before after has is found there changed (event_own image event addr appended refl)
      (λ was. event_counted (own_events (row_of image addr) all) event before after (column_below column) was counts spent)
      (λ was. word ∙ was)

  pub appended_in : (shown : Shown) → HasCounted image all appended old → new ≡ record old { counts = new.counts } → IsRowOf old.rows shown.addr place →
      slice_get old.counts.items place ≡ Some before → new.counts.items ≡ slice_set old.counts.items place after →
      counts_of after ≡ risen (counts_of before) 3 1 → after.word ≡ unwrap_or shown.word 0 → after.spent ≡ before.spent →
      HasCounted image (all ++ once image fetched shown.addr ∷ []) (appended ++ shown ∷ []) new
  appended_in shown has is found there changed counts word spent =
      let event : Event = once image fetched shown.addr in
      counted_in image all (event ∷ []) appended (appended ++ shown ∷ []) old new shown.addr place before after has is found there changed (appended_own image event shown appended refl)
      (λ was. event_counted (own_events (row_of image shown.addr) all) event before after (omega arith) was counts spent)
      (λ was. word ∙ sym (word_own image (row_of image shown.addr) appended shown refl))

-- What an access counted, in a row.
abbrev pub seven : ℕ → CacheCounts → List Event
seven row counts =
    change_event row profile.icache_accesses counts.icache_accesses
    ∷ change_event row profile.icache_misses counts.icache_misses
    ∷ change_event row profile.dcache_accesses counts.dcache_accesses
    ∷ change_event row profile.dcache_misses counts.dcache_misses
    ∷ change_event row profile.l2_accesses counts.l2_accesses
    ∷ change_event row profile.l2_misses counts.l2_misses
    ∷ change_event row profile.writebacks counts.writebacks
    ∷ []

-- events of nothing may be left out
abbrev pub some : List Event → List Event
some events = filter (λ event. nat_lt 0 event.amount) events

none_amount : (column : Column) (event : Event) → event.amount ≡ 0 → amount_of column event ≡ 0
none_amount column event is = by (column_place event.column == column_place column)
  where
    by : (b : Bool) → (if b then event.amount else 0) ≡ 0
    by true = is
    by false = refl

pub some_amount : (column : Column) (events : List Event) → amount_in column (some events) ≡ amount_in column events
some_amount column [] = refl
some_amount column (event ∷ rest) = by (some_amount column rest) (nat_lt 0 event.amount) refl
  where
    by : amount_in column (some rest) ≡ amount_in column rest → (b : Bool) → nat_lt 0 event.amount ≡ b → amount_in column (if b then event ∷ some rest else some rest) ≡ amount_in column (event ∷ rest)
    by others true is =
        sum_by-cons (amount_of column) event (some rest) ∙ ap (λ (n : ℕ). amount_of column event + n) others ∙ sym (sum_by-cons (amount_of column) event rest)
    by others false is =
        let nothing : event.amount ≡ 0 = omega (arith, ltb-false 0 event.amount is) in
        omega (arith, others, sum_by-cons (amount_of column) event rest, none_amount column event nothing)

abbrev AllIn : ℕ → List Event → Type 0
AllIn row [] = Unit {0}
AllIn row (event ∷ rest) = (event.row ≡ row) × AllIn row rest

some_own : (row : ℕ) (events : List Event) → AllIn row events → own_events row (some events) ≡ some events
some_own row [] are = refl
some_own row (event ∷ rest) are = by (some_own row rest are.1) (nat_lt 0 event.amount)
  where
    by : own_events row (some rest) ≡ some rest → (b : Bool) → own_events row (if b then event ∷ some rest else some rest) ≡ (if b then event ∷ some rest else some rest)
    by others true =
        ap (λ (b : Bool). if b then event ∷ own_events row (some rest) else own_events row (some rest)) (eq-eqb event.row row are.0)
        ∙ ap (λ (xs : List Event). event ∷ xs) others
    by others false = others

some_other : (row other : ℕ) (events : List Event) → (row ≡ other → ⊥) → AllIn row events → own_events other (some events) ≡ []
some_other row other [] apart are = refl
some_other row other (event ∷ rest) apart are = by (some_other row other rest apart are.1) (nat_lt 0 event.amount)
  where
    by : own_events other (some rest) ≡ [] → (b : Bool) → own_events other (if b then event ∷ some rest else some rest) ≡ []
    by others true =
        ap (λ (b : Bool). if b then event ∷ own_events other (some rest) else own_events other (some rest)) (ne_eqb event.row other (λ same. apart (sym are.0 ∙ same)))
        ∙ others
    by others false = others

-- in other columns it counts nothing
abbrev AllApart : Column → List Event → Type 0
AllApart column [] = Unit {0}
AllApart column (event ∷ rest) = (column_place event.column ≡ column_place column → ⊥) × AllApart column rest

apart_amount : (column : Column) (events : List Event) → AllApart column events → amount_in column events ≡ 0
apart_amount column [] apart = refl
apart_amount column (event ∷ rest) apart =
    let here : amount_of column event ≡ 0 = ap (λ (b : Bool). if b then event.amount else 0) (ne_eqb (column_place event.column) (column_place column) apart.0) in
    omega (arith, here, sum_by-cons (amount_of column) event rest, apart_amount column rest apart.1)

module _ (row : ℕ) (counts : CacheCounts) (own : List Event) where
  abbrev events : List Event
  events = cache_events row counts

  abbrev was : Column → ℕ
  was column = capped 0 (amount_in column own)

  abbrev will : Column → ℕ
  will column = capped 0 (amount_in column (own ++ events))

  more : (column : Column) → amount_in column (own ++ events) ≡ amount_in column own + amount_in column (seven row counts)
  more column = amount_both column own events ∙ ap (λ (n : ℕ). amount_in column own + n) (some_amount column (seven row counts))

  none : (column : Column) → amount_in column (seven row counts) ≡ 0 → will column ≡ was column
  none column nothing = let e : amount_in column own + 0 ≡ amount_in column own = omega arith in
      ap (capped 0) (more column ∙ ap (λ (n : ℕ). amount_in column own + n) nothing ∙ e)

  risen_by : (column : Column) (n : ℕ) → amount_in column (seven row counts) ≡ n → will column ≡ capped (was column) n
  risen_by column n some = ap (capped 0) (more column ∙ ap (λ (m : ℕ). amount_in column own + m) some) ∙ sym (capped_more (amount_in column own) n)

  -- the columns of a row whose caches have these counts added
  abbrev raised : List ℕ → List ℕ
  raised ns = take 6 ns ++ added (drop 6 ns) (cache_numbers counts)

  raised_columns : raised (map was event_columns) ≡ map will event_columns
  raised_columns =
      λ i. sym (none profile.retired (omega arith)) i
      ∷ sym (none profile.trapped (omega arith)) i
      ∷ sym (none profile.taken (omega arith)) i
      ∷ sym (none profile.fetched (omega arith)) i
      ∷ sym (none profile.squashed (omega arith)) i
      ∷ sym (none profile.mispredicted (omega arith)) i
      ∷ sym (risen_by profile.icache_accesses counts.icache_accesses (omega arith)) i
      ∷ sym (risen_by profile.icache_misses counts.icache_misses (omega arith)) i
      ∷ sym (risen_by profile.dcache_accesses counts.dcache_accesses (omega arith)) i
      ∷ sym (risen_by profile.dcache_misses counts.dcache_misses (omega arith)) i
      ∷ sym (risen_by profile.l2_accesses counts.l2_accesses (omega arith)) i
      ∷ sym (risen_by profile.l2_misses counts.l2_misses (omega arith)) i
      ∷ sym (risen_by profile.writebacks counts.writebacks (omega arith)) i
      ∷ []

  spent_apart : (column : Column) → 13 ≤ column_place column → AllApart column (seven row counts)
  spent_apart column beyond = (
    λ e. omega (arith, e, beyond),
    (
      λ e. omega (arith, e, beyond),
      (
        λ e. omega (arith, e, beyond),
        (λ e. omega (arith, e, beyond), (λ e. omega (arith, e, beyond), (λ e. omega (arith, e, beyond), (λ e. omega (arith, e, beyond), tt)))),
      ),
    ),
  )

  pub caches_counted : (before after : ProfileRow) → after ≡ record before { caches = added before.caches (cache_numbers counts) } → HasCounts own before → HasCounts (own ++ events) after
  caches_counted before after changed has = record {
    counts = ap (λ (r : ProfileRow). counts_of r) changed ∙ ap raised has.counts ∙ raised_columns;
    spent =
        ap (λ (r : ProfileRow). r.spent) changed ∙ has.spent
        ∙ map_here was will spent_columns
        (λ j column at. none column (apart_amount column (seven row counts) (spent_apart column (omega (arith, spent_place j column at)))));
  }

module _ (image : Image) (all : List Event) (appended : List Shown) (old new : Profiling) (place : ℕ) (before after : ProfileRow) where
  pub caches_in : (addr : ℕ) (counts : CacheCounts) → HasCounted image all appended old → new ≡ record old { counts = new.counts } → IsRowOf old.rows addr place →
      slice_get old.counts.items place ≡ Some before → new.counts.items ≡ slice_set old.counts.items place after → after ≡ record before { caches = added before.caches (cache_numbers counts) } →
      HasCounted image (all ++ cache_events (row_of image addr) counts) appended new
  caches_in addr counts has is found there changed row =
      let own = row_of image addr in
      let rows : AllIn own (seven own counts) = (refl, (refl, (refl, (refl, (refl, (refl, (refl, tt))))))) in
      counted_in image all (cache_events own counts) appended appended old new addr place before after has is found there changed
      (record {
        own = some_own own (seven own counts) rows;
        others = λ other apart. some_other own other (seven own counts) apart rows;
        words = λ other apart. refl;
      })
      (λ was. caches_counted own counts (own_events own all) before after row was)
      (λ was. ap (λ (r : ProfileRow). r.word) row ∙ was)
