-- Another mark on one station.
use Rattle.std.proofs.Common.{◌≡◌, ◌≢◌, ℕ, ◌+◌, ◌<◌, ◌==◌, Bool, true, false, if◌then◌else◌, Option, Some, None, List, [], ◌∷◌, length, refl, ap, sym, ◌∙◌, inl, inr, arith, eq-eqb, subst}
use Rattle.std.specs.Prelude.{slice_set, option_map}
use Rattle.std.proofs.lemmas.Bool.{cases_eq, ne_eqb}
use Rattle.std.proofs.lemmas.List.{get_or-set_same, get_or-set_other}
use Rattle.reservation_stations.specs.declared.station.Mark.{Mark}
use Rattle.reservation_stations.specs.declared.station.Station.{Station}
use Rattle.reservation_stations.specs.declared.row.Row.{Row}
use Rattle.reservation_stations.specs.Readiness.{is_waiting, station_of, mark_of, marked, waiting_count}
use Rattle.reservation_stations.specs.AreTables.{Each, AreDistinct, row_at, free_row, stations_at, station_in}
use Rattle.reservation_stations.proofs.Indices.{station_of-held}

abbrev pub one_if : Bool → ℕ
one_if b = if b then 1 else 0

-- what one row written leaves at each index
pub row_at-set : (rows : List Row) (index : ℕ) (row : Row) → index < length rows → (other : ℕ) →
    row_at (slice_set rows index row) other ≡ (if other == index then row else row_at rows other)
row_at-set rows index row within other = elim (cases_eq other index) [
  | inl same ↦ rw (eq-eqb other index same, same) (get_or-set_same rows index row free_row within)
  | inr differ ↦ rw (ne_eqb other index differ) (get_or-set_other rows index other row free_row differ)
]

-- the mark of a station that holds an index is the row's
pub with_mark_of : (o : Option Station) (mark : Mark) → option_map (λ (station : Station). station.mark) o ≡ Some mark →
    (station : Station) × (o ≡ Some station) × (station.mark ≡ mark)
with_mark_of None mark is = absurd cc
with_mark_of (Some station) mark is = (station, refl, cc)

pub mark_of-held : (at : ℕ → Row) (P : ℕ → Type 0) (indices : List ℕ) (index : ℕ) (mark : Mark) → Each P indices → mark_of index (stations_at at indices) ≡ Some mark →
    P index × ((at index).mark ≡ mark)
mark_of-held at P indices index mark each is =
    let found = with_mark_of (station_of index (stations_at at indices)) mark is in
    let held = station_of-held at P indices index found.0 each found.1 in
    (held.0, sym (ap (λ (station : Station). station.mark) held.1) ∙ found.2)

module _ (at at' : ℕ → Row) where
  -- stations that stay
  pub record Stays (index : ℕ) : Type 0 where
    pub registers : (at' index).registers ≡ (at index).registers
    pub mark : (at' index).mark ≡ (at index).mark

  pub stations_at-same : (indices : List ℕ) → Each Stays indices → stations_at at' indices ≡ stations_at at indices
  stations_at-same [] each = refl
  stations_at-same (index ∷ indices) each =
      λ i. station_in index (record (at index) { registers = each.0.registers i; mark = each.0.mark i }) ∷ stations_at-same indices each.1 i

  -- stations of which as many wait
  pub waiting_count-same : (indices : List ℕ) → Each (λ index. is_waiting (at' index).mark ≡ is_waiting (at index).mark) indices →
      waiting_count (stations_at at' indices) ≡ waiting_count (stations_at at indices)
  waiting_count-same [] each = refl
  waiting_count-same (index ∷ indices) each = λ i. (if each.0 i then 1 else 0) + waiting_count-same indices each.1 i

  module _ (index : ℕ) (next : Mark) where
    -- one station with another mark
    pub record Marks (other : ℕ) : Type 0 where
      pub registers : (at' other).registers ≡ (at other).registers
      pub mark : (at' other).mark ≡ (if other == index then next else (at other).mark)

    by_test : (b : Bool) (other : ℕ) (old new : Row) → new.registers ≡ old.registers → new.mark ≡ (if b then next else old.mark) →
        station_in other new ≡ (if b then record (station_in other old) { mark = next } else station_in other old)
    by_test true other old new registers mark = λ i. station_in other (record old { registers = registers i; mark = mark i })
    by_test false other old new registers mark = λ i. station_in other (record old { registers = registers i; mark = mark i })

    pub stations_at-marked : (indices : List ℕ) → Each Marks indices → stations_at at' indices ≡ marked index next (stations_at at indices)
    stations_at-marked [] each = refl
    stations_at-marked (other ∷ indices) each =
        λ i. by_test (other == index) other (at other) (at' other) each.0.registers each.0.mark i
        ∷ stations_at-marked indices each.1 i

    waits_alike : (other : ℕ) → other ≢ index → Marks other → is_waiting (at' other).mark ≡ is_waiting (at other).mark
    waits_alike other differ is = ap is_waiting is.mark ∙ ap (λ b. is_waiting (if b then next else (at other).mark)) (ne_eqb other index differ)

    waiting_count-apart : (indices : List ℕ) → Each (λ other. other ≢ index) indices → Each Marks indices →
        waiting_count (stations_at at' indices) ≡ waiting_count (stations_at at indices)
    waiting_count-apart [] apart each = refl
    waiting_count-apart (other ∷ indices) apart each =
        λ i. (if waits_alike other apart.0 each.0 i then 1 else 0) + waiting_count-apart indices apart.1 each.1 i

    -- where the marked station waited and no longer does, one fewer waits
    pub waiting_count-one_less : (indices : List ℕ) → AreDistinct indices → Each Marks indices → is_waiting next ≡ false → is_waiting (at index).mark ≡ true →
        (station : Station) → station_of index (stations_at at indices) ≡ Some station →
        waiting_count (stations_at at' indices) + 1 ≡ waiting_count (stations_at at indices)
    waiting_count-one_less [] distinct each not_now then_so station found = absurd cc
    waiting_count-one_less (other ∷ indices) distinct each not_now then_so station found = elim (cases_eq other index) [
      | inl same ↦
          let apart : Each (λ s. s ≢ index) indices = subst (λ s. Each (λ t. t ≢ s) indices) same distinct.0 in
          let now : is_waiting (at' other).mark ≡ false = ap is_waiting each.0.mark ∙ ap (λ b. is_waiting (if b then next else (at other).mark)) (eq-eqb other index same) ∙ not_now in
          let before : is_waiting (at other).mark ≡ true = ap (λ s. is_waiting (at s).mark) same ∙ then_so in
          let rest = waiting_count-apart indices apart each.1 in
          let here = ap one_if now in
          let there = ap one_if before in
          omega (arith, here, there, rest)
      | inr differ ↦
          let above : (if other == index then Some (station_in other (at other)) else station_of index (stations_at at indices)) ≡ Some station = found in
          let rest = waiting_count-one_less indices distinct.1 each.1 not_now then_so station (rw (ne_eqb other index differ) at above) in
          let alike = ap one_if (waits_alike other differ each.0) in
          omega (arith, alike, rest)
    ]
