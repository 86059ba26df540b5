-- Each event is counted in one row of its list's rows, so that the rows add up to the whole.
use Rattle.std.proofs.Common.{◌≡◌, ◌∙◌, ℕ, ◌+◌, ◌≤◌, ◌<◌, ◌==◌, nat_lt, if◌then◌else◌, Bool, true, false, List, [], ◌∷◌, refl, sym, ap, subst, arith}
use Rattle.std.specs.Prelude.{sum_by, count_by}
use Rattle.std.proofs.lemmas.Bool.{eqb-true, eqb-false, eq-eqb, ne_eqb, ltb-true, ltb-false}
use Rattle.std.proofs.lemmas.List.Sums.{sum_by-cons}
use Rattle.insight_model.specs.Profile.{Event, Column, column_place, amount_in, own_events, with_row, rows_of}
use Rattle.insight_laws.proofs.Counting.{sum_by_nothing, sum_by_added}
use Rattle.insight_laws.proofs.Listed.{After, AllStandIn, IsAbove, IsOrdered, Now, StandsIn, in_above}

-- how often a row stands in a list
abbrev times : ℕ → List ℕ → ℕ
times row rows = count_by (λ other. row == other) rows

abbrev one_if : Bool → ℕ
one_if b = if b then 1 else 0

times_next : (row first : ℕ) (rest : List ℕ) → times row (first ∷ rest) ≡ one_if (row == first) + times row rest
times_next row first rest = sum_by-cons (λ other. one_if (row == other)) first rest

-- rows that rise
ordered_above : (low : ℕ) (rows : List ℕ) → IsAbove low rows → IsOrdered rows
ordered_above low [] above = tt
ordered_above low (row ∷ rows) above = above.1

no_one : (row first : ℕ) → (row ≡ first → ⊥) → one_if (row == first) ≡ 0
no_one row first differs = ap one_if (ne_eqb row first differs)

none_below : (row low : ℕ) (rows : List ℕ) → row ≤ low → IsAbove low rows → times row rows ≡ 0
none_below row low [] below above = refl
none_below row low (first ∷ rest) below above =
    omega (
      arith,
      times_next row first rest,
      no_one row first (λ e. omega (arith, below, above.0, e)),
      none_below row first rest (omega (arith, below, above.0)) above.1,
    )

-- by the tests with which a row is put into its place
abbrev put : Bool → Bool → ℕ → ℕ → List ℕ → List ℕ
put same less row first rest = if same then first ∷ rest else (if less then row ∷ first ∷ rest else first ∷ with_row row rest)

past : (row first : ℕ) → (row == first) ≡ false → nat_lt row first ≡ false → first < row
past row first differs more = let apart = eqb-false row first differs in omega (arith, ltb-false row first more, apart)

above_put : (low row first : ℕ) (rest : List ℕ) → low < row → IsAbove low (first ∷ rest) → (first < row → IsAbove first (with_row row rest)) → (same less : Bool) → (row == first) ≡ same → nat_lt row first ≡ less → IsAbove low (put same less row first rest)
above_put low row first rest below above further true less e f = above
above_put low row first rest below above further false true e f = (below, (ltb-true row first f, above.1))
above_put low row first rest below above further false false e f = (above.0, further (past row first e f))

above_with : (low row : ℕ) (rows : List ℕ) → low < row → IsAbove low rows → IsAbove low (with_row row rows)
above_with low row [] below above = (below, tt)
above_with low row (first ∷ rest) below above =
    above_put low row first rest below above (λ more. above_with first row rest more above.1) (row == first) (nat_lt row first) refl refl

ordered_put : (row first : ℕ) (rest : List ℕ) → IsAbove first rest → (same less : Bool) → (row == first) ≡ same → nat_lt row first ≡ less → IsOrdered (put same less row first rest)
ordered_put row first rest above true less e f = above
ordered_put row first rest above false true e f = (ltb-true row first f, above)
ordered_put row first rest above false false e f = above_with first row rest (past row first e f) above

ordered_with : (row : ℕ) (rows : List ℕ) → IsOrdered rows → IsOrdered (with_row row rows)
ordered_with row [] ordered = tt
ordered_with row (first ∷ rest) ordered = ordered_put row first rest ordered (row == first) (nat_lt row first) refl refl

-- a row that is put into its place stands there once
own_one : (row first : ℕ) → row ≡ first → one_if (row == first) ≡ 1
own_one row first e = ap one_if (eq-eqb row first e)

own_put : (row first : ℕ) (rest : List ℕ) → IsAbove first rest → times row (with_row row rest) ≡ 1 → (same less : Bool) → (row == first) ≡ same → nat_lt row first ≡ less → times row (put same less row first rest) ≡ 1
own_put row first rest above further true less e f =
    let here = eqb-true row first e in
    omega (arith, times_next row first rest, own_one row first here, none_below row first rest (omega (arith, here)) above)
own_put row first rest above further false true e f =
    omega (arith, times_next row row (first ∷ rest), own_one row row refl, none_below row row (first ∷ rest) (omega arith) (ltb-true row first f, above))
own_put row first rest above further false false e f =
    omega (arith, times_next row first (with_row row rest), no_one row first (eqb-false row first e), further)

own_times : (row : ℕ) (rows : List ℕ) → IsOrdered rows → times row (with_row row rows) ≡ 1
own_times row [] ordered = omega (arith, times_next row row [], own_one row row refl)
own_times row (first ∷ rest) ordered =
    own_put row first rest ordered (own_times row rest (ordered_above first rest ordered)) (row == first) (nat_lt row first) refl refl

-- and all others as often as before
other_put : (other row first : ℕ) (rest : List ℕ) → (other ≡ row → ⊥) → times other (with_row row rest) ≡ times other rest → (same less : Bool) → times other (put same less row first rest) ≡ times other (first ∷ rest)
other_put other row first rest differs further true less = refl
other_put other row first rest differs further false true =
    omega (arith, times_next other row (first ∷ rest), no_one other row differs)
other_put other row first rest differs further false false =
    omega (arith, times_next other first (with_row row rest), times_next other first rest, further)

other_times : (other row : ℕ) (rows : List ℕ) → (other ≡ row → ⊥) → times other (with_row row rows) ≡ times other rows
other_times other row [] differs = omega (arith, times_next other row [], no_one other row differs)
other_times other row (first ∷ rest) differs =
    other_put other row first rest differs (other_times other row rest differs) (row == first) (nat_lt row first)

once_by : (other row : ℕ) (rows : List ℕ) → IsOrdered rows → times other rows ≡ 1 → (b : Bool) → (other == row) ≡ b → times other (with_row row rows) ≡ 1
once_by other row rows ordered once true e =
    subst (λ r. times r (with_row row rows) ≡ 1) (sym (eqb-true other row e)) (own_times row rows ordered)
once_by other row rows ordered once false e = other_times other row rows (eqb-false other row e) ∙ once

-- the row of each event stands once among the rows
abbrev pub AreOnce : List ℕ → List Event → Type 0
AreOnce rows [] = Unit {0}
AreOnce rows (event ∷ rest) = (times event.row rows ≡ 1) × AreOnce rows rest

once_with : (row : ℕ) (rows : List ℕ) → IsOrdered rows → (all : List Event) → AreOnce rows all → AreOnce (with_row row rows) all
once_with row rows ordered [] once = tt
once_with row rows ordered (event ∷ rest) once =
    (once_by event.row row rows ordered once.0 (event.row == row) refl, once_with row rows ordered rest once.1)

rows_ordered : (all : List Event) → IsOrdered (rows_of all)
rows_ordered [] = tt
rows_ordered (event ∷ rest) = ordered_with event.row (rows_of rest) (rows_ordered rest)

rows_once : (all : List Event) → AreOnce (rows_of all) all
rows_once [] = tt
rows_once (event ∷ rest) =
    (own_times event.row (rows_of rest) (rows_ordered rest), once_with event.row (rows_of rest) (rows_ordered rest) rest (rows_once rest))

-- each of rows that rise stands there once
stands_once : (row : ℕ) (rows : List ℕ) → IsOrdered rows → StandsIn row rows → times row rows ≡ 1
stands_once row [] ordered there = absurd there
stands_once row (first ∷ rest) ordered (Now is) =
    omega (arith, times_next row first rest, own_one row first is, none_below row first rest (omega (arith, is)) ordered)
stands_once row (first ∷ rest) ordered (After later) =
    let above = in_above row first rest ordered later in
    omega (arith, times_next row first rest, no_one row first (λ e. omega (arith, e, above)), stands_once row rest (ordered_above first rest ordered) later)

pub all_once : (rows : List ℕ) (all : List Event) → IsOrdered rows → AllStandIn rows all → AreOnce rows all
all_once rows [] ordered there = tt
all_once rows (event ∷ rest) ordered there = (stands_once event.row rows ordered there.0, all_once rows rest ordered there.1)

-- so the sums of the rows add up
abbrev value_if : Bool → ℕ → ℕ
value_if b v = if b then v else 0

none_next : (b : Bool) (v rest more : ℕ) → one_if b + rest ≡ 0 → (rest ≡ 0 → more ≡ 0) → value_if b v + more ≡ 0
none_next true v rest more e further = omega (arith, e)
none_next false v rest more e further = omega (arith, further (omega (arith, e)))

none_for : (row v : ℕ) (rows : List ℕ) → times row rows ≡ 0 → sum_by (λ r. value_if (row == r) v) rows ≡ 0
none_for row v [] e = refl
none_for row v (first ∷ rest) e =
    sum_by-cons (λ r. value_if (row == r) v) first rest
    ∙ none_next (row == first) v (times row rest) (sum_by (λ r. value_if (row == r) v) rest) (sym (times_next row first rest) ∙ e) (none_for row v rest)

once_next : (b : Bool) (v rest more : ℕ) → one_if b + rest ≡ 1 → (rest ≡ 0 → more ≡ 0) → (rest ≡ 1 → more ≡ v) → value_if b v + more ≡ v
once_next true v rest more e none one = omega (arith, none (omega (arith, e)))
once_next false v rest more e none one = omega (arith, one (omega (arith, e)))

once_for : (row v : ℕ) (rows : List ℕ) → times row rows ≡ 1 → sum_by (λ r. value_if (row == r) v) rows ≡ v
once_for row v [] e = omega (arith, e)
once_for row v (first ∷ rest) e =
    sum_by-cons (λ r. value_if (row == r) v) first rest
    ∙ once_next (row == first) v (times row rest) (sum_by (λ r. value_if (row == r) v) rest) (sym (times_next row first rest) ∙ e) (none_for row v rest) (once_for row v rest)

own_by : (g : Event → ℕ) (event : Event) (own : List Event) (b : Bool) → sum_by g (if b then event ∷ own else own) ≡ value_if b (g event) + sum_by g own
own_by g event own true = sum_by-cons g event own
own_by g event own false = omega arith

pub split_events : (g : Event → ℕ) (rows : List ℕ) (all : List Event) → AreOnce rows all → sum_by (λ row. sum_by g (own_events row all)) rows ≡ sum_by g all
split_events g rows [] once = sum_by_nothing rows
split_events g rows (event ∷ rest) once =
    omega (
      arith,
      sum_by-cons g event rest,
      once_for event.row (g event) rows once.0,
      split_events g rows rest once.1,
      sum_by_added (λ row. value_if (event.row == row) (g event)) (λ row. sum_by g (own_events row rest)) (λ row. sum_by g (own_events row (event ∷ rest))) (λ row. own_by g event (own_events row rest) (event.row == row)) rows,
    )

pub rows_add_up : (column : Column) (all : List Event) → sum_by (λ row. amount_in column (own_events row all)) (rows_of all) ≡ amount_in column all
rows_add_up column all =
    split_events (λ event. if column_place event.column == column_place column then event.amount else 0) (rows_of all) all (rows_once all)
