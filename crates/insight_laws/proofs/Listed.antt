-- The rows in which something was counted, by address: those among all addresses that an event has.
use Rattle.std.proofs.Common.{◌≡◌, ◌∙◌, ℕ, ◌==◌, ◌≤◌, ◌<◌, nat_lt, Bool, true, false, List, [], ◌∷◌, refl, sym, ap, subst, arith}
use Rattle.std.specs.Prelude.{◌||◌, filter, if◌then◌else◌}
use Rattle.std.specs.List.{list_any}
use Rattle.std.proofs.lemmas.Bool.{eq-eqb, ne_eqb}
use Rattle.std.proofs.lemmas.Grind.{common_steps}
use Rattle.insight_model.specs.Profile.{Event, rows_of, with_row}

-- numbers that rise, from above a number on
abbrev pub IsAbove : ℕ → List ℕ → Type 0
IsAbove low [] = Unit {0}
IsAbove low (row ∷ rows) = (low < row) × IsAbove row rows

abbrev pub IsOrdered : List ℕ → Type 0
IsOrdered [] = Unit {0}
IsOrdered (row ∷ rows) = IsAbove row rows

above_lower : (low row : ℕ) (rows : List ℕ) → low < row → IsAbove row rows → IsAbove low rows
above_lower low row [] below above = tt
above_lower low row (first ∷ rest) below above = (omega (arith, below, above.0), above.1)

-- an event has the row
abbrev pub has_row : ℕ → List Event → Bool
has_row row events = list_any (λ event. event.row == row) events

abbrev or_row : ℕ → (ℕ → Bool) → ℕ → Bool
or_row x p row = (x == row) || p row

-- a row that isn't there leaves the others
same_above : (x low : ℕ) (p : ℕ → Bool) (rows : List ℕ) → x ≤ low → IsAbove low rows → filter (or_row x p) rows ≡ filter p rows
same_above x low p [] below above = refl
same_above x low p (row ∷ rows) below above =
    let apart : (x == row) ≡ false = ne_eqb x row (λ is. omega (arith, is, below, above.0)) in
    let rest = same_above x row p rows (omega (arith, below, above.0)) above.1 in
    (λ i. if (apart i) || p row then row ∷ filter (or_row x p) rows else filter (or_row x p) rows)
    ∙ ap (λ (rs : List ℕ). if p row then row ∷ rs else rs) rest

filter_above : (low : ℕ) (p : ℕ → Bool) (rows : List ℕ) → IsAbove low rows → IsAbove low (filter p rows)
filter_above low p [] above = tt
filter_above low p (row ∷ rows) above = go (p row) (filter_above row p rows above.1)
  where
    go : (b : Bool) → IsAbove row (filter p rows) → IsAbove low (if b then row ∷ filter p rows else filter p rows)
    go true rest = (above.0, rest)
    go false rest = above_lower low row (filter p rows) above.0 rest

-- a row below all others is put in front
put_first : (row : ℕ) (rows : List ℕ) → IsAbove row rows → with_row row rows ≡ row ∷ rows
put_first row [] above = refl
put_first row (first ∷ rest) above =
    let apart : (row == first) ≡ false = ne_eqb row first (λ is. omega (arith, is, above.0)) in
    let below : nat_lt row first ≡ true = grind (arith, common_steps, above.0) in
    rw (apart, below) refl

-- one that isn't below the first goes on
put_later : (x row : ℕ) (rows : List ℕ) → row < x → with_row x (row ∷ rows) ≡ row ∷ with_row x rows
put_later x row rows below =
    let apart : (x == row) ≡ false = ne_eqb x row (λ is. omega (arith, is, below)) in
    let above : nat_lt x row ≡ false = grind (arith, common_steps, below) in
    rw (apart, above) refl

put_same : (row : ℕ) (rows : List ℕ) → with_row row (row ∷ rows) ≡ row ∷ rows
put_same row rows = let same : (row == row) ≡ true = eq-eqb row row refl in rw same refl

-- whether a number is one of rising ones
pub data IsIn (x row : ℕ) (later : Type 0) : Type 0 where
  Now : x ≡ row → IsIn x row later
  After : later → IsIn x row later

abbrev pub StandsIn : ℕ → List ℕ → Type 0
StandsIn x [] = ⊥
StandsIn x (row ∷ rows) = IsIn x row (StandsIn x rows)

pub in_above : (x low : ℕ) (rows : List ℕ) → IsAbove low rows → StandsIn x rows → low < x
in_above x low [] above there = absurd there
in_above x low (row ∷ rows) above (Now is) = omega (arith, is, above.0)
in_above x low (row ∷ rows) above (After later) = omega (arith, above.0, in_above x row rows above.1 later)

put_here : (row : ℕ) (p : ℕ → Bool) (rows : List ℕ) → IsAbove row rows → with_row row (filter p (row ∷ rows)) ≡ filter (or_row row p) (row ∷ rows)
put_here row p rows above =
    let same : (row == row) ≡ true = eq-eqb row row refl in
    go (p row) ∙ sym ((λ i. if (same i) || p row then row ∷ filter (or_row row p) rows else filter (or_row row p) rows) ∙ ap (λ (rs : List ℕ). row ∷ rs) (same_above row row p rows (omega arith) above))
  where
    go : (b : Bool) → with_row row (if b then row ∷ filter p rows else filter p rows) ≡ row ∷ filter p rows
    go true = put_same row (filter p rows)
    go false = put_first row (filter p rows) (filter_above row p rows above)

put_after : (x row : ℕ) (p : ℕ → Bool) (rows : List ℕ) → row < x → with_row x (filter p rows) ≡ filter (or_row x p) rows → with_row x (filter p (row ∷ rows)) ≡ filter (or_row x p) (row ∷ rows)
put_after x row p rows below rest =
    let apart : (x == row) ≡ false = ne_eqb x row (λ is. omega (arith, is, below)) in
    go (p row) ∙ sym (λ i. if (apart i) || p row then row ∷ filter (or_row x p) rows else filter (or_row x p) rows)
  where
    go : (b : Bool) → with_row x (if b then row ∷ filter p rows else filter p rows) ≡ (if b then row ∷ filter (or_row x p) rows else filter (or_row x p) rows)
    go true = put_later x row (filter p rows) below ∙ ap (λ (rs : List ℕ). row ∷ rs) rest
    go false = rest

pub put_among : (x : ℕ) (p : ℕ → Bool) (rows : List ℕ) → IsOrdered rows → StandsIn x rows → with_row x (filter p rows) ≡ filter (or_row x p) rows
put_among x p [] ordered there = absurd there
put_among x p (row ∷ rows) ordered (Now is) =
    let P : ℕ → Type 0 = λ y. with_row y (filter p (row ∷ rows)) ≡ filter (or_row y p) (row ∷ rows) in
    subst P (sym is) (put_here row p rows ordered)
put_among x p (row ∷ rows) ordered (After later) =
    put_after x row p rows (in_above x row rows ordered later) (put_among x p rows (ordered_rest row rows ordered) later)
  where
    ordered_rest : (low : ℕ) (rs : List ℕ) → IsAbove low rs → IsOrdered rs
    ordered_rest low [] above = tt
    ordered_rest low (r ∷ rs) above = above.1

abbrev pub AllStandIn : List ℕ → List Event → Type 0
AllStandIn rows [] = Unit {0}
AllStandIn rows (event ∷ rest) = StandsIn event.row rows × AllStandIn rows rest

none_pass : (rows : List ℕ) → filter (λ (row : ℕ). false) rows ≡ []
none_pass [] = refl
none_pass (row ∷ rows) = none_pass rows

-- the rows of events, among all rows
pub rows_listed : (rows : List ℕ) (events : List Event) → IsOrdered rows → AllStandIn rows events → rows_of events ≡ filter (λ row. has_row row events) rows
rows_listed rows [] ordered there = sym (none_pass rows)
rows_listed rows (event ∷ rest) ordered there =
    ap (with_row event.row) (rows_listed rows rest ordered there.1)
    ∙ put_among event.row (λ row. has_row row rest) rows ordered there.0
