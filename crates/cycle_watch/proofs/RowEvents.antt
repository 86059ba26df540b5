-- What events count in the rows of a profile.
use Rattle.std.proofs.Common.{◌≡◌, ◌∙◌, ℕ, ◌+◌, ◌==◌, Bool, if◌then◌else◌, Option, Some, None, List, [], ◌∷◌, ◌++◌, length, map, refl, sym, ap, subst, arith}
use Rattle.std.specs.Prelude.{filter, slice_get, slice_set, unwrap_or}
use Rattle.std.specs.List.{last_or}
use Rattle.std.proofs.lemmas.Bool.{eq-eqb, ne_eqb}
use Rattle.std.proofs.lemmas.List.{append-nil, length-set, map-append}
use Rattle.std.proofs.lemmas.List.Elements.{filter-append}
use Rattle.std.proofs.lemmas.List.Sums.{sum_by-append}
use Rattle.elf_image.specs.declared.image.Image.{Image}
use Rattle.text_rows.specs.Rows.{AreRowsOf, IsRowOf}
use Rattle.insight_model.specs.Sight.{Shown}
use Rattle.insight_model.specs.Profile.{Column, Event, amount_in, event_columns, own_events, row_of, spent_columns}
use Rattle.insight_laws.proofs.TextRows.{one_changes}
use Rattle.cycle_watch.specs.declared.profile.Profiling.{Profiling}
use Rattle.cycle_watch.specs.declared.profile_row.ProfileRow.{ProfileRow}
use Rattle.cycle_watch.specs.Profiled.{HasCounted, HasCounts, capped, row_at, word_among}
use Rattle.cycle_watch.proofs.RowCounts.{amount_of}

-- the amounts of some events, and of others
pub amount_both : (column : Column) (xs ys : List Event) → amount_in column (xs ++ ys) ≡ amount_in column xs + amount_in column ys
amount_both column xs ys = sum_by-append (amount_of column) xs ys

pub own_both : (row : ℕ) (xs ys : List Event) → own_events row (xs ++ ys) ≡ own_events row xs ++ own_events row ys
own_both row xs ys = filter-append (λ (e : Event). e.row == row) xs ys

pub both : (row : ℕ) (column : Column) (xs ys : List Event) →
    amount_in column (own_events row (xs ++ ys)) ≡ amount_in column (own_events row xs) + amount_in column (own_events row ys)
both row column xs ys = ap (amount_in column) (own_both row xs ys) ∙ amount_both column (own_events row xs) (own_events row ys)

-- an event of its own row, and of another
pub own_event : (event : Event) (row : ℕ) → event.row ≡ row → own_events row (event ∷ []) ≡ event ∷ []
own_event event row is = ap (λ (b : Bool). if b then event ∷ [] else []) (eq-eqb event.row row is)

pub other_event : (event : Event) (row : ℕ) → (event.row ≡ row → ⊥) → own_events row (event ∷ []) ≡ []
other_event event row apart = ap (λ (b : Bool). if b then event ∷ [] else []) (ne_eqb event.row row apart)

-- Lists of events that count the same.
pub record CountSame (xs ys : List Event) : Type 0 where
  pub each : (row : ℕ) (column : Column) → amount_in column (own_events row xs) ≡ amount_in column (own_events row ys)

map_same : (f g : Column → ℕ) (columns : List Column) → ((column : Column) → f column ≡ g column) → map f columns ≡ map g columns
map_same f g [] same = refl
map_same f g (column ∷ columns) same = λ i. same column i ∷ map_same f g columns same i

pub same_counts : (xs ys : List Event) (row : ProfileRow) → ((column : Column) → amount_in column xs ≡ amount_in column ys) → HasCounts xs row → HasCounts ys row
same_counts xs ys row same has = record {
  counts = has.counts ∙ map_same (λ c. capped 0 (amount_in c xs)) (λ c. capped 0 (amount_in c ys)) event_columns (λ c. ap (capped 0) (same c));
  spent = has.spent ∙ map_same (λ c. capped 0 (amount_in c xs)) (λ c. capped 0 (amount_in c ys)) spent_columns (λ c. ap (capped 0) (same c));
}

pub recounted : (image : Image) (xs ys : List Event) (appended : List Shown) (profiling : Profiling) → CountSame xs ys → HasCounted image xs appended profiling → HasCounted image ys appended profiling
recounted image xs ys appended profiling same has = record {
  rows = has.rows;
  each = has.each;
  counts = λ place row is.
      same_counts (own_events (row_at profiling.rows place) xs) (own_events (row_at profiling.rows place) ys) row (same.each (row_at profiling.rows place)) (has.counts place row is);
  words = has.words;
}

-- counts are those of the rows alone
pub counted_still : (image : Image) (all : List Event) (appended : List Shown) (old new : Profiling) → new.rows ≡ old.rows → new.counts ≡ old.counts → HasCounted image all appended old → HasCounted image all appended new
counted_still image all appended old new rows counts has =
    let N : Profiling → Type 0 = λ p. HasCounted image all appended p in
    let both : Profiling = record new { rows = old.rows; counts = old.counts } in
    let there : HasCounted image all appended both = record { rows = has.rows; each = has.each; counts = has.counts; words = has.words } in
    subst N (λ i. record new { rows = sym rows i; counts = sym counts i }) there

-- The word of the last instruction of a row.
abbrev pub words_among : Image → ℕ → List Shown → List ℕ
words_among image row shown = map (λ rec. unwrap_or rec.word 0) (filter (λ rec. row_of image rec.addr == row) shown)

pub words_both : (image : Image) (row : ℕ) (xs ys : List Shown) → words_among image row (xs ++ ys) ≡ words_among image row xs ++ words_among image row ys
words_both image row xs ys =
    ap (map (λ (rec : Shown). unwrap_or rec.word 0)) (filter-append (λ (rec : Shown). row_of image rec.addr == row) xs ys)
    ∙ map-append (λ (rec : Shown). unwrap_or rec.word 0) (filter (λ (rec : Shown). row_of image rec.addr == row) xs) (filter (λ (rec : Shown). row_of image rec.addr == row) ys)

last_push : {A : Type 0} (o : Option A) (xs : List A) (x : A) → last_or o (xs ++ x ∷ []) ≡ Some x
last_push o [] x = refl
last_push o (y ∷ ys) x = last_push (Some y) ys x

pub word_own : (image : Image) (row : ℕ) (xs : List Shown) (shown : Shown) → row_of image shown.addr ≡ row → word_among image row (xs ++ shown ∷ []) ≡ unwrap_or shown.word 0
word_own image row xs shown is =
    let one : words_among image row (shown ∷ []) ≡ unwrap_or shown.word 0 ∷ [] =
    ap (λ (b : Bool). map (λ (rec : Shown). unwrap_or rec.word 0) (if b then shown ∷ [] else [])) (eq-eqb (row_of image shown.addr) row is) in
    ap (λ (ws : List ℕ). unwrap_or (last_or None ws) 0) (words_both image row xs (shown ∷ []) ∙ ap (λ (ws : List ℕ). words_among image row xs ++ ws) one)
    ∙ ap (λ (o : Option ℕ). unwrap_or o 0) (last_push None (words_among image row xs) (unwrap_or shown.word 0))

pub word_other : (image : Image) (row : ℕ) (xs : List Shown) (shown : Shown) → (row_of image shown.addr ≡ row → ⊥) → word_among image row (xs ++ shown ∷ []) ≡ word_among image row xs
word_other image row xs shown apart =
    let none : words_among image row (shown ∷ []) ≡ [] =
    ap (λ (b : Bool). map (λ (rec : Shown). unwrap_or rec.word 0) (if b then shown ∷ [] else [])) (ne_eqb (row_of image shown.addr) row apart) in
    ap (λ (ws : List ℕ). unwrap_or (last_or None ws) 0)
    (words_both image row xs (shown ∷ []) ∙ ap (λ (ws : List ℕ). words_among image row xs ++ ws) none ∙ append-nil (words_among image row xs))

-- What a row is when it has counted its own events, with the word of the last of its instructions.
pub record IsRow (image : Image) (all : List Event) (appended : List Shown) (row : ℕ) (counted : ProfileRow) : Type 0 where
  pub counts : HasCounts (own_events row all) counted
  pub word : counted.word ≡ word_among image row appended

-- One row has counted more events of its own, and an instruction that was appended, if there is one.
pub record IsOwn (image : Image) (addr : ℕ) (es : List Event) (appended more : List Shown) : Type 0 where
  pub own : own_events (row_of image addr) es ≡ es
  pub others : (row : ℕ) → (row_of image addr ≡ row → ⊥) → own_events row es ≡ []
  pub words : (row : ℕ) → (row_of image addr ≡ row → ⊥) → word_among image row more ≡ word_among image row appended

module _ (image : Image) (all es : List Event) (appended more : List Shown) (old new : Profiling) (addr place : ℕ) (before after : ProfileRow) where
  pub counted_in : HasCounted image all appended old → new ≡ record old { counts = new.counts } → IsRowOf old.rows addr place → slice_get old.counts.items place ≡ Some before →
      new.counts.items ≡ slice_set old.counts.items place after → IsOwn image addr es appended more →
      (HasCounts (own_events (row_of image addr) all) before → HasCounts (own_events (row_of image addr) all ++ es) after) →
      (before.word ≡ word_among image (row_of image addr) appended → after.word ≡ word_among image (row_of image addr) more) → HasCounted image (all ++ es) more new
  counted_in has is found there changed adds counts word =
      let P : ℕ → ProfileRow → Type 0 = λ row counted. IsRow image all appended row counted in
      let Q : ℕ → ProfileRow → Type 0 = λ row counted. IsRow image (all ++ es) more row counted in
      let rows : new.rows ≡ old.rows = ap (λ (p : Profiling). p.rows) is in
      let R : List ℕ → Type 0 = λ xs. AreRowsOf image xs in
      let same : length new.counts.items ≡ length old.counts.items = ap (length {A = ProfileRow}) changed ∙ length-set old.counts.items place after in
      let own : P (row_of image addr) before → Q (row_of image addr) after = λ was.
      let C : List Event → Type 0 = λ xs. HasCounts xs after in
      let mine : own_events (row_of image addr) (all ++ es) ≡ own_events (row_of image addr) all ++ es =
      own_both (row_of image addr) all es ∙ ap (λ (xs : List Event). own_events (row_of image addr) all ++ xs) adds.own in
      record { counts = subst C (sym mine) (counts was.counts); word = word was.word } in
      let others : (row : ℕ) (x : ProfileRow) → (row_of image addr ≡ row → ⊥) → P row x → Q row x = λ row x apart was.
      let C : List Event → Type 0 = λ xs. HasCounts xs x in
      let theirs : own_events row (all ++ es) ≡ own_events row all =
      own_both row all es ∙ ap (λ (xs : List Event). own_events row all ++ xs) (adds.others row apart) ∙ append-nil (own_events row all) in
      record { counts = subst C (sym theirs) was.counts; word = was.word ∙ sym (adds.words row apart) } in
      let all_rows : (k : ℕ) (row : ProfileRow) → slice_get new.counts.items k ≡ Some row → Q (row_at new.rows k) row = λ k row at.
      let A : List ℕ → Type 0 = λ xs. Q (row_at xs k) row in
      subst A (sym rows)
      (one_changes image old.rows old.counts.items addr place before after P Q has.rows has.each found there (λ j x here. record { counts = has.counts j x here; word = has.words j x here }) own others k row
      (ap (λ (xs : List ProfileRow). slice_get xs k) (sym changed) ∙ at)) in
      record {
        rows = subst R (sym rows) has.rows;
        each = omega (arith, same, has.each, ap (length {A = ℕ}) rows);
        counts = λ k row at. (all_rows k row at).counts;
        words = λ k row at. (all_rows k row at).word;
      }

-- one event, and nothing appended
pub event_own : (image : Image) (event : Event) (addr : ℕ) (appended : List Shown) → event.row ≡ row_of image addr → IsOwn image addr (event ∷ []) appended appended
event_own image event addr appended is = record {
  own = own_event event (row_of image addr) is;
  others = λ row apart. other_event event row (λ same. apart (sym is ∙ same));
  words = λ row apart. refl;
}

-- one that was appended
pub appended_own : (image : Image) (event : Event) (shown : Shown) (appended : List Shown) → event.row ≡ row_of image shown.addr → IsOwn image shown.addr (event ∷ []) appended (appended ++ shown ∷ [])
appended_own image event shown appended is = record {
  own = own_event event (row_of image shown.addr) is;
  others = λ row apart. other_event event row (λ same. apart (sym is ∙ same));
  words = λ row apart. word_other image row appended shown apart;
}
