-- The lines of a cycle, one instruction after another.
use Rattle.std.proofs.Common.{◌≡◌, ◌∙◌, ℕ, zero, suc, ◌+◌, ◌==◌, ◌≤◌, ◌<◌, ◌&&◌, Bool, true, false, Option, Some, None, List, [], ◌∷◌, ◌++◌, append_assoc, codes, length, take, drop, map, refl, ap, sym, arith}
use Rattle.std.specs.Prelude.{option_map, slice_get, zip}
use Rattle.std.specs.Option.{option_map_or}
use Rattle.std.proofs.lemmas.Option.{slice_get_within}
use Rattle.mono_model.specs.declared.params.Params.{Params}
use Rattle.mono_model.specs.Report.{Text}
use Rattle.insight_model.specs.declared.pipeline.Pipeline.{Pipeline}
use Rattle.insight_model.specs.Sight.{Shown, outcome_shown}
use Rattle.insight_model.specs.Facts.{Facts, Kept, pairs}
use Rattle.insight_model.specs.Trace.{Mark, appended_lines, appended_marks, flush_name, introduction, is_place, kept_lines, kept_marks, kept_text, last_line, left_lines, lines_if, marked_after, note_line, opening_lines, squashed_lines, trap_note, trap_notes, wrong_notes}
use Rattle.insight_model.specs.Cell.{cell}
use Rattle.insight_model.specs.declared.cycle_cause.CycleCause.{CycleCause}
use Rattle.insight_model.specs.Cause.{Charge, cause_name}
use Rattle.cycle_watch.specs.declared.charge.Charge.{Charge as ChargeInCode}
use Rattle.cycle_watch.specs.Facts.{charge_in}
use Rattle.cycle_watch.specs.Traced.{appended_text, introduced_mark}

drop_suc : {A : Type 0} (xs : List A) (i : ℕ) (x : A) → slice_get xs i ≡ Some x → drop i xs ≡ x ∷ drop (suc i) xs
drop_suc {A = A} [] i x is = cc
drop_suc {A = A} (a ∷ xs) zero x is = let e : a ≡ x = cc in ap (λ (b : A). b ∷ xs) e
drop_suc (a ∷ xs) (suc i) x is = drop_suc xs i x is

pub drop_here : {A : Type 0} (xs : List A) (i : ℕ) (x : A) → slice_get xs i ≡ Some x → drop i xs ≡ x ∷ drop (i + 1) xs
drop_here {A = A} xs i x is = let n : suc i ≡ i + 1 = omega arith in drop_suc xs i x is ∙ ap (λ (k : ℕ). x ∷ drop k xs) n

-- those that left
trap_is : (trapped b : Bool) (rest : List Shown) (rec : Shown) (number : ℕ) → (rest ≡ [] → b ≡ trapped) → ((y : Shown) (ys : List Shown) → rest ≡ y ∷ ys → b ≡ false) →
    trap_notes trapped rest rec number ≡ lines_if b (option_map_or (trap_note number) (outcome_shown rec) [])
trap_is true b [] rec number last other = ap (λ (x : Bool). lines_if x (option_map_or (trap_note number) (outcome_shown rec) [])) (sym (last refl))
trap_is false b [] rec number last other = ap (λ (x : Bool). lines_if x (option_map_or (trap_note number) (outcome_shown rec) [])) (sym (last refl))
trap_is true b (y ∷ ys) rec number last other = ap (λ (x : Bool). lines_if x (option_map_or (trap_note number) (outcome_shown rec) [])) (sym (other y ys refl))
trap_is false b (y ∷ ys) rec number last other = ap (λ (x : Bool). lines_if x (option_map_or (trap_note number) (outcome_shown rec) [])) (sym (other y ys refl))

none_left : {A : Type 0} (xs : List A) (i : ℕ) → drop i xs ≡ [] → length xs ≤ i
none_left [] i none = omega arith
none_left {A = A} (x ∷ xs) zero none = cc
none_left (x ∷ xs) (suc i) none = omega (arith, none_left xs i none)

some_left : {A : Type 0} (xs : List A) (i : ℕ) (y : A) (ys : List A) → drop i xs ≡ y ∷ ys → i < length xs
some_left {A = A} [] zero y ys some = cc
some_left {A = A} [] (suc i) y ys some = cc
some_left (x ∷ xs) zero y ys some = omega arith
some_left (x ∷ xs) (suc i) y ys some = omega (arith, some_left xs i y ys some)

pub left_step : (trapped b : Bool) (first place : ℕ) (w : List Shown) (ms : List Mark) (rec : Shown) (mark : Mark) → slice_get w place ≡ Some rec → slice_get ms place ≡ Some mark →
    (place + 1 ≡ length w → b ≡ trapped) → (place + 1 < length w → b ≡ false) →
    left_lines trapped (first + place) (drop place w) (drop place ms)
    ≡ (lines_if b (option_map_or (trap_note mark.number) (outcome_shown rec) []) ++ last_line mark.number (first + place) (codes "0") ∷ [])
    ++ left_lines trapped (first + (place + 1)) (drop (place + 1) w) (drop (place + 1) ms)
left_step trapped b first place w ms rec mark here there last other =
    let within : place < length w = slice_get_within w place rec here in
    let rest = drop (place + 1) w in
    let notes = trap_is trapped b rest rec mark.number
    (λ none. last (omega (arith, within, none_left w (place + 1) none)))
    (λ y ys some. other (omega (arith, some_left w (place + 1) y ys some))) in
    let next : first + place + 1 ≡ first + (place + 1) = omega arith in
    (λ i. left_lines trapped (first + place) (drop_here w place rec here i) (drop_here ms place mark there i))
    ∙ (λ i. notes i ++ last_line mark.number (first + place) (codes "0") ∷ left_lines trapped (next i) rest (drop (place + 1) ms))
    ∙ sym (append_assoc (lines_if b (option_map_or (trap_note mark.number) (outcome_shown rec) [])) (last_line mark.number (first + place) (codes "0") ∷ [])
    (left_lines trapped (first + (place + 1)) rest (drop (place + 1) ms)))

-- those that were squashed
pub squashed_step : (f : Facts) (b : Bool) (place here : ℕ) (w : List Shown) (ms : List Mark) (rec : Shown) (mark : Mark) (name : Text) (nth : ℕ) →
    slice_get w here ≡ Some rec → slice_get ms here ≡ Some mark → b ≡ is_place place f.mispredicted → name ≡ flush_name f → nth ≡ f.number + length f.left + place →
    squashed_lines f place (drop here w) (drop here ms)
    ≡ (wrong_notes b mark.number rec ++ note_line mark.number (codes "squashed: " ++ name) ∷ last_line mark.number nth (codes "1") ∷ [])
    ++ squashed_lines f (place + 1) (drop (here + 1) w) (drop (here + 1) ms)
squashed_step f b place here w ms rec mark name nth is there wrong named number =
    (λ i. squashed_lines f place (drop_here w here rec is i) (drop_here ms here mark there i))
    ∙ (λ i. wrong_notes (sym wrong i) mark.number rec ++ note_line mark.number (codes "squashed: " ++ sym named i) ∷ last_line mark.number (sym number i) (codes "1")
    ∷ squashed_lines f (place + 1) (drop (here + 1) w) (drop (here + 1) ms))
    ∙ sym (append_assoc (wrong_notes b mark.number rec) (note_line mark.number (codes "squashed: " ++ name) ∷ last_line mark.number nth (codes "1") ∷ [])
    (squashed_lines f (place + 1) (drop (here + 1) w) (drop (here + 1) ms)))

-- those that stayed
pub pair_at : (xs ys : List Shown) (i : ℕ) (x y : Shown) → slice_get xs i ≡ Some x → slice_get ys i ≡ Some y → slice_get (pairs xs ys) i ≡ Some (record { before = x; after = y })
pair_at [] ys i x y here there = cc
pair_at (a ∷ xs) [] i x y here there = cc
pair_at (a ∷ xs) (b ∷ ys) zero x y here there = let e : a ≡ x = cc in let d : b ≡ y = cc in (λ i. Some (record { before = e i; after = d i }))
pair_at (a ∷ xs) (b ∷ ys) (suc i) x y here there = pair_at xs ys i x y here there

module _ (pipeline : Pipeline) (p : Params) (f : Facts) where
  pub kept_step : (place : ℕ) (ks : List Kept) (ms : List Mark) (k : Kept) (mark after : Mark) → slice_get ks place ≡ Some k → slice_get ms place ≡ Some mark → after ≡ marked_after pipeline p f k mark →
      kept_lines pipeline p f place (drop place ks) (drop place ms)
      ≡ kept_text pipeline f place k mark after ++ kept_lines pipeline p f (place + 1) (drop (place + 1) ks) (drop (place + 1) ms)
  kept_step place ks ms k mark after here there is =
      (λ i. kept_lines pipeline p f place (drop_here ks place k here i) (drop_here ms place mark there i))
      ∙ ap (λ (m : Mark). kept_text pipeline f place k mark m ++ kept_lines pipeline p f (place + 1) (drop (place + 1) ks) (drop (place + 1) ms)) (sym is)

  pub marks_step : (place : ℕ) (ks : List Kept) (ms : List Mark) (k : Kept) (mark after : Mark) → slice_get ks place ≡ Some k → slice_get ms place ≡ Some mark → after ≡ marked_after pipeline p f k mark →
      kept_marks pipeline p f (drop place ks) (drop place ms) ≡ after ∷ kept_marks pipeline p f (drop (place + 1) ks) (drop (place + 1) ms)
  marks_step place ks ms k mark after here there is =
      (λ i. kept_marks pipeline p f (drop_here ks place k here i) (drop_here ms place mark there i))
      ∙ ap (λ (m : Mark). m ∷ kept_marks pipeline p f (drop (place + 1) ks) (drop (place + 1) ms)) (sym is)

  -- those beyond the shorter list have no mark
  pub lines_cut : (place : ℕ) (ks : List Kept) (n : ℕ) (ms : List Mark) → length ks ≤ n → kept_lines pipeline p f place ks (take n ms) ≡ kept_lines pipeline p f place ks ms
  lines_cut place [] n ms fit = refl
  lines_cut place (k ∷ ks) zero ms fit = absurd (omega (arith, fit))
  lines_cut place (k ∷ ks) (suc n) [] fit = refl
  lines_cut place (k ∷ ks) (suc n) (m ∷ ms) fit =
      ap (λ (rest : List Text). kept_text pipeline f place k m (marked_after pipeline p f k m) ++ rest) (lines_cut (place + 1) ks n ms (omega (arith, fit)))

  pub marks_cut : (ks : List Kept) (n : ℕ) (ms : List Mark) → length ks ≤ n → kept_marks pipeline p f ks (take n ms) ≡ kept_marks pipeline p f ks ms
  marks_cut [] n ms fit = refl
  marks_cut (k ∷ ks) zero ms fit = absurd (omega (arith, fit))
  marks_cut (k ∷ ks) (suc n) [] fit = refl
  marks_cut (k ∷ ks) (suc n) (m ∷ ms) fit = ap (λ (rest : List Mark). marked_after pipeline p f k m ∷ rest) (marks_cut ks n ms (omega (arith, fit)))

  -- their numbers stay
  pub numbers_stay : (ks : List Kept) (ms : List Mark) →
      zip (map (λ (m : Mark). m.number) (kept_marks pipeline p f ks ms)) (map (λ (k : Kept). k.after) ks) ≡ zip (map (λ (m : Mark). m.number) ms) (map (λ (k : Kept). k.after) ks)
  numbers_stay [] [] = refl
  numbers_stay [] (m ∷ ms) = refl
  numbers_stay (k ∷ ks) [] = refl
  numbers_stay (k ∷ ks) (m ∷ ms) = ap (λ (rest : List (ℕ × Shown)). (m.number, k.after) ∷ rest) (numbers_stay ks ms)

-- those that were appended
same_place : (n : ℕ) → (n == n) ≡ true
same_place n = grind arith

module _ (pipeline : Pipeline) (p : Params) (cycle : ℕ) where
  pub appended_step : (b : Bool) (number nth place : ℕ) (older : List (ℕ × Shown)) (w : List Shown) (rec : Shown) → slice_get w place ≡ Some rec →
      appended_lines pipeline p cycle b number nth older (drop place w)
      ≡ appended_text pipeline p cycle b number nth older rec ++ appended_lines pipeline p cycle false (number + 1) (nth + 1) ((number, rec) ∷ older) (drop (place + 1) w)
  appended_step b number nth place older w rec here =
      ap (appended_lines pipeline p cycle b number nth older) (drop_here w place rec here)

  pub appended_marks_step : (number place : ℕ) (w : List Shown) (rec : Shown) → slice_get w place ≡ Some rec →
      appended_marks pipeline p cycle number (drop place w) ≡ introduced_mark pipeline p cycle number rec ∷ appended_marks pipeline p cycle (number + 1) (drop (place + 1) w)
  appended_marks_step number place w rec here = ap (appended_marks pipeline p cycle number) (drop_here w place rec here)

  pub opening_step : (number nth place : ℕ) (w : List Shown) (rec : Shown) → slice_get w place ≡ Some rec →
      opening_lines pipeline p cycle number nth (drop place w)
      ≡ introduction number nth (cell pipeline p cycle 0 rec) rec ++ opening_lines pipeline p cycle (number + 1) (nth + 1) (drop (place + 1) w)
  opening_step number nth place w rec here = ap (opening_lines pipeline p cycle number nth) (drop_here w place rec here)

-- what the code asks at a place
pub trapped_last : (trapped b : Bool) (place left n : ℕ) → b ≡ (trapped && (left == place + 1)) → n ≡ left → place + 1 ≡ n → b ≡ trapped
trapped_last trapped b place left n is size last =
    let same : (left == place + 1) ≡ true = grind (arith, size, last) in
    is ∙ ap (λ (x : Bool). trapped && x) same ∙ and_true trapped
  where
    and_true : (x : Bool) → (x && true) ≡ x
    and_true true = refl
    and_true false = refl

pub trapped_other : (trapped b : Bool) (place left n : ℕ) → b ≡ (trapped && (left == place + 1)) → n ≡ left → place + 1 < n → b ≡ false
trapped_other trapped b place left n is size other =
    let apart : (left == place + 1) ≡ false = grind (arith, size, other) in
    is ∙ ap (λ (x : Bool). trapped && x) apart ∙ and_false trapped
  where
    and_false : (x : Bool) → (x && false) ≡ false
    and_false true = refl
    and_false false = refl

pub paid_first : (paid : Bool) (n : ℕ) → (paid && (n == n)) ≡ paid
paid_first paid n = ap (λ (x : Bool). paid && x) (same_place n) ∙ and_true paid
  where
    and_true : (x : Bool) → (x && true) ≡ x
    and_true true = refl
    and_true false = refl

pub paid_later : (paid : Bool) (place kept : ℕ) → kept ≤ place → (paid && (place + 1 == kept)) ≡ false
paid_later paid place kept order =
    let apart : (place + 1 == kept) ≡ false = grind (arith, order) in
    ap (λ (x : Bool). paid && x) apart ∙ and_false paid
  where
    and_false : (x : Bool) → (x && false) ≡ false
    and_false true = refl
    and_false false = refl

-- the name of what flushed
pub name_of : (flush : Option ChargeInCode) (cause : Option CycleCause) → cause ≡ option_map (λ (x : ChargeInCode). x.cause) flush →
    option_map_or cause_name cause [] ≡ option_map_or (λ (x : Charge). cause_name x.cause) (option_map charge_in flush) []
name_of None cause is = ap (λ (o : Option CycleCause). option_map_or cause_name o []) is
name_of (Some x) cause is = ap (λ (o : Option CycleCause). option_map_or cause_name o []) is
