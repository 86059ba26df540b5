-- What one more instruction adds to the counts of a row.
use Rattle.std.proofs.Common.{◌≡◌, ◌∙◌, ℕ, ◌+◌, ◌==◌, Bool, true, false, List, [], ◌∷◌, ◌++◌, map, Option, Some, None, refl, ap, arith}
use Rattle.std.specs.Prelude.{filter, unwrap_or, if◌then◌else◌}
use Rattle.std.specs.List.{last_or}
use Rattle.std.proofs.lemmas.Bool.{eq-eqb, ne_eqb}
use Rattle.std.proofs.lemmas.Grind.{flat_map-append}
use Rattle.std.proofs.lemmas.List.{append-nil, map-append}
use Rattle.std.proofs.lemmas.List.Elements.{filter-append}
use Rattle.std.proofs.lemmas.List.Sums.{sum_by-append}
use Rattle.elf_image.specs.declared.image.Image.{Image}
use Rattle.insight_model.specs.Count.{Executed, executed_events, executed_word}
use Rattle.insight_model.specs.Profile.{Column, Event, amount_in, column_place, goes_on, own_events, retired, row_of, taken, trapped}
use Rattle.instruction_count.specs.Counted.{run_events}

-- the events of an instruction, by what it did
abbrev pub event : Column → ℕ → Event
event column row = record { row = row; column = column; amount = 1 }

abbrev pub events_by : Bool → Bool → ℕ → List Event
events_by trap on row = if trap then event trapped row ∷ [] else event retired row ∷ (if on then [] else event taken row ∷ [])

pub events_are : (image : Image) (x : Executed) → executed_events image x ≡ events_by x.has_trapped (goes_on x.addr x.next) (row_of image x.addr)
events_are image x = refl

-- those of its own row, and those of another
pub own_row : (trap on : Bool) (own row : ℕ) → (own == row) ≡ true → own_events row (events_by trap on own) ≡ events_by trap on own
own_row true on own row is = rw is refl
own_row false true own row is = rw is refl
own_row false false own row is = rw is refl

pub other_row : (trap on : Bool) (own row : ℕ) → (own == row) ≡ false → own_events row (events_by trap on own) ≡ []
other_row true on own row is = rw is refl
other_row false true own row is = rw is refl
other_row false false own row is = rw is refl

-- how many of each column these are
abbrev pub retired_by : Bool → ℕ
retired_by trap = if trap then 0 else 1

abbrev pub trapped_by : Bool → ℕ
trapped_by trap = if trap then 1 else 0

abbrev pub taken_by : Bool → Bool → ℕ
taken_by trap on = if trap then 0 else (if on then 0 else 1)

pub retired_amount : (trap on : Bool) (row : ℕ) → amount_in retired (events_by trap on row) ≡ retired_by trap
retired_amount true on row = refl
retired_amount false true row = refl
retired_amount false false row = refl

pub trapped_amount : (trap on : Bool) (row : ℕ) → amount_in trapped (events_by trap on row) ≡ trapped_by trap
trapped_amount true on row = refl
trapped_amount false true row = refl
trapped_amount false false row = refl

taken_amount : (trap on : Bool) (row : ℕ) → amount_in taken (events_by trap on row) ≡ taken_by trap on
taken_amount true on row = refl
taken_amount false true row = refl
taken_amount false false row = refl

-- a run with one more instruction
run-push : (image : Image) (run : List Executed) (x : Executed) → run_events image (run ++ x ∷ []) ≡ run_events image run ++ executed_events image x
run-push image run x =
    flat_map-append (executed_events image) run (x ∷ []) ∙ ap (λ (es : List Event). run_events image run ++ es) (append-nil (executed_events image x))

own-push : (image : Image) (run : List Executed) (x : Executed) (row : ℕ) →
    own_events row (run_events image (run ++ x ∷ [])) ≡ own_events row (run_events image run) ++ own_events row (executed_events image x)
own-push image run x row = ap (own_events row) (run-push image run x) ∙ filter-append (λ (e : Event). e.row == row) (run_events image run) (executed_events image x)

amount-push : (image : Image) (run : List Executed) (x : Executed) (row : ℕ) (column : Column) →
    amount_in column (own_events row (run_events image (run ++ x ∷ [])))
    ≡ amount_in column (own_events row (run_events image run)) + amount_in column (own_events row (executed_events image x))
amount-push image run x row column =
    ap (amount_in column) (own-push image run x row)
    ∙ sum_by-append (λ (e : Event). if column_place e.column == column_place column then e.amount else 0) (own_events row (run_events image run)) (own_events row (executed_events image x))

module _ (image : Image) (run : List Executed) (x : Executed) where
  own_here : own_events (row_of image x.addr) (executed_events image x) ≡ events_by x.has_trapped (goes_on x.addr x.next) (row_of image x.addr)
  own_here = own_row x.has_trapped (goes_on x.addr x.next) (row_of image x.addr) (row_of image x.addr) (eq-eqb (row_of image x.addr) (row_of image x.addr) refl)

  pub retired-push : amount_in retired (own_events (row_of image x.addr) (run_events image (run ++ x ∷ [])))
      ≡ amount_in retired (own_events (row_of image x.addr) (run_events image run)) + retired_by x.has_trapped
  retired-push = amount-push image run x (row_of image x.addr) retired
      ∙ ap (λ (n : ℕ). amount_in retired (own_events (row_of image x.addr) (run_events image run)) + n)
      (ap (amount_in retired) own_here ∙ retired_amount x.has_trapped (goes_on x.addr x.next) (row_of image x.addr))

  pub trapped-push : amount_in trapped (own_events (row_of image x.addr) (run_events image (run ++ x ∷ [])))
      ≡ amount_in trapped (own_events (row_of image x.addr) (run_events image run)) + trapped_by x.has_trapped
  trapped-push = amount-push image run x (row_of image x.addr) trapped
      ∙ ap (λ (n : ℕ). amount_in trapped (own_events (row_of image x.addr) (run_events image run)) + n)
      (ap (amount_in trapped) own_here ∙ trapped_amount x.has_trapped (goes_on x.addr x.next) (row_of image x.addr))

  pub taken-push : amount_in taken (own_events (row_of image x.addr) (run_events image (run ++ x ∷ [])))
      ≡ amount_in taken (own_events (row_of image x.addr) (run_events image run)) + taken_by x.has_trapped (goes_on x.addr x.next)
  taken-push = amount-push image run x (row_of image x.addr) taken
      ∙ ap (λ (n : ℕ). amount_in taken (own_events (row_of image x.addr) (run_events image run)) + n)
      (ap (amount_in taken) own_here ∙ taken_amount x.has_trapped (goes_on x.addr x.next) (row_of image x.addr))

  -- nothing of another row changes
  pub amount-elsewhere : (row : ℕ) (column : Column) → (row_of image x.addr ≡ row → ⊥) →
      amount_in column (own_events row (run_events image (run ++ x ∷ []))) ≡ amount_in column (own_events row (run_events image run))
  amount-elsewhere row column apart =
      let none : own_events row (executed_events image x) ≡ [] =
      other_row x.has_trapped (goes_on x.addr x.next) (row_of image x.addr) row (ne_eqb (row_of image x.addr) row apart) in
      let nothing : amount_in column (own_events row (executed_events image x)) ≡ 0 = ap (amount_in column) none in
      omega (arith, amount-push image run x row column, nothing)

-- the word of the last instruction of a row
last-push : {A : Type 0} (o : Option A) (xs : List A) (x : A) → last_or o (xs ++ x ∷ []) ≡ Some x
last-push o [] x = refl
last-push o (y ∷ ys) x = last-push (Some y) ys x

abbrev of_row : Image → ℕ → List Executed → List Executed
of_row image row run = filter (λ (x : Executed). row_of image x.addr == row) run

words-push : (image : Image) (run : List Executed) (x : Executed) (row : ℕ) →
    map (λ (y : Executed). y.word) (of_row image row (run ++ x ∷ []))
    ≡ map (λ (y : Executed). y.word) (of_row image row run) ++ map (λ (y : Executed). y.word) (of_row image row (x ∷ []))
words-push image run x row =
    ap (map (λ (y : Executed). y.word)) (filter-append (λ (y : Executed). row_of image y.addr == row) run (x ∷ []))
    ∙ map-append (λ (y : Executed). y.word) (of_row image row run) (of_row image row (x ∷ []))

word_by : (image : Image) (run : List Executed) (x : Executed) (row : ℕ) (words : List ℕ) → map (λ (y : Executed). y.word) (of_row image row (x ∷ [])) ≡ words →
    executed_word image row (run ++ x ∷ []) ≡ unwrap_or (last_or None (map (λ (y : Executed). y.word) (of_row image row run) ++ words)) 0
word_by image run x row words is =
    ap (λ (ws : List ℕ). unwrap_or (last_or None ws) 0)
    (words-push image run x row ∙ ap (λ (ws : List ℕ). map (λ (y : Executed). y.word) (of_row image row run) ++ ws) is)

pub word-push : (image : Image) (run : List Executed) (x : Executed) → executed_word image (row_of image x.addr) (run ++ x ∷ []) ≡ x.word
word-push image run x =
    let own : (row_of image x.addr == row_of image x.addr) ≡ true = eq-eqb (row_of image x.addr) (row_of image x.addr) refl in
    word_by image run x (row_of image x.addr) (x.word ∷ []) (rw own refl)
    ∙ ap (λ (o : Option ℕ). unwrap_or o 0) (last-push None (map (λ (y : Executed). y.word) (of_row image (row_of image x.addr) run)) x.word)

pub word-elsewhere : (image : Image) (run : List Executed) (x : Executed) (row : ℕ) → (row_of image x.addr ≡ row → ⊥) → executed_word image row (run ++ x ∷ []) ≡ executed_word image row run
word-elsewhere image run x row apart =
    let other : (row_of image x.addr == row) ≡ false = ne_eqb (row_of image x.addr) row apart in
    word_by image run x row [] (rw other refl)
    ∙ ap (λ (ws : List ℕ). unwrap_or (last_or None ws) 0) (append-nil (map (λ (y : Executed). y.word) (of_row image row run)))
