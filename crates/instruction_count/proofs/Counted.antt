-- Whether something was counted in a row.
use Rattle.std.proofs.Common.{◌≡◌, ◌∙◌, ℕ, ◌+◌, ◌==◌, nat_lt, Bool, true, false, List, [], ◌∷◌, ◌++◌, refl, sym, ap, arith}
use Rattle.std.specs.Prelude.{◌||◌, if◌then◌else◌}
use Rattle.std.proofs.lemmas.Grind.{common_steps}
use Rattle.std.proofs.lemmas.List.Elements.{filter-append}
use Rattle.std.proofs.lemmas.List.Folds.{list_any-append}
use Rattle.std.proofs.lemmas.List.Sums.{sum_by-append}
use Rattle.elf_image.specs.declared.image.Image.{Image}
use Rattle.insight_model.specs.Count.{Executed, executed_events}
use Rattle.insight_model.specs.Profile.{Column, Event, amount_in, column_place, goes_on, own_events, retired, row_of, trapped}
use Rattle.instruction_count.specs.Counted.{run_events}
use Rattle.instruction_count.proofs.Amounts.{events_by, other_row, own_row, retired_amount, retired_by, trapped_amount, trapped_by}
use Rattle.insight_laws.proofs.Listed.{has_row}

has_one : (trap on : Bool) (own row : ℕ) (b : Bool) → (own == row) ≡ b → has_row row (events_by trap on own) ≡ b
has_one true on own row true is = rw is refl
has_one true on own row false is = rw is refl
has_one false true own row true is = rw is refl
has_one false true own row false is = rw is refl
has_one false false own row true is = rw is refl
has_one false false own row false is = rw is refl

retired_one : (trap on : Bool) (own row : ℕ) (b : Bool) → (own == row) ≡ b → amount_in retired (own_events row (events_by trap on own)) ≡ (if b then retired_by trap else 0)
retired_one trap on own row true is = ap (amount_in retired) (own_row trap on own row is) ∙ retired_amount trap on own
retired_one trap on own row false is = ap (amount_in retired) (other_row trap on own row is)

trapped_one : (trap on : Bool) (own row : ℕ) (b : Bool) → (own == row) ≡ b → amount_in trapped (own_events row (events_by trap on own)) ≡ (if b then trapped_by trap else 0)
trapped_one trap on own row true is = ap (amount_in trapped) (own_row trap on own row is) ∙ trapped_amount trap on own
trapped_one trap on own row false is = ap (amount_in trapped) (other_row trap on own row is)

abbrev some : ℕ → ℕ → Bool
some left gone = nat_lt 0 left || nat_lt 0 gone

one_more : (b trap : Bool) (left gone : ℕ) → (b || some left gone) ≡ some ((if b then retired_by trap else 0) + left) ((if b then trapped_by trap else 0) + gone)
one_more true true left gone = grind (arith, common_steps)
one_more true false left gone = grind (arith, common_steps)
one_more false true left gone = grind (arith, common_steps)
one_more false false left gone = grind (arith, common_steps)

amount_both : (column : Column) (row : ℕ) (es fs : List Event) → amount_in column (own_events row (es ++ fs)) ≡ amount_in column (own_events row es) + amount_in column (own_events row fs)
amount_both column row es fs =
    ap (amount_in column) (filter-append (λ (e : Event). e.row == row) es fs)
    ∙ sum_by-append (λ (e : Event). if column_place e.column == column_place column then e.amount else 0) (own_events row es) (own_events row fs)

pub has_counted : (image : Image) (run : List Executed) (row : ℕ) →
    has_row row (run_events image run) ≡ some (amount_in retired (own_events row (run_events image run))) (amount_in trapped (own_events row (run_events image run)))
has_counted image [] row = refl
has_counted image (x ∷ run) row =
    let es = executed_events image x in
    let fs = run_events image run in
    let trap = x.has_trapped in
    let on = goes_on x.addr x.next in
    let own = row_of image x.addr in
    let b = own == row in
    list_any-append (λ (e : Event). e.row == row) es fs
    ∙ (λ i. has_one trap on own row b refl i || has_counted image run row i)
    ∙ one_more b trap (amount_in retired (own_events row fs)) (amount_in trapped (own_events row fs))
    ∙ sym (λ i. some
    ((amount_both retired row es fs ∙ ap (λ (n : ℕ). n + amount_in retired (own_events row fs)) (retired_one trap on own row b refl)) i)
    ((amount_both trapped row es fs ∙ ap (λ (n : ℕ). n + amount_in trapped (own_events row fs)) (trapped_one trap on own row b refl)) i))
