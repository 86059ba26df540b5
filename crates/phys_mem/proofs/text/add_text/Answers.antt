use Rattle.std.proofs.Common.{◌≡◌, ◌∙◌, ℕ, Bool, false, ap, sym}
use Rattle.std.specs.Prelude.{Option, ◌==◌, ◌||◌}
use Rattle.std.specs.Global.{Box}
use Rattle.std.proofs.Math.Bool.{or-false}
use Rattle.phys_mem.specs.declared.page.TextPage.{TextPage}
use Rattle.phys_mem.specs.PageBytes.{is_marked}
use Rattle.phys_mem.specs.Page.{marked_in}
use Rattle.phys_mem.proofs.text.add_text.Goals as goal

-- the marks of an entry with one more
more : (offset : ℕ) → Option (Box TextPage) → ℕ → Bool
more offset entry = λ o. o == offset || marked_in entry o

pub returns-in-Some : goal.returns-in-Some
unfolding more
returns-in-Some c =
    c.set_mark.ensures
    ∙ ap (λ (text : TextPage). λ (o : ℕ). o == c.args.offset || is_marked text.marks o) c.deref_mut.ensures.value
    ∙ ap (more c.args.offset) (sym c.in-Some.is)

pub returns-in_ok-first_text-in-None : goal.returns-in_ok-first_text-in-None
unfolding more
returns-in_ok-first_text-in-None c =
    let alone : (o : ℕ) → (o == c.args.offset || false) ≡ (o == c.args.offset) = λ o. or-false (o == c.args.offset) in
    c.in_ok-first_text-in-None.ensures ∙ (λ i o. sym (alone o) i) ∙ ap (more c.args.offset) (sym c.in-None.is)
