use Rattle.std.proofs.Common.{◌≡◌, ℕ, ◌∙◌, refl, ap, arith, slice_index_or, List}
use Rattle.std.specs.Prelude.{Option, None}
use Rattle.std.specs.Global.{Box}
use Rattle.phys_mem.specs.declared.page.TextPage.{TextPage}
use Rattle.phys_mem.specs.Page.{marked_in}
use Rattle.phys_mem.specs.Ram.{ram_of, exec_of, text_of, marks_of, copies_of}
use Rattle.std.specs.Vec.{with_items}
use Rattle.std.proofs.lemmas.List.{with_items_is}
use Rattle.phys_mem.proofs.Copying.{marks_of-same, copies_of-copied}
use Rattle.phys_mem.proofs.ram.Ram.sync.Goals as goal

-- the marks that were, by page
marks : (c : goal.After-self-2-1) (k : ℕ) → marked_in (slice_index_or c.copy_pages.new.texts k None) ≡ marked_in (slice_index_or c.args.self.now.texts.items k None)
marks c k =
    c.copy_pages.ensures.marks k ∙ ap (λ (l : List (Option (Box TextPage))). marked_in (slice_index_or l k None)) c.deref_mut.ensures.value

-- the copies that are kept then are those that were made
kept : (c : goal.After-self-2-1) → (with_items c.args.self.now.texts c.copy_pages.new.texts).items ≡ c.copy_pages.new.texts
kept c =
    with_items_is c.args.self.now.texts c.copy_pages.new.texts (omega (arith, c.copy_pages.auto.texts, c.deref_mut.ensures.len))

pub returns-clause-text : goal.returns-clause-text
unfolding text_of exec_of ram_of
returns-clause-text c =
    let ram = c.args.self.now in
    ap (copies_of ram.range) (kept c)
    ∙ copies_of-copied ram.range ram.pages c.copy_pages.new.texts ram.texts.items ram.covered (marks c)
    (λ k offset within marked. let there = ap (λ (l : List (Option (Box TextPage))). marked_in (slice_index_or l k None) offset) c.deref_mut.ensures.value in
    c.copy_pages.ensures.bytes k offset within (there ∙ marked))

pub returns-clause-ram : goal.returns-clause-ram
unfolding ram_of
returns-clause-ram c = refl

pub returns-clause-exec : goal.returns-clause-exec
unfolding exec_of
returns-clause-exec c =
    ap (marks_of c.args.self.now.range) (kept c)
    ∙ marks_of-same c.args.self.now.range c.copy_pages.new.texts c.args.self.now.texts.items (marks c)
