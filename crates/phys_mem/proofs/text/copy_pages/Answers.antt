use Rattle.std.proofs.Common.{◌∙◌, ℕ, List, ap, slice_index, arith}
use Rattle.phys_mem.proofs.Copying.{marks_step, bytes_step}
use Rattle.phys_mem.proofs.text.copy_pages.Goals as goal

pub loop-i-preserved : goal.loop-i-preserved
loop-i-preserved c =
    let texts = c.loop-i.texts in
    let first = c.args.texts.now in
    let i = c.loop-i.i in
    record {
      marks = marks_step texts first i c.index-texts-i.result c.copy_page.new.text (omega arith) c.copy_page.ensures.marks c.loop-i.invariant.marks;
      bytes = bytes_step texts first c.args.pages.now i c.index-texts-i.result c.copy_page.new.text (omega arith) (λ offset marked. c.copy_page.ensures.bytes offset marked ∙ ap (λ (page : List ℕ). slice_index page offset) c.page.ensures.page) c.loop-i.invariant.marks c.loop-i.invariant.bytes;
    }
