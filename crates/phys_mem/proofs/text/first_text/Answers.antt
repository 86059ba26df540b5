use Rattle.std.proofs.Common.{◌∙◌, ap}
use Rattle.phys_mem.specs.declared.page.TextPage.{TextPage}
use Rattle.phys_mem.specs.PageBytes.{is_marked}
use Rattle.phys_mem.proofs.Marks.{only_mark}
use Rattle.phys_mem.proofs.text.first_text.Goals as goal

pub returns : goal.returns
returns c =
    ap (λ (text : TextPage). is_marked text.marks) c.in_ok-new.ensures.ok ∙ only_mark c.set_mark.new.marks 512 c.args.offset c.set_mark.ensures
