use Rattle.std.proofs.Common.{sym, ◌∙◌}
use Rattle.elf_image.proofs.Clear.{HasContents-from_none}
use Rattle.elf_image.proofs.reader.read.Goals as goal

pub segments-requires-clause-contents : goal.segments-requires-clause-contents
segments-requires-clause-contents c =
    HasContents-from_none c.args.bytes.now c.args.ram (sym c.fault_of.ensures.first ∙ c.in_default.is)
