use Rattle.phys_mem.proofs.Marks.{four_marks}
use Rattle.phys_mem.proofs.text.is_marked_word.Goals as goal

pub returns : goal.returns
returns c = four_marks c.args.text.now.marks c.args.offset c.requires.aligned
