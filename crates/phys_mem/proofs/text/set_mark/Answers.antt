use Rattle.std.proofs.Common.{arith}
use Rattle.phys_mem.proofs.Marks.{is_marked-set}
use Rattle.phys_mem.proofs.text.set_mark.Goals as goal

pub returns : goal.returns
returns c = is_marked-set c.args.marks.now c.args.offset (omega (arith, c.told-marks, c.requires.inside))
