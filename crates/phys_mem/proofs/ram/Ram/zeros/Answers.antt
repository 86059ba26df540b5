use Rattle.phys_mem.specs.Ram.{ram_of, exec_of}
use Rattle.phys_mem.proofs.Loading.{memory_of-zero, marks_of-none}
use Rattle.phys_mem.proofs.ram.Ram.zeros.Goals as goal

pub returns-clause-ram : goal.returns-clause-ram
unfolding ram_of
returns-clause-ram c = memory_of-zero c.args.range c.in_ok-new.field-0 c.in_ok-new.ensures.zero

pub returns-clause-exec : goal.returns-clause-exec
unfolding exec_of
returns-clause-exec c = marks_of-none c.args.range c.in_ok-no_texts.field-0.items c.in_ok-no_texts.ensures.none
