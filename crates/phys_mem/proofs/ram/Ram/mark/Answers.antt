use Rattle.std.proofs.Common.{arith}
use Rattle.phys_mem.specs.Ram.{exec_of}
use Rattle.phys_mem.proofs.Loading.{marks_of-add}
use Rattle.phys_mem.proofs.ram.Ram.mark.Goals as goal

pub returns-clause-exec : goal.returns-clause-exec
unfolding exec_of
returns-clause-exec c =
    let ram = c.args.self.now in
    marks_of-add ram.range ram.texts.items c.args.addr c.page_index-index.result c.index_mut.result.now c.add_text.new.text c.requires.inside
    record { place = c.page_index-index.ensures.place; within = omega (arith, c.page_index-index.ensures.within, ram.paired); there = c.index_mut.ensures.value } c.in_ok-add_text.ensures
