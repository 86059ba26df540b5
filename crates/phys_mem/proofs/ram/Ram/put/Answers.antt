use Rattle.std.proofs.Common.{◌∙◌, ap, arith}
use Rattle.fsim_base.specs.Memory.{put_byte}
use Rattle.phys_mem.specs.Ram.{ram_of, memory_of}
use Rattle.phys_mem.proofs.Loading.{memory_of-put}
use Rattle.phys_mem.proofs.ram.Ram.put.Goals as goal

pub returns-clause-ram : goal.returns-clause-ram
unfolding ram_of
returns-clause-ram c =
    let ram = c.args.self.now in
    memory_of-put ram.range ram.pages c.args.addr c.page_index-index.result c.from.result c.page_mut.result.now c.store.new.page c.requires.inside
    record { place = c.page_index-index.ensures.place; within = c.page_index-index.ensures.within; there = c.page_mut.ensures.page } (omega arith) c.store.ensures
    ∙ ap (λ byte. put_byte c.args.addr byte (memory_of ram.range ram.pages)) c.from.ensures
