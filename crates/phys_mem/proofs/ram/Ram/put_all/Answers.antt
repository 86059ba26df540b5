use Rattle.std.proofs.Common.{◌∙◌, ◌+◌, get_or}
use Rattle.fsim_base.specs.Memory.{put_byte}
use Rattle.phys_mem.specs.Ram.{ram_of}
use Rattle.phys_mem.proofs.Loading.{with_bytes-more}
use Rattle.phys_mem.proofs.ram.Ram.put_all.Goals as goal

pub loop-i-preserved : goal.loop-i-preserved
loop-i-preserved c =
    let i = c.loop-i.i in
    let bytes = c.args.bytes.now in
    record {
      range = c.put.ensures.range ∙ c.loop-i.invariant.range;
      ram = c.put.ensures.ram ∙ (λ j. put_byte (c.from.ensures j + i) (get_or bytes i 0) (c.loop-i.invariant.ram j)) ∙ with_bytes-more c.args.addr bytes i (ram_of c.args.self.now) c.loop-i-test.true;
      exec = c.put.ensures.exec ∙ c.loop-i.invariant.exec;
    }
