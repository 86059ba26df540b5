use Rattle.std.proofs.lemmas.Nat.{and_mask}
use Rattle.phys_mem.proofs.Bytes.{over_half}
use Rattle.phys_mem.proofs.page.store_half.Goals as goal

pub returns : goal.returns
returns c =
    over_half c.args.page.now c.write_u16.new.buf c.args.offset c.args.value c.told-page c.requires.inside (rw (← and_mask c.args.value 16) c.write_u16.ensures)
