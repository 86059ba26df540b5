use Rattle.phys_mem.proofs.Bytes.{over_word}
use Rattle.phys_mem.proofs.page.store_word.Goals as goal

pub returns : goal.returns
returns c =
    over_word c.args.page.now c.write_u32.new.buf c.args.offset c.args.value c.told-page c.requires.inside c.write_u32.ensures
