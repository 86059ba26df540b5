use Rattle.std.proofs.Common.{◌≡◌, subst, sym}
use Rattle.fsim_base.specs.declared.access.Width.{Width}
use Rattle.fsim_base.specs.Memory.{put_bytes}
use Rattle.fsim_base.specs.Width.{width_bytes}
use Rattle.phys_mem.specs.PageBytes.{bytes_of}
use Rattle.phys_mem.proofs.page.store.Goals as goal

pub returns-in-Word : goal.returns-in-Word
returns-in-Word c =
    subst (λ (w : Width). bytes_of c.store_word.new.page ≡ put_bytes (width_bytes w) c.args.offset c.args.value (bytes_of c.args.page.now)) (sym c.in-Word.is) c.store_word.ensures
