use Rattle.std.proofs.Common.{sym, subst}
use Rattle.fsim_base.specs.declared.access.RamRange.{RamRange}
use Rattle.text_rows.proofs.Memory.{HasPages, has_pages}
use Rattle.text_rows.proofs.text.text_pages.Goals as goal

pub pages_in-requires : goal.pages_in-requires
pages_in-requires c =
    let R : RamRange → Type 0 = λ r. HasPages r.base r.size in
    record { end = (subst R (sym c.ram_range.ensures.range) (has_pages c.args.setup.now c.requires.sound)).end }
