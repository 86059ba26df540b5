use Rattle.std.proofs.Common.{◌∙◌, ap, refl, subst}
use Rattle.fsim_base.specs.Range.{IsInside}
use Rattle.phys_mem.specs.Ram.{page_of, ram_of}
use Rattle.phys_mem.proofs.Access.{loads}
use Rattle.phys_mem.proofs.ram.Ram.get.Goals as goal

pub returns : goal.returns
unfolding ram_of
returns c =
    let ram = c.args.self.now in
    let inside = subst (IsInside ram.range c.args.addr) c.bytes.ensures.count (c.if-not-contains.ensures.inside.0 refl) in
    record {
      value = loads ram.range ram.pages c.args.addr c.args.width c.page_index-index.result c.page.result.now c.load.result c.requires.aligned inside
          record { place = c.page_index-index.ensures.place ∙ ap (page_of ram.range) c.from.ensures; within = c.page_index-index.ensures.within; there = c.page.ensures.page } c.load.ensures.value;
    }
