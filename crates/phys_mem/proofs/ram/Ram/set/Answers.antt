use Rattle.std.proofs.Common.{◌∙◌, ap, refl, subst}
use Rattle.fsim_base.specs.Range.{IsInside}
use Rattle.fsim_base.specs.Width.{width_bytes}
use Rattle.phys_mem.specs.Ram.{page_of, ram_of, text_of, exec_of}
use Rattle.phys_mem.proofs.Access.{IsPage, loads, stores, restores}
use Rattle.phys_mem.proofs.ram.Ram.set.Goals as goal

-- the access lies inside RAM, in the page that was taken
inside : (c : goal.After-self-2-1) → IsInside c.args.self.now.range c.args.addr (width_bytes c.args.width)
inside c = subst (IsInside c.args.self.now.range c.args.addr) c.bytes.ensures.count (c.if-not-contains.ensures.inside.0 refl)

page : (c : goal.After-self-2-1) → IsPage c.args.self.now.range c.args.self.now.pages c.args.addr c.page_index-index.result c.page_mut-page.result.now
page c = record { place = c.page_index-index.ensures.place ∙ ap (page_of c.args.self.now.range) c.from.ensures; within = c.page_index-index.ensures.within; there = c.page_mut-page.ensures.page }

pub returns-clause-old : goal.returns-clause-old
unfolding ram_of
returns-clause-old c =
    loads c.args.self.now.range c.args.self.now.pages c.args.addr c.args.width c.page_index-index.result c.page_mut-page.result.now c.load-old.result c.requires.aligned (inside c) (page c) c.load-old.ensures.value

pub returns-clause-ram : goal.returns-clause-ram
unfolding ram_of
returns-clause-ram c =
    stores c.args.self.now.range c.args.self.now.pages c.args.addr c.args.width c.page_index-index.result c.page_mut-page.result.now c.store.new.page c.args.value c.requires.aligned (inside c) (page c) c.store.ensures

pub returns-clause-back : goal.returns-clause-back
unfolding ram_of
returns-clause-back c =
    restores c.args.self.now.range c.args.self.now.pages c.args.addr c.args.width c.page_index-index.result c.page_mut-page.result.now c.store.new.page c.args.value c.load-old.result c.requires.aligned (inside c) (page c)
    c.store.ensures c.load-old.ensures.value c.load-old.ensures.bytes

pub returns-clause-text : goal.returns-clause-text
unfolding text_of
returns-clause-text c = refl

pub returns-clause-exec : goal.returns-clause-exec
unfolding exec_of
returns-clause-exec c = refl
