use Rattle.std.proofs.Common.{◌≡◌, ◌∙◌, ap, true, false, refl, arith}
use Rattle.fsim_base.specs.Range.{IsInside}
use Rattle.phys_mem.specs.Ram.{page_of, exec_of, text_of}
use Rattle.phys_mem.proofs.Fetching.{outside_none, fetched_in_page}
use Rattle.phys_mem.proofs.ram.Ram.text.Goals as goal

pub returns-then-not-contains : goal.returns-then-not-contains
unfolding exec_of text_of
returns-then-not-contains c =
    let outside : IsInside c.args.self.now.range c.args.addr 4 → ⊥ = λ inside. let h : false ≡ true = c.if-not-contains.ensures.inside.1 inside in absurd (cc h) in
    record { word = outside_none c.args.self.now.range c.args.self.now.texts.items c.args.addr outside }

pub returns : goal.returns
unfolding exec_of text_of
returns c =
    let ram = c.args.self.now in
    let inside = c.if-not-contains.ensures.inside.0 refl in
    record {
      word = c.fetch.ensures ∙ fetched_in_page ram.range ram.texts.items c.args.addr c.page_index-index.result c.index.result.now c.requires.aligned inside
          record { place = c.page_index-index.ensures.place ∙ ap (page_of ram.range) c.from.ensures; within = omega (arith, c.page_index-index.ensures.within, ram.paired); there = c.index.ensures };
    }
