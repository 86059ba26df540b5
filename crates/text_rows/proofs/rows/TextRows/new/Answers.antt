use Rattle.std.proofs.Common.{◌≡◌, ◌≤◌, ◌+◌, ◌*◌, ◌/◌, ℕ, sym, subst, arith, length}
use Rattle.fsim_base.specs.declared.access.RamRange.{RamRange}
use Rattle.text_rows.specs.Rows.{AreRowsWithin}
use Rattle.text_rows.proofs.Memory.{HasPages, all_rows, has_pages, page_aligned, page_fits, pages_end}
use Rattle.text_rows.proofs.Rising.{few_rows}
use Rattle.text_rows.proofs.rows.TextRows.new.Goals as goal

pub overflow_cast-len : goal.overflow_cast-len
overflow_cast-len c =
    let R : RamRange → Type 0 = λ r. HasPages r.base r.size in
    let pages = subst R (sym c.ram_range-ram.ensures.range) (has_pages c.args.setup.now c.requires.sound) in
    let fits = page_fits c.ram_range-ram.result.base c.ram_range-ram.result.size c.loop-page.page pages c.loop-page-test.true in
    let rows = c.loop-page.invariant in
    let few : length c.loop-page.addrs.items ≤ c.ram_range-ram.result.base + 4096 * c.loop-page.page = few_rows c.loop-page.addrs.items (c.ram_range-ram.result.base + 4096 * c.loop-page.page) rows.rising rows.below in
    record { fits = omega (arith, fits, few, c.len.ensures) }

pub overflow_add-ram : goal.overflow_add-ram
overflow_add-ram c =
    let R : RamRange → Type 0 = λ r. HasPages r.base r.size in
    let pages = subst R (sym c.ram_range-ram.ensures.range) (has_pages c.args.setup.now c.requires.sound) in
    let fits = page_fits c.ram_range-ram.result.base c.ram_range-ram.result.size c.loop-page.page pages c.loop-page-test.true in
    record { fits = omega (arith, fits) }

pub push_page-requires-clause-fits : goal.push_page-requires-clause-fits
push_page-requires-clause-fits c =
    let R : RamRange → Type 0 = λ r. HasPages r.base r.size in
    let pages = subst R (sym c.ram_range-ram.ensures.range) (has_pages c.args.setup.now c.requires.sound) in
    page_fits c.ram_range-ram.result.base c.ram_range-ram.result.size c.loop-page.page pages c.loop-page-test.true

pub push_page-requires-clause-aligned : goal.push_page-requires-clause-aligned
push_page-requires-clause-aligned c =
    let R : RamRange → Type 0 = λ r. HasPages r.base r.size in
    let pages = subst R (sym c.ram_range-ram.ensures.range) (has_pages c.args.setup.now c.requires.sound) in
    page_aligned c.ram_range-ram.result.base c.ram_range-ram.result.size c.loop-page.page pages

pub loop-page-preserved : goal.loop-page-preserved
loop-page-preserved c =
    let base = c.ram_range-ram.result.base in
    let next : base + 4096 * c.loop-page.page + 4096 ≡ base + 4096 * (c.loop-page.page + 1) = omega arith in
    let P : ℕ → Type 0 = λ end. AreRowsWithin c.args.setup.now.image base end c.push_page.new.addrs.items in
    subst P next (c.in_ok-push_page.ensures.rows base c.loop-page.invariant)

pub returns : goal.returns
returns c =
    let s = c.args.setup.now in
    let R : RamRange → Type 0 = λ r. HasPages r.base r.size in
    let pages = subst R (sym c.ram_range-ram.ensures.range) (has_pages s c.requires.sound) in
    let ram = c.ram_range-ram.result in
    let all : c.loop-page.page ≡ ram.size / 4096 = omega (arith, c.loop-page-test.false, c.loop-page.auto.page-end) in
    let P : ℕ → Type 0 = λ end. AreRowsWithin s.image ram.base end c.loop-page.addrs.items in
    let Q : RamRange → Type 0 = λ r. AreRowsWithin s.image r.base (r.base + r.size) c.loop-page.addrs.items in
    record { rows = all_rows s c.loop-page.addrs.items c.requires.sound (subst Q c.ram_range-ram.ensures.range (subst P (pages_end ram.base ram.size c.loop-page.page pages all) c.loop-page.invariant)) }
