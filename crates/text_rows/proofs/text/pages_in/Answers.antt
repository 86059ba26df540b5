use Rattle.std.proofs.Common.{◌≡◌, ◌∙◌, ◌+◌, ◌/◌, ℕ, sym, subst, arith}
use Rattle.text_rows.proofs.Pages.{PagesTo, page_with, page_without, pages_all}
use Rattle.text_rows.proofs.text.pages_in.Goals as goal
use Rattle.text_rows.proofs.text.pages_in.Goals.{then-holds_text, else-holds_text}

pub loop-page-preserved : goal.loop-page-preserved
loop-page-preserved c =
    let image = c.args.image.now in
    let ram = c.args.ram in
    let page = c.loop-page.page in
    let P : ℕ → Type 0 = λ n. PagesTo image ram (page + 1) n in
    elim c.if-holds_text.branch [
      | then-holds_text w ↦ subst P (sym w.count-is) (page_with image ram page c.loop-page.count c.loop-page.invariant (sym c.holds_text.ensures.holds ∙ w.if-holds_text.true))
      | else-holds_text w ↦ subst P (sym w.count-is) (page_without image ram page c.loop-page.count c.loop-page.invariant (sym c.holds_text.ensures.holds ∙ w.if-holds_text.false))
    ]

pub returns : goal.returns
returns c =
    let all : c.loop-page.page ≡ c.args.ram.size / 4096 = omega (arith, c.loop-page-test.false, c.loop-page.auto.page-end) in
    record { pages = pages_all c.args.image.now c.args.ram c.loop-page.page c.loop-page.count c.loop-page.invariant all }
