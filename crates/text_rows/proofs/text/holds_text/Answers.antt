use Rattle.std.proofs.Common.{◌∙◌, ◌+◌, ◌*◌, sym, arith}
use Rattle.text_rows.proofs.Pages.{holds_none, holds_some, unreached_text}
use Rattle.text_rows.proofs.text.holds_text.Goals as goal

pub returns-then-not-is_reached : goal.returns-then-not-is_reached
returns-then-not-is_reached c =
    let image = c.args.image.now in
    let page = c.args.page in
    record { holds = sym (holds_none image page (λ k below. unreached_text image (page + 4 * k) (c.is_reached.ensures.unreached c.if-not-is_reached.true (page + 4 * k) (omega arith) (omega (arith, below))))) }

pub returns-then-has_text : goal.returns-then-has_text
returns-then-has_text c =
    record { holds = sym (holds_some c.args.image.now c.args.page c.loop-word.word c.loop-word-test.true (sym c.has_text.ensures.text ∙ c.if-has_text.true)) }

pub returns : goal.returns
returns c = record { holds = sym (holds_none c.args.image.now c.args.page (λ k below. c.loop-word.invariant k (omega (arith, below, c.loop-word-test.false)))) }
