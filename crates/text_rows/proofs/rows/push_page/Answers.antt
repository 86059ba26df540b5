use Rattle.std.proofs.Common.{rules, ◌≡◌, ◌∙◌, ◌++◌, ◌∷◌, [], List, ◌+◌, ◌*◌, ◌%◌, ℕ, true, false, sym, subst, arith}
use Rattle.text_rows.specs.Rows.{AreRowsWithin}
use Rattle.text_rows.proofs.Pages.{unreached_text}
use Rattle.text_rows.proofs.Rising.{aligned_on, no_word, with_no_page, with_none, with_word, word_by}
use Rattle.text_rows.proofs.rows.push_page.Goals as goal
use Rattle.text_rows.proofs.rows.push_page.Goals.{then-has_text+in_ok-push, else-has_text}

pub returns-then-not-is_reached : goal.returns-then-not-is_reached
returns-then-not-is_reached c = record {
  rows = λ first old.
      let image = c.args.image.now in
      let page = c.args.page in
      with_no_page image first page c.args.addrs.now.items (page + 4096) (omega arith)
      (λ addr from to. no_word image addr (unreached_text image addr (c.is_reached.ensures.unreached c.if-not-is_reached.true addr from to)))
      old;
}

pub loop-word-preserved : goal.loop-word-preserved
loop-word-preserved c = λ first old.
    let image = c.args.image.now in
    let n = c.args.page + 4 * c.loop-word.word in
    let before = c.loop-word.invariant first old in
    let aligned : n % 4 ≡ 0 = aligned_on c.args.page c.loop-word.word c.requires.aligned in
    let next : n + 4 ≡ c.args.page + 4 * (c.loop-word.word + 1) = omega arith in
    let P : ℕ → Type 0 = λ end. AreRowsWithin image first end c.if-has_text.addrs.items in
    let Q : List ℕ → Type 0 = λ rows. AreRowsWithin image first (n + 4) rows in
    subst P next (elim c.if-has_text.branch [
      | then-has_text+in_ok-push w ↦
          let grown : c.if-has_text.addrs.items ≡ c.loop-word.addrs.items ++ n ∷ [] = search rules in
          subst Q (sym grown) (with_word image first n c.loop-word.addrs.items aligned (word_by image n true aligned (sym c.has_text.ensures.text ∙ w.if-has_text.true)) before)
      | else-has_text w ↦
          let same : c.if-has_text.addrs.items ≡ c.loop-word.addrs.items = search rules in
          subst Q (sym same) (with_none image first n c.loop-word.addrs.items aligned (word_by image n false aligned (sym c.has_text.ensures.text ∙ w.if-has_text.false)) before)
    ])

pub returns : goal.returns
returns c = record {
  rows = λ first old.
      let all : c.args.page + 4 * c.loop-word.word ≡ c.args.page + 4096 = omega (arith, c.loop-word-test.false, c.loop-word.auto.word-end) in
      let P : ℕ → Type 0 = λ end. AreRowsWithin c.args.image.now first end c.loop-word.addrs.items in
      subst P all (c.loop-word.invariant first old);
}
