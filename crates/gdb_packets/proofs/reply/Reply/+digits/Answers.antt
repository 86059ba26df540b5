use Rattle.std.proofs.Common.{ℕ, List, [], ◌∷◌, ◌++◌, length, length-append, ap, ◌∙◌, arith, rules}
use Rattle.gdb_packets.proofs.Digits.{digits-one, length-more, written-more, written-one}
use Rattle.gdb_packets.proofs.reply.Reply.+digits.Goals as goal
use Rattle.gdb_packets.proofs.reply.Reply.+digits.Goals.{then-number-ge16, else-number-ge16}

pub digits-requires : goal.digits-requires
digits-requires t c =
    let more = length-more c.args.number c.if-number-ge16.true c.ranges.number.fits in
    (search rules, omega (arith, more, c.requires.room))

pub byte-requires : goal.byte-requires
byte-requires t c = record {
  room =
      elim c.if-number-ge16.branch [
        | then-number-ge16 w ↦
            let more = length-more c.args.number w.if-number-ge16.true c.ranges.number.fits in
            rw (w.self-is, w.digits.ensures.content, length-append) (omega (arith, more, c.requires.room))
        | else-number-ge16 w ↦
            let one = ap length (digits-one c.args.number w.if-number-ge16.false) in
            rw w.self-is (omega (arith, one, c.requires.room))
      ];
}

pub returns : goal.returns
returns t c = record {
  content =
      elim c.if-number-ge16.branch [
        | then-number-ge16 w ↦
            c.byte.ensures.content ∙ ap (λ (front : List ℕ). front ++ c.digit.result ∷ []) (w.self-is ∙ w.digits.ensures.content)
            ∙ written-more c.args.self.now c.args.number c.digit.result w.if-number-ge16.true c.ranges.number.fits c.digit.ensures.glyph
        | else-number-ge16 w ↦
            c.byte.ensures.content ∙ ap (λ (front : List ℕ). front ++ c.digit.result ∷ []) w.self-is
            ∙ written-one c.args.self.now c.args.number c.digit.result w.if-number-ge16.false c.digit.ensures.glyph
      ];
}
