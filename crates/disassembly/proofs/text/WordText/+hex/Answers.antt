use Rattle.std.proofs.Common.{inl, inr, ap, ◌∙◌, length, length-append, arith}
use Rattle.std.proofs.lemmas.Grind.{common_steps}
use Rattle.disassembly.specs.Number.{hex}
use Rattle.disassembly.proofs.Hex.{hex_last, hex_next}
use Rattle.disassembly.proofs.text.WordText.+hex.Goals as goal
use Rattle.disassembly.proofs.text.WordText.+hex.Goals.{then-number-ge16, then-number-ge16-via-then-number-ge16, then-number-ge16-via-else-number-ge16+then-width-gt1, else-number-ge16+else-width-gt1}

pub hex-requires : goal.hex-requires
hex-requires t c =
    elim c.then-number-ge16.branch [
      | then-number-ge16-via-then-number-ge16 w ↦ grind (arith, common_steps, hex_next c.args.width c.args.number (inl w.if-number-ge16.true) c.ranges.number.fits)
      | then-number-ge16-via-else-number-ge16+then-width-gt1 w ↦ grind (arith, common_steps, hex_next c.args.width c.args.number (inr w.if-width-gt1.true) c.ranges.number.fits)
    ]

pub byte-requires : goal.byte-requires
byte-requires t c =
    elim c.if-number-ge16.branch [
      | then-number-ge16 w ↦ elim w.then-number-ge16.branch [
        | then-number-ge16-via-then-number-ge16 v ↦ grind (arith, common_steps, hex_next c.args.width c.args.number (inl v.if-number-ge16.true) c.ranges.number.fits)
        | then-number-ge16-via-else-number-ge16+then-width-gt1 v ↦ grind (arith, common_steps, hex_next c.args.width c.args.number (inr v.if-width-gt1.true) c.ranges.number.fits)
      ]
      | else-number-ge16+else-width-gt1 w ↦ grind (arith, common_steps, hex_last c.args.width c.args.number w.if-number-ge16.false w.if-width-gt1.false)
    ]

pub returns-clause-text : goal.returns-clause-text
returns-clause-text t c =
    elim c.if-number-ge16.branch [
      | then-number-ge16 w ↦ elim w.then-number-ge16.branch [
        | then-number-ge16-via-then-number-ge16 v ↦ grind (arith, common_steps, hex_next c.args.width c.args.number (inl v.if-number-ge16.true) c.ranges.number.fits)
        | then-number-ge16-via-else-number-ge16+then-width-gt1 v ↦ grind (arith, common_steps, hex_next c.args.width c.args.number (inr v.if-width-gt1.true) c.ranges.number.fits)
      ]
      | else-number-ge16+else-width-gt1 w ↦ grind (arith, common_steps, hex_last c.args.width c.args.number w.if-number-ge16.false w.if-width-gt1.false)
    ]

pub returns-clause-len : goal.returns-clause-len
returns-clause-len t c = ap length (returns-clause-text t c) ∙ length-append c.args.self.now (hex c.args.width c.args.number)
