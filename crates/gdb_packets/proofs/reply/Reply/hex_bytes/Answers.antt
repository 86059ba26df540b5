use Rattle.std.proofs.Common.{ℕ, List, [], ◌∷◌, ◌++◌, append_assoc, ap, sym, ◌∙◌, arith, refl, get_or, take}
use Rattle.std.proofs.lemmas.List.{append-nil}
use Rattle.hex.specs.Hex.{encode_lower, encode_with}
use Rattle.gdb_packets.proofs.Digits.{encode-more}
use Rattle.gdb_packets.proofs.reply.Reply.hex_bytes.Goals as goal

pub loop-byte-init : goal.loop-byte-init
unfolding encode_with
loop-byte-init c = record { content = sym (append-nil c.args.self.now); len = omega arith }

pub loop-byte-preserved : goal.loop-byte-preserved
loop-byte-preserved c = record {
  content =
      let byte : ℕ = get_or c.args.bytes.now c.loop-byte.byte-index 0 in
      c.hex.ensures.content ∙ ap (λ (front : List ℕ). front ++ encode_lower (byte ∷ [])) c.loop-byte.invariant.content
      ∙ append_assoc c.args.self.now (encode_lower (take c.loop-byte.byte-index c.args.bytes.now)) (encode_lower (byte ∷ []))
      ∙ ap (λ (text : List ℕ). c.args.self.now ++ text) (encode-more c.args.bytes.now c.loop-byte.byte-index byte c.loop-byte-test.true refl);
  len = omega (arith, c.hex.ensures.len, c.loop-byte.invariant.len);
}
