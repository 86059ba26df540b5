use Rattle.std.proofs.Common.{◌≡◌, ℕ, List, [], ◌∷◌, ◌++◌, ◌-◌, drop, take, length, length-drop, ap, ◌∙◌, arith}
use Rattle.std.proofs.lemmas.List.{take_all}
use Rattle.gdb_packets.specs.Frame.{checksum}
use Rattle.gdb_packets.proofs.Digits.{closed}
use Rattle.gdb_packets.proofs.reply.Reply.finish.Goals as goal

rest-whole : (xs : List ℕ) → take (length xs - 1) (drop 1 xs) ≡ drop 1 xs
rest-whole xs = take_all (length xs - 1) (drop 1 xs) (rw length-drop (omega arith))

pub returns : goal.returns
returns c =
    let text : List ℕ = c.self.inside.text.items in
    let sum_is : c.checksum-sum.result ≡ checksum c.args.self =
    c.checksum-sum.ensures.sum
    ∙ ap checksum (rest-whole c.as_slice.result.now ∙ ap (λ (xs : List ℕ). drop 1 xs) c.as_slice.ensures.value ∙ c.self.view_is) in
    record {
      frame =
          c.push-3.ensures.items
          ∙ ap (λ (front : List ℕ). front ++ c.digit-2.result ∷ []) (c.push-2.ensures.items ∙ ap (λ (front : List ℕ). front ++ c.digit.result ∷ []) c.push.ensures.items)
          ∙ closed text c.args.self c.checksum-sum.result c.digit.result c.digit-2.result c.self.invariant.first c.self.view_is sum_is c.digit.ensures.digit c.digit-2.ensures.digit;
    }
