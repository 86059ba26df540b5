use Rattle.std.proofs.Common.{ℕ, List, ◌++◌, ◌∷◌, [], ap, ◌∙◌, take}
use Rattle.gdb_packets.specs.Receiver.{Kept}
use Rattle.gdb_packets.proofs.Kept.{sum-more, take-more}
use Rattle.gdb_packets.proofs.receiver.Receiver.add.Goals as goal
use Rattle.gdb_packets.specs.declared.receiver.TheConstants.{ROOM}

pub returns : goal.returns
returns c = record {
  stands = λ s stands. record {
    place = ap (λ (kept : Kept). kept.place) c.self.view_is ∙ stands.place;
    content = c.keep.ensures.kept
        ∙ ap (λ (front : List ℕ). take ROOM (front ++ c.args.byte ∷ [])) (ap (λ (kept : Kept). kept.content) c.self.view_is ∙ stands.content)
        ∙ take-more ROOM s.content (c.args.byte ∷ []);
    sum = sum-more c.self.inside.sum s.content c.args.byte (ap (λ (kept : Kept). kept.sum) c.self.view_is ∙ stands.sum);
  };
}
