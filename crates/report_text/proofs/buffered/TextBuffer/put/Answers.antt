use Rattle.std.proofs.Common.{◌∙◌, ap, arith}
use Rattle.report_text.proofs.Gathered.{put_after}
use Rattle.report_text.proofs.buffered.TextBuffer.put.Goals.{then-len-piece+in_ok-flush, else-len-piece}
use Rattle.report_text.proofs.buffered.TextBuffer.put.Goals as goal

pub returns-then-piece-gt-ROOM-clause-written : goal.returns-then-piece-gt-ROOM-clause-written
returns-then-piece-gt-ROOM-clause-written g c = elim c.if-len-piece.branch [
  | then-len-piece+in_ok-flush w ↦
      let flushed = w.in_ok-flush.ensures in
      let kept = ap g.K.Sink.faults w.sink-is in
      put_after c.args.piece.now c.args.self.now.bytes.items c.if-len-piece.self.bytes.items (g.K.Sink.faults c.put_piece.new.sink) (g.K.Sink.written c.args.sink.now) (g.K.Sink.written c.put_piece.new.sink) c.put_piece.result
      (ap (λ t. t.bytes.items) w.self-is ∙ flushed.empty) (ap g.K.Sink.written w.sink-is ∙ flushed.written) (omega (arith, kept, flushed.count)) c.put_piece.ensures.written
  | else-len-piece w ↦ absurd (omega (arith, w.if-len-piece.false, c.if-piece-gt-ROOM.true))
]
