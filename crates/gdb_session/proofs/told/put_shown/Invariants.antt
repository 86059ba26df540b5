use Rattle.std.proofs.Common.{◌≡◌}
use Rattle.std.specs.Slice.Iter.{chunks_rest, chunks_size}
use Rattle.gdb_session.proofs.Telling.{Showing}
use Rattle.gdb_session.proofs.told.put_shown.Given as goal

abbrev pub invariant-loop-piece : goal.invariant-loop-piece
invariant-loop-piece g l =
    (goal.iterator-loop-piece g).can_next l.piece-iterator
    × (goal.iterator-loop-piece g).is_finite l.piece-iterator
    × (chunks_size l.piece-iterator ≡ 2047)
    × Showing l.text (chunks_rest l.piece-iterator) (g.K.Sink.faults l.fn.sink) (g.K.Sink.faults l.sink) (g.K.Sink.written l.fn.sink) (g.K.Sink.written l.sink)
