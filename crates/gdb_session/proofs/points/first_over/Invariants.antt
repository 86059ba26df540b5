use Rattle.std.proofs.Common.{◌≡◌, ◌+◌, ◌-◌}
use Rattle.std.specs.Prelude.{find}
use Rattle.std.specs.List.{range_with_len}
use Rattle.gdb_model.specs.Session.{is_over}
use Rattle.gdb_session.proofs.points.first_over.Given as goal

-- the first of the bytes that are left is the first of all
abbrev pub invariant-loop-place : goal.invariant-loop-place
invariant-loop-place l = find (is_over l.point) (range_with_len (l.addr + l.place) (l.count - l.place)) ≡ find (is_over l.point) (range_with_len l.addr l.count)
