use Rattle.std.proofs.Common.{◌≡◌, ℕ, ◌<◌, get_or}
use Rattle.std.specs.Int.{to_le_bytes, w32}
use Rattle.gdb_session.proofs.registers.are_bytes_of.Given as goal

-- the bytes so far are those of the value
abbrev pub invariant-loop-place : goal.invariant-loop-place
invariant-loop-place l = (k : ℕ) → k < l.place → get_or l.bytes k 0 ≡ get_or (to_le_bytes w32 l.value) k 0
