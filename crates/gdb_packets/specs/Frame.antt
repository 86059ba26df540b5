-- A packet as bytes (GDB manual, "Remote Protocol", "Overview").
use Rattle.std.specs.Prelude.{◌≡◌, ℕ, ◌+◌, ◌%◌, ◌≤◌, List, [], ◌∷◌, ◌++◌, drop, length, sum}
use Rattle.hex.specs.Hex.{encode_lower}
use Rattle.gdb_packets.specs.declared.packet.TheConstants.{CONTENT_LIMIT}

-- the sum of a packet's bytes, modulo 256
abbrev pub checksum : List ℕ → ℕ
checksum content = sum content % 256

-- `$`, the content, `#` and the sum in two lower-case hexadecimal digits
abbrev pub frame : List ℕ → List ℕ
frame content = 36 ∷ content ++ 35 ∷ encode_lower (checksum content ∷ [])

-- a frame whose content still grows
pub record IsOpen (text : List ℕ) : Type 0 where
  pub first : text ≡ 36 ∷ drop 1 text
  pub room : length text ≤ CONTENT_LIMIT + 1
