use Rattle.std.specs.Prelude.{ℕ, ◌%◌, ◌==◌, Bool}
use Rattle.fsim_base.specs.declared.access.Width.{Width}
use Rattle.fsim_base.specs.declared.access.Width.TheVariants.{Byte, Half, Word}

-- how many bytes an access of this width touches
abbrev pub width_bytes : Width → ℕ
width_bytes Byte = 1
width_bytes Half = 2
width_bytes Word = 4

-- the address is a multiple of the width
abbrev pub is_aligned : ℕ → Width → Bool
is_aligned addr width = addr % width_bytes width == 0
