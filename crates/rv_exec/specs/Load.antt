-- Loads and stores (RISC-V unprivileged manual, section 2.6).
use Rattle.std.specs.Prelude.{ℕ, ◌*◌, ◌%◌, ◌^◌, Bool, ◌==◌, nat_lt, if◌then◌else◌}
use Rattle.fsim_base.specs.Number.{sign_extended}
use Rattle.fsim_base.specs.Width.{width_bytes}
use Rattle.fsim_base.specs.declared.access.Width.{Width}
use Rattle.fsim_base.specs.declared.access.Width.TheVariants.{Byte, Half, Word}

-- by funct3: LB 0, LH 1, LW 2, LBU 4, LHU 5. No word has another funct3; it would count as the last row.
abbrev pub load_width : ℕ → Width
load_width kind =
    if kind == 0 then Byte
    else if kind == 1 then Half
    else if kind == 2 then Word
    else if kind == 4 then Byte
    else Half

-- LB, LH and LW extend the sign
abbrev pub load_extends_sign : ℕ → Bool
load_extends_sign kind = nat_lt kind 3

-- by funct3: SB 0, SH 1, SW 2. No word has another funct3; it would count as the last row.
abbrev pub store_width : ℕ → Width
store_width kind = if kind == 0 then Byte else if kind == 1 then Half else Word

-- the low bytes of a value, as a number
abbrev pub low_bytes : ℕ → Width → ℕ
low_bytes value width = value % 2 ^ (8 * width_bytes width)

-- what the register gets of the bytes that a load read: their sign extended, or zeros above them
abbrev pub loaded_value : Width → Bool → ℕ → ℕ
loaded_value width extends_sign raw =
    if extends_sign then sign_extended raw (8 * width_bytes width) else low_bytes raw width
