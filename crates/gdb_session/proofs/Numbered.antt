-- Registers by GDB's numbers.
use Rattle.std.proofs.Common.{◌≡◌, ◌≢◌, ℕ, zero, suc, ◌+◌, ◌-◌, ◌<◌, ◌≤◌, ◌==◌, nat_le, nat_lt, true, false, List, [], ◌∷◌, ◌++◌, get_or, Option, Some, None, is_some, unwrap_or, append_assoc, if◌then◌else◌, refl, ap, sym, ◌∙◌, arith}
use Rattle.std.proofs.lemmas.Bool.{and_parts}
use Rattle.std.proofs.lemmas.Grind.{common_steps}
use Rattle.std.proofs.lemmas.List.{append-nil}
use Rattle.std.specs.List.{flat_map, list_all, range_with_len}
use Rattle.machine_csr.specs.Csr.{Row, read_by, row_at, row_in, rows}
use Rattle.mono_model.specs.declared.setup.Setup.{Setup}
use Rattle.mono_model.specs.Arch.{compare_of}
use Rattle.mono_model.specs.Final.{registers_from}
use Rattle.func_model.specs.Position.{csr_at, found, next_address}
use Rattle.gdb_packets.specs.Hexadecimal.{little}
use Rattle.gdb_model.specs.Registers.{register_at}
use Rattle.gdb_model.specs.Talk.{registers_text}

from_place : (regs : ℕ → ℕ) (count i : ℕ) → count ≤ 32 → i < count → get_or (registers_from count regs) i 0 ≡ regs (32 - count + i)
from_place regs zero i most below = absurd (omega (arith, below))
from_place regs (suc count) zero most below =
    let place : 31 - count ≡ 32 - suc count + 0 = omega (arith, most) in
    ap regs place
from_place regs (suc count) (suc i) most below =
    let place : 32 - count + i ≡ 32 - suc count + suc i = omega (arith, most) in
    from_place regs count i (omega (arith, most)) (omega (arith, below)) ∙ ap regs place

-- one of x0 to x31 among all of them
pub register_is : (regs : ℕ → ℕ) (number : ℕ) → number < 32 → get_or (registers_from 32 regs) number 0 ≡ regs number
register_is regs number below =
    let place : 32 - 32 + number ≡ number = omega arith in
    from_place regs 32 number (omega arith) below ∙ ap regs place

-- a number's register
pub at_general : (s : Setup) (at number : ℕ) → number < 32 → register_at s at number ≡ Some ((found s at).regs number)
at_general s at number below =
    let first : nat_lt number 32 ≡ true = grind (arith, common_steps, below) in
    rw first refl

pub at_pc : (s : Setup) (at number : ℕ) → number ≡ 32 → register_at s at number ≡ Some (next_address s at)
at_pc s at number is = ap (register_at s at) is

pub at_csr : (s : Setup) (at number : ℕ) → 65 ≤ number → register_at s at number ≡ csr_at s at (number - 65)
at_csr s at number above =
    let first : nat_lt number 32 ≡ false = grind (arith, common_steps, above) in
    let second : (number == 32) ≡ false = grind (arith, common_steps, above) in
    let third : nat_le 65 number ≡ true = grind (arith, common_steps, above) in
    rw (first, second, third) refl

pub at_none : (s : Setup) (at number : ℕ) → 32 ≤ number → number ≢ 32 → number < 65 → register_at s at number ≡ None
at_none s at number above other below =
    let first : nat_lt number 32 ≡ false = grind (arith, common_steps, above) in
    let second : (number == 32) ≡ false = grind (arith, common_steps, other) in
    let third : nat_le 65 number ≡ false = grind (arith, common_steps, below) in
    rw (first, second, third) refl

-- the address of a CSR has twelve bits
row_none : (rs : List Row) (csr : ℕ) → list_all (λ r. nat_lt r.address 4096) rs ≡ true → 4096 ≤ csr → row_in rs csr ≡ None
row_none [] csr all above = refl
row_none (r ∷ rs) csr all above =
    let parts = and_parts (nat_lt r.address 4096) (list_all (λ other. nat_lt other.address 4096) rs) all in
    let first : nat_lt r.address 4096 ≡ true = parts.0 in
    let other : (r.address == csr) ≡ false = grind (arith, common_steps, first, above) in
    rw other (row_none rs csr parts.1 above)

no_row : (csr : ℕ) → 4096 ≤ csr → row_at csr ≡ None
unfolding row_at
no_row csr above = row_none rows csr refl above

pub no_csr : (s : Setup) (at csr : ℕ) → 4096 ≤ csr → csr_at s at csr ≡ None
no_csr s at csr above =
    ap (λ (row : Option Row). if is_some row then Some (read_by row (found s at).csrs at (compare_of (found s at).devices)) else None) (no_row csr above)

-- the registers at a stop, one after the other
abbrev pub register_text : Setup → ℕ → ℕ → List ℕ
register_text s at number = little (unwrap_or (register_at s at number) 0)

abbrev pub registers_upto : Setup → ℕ → ℕ → List ℕ
registers_upto s at count = flat_map (register_text s at) (range_with_len 0 count)

upto_more : (f : ℕ → List ℕ) (from count : ℕ) → flat_map f (range_with_len from (count + 1)) ≡ flat_map f (range_with_len from count) ++ f (from + count)
upto_more f from zero =
    let here : from ≡ from + 0 = omega arith in
    append-nil (f from) ∙ ap f here
upto_more f from (suc count) =
    let more : suc count + 1 ≡ suc (count + 1) = omega arith in
    let place : from + 1 + count ≡ from + suc count = omega arith in
    ap (λ (n : ℕ). flat_map f (range_with_len from n)) more
    ∙ ap (λ (rest : List ℕ). f from ++ rest) (upto_more f (from + 1) count ∙ ap (λ (n : ℕ). flat_map f (range_with_len (from + 1) count) ++ f n) place)
    ∙ sym (append_assoc (f from) (flat_map f (range_with_len (from + 1) count)) (f (from + suc count)))

pub registers_more : (s : Setup) (at count value : ℕ) (text : List ℕ) → count < 32 → text ≡ registers_upto s at count → value ≡ get_or (registers_from 32 (found s at).regs) count 0 →
    text ++ little value ≡ registers_upto s at (count + 1)
registers_more s at count value text below is told =
    let one : little value ≡ register_text s at count =
    ap little (told ∙ register_is (found s at).regs count below) ∙ sym (ap (λ (v : Option ℕ). little (unwrap_or v 0)) (at_general s at count below)) in
    let place : 0 + count ≡ count = omega arith in
    ap (λ (front : List ℕ). front ++ little value) is ∙ ap (λ (back : List ℕ). registers_upto s at count ++ back) (one ∙ ap (register_text s at) (sym place))
    ∙ sym (upto_more (register_text s at) 0 count)

pub registers_all : (s : Setup) (at count pc : ℕ) (text : List ℕ) → count ≡ 32 → text ≡ registers_upto s at count → pc ≡ next_address s at → text ++ little pc ≡ registers_text s at
registers_all s at count pc text all is told =
    let front : text ≡ registers_upto s at 32 = is ∙ ap (registers_upto s at) all in
    ap (λ (t : List ℕ). t ++ little pc) front ∙ ap (λ (n : ℕ). registers_upto s at 32 ++ little n) told
    ∙ sym (upto_more (register_text s at) 0 32)
