-- A decoded instruction fits, and it is encoded as the word that it was decoded from: each row of the table
-- keeps all that its words differ in.
use Rattle.std.proofs.Common.{◌≡◌, ◌∙◌, sym, subst, ℕ, ◌^◌, ◌<◌, ◌==◌, nat_lt, not, ◌&&◌, Some, true, false, List, [], ◌∷◌, refl, arith, ⊎_elim}
use Rattle.std.proofs.lemmas.Bool.{cases_Bool}
use Rattle.rv_decode.specs.declared.insn.Insn.{Insn}
use Rattle.rv_decode.specs.declared.insn.Insn.TheVariants.{Lui, Auipc, Jal, Jalr, Branch, Load, Store, OpImm, Op, MulDiv, Ecall, Ebreak, Mret, Wfi, Csr}
use Rattle.rv_decode.specs.Table.{Row, Fixed, row, opcode, funct3, funct7, whole, has_fixed, table, r_format, i_format, s_format, b_format, u_format, j_format, csr_format, fence_format, shift_format, no_format}
use Rattle.rv_decode.specs.Decode.{decode_of}
use Rattle.rv_decode.specs.Encode.{encode_of}
use Rattle.rv_decode.specs.Fits.{Fits}
use Rattle.rv_decode.proofs.Found.{found, found-here, found-past}

pub record IsKept (word : ℕ) (insn : Insn) : Type 0 where
  pub word_of : encode_of insn ≡ word
  pub fits : Fits insn

-- the row's instruction is kept, where the word is the row's
abbrev Keeps : ℕ → List Fixed → (ℕ → Insn) → Type 0
Keeps word fixed insn = has_fixed word (row fixed insn) ≡ true → IsKept word (insn word)

lui : (w : ℕ) → w < 2 ^ 32 → Keeps w (opcode 0x37 ∷ []) (u_format Lui)
unfolding encode_of
lui w below has = record { word_of = grind arith; fits = grind arith }

auipc : (w : ℕ) → w < 2 ^ 32 → Keeps w (opcode 0x17 ∷ []) (u_format Auipc)
unfolding encode_of
auipc w below has = record { word_of = grind arith; fits = grind arith }

jal : (w : ℕ) → w < 2 ^ 32 → Keeps w (opcode 0x6f ∷ []) (j_format Jal)
unfolding encode_of
jal w below has = record { word_of = grind arith; fits = grind arith }

jalr : (w : ℕ) → w < 2 ^ 32 → Keeps w (opcode 0x67 ∷ funct3 0 ∷ []) (i_format Jalr)
unfolding encode_of
jalr w below has = record { word_of = grind arith; fits = grind arith }

branch : (w kind : ℕ) → w < 2 ^ 32 → (nat_lt kind 8 && not (kind == 2) && not (kind == 3)) ≡ true → Keeps w (opcode 0x63 ∷ funct3 kind ∷ []) (b_format (Branch kind))
unfolding encode_of
branch w kind below k has = record { word_of = grind arith; fits = grind arith }

load : (w kind : ℕ) → w < 2 ^ 32 → (nat_lt kind 6 && not (kind == 3)) ≡ true → Keeps w (opcode 0x03 ∷ funct3 kind ∷ []) (i_format (Load kind))
unfolding encode_of
load w kind below k has = record { word_of = grind arith; fits = grind arith }

store : (w kind : ℕ) → w < 2 ^ 32 → nat_lt kind 3 ≡ true → Keeps w (opcode 0x23 ∷ funct3 kind ∷ []) (s_format (Store kind))
unfolding encode_of
store w kind below k has = record { word_of = grind arith; fits = grind arith }

op_imm : (w kind : ℕ) → w < 2 ^ 32 → (nat_lt kind 8 && not (kind == 1) && not (kind == 5)) ≡ true → Keeps w (opcode 0x13 ∷ funct3 kind ∷ []) (i_format (OpImm kind false))
unfolding encode_of
op_imm w kind below k has = record { word_of = grind arith; fits = grind arith }

slli : (w : ℕ) → w < 2 ^ 32 → Keeps w (opcode 0x13 ∷ funct3 1 ∷ funct7 0x00 ∷ []) (shift_format (OpImm 1 false))
unfolding encode_of
slli w below has = record { word_of = grind arith; fits = grind arith }

srli : (w : ℕ) → w < 2 ^ 32 → Keeps w (opcode 0x13 ∷ funct3 5 ∷ funct7 0x00 ∷ []) (shift_format (OpImm 5 false))
unfolding encode_of
srli w below has = record { word_of = grind arith; fits = grind arith }

srai : (w : ℕ) → w < 2 ^ 32 → Keeps w (opcode 0x13 ∷ funct3 5 ∷ funct7 0x20 ∷ []) (shift_format (OpImm 5 true))
unfolding encode_of
srai w below has = record { word_of = grind arith; fits = grind arith }

op : (w kind : ℕ) → w < 2 ^ 32 → nat_lt kind 8 ≡ true → Keeps w (opcode 0x33 ∷ funct3 kind ∷ funct7 0x00 ∷ []) (r_format (Op kind false))
unfolding encode_of
op w kind below k has = record { word_of = grind arith; fits = grind arith }

sub : (w : ℕ) → w < 2 ^ 32 → Keeps w (opcode 0x33 ∷ funct3 0 ∷ funct7 0x20 ∷ []) (r_format (Op 0 true))
unfolding encode_of
sub w below has = record { word_of = grind arith; fits = grind arith }

sra : (w : ℕ) → w < 2 ^ 32 → Keeps w (opcode 0x33 ∷ funct3 5 ∷ funct7 0x20 ∷ []) (r_format (Op 5 true))
unfolding encode_of
sra w below has = record { word_of = grind arith; fits = grind arith }

mul_div : (w kind : ℕ) → w < 2 ^ 32 → nat_lt kind 8 ≡ true → Keeps w (opcode 0x33 ∷ funct3 kind ∷ funct7 0x01 ∷ []) (r_format (MulDiv kind))
unfolding encode_of
mul_div w kind below k has = record { word_of = grind arith; fits = grind arith }

fence : (w : ℕ) → w < 2 ^ 32 → Keeps w (opcode 0x0f ∷ funct3 0 ∷ []) (fence_format false)
unfolding encode_of
fence w below has = record { word_of = grind arith; fits = grind arith }

fence_i : (w : ℕ) → w < 2 ^ 32 → Keeps w (opcode 0x0f ∷ funct3 1 ∷ []) (fence_format true)
unfolding encode_of
fence_i w below has = record { word_of = grind arith; fits = grind arith }

ecall : (w : ℕ) → w < 2 ^ 32 → Keeps w (whole 0x00000073 ∷ []) (no_format Ecall)
unfolding encode_of
ecall w below has = record { word_of = grind arith; fits = tt }

ebreak : (w : ℕ) → w < 2 ^ 32 → Keeps w (whole 0x00100073 ∷ []) (no_format Ebreak)
unfolding encode_of
ebreak w below has = record { word_of = grind arith; fits = tt }

mret : (w : ℕ) → w < 2 ^ 32 → Keeps w (whole 0x30200073 ∷ []) (no_format Mret)
unfolding encode_of
mret w below has = record { word_of = grind arith; fits = tt }

wfi : (w : ℕ) → w < 2 ^ 32 → Keeps w (whole 0x10500073 ∷ []) (no_format Wfi)
unfolding encode_of
wfi w below has = record { word_of = grind arith; fits = tt }

csr : (w kind : ℕ) → w < 2 ^ 32 → (nat_lt kind 8 && not (kind == 0) && not (kind == 4)) ≡ true → Keeps w (opcode 0x73 ∷ funct3 kind ∷ []) (csr_format (Csr kind))
unfolding encode_of
csr w kind below k has = record { word_of = grind arith; fits = grind arith }

abbrev AllKeep : ℕ → List Row → Type 0
AllKeep w [] = Unit {0}
AllKeep w (r ∷ rs) = Keeps w r.fixed r.insn × AllKeep w rs

-- the proofs of a list of rows, one behind the other
infixr 5 ◌&◌
abbrev ◌&◌ : {A B : Type 0} → A → B → A × B
a & b = (a, b)

table_keeps : (w : ℕ) → w < 2 ^ 32 → AllKeep w table
unfolding table
table_keeps w b =
    lui w b & auipc w b & jal w b & jalr w b &
    branch w 0 b refl & branch w 1 b refl & branch w 4 b refl & branch w 5 b refl & branch w 6 b refl & branch w 7 b refl &
    load w 0 b refl & load w 1 b refl & load w 2 b refl & load w 4 b refl & load w 5 b refl &
    store w 0 b refl & store w 1 b refl & store w 2 b refl &
    op_imm w 0 b refl & op_imm w 2 b refl & op_imm w 3 b refl & op_imm w 4 b refl & op_imm w 6 b refl & op_imm w 7 b refl &
    slli w b & srli w b & srai w b &
    op w 0 b refl & sub w b & op w 1 b refl & op w 2 b refl & op w 3 b refl & op w 4 b refl & op w 5 b refl & sra w b & op w 6 b refl & op w 7 b refl &
    mul_div w 0 b refl & mul_div w 1 b refl & mul_div w 2 b refl & mul_div w 3 b refl &
    mul_div w 4 b refl & mul_div w 5 b refl & mul_div w 6 b refl & mul_div w 7 b refl &
    fence w b & fence_i w b & ecall w b & ebreak w b & mret w b & wfi w b &
    csr w 1 b refl & csr w 2 b refl & csr w 3 b refl & csr w 5 b refl & csr w 6 b refl & csr w 7 b refl & tt

found_kept : (w : ℕ) (rs : List Row) (insn : Insn) → AllKeep w rs → found w rs ≡ Some insn → IsKept w insn
found_kept w [] insn keep e = cc
found_kept w (r ∷ rs) insn keep e =
    ⊎_elim
    (λ has. let here = found-here w r rs has in
    let same : r.insn w ≡ insn = cc in
    subst (IsKept w) same (keep.0 has))
    (λ past. found_kept w rs insn keep.1 (sym (found-past w r rs past) ∙ e))
    (cases_Bool (has_fixed w r))

pub decoded_kept : (w : ℕ) (insn : Insn) → w < 2 ^ 32 → decode_of w ≡ Some insn → IsKept w insn
unfolding decode_of
decoded_kept w insn below e = found_kept w table insn (table_keeps w below) e

pub decoded_encoded : (w : ℕ) (insn : Insn) → w < 2 ^ 32 → decode_of w ≡ Some insn → encode_of insn ≡ w
decoded_encoded w insn below e = (decoded_kept w insn below e).word_of
