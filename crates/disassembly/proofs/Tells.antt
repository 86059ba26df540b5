-- The text of a word tells its instruction.
use Rattle.std.proofs.Common.{◌≡◌, refl, ap, sym, ◌∙◌, ℕ, ◌/◌, ◌^◌, ◌<◌, ◌==◌, ◌||◌, nat_lt, Bool, true, false, List, [], ◌∷◌, ◌++◌, Option, None, Some, codes, decimal, if◌then◌else◌, arith, subst, not, bytes_eq}
use Rattle.std.specs.Option.{option_map, option_map_or}
use Rattle.std.specs.Bool.{MatchBool}
use Rattle.std.proofs.lemmas.Bool.{and_parts}
use Rattle.std.proofs.lemmas.Fmt.{decimal_injective}
use Rattle.fsim_base.specs.Number.{bits_of}
use Rattle.rv_decode.specs.declared.insn.Insn.{Insn}
use Rattle.rv_decode.specs.declared.insn.Insn.TheVariants.{Lui, Auipc, Jal, Jalr, Branch, Load, Store, OpImm, Op, MulDiv, Ecall, Ebreak, Mret, Wfi, Csr}
use Rattle.rv_decode.specs.Field.{rd_of, rs1_of, rs2_of, upper_of, i_immediate, s_immediate, b_immediate, u_immediate, j_immediate}
use Rattle.rv_decode.specs.Fits.{Fits, IsImmediate, IsUpper}
use Rattle.rv_decode.specs.Table.{Row, has_fixed, table, r_format, i_format, s_format, b_format, u_format, j_format, shift_format, csr_format, fence_format, no_format}
use Rattle.rv_decode.specs.Decode.{decode_of}
use Rattle.rv_decode.proofs.Found.{found, found-here, found-past}
use Rattle.disassembly.specs.Number.{Text, hex, prefixed, signed}
use Rattle.disassembly.specs.Mnemonic.{branches, loads, stores, immediate_forms, register_forms, products, csr_forms, by_funct3, immediate_name, register_name, mnemonic, mnemonics}
use Rattle.disassembly.specs.Text.{register, based, target, accesses, csr_text, immediate_text, source_text, operands, after_space, insn_text, what_counts, word_text}
use Rattle.disassembly.proofs.Fitting.{decoded_fits}
use Rattle.disassembly.proofs.Names.{all_pass, is_new, are_apart, differ}
use Rattle.disassembly.proofs.Operands.{hex_tells, register_lacks, register_tells, signed_tells, based_tells, prefixed_tells, target_tells, accesses_lacks, accesses_tells, csr_lacks, csr_tells}
use Rattle.disassembly.proofs.Split.{lacks, begins, parted, two_parted, three_parted}

below_12 : (imm : ℕ) → IsImmediate imm 12 → imm < 2 ^ 32
below_12 imm k = grind arith

below_13 : (imm : ℕ) → IsImmediate imm 13 → imm < 2 ^ 32
below_13 imm k = grind arith

below_21 : (imm : ℕ) → IsImmediate imm 21 → imm < 2 ^ 32
below_21 imm k = grind arith

comma_free : (n : ℕ) → n < 32 → lacks 44 (register n) ≡ true
comma_free n h = register_lacks 44 n (omega arith) h

-- Each form of instruction, from its operands.

upper_told : (rd imm rd' imm' : ℕ) → rd < 32 → IsUpper imm → rd' < 32 → IsUpper imm'
    → after_space (register rd ∷ prefixed (imm / 2 ^ 12) ∷ []) ≡ after_space (register rd' ∷ prefixed (imm' / 2 ^ 12) ∷ []) → (rd ≡ rd') × (imm ≡ imm')
upper_told rd imm rd' imm' r i r' i' e =
    let (first, second) = two_parted (register rd) (prefixed (imm / 2 ^ 12)) (register rd') (prefixed (imm' / 2 ^ 12)) (comma_free rd r) (comma_free rd' r') e in
    let high : imm / 2 ^ 12 ≡ imm' / 2 ^ 12 = prefixed_tells (imm / 2 ^ 12) (imm' / 2 ^ 12) (omega arith) (omega arith) second in
    (register_tells rd rd' r r' first, omega arith)

jump_told : (addr rd imm rd' imm' : ℕ) → rd < 32 → imm < 2 ^ 32 → rd' < 32 → imm' < 2 ^ 32
    → after_space (register rd ∷ target addr imm ∷ []) ≡ after_space (register rd' ∷ target addr imm' ∷ []) → (rd ≡ rd') × (imm ≡ imm')
jump_told addr rd imm rd' imm' r i r' i' e =
    let (first, second) = two_parted (register rd) (target addr imm) (register rd') (target addr imm') (comma_free rd r) (comma_free rd' r') e in
    (register_tells rd rd' r r' first, target_tells addr imm imm' i i' second)

offset_told : (r imm b r' imm' b' : ℕ) → r < 32 → imm < 2 ^ 32 → b < 32 → r' < 32 → imm' < 2 ^ 32 → b' < 32
    → after_space (register r ∷ based imm b ∷ []) ≡ after_space (register r' ∷ based imm' b' ∷ []) → (r ≡ r') × (imm ≡ imm') × (b ≡ b')
offset_told r imm b r' imm' b' h i j h' i' j' e =
    let (first, second) = two_parted (register r) (based imm b) (register r') (based imm' b') (comma_free r h) (comma_free r' h') e in
    let (offset, base) = based_tells imm b imm' b' i j i' j' second in
    (register_tells r r' h h' first, offset, base)

-- two registers and a third operand
third_told : (a b : ℕ) (c : Text) (a' b' : ℕ) (c' : Text) → a < 32 → b < 32 → a' < 32 → b' < 32
    → after_space (register a ∷ register b ∷ c ∷ []) ≡ after_space (register a' ∷ register b' ∷ c' ∷ []) → (a ≡ a') × (b ≡ b') × (c ≡ c')
third_told a b c a' b' c' h i h' i' e =
    let (first, second, third) = three_parted (register a) (register b) c (register a') (register b') c' (comma_free a h) (comma_free a' h') (comma_free b i) (comma_free b' i') e in
    (register_tells a a' h h' first, register_tells b b' i i' second, third)

immediate_tells : (kind imm imm' : ℕ) → MatchBool (kind == 1 || kind == 5) (imm < 32) (IsImmediate imm 12) → MatchBool (kind == 1 || kind == 5) (imm' < 32) (IsImmediate imm' 12)
    → immediate_text kind imm ≡ immediate_text kind imm' → imm ≡ imm'
immediate_tells kind imm imm' = by (kind == 1 || kind == 5)
  where
    by : (shift : Bool) → MatchBool shift (imm < 32) (IsImmediate imm 12) → MatchBool shift (imm' < 32) (IsImmediate imm' 12)
        → (if shift then prefixed imm else signed imm) ≡ (if shift then prefixed imm' else signed imm') → imm ≡ imm'
    by true h k e = prefixed_tells imm imm' (omega arith) (omega arith) e
    by false h k e = signed_tells imm imm' (below_12 imm h) (below_12 imm' k) e

source_tells : (kind rs1 rs1' : ℕ) → rs1 < 32 → rs1' < 32 → source_text kind rs1 ≡ source_text kind rs1' → rs1 ≡ rs1'
source_tells kind rs1 rs1' h k = by (nat_lt kind 4)
  where
    by : (b : Bool) → (if b then register rs1 else decimal rs1) ≡ (if b then register rs1' else decimal rs1') → rs1 ≡ rs1'
    by true e = register_tells rs1 rs1' h k e
    by false e = decimal_injective rs1 rs1' (omega arith) (omega arith) e

csr_told : (kind rd csr rs1 rd' csr' rs1' : ℕ) → rd < 32 → csr < 2 ^ 12 → rs1 < 32 → rd' < 32 → csr' < 2 ^ 12 → rs1' < 32
    → after_space (register rd ∷ csr_text csr ∷ source_text kind rs1 ∷ []) ≡ after_space (register rd' ∷ csr_text csr' ∷ source_text kind rs1' ∷ [])
    → (rd ≡ rd') × (csr ≡ csr') × (rs1 ≡ rs1')
csr_told kind rd csr rs1 rd' csr' rs1' h i j h' i' j' e =
    let small : csr < 2 ^ 32 = omega arith in
    let small' : csr' < 2 ^ 32 = omega arith in
    let (first, second, third) = three_parted (register rd) (csr_text csr) (source_text kind rs1) (register rd') (csr_text csr') (source_text kind rs1')
    (comma_free rd h) (comma_free rd' h') (csr_lacks csr small) (csr_lacks csr' small') e in
    (register_tells rd rd' h h' first, csr_tells csr csr' small small' second, source_tells kind rs1 rs1' j j' third)

fence_told : (upper upper' : ℕ)
    → after_space (accesses (bits_of upper 7 4) ∷ accesses (bits_of upper 3 0) ∷ []) ≡ after_space (accesses (bits_of upper' 7 4) ∷ accesses (bits_of upper' 3 0) ∷ [])
    → bits_of upper 7 0 ≡ bits_of upper' 7 0
fence_told upper upper' e =
    let (first, second) = two_parted (accesses (bits_of upper 7 4)) (accesses (bits_of upper 3 0)) (accesses (bits_of upper' 7 4)) (accesses (bits_of upper' 3 0))
    (accesses_lacks (bits_of upper 7 4) (omega arith)) (accesses_lacks (bits_of upper' 7 4) (omega arith)) e in
    let high : bits_of upper 7 4 ≡ bits_of upper' 7 4 = accesses_tells (bits_of upper 7 4) (bits_of upper' 7 4) (omega arith) (omega arith) first in
    let low : bits_of upper 3 0 ≡ bits_of upper' 3 0 = accesses_tells (bits_of upper 3 0) (bits_of upper' 3 0) (omega arith) (omega arith) second in
    omega arith

-- A row of the table: its mnemonic, and that operands tell what they show of the instruction.
record Tells (insn : ℕ → Insn) (name : Text) : Type 0 where
  is_name : (word : ℕ) → mnemonic (insn word) ≡ name
  same : (addr word other : ℕ) → Fits (insn word) → Fits (insn other)
      → after_space (operands addr (insn word)) ≡ after_space (operands addr (insn other)) → what_counts (insn word) ≡ what_counts (insn other)

lui : Tells (u_format Lui) (codes "lui")
unfolding mnemonic operands
lui = record {
  is_name = λ word. refl;
  same = λ addr word other f g e.
      let (rd, imm) = upper_told (rd_of word) (u_immediate word) (rd_of other) (u_immediate other) f.0 f.1 g.0 g.1 e in cc;
}

auipc : Tells (u_format Auipc) (codes "auipc")
unfolding mnemonic operands
auipc = record {
  is_name = λ word. refl;
  same = λ addr word other f g e.
      let (rd, imm) = upper_told (rd_of word) (u_immediate word) (rd_of other) (u_immediate other) f.0 f.1 g.0 g.1 e in cc;
}

jal : Tells (j_format Jal) (codes "jal")
unfolding mnemonic operands
jal = record {
  is_name = λ word. refl;
  same = λ addr word other f g e.
      let (rd, imm) = jump_told addr (rd_of word) (j_immediate word) (rd_of other) (j_immediate other) f.0 (below_21 _ f.1.0) g.0 (below_21 _ g.1.0) e in cc;
}

jalr : Tells (i_format Jalr) (codes "jalr")
unfolding mnemonic operands
jalr = record {
  is_name = λ word. refl;
  same = λ addr word other f g e.
      let (rd, imm, rs1) = offset_told (rd_of word) (i_immediate word) (rs1_of word) (rd_of other) (i_immediate other) (rs1_of other) f.0 (below_12 (i_immediate word) f.2) f.1 g.0 (below_12 (i_immediate other) g.2) g.1 e in cc;
}

branch : (kind : ℕ) → Tells (b_format (Branch kind)) (by_funct3 branches kind)
unfolding mnemonic operands
branch kind = record {
  is_name = λ word. refl;
  same = λ addr word other f g e.
      let (rs1, rs2, third) = third_told (rs1_of word) (rs2_of word) (target addr (b_immediate word)) (rs1_of other) (rs2_of other) (target addr (b_immediate other)) f.3 f.4 g.3 g.4 e in
      let imm : b_immediate word ≡ b_immediate other = target_tells addr (b_immediate word) (b_immediate other) (below_13 (b_immediate word) f.5.0) (below_13 (b_immediate other) g.5.0) third in cc;
}

load : (kind : ℕ) → Tells (i_format (Load kind)) (by_funct3 loads kind)
unfolding mnemonic operands
load kind = record {
  is_name = λ word. refl;
  same = λ addr word other f g e.
      let (rd, imm, rs1) = offset_told (rd_of word) (i_immediate word) (rs1_of word) (rd_of other) (i_immediate other) (rs1_of other) f.2 (below_12 (i_immediate word) f.4) f.3 g.2 (below_12 (i_immediate other) g.4) g.3 e in cc;
}

store : (kind : ℕ) → Tells (s_format (Store kind)) (by_funct3 stores kind)
unfolding mnemonic operands
store kind = record {
  is_name = λ word. refl;
  same = λ addr word other f g e.
      let (rs2, imm, rs1) = offset_told (rs2_of word) (s_immediate word) (rs1_of word) (rs2_of other) (s_immediate other) (rs1_of other) f.2 (below_12 (s_immediate word) f.3) f.1 g.2 (below_12 (s_immediate other) g.3) g.1 e in cc;
}

immediate : (kind : ℕ) (alt : Bool) → Tells (i_format (OpImm kind alt)) (immediate_name kind alt)
unfolding mnemonic operands
immediate kind alt = record {
  is_name = λ word. refl;
  same = λ addr word other f g e.
      let (rd, rs1, third) = third_told (rd_of word) (rs1_of word) (immediate_text kind (i_immediate word)) (rd_of other) (rs1_of other) (immediate_text kind (i_immediate other)) f.2 f.3 g.2 g.3 e in
      let imm : i_immediate word ≡ i_immediate other = immediate_tells kind (i_immediate word) (i_immediate other) f.4 g.4 third in cc;
}

shift : (kind : ℕ) (alt : Bool) → Tells (shift_format (OpImm kind alt)) (immediate_name kind alt)
unfolding mnemonic operands
shift kind alt = record {
  is_name = λ word. refl;
  same = λ addr word other f g e.
      let (rd, rs1, third) = third_told (rd_of word) (rs1_of word) (immediate_text kind (bits_of word 24 20)) (rd_of other) (rs1_of other) (immediate_text kind (bits_of other 24 20)) f.2 f.3 g.2 g.3 e in
      let imm : bits_of word 24 20 ≡ bits_of other 24 20 = immediate_tells kind (bits_of word 24 20) (bits_of other 24 20) f.4 g.4 third in cc;
}

op : (kind : ℕ) (alt : Bool) → Tells (r_format (Op kind alt)) (register_name kind alt)
unfolding mnemonic operands
op kind alt = record {
  is_name = λ word. refl;
  same = λ addr word other f g e.
      let (rd, rs1, third) = third_told (rd_of word) (rs1_of word) (register (rs2_of word)) (rd_of other) (rs1_of other) (register (rs2_of other)) f.2 f.3 g.2 g.3 e in
      let rs2 : rs2_of word ≡ rs2_of other = register_tells (rs2_of word) (rs2_of other) f.4 g.4 third in cc;
}

product : (kind : ℕ) → Tells (r_format (MulDiv kind)) (by_funct3 products kind)
unfolding mnemonic operands
product kind = record {
  is_name = λ word. refl;
  same = λ addr word other f g e.
      let (rd, rs1, third) = third_told (rd_of word) (rs1_of word) (register (rs2_of word)) (rd_of other) (rs1_of other) (register (rs2_of other)) f.1 f.2 g.1 g.2 e in
      let rs2 : rs2_of word ≡ rs2_of other = register_tells (rs2_of word) (rs2_of other) f.3 g.3 third in cc;
}

fence : Tells (fence_format false) (codes "fence")
unfolding mnemonic operands
fence = record {
  is_name = λ word. refl;
  same = λ addr word other f g e. let sets = fence_told (upper_of word) (upper_of other) e in cc;
}

fence_i : Tells (fence_format true) (codes "fence.i")
unfolding mnemonic operands
fence_i = record { is_name = λ word. refl; same = λ addr word other f g e. refl }

alone : (insn : Insn) → Tells (no_format insn) (mnemonic insn)
alone insn = record { is_name = λ word. refl; same = λ addr word other f g e. refl }

csr : (kind : ℕ) → Tells (csr_format (Csr kind)) (by_funct3 csr_forms kind)
unfolding mnemonic operands
csr kind = record {
  is_name = λ word. refl;
  same = λ addr word other f g e.
      let (rd, address, rs1) = csr_told kind (rd_of word) (upper_of word) (rs1_of word) (rd_of other) (upper_of other) (rs1_of other) f.3 f.5 f.4 g.3 g.5 g.4 e in cc;
}

abbrev AllTell : List Row → List Text → Type 0
AllTell [] [] = Unit {0}
AllTell [] (name ∷ names) = ⊥
AllTell (r ∷ rs) [] = ⊥
AllTell (r ∷ rs) (name ∷ names) = Tells r.insn name × AllTell rs names

-- the proofs of a list of rows, one after the other
infixr 5 ◌&◌
abbrev ◌&◌ : {A B : Type 0} → A → B → A × B
a & b = (a, b)

table_tells : AllTell table (mnemonics 0)
unfolding table mnemonic branches loads stores immediate_forms register_forms products csr_forms
table_tells =
    lui & auipc & jal & jalr &
    branch 0 & branch 1 & branch 4 & branch 5 & branch 6 & branch 7 &
    load 0 & load 1 & load 2 & load 4 & load 5 &
    store 0 & store 1 & store 2 &
    immediate 0 false & immediate 2 false & immediate 3 false & immediate 4 false & immediate 6 false & immediate 7 false &
    shift 1 false & shift 5 false & shift 5 true &
    op 0 false & op 0 true & op 1 false & op 2 false & op 3 false & op 4 false & op 5 false & op 5 true & op 6 false & op 7 false &
    product 0 & product 1 & product 2 & product 3 & product 4 & product 5 & product 6 & product 7 &
    fence & fence_i & alone Ecall & alone Ebreak & alone Mret & alone Wfi &
    csr 1 & csr 2 & csr 3 & csr 5 & csr 6 & csr 7 & tt

-- what holds of each mnemonic holds of that of an instruction found
found_passes : (test : Text → Bool) (word : ℕ) (rs : List Row) (names : List Text) (insn : Insn) → AllTell rs names → all_pass test names ≡ true
    → found word rs ≡ Some insn → test (mnemonic insn) ≡ true
found_passes test word [] [] insn t h e = absurd (cc)
found_passes test word [] (name ∷ names) insn t h e = absurd t
found_passes test word (r ∷ rs) [] insn t h e = absurd t
found_passes test word (r ∷ rs) (name ∷ names) insn t h e =
    let (here, rest) = and_parts (test name) (all_pass test names) h in
    by (has_fixed word r) refl here (found_passes test word rs names insn t.1 rest)
  where
    by : (b : Bool) → has_fixed word r ≡ b → test name ≡ true → (found word rs ≡ Some insn → test (mnemonic insn) ≡ true) → test (mnemonic insn) ≡ true
    by true p here later =
        let is : insn ≡ r.insn word = let f = found-here word r rs p in cc in
        let named : mnemonic insn ≡ name = ap mnemonic is ∙ t.0.is_name word in
        rw named here
    by false p here later = later (sym (found-past word r rs p) ∙ e)

-- two instructions found in one row
same_row : (r : Row) (name : Text) (addr word other : ℕ) (i j : Insn) → Tells r.insn name → i ≡ r.insn word → j ≡ r.insn other → Fits i → Fits j
    → after_space (operands addr i) ≡ after_space (operands addr j) → what_counts i ≡ what_counts j
same_row r name addr word other i j t p q f g e =
    let first : Fits (r.insn word) = subst Fits p f in
    let second : Fits (r.insn other) = subst Fits q g in
    let texts : after_space (operands addr (r.insn word)) ≡ after_space (operands addr (r.insn other)) =
    ap (λ x. after_space (operands addr x)) (sym p) ∙ e ∙ ap (λ x. after_space (operands addr x)) q in
    ap what_counts p ∙ t.same addr word other first second texts ∙ ap what_counts (sym q)

rows_tell : (addr word other : ℕ) (i j : Insn) → Fits i → Fits j → mnemonic i ≡ mnemonic j → after_space (operands addr i) ≡ after_space (operands addr j)
    → (rs : List Row) (names : List Text) → AllTell rs names → are_apart names ≡ true → found word rs ≡ Some i → found other rs ≡ Some j → what_counts i ≡ what_counts j
rows_tell addr word other i j f g m o [] [] t h p q = absurd (cc)
rows_tell addr word other i j f g m o [] (name ∷ names) t h p q = absurd t
rows_tell addr word other i j f g m o (r ∷ rs) [] t h p q = absurd t
rows_tell addr word other i j f g m o (r ∷ rs) (name ∷ names) t h p q =
    let (new, rest) = and_parts (is_new name names) (are_apart names) h in
    by (has_fixed word r) (has_fixed other r) refl refl new (rows_tell addr word other i j f g m o rs names t.1 rest)
  where
    by : (a b : Bool) → has_fixed word r ≡ a → has_fixed other r ≡ b → is_new name names ≡ true
        → (found word rs ≡ Some i → found other rs ≡ Some j → what_counts i ≡ what_counts j) → what_counts i ≡ what_counts j
    by true true a b new later =
        let first : i ≡ r.insn word = let x = found-here word r rs a in cc in
        let second : j ≡ r.insn other = let x = found-here other r rs b in cc in
        same_row r name addr word other i j t.0 first second f g o
    by true false a b new later =
        let first : i ≡ r.insn word = let x = found-here word r rs a in cc in
        let named : name ≡ mnemonic j = sym (ap mnemonic first ∙ t.0.is_name word) ∙ m in
        absurd (differ name (mnemonic j) (found_passes (λ other. not (bytes_eq name other)) other rs names j t.1 new (sym (found-past other r rs b) ∙ q)) named)
    by false true a b new later =
        let second : j ≡ r.insn other = let x = found-here other r rs b in cc in
        let named : name ≡ mnemonic i = sym (ap mnemonic second ∙ t.0.is_name other) ∙ sym m in
        absurd (differ name (mnemonic i) (found_passes (λ other. not (bytes_eq name other)) word rs names i t.1 new (sym (found-past word r rs a) ∙ p)) named)
    by false false a b new later = later (sym (found-past word r rs a) ∙ p) (sym (found-past other r rs b) ∙ q)

decoded : (word : ℕ) → decode_of word ≡ found word table
unfolding decode_of
decoded word = refl

space_first : (texts : List Text) → begins 32 (after_space texts) ≡ true
space_first [] = refl
space_first (first ∷ rest) = refl

spaceless : all_pass (lacks 32) (mnemonics 0) ≡ true
unfolding table mnemonic branches loads stores immediate_forms register_forms products csr_forms
spaceless = refl

no_directive : is_new (codes ".word") (mnemonics 0) ≡ true
unfolding table mnemonic branches loads stores immediate_forms register_forms products csr_forms
no_directive = refl

apart : are_apart (mnemonics 0) ≡ true
unfolding table mnemonic branches loads stores immediate_forms register_forms products csr_forms
apart = refl

mnemonic_lacks : (word : ℕ) (insn : Insn) → decode_of word ≡ Some insn → lacks 32 (mnemonic insn) ≡ true
mnemonic_lacks word insn e = found_passes (lacks 32) word table (mnemonics 0) insn table_tells spaceless (sym (decoded word) ∙ e)

abbrev text_by : ℕ → ℕ → Option Insn → Text
text_by addr word None = codes ".word 0x" ++ hex 8 word
text_by addr word (Some insn) = insn_text addr insn

word_text_by : (addr word : ℕ) (o : Option Insn) → decode_of word ≡ o → word_text addr word ≡ text_by addr word o
unfolding word_text
word_text_by addr word None e = ap (λ x. option_map_or (insn_text addr) x (codes ".word 0x" ++ hex 8 word)) e
word_text_by addr word (Some insn) e = ap (λ x. option_map_or (insn_text addr) x (codes ".word 0x" ++ hex 8 word)) e

number_is_no_insn : (addr word other : ℕ) (insn : Insn) → decode_of word ≡ Some insn → insn_text addr insn ≡ codes ".word 0x" ++ hex 8 other → ⊥
number_is_no_insn addr word other insn e same =
    let split = parted 32 (mnemonic insn) (codes ".word") (after_space (operands addr insn)) (codes " 0x" ++ hex 8 other)
    (mnemonic_lacks word insn e) refl (space_first (operands addr insn)) refl same in
    differ (codes ".word") (mnemonic insn)
    (found_passes (λ other. not (bytes_eq (codes ".word") other)) word table (mnemonics 0) insn table_tells no_directive (sym (decoded word) ∙ e)) (sym split.0)

insns_told : (addr word other : ℕ) (i j : Insn) → word < 2 ^ 32 → other < 2 ^ 32 → decode_of word ≡ Some i → decode_of other ≡ Some j
    → insn_text addr i ≡ insn_text addr j → what_counts i ≡ what_counts j
insns_told addr word other i j h k e f same =
    let (names, texts) = parted 32 (mnemonic i) (mnemonic j) (after_space (operands addr i)) (after_space (operands addr j))
    (mnemonic_lacks word i e) (mnemonic_lacks other j f) (space_first (operands addr i)) (space_first (operands addr j)) same in
    rows_tell addr word other i j (decoded_fits word i h e) (decoded_fits other j k f) names texts table (mnemonics 0) table_tells apart
    (sym (decoded word) ∙ e) (sym (decoded other) ∙ f)

told_by : (addr word other : ℕ) → word < 2 ^ 32 → other < 2 ^ 32 → (o p : Option Insn) → decode_of word ≡ o → decode_of other ≡ p
    → text_by addr word o ≡ text_by addr other p → option_map what_counts o ≡ option_map what_counts p
told_by addr word other h k None None e f same = refl
told_by addr word other h k None (Some j) e f same = absurd (number_is_no_insn addr other word j f (sym same))
told_by addr word other h k (Some i) None e f same = absurd (number_is_no_insn addr word other i e same)
told_by addr word other h k (Some i) (Some j) e f same = ap Some (insns_told addr word other i j h k e f same)

pub instruction_told : (addr word other : ℕ) → word < 2 ^ 32 → other < 2 ^ 32 → word_text addr word ≡ word_text addr other
    → option_map what_counts (decode_of word) ≡ option_map what_counts (decode_of other)
instruction_told addr word other h k same =
    told_by addr word other h k (decode_of word) (decode_of other) refl refl
    (sym (word_text_by addr word (decode_of word) refl) ∙ same ∙ word_text_by addr other (decode_of other) refl)

number_by : (addr word other : ℕ) → word < 2 ^ 32 → other < 2 ^ 32 → (p : Option Insn) → decode_of other ≡ p
    → codes ".word 0x" ++ hex 8 word ≡ text_by addr other p → word ≡ other
number_by addr word other h k None f same =
    let figures : hex 8 word ≡ hex 8 other = cc in
    hex_tells 8 word other h k (omega arith) figures
number_by addr word other h k (Some j) f same = absurd (number_is_no_insn addr other word j f (sym same))

pub number_told : (addr word other : ℕ) → word < 2 ^ 32 → other < 2 ^ 32 → word_text addr word ≡ word_text addr other → decode_of word ≡ None → word ≡ other
number_told addr word other h k same none =
    number_by addr word other h k (decode_of other) refl
    (sym (word_text_by addr word None none) ∙ same ∙ word_text_by addr other (decode_of other) refl)
