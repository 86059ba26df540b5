-- An encoded instruction is decoded as itself.
use Rattle.std.proofs.Common.{◌≡◌, ◌≢◌, ◌∙◌, ap, sym, subst, ℕ, ◌+◌, ◌*◌, ◌%◌, ◌^◌, ◌<◌, Some, true, false, ◌⊎◌, ◌==◌, ◌||◌, refl, arith, ⊎_elim}
use Rattle.std.proofs.Math.Logic.{⊎_map}
use Rattle.std.proofs.lemmas.Bool.{ne_eqb, eqb-true, or_cases, cases_Bool, MatchBool-at_true, MatchBool-at_false}
use Rattle.fsim_base.specs.Number.{bits_of, sign_extended}
use Rattle.rv_decode.specs.declared.insn.Insn.{Insn}
use Rattle.rv_decode.specs.declared.insn.Insn.TheVariants.{Lui, Auipc, Jal, Jalr, Branch, Load, Store, OpImm, Op, MulDiv, Fence, Ecall, Ebreak, Mret, Wfi, Csr}
use Rattle.rv_decode.specs.Table.{table, r_format, i_format, s_format, b_format, u_format, j_format, csr_format, fence_format, shift_format}
use Rattle.rv_decode.specs.Field.{rd_of, rs1_of, rs2_of, upper_of, i_immediate, s_immediate, b_immediate, u_immediate, j_immediate}
use Rattle.rv_decode.specs.Decode.{decode_of}
use Rattle.rv_decode.specs.Encode.{encode_of, r_word, i_word, s_word, b_word, u_word, j_word}
use Rattle.rv_decode.specs.Fits.{Fits}

-- what a word of each group of rows is decoded as

decode_of-lui : (w : ℕ) → bits_of w 6 0 ≡ 0x37 → decode_of w ≡ Some (u_format Lui w)
unfolding decode_of table
decode_of-lui w o = grind arith

decode_of-auipc : (w : ℕ) → bits_of w 6 0 ≡ 0x17 → decode_of w ≡ Some (u_format Auipc w)
unfolding decode_of table
decode_of-auipc w o = grind arith

decode_of-jal : (w : ℕ) → bits_of w 6 0 ≡ 0x6f → decode_of w ≡ Some (j_format Jal w)
unfolding decode_of table
decode_of-jal w o = grind arith

decode_of-jalr : (w : ℕ) → bits_of w 6 0 ≡ 0x67 → bits_of w 14 12 ≡ 0 → decode_of w ≡ Some (i_format Jalr w)
unfolding decode_of table
decode_of-jalr w o f = grind arith

decode_of-branch : (w : ℕ) → bits_of w 6 0 ≡ 0x63 → bits_of w 14 12 ≢ 2 → bits_of w 14 12 ≢ 3 → decode_of w ≡ Some (b_format (Branch (bits_of w 14 12)) w)
unfolding decode_of table
decode_of-branch w o f2 f3 = grind arith

decode_of-load : (w : ℕ) → bits_of w 6 0 ≡ 0x03 → bits_of w 14 12 < 6 → bits_of w 14 12 ≢ 3 → decode_of w ≡ Some (i_format (Load (bits_of w 14 12)) w)
unfolding decode_of table
decode_of-load w o f f3 = grind arith

decode_of-store : (w : ℕ) → bits_of w 6 0 ≡ 0x23 → bits_of w 14 12 < 3 → decode_of w ≡ Some (s_format (Store (bits_of w 14 12)) w)
unfolding decode_of table
decode_of-store w o f = grind arith

decode_of-op_imm : (w : ℕ) → bits_of w 6 0 ≡ 0x13 → bits_of w 14 12 ≢ 1 → bits_of w 14 12 ≢ 5 → decode_of w ≡ Some (i_format (OpImm (bits_of w 14 12) false) w)
unfolding decode_of table
decode_of-op_imm w o f1 f5 = grind arith

decode_of-shift : (w : ℕ) → bits_of w 6 0 ≡ 0x13 → (bits_of w 14 12 ≡ 1) ⊎ (bits_of w 14 12 ≡ 5) → bits_of w 31 25 ≡ 0x00 → decode_of w ≡ Some (shift_format (OpImm (bits_of w 14 12) false) w)
unfolding decode_of table
decode_of-shift w o f s = grind arith

decode_of-srai : (w : ℕ) → bits_of w 6 0 ≡ 0x13 → bits_of w 14 12 ≡ 5 → bits_of w 31 25 ≡ 0x20 → decode_of w ≡ Some (shift_format (OpImm 5 true) w)
unfolding decode_of table
decode_of-srai w o f s = grind arith

decode_of-op : (w : ℕ) → bits_of w 6 0 ≡ 0x33 → bits_of w 31 25 ≡ 0x00 → decode_of w ≡ Some (r_format (Op (bits_of w 14 12) false) w)
unfolding decode_of table
decode_of-op w o s = grind arith

decode_of-op_alt : (w : ℕ) → bits_of w 6 0 ≡ 0x33 → (bits_of w 14 12 ≡ 0) ⊎ (bits_of w 14 12 ≡ 5) → bits_of w 31 25 ≡ 0x20 → decode_of w ≡ Some (r_format (Op (bits_of w 14 12) true) w)
unfolding decode_of table
decode_of-op_alt w o f s = grind arith

decode_of-mul_div : (w : ℕ) → bits_of w 6 0 ≡ 0x33 → bits_of w 31 25 ≡ 0x01 → decode_of w ≡ Some (r_format (MulDiv (bits_of w 14 12)) w)
unfolding decode_of table
decode_of-mul_div w o s = grind arith

decode_of-fence : (w : ℕ) → bits_of w 6 0 ≡ 0x0f → bits_of w 14 12 ≡ 0 → decode_of w ≡ Some (fence_format false w)
unfolding decode_of table
decode_of-fence w o f = grind arith

decode_of-fence_i : (w : ℕ) → bits_of w 6 0 ≡ 0x0f → bits_of w 14 12 ≡ 1 → decode_of w ≡ Some (fence_format true w)
unfolding decode_of table
decode_of-fence_i w o f = grind arith

-- a word with another funct3 than 0 is none of the four whole words
not_whole : (w v : ℕ) → bits_of w 14 12 ≢ 0 → bits_of v 14 12 ≡ 0 → v < 2 ^ 32 → (bits_of w 31 0 == v) ≡ false
not_whole w v f z below = ne_eqb (bits_of w 31 0) v (λ e. f (omega arith))

decode_of-csr : (w : ℕ) → bits_of w 6 0 ≡ 0x73 → bits_of w 14 12 ≢ 0 → bits_of w 14 12 ≢ 4 → decode_of w ≡ Some (csr_format (Csr (bits_of w 14 12)) w)
unfolding decode_of table
decode_of-csr w o f0 f4 =
    let ecall = not_whole w 0x00000073 f0 refl (omega arith) in
    let ebreak = not_whole w 0x00100073 f0 refl (omega arith) in
    let mret = not_whole w 0x30200073 f0 refl (omega arith) in
    let wfi = not_whole w 0x10500073 f0 refl (omega arith) in
    rw (ecall, ebreak, mret, wfi) (grind arith)

-- the fields of a word that is made of fields

b_immediate-b_word : (o kind rs1 rs2 imm : ℕ) → o < 128 → kind < 8 → rs1 < 32 → rs2 < 32 → imm % 2 ≡ 0 → b_immediate (b_word o kind rs1 rs2 imm) ≡ sign_extended imm 13
b_immediate-b_word o kind rs1 rs2 imm ho hk h1 h2 even =
    let w : ℕ = b_word o kind rs1 rs2 imm in
    let e : bits_of w 31 31 * 2 ^ 12 + bits_of w 7 7 * 2 ^ 11 + bits_of w 30 25 * 2 ^ 5 + bits_of w 11 8 * 2 ≡ imm % 2 ^ 13 = omega arith in
    grind arith

j_immediate-j_word : (o rd imm : ℕ) → o < 128 → rd < 32 → imm % 2 ≡ 0 → j_immediate (j_word o rd imm) ≡ sign_extended imm 21
j_immediate-j_word o rd imm ho h1 even =
    let w : ℕ = j_word o rd imm in
    let e : bits_of w 31 31 * 2 ^ 20 + bits_of w 19 12 * 2 ^ 12 + bits_of w 20 20 * 2 ^ 11 + bits_of w 30 21 * 2 ≡ imm % 2 ^ 21 = omega arith in
    grind arith

s_immediate-s_word : (o kind rs1 rs2 imm : ℕ) → o < 128 → kind < 8 → rs1 < 32 → rs2 < 32 → s_immediate (s_word o kind rs1 rs2 imm) ≡ sign_extended imm 12
s_immediate-s_word o kind rs1 rs2 imm ho hk h1 h2 =
    let w : ℕ = s_word o kind rs1 rs2 imm in
    let e : bits_of w 31 25 * 2 ^ 5 + bits_of w 11 7 ≡ imm % 2 ^ 12 = omega arith in
    grind arith

i_immediate-i_word : (o rd kind rs1 imm : ℕ) → o < 128 → rd < 32 → kind < 8 → rs1 < 32 → i_immediate (i_word o rd kind rs1 (bits_of imm 11 0)) ≡ sign_extended imm 12
i_immediate-i_word o rd kind rs1 imm ho hd hk h1 =
    let w : ℕ = i_word o rd kind rs1 (bits_of imm 11 0) in
    let e : bits_of w 31 20 ≡ imm % 2 ^ 12 = omega arith in
    grind arith

decode-lui : (rd imm : ℕ) → Fits (Lui rd imm) → decode_of (u_word 0x37 rd imm) ≡ Some (Lui rd imm)
decode-lui rd imm h =
    let w : ℕ = u_word 0x37 rd imm in
    let o : bits_of w 6 0 ≡ 0x37 = omega arith in
    let d : rd_of w ≡ rd = omega arith in
    let m : u_immediate w ≡ imm = omega arith in
    decode_of-lui w o ∙ (λ i. Some (Lui (d i) (m i)))

decode-auipc : (rd imm : ℕ) → Fits (Auipc rd imm) → decode_of (u_word 0x17 rd imm) ≡ Some (Auipc rd imm)
decode-auipc rd imm h =
    let w : ℕ = u_word 0x17 rd imm in
    let o : bits_of w 6 0 ≡ 0x17 = omega arith in
    let d : rd_of w ≡ rd = omega arith in
    let m : u_immediate w ≡ imm = omega arith in
    decode_of-auipc w o ∙ (λ i. Some (Auipc (d i) (m i)))

decode-jal : (rd imm : ℕ) → Fits (Jal rd imm) → decode_of (j_word 0x6f rd imm) ≡ Some (Jal rd imm)
decode-jal rd imm h =
    let w : ℕ = j_word 0x6f rd imm in
    let o : bits_of w 6 0 ≡ 0x6f = omega arith in
    let d : rd_of w ≡ rd = omega arith in
    let m : j_immediate w ≡ imm = j_immediate-j_word 0x6f rd imm (omega arith) (omega arith) (omega arith) ∙ h.1.0 in
    decode_of-jal w o ∙ (λ i. Some (Jal (d i) (m i)))

decode-jalr : (rd rs1 imm : ℕ) → Fits (Jalr rd rs1 imm) → decode_of (i_word 0x67 rd 0 rs1 (bits_of imm 11 0)) ≡ Some (Jalr rd rs1 imm)
decode-jalr rd rs1 imm h =
    let w : ℕ = i_word 0x67 rd 0 rs1 (bits_of imm 11 0) in
    let o : bits_of w 6 0 ≡ 0x67 = omega arith in
    let k : bits_of w 14 12 ≡ 0 = omega arith in
    let d : rd_of w ≡ rd = omega arith in
    let s : rs1_of w ≡ rs1 = omega arith in
    let m : i_immediate w ≡ imm = i_immediate-i_word 0x67 rd 0 rs1 imm (omega arith) (omega arith) (omega arith) (omega arith) ∙ h.2 in
    decode_of-jalr w o k ∙ (λ i. Some (Jalr (d i) (s i) (m i)))

decode-branch : (kind rs1 rs2 imm : ℕ) → Fits (Branch kind rs1 rs2 imm) → decode_of (b_word 0x63 kind rs1 rs2 imm) ≡ Some (Branch kind rs1 rs2 imm)
decode-branch kind rs1 rs2 imm h =
    let w : ℕ = b_word 0x63 kind rs1 rs2 imm in
    let o : bits_of w 6 0 ≡ 0x63 = omega arith in
    let k : bits_of w 14 12 ≡ kind = omega arith in
    let s : rs1_of w ≡ rs1 = omega arith in
    let t : rs2_of w ≡ rs2 = omega arith in
    let m : b_immediate w ≡ imm = b_immediate-b_word 0x63 kind rs1 rs2 imm (omega arith) (omega arith) (omega arith) (omega arith) (omega arith) ∙ h.5.0 in
    decode_of-branch w o (omega arith) (omega arith) ∙ (λ i. Some (Branch (k i) (s i) (t i) (m i)))

decode-load : (kind rd rs1 imm : ℕ) → Fits (Load kind rd rs1 imm) → decode_of (i_word 0x03 rd kind rs1 (bits_of imm 11 0)) ≡ Some (Load kind rd rs1 imm)
decode-load kind rd rs1 imm h =
    let w : ℕ = i_word 0x03 rd kind rs1 (bits_of imm 11 0) in
    let o : bits_of w 6 0 ≡ 0x03 = omega arith in
    let k : bits_of w 14 12 ≡ kind = omega arith in
    let d : rd_of w ≡ rd = omega arith in
    let s : rs1_of w ≡ rs1 = omega arith in
    let m : i_immediate w ≡ imm = i_immediate-i_word 0x03 rd kind rs1 imm (omega arith) (omega arith) (omega arith) (omega arith) ∙ h.4 in
    decode_of-load w o (omega arith) (omega arith) ∙ (λ i. Some (Load (k i) (d i) (s i) (m i)))

decode-store : (kind rs1 rs2 imm : ℕ) → Fits (Store kind rs1 rs2 imm) → decode_of (s_word 0x23 kind rs1 rs2 imm) ≡ Some (Store kind rs1 rs2 imm)
decode-store kind rs1 rs2 imm h =
    let w : ℕ = s_word 0x23 kind rs1 rs2 imm in
    let o : bits_of w 6 0 ≡ 0x23 = omega arith in
    let k : bits_of w 14 12 ≡ kind = omega arith in
    let s : rs1_of w ≡ rs1 = omega arith in
    let t : rs2_of w ≡ rs2 = omega arith in
    let m : s_immediate w ≡ imm = s_immediate-s_word 0x23 kind rs1 rs2 imm (omega arith) (omega arith) (omega arith) (omega arith) ∙ h.3 in
    decode_of-store w o (omega arith) ∙ (λ i. Some (Store (k i) (s i) (t i) (m i)))

decode-op_imm : (kind rd rs1 imm : ℕ) → kind < 8 → kind ≢ 1 → kind ≢ 5 → rd < 32 → rs1 < 32 → sign_extended imm 12 ≡ imm
    → decode_of (i_word 0x13 rd kind rs1 (bits_of imm 11 0)) ≡ Some (OpImm kind false rd rs1 imm)
decode-op_imm kind rd rs1 imm h k1 k5 hd hs hm =
    let w : ℕ = i_word 0x13 rd kind rs1 (bits_of imm 11 0) in
    let o : bits_of w 6 0 ≡ 0x13 = omega arith in
    let k : bits_of w 14 12 ≡ kind = omega arith in
    let d : rd_of w ≡ rd = omega arith in
    let s : rs1_of w ≡ rs1 = omega arith in
    let m : i_immediate w ≡ imm = i_immediate-i_word 0x13 rd kind rs1 imm (omega arith) hd h hs ∙ hm in
    decode_of-op_imm w o (omega arith) (omega arith) ∙ (λ i. Some (OpImm (k i) false (d i) (s i) (m i)))

decode-shift : (kind rd rs1 imm : ℕ) → (kind ≡ 1) ⊎ (kind ≡ 5) → rd < 32 → rs1 < 32 → imm < 32
    → decode_of (i_word 0x13 rd kind rs1 (bits_of imm 11 0)) ≡ Some (OpImm kind false rd rs1 imm)
decode-shift kind rd rs1 imm shift hd hs hm =
    let w : ℕ = i_word 0x13 rd kind rs1 (bits_of imm 11 0) in
    let h : kind < 8 = ⊎_elim (λ e. omega arith) (λ e. omega arith) shift in
    let o : bits_of w 6 0 ≡ 0x13 = omega arith in
    let k : bits_of w 14 12 ≡ kind = omega arith in
    let f : bits_of w 31 25 ≡ 0x00 = omega arith in
    let d : rd_of w ≡ rd = omega arith in
    let s : rs1_of w ≡ rs1 = omega arith in
    let m : bits_of w 24 20 ≡ imm = omega arith in
    decode_of-shift w o (⊎_map (λ e. k ∙ e) (λ e. k ∙ e) shift) f ∙ (λ i. Some (OpImm (k i) false (d i) (s i) (m i)))

decode-register_immediate : (kind rd rs1 imm : ℕ) → Fits (OpImm kind false rd rs1 imm)
    → decode_of (i_word 0x13 rd kind rs1 (bits_of imm 11 0)) ≡ Some (OpImm kind false rd rs1 imm)
decode-register_immediate kind rd rs1 imm h =
    let shift = (kind == 1) || (kind == 5) in
    ⊎_elim
    (λ e. decode-shift kind rd rs1 imm (⊎_map (eqb-true kind 1) (eqb-true kind 5) (or_cases (kind == 1) (kind == 5) e)) h.2 h.3
    (MatchBool-at_true (imm < 32) (sign_extended imm 12 ≡ imm) e h.4))
    (λ e. let kinds : (kind ≢ 1) × (kind ≢ 5) = grind arith in
    decode-op_imm kind rd rs1 imm h.0 kinds.0 kinds.1 h.2 h.3 (MatchBool-at_false (imm < 32) (sign_extended imm 12 ≡ imm) e h.4))
    (cases_Bool shift)

decode-srai : (rd rs1 imm : ℕ) → rd < 32 → rs1 < 32 → imm < 32
    → decode_of (r_word 0x13 rd 5 rs1 imm 0x20) ≡ Some (OpImm 5 true rd rs1 imm)
decode-srai rd rs1 imm hd hs hm =
    let w : ℕ = r_word 0x13 rd 5 rs1 imm 0x20 in
    let o : bits_of w 6 0 ≡ 0x13 = omega arith in
    let k : bits_of w 14 12 ≡ 5 = omega arith in
    let f : bits_of w 31 25 ≡ 0x20 = omega arith in
    let d : rd_of w ≡ rd = omega arith in
    let s : rs1_of w ≡ rs1 = omega arith in
    let m : bits_of w 24 20 ≡ imm = omega arith in
    decode_of-srai w o k f ∙ (λ i. Some (OpImm 5 true (d i) (s i) (m i)))

decode-op : (kind rd rs1 rs2 : ℕ) → kind < 8 → rd < 32 → rs1 < 32 → rs2 < 32
    → decode_of (r_word 0x33 rd kind rs1 rs2 0x00) ≡ Some (Op kind false rd rs1 rs2)
decode-op kind rd rs1 rs2 h hd hs ht =
    let w : ℕ = r_word 0x33 rd kind rs1 rs2 0x00 in
    let o : bits_of w 6 0 ≡ 0x33 = omega arith in
    let k : bits_of w 14 12 ≡ kind = omega arith in
    let f : bits_of w 31 25 ≡ 0x00 = omega arith in
    let d : rd_of w ≡ rd = omega arith in
    let s : rs1_of w ≡ rs1 = omega arith in
    let t : rs2_of w ≡ rs2 = omega arith in
    decode_of-op w o f ∙ (λ i. Some (Op (k i) false (d i) (s i) (t i)))

decode-op_alt : (kind rd rs1 rs2 : ℕ) → (kind ≡ 0) ⊎ (kind ≡ 5) → rd < 32 → rs1 < 32 → rs2 < 32
    → decode_of (r_word 0x33 rd kind rs1 rs2 0x20) ≡ Some (Op kind true rd rs1 rs2)
decode-op_alt kind rd rs1 rs2 alt hd hs ht =
    let w : ℕ = r_word 0x33 rd kind rs1 rs2 0x20 in
    let h : kind < 8 = ⊎_elim (λ e. omega arith) (λ e. omega arith) alt in
    let o : bits_of w 6 0 ≡ 0x33 = omega arith in
    let k : bits_of w 14 12 ≡ kind = omega arith in
    let f : bits_of w 31 25 ≡ 0x20 = omega arith in
    let d : rd_of w ≡ rd = omega arith in
    let s : rs1_of w ≡ rs1 = omega arith in
    let t : rs2_of w ≡ rs2 = omega arith in
    decode_of-op_alt w o (⊎_map (λ e. k ∙ e) (λ e. k ∙ e) alt) f ∙ (λ i. Some (Op (k i) true (d i) (s i) (t i)))

decode-mul_div : (kind rd rs1 rs2 : ℕ) → Fits (MulDiv kind rd rs1 rs2) → decode_of (r_word 0x33 rd kind rs1 rs2 0x01) ≡ Some (MulDiv kind rd rs1 rs2)
decode-mul_div kind rd rs1 rs2 h =
    let w : ℕ = r_word 0x33 rd kind rs1 rs2 0x01 in
    let o : bits_of w 6 0 ≡ 0x33 = omega arith in
    let k : bits_of w 14 12 ≡ kind = omega arith in
    let f : bits_of w 31 25 ≡ 0x01 = omega arith in
    let d : rd_of w ≡ rd = omega arith in
    let s : rs1_of w ≡ rs1 = omega arith in
    let t : rs2_of w ≡ rs2 = omega arith in
    decode_of-mul_div w o f ∙ (λ i. Some (MulDiv (k i) (d i) (s i) (t i)))

decode-fence : (rd rs1 upper : ℕ) → Fits (Fence rd rs1 upper false) → decode_of (i_word 0x0f rd 0 rs1 upper) ≡ Some (Fence rd rs1 upper false)
decode-fence rd rs1 upper h =
    let w : ℕ = i_word 0x0f rd 0 rs1 upper in
    let o : bits_of w 6 0 ≡ 0x0f = omega arith in
    let k : bits_of w 14 12 ≡ 0 = omega arith in
    let d : rd_of w ≡ rd = omega arith in
    let s : rs1_of w ≡ rs1 = omega arith in
    let u : upper_of w ≡ upper = omega arith in
    decode_of-fence w o k ∙ (λ i. Some (Fence (d i) (s i) (u i) false))

decode-fence_i : (rd rs1 upper : ℕ) → Fits (Fence rd rs1 upper true) → decode_of (i_word 0x0f rd 1 rs1 upper) ≡ Some (Fence rd rs1 upper true)
decode-fence_i rd rs1 upper h =
    let w : ℕ = i_word 0x0f rd 1 rs1 upper in
    let o : bits_of w 6 0 ≡ 0x0f = omega arith in
    let k : bits_of w 14 12 ≡ 1 = omega arith in
    let d : rd_of w ≡ rd = omega arith in
    let s : rs1_of w ≡ rs1 = omega arith in
    let u : upper_of w ≡ upper = omega arith in
    decode_of-fence_i w o k ∙ (λ i. Some (Fence (d i) (s i) (u i) true))

decode-csr : (kind rd rs1 csr : ℕ) → Fits (Csr kind rd rs1 csr) → decode_of (i_word 0x73 rd kind rs1 csr) ≡ Some (Csr kind rd rs1 csr)
decode-csr kind rd rs1 csr h =
    let w : ℕ = i_word 0x73 rd kind rs1 csr in
    let o : bits_of w 6 0 ≡ 0x73 = omega arith in
    let k : bits_of w 14 12 ≡ kind = omega arith in
    let d : rd_of w ≡ rd = omega arith in
    let s : rs1_of w ≡ rs1 = omega arith in
    let u : upper_of w ≡ csr = omega arith in
    decode_of-csr w o (omega arith) (omega arith) ∙ (λ i. Some (Csr (k i) (d i) (s i) (u i)))

pub encoded_decoded : (insn : Insn) → Fits insn → decode_of (encode_of insn) ≡ Some insn
unfolding encode_of decode_of table
encoded_decoded (Lui rd imm) h = decode-lui rd imm h
encoded_decoded (Auipc rd imm) h = decode-auipc rd imm h
encoded_decoded (Jal rd imm) h = decode-jal rd imm h
encoded_decoded (Jalr rd rs1 imm) h = decode-jalr rd rs1 imm h
encoded_decoded (Branch kind rs1 rs2 imm) h = decode-branch kind rs1 rs2 imm h
encoded_decoded (Load kind rd rs1 imm) h = decode-load kind rd rs1 imm h
encoded_decoded (Store kind rs1 rs2 imm) h = decode-store kind rs1 rs2 imm h
encoded_decoded (OpImm kind false rd rs1 imm) h =
    decode-register_immediate kind rd rs1 imm h
encoded_decoded (OpImm kind true rd rs1 imm) h =
    subst (λ k. decode_of (r_word 0x13 rd k rs1 imm 0x20) ≡ Some (OpImm k true rd rs1 imm)) (sym h.1)
    (decode-srai rd rs1 imm h.2 h.3 (MatchBool-at_true (imm < 32) (sign_extended imm 12 ≡ imm) (ap (λ k. (k == 1) || (k == 5)) h.1) h.4))
encoded_decoded (Op kind false rd rs1 rs2) h = decode-op kind rd rs1 rs2 h.0 h.2 h.3 h.4
encoded_decoded (Op kind true rd rs1 rs2) h = decode-op_alt kind rd rs1 rs2 h.1 h.2 h.3 h.4
encoded_decoded (MulDiv kind rd rs1 rs2) h = decode-mul_div kind rd rs1 rs2 h
encoded_decoded (Fence rd rs1 upper false) h = decode-fence rd rs1 upper h
encoded_decoded (Fence rd rs1 upper true) h = decode-fence_i rd rs1 upper h
encoded_decoded Ecall h = refl
encoded_decoded Ebreak h = refl
encoded_decoded Mret h = refl
encoded_decoded Wfi h = refl
encoded_decoded (Csr kind rd rs1 csr) h = decode-csr kind rd rs1 csr h
