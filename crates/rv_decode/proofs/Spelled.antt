-- An instruction fits exactly where some word is decoded to it.
use Rattle.std.proofs.Common.{◌^◌, ◌<◌, true, false, lit<, arith}
use Rattle.rv_decode.specs.declared.insn.Insn.{Insn}
use Rattle.rv_decode.specs.declared.insn.Insn.TheVariants.{Lui, Auipc, Jal, Jalr, Branch, Load, Store, OpImm, Op, MulDiv, Fence, Ecall, Ebreak, Mret, Wfi, Csr}
use Rattle.rv_decode.specs.Encode.{encode_of}
use Rattle.rv_decode.specs.Fits.{Fits, HasWord}
use Rattle.rv_decode.proofs.RoundTrip.{encoded_decoded}
use Rattle.rv_decode.proofs.Kept.{decoded_kept}

encode_of-below : (insn : Insn) → Fits insn → encode_of insn < 2 ^ 32
unfolding encode_of
encode_of-below (Lui rd imm) h = omega arith
encode_of-below (Auipc rd imm) h = omega arith
encode_of-below (Jal rd imm) h = omega arith
encode_of-below (Jalr rd rs1 imm) h = omega arith
encode_of-below (Branch kind rs1 rs2 imm) h = omega arith
encode_of-below (Load kind rd rs1 imm) h = omega arith
encode_of-below (Store kind rs1 rs2 imm) h = omega arith
encode_of-below (OpImm kind false rd rs1 imm) h = omega arith
encode_of-below (OpImm kind true rd rs1 imm) h = grind arith
encode_of-below (Op kind false rd rs1 rs2) h = omega arith
encode_of-below (Op kind true rd rs1 rs2) h = omega arith
encode_of-below (MulDiv kind rd rs1 rs2) h = omega arith
encode_of-below (Fence rd rs1 upper false) h = omega arith
encode_of-below (Fence rd rs1 upper true) h = omega arith
encode_of-below Ecall h = lit< tt
encode_of-below Ebreak h = lit< tt
encode_of-below Mret h = lit< tt
encode_of-below Wfi h = lit< tt
encode_of-below (Csr kind rd rs1 csr) h = omega arith

pub fits_spelled : (insn : Insn) → Fits insn → HasWord insn
fits_spelled insn h = (encode_of insn, encode_of-below insn h, encoded_decoded insn h)

pub spelled_fits : (insn : Insn) → HasWord insn → Fits insn
spelled_fits insn h = (decoded_kept h.0 insn h.1 h.2).fits
