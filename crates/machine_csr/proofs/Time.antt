-- An instruction that isn't a time read answers the same at each time.
use Rattle.std.proofs.Common.{◌≡◌, ℕ, false, refl, Option, Some, None, arith}
use Rattle.rv_decode.specs.declared.insn.Insn.{Insn}
use Rattle.rv_decode.specs.declared.insn.Insn.TheVariants.{Csr}
use Rattle.machine_csr.specs.declared.csrs.Csrs.{Csrs}
use Rattle.machine_csr.specs.Csr.{Row, Shown, state, clock, shown, is_clock, read_by, shows_time, row_at, does_read, value_read, write_made, csr_access, reads_time_of, IsTimeless}

module _ (csrs : Csrs) (time cmp later cmp' : ℕ) where
  shown_later : (s : Shown) → is_clock s ≡ false → shown s csrs time cmp ≡ shown s csrs later cmp'
  shown_later (state f) untimed = refl
  shown_later (clock f) untimed = cc

  read_later : (r : Option Row) → shows_time r ≡ false → read_by r csrs time cmp ≡ read_by r csrs later cmp'
  read_later None untimed = refl
  read_later (Some r) untimed = shown_later r.shows untimed

  -- an instruction that doesn't read makes nothing of the value before
  value_unread : (kind rd old new : ℕ) → does_read kind rd ≡ false → value_read kind rd old ≡ value_read kind rd new
  value_unread kind rd old new unread = grind arith

  write_unread : (kind rd rs1 csr old new a : ℕ) → does_read kind rd ≡ false → write_made kind rs1 csr old a ≡ write_made kind rs1 csr new a
  write_unread kind rd rs1 csr old new a unread = grind arith

  pub csr_access-later : (insn : Insn) (a : ℕ) → reads_time_of insn ≡ false → csr_access csrs insn a time cmp ≡ csr_access csrs insn a later cmp'
  unfolding csr_access reads_time_of
  csr_access-later (Csr kind rd rs1 csr) a untimed = grind (arith, read_later (row_at csr), value_unread kind rd, write_unread kind rd rs1 csr)
  csr_access-later insn a untimed = refl

pub timeless : (insn : Insn) → reads_time_of insn ≡ false → IsTimeless insn
timeless insn untimed csrs a time cmp later cmp' = csr_access-later csrs time cmp later cmp' insn a untimed
