use Rattle.std.proofs.Common.{ℕ, ◌-◌, ◌≤◌, Some, get_or, ap, sym, ◌∙◌, arith}
use Rattle.func_model.specs.declared.side.Arch.{Arch}
use Rattle.func_model.specs.Position.{found}
use Rattle.gdb_session.proofs.Narrow.{too_wide}
use Rattle.gdb_session.proofs.Numbered.{at_csr, at_general, no_csr, register_is}
use Rattle.gdb_session.proofs.registers.register.Goals as goal

pub returns-in_err-ok : goal.returns-in_err-ok
returns-in_err-ok g c = record {
  value = λ s h.
      let csr : ℕ = c.args.number - 65 in
      let wide : 65536 ≤ csr = too_wide c.try_from.result csr 65536 c.try_from.ensures c.in_err-ok.ensures.value in
      let none = no_csr s c.args.debugger.now.at csr (omega (arith, wide)) in
      c.from_residual.ensures ∙ sym (at_csr s c.args.debugger.now.at c.args.number c.if-number-ge-FIRST_CSR.true ∙ none);
}

pub returns-then-number-lt-PC : goal.returns-then-number-lt-PC
returns-then-number-lt-PC g c = record {
  value = λ s h.
      let at : ℕ = c.args.debugger.now.at in
      ap (λ (a : Arch). Some (get_or a.regs c.args.number 0)) (c.found.ensures.found s h)
      ∙ ap Some (register_is (found s at).regs c.args.number c.if-number-lt-PC.true)
      ∙ sym (at_general s at c.args.number c.if-number-lt-PC.true);
}
