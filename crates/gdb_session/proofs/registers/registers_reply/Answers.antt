use Rattle.std.proofs.Common.{◌≡◌, ℕ, get_or, ap, ◌∙◌, arith}
use Rattle.func_model.specs.declared.side.Arch.{Arch}
use Rattle.gdb_session.proofs.Numbered.{registers_all, registers_more}
use Rattle.gdb_session.proofs.registers.registers_reply.Goals as goal

pub loop-value-preserved : goal.loop-value-preserved
loop-value-preserved g c = record {
  text = λ s h.
      let at : ℕ = c.args.debugger.now.at in
      let place : ℕ = c.loop-value.value-index in
      c.little.ensures.content
      ∙ registers_more s at place (get_or c.found-found.result.regs place 0) c.loop-value.reply c.loop-value-test.true
      (c.loop-value.invariant.text s h) (ap (λ (a : Arch). get_or a.regs place 0) (c.found-found.ensures.found s h));
  len = omega (arith, c.little.ensures.len, c.loop-value.invariant.len);
}

pub returns : goal.returns
returns g c = record {
  text = λ s h.
      let place : ℕ = c.loop-value.value-index in
      let all : place ≡ 32 = omega (arith, c.loop-value-test.false, c.loop-value.auto.value-index-end) in
      c.little-2.ensures.content
      ∙ registers_all s c.args.debugger.now.at place c.found-found.result.pc c.loop-value.reply all (c.loop-value.invariant.text s h)
      (ap (λ (a : Arch). a.pc) (c.found-found.ensures.found s h));
}
