use Rattle.func_model.specs.Hart.{arch_of}
use Rattle.func_model.proofs.Plain.{restored, unrestored}
use Rattle.func_model.proofs.hart.Hart.restore_plain.Goals as goal

pub returns-then-left-steps-clause-arch : goal.returns-then-left-steps-clause-arch
unfolding arch_of
returns-then-left-steps-clause-arch c = λ range d.
    let put = c.put_registers-left.ensures in
    restored range c.args.steps.now c.put_registers-left.result c.args.self.now c.put_registers-left.new.self d put.plain put.regs put.others _ c.saturating_sub-self.result c.if-left-steps.true
    c.saturating_sub-self.ensures

pub returns-else-left-steps-clause-arch : goal.returns-else-left-steps-clause-arch
returns-else-left-steps-clause-arch c = λ range d.
    let put = c.put_registers-left.ensures in
    unrestored range c.args.steps.now c.put_registers-left.result c.args.self.now c.put_registers-left.new.self d put.plain put.regs put.others c.if-left-steps.false
