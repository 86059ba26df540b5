use Rattle.std.proofs.Common.{refl}
use Rattle.func_model.proofs.Plain.{putting_start, putting_more}
use Rattle.func_model.proofs.hart.Hart.put_registers.Goals as goal

pub loop-left-init : goal.loop-left-init
loop-left-init c = putting_start c.args.steps.now c.args.self.now

pub loop-left-preserved : goal.loop-left-preserved
loop-left-preserved c =
    putting_more c.args.steps.now c.loop-left.left c.args.self.now c.loop-left.self c.put_register.new.self _ c.loop-left.invariant c.loop-left-test.true (c.if-is_plain.ensures.plain.0 refl)
    c.put_register.ensures.regs c.put_register.ensures.others
