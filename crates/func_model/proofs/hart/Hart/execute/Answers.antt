use Rattle.std.proofs.Common.{sym, ◌∙◌}
use Rattle.fsim_base.specs.Number.{wrap_sum}
use Rattle.fsim_base.specs.declared.access.Access.TheVariants as access
use Rattle.fsim_base.specs.declared.cause.Cause.TheVariants.{IllegalInstruction}
use Rattle.phys_mem.specs.Ram.{range_of}
use Rattle.func_model.specs.Hart.{arch_of}
use Rattle.func_model.proofs.Concluded.{told_same, told_failed}
use Rattle.func_model.proofs.System.{refused_behind, refused_result_of, unknown_behind, unknown_result_of}
use Rattle.func_model.proofs.hart.Hart.execute.Goals as goal

pub returns-in-Refused-clause-told : goal.returns-in-Refused-clause-told
unfolding arch_of
returns-in-Refused-clause-told g c =
    rw c.in-Refused.is
    (told_same c.args.limit _ _ (arch_of c.args.self.now c.args.bus.now) c.fail.result
    (sym (refused_result_of (range_of c.args.self.now.memory) c.args.time c.in-Refused.cause (arch_of c.args.self.now c.args.bus.now)))
    (told_failed c.args.limit (wrap_sum c.args.self.now.pc 4) access.Nothing c.in-Refused.cause c.args.self.now.pc c.args.self.now.csrs (arch_of c.args.self.now c.args.bus.now) c.fail.result c.fail.ensures.done))

pub returns-in-Refused-clause-arch : goal.returns-in-Refused-clause-arch
unfolding arch_of
returns-in-Refused-clause-arch g c =
    rw c.in-Refused.is
    (c.fail.ensures.arch c.args.bus.now
    ∙ sym (refused_behind (range_of c.args.self.now.memory) c.args.limit c.args.time c.in-Refused.cause (arch_of c.args.self.now c.args.bus.now)))

pub returns-in-Unknown-clause-told : goal.returns-in-Unknown-clause-told
unfolding arch_of
returns-in-Unknown-clause-told g c =
    rw c.in-Unknown.is
    (told_same c.args.limit _ _ (arch_of c.args.self.now c.args.bus.now) c.fail-in-Unknown.result
    (sym (unknown_result_of (range_of c.args.self.now.memory) c.args.time c.in-Unknown.word (arch_of c.args.self.now c.args.bus.now)))
    (told_failed c.args.limit (wrap_sum c.args.self.now.pc 4) access.Nothing IllegalInstruction c.in-Unknown.word c.args.self.now.csrs (arch_of c.args.self.now c.args.bus.now) c.fail-in-Unknown.result c.fail-in-Unknown.ensures.done))

pub returns-in-Unknown-clause-arch : goal.returns-in-Unknown-clause-arch
unfolding arch_of
returns-in-Unknown-clause-arch g c =
    rw c.in-Unknown.is
    (c.fail-in-Unknown.ensures.arch c.args.bus.now
    ∙ sym (unknown_behind (range_of c.args.self.now.memory) c.args.limit c.args.time c.in-Unknown.word (arch_of c.args.self.now c.args.bus.now)))

pub returns-in-Refused-clause-back : goal.returns-in-Refused-clause-back
returns-in-Refused-clause-back g c = c.fail.ensures.back (range_of c.args.self.now.memory) c.args.bus.now

pub returns-in-Unknown-clause-back : goal.returns-in-Unknown-clause-back
returns-in-Unknown-clause-back g c = c.fail-in-Unknown.ensures.back (range_of c.args.self.now.memory) c.args.bus.now
