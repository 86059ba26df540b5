use Rattle.std.proofs.Common.{slice_index, ap, sym, ◌∙◌}
use Rattle.machine_csr.specs.Trap.{return_address}
use Rattle.mono_model.specs.Arch.{register_value}
use Rattle.phys_mem.specs.Ram.{range_of}
use Rattle.undo_journal.specs.declared.past.Change.TheVariants.{Csr}
use Rattle.func_model.specs.Undo.{flags_before}
use Rattle.func_model.specs.Hart.{arch_of}
use Rattle.func_model.proofs.Concluded.{told_same, told_plain}
use Rattle.func_model.proofs.Effects.{evaluated_behind, evaluated_result}
use Rattle.func_model.proofs.Evaluated.{aligned_by}
use Rattle.func_model.proofs.System.{csr_behind_by, csr_result_by, mret_behind, mret_result_of}
use Rattle.func_model.proofs.hart.Hart.perform.Goals as goal

pub returns-then-is_csr-clause-told : goal.returns-then-is_csr-clause-told
unfolding arch_of
returns-then-is_csr-clause-told g c =
    told_same c.args.limit _ _ (arch_of c.args.self.now c.args.bus.now) c.access_csr.result
    (csr_result_by (range_of c.args.self.now.memory) c.args.decoded.word c.args.decoded.insn c.operand-x.result c.compare.result c.args.time (arch_of c.args.self.now c.args.bus.now) (sym c.is_csr.ensures.csr ∙ c.if-is_csr.true)
    (c.operand-x.ensures.value ∙ ap (λ s. register_value (λ r. slice_index c.args.self.now.regs r) s.0) c.sources-first.ensures.registers) c.compare.ensures.compare)
    (c.access_csr.ensures.told c.args.limit c.args.bus.now)

pub returns-then-is_csr-clause-arch : goal.returns-then-is_csr-clause-arch
unfolding arch_of
returns-then-is_csr-clause-arch g c =
    csr_behind_by (range_of c.args.self.now.memory) c.args.limit c.args.decoded.word c.args.decoded.insn c.operand-x.result c.compare.result c.args.time (arch_of c.args.self.now c.args.bus.now) _ (sym c.is_csr.ensures.csr ∙ c.if-is_csr.true)
    (c.operand-x.ensures.value ∙ ap (λ s. register_value (λ r. slice_index c.args.self.now.regs r) s.0) c.sources-first.ensures.registers) c.compare.ensures.compare (c.access_csr.ensures.arch c.args.bus.now)

pub returns-then-is_mret-clause-told : goal.returns-then-is_mret-clause-told
returns-then-is_mret-clause-told g c =
    told_same c.args.limit _ _ (arch_of c.args.self.now c.args.bus.now) c.leave.result
    (sym (mret_result_of (range_of c.args.self.now.memory) c.args.decoded.word c.args.decoded.insn c.args.time (arch_of c.args.self.now c.args.bus.now) (sym c.is_mret.ensures.mret ∙ c.if-is_mret.true)))
    (told_plain c.args.limit 0 (return_address (arch_of c.args.self.now c.args.bus.now).csrs) (Csr (flags_before c.args.self.now.csrs)) (arch_of c.args.self.now c.args.bus.now) c.leave.result c.leave.ensures.done)

pub returns-then-is_mret-clause-arch : goal.returns-then-is_mret-clause-arch
returns-then-is_mret-clause-arch g c =
    c.leave.ensures.arch c.args.bus.now
    ∙ sym (mret_behind (range_of c.args.self.now.memory) c.args.limit c.args.decoded.word c.args.decoded.insn c.args.time (arch_of c.args.self.now c.args.bus.now) (sym c.is_mret.ensures.mret ∙ c.if-is_mret.true))

pub reach-requires-clause-aligned : goal.reach-requires-clause-aligned
reach-requires-clause-aligned g c = aligned_by c.eval-outcome.result c.args.decoded.insn c.args.self.now.pc c.operand-x.result c.operand-y.result c.eval-outcome.ensures.outcome

pub returns-clause-told : goal.returns-clause-told
unfolding arch_of
returns-clause-told g c =
    told_same c.args.limit _ _ (arch_of c.args.self.now c.args.bus.now) c.reach.result
    (evaluated_result (range_of c.args.self.now.memory) c.args.decoded.word c.args.decoded.insn c.operand-x.result c.operand-y.result c.args.time c.eval-outcome.result (arch_of c.args.self.now c.args.bus.now)
    (sym c.is_csr.ensures.csr ∙ c.if-is_csr.false) (sym c.is_mret.ensures.mret ∙ c.if-is_mret.false) c.eval-outcome.ensures.outcome
    (c.operand-x.ensures.value ∙ ap (λ s. register_value (λ r. slice_index c.args.self.now.regs r) s.0) c.sources-first.ensures.registers)
    (c.operand-y.ensures.value ∙ ap (λ s. register_value (λ r. slice_index c.args.self.now.regs r) s.1) c.sources-first.ensures.registers))
    c.reach.ensures.told

pub returns-clause-arch : goal.returns-clause-arch
unfolding arch_of
returns-clause-arch g c =
    evaluated_behind (range_of c.args.self.now.memory) c.args.limit c.args.decoded.word c.args.decoded.insn c.operand-x.result c.operand-y.result c.args.time c.eval-outcome.result c.args.decoded.destination (arch_of c.args.self.now c.args.bus.now) _
    (sym c.is_csr.ensures.csr ∙ c.if-is_csr.false) (sym c.is_mret.ensures.mret ∙ c.if-is_mret.false) c.eval-outcome.ensures.outcome c.requires.fits.destination
    (c.operand-x.ensures.value ∙ ap (λ s. register_value (λ r. slice_index c.args.self.now.regs r) s.0) c.sources-first.ensures.registers)
    (c.operand-y.ensures.value ∙ ap (λ s. register_value (λ r. slice_index c.args.self.now.regs r) s.1) c.sources-first.ensures.registers)
    c.reach.ensures.arch

pub returns-then-is_csr-clause-back : goal.returns-then-is_csr-clause-back
returns-then-is_csr-clause-back g c = c.access_csr.ensures.back (range_of c.args.self.now.memory) c.args.bus.now

pub returns-then-is_mret-clause-back : goal.returns-then-is_mret-clause-back
returns-then-is_mret-clause-back g c = c.leave.ensures.back (range_of c.args.self.now.memory) c.args.bus.now
