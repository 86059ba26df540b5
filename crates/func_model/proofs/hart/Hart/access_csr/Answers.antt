use Rattle.std.proofs.Common.{rules, ◌≡◌, Some, unwrap_or, refl, ap, ◌∙◌}
use Rattle.phys_mem.specs.Ram.{ram_of}
use Rattle.mono_model.specs.Arch.{Arch}
use Rattle.func_model.specs.declared.performed.Performed.{Performed}
use Rattle.func_model.proofs.TakenBack.{csr_taken_back}
use Rattle.func_model.specs.Undo.{csr_back}
use Rattle.machine_csr.specs.Csr.{csr_access}
use Rattle.func_model.specs.Hart.{arch_of}
use Rattle.func_model.proofs.Made.{csr_done}
use Rattle.func_model.proofs.hart.Hart.access_csr.Goals as goal

pub returns-in-Some-clause-arch : goal.returns-in-Some-clause-arch
unfolding arch_of
returns-in-Some-clause-arch c =
    let made : csr_access c.args.self.now.csrs c.args.insn c.args.x (unwrap_or c.args.time 0) c.args.cmp ≡ Some (c.in-Some.value, c.in-Some.write) = search rules in
    λ d. csr_done c.args.word c.args.insn c.args.time _ c.in-Some.value c.csr_value.result c.in-Some.write c.apply.new.self c.wrap_add-next.result c.dest.result (arch_of c.args.self.now d) _
    made c.csr_value.ensures.value c.apply.ensures.written c.wrap_add-next.ensures.sum c.dest.ensures.register (c.finish.ensures.arch d)

pub returns-in-Some-clause-back : goal.returns-in-Some-clause-back
unfolding arch_of
returns-in-Some-clause-back c = λ range d.
    csr_taken_back range c.csr_before-before.result c.apply.new.self _ (arch_of c.args.self.now d) _
    (ap (λ (done : Performed). done.change) c.plain.ensures.done)
    (ap ram_of c.finish.ensures.memory) refl (ap (λ (x : Arch). x.csrs) (c.finish.ensures.arch d))
    (ap (csr_back c.csr_before-before.result) c.apply.ensures.written ∙ c.csr_before-before.ensures.back)
