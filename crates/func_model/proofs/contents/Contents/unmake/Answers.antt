use Rattle.std.proofs.Common.{Option, ap, sym, ◌∙◌}
use Rattle.mono_model.specs.Setup.{ram_range}
use Rattle.mono_model.specs.Arch.{Arch, compare_of}
use Rattle.phys_mem.specs.Ram.{exec_of, range_of}
use Rattle.func_model.specs.declared.hart.Hart.{Hart}
use Rattle.func_model.specs.declared.performed.Interrupted.{Interrupted}
use Rattle.func_model.specs.Hart.{arch_of}
use Rattle.func_model.specs.History.{resumed}
use Rattle.func_model.specs.Undo.{trap_back, undone}
use Rattle.func_model.proofs.contents.Contents.unmake.Goals as goal

pub returns-in-Some-clause-stands : goal.returns-in-Some-clause-stands
unfolding arch_of
returns-in-Some-clause-stands g c = λ s a h.
    let back = c.undo.ensures.stands s a h in
    let before : Arch = undone (ram_range s.params) c.args.past.past a in
    record {
      arch = ap (λ (hart : Hart). arch_of hart c.undo.new.self.bus) c.put_trap.ensures.put
          ∙ ap (λ (x : Arch). record x { pc = c.in-Some.before.pc; csrs = trap_back c.in-Some.before.trap x.csrs }) back.arch
          ∙ ap (λ (was : Option Interrupted). resumed was before) (sym c.in-Some.is);
      exec = ap (λ (hart : Hart). exec_of hart.memory) c.put_trap.ensures.put ∙ back.exec;
      range = ap (λ (hart : Hart). range_of hart.memory) c.put_trap.ensures.put ∙ back.range;
      compare = back.compare ∙ ap (λ (was : Option Interrupted). compare_of (resumed was before).devices) (sym c.in-Some.is);
    }

pub returns-in_default-clause-stands : goal.returns-in_default-clause-stands
returns-in_default-clause-stands g c = λ s a h.
    let back = c.undo.ensures.stands s a h in
    let before : Arch = undone (ram_range s.params) c.args.past.past a in
    record {
      arch = back.arch ∙ ap (λ (was : Option Interrupted). resumed was before) (sym c.in_default.is);
      exec = back.exec;
      range = back.range;
      compare = back.compare ∙ ap (λ (was : Option Interrupted). compare_of (resumed was before).devices) (sym c.in_default.is);
    }
