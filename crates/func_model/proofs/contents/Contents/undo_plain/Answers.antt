use Rattle.std.proofs.Common.{drop, ap, sym, ◌∙◌}
use Rattle.mono_model.specs.Setup.{ram_range}
use Rattle.phys_mem.specs.declared.ram.Ram.{Ram}
use Rattle.phys_mem.specs.Ram.{exec_of, range_of}
use Rattle.func_model.specs.Undo.{all_undone}
use Rattle.func_model.proofs.Plain.{plain_compare}
use Rattle.func_model.proofs.contents.Contents.undo_plain.Goals as goal

pub returns-clause-stands : goal.returns-clause-stands
returns-clause-stands g c = λ s a h.
    let range = ram_range s.params in
    let taken = drop c.restore_plain.result c.args.steps.now in
    record {
      arch = c.restore_plain.ensures.arch range c.args.self.now.bus ∙ ap (all_undone range taken) h.arch;
      exec = ap (λ (m : Ram). exec_of m) c.restore_plain.ensures.memory ∙ h.exec;
      range = ap (λ (m : Ram). range_of m) c.restore_plain.ensures.memory ∙ h.range;
      compare = h.compare ∙ sym (plain_compare range taken a c.restore_plain.ensures.plain);
    }
