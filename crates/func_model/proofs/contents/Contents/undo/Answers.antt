use Rattle.std.proofs.Common.{ap, ◌∙◌}
use Rattle.fsim_base.specs.declared.access.RamRange.{RamRange}
use Rattle.mono_model.specs.Setup.{ram_range}
use Rattle.mono_model.specs.Arch.{Arch}
use Rattle.func_model.proofs.Compared.{compare_back, compare_in, compare_for}
use Rattle.func_model.specs.Hart.{arch_of}
use Rattle.func_model.specs.Undo.{undone}
use Rattle.func_model.proofs.contents.Contents.undo.Goals as goal

pub returns-clause-stands : goal.returns-clause-stands
unfolding arch_of undone
returns-clause-stands g c = λ s a h.
    let made = c.restore.ensures.arch
    ∙ ap (λ (r : RamRange). undone r c.args.past (arch_of c.args.self.now.hart c.args.self.now.bus)) h.range
    ∙ ap (undone (ram_range s.params) c.args.past) h.arch in
    record {
      arch = made;
      exec = c.restore.ensures.exec ∙ h.exec;
      range = c.restore.ensures.range ∙ h.range;
      compare = compare_for c.compare_behind-self.result (arch_of c.restore.new.self c.restore.new.bus) _ made
          (compare_back c.args.past.change c.args.self.now.cmp c.compare_behind-self.result c.args.self.now.bus c.restore.new.bus (ap (λ (x : Arch). x.devices) c.restore.ensures.arch)
          (compare_in c.args.self.now.cmp (arch_of c.args.self.now.hart c.args.self.now.bus) a h.arch h.compare) c.compare_behind-self.ensures.compare);
    }
