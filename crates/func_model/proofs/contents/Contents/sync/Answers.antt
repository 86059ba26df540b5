use Rattle.std.proofs.Common.{ℕ, Bool, ap, ◌∙◌}
use Rattle.mono_model.specs.Arch.{synced}
use Rattle.phys_mem.specs.Ram.{ram_of, text_from}
use Rattle.func_model.specs.Hart.{arch_of}
use Rattle.func_model.proofs.contents.Contents.sync.Goals as goal

pub returns-clause-stands : goal.returns-clause-stands
unfolding arch_of synced
returns-clause-stands g c = λ s a h. record {
  arch = c.sync.ensures.arch c.args.self.now.bus
      ∙ ap (λ (t : ℕ → Bool). record (arch_of c.args.self.now.hart c.args.self.now.bus) { text = text_from t (ram_of c.args.self.now.hart.memory) }) h.exec
      ∙ ap (synced s) h.arch;
  exec = c.sync.ensures.exec ∙ h.exec;
  range = c.sync.ensures.range ∙ h.range;
  compare = h.compare;
}
