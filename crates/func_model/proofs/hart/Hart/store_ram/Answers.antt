use Rattle.std.proofs.Common.{rules, ◌≡◌, is_some, true, refl, ap}
use Rattle.undo_journal.specs.declared.past.Change.TheVariants.{Memory}
use Rattle.phys_mem.specs.Ram.{ram_of, range_of, loaded}
use Rattle.mono_model.specs.Arch.{Arch}
use Rattle.func_model.specs.Hart.{arch_of}
use Rattle.func_model.specs.Undo.{memory_back}
use Rattle.func_model.proofs.Stores.{store_ram}
use Rattle.func_model.proofs.TakenBack.{stored_back}
use Rattle.func_model.proofs.hart.Hart.store_ram.Goals as goal

pub returns-clause-arch : goal.returns-clause-arch
unfolding arch_of
returns-clause-arch c = λ limit d.
    let range = range_of c.args.self.now.memory in
    let at = c.args.access in
    let there : is_some (loaded range (ram_of c.args.self.now.memory) at.addr at.width) ≡ true = search rules in
    store_ram range limit at.next at.addr at.width at.value (arch_of c.args.self.now d) (arch_of c.finish.new.self d) _ _ c.requires.aligned there c.set.ensures.ram c.set.ensures.text
    (c.finish.ensures.arch d)

pub returns-clause-back : goal.returns-clause-back
unfolding arch_of
returns-clause-back c = λ d.
    let range = range_of c.args.self.now.memory in
    let change = Memory c.args.access.addr c.args.access.width c.in_ok-old.old in
    let memory : memory_back range change (ram_of c.finish.new.self.memory) ≡ ram_of c.args.self.now.memory = search rules in
    stored_back range change _ (arch_of c.args.self.now d) (arch_of c.finish.new.self d)
    refl memory refl refl (ap (λ (x : Arch). x.csrs) (c.finish.ensures.arch d)) c.requires.aligned
