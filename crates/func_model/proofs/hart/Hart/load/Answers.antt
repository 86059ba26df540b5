use Rattle.std.proofs.Common.{◌≡◌, ap, sym, subst, ◌∙◌}
use Rattle.func_model.specs.Undo.{TakesBack}
use Rattle.phys_mem.specs.Ram.{ram_of, range_of}
use Rattle.mono_model.specs.Arch.{Arch}
use Rattle.mono_model.specs.Effect.{counted}
use Rattle.func_model.specs.declared.hart.Hart.{Hart}
use Rattle.func_model.specs.declared.performed.Performed.{Performed}
use Rattle.func_model.specs.Hart.{arch_of}
use Rattle.func_model.proofs.TakenBack.{load_back}
use Rattle.func_model.proofs.Made.{load_none, load_some, read_none, read_some}
use Rattle.func_model.proofs.hart.Hart.load.Goals as goal

pub returns-in-None-clause-arch : goal.returns-in-None-clause-arch
returns-in-None-clause-arch g c =
    load_none (range_of c.args.self.now.memory) c.args.destination c.args.access.next c.args.access.addr c.args.access.width c.args.access.signed c.args.time
    c.args.self.now c.read-read.new.self c.args.bus.now c.read-read.new.bus _ (sym c.in-None.is ∙ c.read-read.ensures.raw) c.read-read.ensures.same (c.read-read.ensures.devices ∙ read_none (range_of c.args.self.now.memory) c.args.access.addr c.args.access.width c.read-read.result.raw c.args.bus.now c.in-None.is) (c.fail.ensures.arch c.read-read.new.bus)

pub returns-in-Some-clause-arch : goal.returns-in-Some-clause-arch
returns-in-Some-clause-arch g c =
    load_some (range_of c.args.self.now.memory) c.args.destination c.args.access.next c.args.access.addr c.args.access.width c.args.access.signed c.args.time
    c.in-Some.raw c.extend-value.result c.args.self.now c.read-read.new.self c.args.bus.now c.read-read.new.bus _ (sym c.in-Some.is ∙ c.read-read.ensures.raw) c.read-read.ensures.same
    (c.read-read.ensures.devices ∙ read_some (range_of c.args.self.now.memory) c.args.access.addr c.args.access.width c.in-Some.raw c.read-read.result.raw c.args.bus.now c.in-Some.is)
    c.extend-value.ensures.value (c.finish.ensures.arch c.read-read.new.bus)

pub returns-in-Some-clause-back : goal.returns-in-Some-clause-back
unfolding arch_of
returns-in-Some-clause-back g c =
    let counts : c.finish.new.self.csrs ≡ counted c.args.self.now.csrs =
    ap (λ (x : Arch). x.csrs) (c.finish.ensures.arch c.read-read.new.bus) ∙ ap (λ (h : Hart). counted h.csrs) c.read-read.ensures.same in
    load_back (range_of c.args.self.now.memory) c.read-read.result.change _ (arch_of c.args.self.now c.args.bus.now) (arch_of c.finish.new.self c.read-read.new.bus)
    (ap (λ (d : Performed). d.change) c.plain.ensures.done) c.read-read.ensures.of_load
    (ap ram_of c.finish.ensures.memory ∙ ap (λ (h : Hart). ram_of h.memory) c.read-read.ensures.same) c.read-read.ensures.back counts c.read-read.ensures.exists

pub returns-in-None-clause-back : goal.returns-in-None-clause-back
returns-in-None-clause-back g c =
    let range = range_of c.args.self.now.memory in
    let P : Arch → Type 0 = λ x. TakesBack range c.fail.result x (arch_of c.fail.new.self c.read-read.new.bus) in
    let devices = c.read-read.ensures.devices ∙ read_none range c.args.access.addr c.args.access.width c.read-read.result.raw c.args.bus.now c.in-None.is in
    subst P (ap (λ (h : Hart). arch_of h c.read-read.new.bus) c.read-read.ensures.same ∙ ap (arch_of c.args.self.now) devices) (c.fail.ensures.back range c.read-read.new.bus)
