use Rattle.std.proofs.Common.{refl, ap}
use Rattle.phys_mem.specs.Ram.{ram_of, range_of}
use Rattle.mono_model.specs.Arch.{Arch}
use Rattle.func_model.specs.declared.performed.Performed.{Performed}
use Rattle.func_model.proofs.TakenBack.{plain_back}
use Rattle.mono_model.specs.Sequence.{seen_in}
use Rattle.func_model.specs.Hart.{arch_of}
use Rattle.func_model.proofs.Concluded.{nothing_made, load_result, told_same}
use Rattle.func_model.proofs.hart.Hart.reach.Goals as goal

pub returns-in-Nothing-clause-arch : goal.returns-in-Nothing-clause-arch
returns-in-Nothing-clause-arch g c =
    nothing_made (range_of c.args.self.now.memory) c.args.limit c.args.destination c.args.outcome c.args.time (arch_of c.args.self.now c.args.bus.now) _
    c.in_default.is c.in-Nothing.is (c.finish.ensures.arch c.args.bus.now)

pub returns-in-Load-clause-told : goal.returns-in-Load-clause-told
returns-in-Load-clause-told g c =
    told_same c.args.limit _ _ (arch_of c.args.self.now c.args.bus.now) c.load.result
    (load_result (range_of c.args.self.now.memory) (seen_in c.args.time (arch_of c.args.self.now c.args.bus.now)) c.args.outcome c.in-Load.addr c.in-Load.width c.in-Load.signed c.in_default.is c.in-Load.is)
    (c.load.ensures.told c.args.limit)

pub returns-in-Nothing-clause-back : goal.returns-in-Nothing-clause-back
unfolding arch_of
returns-in-Nothing-clause-back g c =
    plain_back (range_of c.args.self.now.memory) _ (arch_of c.args.self.now c.args.bus.now) (arch_of c.finish.new.self c.args.bus.now)
    (ap (λ (d : Performed). d.change) c.plain.ensures.done) (ap ram_of c.finish.ensures.memory) refl (ap (λ (x : Arch). x.csrs) (c.finish.ensures.arch c.args.bus.now))

pub returns-in-Some-clause-back : goal.returns-in-Some-clause-back
returns-in-Some-clause-back g c = c.fail.ensures.back (range_of c.args.self.now.memory) c.args.bus.now
