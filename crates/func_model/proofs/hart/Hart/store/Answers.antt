use Rattle.std.proofs.Common.{rules, ◌≡◌, is_some, true, false, Some, None, refl, ap, subst, ◌∙◌}
use Rattle.undo_journal.specs.declared.past.Change.TheVariants.{Memory, Device}
use Rattle.device_bus.specs.Bus.{find_of}
use Rattle.mono_model.specs.Arch.{Arch, trapped}
use Rattle.phys_mem.specs.Ram.{ram_of, range_of, loaded}
use Rattle.func_model.specs.Hart.{arch_of}
use Rattle.func_model.specs.Steps.{concluded}
use Rattle.func_model.specs.declared.performed.Performed.{Performed}
use Rattle.func_model.specs.Undo.{memory_back, devices_back, IsRestorableChange, TakesBack}
use Rattle.func_model.proofs.TakenBack.{stored_back, concluded_back}
use Rattle.func_model.proofs.Stores.{is_accepted, is_refused, store_ram, store_device, store_none, unstored}
use Rattle.func_model.proofs.hart.Hart.store.Goals as goal

pub returns-in-Some-clause-arch : goal.returns-in-Some-clause-arch
unfolding arch_of
returns-in-Some-clause-arch g c =
    let there : is_some (loaded (range_of c.args.self.now.memory) (ram_of c.args.self.now.memory) c.args.access.addr c.args.access.width) ≡ true = search rules in
    store_ram (range_of c.args.self.now.memory) c.args.limit c.args.access.next c.args.access.addr c.args.access.width c.args.access.value (arch_of c.args.self.now c.args.bus.now) _
    _ _ c.requires.aligned there c.set.ensures.ram c.set.ensures.text (c.finish.ensures.arch c.args.bus.now)

pub returns-in_default-find-clause-arch : goal.returns-in_default-find-clause-arch
unfolding arch_of
returns-in_default-find-clause-arch g c =
    let none : is_some (loaded (range_of c.args.self.now.memory) (ram_of c.args.self.now.memory) c.args.access.addr c.args.access.width) ≡ false = search rules in
    let nowhere : None ≡ find_of c.args.access.addr c.args.access.width = search rules in
    store_none (range_of c.args.self.now.memory) c.args.limit c.args.access.next c.args.access.addr c.args.access.width c.args.access.value None (arch_of c.args.self.now c.args.bus.now) _
    c.requires.aligned none nowhere refl
    (c.fail.ensures.arch c.args.bus.now ∙ ap (trapped 7 c.args.access.addr c.args.self.now.pc) (unstored (range_of c.args.self.now.memory) c.args.access.addr c.args.access.width c.args.access.value (arch_of c.args.self.now c.args.bus.now) _ _ none c.set.ensures.ram c.set.ensures.text))

pub returns-then-not-place-clause-arch : goal.returns-then-not-place-clause-arch
unfolding arch_of
returns-then-not-place-clause-arch g c =
    let none : is_some (loaded (range_of c.args.self.now.memory) (ram_of c.args.self.now.memory) c.args.access.addr c.args.access.width) ≡ false = search rules in
    let there : Some c.in-Some-find.place ≡ find_of c.args.access.addr c.args.access.width = search rules in
    store_none (range_of c.args.self.now.memory) c.args.limit c.args.access.next c.args.access.addr c.args.access.width c.args.access.value (Some c.in-Some-find.place) (arch_of c.args.self.now c.args.bus.now) _
    c.requires.aligned none there (is_refused c.in-Some-find.place.accepted c.if-not-place.true)
    (c.fail-then-not-place.ensures.arch c.args.bus.now ∙ ap (trapped 7 c.args.access.addr c.args.self.now.pc) (unstored (range_of c.args.self.now.memory) c.args.access.addr c.args.access.width c.args.access.value (arch_of c.args.self.now c.args.bus.now) _ _ none c.set.ensures.ram c.set.ensures.text))

pub returns-clause-arch : goal.returns-clause-arch
unfolding arch_of
returns-clause-arch g c =
    let none : is_some (loaded (range_of c.args.self.now.memory) (ram_of c.args.self.now.memory) c.args.access.addr c.args.access.width) ≡ false = search rules in
    let there : find_of c.args.access.addr c.args.access.width ≡ Some c.in-Some-find.place = search rules in
    store_device (range_of c.args.self.now.memory) c.args.limit c.args.access.next c.args.access.addr c.args.access.width c.args.access.value c.in-Some-find.place c.store-note.result.0 c.store-note.new.self (arch_of c.args.self.now c.args.bus.now) _
    c.requires.aligned none there (is_accepted c.in-Some-find.place.accepted c.if-not-place.false) c.store-note.ensures.note c.store-note.ensures.devices
    (c.conclude.ensures.arch c.store-note.new.self ∙ ap (λ (x : Arch). concluded c.args.limit c.store-note.result.0 c.args.access.next (record x { devices = c.store-note.new.self })) (unstored (range_of c.args.self.now.memory) c.args.access.addr c.args.access.width c.args.access.value (arch_of c.args.self.now c.args.bus.now) _ _ none c.set.ensures.ram c.set.ensures.text))

pub returns-in-Some-clause-back : goal.returns-in-Some-clause-back
unfolding arch_of
returns-in-Some-clause-back g c =
    let memory : memory_back (range_of c.args.self.now.memory) (Memory c.args.access.addr c.args.access.width c.in-Some.old) (ram_of c.finish.new.self.memory) ≡ ram_of c.args.self.now.memory = search rules in
    stored_back (range_of c.args.self.now.memory) (Memory c.args.access.addr c.args.access.width c.in-Some.old) _ (arch_of c.args.self.now c.args.bus.now) (arch_of c.finish.new.self c.args.bus.now)
    (ap (λ (d : Performed). d.change) c.plain.ensures.done) memory refl refl (ap (λ (x : Arch). x.csrs) (c.finish.ensures.arch c.args.bus.now)) c.requires.aligned

pub returns-clause-back : goal.returns-clause-back
unfolding arch_of
returns-clause-back g c =
    let none : is_some (loaded (range_of c.args.self.now.memory) (ram_of c.args.self.now.memory) c.args.access.addr c.args.access.width) ≡ false = search rules in
    let devices : devices_back (Device c.in-Some-find.place.device c.store-note.result.1) c.store-note.new.self ≡ c.args.bus.now = search rules in
    let exists : IsRestorableChange (Device c.in-Some-find.place.device c.store-note.result.1) = search rules in
    record {
      memory = ap ram_of c.conclude.ensures.memory
          ∙ ap (λ (x : Arch). x.ram) (unstored (range_of c.args.self.now.memory) c.args.access.addr c.args.access.width c.args.access.value (arch_of c.args.self.now c.args.bus.now) _ _ none c.set.ensures.ram c.set.ensures.text);
      devices = devices;
      csrs = concluded_back c.args.limit c.args.access.next c.store-note.result.0 c.conclude.result _ _ c.conclude.ensures.stepped (c.conclude.ensures.arch c.store-note.new.self);
      exists = exists;
    }

pub returns-in_default-find-clause-back : goal.returns-in_default-find-clause-back
unfolding arch_of
returns-in_default-find-clause-back g c =
    let range = range_of c.args.self.now.memory in
    let none : is_some (loaded range (ram_of c.args.self.now.memory) c.args.access.addr c.args.access.width) ≡ false = search rules in
    let P : Arch → Type 0 = λ x. TakesBack range c.fail.result x (arch_of c.fail.new.self c.args.bus.now) in
    subst P (unstored range c.args.access.addr c.args.access.width c.args.access.value (arch_of c.args.self.now c.args.bus.now) _ _ none c.set.ensures.ram c.set.ensures.text)
    (c.fail.ensures.back range c.args.bus.now)

pub returns-then-not-place-clause-back : goal.returns-then-not-place-clause-back
unfolding arch_of
returns-then-not-place-clause-back g c =
    let range = range_of c.args.self.now.memory in
    let none : is_some (loaded range (ram_of c.args.self.now.memory) c.args.access.addr c.args.access.width) ≡ false = search rules in
    let P : Arch → Type 0 = λ x. TakesBack range c.fail-then-not-place.result x (arch_of c.fail-then-not-place.new.self c.args.bus.now) in
    subst P (unstored range c.args.access.addr c.args.access.width c.args.access.value (arch_of c.args.self.now c.args.bus.now) _ _ none c.set.ensures.ram c.set.ensures.text)
    (c.fail-then-not-place.ensures.back range c.args.bus.now)
