use Rattle.std.proofs.Common.{◌≡◌, true, false, sym, ap, ◌∙◌}
use Rattle.machine_csr.specs.Trap.{timer_pending, timer_interrupt}
use Rattle.mono_model.specs.Arch.{Arch, compare_of, trapped}
use Rattle.phys_mem.specs.Ram.{exec_of, range_of}
use Rattle.mono_model.specs.declared.setup.Setup.{Setup}
use Rattle.func_model.specs.Hart.{arch_of}
use Rattle.func_model.specs.Undo.{trap_before}
use Rattle.func_model.specs.Contents.{ContentsStandFor}
use Rattle.func_model.proofs.Compared.{compare_for}
use Rattle.func_model.proofs.Advance.{pending_is, before_idle, before_trap}
use Rattle.func_model.proofs.Unmaking.{resumed_back}
use Rattle.func_model.proofs.contents.Contents.take_interrupt.Given as given
use Rattle.func_model.proofs.contents.Contents.take_interrupt.Goals as goal

-- none is pending
idle : (g : given.Over) (c : goal.Then-not-timer_pending g) (s : Setup) (a : Arch) → ContentsStandFor s a c.args.self.now → timer_pending a.csrs c.args.time (compare_of a.devices) ≡ false
unfolding arch_of
idle g c s a h =
    sym (pending_is (arch_of c.args.self.now.hart c.args.self.now.bus) a c.args.time c.args.self.now.cmp c.timer_pending.result h.arch h.compare c.timer_pending.ensures.pending) ∙ c.if-not-timer_pending.true

pub returns-then-not-timer_pending-clause-pending : goal.returns-then-not-timer_pending-clause-pending
returns-then-not-timer_pending-clause-pending g c = λ s a h. sym (idle g c s a h)

pub returns-then-not-timer_pending-clause-stands : goal.returns-then-not-timer_pending-clause-stands
returns-then-not-timer_pending-clause-stands g c = λ s a h. record {
  arch = h.arch ∙ before_idle c.args.time a (idle g c s a h);
  exec = h.exec;
  range = h.range;
  compare = compare_for c.args.self.now.cmp a _ (before_idle c.args.time a (idle g c s a h)) h.compare;
}

pub returns-then-not-timer_pending-clause-back : goal.returns-then-not-timer_pending-clause-back
returns-then-not-timer_pending-clause-back g c = λ s a h. sym (before_idle c.args.time a (idle g c s a h))

-- one is pending
due : (g : given.Over) (c : goal.After-trap g) (s : Setup) (a : Arch) → ContentsStandFor s a c.args.self.now → timer_pending a.csrs c.args.time (compare_of a.devices) ≡ true
unfolding arch_of
due g c s a h =
    sym (pending_is (arch_of c.args.self.now.hart c.args.self.now.bus) a c.args.time c.args.self.now.cmp c.timer_pending.result h.arch h.compare c.timer_pending.ensures.pending) ∙ c.if-not-timer_pending.false

pub returns-clause-pending : goal.returns-clause-pending
returns-clause-pending g c = λ s a h. sym (due g c s a h)

pub returns-clause-stands : goal.returns-clause-stands
unfolding trapped arch_of
returns-clause-stands g c = λ s a h. record {
  arch = c.trap.ensures.arch c.args.self.now.bus ∙ ap (λ (x : Arch). trapped timer_interrupt 0 x.pc x) h.arch ∙ before_trap c.args.time a (due g c s a h);
  exec = ap exec_of c.trap.ensures.memory ∙ h.exec;
  range = ap range_of c.trap.ensures.memory ∙ h.range;
  compare = compare_for c.args.self.now.cmp (trapped timer_interrupt 0 a.pc a) _ (before_trap c.args.time a (due g c s a h)) h.compare;
}

pub returns-clause-back : goal.returns-clause-back
unfolding arch_of
returns-clause-back g c = λ s a h.
    resumed_back c.args.time (record { pc = c.args.self.now.hart.pc; trap = c.trap_before.result }) a
    (ap (λ (x : Arch). x.pc) h.arch) (c.trap_before.ensures.before ∙ ap (λ (x : Arch). trap_before x.csrs) h.arch)

pub returns-clause-retired : goal.returns-clause-retired
unfolding arch_of trapped
returns-clause-retired g c = ap (λ (x : Arch). x.csrs.retired) (c.trap.ensures.arch c.args.self.now.bus)

pub returns-clause-output : goal.returns-clause-output
unfolding arch_of trapped
returns-clause-output g c = ap (λ (x : Arch). x.output) (c.trap.ensures.arch c.args.self.now.bus)
