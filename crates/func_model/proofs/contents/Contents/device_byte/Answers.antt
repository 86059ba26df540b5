use Rattle.std.proofs.Common.{ℕ, ◌-◌, ◌%◌, IsTrue, Some, ap, sym, ◌∙◌, subst}
use Rattle.fsim_base.specs.declared.access.Width.TheVariants.{Byte, Word}
use Rattle.device_bus.specs.declared.kind.DeviceKind.{DeviceKind}
use Rattle.device_bus.specs.declared.kind.DeviceKind.TheVariants.{Console, Timer}
use Rattle.device_bus.specs.Device.{loading}
use Rattle.device_bus.specs.Bus.{IsInRange, accepts_of, answer_at}
use Rattle.func_model.proofs.Seeing.{console_accepts, console_byte, finisher_byte, no_byte, timer_accepts, timer_byte}
use Rattle.func_model.proofs.contents.Contents.device_byte.Goals as goal

pub peek-value-requires-clause-accepted : goal.peek-value-requires-clause-accepted
peek-value-requires-clause-accepted g c =
    subst (λ (b : ℕ). IsTrue (accepts_of Console (c.args.addr - b) Byte)) (sym c.base.ensures.base) (console_accepts c.args.addr (subst (λ (kind : DeviceKind). IsInRange kind c.args.addr) c.in-Some-Console.field-0-is c.in-Some-Console.ensures.inside))

pub returns-in-Some-Console-clause-byte : goal.returns-in-Some-Console-clause-byte
returns-in-Some-Console-clause-byte g c =
    console_byte c.args.self.now.bus c.args.time c.args.addr c.peek-value.result (subst (λ (kind : DeviceKind). IsInRange kind c.args.addr) c.in-Some-Console.field-0-is c.in-Some-Console.ensures.inside)
    (c.peek-value.ensures.value ∙ ap (λ (b : ℕ). (answer_at c.args.self.now.bus Console (loading (c.args.addr - b) Byte c.args.time)).value) c.base.ensures.base)

pub peek-word-requires-clause-accepted : goal.peek-word-requires-clause-accepted
peek-word-requires-clause-accepted g c =
    subst (λ (b : ℕ). IsTrue (accepts_of Timer (c.args.addr - c.args.addr % 4 - b) Word)) (sym c.base-in-Some-Timer.ensures.base) (timer_accepts c.args.addr (subst (λ (kind : DeviceKind). IsInRange kind c.args.addr) c.in-Some-Timer.field-0-is c.in-Some-Timer.ensures.inside))

pub returns-in-Some-Timer-clause-byte : goal.returns-in-Some-Timer-clause-byte
returns-in-Some-Timer-clause-byte g c =
    ap Some c.byte_of_word.ensures.byte
    ∙ timer_byte c.args.self.now.bus c.args.time c.args.addr c.peek-word.result (subst (λ (kind : DeviceKind). IsInRange kind c.args.addr) c.in-Some-Timer.field-0-is c.in-Some-Timer.ensures.inside)
    (c.peek-word.ensures.value ∙ ap (λ (b : ℕ). (answer_at c.args.self.now.bus Timer (loading (c.args.addr - c.args.addr % 4 - b) Word c.args.time)).value) c.base-in-Some-Timer.ensures.base)

pub returns-in-Some-Finisher-clause-byte : goal.returns-in-Some-Finisher-clause-byte
returns-in-Some-Finisher-clause-byte g c = finisher_byte c.args.self.now.bus c.args.time c.args.addr (subst (λ (kind : DeviceKind). IsInRange kind c.args.addr) c.in-Some-Finisher.field-0-is c.in-Some-Finisher.ensures.inside)

pub returns-in-None-clause-byte : goal.returns-in-None-clause-byte
returns-in-None-clause-byte g c = no_byte c.args.self.now.bus c.args.time c.args.addr c.in-None.ensures.outside
