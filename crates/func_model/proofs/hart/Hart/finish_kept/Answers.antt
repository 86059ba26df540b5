use Rattle.std.proofs.Common.{◌≡◌, ◌+◌, ap, ◌∙◌}
use Rattle.mono_model.specs.Arch.{with_register}
use Rattle.func_model.specs.declared.hart.Hart.{Hart}
use Rattle.func_model.specs.Hart.{arch_of}
use Rattle.func_model.proofs.Plain.{numbered}
use Rattle.func_model.proofs.Written.{kept_written}
use Rattle.func_model.proofs.hart.Hart.finish_kept.Goals as goal

pub returns-clause-arch : goal.returns-clause-arch
unfolding arch_of
returns-clause-arch c = λ destination d told.
    let old = c.args.self.now in
    let regs : numbered c.write_kept.new.self ≡ with_register destination c.args.value (numbered old) =
    c.write_kept.ensures.regs ∙ kept_written destination c.args.register c.args.value (numbered old) told in
    ap (λ (h : Hart). arch_of (record h { pc = c.args.next; csrs = record h.csrs { retired = h.csrs.retired + 1 } }) d) c.write_kept.ensures.others
    ∙ λ i. record (arch_of old d) { pc = c.args.next; regs = regs i; csrs = record old.csrs { retired = old.csrs.retired + 1 } }
