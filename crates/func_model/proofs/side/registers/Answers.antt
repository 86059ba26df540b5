use Rattle.std.proofs.Common.{rules, ◌≡◌, length, ◌∙◌}
use Rattle.func_model.proofs.Reported.{registers_same}
use Rattle.func_model.proofs.side.registers.Goals as goal

pub returns-clause-state : goal.returns-clause-state
returns-clause-state g c =
    let whole : length c.args.contents.now.hart.regs ≡ 32 = search rules in
    λ s a h. (λ i. record { pc = c.args.contents.now.hart.pc; regs = c.args.contents.now.hart.regs; csrs = c.args.contents.now.hart.csrs; cmp = c.compare.ensures.compare i }) ∙ registers_same s a c.args.contents.now h whole
