use Rattle.std.proofs.Common.{◌+◌, [], ◌∷◌}
use Rattle.mono_model.specs.Report.{register_text}
use Rattle.report_text.proofs.Lines.{four_texts}
use Rattle.report_text.proofs.report_lines.register_line.Goals as goal

pub returns : goal.returns
returns c =
    let text = register_text c.args.regs.now in
    record { text = four_texts (text c.args.first) (text (c.args.first + 1)) (text (c.args.first + 2)) (text (c.args.first + 3)) (32 ∷ []) c.new-line.ensures.empty c.register.ensures.text c.byte.ensures.text c.register-2.ensures.text c.byte-2.ensures.text c.register-3.ensures.text c.byte-3.ensures.text c.register-4.ensures.text c.byte-4.ensures.text }
