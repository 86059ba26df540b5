use Rattle.std.proofs.Common.{◌∙◌}
use Rattle.machine_file.proofs.Documents.{document-text, document-refused}
use Rattle.machine_file.proofs.reader.document.Goals as goal

pub returns-in-Ok-clause-ok : goal.returns-in-Ok-clause-ok
returns-in-Ok-clause-ok c = document-text c.args.bytes.now c.in-Ok.ensures.ok.0 ∙ c.in-Ok.ensures.ok.1

pub returns-in-Err-clause-fault : goal.returns-in-Err-clause-fault
returns-in-Err-clause-fault c other =
    document-refused c.args.bytes.now (c.in-Err.ensures.refused (λ memory. let told = c.refusal.ensures.memory.1 memory in other told))
