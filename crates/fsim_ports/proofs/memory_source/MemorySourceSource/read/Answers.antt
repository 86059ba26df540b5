use Rattle.std.proofs.Common.{◌++◌, Some, take, drop, ap, ◌∙◌, arith}
use Rattle.std.proofs.lemmas.Grind.{common_steps}
use Rattle.std.proofs.lemmas.List.{length-take-le}
use Rattle.fsim_ports.specs.Memory.{SourceInMemory}
use Rattle.fsim_ports.proofs.Reading.{read_more}
use Rattle.fsim_ports.proofs.memory_source.MemorySourceSource.read.Goals as goal

pub returns-clause-heard : goal.returns-clause-heard
returns-clause-heard g c =
    let count = c.min-count.result in
    let piece = c.copy_from_slice.new.self in
    let rest = drop count c.args.buf.now in
    let len = c.copy_from_slice.ensures.len ∙ length-take-le count c.args.buf.now (omega (arith, c.min-count.ensures)) in
    record {
      some = grind (arith, common_steps);
      room = grind (arith, common_steps);
      heard =
          ap Some (read_more c.self.inside.bytes.items c.as_slice.result.now piece rest c.self.inside.place count c.as_slice.ensures.value c.copy_from_slice.ensures.after len
          ∙ ap (λ (v : SourceInMemory). take v.place v.bytes ++ take count (piece ++ rest)) c.self.view_is);
    }
