use Rattle.std.proofs.Common.{◌<◌, ℕ, length, refl, subst, arith}
use Rattle.std.proofs.lemmas.Option.{slice_get_read}
use Rattle.text_rows.specs.Rows.{IsRowOf}
use Rattle.insight_laws.proofs.TextRows.{row_within}
use Rattle.instruction_count.proofs.Counting.{noted_in}
use Rattle.instruction_count.proofs.counts.InstructionCounts.note.Goals as goal

pub index_mut-requires : goal.index_mut-requires
index_mut-requires c = omega (arith, row_within c.args.self.now.rows c.args.executed.now.addr c.row-row.result c.row-row.ensures.row, c.requires.each)

pub returns : goal.returns
returns c = record {
  noted = λ image run x few tells are.
      let self = c.args.self.now in
      let place = c.row-row.result in
      let within : place < length self.counts.items = omega (arith, row_within self.rows c.args.executed.now.addr place c.row-row.ensures.row, c.requires.each) in
      let P : ℕ → Type 0 = λ addr. IsRowOf self.rows addr place in
      noted_in image run x self _ place c.index_mut.result.now c.note.new.self are refl (subst P tells.addr c.row-row.ensures.row)
      (slice_get_read self.counts.items (length self.counts.items) place c.index_mut.result.now refl within c.index_mut.ensures.value) refl
      (λ row. c.note.ensures.noted image run x few tells row);
}
