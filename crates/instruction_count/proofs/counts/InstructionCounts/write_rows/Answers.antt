use Rattle.std.proofs.Common.{◌≡◌, ◌∙◌, ◌<◌, ◌≤◌, ℕ, List, length, take, get_or, Option, Some, ap, sym, subst, arith}
use Rattle.std.specs.Prelude.{slice_get}
use Rattle.std.proofs.lemmas.List.{take_all}
use Rattle.std.proofs.lemmas.Option.{slice_get-get_or}
use Rattle.std.proofs.lemmas.Result.{err_from_is_err_and}
use Rattle.fsim_ports.specs.Sink.{Breaks, grown}
use Rattle.fsim_ports.proofs.Writing.{grown_twice}
use Rattle.instruction_count.specs.declared.row.CountRow.{CountRow}
use Rattle.instruction_count.specs.Counted.{row_text, run_events}
use Rattle.insight_model.specs.Count.{count_row}
use Rattle.insight_model.specs.Profile.{other_row}
use Rattle.insight_laws.proofs.Listed.{has_row}
use Rattle.insight_laws.proofs.TextRows.{addresses, addresses_length}
use Rattle.mono_model.specs.Report.{Text}
use Rattle.report_text.proofs.RowLines.{grown_nothing, row_breaks, row_next}
use Rattle.instruction_count.proofs.Written.{lines_to, text_all, text_is, within}
use Rattle.instruction_count.proofs.counts.InstructionCounts.write_rows.Goals as goal

pub loop-place-init : goal.loop-place-init
loop-place-init g c = record { count = omega arith; written = λ image run are. grown_nothing (g.K.Sink.written c.args.sink.now) }

-- the row at a place, as reading it gives it
abbrev row_at : List CountRow → ℕ → CountRow
row_at rows place = get_or rows place (record { word = 0; retired = 0; trapped = 0; taken = 0 })

row_there : (read rows : List CountRow) (place : ℕ) → read ≡ rows → place < length read → slice_get rows place ≡ Some (row_at read place)
row_there read rows place is within = ap (λ (xs : List CountRow). slice_get xs place) (sym is) ∙ slice_get-get_or read place (record { word = 0; retired = 0; trapped = 0; taken = 0 }) within

pub returns-in_err-write_row-clause-written : goal.returns-in_err-write_row-clause-written
returns-in_err-write_row-clause-written g c = λ image run are.
    let self = c.args.self.now in
    let place = c.loop-place.place in
    let row = row_at c.deref-row-items.result.now place in
    let done = c.loop-place.invariant in
    let left = err_from_is_err_and c.from_residual.result c.from_residual.ensures.1 in
    let there = row_there c.deref-row-items.result.now self.counts.items place c.deref-row-items.ensures.value c.loop-place-test.true in
    let P : Option ℕ → Type 0 = λ addr. Breaks (row_text addr row) (g.K.Sink.faults c.loop-place.sink) (g.K.Sink.faults c.write_row.new.sink) (g.K.Sink.written c.loop-place.sink) (g.K.Sink.written c.write_row.new.sink) in
    let B : Text → Type 0 = λ t. Breaks t (g.K.Sink.faults c.args.sink.now) (g.K.Sink.faults c.write_row.new.sink) (g.K.Sink.written c.args.sink.now) (g.K.Sink.written c.write_row.new.sink) in
    rw (left.1)
    (subst B (sym (text_all image run self.rows are.rows))
    (row_breaks (count_row image run (run_events image run)) (λ r. has_row r (run_events image run)) (addresses self.rows) place other_row (row_text (slice_get self.rows place) row)
    (within image run self place row are there) (text_is image run self place row are there) done.count (done.written image run are) (subst P c.address.ensures.address c.in_err-write_row.ensures.written)))

pub loop-place-preserved : goal.loop-place-preserved
loop-place-preserved g c =
    let self = c.args.self.now in
    let place = c.loop-place.place in
    let row = row_at c.deref-row-items.result.now place in
    let done = c.loop-place.invariant in
    let old = g.K.Sink.written c.args.sink.now in
    let there = row_there c.deref-row-items.result.now self.counts.items place c.deref-row-items.ensures.value c.loop-place-test.true in
    let text = row_text (slice_get self.rows place) row in
    record {
      count = omega (arith, done.count, c.in_ok-write_row.ensures.count);
      written = λ image run are.
          c.in_ok-write_row.ensures.written
          ∙ ap (λ (addr : Option ℕ). grown (g.K.Sink.written c.loop-place.sink) (row_text addr row)) c.address.ensures.address
          ∙ ap (λ w. grown w text) (done.written image run are)
          ∙ grown_twice old (lines_to image run (take place (addresses self.rows))) text
          ∙ ap (grown old)
          (sym
          (row_next (count_row image run (run_events image run)) (λ r. has_row r (run_events image run)) (addresses self.rows) place other_row text
          (within image run self place row are there) (text_is image run self place row are there)));
    }

pub returns : goal.returns
returns g c =
    let self = c.args.self.now in
    let place = c.loop-place.place in
    let done = c.loop-place.invariant in
    let old = g.K.Sink.written c.args.sink.now in
    record {
      count = done.count;
      written = λ image run are.
          let same : length c.deref-row-items.result.now ≡ length self.counts.items = ap (length {A = CountRow}) c.deref-row-items.ensures.value in
          let all : length (addresses self.rows) ≤ place = omega (arith, addresses_length self.rows, are.each, same, c.loop-place-test.false) in
          done.written image run are
          ∙ ap (grown old) (ap (lines_to image run) (take_all place (addresses self.rows) all) ∙ sym (text_all image run self.rows are.rows));
    }
