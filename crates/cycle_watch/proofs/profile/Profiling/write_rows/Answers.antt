use Rattle.std.proofs.Common.{◌≡◌, ◌∙◌, ◌<◌, ◌≤◌, ℕ, List, [], length, take, get_or, Option, Some, ap, sym, subst, arith}
use Rattle.std.specs.Prelude.{slice_get}
use Rattle.std.proofs.lemmas.List.{take_all}
use Rattle.std.proofs.lemmas.Option.{slice_get-get_or}
use Rattle.std.proofs.lemmas.Result.{err_from_is_err_and}
use Rattle.fsim_ports.specs.Sink.{Breaks, grown}
use Rattle.fsim_ports.proofs.Writing.{grown_twice}
use Rattle.mono_model.specs.Report.{Text}
use Rattle.mono_model.specs.Setup.{caches_params}
use Rattle.insight_model.specs.Profile.{other_row, profile_line}
use Rattle.insight_laws.proofs.Listed.{has_row}
use Rattle.insight_laws.proofs.TextRows.{addresses, addresses_length}
use Rattle.report_text.proofs.RowLines.{grown_nothing, row_breaks, row_next, text_of}
use Rattle.cycle_watch.specs.declared.profile_row.ProfileRow.{ProfileRow}
use Rattle.cycle_watch.specs.Profiled.{row_text, run_events}
use Rattle.cycle_watch.proofs.ProfileText.{facts_of, lines_all, lines_are, lines_to, place_within, text_is}
use Rattle.cycle_watch.proofs.profile.Profiling.write_rows.Goals as goal

pub loop-place-init : goal.loop-place-init
loop-place-init g c = record { count = omega arith; written = λ s kind run is short. grown_nothing (g.K.Sink.written c.args.sink.now) }

-- the row at a place, as reading it gives it
abbrev row_at : List ProfileRow → ℕ → ProfileRow
row_at rows place = get_or rows place (record { word = 0; retired = 0; trapped = 0; taken = 0; fetched = 0; squashed = 0; mispredicted = 0; caches = []; spent = [] })

row_there : (read rows : List ProfileRow) (place : ℕ) → read ≡ rows → place < length read → slice_get rows place ≡ Some (row_at read place)
row_there read rows place is within = ap (λ (xs : List ProfileRow). slice_get xs place) (sym is)
    ∙ slice_get-get_or read place (record { word = 0; retired = 0; trapped = 0; taken = 0; fetched = 0; squashed = 0; mispredicted = 0; caches = []; spent = [] }) within

pub returns-in_err-write_row-clause-written : goal.returns-in_err-write_row-clause-written
returns-in_err-write_row-clause-written g c = λ s kind run is short.
    let self = c.args.self.now in
    let p = caches_params s.params in
    let place = c.loop-place.place in
    let row = row_at c.deref-row-items.result.now place in
    let done = c.loop-place.invariant in
    let all = run_events s.image p kind run in
    let left = err_from_is_err_and c.from_residual.result c.from_residual.ensures.1 in
    let there = row_there c.deref-row-items.result.now self.counts.items place c.deref-row-items.ensures.value c.loop-place-test.true in
    let P : Option ℕ → Type 0 = λ addr. Breaks (row_text addr row) (g.K.Sink.faults c.loop-place.sink) (g.K.Sink.faults c.write_row.new.sink) (g.K.Sink.written c.loop-place.sink) (g.K.Sink.written c.write_row.new.sink) in
    let B : Text → Type 0 = λ t. Breaks t (g.K.Sink.faults c.args.sink.now) (g.K.Sink.faults c.write_row.new.sink) (g.K.Sink.written c.args.sink.now) (g.K.Sink.written c.write_row.new.sink) in
    rw (left.1)
    (subst B (sym (lines_are kind s run ∙ lines_all s.image p kind run self is short))
    (row_breaks (profile_line s.image (facts_of run) all) (λ r. has_row r all) (addresses self.rows) place other_row (row_text (slice_get self.rows place) row)
    (place_within s.image p kind run self is short place row there) (text_is s.image p kind run self is short place row there)
    done.count (done.written s kind run is short) (subst P c.address.ensures.address c.in_err-write_row.ensures.written)))

pub loop-place-preserved : goal.loop-place-preserved
loop-place-preserved g c =
    let self = c.args.self.now in
    let place = c.loop-place.place in
    let row = row_at c.deref-row-items.result.now place in
    let done = c.loop-place.invariant in
    let old = g.K.Sink.written c.args.sink.now in
    let there = row_there c.deref-row-items.result.now self.counts.items place c.deref-row-items.ensures.value c.loop-place-test.true in
    let text = row_text (slice_get self.rows place) row in
    record {
      count = omega (arith, done.count, c.in_ok-write_row.ensures.count);
      written = λ s kind run is short.
          let p = caches_params s.params in
          let all = run_events s.image p kind run in
          c.in_ok-write_row.ensures.written
          ∙ ap (λ (addr : Option ℕ). grown (g.K.Sink.written c.loop-place.sink) (row_text addr row)) c.address.ensures.address
          ∙ ap (λ w. grown w text) (done.written s kind run is short)
          ∙ grown_twice old (lines_to s.image p kind run self is short (take place (addresses self.rows))) text
          ∙ ap (grown old)
          (sym
          (row_next (profile_line s.image (facts_of run) all) (λ r. has_row r all) (addresses self.rows) place other_row text
          (place_within s.image p kind run self is short place row there) (text_is s.image p kind run self is short place row there)));
    }

pub returns : goal.returns
returns g c =
    let self = c.args.self.now in
    let place = c.loop-place.place in
    let done = c.loop-place.invariant in
    let old = g.K.Sink.written c.args.sink.now in
    record {
      count = done.count;
      written = λ s kind run is short.
          let p = caches_params s.params in
          let all = run_events s.image p kind run in
          let same : length c.deref-row-items.result.now ≡ length self.counts.items = ap (length {A = ProfileRow}) c.deref-row-items.ensures.value in
          let many : length (addresses self.rows) ≤ place = omega (arith, addresses_length self.rows, is.accessed.counted.each, same, c.loop-place-test.false) in
          done.written s kind run is short
          ∙ ap (grown old)
          (ap (text_of (profile_line s.image (facts_of run) all) (λ r. has_row r all)) (take_all place (addresses self.rows) many)
          ∙ sym (lines_are kind s run ∙ lines_all s.image p kind run self is short));
    }
