use Rattle.std.proofs.Common.{◌<◌, length, refl, arith}
use Rattle.std.proofs.lemmas.Option.{slice_get_read}
use Rattle.insight_model.specs.Accesses.{rise}
use Rattle.insight_laws.proofs.TextRows.{row_within}
use Rattle.cycle_watch.proofs.RowFilling.{caches_in}
use Rattle.cycle_watch.proofs.profile.Profiling.charge.Goals as goal

pub index_mut-requires : goal.index_mut-requires
index_mut-requires c = omega (arith, row_within c.args.self.now.rows c.args.by c.row-row.result c.row-row.ensures.row, c.requires.each)

pub returns-clause-counted : goal.returns-clause-counted
returns-clause-counted c = λ image all appended has.
    let self = c.args.self.now in
    let place = c.row-row.result in
    let within : place < length self.counts.items = omega (arith, row_within self.rows c.args.by place c.row-row.ensures.row, c.requires.each) in
    caches_in image all appended self _ place c.index_mut.result.now c.add_caches.new.self c.args.by (rise c.args.before.now c.args.after.now) has refl c.row-row.ensures.row
    (slice_get_read self.counts.items (length self.counts.items) place c.index_mut.result.now refl within c.index_mut.ensures.value) refl c.add_caches.ensures.added
