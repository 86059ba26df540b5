use Rattle.mono_model.specs.Alone.{alone}
use Rattle.func_model.proofs.Running.{alone_adds, exceptions_are, stands_retired}
use Rattle.func_model.specs.Contents.{retired_in}
use Rattle.func_model.proofs.alone.AloneRun.report.Goals as goal

pub returns : goal.returns
returns g c = record {
  reported = λ s n h.
      let m = alone s n in
      let side = c.args.self.now.contents in
      c.report.ensures.reported s m h.at.stands h.at.end h.at.taken
      (exceptions_are m c.args.self.now.made (retired_in side) (alone_adds s n) h.at.steps (stands_retired s m.arch side h.at.stands));
}
