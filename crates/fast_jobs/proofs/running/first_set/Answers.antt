use Rattle.std.proofs.Common.{map, vec_len, ◌/◌, ap, ◌∙◌}
use Rattle.fast_jobs.proofs.Sweeps.{first-set}
use Rattle.fast_jobs.proofs.running.first_set.Goals as goal

pub returns : goal.returns
returns g c = record {
  first = c.truncate.ensures.items;
  order = ap (map g.D.Device.kind) c.truncate.ensures.items ∙ first-set g.D.Device.kind (vec_len c.args.devices / 3) c.args.devices.items c.requires.sets;
}
