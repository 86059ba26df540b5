use Rattle.std.proofs.Common.{◌∙◌, sym, arith}
use Rattle.reservation_stations.proofs.Leaving.{retire_within, retired_done}
use Rattle.reservation_stations.proofs.stations.Stations.retire.Goals as goal

pub index-requires : goal.index-requires
index-requires c = omega (arith, c.self.inside.rows.ok, retire_within c.self.invariant.0 c.self.view_is c.args.index c.requires.oldest)

pub retire_done-requires : goal.retire_done-requires
retire_done-requires c = record {
  done = retired_done c.self.invariant.0 c.self.view_is c.args.index c.requires.oldest c.index.result.now c.index.ensures (sym c.is_done.ensures ∙ c.if-is_done.true);
}
