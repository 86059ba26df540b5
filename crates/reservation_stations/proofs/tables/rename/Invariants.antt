use Rattle.std.proofs.Common.{◌≡◌, length, get_or, None, reverse}
use Rattle.reservation_stations.specs.Readiness.{waiting_count}
use Rattle.reservation_stations.specs.AreTables.{AreProducers, row_at, stations_at}
use Rattle.reservation_stations.specs.Turns.{indices_from}
use Rattle.reservation_stations.proofs.tables.rename.Given as goal

abbrev pub invariant-loop-place : goal.invariant-loop-place
invariant-loop-place l = record {
  every_register : length l.producers ≡ 258;
  no_source : get_or l.producers 256 None ≡ None;
  renamed : AreProducers l.producers (stations_at (row_at l.rows.items) (reverse (indices_from l.at_turn l.from l.place)));
  waiting : l.waiting ≡ waiting_count (stations_at (row_at l.rows.items) (indices_from l.at_turn l.from l.place));
}
