use Rattle.std.proofs.Common.{◌≡◌, ap, sym, arith, refl, length}
use Rattle.std.specs.Prelude.{slice_set}
use Rattle.std.proofs.lemmas.List.{get_or_read, length-set}
use Rattle.reservation_stations.specs.declared.row.Row.{Row}
use Rattle.reservation_stations.specs.declared.station.Mark.TheVariants.{Waiting, Issued}
use Rattle.reservation_stations.specs.AreTables.{row_at, free_row, stations_at}
use Rattle.reservation_stations.specs.Places.{place_of}
use Rattle.reservation_stations.specs.AreSets.{missing_at}
use Rattle.reservation_stations.specs.Turns.{indices_from}
use Rattle.reservation_stations.proofs.Entering.{own_tables, own_seen}
use Rattle.reservation_stations.proofs.Kept.{none, held_with, some_wait, AreTables-fewer, seen-written}
use Rattle.reservation_stations.proofs.Places.{turned_marked}
use Rattle.reservation_stations.proofs.Feeding.{losing_none}
use Rattle.reservation_stations.proofs.OfStations.{AreSets-marked}
use Rattle.reservation_stations.proofs.stations.Stations.issue.Goals as goal

pub index-requires : goal.index-requires
index-requires c = omega (arith, c.self.inside.rows.ok, (held_with c.self.invariant.0 c.self.view_is c.args.index Waiting c.requires.waiting).0)

pub index_mut-requires : goal.index_mut-requires
index_mut-requires c = omega (arith, c.self.inside.rows.ok, (held_with c.self.invariant.0 c.self.view_is c.args.index Waiting c.requires.waiting).0)

pub overflow_sub-self : goal.overflow_sub-self
overflow_sub-self c =
    some_wait c.self.invariant.0 c.self.view_is c.args.index Waiting Issued c.requires.waiting c.index_mut.result.now c.index_mut.ensures.value refl refl

pub invariant_of-self : goal.invariant_of-self
invariant_of-self c =
    let rows = c.self.inside.rows.items in
    let retired = c.self.inside.retired in
    let index = c.args.index in
    let indices = indices_from c.self.inside.at_turn retired c.self.inside.count in
    let held = held_with c.self.invariant.0 c.self.view_is index Waiting c.requires.waiting in
    let row = c.index_mut.result.now in
    let read : row ≡ row_at rows index = get_or_read rows index row held.0 c.index_mut.ensures.value free_row in
    let first : c.index.result.now ≡ row_at rows index = get_or_read rows index c.index.result.now held.0 c.index.ensures free_row in (
      own_tables (AreTables-fewer c.self.invariant.0 c.self.view_is index Waiting Issued c.requires.waiting row c.index_mut.ensures.value refl refl refl),
      turned_marked retired indices rows index (record row { mark = Issued }) c.self.invariant.1 held.0 (ap (λ (e : Row). e.turn) read),
      AreSets-marked c.self.invariant.0 c.self.view_is index Waiting Issued c.requires.waiting row c.index_mut.ensures.value retired (omega arith) c.self.invariant.1
          c.index.result.now.turn (omega arith) (ap (λ (e : Row). e.turn) (sym first)) none (λ other differ. refl) refl
          (c.begin.ensures.began (length rows) _ _ _ c.self.invariant.2) (λ t within. refl) (λ t within. refl)
          (λ t within. sym (losing_none (missing_at (stations_at (row_at rows) indices) (place_of retired t)))),
      c.self.invariant.3,
    )

pub returns : goal.returns
returns c =
    let rows = c.self.inside.rows.items in
    let row : Row = record c.index_mut.result.now { mark = Issued } in
    record {
      issued = own_seen (length rows) (indices_from c.self.inside.at_turn c.self.inside.retired c.self.inside.count) (slice_set rows c.args.index row) (length-set rows c.args.index row)
          (seen-written c.self.invariant.0 c.self.view_is c.args.index Waiting Issued c.requires.waiting c.index_mut.result.now c.index_mut.ensures.value);
    }
