use Rattle.std.proofs.Common.{◌≡◌, ◌≢◌, ◌∙◌, ℕ, Option, List, ap, sym, arith, refl, length, false, is_some, eq-eqb}
use Rattle.std.specs.Prelude.{slice_set}
use Rattle.std.proofs.lemmas.Bool.{ne_eqb}
use Rattle.std.proofs.lemmas.List.{get_or_read, length-set}
use Rattle.reservation_stations.specs.declared.row.Row.{Row}
use Rattle.reservation_stations.specs.declared.station.Mark.TheVariants.{Issued, Done, Faulted}
use Rattle.reservation_stations.specs.Readiness.{is_waiting}
use Rattle.reservation_stations.specs.AreTables.{row_at, free_row, stations_at}
use Rattle.reservation_stations.specs.Changes.{without, with_producer, producer_at}
use Rattle.reservation_stations.specs.Places.{place_of}
use Rattle.reservation_stations.specs.AreSets.{missing_at, waits, waits_at}
use Rattle.reservation_stations.specs.Turns.{indices_from}
use Rattle.reservation_stations.proofs.Entering.{own_tables, own_seen}
use Rattle.reservation_stations.proofs.Kept.{none, one, held_with, AreTables-marked, AreTables-told, AreTables-silent, seen-written}
use Rattle.reservation_stations.proofs.Places.{turned_marked}
use Rattle.reservation_stations.proofs.Missing.{put_same, fed-same}
use Rattle.reservation_stations.proofs.Feeding.{losing_none, losing_one, never_awaits}
use Rattle.reservation_stations.proofs.OfStations.{AreSets-marked, of_turn}
use Rattle.reservation_stations.proofs.stations.Stations.wake.Goals as goal

pub index-requires : goal.index-requires
index-requires c = omega (arith, c.self.inside.rows.ok, (held_with c.self.invariant.0 c.self.view_is c.args.index Issued c.requires.issued).0)

pub index_mut-requires : goal.index_mut-requires
index_mut-requires c = omega (arith, c.self.inside.rows.ok, (held_with c.self.invariant.0 c.self.view_is c.args.index Issued c.requires.issued).0)

pub index-requires-else-faulted : goal.index-requires-else-faulted
index-requires-else-faulted c =
    omega (arith, c.self.inside.rows.ok, (held_with c.self.invariant.0 c.self.view_is c.args.index Issued c.requires.issued).0)

pub index_mut-requires-else-faulted : goal.index_mut-requires-else-faulted
index_mut-requires-else-faulted c =
    omega (arith, c.self.inside.rows.ok, (held_with c.self.invariant.0 c.self.view_is c.args.index Issued c.requires.issued).0)

pub invariant_of-self : goal.invariant_of-self
invariant_of-self c =
    let rows = c.self.inside.rows.items in
    let retired = c.self.inside.retired in
    let index = c.args.index in
    let indices = indices_from c.self.inside.at_turn retired c.self.inside.count in
    let held = held_with c.self.invariant.0 c.self.view_is index Issued c.requires.issued in
    let row = c.index_mut.result.now in
    let read : row ≡ row_at rows index = get_or_read rows index row held.0 c.index_mut.ensures.value free_row in
    let first : c.index.result.now ≡ row_at rows index = get_or_read rows index c.index.result.now held.0 c.index.ensures free_row in
    let own : (row_at rows index).turn ≡ c.index.result.now.turn = ap (λ (e : Row). e.turn) (sym first) in (
      own_tables (AreTables-marked c.self.invariant.0 c.self.view_is index Issued Faulted c.requires.issued row c.index_mut.ensures.value refl refl),
      turned_marked retired indices rows index (record row { mark = Faulted }) c.self.invariant.1 held.0 (ap (λ (e : Row). e.turn) read),
      AreSets-marked c.self.invariant.0 c.self.view_is index Issued Faulted c.requires.issued row c.index_mut.ensures.value retired (omega arith) c.self.invariant.1
          c.index.result.now.turn (omega arith) own none (λ other differ. refl) refl
          (c.finish.ensures.finished (length rows) _ _ _ c.self.invariant.2)
          (λ t within. put_same c.index.result.now.turn false (λ u. waits_at (stations_at (row_at rows) indices) (place_of retired u)) t
          (of_turn c.self.invariant.0 c.self.view_is index Issued Faulted c.requires.issued row c.index_mut.ensures.value retired (omega arith) c.self.invariant.1
          c.index.result.now.turn (omega arith) own waits is_waiting (λ station. refl)))
          (λ t within. refl)
          (λ t within. sym (losing_none (missing_at (stations_at (row_at rows) indices) (place_of retired t)))),
      c.self.invariant.3,
    )

pub tell-requires : goal.tell-requires
tell-requires c = record {
  inside = omega (
    arith,
    (held_with c.self.invariant.0 c.self.view_is c.args.index Issued c.requires.issued).0,
    c.finish.new.self.dependents.ok,
    (c.finish.ensures.finished (length c.self.inside.rows.items) _ _ _ c.self.invariant.2).every_index,
  );
}

pub invariant_of-self-then-is_some : goal.invariant_of-self-then-is_some
invariant_of-self-then-is_some c =
    let rows = c.self.inside.rows.items in
    let retired = c.self.inside.retired in
    let index = c.args.index in
    let indices = indices_from c.self.inside.at_turn retired c.self.inside.count in
    let held = held_with c.self.invariant.0 c.self.view_is index Issued c.requires.issued in
    let row = c.index_mut-else-faulted.result.now in
    let read : row ≡ row_at rows index = get_or_read rows index row held.0 c.index_mut-else-faulted.ensures.value free_row in
    let first : c.index.result.now ≡ row_at rows index = get_or_read rows index c.index.result.now held.0 c.index.ensures free_row in
    let own : (row_at rows index).turn ≡ c.index.result.now.turn = ap (λ (e : Row). e.turn) (sym first) in
    let its : c.index-else-faulted.result.now ≡ row_at rows index = get_or_read rows index c.index-else-faulted.result.now held.0 c.index-else-faulted.ensures free_row in
    let table : Row → List (Option ℕ) = λ e. with_producer e.registers.destination (without index (producer_at c.self.inside.producers e.registers.destination)) c.self.inside.producers in
    let dropped : c.drop_producer.new.producers ≡ table (row_at rows index) = c.drop_producer.ensures.dropped ∙ ap table its in
    let others : (other : ℕ) → other ≢ index → one index other ≡ false = λ other differ. ne_eqb other index differ in (
      own_tables (AreTables-told c.self.invariant.0 c.self.view_is index Issued Done c.requires.issued row c.index_mut-else-faulted.ensures.value
          c.drop_producer.new.producers dropped c.drop_producer.ensures.apart (sym (eq-eqb index index refl)) refl),
      turned_marked retired indices rows index (record row { mark = Done }) c.self.invariant.1 held.0 (ap (λ (e : Row). e.turn) read),
      AreSets-marked c.self.invariant.0 c.self.view_is index Issued Done c.requires.issued row c.index_mut-else-faulted.ensures.value retired (omega arith) c.self.invariant.1
          c.index.result.now.turn (omega arith) own (one index) others (sym (eq-eqb index index refl))
          (c.tell.ensures.told (length rows) _ _ _ (c.finish.ensures.finished (length rows) _ _ _ c.self.invariant.2))
          (λ t within. put_same c.index.result.now.turn false (λ u. waits_at (stations_at (row_at rows) indices) (place_of retired u)) t
          (of_turn c.self.invariant.0 c.self.view_is index Issued Done c.requires.issued row c.index_mut-else-faulted.ensures.value retired (omega arith) c.self.invariant.1
          c.index.result.now.turn (omega arith) own waits is_waiting (λ station. refl)))
          (λ t within. refl)
          (λ t within. sym (losing_one index (missing_at (stations_at (row_at rows) indices) (place_of retired t)))),
      c.self.invariant.3,
    )

pub invariant_of-self-else-is_some : goal.invariant_of-self-else-is_some
invariant_of-self-else-is_some c =
    let rows = c.self.inside.rows.items in
    let retired = c.self.inside.retired in
    let index = c.args.index in
    let indices = indices_from c.self.inside.at_turn retired c.self.inside.count in
    let held = held_with c.self.invariant.0 c.self.view_is index Issued c.requires.issued in
    let row = c.index_mut-else-faulted.result.now in
    let read : row ≡ row_at rows index = get_or_read rows index row held.0 c.index_mut-else-faulted.ensures.value free_row in
    let first : c.index.result.now ≡ row_at rows index = get_or_read rows index c.index.result.now held.0 c.index.ensures free_row in
    let own : (row_at rows index).turn ≡ c.index.result.now.turn = ap (λ (e : Row). e.turn) (sym first) in
    let its : c.index-else-faulted.result.now ≡ row_at rows index = get_or_read rows index c.index-else-faulted.result.now held.0 c.index-else-faulted.ensures free_row in
    let silent : is_some (row_at rows index).registers.destination ≡ false =
    ap (λ (e : Row). is_some e.registers.destination) (sym its) ∙ sym c.is_some.ensures.some ∙ c.if-is_some.false in
    let others : (other : ℕ) → other ≢ index → one index other ≡ false = λ other differ. ne_eqb other index differ in (
      own_tables (AreTables-silent c.self.invariant.0 c.self.view_is index Issued Done c.requires.issued row c.index_mut-else-faulted.ensures.value
          silent (sym (eq-eqb index index refl)) refl),
      turned_marked retired indices rows index (record row { mark = Done }) c.self.invariant.1 held.0 (ap (λ (e : Row). e.turn) read),
      AreSets-marked c.self.invariant.0 c.self.view_is index Issued Done c.requires.issued row c.index_mut-else-faulted.ensures.value retired (omega arith) c.self.invariant.1
          c.index.result.now.turn (omega arith) own (one index) others (sym (eq-eqb index index refl))
          (c.finish.ensures.finished (length rows) _ _ _ c.self.invariant.2)
          (λ t within. put_same c.index.result.now.turn false (λ u. waits_at (stations_at (row_at rows) indices) (place_of retired u)) t
          (of_turn c.self.invariant.0 c.self.view_is index Issued Done c.requires.issued row c.index_mut-else-faulted.ensures.value retired (omega arith) c.self.invariant.1
          c.index.result.now.turn (omega arith) own waits is_waiting (λ station. refl)))
          (λ t within. refl)
          (λ t within. sym (losing_one index (missing_at (stations_at (row_at rows) indices) (place_of retired t))
          ∙ fed-same index (missing_at (stations_at (row_at rows) indices) (place_of retired t)) (never_awaits index rows indices silent (place_of retired t)))),
      c.self.invariant.3,
    )

pub returns-then-faulted : goal.returns-then-faulted
returns-then-faulted c =
    let rows = c.self.inside.rows.items in
    let indices = indices_from c.self.inside.at_turn c.self.inside.retired c.self.inside.count in
    let row : Row = record c.index_mut.result.now { mark = Faulted } in
    record {
      woken = rw c.if-faulted.true
          (own_seen (length rows) indices (slice_set rows c.args.index row) (length-set rows c.args.index row)
          (seen-written c.self.invariant.0 c.self.view_is c.args.index Issued Faulted c.requires.issued c.index_mut.result.now c.index_mut.ensures.value));
    }

pub returns-then-is_some : goal.returns-then-is_some
returns-then-is_some c =
    let rows = c.self.inside.rows.items in
    let indices = indices_from c.self.inside.at_turn c.self.inside.retired c.self.inside.count in
    let row : Row = record c.index_mut-else-faulted.result.now { mark = Done } in
    record {
      woken = rw c.if-faulted.false
          (own_seen (length rows) indices (slice_set rows c.args.index row) (length-set rows c.args.index row)
          (seen-written c.self.invariant.0 c.self.view_is c.args.index Issued Done c.requires.issued c.index_mut-else-faulted.result.now c.index_mut-else-faulted.ensures.value));
    }

pub returns-else-is_some : goal.returns-else-is_some
returns-else-is_some c =
    let rows = c.self.inside.rows.items in
    let indices = indices_from c.self.inside.at_turn c.self.inside.retired c.self.inside.count in
    let row : Row = record c.index_mut-else-faulted.result.now { mark = Done } in
    record {
      woken = rw c.if-faulted.false
          (own_seen (length rows) indices (slice_set rows c.args.index row) (length-set rows c.args.index row)
          (seen-written c.self.invariant.0 c.self.view_is c.args.index Issued Done c.requires.issued c.index_mut-else-faulted.result.now c.index_mut-else-faulted.ensures.value));
    }
