use Rattle.std.proofs.Common.{◌≡◌, ◌∙◌, ◌+◌, ◌%◌, ◌<◌, [], ◌∷◌, ◌++◌, ℕ, Option, Some, true, length, reverse, arith, refl, ap, sym, subst}
use Rattle.std.specs.Prelude.{vec_len, slice_set}
use Rattle.std.specs.Option.{ForSome}
use Rattle.std.proofs.lemmas.List.{length-set}
use Rattle.reservation_stations.specs.declared.row.Row.{Row}
use Rattle.reservation_stations.specs.declared.station.Mark.TheVariants.{Waiting}
use Rattle.reservation_stations.specs.Readiness.{Window, executes_at}
use Rattle.reservation_stations.specs.AreTables.{station_in, row_at, stations_at, awaited}
use Rattle.reservation_stations.specs.Changes.{with_producer}
use Rattle.reservation_stations.specs.Turns.{indices_from}
use Rattle.reservation_stations.specs.Places.{place_of}
use Rattle.reservation_stations.specs.AreSets.{AreSets, AreSetsOf, Missing, nothing, missing, missing_at, waits_at, put}
use Rattle.reservation_stations.proofs.Kept.{seen}
use Rattle.reservation_stations.proofs.Entering.{room, is_fresh, waiting_fits, AreTables-entered, seen-entered, own_tables, own_seen}
use Rattle.reservation_stations.proofs.Turns.{length-indices, indices_entered}
use Rattle.reservation_stations.proofs.Reading.{all_awaited, awaited_seen, length_seen}
use Rattle.reservation_stations.proofs.Places.{turned_entered}
use Rattle.reservation_stations.proofs.Among.{seen_sets}
use Rattle.reservation_stations.proofs.Standing.{nothing_yet, place_there}
use Rattle.reservation_stations.proofs.OfStations.{AreSets-entered}
use Rattle.reservation_stations.proofs.stations.Stations.enter.Goals as goal

pub enter-requires : goal.enter-requires
enter-requires c =
    let older = stations_at (row_at c.self.inside.rows.items) (reverse (indices_from c.self.inside.at_turn c.self.inside.retired c.self.inside.count)) in
    let long : length c.self.inside.rows.items ≡ vec_len c.self.inside.sets.dependents = omega (arith, c.self.inside.sets.dependents.ok, c.self.invariant.2.every_index) in
    let held : (source : Option ℕ) → ForSome (awaited older source) (λ index. index < vec_len c.self.inside.sets.dependents) =
    λ source. subst (λ n. ForSome (awaited older source) (λ index. index < n)) long (all_awaited c.self.invariant.0 c.self.view_is source)
    in
    record {
      inside = subst (λ (o : Option ℕ). ForSome o (λ index. index < vec_len c.self.inside.sets.dependents)) (sym (c.awaited-first.ensures.awaited older c.self.invariant.0.each_producer c.self.invariant.0.no_source)) (held c.args.registers.now.sources.0);
      inside_second = subst (λ (o : Option ℕ). ForSome o (λ index. index < vec_len c.self.inside.sets.dependents)) (sym (c.awaited-second.ensures.awaited older c.self.invariant.0.each_producer c.self.invariant.0.no_source)) (held c.args.registers.now.sources.1);
    }

pub overflow_add-turn : goal.overflow_add-turn
overflow_add-turn c =
    omega (
      arith,
      room c.self.invariant.0 c.self.view_is c.args.index c.requires.within c.requires.free,
      c.self.invariant.0.limit,
      length-indices c.self.inside.at_turn c.self.inside.retired c.self.inside.count,
    )

pub overflow_add-self : goal.overflow_add-self
overflow_add-self c =
    omega (
      arith,
      room c.self.invariant.0 c.self.view_is c.args.index c.requires.within c.requires.free,
      c.self.invariant.0.limit,
      length-indices c.self.inside.at_turn c.self.inside.retired c.self.inside.count,
    )

pub overflow_add-self-2 : goal.overflow_add-self-2
overflow_add-self-2 c = omega (arith, waiting_fits c.self.invariant.0 c.self.view_is c.args.index c.requires.within c.requires.free)

pub invariant_of-self : goal.invariant_of-self
invariant_of-self c =
    let rows = c.self.inside.rows.items in
    let index = c.args.index in
    let within : index < length rows = omega (arith, c.requires.within, ap (λ (w : Window). w.capacity) c.self.view_is) in
    let items = c.self.inside.at_turn in
    let retired = c.self.inside.retired in
    let count = c.self.inside.count in
    let indices = indices_from items retired count in
    let long : length indices ≡ count = length-indices items retired count in
    let few : length indices < length rows = room c.self.invariant.0 c.self.view_is index c.requires.within c.requires.free in
    let fits : count < 256 = omega (arith, few, long, c.self.invariant.0.limit) in
    let turn = (c.from.result + count) % 256 in
    let told : turn ≡ (retired + count) % 256 = ap (λ n. (n + count) % 256) c.from.ensures in
    let behind : indices_from (slice_set items turn index) retired (count + 1) ≡ indices ++ index ∷ [] =
    indices_entered items retired count turn index c.self.invariant.3 fits told
    in
    let row : Row = record {
      registers = c.args.registers.now;
      mark = Waiting;
      turn = turn;
    } in
    let stations = c.args.self.now.stations in
    let station = station_in index row in
    let many : length stations ≡ count = length_seen c.self.invariant.0 c.self.view_is ∙ long in
    let there : place_of retired turn ≡ length stations = ap (place_of retired) told ∙ place_there retired count (omega arith) fits ∙ sym many in
    let old : AreSetsOf (length rows) retired stations c.self.inside.sets =
    seen_sets (length rows) retired c.self.inside.sets (seen (length rows) indices rows) c.args.self.now c.self.invariant.2 c.self.view_is
    in
    let missed : ℕ → Missing = λ u. missing_at stations (place_of retired u) in
    let free : missed turn ≡ nothing = nothing_yet missing nothing (λ older. refl) retired (omega arith) stations station (omega (arith, many, fits)) turn (omega arith) there in
    let entered = c.enter.ensures.entered (length rows) _ _ missed free old in
    let value : record { first = c.awaited-first.result; second = c.awaited-second.result } ≡ missing (reverse stations) (Some station) =
    λ i. record {
      first = (c.awaited-first.ensures.awaited (stations_at (row_at rows) (reverse indices)) c.self.invariant.0.each_producer c.self.invariant.0.no_source ∙ awaited_seen c.self.invariant.0 c.self.view_is c.args.registers.now.sources.0) i;
      second = (c.awaited-second.ensures.awaited (stations_at (row_at rows) (reverse indices)) c.self.invariant.0.each_producer c.self.invariant.0.no_source ∙ awaited_seen c.self.invariant.0 c.self.view_is c.args.registers.now.sources.1) i;
    }
    in
    let now : AreSetsOf (length rows) retired (stations ++ station ∷ []) c.enter.new.self =
    AreSets-entered stations station retired turn refl refl (omega arith) (omega (arith, many, fits)) (omega arith) there
    (subst (λ (v : Missing). AreSets (length rows) (put turn true (λ u. waits_at stations (place_of retired u))) (λ u. executes_at stations (place_of retired u)) (put turn v missed) c.enter.new.self) value entered)
    in
    let seen_now = seen-entered c.self.invariant.0 c.self.view_is index c.requires.within c.requires.free row in
    let own : AreSetsOf (length rows) retired (stations_at (row_at (slice_set rows index row)) (indices ++ index ∷ [])) c.enter.new.self =
    subst (λ (w : Window). AreSetsOf (length rows) retired w.stations c.enter.new.self) (sym seen_now) now
    in (
      own_tables {capacity = length rows} (rw behind
          (AreTables-entered c.self.invariant.0 c.self.view_is index c.requires.within c.requires.free row c.set_producer.new.producers
          refl (c.set_producer.ensures.set ∙ ap (λ o. with_producer c.args.registers.now.destination o c.self.inside.producers) c.of.ensures.some) c.set_producer.ensures.apart)),
      rw behind
          (turned_entered retired indices rows index row c.self.invariant.1 within (is_fresh c.self.invariant.0 c.self.view_is index c.requires.within c.requires.free)
          (omega arith) (omega (arith, fits, long)) (told ∙ ap (λ n. (retired + n) % 256) (sym long))),
      rw (behind, length-set rows index row) own,
      length-set items turn index ∙ c.self.invariant.3,
    )

pub returns : goal.returns
returns c =
    let items = c.self.inside.at_turn in
    let retired = c.self.inside.retired in
    let count = c.self.inside.count in
    let rows = c.self.inside.rows.items in
    let indices = indices_from items retired count in
    let room_left : length indices < length rows = room c.self.invariant.0 c.self.view_is c.args.index c.requires.within c.requires.free in
    let fits : count < 256 = omega (arith, room_left, length-indices items retired count, c.self.invariant.0.limit) in
    let row : Row = record {
      registers = c.args.registers.now;
      mark = Waiting;
      turn = (c.from.result + count) % 256;
    } in
    let new = slice_set rows c.args.index row in
    let now = indices_from (slice_set items row.turn c.args.index) retired (count + 1) in
    record {
      entered = own_seen (length rows) now new (length-set rows c.args.index row)
          (ap (λ xs. seen (length rows) xs new) (indices_entered items retired count row.turn c.args.index c.self.invariant.3 fits (ap (λ n. (n + count) % 256) c.from.ensures))
          ∙ seen-entered c.self.invariant.0 c.self.view_is c.args.index c.requires.within c.requires.free row);
    }
