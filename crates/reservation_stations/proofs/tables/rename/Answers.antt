use Rattle.std.proofs.Common.{◌≡◌, ◌∙◌, ◌+◌, ◌%◌, ◌<◌, ℕ, length, get_or, if◌then◌else◌, List, Option, Some, None, refl, ap, sym, arith, subst}
use Rattle.std.specs.Prelude.{vec_len}
use Rattle.std.proofs.lemmas.List.{get_or_read, get_or-replicate, length-replicate}
use Rattle.reservation_stations.specs.Readiness.{is_waiting, is_done}
use Rattle.reservation_stations.specs.AreTables.{row_at, free_row}
use Rattle.reservation_stations.specs.Changes.{with_producer}
use Rattle.reservation_stations.proofs.Producers.{length-with_producer}
use Rattle.reservation_stations.proofs.Keeping.{producers_more, waiting_more, waiting_within, counted_one, counted_within, Each-turn}
use Rattle.reservation_stations.proofs.tables.rename.Goals.{then-is_done, else-is_done}
use Rattle.reservation_stations.proofs.tables.rename.Goals as goal

pub loop-place-init : goal.loop-place-init
loop-place-init c =
    let none = c.none.result in
    let count = length c.args.producers.now in
    let filled = c.fill.ensures.after (λ y is. is) in
    record {
      every_register = ap length filled ∙ length-replicate {A = Option ℕ} count none ∙ c.told-producers;
      no_source =
          ap (λ (xs : List (Option ℕ)). get_or xs 256 None) filled
          ∙ get_or-replicate {A = Option ℕ} count 256 none None (omega (arith, c.told-producers)) ∙ c.none.ensures.none;
      renamed = λ register within.
          ap (λ (xs : List (Option ℕ)). get_or xs register None) filled
          ∙ get_or-replicate {A = Option ℕ} count register none None (omega (arith, within, c.told-producers)) ∙ c.none.ensures.none;
      waiting = refl;
    }

pub index-requires : goal.index-requires
index-requires c =
    let turns = c.args.at_turn.now in
    let own = (c.args.from + c.loop-place.place) % 256 in
    let read : c.from-index.result ≡ get_or turns own 0 = c.from-index.ensures in
    subst (λ s. s < vec_len c.args.rows.now) (sym read)
    (Each-turn (λ s. s < vec_len c.args.rows.now) turns c.args.from c.args.count c.loop-place.place c.loop-place-test.true c.requires.within)

pub overflow_add-waiting : goal.overflow_add-waiting
overflow_add-waiting c =
    let turns = c.args.at_turn.now in
    let place = c.loop-place.place in
    omega (
      arith,
      c.requires.few,
      c.loop-place-test.true,
      c.loop-place.invariant.waiting,
      waiting_within turns c.args.from place c.args.rows.now.items,
      c.from-waiting.ensures,
      counted_within c.is_waiting.result,
    )

pub loop-place-preserved : goal.loop-place-preserved
loop-place-preserved c =
    let turns = c.args.at_turn.now in
    let rows = c.args.rows.now.items in
    let place = c.loop-place.place in
    let own = (c.args.from + place) % 256 in
    let index = c.from-index.result in
    let row = c.index.result.now in
    let old = c.loop-place.producers in
    let new = c.set_producer.new.producers in
    let read : index ≡ get_or turns own 0 = c.from-index.ensures in
    let below : index < vec_len c.args.rows.now =
    subst (λ s. s < vec_len c.args.rows.now) (sym read)
    (Each-turn (λ s. s < vec_len c.args.rows.now) turns c.args.from c.args.count place c.loop-place-test.true c.requires.within)
    in
    let is : row ≡ row_at rows index = get_or_read rows index row (omega (arith, below, c.args.rows.now.ok)) c.index.ensures free_row in
    let value : c.if-is_done.producer ≡ (if is_done row.mark then None else Some index) =
    elim c.if-is_done.branch [
      | then-is_done w ↦ w.producer-is ∙ w.none-producer.ensures.none ∙ ap (λ b. if b then None else Some index) (sym w.if-is_done.true ∙ c.is_done.ensures)
      | else-is_done w ↦ w.producer-is ∙ w.of-producer.ensures.some ∙ ap (λ b. if b then None else Some index) (sym w.if-is_done.false ∙ c.is_done.ensures)
    ]
    in
    let set : new ≡ with_producer row.registers.destination (if is_done row.mark then None else Some index) old =
    c.set_producer.ensures.set ∙ ap (λ o. with_producer row.registers.destination o old) value
    in
    record {
      every_register = omega (
        arith,
        c.loop-place.invariant.every_register,
        ap length set,
        length-with_producer row.registers.destination (if is_done row.mark then None else Some index) old,
      );
      no_source = c.set_producer.ensures.apart ∙ c.loop-place.invariant.no_source;
      renamed = producers_more turns c.args.from place rows index read row is old new
          (c.loop-place.invariant.every_register) c.loop-place.invariant.renamed set;
      waiting = ap (λ n. c.loop-place.waiting + n) c.from-waiting.ensures
          ∙ counted_one c.loop-place.waiting (is_waiting row.mark) c.is_waiting.result c.is_waiting.ensures
          ∙ waiting_more turns c.args.from place rows index read row is c.loop-place.waiting c.loop-place.invariant.waiting;
    }
