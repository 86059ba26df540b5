-- What the functional side asks for before it obeys an order or produces an entry.
use Rattle.std.proofs.Common.{◌≡◌, ◌<◌, ◌≤◌, ℕ, Bool, true, false, Some, List, length, ◌∙◌, arith}
use Rattle.rollback_cmds.specs.declared.order.Order.{Order}
use Rattle.rollback_cmds.specs.declared.order.Order.TheVariants.{Set, Commit, Interrupt, Time, Stop, Sync}
use Rattle.mono_model.specs.declared.setup.Setup.{Setup}
use Rattle.mono_model.specs.Setup.{is_setup}
use Rattle.mono_model.specs.Path.{path}
use Rattle.mono_model.specs.Demand.{number_of, order}
use Rattle.machine_laws.specs.Numbers.{last_commit}
use Rattle.machine_laws.specs.Output.{IsInRoom}
use Rattle.machine_laws.specs.NextOrder.{AreSmall, MayObeyNext}
use Rattle.machine_laws.proofs.NextOrder.{may_obey_next}
use Rattle.machine_laws.proofs.OrderSteps.{told_at_commit, told_small}
use Rattle.mono_model.proofs.Sound.{setup_facts}
use Rattle.func_model.specs.declared.walk.Walk.{Walk}
use Rattle.func_model.specs.Walk.{WalkStandsFor, HasRoom, bytes_before}
use Rattle.func_model.proofs.Outputs.{bytes_before_is}
use Rattle.side_laws.specs.Along.{IsAlong, MayObey, MayProduce}
use Rattle.side_laws.proofs.Committed.{committed_is}

module _ {D : Type 0} (s : Setup) (os : List Order) (side : Walk D) (stands : WalkStandsFor s os side) where
  fits : (n : ℕ) → (side.position < n → side.is_stopped ≡ false) → side.committed ≤ n → length (path s os n).output ≤ s.output → bytes_before side n ≤ side.limit
  fits n running from within = omega (arith, bytes_before_is s os side stands n running from, stands.holds.limit, within)

  -- what an order commits has room, where the side can go as far
  pub has_room : (o : Order) → (side.position < number_of o → side.is_stopped ≡ false) → side.committed ≤ number_of o → IsInRoom s os o → HasRoom o side side.limit
  has_room (Set m addr) running from within = tt
  has_room (Commit m) running from within = fits m running from within
  has_room (Interrupt m) running from within = fits m running from within
  has_room (Time m v) running from within = tt
  has_room (Stop m) running from within = tt
  has_room (Sync m) running from within = fits m running from within

pub along_committed : {D : Type 0} (s : Setup) (os : List Order) (side : Walk D) → IsAlong s os side → side.committed ≡ last_commit os
along_committed s os side along = along.stands.done ∙ committed_is os (told_at_commit s os along.told)

pub may_produce : {D : Type 0} (s : Setup) (os : List Order) (side : Walk D) → is_setup s ≡ true → IsAlong s os side → MayProduce side
may_produce s os side sound along =
    let small : AreSmall s os = told_small s os sound along.told in
    record {
      position = omega (arith, along.most, along_committed s os side along, small.position);
      epoch = omega (arith, along.stands.holds.epoch, small.epoch);
    }

never : (b : Bool) → b ≡ false → b ≡ true → ⊥
never true off on = cc
never false off on = cc

pub may_obey : {D : Type 0} (s : Setup) (os : List Order) (o : Order) (side : Walk D) → is_setup s ≡ true → IsAlong s os side → order s (length os) ≡ Some o → MayObey o side
may_obey s os o side sound along is =
    let next : MayObeyNext s os o = may_obey_next s os o (setup_facts s sound).some_cycle along.told is in
    let small : AreSmall s os = told_small s os sound along.told in
    let committed : side.committed ≡ last_commit os = along_committed s os side along in
    let running : side.is_stopped ≡ false = along.stands.stopped ∙ next.running in
    let from : side.committed ≤ number_of o = omega (arith, committed, next.numbered.least) in
    let can : MayProduce side = may_produce s os side sound along in
    record {
      reach = λ stopped. absurd (never side.is_stopped running stopped);
      from = from;
      room = omega (arith, committed, next.numbered.most, along.stands.holds.capacity);
      number = omega (arith, next.numbered.most, small.position);
      position = can.position;
      epoch = can.epoch;
      within = has_room s os side along.stands o (λ beyond. running) from next.output;
    }
