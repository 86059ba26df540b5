-- A functional side stays along a run with each entry that it produces and each order that it obeys.
use Rattle.std.proofs.Common.{◌≡◌, ◌<◌, ◌≤◌, ◌+◌, ◌||◌, ℕ, Bool, true, false, Some, List, [], ◌∷◌, length, refl, ap, sym, ◌∙◌, subst, arith, inl, inr, ⊎_elim}
use Rattle.std.proofs.lemmas.Bool.{cases_lt}
use Rattle.rollback_cmds.specs.declared.order.Order.{Order}
use Rattle.rollback_cmds.specs.declared.order.Order.TheVariants.{Set, Commit, Interrupt, Time, Stop, Sync}
use Rattle.mono_model.specs.declared.setup.Setup.{Setup}
use Rattle.mono_model.specs.Arch.{Arch}
use Rattle.mono_model.specs.Cycle.{mono}
use Rattle.mono_model.specs.Path.{path, stops}
use Rattle.mono_model.specs.Demand.{order}
use Rattle.mono_model.specs.Split.{room}
use Rattle.machine_laws.specs.Numbers.{last_commit, IsNumbered, IsAtCommit}
use Rattle.machine_laws.specs.NextOrder.{MayObeyNext}
use Rattle.machine_laws.specs.LastOrder.{AreAll}
use Rattle.machine_laws.proofs.LastOrder.{all_orders}
use Rattle.machine_laws.proofs.NextOrder.{may_obey_next}
use Rattle.machine_laws.proofs.OrderSteps.{none_told}
use Rattle.func_model.specs.declared.walk.Walk.{Walk}
use Rattle.func_model.specs.Contents.{ContentsStandFor}
use Rattle.func_model.specs.Walk.{WalkStandsFor, IsFresh, IsForward, IsAtRest, IsObeyed, committed_by, position_by}
use Rattle.side_laws.specs.Along.{IsAlong}
use Rattle.side_laws.proofs.Obeying.{along_committed}

pub along_start : {D : Type 0} (s : Setup) (side : Walk D) → WalkStandsFor s [] side → IsFresh side → IsAlong s [] side
along_start s side stands fresh = record {
  stands = stands;
  told = none_told s;
  most = omega (arith, fresh.position);
  stopped = λ stopped. fresh.position ∙ sym fresh.committed;
}

pub along_produced : {D : Type 0} (s : Setup) (os : List Order) (old new : Walk D) → IsAlong s os old → WalkStandsFor s os new → IsForward old new → (IsAtRest old → ⊥) → IsAlong s os new
along_produced s os old new along stands moved going = record {
  stands = stands;
  told = along.told;
  most = omega (arith, moved.position, moved.others.committed, before_room);
  stopped = λ stopped. absurd (going (inl (sym moved.others.running ∙ stopped)));
}
  where
    full : old.committed + room s ≤ old.position → ⊥
    full none =
        let h = along.stands.holds in
        going (inr (omega (arith, h.held, h.capacity, along.most)))

    before_room : old.position < old.committed + room s
    before_room = ⊎_elim (λ less. less) (λ none. absurd (full none)) (cases_lt old.position (old.committed + room s))

-- the numbers behind an order
record AreAlong (s : Setup) (position committed : ℕ) (is_stopped : Bool) : Type 0 where
  most : position ≤ committed + room s
  stopped : is_stopped ≡ true → position ≡ committed

by_order : (s : Setup) (os : List Order) (o : Order) (position committed : ℕ) → committed ≡ last_commit os → position ≤ committed + room s → IsNumbered s os o → IsAtCommit os o →
    AreAlong s (position_by o position) (committed_by o committed) (stops o)
by_order s os (Set m addr) position committed is most numbered kind = record { most = omega (arith, is, numbered.most); stopped = λ e. cc }
by_order s os (Commit m) position committed is most numbered kind = record { most = omega (arith, is, kind); stopped = λ e. cc }
by_order s os (Interrupt m) position committed is most numbered kind = record { most = omega arith; stopped = λ e. cc }
by_order s os (Time m v) position committed is most numbered kind = record { most = omega (arith, is, numbered.most); stopped = λ e. cc }
by_order s os (Stop m) position committed is most numbered kind = record { most = omega (arith, is, numbered.most); stopped = λ e. kind ∙ sym is }
by_order s os (Sync m) position committed is most numbered kind = record { most = omega arith; stopped = λ e. cc }

or_first : (a b : Bool) → b ≡ false → (a || b) ≡ true → a ≡ true
or_first true b off is = refl
or_first false b off is = absurd (other b off is)
  where
    other : (b : Bool) → b ≡ false → b ≡ true → ⊥
    other true off on = cc
    other false off on = cc

pub along_obeyed : {D : Type 0} (s : Setup) (os : List Order) (o : Order) (old new : Walk D) → 1 ≤ s.cycles → IsAlong s os old → order s (length os) ≡ Some o →
    WalkStandsFor s (o ∷ os) new → IsObeyed o old new → IsAlong s (o ∷ os) new
along_obeyed s os o old new limited along is stands moved =
    let next : MayObeyNext s os o = may_obey_next s os o limited along.told is in
    let made : AreAlong s (position_by o old.position) (committed_by o old.committed) (stops o) =
    by_order s os o old.position old.committed (along_committed s os old along) along.most next.numbered next.kind in
    let running : old.is_stopped ≡ false = along.stands.stopped ∙ next.running in
    record {
      stands = stands;
      told = next.told;
      most = omega (arith, moved.position, moved.committed, made.most);
      stopped = λ stopped. moved.position ∙ made.stopped (or_first (stops o) old.is_stopped running (sym moved.stopped ∙ stopped)) ∙ sym moved.committed;
    }

pub along_end : {D : Type 0} (s : Setup) (os : List Order) (side : Walk D) → 1 ≤ s.cycles → IsAlong s os side → side.is_stopped ≡ true → ContentsStandFor s (mono s s.cycles).arch side.contents
along_end {D} s os side limited along stopped =
    let all : AreAll s os = all_orders s os limited along.told (sym along.stands.stopped ∙ stopped) in
    let here : side.position ≡ last_commit os = along.stopped stopped ∙ along_committed s os side along in
    let P : Arch → Type 0 = λ a. ContentsStandFor {D = D} s a side.contents in
    subst P (ap (path s os) here ∙ all.state) along.stands.holds.contents
