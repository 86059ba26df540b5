-- An entry that goes from one side to the other at once, as where it goes through an empty list.
use Rattle.std.proofs.Common.{◌≡◌, ◌↔◌, ◌<◌, ◌&&◌, ℕ, true, is_none, IfSome, IfNone, IsNone, Option, Some, None, List, [], ◌∷◌, ◌++◌, length, drop, slice_get, refl, ap, sym, ◌∙◌, subst, arith}
use Rattle.circular_buffer.specs.Buffer.{Buffer, buffer}
use Rattle.rollback_cmds.specs.declared.order.Order.{Order}
use Rattle.trace_entry.specs.declared.Entry.{Entry}
use Rattle.mono_model.specs.declared.setup.Setup.{Setup}
use Rattle.mono_model.specs.Demand.{needs_entry, needed_entry}
use Rattle.mono_model.specs.Split.{compute, push, take}
use Rattle.func_model.specs.declared.walk.Walk.{Walk}
use Rattle.func_model.specs.Walk.{WalkStandsFor, IsAtRest, IsForward, IsProduced}
use Rattle.time_model.specs.declared.side.Taken.{Taken}
use Rattle.time_model.specs.declared.side.Taken.TheVariants.{Used, Dropped}
use Rattle.split_core.specs.Plays.{IsPlayed}
use Rattle.mono_model.proofs.Sound.{setup_facts}
use Rattle.split_core.specs.declared.state.SplitState.{SplitState}
use Rattle.split_core.specs.Along.{At, event_on, IsReachedOn}
use Rattle.split_core.specs.Timed.{Timed, IsTimed, IsRightOn}
use Rattle.split_core.specs.Standing.{StandsOn, IsStandingOn}
use Rattle.split_core.proofs.Standing.{none_is}
use Rattle.split_core.proofs.Computing.{computed_stands}
use Rattle.split_core.proofs.Listing.{entry_pushed}
use Rattle.split_core.proofs.Taking.{entry_taken, is_right}
use Rattle.split_core.specs.AlongLaws.{event_reached_on}

-- what the functional side ensures of an entry that it was asked for
pub record Made {D : Type 0} (old new : Walk D) (result : Option Entry) : Type 0 where
  pub produced : (s : Setup) (os : List Order) → WalkStandsFor s os old → IsProduced s os old new result
  pub moved : IfSome result (λ e. IsForward old new)
  pub none : IsNone result ↔ IsAtRest old
  pub same : IfNone result (new ≡ old)

module _ {D T : Type 0} (timed : Timed T) (laws : IsTimed timed) (state : SplitState D T) (free : is_none state.computed ≡ true) (empty : state.entries.items ≡ []) (func : Walk D) (e : Entry) (result : Option Entry) (some : result ≡ Some e)
    (made : Made state.func func result) where
  -- the entry in the list
  abbrev way : Buffer Entry
  way = buffer (state.entries.items ++ e ∷ []) state.entries.capacity

  abbrev on_way : SplitState D T
  on_way = record state { func = func; computed = None; entries = way }

  front : slice_get way.items 0 ≡ Some e
  front = ap (λ (es : List Entry). slice_get (es ++ e ∷ []) 0) empty

  module _ (s : Setup) (x : At) (sound : timed.allows s) (reached : IsReachedOn s (timed.run s) x) (h : StandsOn timed s x state) where
    has_room : length state.entries.items < state.entries.capacity
    has_room =
        let none : length state.entries.items ≡ 0 = ap (length {A = Entry}) empty in
        let ring : state.entries.capacity ≡ s.ring = ap (λ (b : Buffer Entry). b.capacity) h.entries in
        omega (arith, none, ring, (setup_facts s (laws.sound s sound)).some_ring)

    way_stands : StandsOn timed s (event_on s (timed.run s) push (event_on s (timed.run s) compute x)) on_way
    way_stands =
        entry_pushed timed laws s (event_on s (timed.run s) compute x) (record state { func = func; computed = result })
        (computed_stands timed laws s x state sound reached h func free result made.produced made.moved made.none made.same) e some way has_room refl

    way_reached : IsReachedOn s (timed.run s) (event_on s (timed.run s) push (event_on s (timed.run s) compute x))
    way_reached = event_reached_on s (timed.run s) push (event_on s (timed.run s) compute x) (event_reached_on s (timed.run s) compute x reached)

  -- it is the one that the timing side needs
  pub handed_right : IsStandingOn timed state → ((s : Setup) (k : ℕ) → timed.stands s k state.time → true ≡ (needs_entry ((timed.run s).places k) && is_none (timed.held state.time))) → IsRightOn timed e state.time
  handed_right st wants =
      let standing : IsStandingOn timed on_way = record {
        setup = st.setup;
        sound = st.sound;
        split = event_on st.setup (timed.run st.setup) push (event_on st.setup (timed.run st.setup) compute st.split);
        reached = way_reached st.setup st.split st.sound st.reached st.stands;
        stands = way_stands st.setup st.split st.sound st.reached st.stands;
      } in
      is_right timed laws on_way e standing front wants

  -- the list is empty again
  way_back : buffer (drop 1 way.items) way.capacity ≡ state.entries
  way_back =
      ap (λ (es : List Entry). buffer (drop 1 (es ++ e ∷ [])) state.entries.capacity) empty
      ∙ ap (λ (es : List Entry). buffer es state.entries.capacity) (sym empty)

  pub handed_stands : (time : T) (answer : Taken) →
      ((s : Setup) (k : ℕ) → timed.stands s k state.time → true ≡ (needs_entry ((timed.run s).places k) && is_none (timed.held state.time))) →
      ((s : Setup) (k : ℕ) → timed.stands s k state.time → (e.epoch ≡ timed.epoch state.time → e ≡ needed_entry s ((timed.run s).places k)) → timed.stands s k time) →
      (answer ≡ Used → timed.held time ≡ Some e) → (answer ≡ Dropped → time ≡ state.time) →
      ((answer ≡ Used) ↔ (e.epoch ≡ timed.epoch state.time)) →
      (s : Setup) (x : At) → timed.allows s → IsReachedOn s (timed.run s) x → StandsOn timed s x state →
      StandsOn timed s (event_on s (timed.run s) take (event_on s (timed.run s) push (event_on s (timed.run s) compute x))) (record state { func = func; time = time })
  handed_stands time answer wants stands used dropped by_epoch s x sound reached h =
      let C : Option Entry → Type 0 = λ o. StandsOn timed s (event_on s (timed.run s) take (event_on s (timed.run s) push (event_on s (timed.run s) compute x))) (record state { func = func; time = time; computed = o; entries = buffer (drop 1 way.items) way.capacity }) in
      let E : Buffer Entry → Type 0 = λ b. StandsOn timed s (event_on s (timed.run s) take (event_on s (timed.run s) push (event_on s (timed.run s) compute x))) (record state { func = func; time = time; entries = b }) in
      let taken : C None = entry_taken timed laws s (event_on s (timed.run s) push (event_on s (timed.run s) compute x)) on_way (way_reached s x sound reached h) (way_stands s x sound reached h) (buffer (drop 1 way.items) way.capacity) refl
      sound e front wants time answer stands used dropped by_epoch in
      subst E way_back (subst C (sym (none_is state.computed free)) taken)

  pub handed_played : (time : T) (answer : Taken) →
      ((s : Setup) (k : ℕ) → timed.stands s k state.time → true ≡ (needs_entry ((timed.run s).places k) && is_none (timed.held state.time))) →
      ((s : Setup) (k : ℕ) → timed.stands s k state.time → (e.epoch ≡ timed.epoch state.time → e ≡ needed_entry s ((timed.run s).places k)) → timed.stands s k time) →
      (answer ≡ Used → timed.held time ≡ Some e) → (answer ≡ Dropped → time ≡ state.time) →
      ((answer ≡ Used) ↔ (e.epoch ≡ timed.epoch state.time)) →
      (s : Setup) (x : At) → timed.allows s → IsReachedOn s (timed.run s) x → StandsOn timed s x state → IsPlayed timed s x (record state { func = func; time = time })
  handed_played time answer wants stands used dropped by_epoch s x sound reached h =
      record { events = compute ∷ push ∷ take ∷ []; stands = handed_stands time answer wants stands used dropped by_epoch s x sound reached h }
