-- A slot's turn as the core keeps it, on either of the two ways that it may go.
use Rattle.std.proofs.Common.{◌≡◌, ℕ, ◌^◌, ◌<◌, ◌%◌, ◌+◌, ◌∙◌, ap, sym, subst, Some, IfSome, Option, Bool, true, false}
use Rattle.std.specs.Prelude.{slice_get, slice_set}
use Rattle.fsim_base.specs.declared.instruction.Class.{Class}
use Rattle.reorder_buffer.specs.declared.slot.Slot.{Slot}
use Rattle.reorder_buffer.specs.declared.slot.SlotState.TheVariants.{Until}
use Rattle.reorder_buffer.specs.Window.{Contents}
use Rattle.cache_timing.specs.declared.caches.Caches.{Caches}
use Rattle.cache_timing.specs.Caches.{CachesState, Served}
use Rattle.cache_timing.specs.CachesStandFor.{CachesStandFor}
use Rattle.mono_model.specs.declared.setup.Setup.{Setup}
use Rattle.mono_model.specs.Setup.{caches_params}
use Rattle.mono_model.specs.Issue.{cached, latency_of, with_used}
use Rattle.timing_side.specs.Issue.{Turned, may_begin}
use Rattle.timing_side.specs.Timing.{Timing}
use Rattle.in_flight.specs.Flight.{older_at, may_start_at}
use Rattle.in_flight.proofs.Snapshots.{begun_behind, waits_there}
use Rattle.timing_core.specs.declared.state.TimingCore.{TimingCore}
use Rattle.timing_core.specs.declared.units.Used.{Used}
use Rattle.timing_core.specs.CoreStandsFor.{CoreStandsFor}
use Rattle.timing_core.specs.Turns.{KeepsTurn, CountsTurn}
use Rattle.timing_core.specs.Units.{used_in}
use Rattle.timing_core.proofs.Issuing.{same_found, same_test, IsTurned, turn_at, rests, begins}
use Rattle.timing_core.proofs.Walks.{turn_begins, turn_rests}

module _ (core : TimingCore) (place busy : ℕ) (used : Used) (found : Slot) (there : slice_get core.flight.slots place ≡ Some found) where
  -- whether it begins, by what the core has
  abbrev pub begins_here : Bool
  begins_here = may_begin core.params core.cycle busy (older_at core.flight.slots place) found (used_in used)

  -- where it doesn't, all stays as it was
  pub rest_kept : begins_here ≡ false → KeepsTurn place busy used core core
  rest_kept off = λ s t slot k small at.
      let same = same_found core.flight.slots t.slots place found slot k.slots there at in
      subst (IsTurned s t core place busy (used_in used) core) same
      (rests s t core place busy (used_in used) k found (at ∙ ap (λ (x : Slot). Some x) (sym same)) (same_test s t core place busy (used_in used) k found ∙ off))

  pub rest_counted : begins_here ≡ false → CountsTurn place busy used core used
  rest_counted off = λ s t slot k small at.
      let same = same_found core.flight.slots t.slots place found slot k.slots there at in
      let not = same_test s t core place busy (used_in used) k found ∙ off in
      sym (ap (λ (turned : Turned). turned.used) (turn_rests s t.cycle busy (older_at t.slots place) found (used_in used) t.caches not))
      ∙ ap (λ (x : Slot). (turn_at s t core place busy (used_in used) x).used) same

  -- where it does, one more unit of its kind is used
  pub begin_counted : begins_here ≡ true → (after : Used) → used_in after ≡ with_used found.class (used_in used) → CountsTurn place busy used core after
  begin_counted is after counted = λ s t slot k small at.
      let same = same_found core.flight.slots t.slots place found slot k.slots there at in
      let test = same_test s t core place busy (used_in used) k found ∙ is in
      counted
      ∙ sym (ap (λ (turned : Turned). turned.used) (turn_begins s t.cycle busy (older_at t.slots place) found (used_in used) t.caches test))
      ∙ ap (λ (x : Slot). (turn_at s t core place busy (used_in used) x).used) same

  -- what `begin` says of the window, at the slot that is there
  abbrev Begun : Contents → ℕ → Option Slot → Type 0
  Begun flight until at_place =
      IfSome at_place (λ x. flight ≡ record core.flight { slots = slice_set core.flight.slots place (record x { state = Until until }) })

  module _ (flight : Contents) (until : ℕ) (says : Begun flight until (slice_get core.flight.slots place)) where
    begun : flight ≡ record core.flight { slots = slice_set core.flight.slots place (record found { state = Until until }) }
    begun = subst (Begun flight until) there says

    -- it executes until the cycle in which its definition is done, with the caches that it left
    pub begin_kept : begins_here ≡ true → (it : Caches) →
        ((s : Setup) (t : Timing) → CoreStandsFor s t core → t.cycle < 2 ^ 63 →
        (until ≡ t.cycle + latency_of s.params found.class + (cached s found.cause found.access t.caches).cycles)
        × CachesStandFor it (caches_params s.params) (cached s found.cause found.access t.caches).state) →
        KeepsTurn place busy used core (record core { flight = flight; caches = it })
    begin_kept is it ends = λ s t slot k small at.
        let same = same_found core.flight.slots t.slots place found slot k.slots there at in
        let test = same_test s t core place busy (used_in used) k found ∙ is in
        let end = ends s t k small in
        subst (IsTurned s t core place busy (used_in used) (record core { flight = flight; caches = it })) same
        (begins s t core place busy (used_in used) k found test flight it until begun end.0 end.1)

    -- which of the younger slots may start stays
    pub begin_behind : may_start_at core.flight.slots place ≡ true → (k : ℕ) → place < k → may_start_at flight.slots k ≡ may_start_at core.flight.slots k
    begin_behind ready k behind =
        ap (λ (f : Contents). may_start_at f.slots k) begun
        ∙ begun_behind core.flight.slots place until found there (waits_there core.flight.slots place found ready there) k behind
