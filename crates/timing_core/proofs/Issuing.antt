-- A turn of the walk, on what the timing side keeps.
use Rattle.std.proofs.Common.{◌≡◌, ℕ, zero, suc, ◌+◌, ◌-◌, ◌%◌, ◌<◌, ◌≤◌, ◌^◌, ◌&&◌, nat_le, Bool, true, false, if◌then◌else◌, Option, None, Some, List, [], ◌∷◌, length, inl, inr, refl, ap, sym, subst, ◌∙◌, arith}
use Rattle.std.specs.Prelude.{slice_get, slice_set}
use Rattle.std.proofs.lemmas.Option.{slice_get_cases}
use Rattle.fsim_base.specs.declared.cause.Cause.{Cause}
use Rattle.fsim_base.specs.declared.access.Access.{Access}
use Rattle.fsim_base.specs.declared.access.Access.TheVariants.{Nothing}
use Rattle.cache_timing.specs.declared.caches.Caches.{Caches}
use Rattle.cache_timing.specs.Caches.{CachesState}
use Rattle.cache_timing.specs.CachesStandFor.{CachesStandFor}
use Rattle.reorder_buffer.specs.declared.slot.Slot.{Slot}
use Rattle.reorder_buffer.specs.declared.slot.SlotState.TheVariants.{Until}
use Rattle.reorder_buffer.specs.Window.{Contents}
use Rattle.mono_model.specs.declared.params.Params.{Params}
use Rattle.mono_model.specs.declared.setup.Setup.{Setup}
use Rattle.mono_model.specs.Setup.{caches_params}
use Rattle.mono_model.specs.Issue.{Used, none_used, latency_of, cached, no_miss}
use Rattle.rollback_cmds.specs.declared.order.Order.TheVariants.{Time}
use Rattle.timing_side.specs.Slots.{is_waiting_state, waiting_count}
use Rattle.timing_side.specs.Timing.{Timing, Phase, quiet, ordering}
use Rattle.timing_side.specs.Issue.{busy_divisions, has_operands, may_begin, Turned, turn_of, Walked, walk, wants_time_first, wants_time, replayed, issued, timing_issue}
use Rattle.in_flight.specs.Flight.{older_at, may_start, may_start_at}
use Rattle.timing_core.specs.declared.state.TimingCore.{TimingCore}
use Rattle.timing_core.specs.CoreStandsFor.{CoreStandsFor}
use Rattle.timing_core.specs.Small.{IsInOrder}
use Rattle.timing_core.proofs.Sums.{risen}
use Rattle.timing_core.proofs.Keeping.{keeps_slots, keeps_caches}
use Rattle.timing_core.proofs.Ordered.{set_kept, fetched_behind, turned_fetched}
use Rattle.timing_core.proofs.Walks.{turn_begins, turn_rests, same_slot, walk_from, walk_starts, walk_ends, walk_turns, passes_all, rests_all}

-- other slots and caches, and all else as it was
kept_with : (s : Setup) (t : Timing) (core : TimingCore) → CoreStandsFor s t core →
    (flight : Contents) (slots : List Slot) (it : Caches) (caches : CachesState) →
    flight.capacity ≡ core.flight.capacity → flight.slots ≡ slots → CachesStandFor it (caches_params s.params) caches →
    CoreStandsFor s (record t { slots = slots; caches = caches }) (record core { flight = flight; caches = it })
kept_with s t core k flight slots it caches room same served =
    keeps_caches s (record t { slots = slots }) (record core { flight = flight }) (keeps_slots s t core k flight slots room same) it caches served

-- the core's own slots are those kept
kept_as : (s : Setup) (t : Timing) (core : TimingCore) (slots : List Slot) (caches : CachesState) →
    (k : CoreStandsFor s (record t { slots = slots; caches = caches }) core) → CoreStandsFor s (record t { slots = core.flight.slots; caches = caches }) core
kept_as s t core slots caches k =
    kept_with s (record t { slots = slots; caches = caches }) core k core.flight core.flight.slots core.caches caches refl refl k.caches

-- one list has one slot at a place
pub same_found : (held slots : List Slot) (place : ℕ) (found slot : Slot) → held ≡ slots →
    slice_get held place ≡ Some found → slice_get slots place ≡ Some slot → found ≡ slot
same_found held slots place found slot same there at = cc

nowhere : (s : Setup) (cause : Option Cause) (caches : CachesState) → cached s cause Nothing caches ≡ no_miss caches
nowhere s None caches = refl
nowhere s (Some cause) caches = refl

module _ (s : Setup) (t : Timing) (core : TimingCore) (place busy : ℕ) (used : Used) where
  -- the slot's turn in the state that is kept
  abbrev pub turn_at : Slot → Turned
  turn_at slot = turn_of s t.cycle busy (older_at t.slots place) slot used t.caches

  -- what is kept behind it
  abbrev pub IsTurned : TimingCore → Slot → Type 0
  IsTurned new slot = CoreStandsFor s (record t { slots = slice_set t.slots place (turn_at slot).turned; caches = (turn_at slot).caches }) new

  -- whether it begins, told by the core's fields
  pub same_test : CoreStandsFor s t core → (slot : Slot) →
      may_begin s.params t.cycle busy (older_at t.slots place) slot used
      ≡ may_begin core.params core.cycle busy (older_at core.flight.slots place) slot used
  same_test k slot =
      ap (λ (p : Params). may_begin p t.cycle busy (older_at t.slots place) slot used) (sym k.params)
      ∙ ap (λ (cycle : ℕ). may_begin core.params cycle busy (older_at t.slots place) slot used) (sym k.cycle)
      ∙ ap (λ (slots : List Slot). may_begin core.params core.cycle busy (older_at slots place) slot used) (sym k.slots)

  pub rests : CoreStandsFor s t core → (slot : Slot) → slice_get t.slots place ≡ Some slot →
      may_begin s.params t.cycle busy (older_at t.slots place) slot used ≡ false → IsTurned core slot
  rests k slot at not =
      let same = turn_rests s t.cycle busy (older_at t.slots place) slot used t.caches not in
      let P : Turned → Type 0 = λ turned. CoreStandsFor s (record t { slots = slice_set t.slots place turned.turned; caches = turned.caches }) core in
      subst P (sym same) (kept_with s t core k core.flight _ core.caches t.caches refl (k.slots ∙ sym (same_slot s t.cycle busy t.slots place slot at)) k.caches)

  pub begins : CoreStandsFor s t core → (slot : Slot) → may_begin s.params t.cycle busy (older_at t.slots place) slot used ≡ true →
      (flight : Contents) (it : Caches) (until : ℕ) →
      flight ≡ record core.flight { slots = slice_set core.flight.slots place (record slot { state = Until until }) } →
      until ≡ t.cycle + latency_of s.params slot.class + (cached s slot.cause slot.access t.caches).cycles →
      CachesStandFor it (caches_params s.params) (cached s slot.cause slot.access t.caches).state →
      IsTurned (record core { flight = flight; caches = it }) slot
  begins k slot is flight it until begun ends served =
      let d = cached s slot.cause slot.access t.caches in
      let same = turn_begins s t.cycle busy (older_at t.slots place) slot used t.caches is in
      let P : Turned → Type 0 = λ turned. CoreStandsFor s (record t { slots = slice_set t.slots place turned.turned; caches = turned.caches }) (record core { flight = flight; caches = it }) in
      let slots : flight.slots ≡ slice_set t.slots place (record slot { state = Until (t.cycle + latency_of s.params slot.class + d.cycles) }) =
      ap (λ (f : Contents). f.slots) begun
      ∙ ap (λ (held : List Slot). slice_set held place (record slot { state = Until until })) k.slots
      ∙ ap (λ (n : ℕ). slice_set t.slots place (record slot { state = Until n })) ends in
      subst P (sym same) (kept_with s t core k flight _ it d.state (ap (λ (f : Contents). f.capacity) begun) slots served)

-- a slot without an access meets no cache
pub goes_nowhere : (s : Setup) (slot : Slot) (caches : CachesState) → slot.access ≡ Nothing → cached s slot.cause slot.access caches ≡ no_miss caches
goes_nowhere s slot caches none = ap (λ (made : Access). cached s slot.cause made caches) none ∙ nowhere s slot.cause caches

-- the cycle in which a slot ends, by sums in 64 bits
pub end_cycle : (r middle n cycle latency added : ℕ) → middle ≡ (n + latency) % 2 ^ 64 → r ≡ (middle + added) % 2 ^ 64 →
    n ≡ cycle → cycle < 2 ^ 63 → latency < 2 ^ 32 → added < 2 ^ 32 → r ≡ cycle + latency + added
end_cycle r middle n cycle latency added first second same small short few =
    risen r middle (cycle + latency) added second (risen middle n cycle latency first same (omega arith) (omega arith)) (omega arith) (omega arith)

-- What the walk keeps when it has gone as far as a place: the slots are those of the core, with some caches, and from here
-- on it comes to what the whole walk comes to. They stand in the order of their fetch, as they did.
pub record HasWalked (s : Setup) (t : Timing) (busy : ℕ) (core : TimingCore) (place : ℕ) (used : Used) : Type 0 where
  pub caches : CachesState
  pub kept : CoreStandsFor s (record t { slots = core.flight.slots; caches = caches }) core
  pub whole : walk s t.cycle busy t.slots [] none_used t.caches ≡ walk_from s t.cycle busy core.flight.slots place used caches
  pub order : IsInOrder 0 t.cycle core.flight.slots

pub walks_from_start : (s : Setup) (t : Timing) (busy : ℕ) (core : TimingCore) (used : Used) → CoreStandsFor s t core → used ≡ none_used →
    IsInOrder 0 t.cycle t.slots → HasWalked s t busy core 0 used
walks_from_start s t busy core used k none ordered = record {
  caches = t.caches;
  kept = kept_with s t core k core.flight core.flight.slots core.caches t.caches refl refl k.caches;
  whole = walk_starts s t.cycle busy t.slots none_used t.caches
      ∙ ap (λ (slots : List Slot). walk_from s t.cycle busy slots 0 none_used t.caches) (sym k.slots)
      ∙ ap (λ (u : Used). walk_from s t.cycle busy core.flight.slots 0 u t.caches) (sym none);
  order = subst (IsInOrder 0 t.cycle) (sym k.slots) ordered;
}

-- on to a slot that can start, past slots that can't
pub walks_to : (s : Setup) (t : Timing) (busy : ℕ) (core : TimingCore) (from place : ℕ) (used : Used) → HasWalked s t busy core from used → from ≤ place →
    ((k : ℕ) → from ≤ k → k < place → may_start_at core.flight.slots k ≡ false) → HasWalked s t busy core place used
walks_to s t busy core from place used h before not =
    let e : from + (place - from) ≡ place = omega arith in
    record {
      caches = h.caches;
      kept = h.kept;
      whole = h.whole
          ∙ passes_all s t.cycle busy (place - from) core.flight.slots from used h.caches (λ k above below. not k above (omega arith))
          ∙ ap (λ (n : ℕ). walk_from s t.cycle busy core.flight.slots n used h.caches) e;
      order = h.order;
    }

-- and a turn further
pub walks_on : (s : Setup) (t : Timing) (busy : ℕ) (core new : TimingCore) (place : ℕ) (used after : Used) (slot : Slot) → (h : HasWalked s t busy core place used) →
    slice_get core.flight.slots place ≡ Some slot →
    IsTurned s (record t { slots = core.flight.slots; caches = h.caches }) core place busy used new slot →
    after ≡ (turn_at s (record t { slots = core.flight.slots; caches = h.caches }) core place busy used slot).used →
    HasWalked s t busy new (place + 1) after
walks_on s t busy core new place used after slot h at turned units =
    let now = record t { slots = core.flight.slots; caches = h.caches } in
    let made = turn_at s now core place busy used slot in
    let e : suc place ≡ place + 1 = omega arith in
    record {
      caches = made.caches;
      kept = kept_as s t new (slice_set core.flight.slots place made.turned) made.caches turned;
      whole = h.whole
          ∙ walk_turns s t.cycle busy core.flight.slots place slot used h.caches at
          ∙ ap (λ (slots : List Slot). walk_from s t.cycle busy slots (suc place) made.used made.caches) (sym turned.slots)
          ∙ ap (λ (u : Used). walk_from s t.cycle busy new.flight.slots (suc place) u made.caches) (sym units)
          ∙ ap (λ (n : ℕ). walk_from s t.cycle busy new.flight.slots n after made.caches) e;
      order = subst (IsInOrder 0 t.cycle) (sym turned.slots) (set_kept 0 t.cycle core.flight.slots place slot made.turned at
          (turned_fetched s t.cycle busy (older_at core.flight.slots place) slot used h.caches) h.order);
    }

-- behind the last slot
pub walks_to_end : (s : Setup) (t : Timing) (core : TimingCore) (place : ℕ) (used : Used) → HasWalked s t (busy_divisions t.slots) core place used →
    length core.flight.slots ≤ place → CoreStandsFor s (issued s t) core
walks_to_end s t core place used h over =
    let w = h.whole ∙ walk_ends s t.cycle (busy_divisions t.slots) core.flight.slots place used h.caches over in
    let P : Walked → Type 0 = λ walked. CoreStandsFor s (record t { slots = walked.slots; caches = walked.caches }) core in
    subst P (sym w) h.kept

-- or at one that has not passed the front: those behind it were fetched no earlier, so none of them begins
pub walks_to_late : (s : Setup) (t : Timing) (core : TimingCore) (place latest : ℕ) (used : Used) (slot : Slot) →
    HasWalked s t (busy_divisions t.slots) core place used → slice_get core.flight.slots place ≡ Some slot → latest < slot.fetched →
    latest + core.params.core_front ≡ core.cycle → CoreStandsFor s (issued s t) core
walks_to_late s t core place latest used slot h there late is =
    let busy = busy_divisions t.slots in let slots = core.flight.slots in
    let front : latest + s.params.core_front ≡ t.cycle = rw (h.kept.cycle, ap (λ (p : Params). p.core_front) h.kept.params) at is in
    walks_to_end s t core (place + length slots) used (record {
      caches = h.caches;
      kept = h.kept;
      whole = h.whole ∙ rests_all s t.cycle busy (length slots) slots place used h.caches (λ k other behind found.
          omega (arith, front, late, fetched_behind 0 t.cycle slots place k slot other h.order there found behind));
      order = h.order;
    }) (omega arith)

-- the front stays where it is
pub still_past : (latest : ℕ) (core new : TimingCore) → new.params ≡ core.params → new.cycle ≡ core.cycle →
    latest + core.params.core_front ≡ core.cycle → latest + new.params.core_front ≡ new.cycle
still_past latest core new params cycle is = ap (λ (p : Params). latest + p.core_front) params ∙ is ∙ sym cycle

-- where nothing has passed the front, no slot begins
pub none_begins : (s : Setup) (t : Timing) (core : TimingCore) → CoreStandsFor s t core → IsInOrder 0 t.cycle t.slots → core.cycle < core.params.core_front →
    CoreStandsFor s (issued s t) core
none_begins s t core k ordered short =
    let busy = busy_divisions t.slots in
    let front : t.cycle < s.params.core_front = rw (k.cycle, ap (λ (p : Params). p.core_front) k.params) at short in
    let start = walks_from_start s t busy core none_used k refl ordered in
    let w = start.whole
    ∙ rests_all s t.cycle busy (length core.flight.slots) core.flight.slots 0 none_used start.caches (λ n slot above there. omega (arith, front))
    ∙ walk_ends s t.cycle busy core.flight.slots (0 + length core.flight.slots) none_used start.caches (omega arith) in
    let P : Walked → Type 0 = λ walked. CoreStandsFor s (record t { slots = walked.slots; caches = walked.caches }) core in
    subst P (sym w) start.kept

-- where one can start there is a slot
pub starts_there : (slots : List Slot) (place : ℕ) → may_start_at slots place ≡ true → (slot : Slot) × (place < length slots) × (slice_get slots place ≡ Some slot)
starts_there slots place can = elim (slice_get_cases slots place).1 [
  | inl there ↦ (there.0, there.1, there.2)
  | inr over ↦ let none = over.1 in let e = rw none at can in cc
]

-- the phase by its test
pub issues : (s : Setup) (t : Timing) (b : Bool) → wants_time s t ≡ b →
    timing_issue s t ≡ (if b then ordering (Time t.to_commit t.cycle) (replayed t) else quiet (issued s t))
unfolding timing_issue
issues s t b is = ap (λ (x : Bool). if x then ordering (Time t.to_commit t.cycle) (replayed t) else quiet (issued s t)) is

-- where none waits, none begins
counts_none : (b : Bool) (n : ℕ) → (if b then 1 else 0) + n ≡ 0 → (b ≡ false) × (n ≡ 0)
counts_none true n e = absurd (omega (arith, e))
counts_none false n e = (refl, omega (arith, e))

rests_at : (slots : List Slot) (place : ℕ) (slot : Slot) → waiting_count slots ≡ 0 → slice_get slots place ≡ Some slot →
    is_waiting_state slot.state ≡ false
rests_at [] place slot none there = cc
rests_at (first ∷ rest) zero slot none there =
    let same : first ≡ slot = cc in
    ap (λ (x : Slot). is_waiting_state x.state) (sym same) ∙ (counts_none (is_waiting_state first.state) (waiting_count rest) none).0
rests_at (first ∷ rest) (suc place) slot none there =
    rests_at rest place slot (counts_none (is_waiting_state first.state) (waiting_count rest) none).1 there

none_starts : (slots : List Slot) (place : ℕ) → waiting_count slots ≡ 0 → may_start_at slots place ≡ false
none_starts slots place none = elim (slice_get_cases slots place).1 [
  | inl there ↦
      ap (may_start (older_at slots place)) there.2
      ∙ ap (λ (waits : Bool). waits && has_operands (older_at slots place) there.0) (rests_at slots place there.0 none there.2)
  | inr over ↦ ap (may_start (older_at slots place)) over.1
]

none_wants : (p : Params) (cycle : ℕ) (slots : List Slot) → waiting_count slots ≡ 0 → wants_time_first p cycle slots ≡ false
none_wants p cycle [] none = refl
none_wants p cycle (slot ∷ rest) none =
    ap (λ (waits : Bool). (waits && nat_le (slot.fetched + p.core_front) cycle) && slot.unserved)
    (counts_none (is_waiting_state slot.state) (waiting_count rest) none).0

pub none_issues : (s : Setup) (t : Timing) (core : TimingCore) → CoreStandsFor s t core → IsInOrder 0 t.cycle t.slots →
    waiting_count core.flight.slots ≡ 0 → CoreStandsFor s (timing_issue s t).timing core × (timing_issue s t).orders ≡ []
none_issues s t core k ordered none =
    let busy = busy_divisions t.slots in
    let slots = core.flight.slots in
    let start = walks_from_start s t busy core none_used k refl ordered in
    let end = walks_to s t busy core 0 (length slots) none_used start (omega arith) (λ place above below. none_starts slots place none) in
    let off : wants_time s t ≡ false = none_wants s.params t.cycle t.slots (ap waiting_count (sym k.slots) ∙ none) in
    let phase = issues s t false off in (
      subst (λ (p : Phase). CoreStandsFor s p.timing core) (sym phase) (walks_to_end s t core (length slots) none_used end (omega arith)),
      ap (λ (p : Phase). p.orders) phase,
    )
