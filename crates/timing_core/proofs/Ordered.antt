-- Slots that stand in the order of their fetch, and what keeps them so.
use Rattle.std.proofs.Common.{◌≡◌, ℕ, zero, suc, ◌≤◌, Bool, true, false, Some, List, [], ◌∷◌, ◌++◌, refl, ap, sym, subst, arith}
use Rattle.std.specs.Prelude.{slice_get, slice_set}
use Rattle.std.proofs.lemmas.Bool.{cond_both}
use Rattle.cache_timing.specs.Caches.{CachesState}
use Rattle.reorder_buffer.specs.declared.slot.Slot.{Slot}
use Rattle.mono_model.specs.declared.setup.Setup.{Setup}
use Rattle.mono_model.specs.Issue.{Used, cached}
use Rattle.timing_side.specs.Complete.{Completed, is_finishing, is_mispredicted, finished, in_front, complete_next, completes}
use Rattle.timing_side.specs.Issue.{may_begin, begun, unchanged, Turned, turn_of, walk}
use Rattle.timing_core.specs.Small.{IsInOrder}

-- from an earlier cycle on, and to a later one
pub sooner : (low from to : ℕ) (slots : List Slot) → low ≤ from → IsInOrder from to slots → IsInOrder low to slots
sooner low from to [] less is = omega (arith, less, is)
sooner low from to (slot ∷ rest) less is = (omega (arith, less, is.0), is.1)

pub longer : (from to high : ℕ) (slots : List Slot) → to ≤ high → IsInOrder from to slots → IsInOrder from high slots
longer from to high [] more is = omega (arith, more, is)
longer from to high (slot ∷ rest) more is = (is.0, longer slot.fetched to high rest more is.1)

-- without the oldest
pub behind_oldest : (to : ℕ) (slots : List Slot) (slot : Slot) (rest : List Slot) → slots ≡ slot ∷ rest → IsInOrder 0 to slots → IsInOrder 0 to rest
behind_oldest to slots slot rest there is =
    let these : IsInOrder 0 to (slot ∷ rest) = subst (IsInOrder 0 to) there is in
    sooner 0 slot.fetched to rest (omega arith) these.1

spans : (from to : ℕ) (slots : List Slot) → IsInOrder from to slots → from ≤ to
spans from to [] is = is
spans from to (slot ∷ rest) is = omega (arith, is.0, spans slot.fetched to rest is.1)

-- with another one that is fetched last
pub with_youngest : (from to : ℕ) (slots : List Slot) (slot : Slot) → slot.fetched ≡ to → IsInOrder from to slots → IsInOrder from to (slots ++ slot ∷ [])
with_youngest from to [] slot last is = (omega (arith, last, is), omega (arith, last))
with_youngest from to (x ∷ rest) slot last is = (is.0, with_youngest x.fetched to rest slot last is.1)

-- with one that goes on
pub gone_on : (from to : ℕ) (slot new : Slot) (rest : List Slot) → new.fetched ≡ slot.fetched → IsInOrder from to (slot ∷ rest) → IsInOrder from to (new ∷ rest)
gone_on from to slot new rest same is = (omega (arith, same, is.0), subst (λ (n : ℕ). IsInOrder n to rest) (sym same) is.1)

pub set_kept : (from to : ℕ) (slots : List Slot) (place : ℕ) (slot new : Slot) → slice_get slots place ≡ Some slot → new.fetched ≡ slot.fetched →
    IsInOrder from to slots → IsInOrder from to (slice_set slots place new)
set_kept from to [] place slot new at same is = absurd (cc)
set_kept from to (x ∷ rest) zero slot new at same is =
    let it : x ≡ slot = cc in
    gone_on from to slot new rest same (subst (λ (y : Slot). IsInOrder from to (y ∷ rest)) it is)
set_kept from to (x ∷ rest) (suc place) slot new at same is = (is.0, set_kept x.fetched to rest place slot new at same is.1)

-- behind one that was fetched in a cycle all were fetched no earlier
fetched_from : (from to : ℕ) (slots : List Slot) (place : ℕ) (slot : Slot) → IsInOrder from to slots → slice_get slots place ≡ Some slot → from ≤ slot.fetched
fetched_from from to [] place slot is at = absurd (cc)
fetched_from from to (x ∷ rest) zero slot is at = let it : x ≡ slot = cc in rw it at is.0
fetched_from from to (x ∷ rest) (suc place) slot is at = omega (arith, is.0, fetched_from x.fetched to rest place slot is.1 at)

pub fetched_behind : (from to : ℕ) (slots : List Slot) (place other : ℕ) (slot later : Slot) → IsInOrder from to slots →
    slice_get slots place ≡ Some slot → slice_get slots other ≡ Some later → place ≤ other → slot.fetched ≤ later.fetched
fetched_behind from to [] place other slot later is at there behind = absurd (cc)
fetched_behind from to (x ∷ rest) zero zero slot later is at there behind = let it : slot ≡ later = cc in omega (arith, ap (λ (y : Slot). y.fetched) it)
fetched_behind from to (x ∷ rest) zero (suc other) slot later is at there behind =
    let it : x ≡ slot = cc in
    omega (arith, ap (λ (y : Slot). y.fetched) it, fetched_from x.fetched to rest other later is.1 there)
fetched_behind from to (x ∷ rest) (suc place) zero slot later is at there behind = absurd (omega (arith, behind))
fetched_behind from to (x ∷ rest) (suc place) (suc other) slot later is at there behind =
    fetched_behind x.fetched to rest place other slot later is.1 at there (omega (arith, behind))

-- a turn of issue keeps the cycle of a slot's fetch
pub turned_fetched : (s : Setup) (cycle busy : ℕ) (older : List Slot) (slot : Slot) (used : Used) (caches : CachesState) →
    (turn_of s cycle busy older slot used caches).turned.fetched ≡ slot.fetched
unfolding turn_of
turned_fetched s cycle busy older slot used caches =
    cond_both (may_begin s.params cycle busy older slot used) (begun s cycle slot used (cached s slot.cause slot.access caches)) (unchanged slot used caches)
    (λ (t : Turned). t.turned.fetched ≡ slot.fetched) (λ e. refl) (λ e. refl)

-- the walk of issue
pub walk_kept : (s : Setup) (cycle busy from to : ℕ) (slots older : List Slot) (used : Used) (caches : CachesState) → IsInOrder from to slots →
    IsInOrder from to (walk s cycle busy slots older used caches).slots
unfolding walk
walk_kept s cycle busy from to [] older used caches is = is
walk_kept s cycle busy from to (slot ∷ rest) older used caches is =
    let t = turn_of s cycle busy older slot used caches in
    let behind = walk s cycle busy rest (t.turned ∷ older) t.used t.caches in
    gone_on from to slot t.turned behind.slots (turned_fetched s cycle busy older slot used caches)
    (is.0, walk_kept s cycle busy slot.fetched to rest (t.turned ∷ older) t.used t.caches is.1)

-- what completes
next_kept : (from to : ℕ) (slot : Slot) (finishes : Bool) (rest : Completed) → from ≤ slot.fetched → IsInOrder slot.fetched to rest.slots →
    IsInOrder from to (complete_next slot finishes rest).slots
next_kept from to slot false rest first is = (first, is)
next_kept from to slot true rest first is =
    cond_both (is_mispredicted slot) (record { slots = finished slot ∷ []; redirect = Some slot.next }) (in_front (finished slot) rest)
    (λ (c : Completed). IsInOrder from to c.slots) (λ e. (first, spans slot.fetched to rest.slots is)) (λ e. (first, is))

pub completes_kept : (cycle from to : ℕ) (slots : List Slot) → IsInOrder from to slots → IsInOrder from to (completes cycle slots).slots
unfolding completes
completes_kept cycle from to [] is = is
completes_kept cycle from to (slot ∷ rest) is =
    next_kept from to slot (is_finishing cycle slot.state) (completes cycle rest) is.0 (completes_kept cycle slot.fetched to rest is.1)
