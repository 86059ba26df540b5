-- The laws of the next slot: of completion and of the walk of the issue phase.
use Rattle.std.proofs.Common.{◌≡◌, ℕ, List, ◌∷◌, refl}
use Rattle.cache_timing.specs.Caches.{CachesState}
use Rattle.reorder_buffer.specs.declared.slot.Slot.{Slot}
use Rattle.mono_model.specs.declared.setup.Setup.{Setup}
use Rattle.mono_model.specs.Issue.{Used}
use Rattle.timing_side.specs.Complete.{is_finishing, complete_next, completes}
use Rattle.timing_side.specs.Issue.{turn_of, walked_on, walk}

pub completes-cons : (cycle : ℕ) (slot : Slot) (rest : List Slot) →
    completes cycle (slot ∷ rest) ≡ complete_next slot (is_finishing cycle slot.state) (completes cycle rest)
unfolding completes
completes-cons cycle slot rest = refl

pub walk-cons : (s : Setup) (cycle busy : ℕ) (slot : Slot) (rest older : List Slot) (used : Used) (caches : CachesState) →
    walk s cycle busy (slot ∷ rest) older used caches ≡
    (let t = turn_of s cycle busy older slot used caches in
    walked_on t.turned (walk s cycle busy rest (t.turned ∷ older) t.used t.caches))
unfolding walk
walk-cons s cycle busy slot rest older used caches = refl
