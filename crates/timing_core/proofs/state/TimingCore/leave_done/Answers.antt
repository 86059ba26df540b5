use Rattle.std.proofs.Common.{◌≡◌, drop, false, ap, sym, ◌∙◌, subst}
use Rattle.reorder_buffer.specs.declared.slot.Slot.{Slot}
use Rattle.mono_model.specs.Found.{is_fence_i}
use Rattle.timing_side.specs.Slots.{found_in}
use Rattle.timing_side.specs.Timing.{Timing}
use Rattle.timing_side.specs.Commit.{Leaving, leaving_done, has_no_room, committed}
use Rattle.timing_core.specs.CoreStandsFor.{CoreStandsFor}
use Rattle.timing_core.specs.Leaving.{kind_of, behind_of}
use Rattle.timing_core.proofs.Leaving.{same_oldest, faults_is, retires_is, behind_same}
use Rattle.timing_core.proofs.state.TimingCore.leave_done.Goals as goal

pub returns-then-is_some-clause-kept : goal.returns-then-is_some-clause-kept
returns-then-is_some-clause-kept c = λ s t slot there k below.
    let found : Slot = c.in-Some.slot in
    let same : found ≡ slot = same_oldest _ found slot (sym c.in-Some.ensures.oldest) there in
    let P : Leaving → Type 0 = λ l. CoreStandsFor s (behind_of t l) c.fault.new.self in
    subst (λ (x : Slot). P (leaving_done s x (drop 1 t.slots) x.cause t)) same
    (subst P (sym (faults_is s found (drop 1 t.slots) found.cause t (cc))) (c.fault.ensures.kept s t k below))

pub returns-clause-kept : goal.returns-clause-kept
returns-clause-kept c = λ s t slot there k below.
    let found : Slot = c.in-Some.slot in
    let same : found ≡ slot = same_oldest _ found slot (sym c.in-Some.ensures.oldest) there in
    let room : has_no_room s found t ≡ false = sym (c.has_no_room.ensures.room s t k) ∙ c.if-has_no_room.false in
    let P : Leaving → Type 0 = λ l. CoreStandsFor s (behind_of t l) c.follow.new.self in
    let retired = c.retire.ensures.kept s t k below in
    subst (λ (x : Slot). P (leaving_done s x (drop 1 t.slots) x.cause t)) same
    (subst P (sym (retires_is s found (drop 1 t.slots) found.cause t (cc) room))
    (subst (λ (u : Timing). CoreStandsFor s u c.follow.new.self)
    (behind_same (is_fence_i (found_in found)) found.halt (committed s found (drop 1 t.slots) t) (committed s found (drop 1 t.slots) t) t)
    (c.follow.ensures.kept s (committed s found (drop 1 t.slots) t) retired below.squashed)))

pub returns-clause-kind : goal.returns-clause-kind
returns-clause-kind c = λ s t slot there k below.
    let found : Slot = c.in-Some.slot in
    let same : found ≡ slot = same_oldest _ found slot (sym c.in-Some.ensures.oldest) there in
    let room : has_no_room s found t ≡ false = sym (c.has_no_room.ensures.room s t k) ∙ c.if-has_no_room.false in
    let retired = c.retire.ensures.kept s t k below in
    c.follow.ensures.kind s (committed s found (drop 1 t.slots) t) retired below.squashed
    ∙ ap kind_of (sym (retires_is s found (drop 1 t.slots) found.cause t (cc) room))
    ∙ ap (λ (x : Slot). kind_of (leaving_done s x (drop 1 t.slots) x.cause t)) same
