-- What the oldest slot does in the phase of commit, and how the phase goes on behind it.
use Rattle.std.proofs.Common.{◌≡◌, ℕ, suc, ◌+◌, ◌-◌, ◌<◌, ◌≤◌, ◌^◌, if◌then◌else◌, Bool, true, false, is_some, Option, Some, None, List, [], ◌∷◌, drop, slice_get, refl, ap, sym, ◌∙◌, subst, arith}
use Rattle.fsim_base.specs.declared.cause.Cause.{Cause}
use Rattle.fsim_base.specs.declared.instruction.Flow.{Flow}
use Rattle.fsim_base.specs.declared.instruction.Flow.TheVariants as flow
use Rattle.fsim_base.specs.declared.instruction.Halt.{Halt}
use Rattle.reorder_buffer.specs.declared.slot.Slot.{Slot}
use Rattle.reorder_buffer.specs.declared.slot.SlotState.{SlotState}
use Rattle.reorder_buffer.specs.declared.slot.SlotState.TheVariants.{Waiting, Until, Done}
use Rattle.mono_model.specs.declared.final_state.End.TheVariants.{OutputFull}
use Rattle.mono_model.specs.declared.setup.Setup.{Setup}
use Rattle.mono_model.specs.Commit.{branch_count}
use Rattle.mono_model.specs.Found.{flow_in, is_fence_i}
use Rattle.timing_side.specs.Slots.{found_in}
use Rattle.timing_side.specs.Timing.{Timing}
use Rattle.timing_side.specs.Commit as phase
use Rattle.timing_side.specs.Commit.{committed, faulted, has_no_room, leaving_by, leaving_done, leaving_state, leaving_first, leaving, after_leaving, ended_with, commits}
use Rattle.timing_side.proofs.Commits.{leaving_case, commits-suc}
use Rattle.timing_core.specs.declared.commit.Leaving.{Leaving}
use Rattle.timing_core.specs.declared.commit.Committed.{Committed}
use Rattle.timing_core.specs.Small.{IsBelow}
use Rattle.timing_core.specs.Leaving.{kind_of, behind_of, ending_in, ended_by}
use Rattle.timing_core.proofs.Ordered.{behind_oldest}

-- an instruction is one branch at most
pub branch_count_limit : (f : Flow) → branch_count f ≤ 1
branch_count_limit flow.Plain = omega arith
branch_count_limit flow.Branch = omega arith
branch_count_limit flow.Jump = omega arith

-- the oldest slot is one
pub same_oldest : (oldest : Option Slot) (found slot : Slot) → oldest ≡ Some found → oldest ≡ Some slot → found ≡ slot
same_oldest oldest found slot is there = cc

-- the oldest slot stays where there is none, and where it isn't done
IsNotDone : Option Slot → Type 0
IsNotDone None = Unit {0}
IsNotDone (Some slot) = slot.state ≡ Done → ⊥

stays_state : (s : Setup) (slot : Slot) (rest : List Slot) (state : SlotState) (t : Timing) → (state ≡ Done → ⊥) → leaving_state s slot rest state t ≡ phase.stays
stays_state s slot rest Waiting t other = refl
stays_state s slot rest (Until e) t other = refl
stays_state s slot rest Done t other = absurd (other refl)

stays_first : (s : Setup) (slots : List Slot) (t : Timing) → IsNotDone (slice_get slots 0) → leaving_first s slots t ≡ phase.stays
unfolding IsNotDone
stays_first s [] t other = refl
stays_first s (slot ∷ rest) t other = stays_state s slot rest slot.state t other

pub stays_none : (s : Setup) (t : Timing) (slots : List Slot) → slice_get slots 0 ≡ None → t.slots ≡ slots → leaving s t ≡ phase.stays
unfolding leaving IsNotDone
stays_none s t slots none is =
    stays_first s t.slots t (subst IsNotDone (sym (ap (λ (l : List Slot). slice_get l 0) is ∙ none)) tt)

pub stays_not_done : (s : Setup) (t : Timing) (slots : List Slot) (slot : Slot) → slice_get slots 0 ≡ Some slot → (slot.state ≡ Done → ⊥) → t.slots ≡ slots →
    leaving s t ≡ phase.stays
unfolding leaving IsNotDone
stays_not_done s t slots slot first other is =
    stays_first s t.slots t (subst IsNotDone (sym (ap (λ (l : List Slot). slice_get l 0) is ∙ first)) other)

-- the oldest slot, where it is done
leaves_first : (s : Setup) (slots : List Slot) (slot : Slot) (t : Timing) → slice_get slots 0 ≡ Some slot → slot.state ≡ Done →
    leaving_first s slots t ≡ leaving_done s slot (drop 1 slots) slot.cause t
leaves_first s [] slot t first done = absurd (cc)
leaves_first s (x ∷ rest) slot t first done =
    let is : x ≡ slot = cc in
    ap (λ (y : Slot). leaving_state s y rest y.state t) is ∙ ap (λ (state : SlotState). leaving_state s slot rest state t) done

pub leaves_done : (s : Setup) (t : Timing) (slots : List Slot) (slot : Slot) → slice_get slots 0 ≡ Some slot → slot.state ≡ Done → slots ≡ t.slots →
    leaving s t ≡ leaving_done s slot (drop 1 t.slots) slot.cause t
unfolding leaving
leaves_done s t slots slot first done is =
    leaves_first s t.slots slot t (ap (λ (l : List Slot). slice_get l 0) (sym is) ∙ first) done

-- a slot that is done, by its cause and the room for its byte
pub faults_is : (s : Setup) (slot : Slot) (rest : List Slot) (cause : Option Cause) (t : Timing) → is_some cause ≡ true →
    leaving_done s slot rest cause t ≡ phase.faults slot.next (faulted slot rest t)
faults_is s slot rest (Some cause) t some = refl
faults_is s slot rest None t some = absurd (cc)

room_by : (s : Setup) (slot : Slot) (rest : List Slot) (cause : Option Cause) (t : Timing) → is_some cause ≡ false →
    leaving_done s slot rest cause t
    ≡ (if has_no_room s slot t then phase.full (record t { end = OutputFull }) else leaving_by (is_fence_i (found_in slot)) slot.halt (committed s slot rest t))
room_by s slot rest (Some cause) t none = absurd (cc)
room_by s slot rest None t none = refl

pub retires_is : (s : Setup) (slot : Slot) (rest : List Slot) (cause : Option Cause) (t : Timing) → is_some cause ≡ false → has_no_room s slot t ≡ false →
    leaving_done s slot rest cause t ≡ leaving_by (is_fence_i (found_in slot)) slot.halt (committed s slot rest t)
retires_is s slot rest cause t none room =
    room_by s slot rest cause t none
    ∙ ap (λ (b : Bool). if b then phase.full (record t { end = OutputFull }) else leaving_by (is_fence_i (found_in slot)) slot.halt (committed s slot rest t)) room

-- behind a slot that retired nothing stays as it was
pub behind_same : (fence : Bool) (halt : Option Halt) (t u v : Timing) → behind_of u (leaving_by fence halt t) ≡ behind_of v (leaving_by fence halt t)
behind_same fence (Some halt) t u v = refl
behind_same true None t u v = refl
behind_same false None t u v = refl

-- how the phase goes on
abbrev pub go_on_by : Option Committed → Timing → (Timing → phase.Committed) → phase.Committed
go_on_by None behind go_on = go_on behind
go_on_by (Some c) behind go_on = record { timing = behind; left = c.left; ending = ending_in c.ending }

after_is : (l : phase.Leaving) (t : Timing) (left : ℕ) (go_on : Timing → phase.Committed) →
    after_leaving l t left go_on ≡ go_on_by (ended_by (kind_of l) left) (behind_of t l) go_on
after_is phase.stays t left go_on = refl
after_is (phase.full behind) t left go_on = refl
after_is (phase.leaves behind) t left go_on = refl
after_is (phase.faults handler behind) t left go_on = refl
after_is (phase.syncs behind) t left go_on = refl
after_is (phase.ends behind) t left go_on = refl

pub commits_next : (s : Setup) (t : Timing) (most left : ℕ) (kind : Leaving) (ended : Option Committed) → left < most → kind ≡ kind_of (leaving s t) → ended ≡ ended_by kind left →
    commits s (most - left) left t ≡ go_on_by ended (behind_of t (leaving s t)) (λ behind. commits s (most - (left + 1)) (left + 1) behind)
commits_next s t most left kind ended below is ends =
    let more : ℕ = most - (left + 1) in
    let one_more : most - left ≡ suc more = omega arith in
    ap (λ (n : ℕ). commits s n left t) one_more ∙ commits-suc s more left t
    ∙ after_is (leaving s t) t left (λ behind. commits s more (left + 1) behind)
    ∙ ap (λ (e : Option Committed). go_on_by e (behind_of t (leaving s t)) (λ behind. commits s more (left + 1) behind))
    (ap (λ (l : Leaving). ended_by l left) (sym is) ∙ sym ends)

pub commits_over : (s : Setup) (t : Timing) (left : ℕ) → commits s 0 left t ≡ ended_with t left phase.plain
unfolding commits
commits_over s t left = refl

pub below_more : (low high : ℕ) (t : Timing) → low ≤ high → IsBelow low t → IsBelow high t
below_more low high t more below = record {
  cycle = omega arith;
  to_commit = omega arith;
  resume = omega arith;
  exceptions = omega arith;
  interrupts = omega arith;
  replays = omega arith;
  fetched = omega arith;
  squashed = omega arith;
  branches = omega arith;
  mispredicted = omega arith;
  retired = omega arith;
  output = omega arith;
  order = below.order;
}

-- the numbers behind a slot that leaves
pub sent : (b : Bool) → (if b then 1 else 0) ≤ 1
sent true = omega arith
sent false = omega arith

committed_below : (s : Setup) (slot : Slot) (rest : List Slot) (t : Timing) (limit : ℕ) → t.slots ≡ slot ∷ rest → IsBelow limit t →
    IsBelow (limit + 1) (committed s slot rest t)
committed_below s slot rest t limit there below = record {
  cycle = omega arith;
  to_commit = omega arith;
  resume = omega arith;
  exceptions = omega arith;
  interrupts = omega arith;
  replays = omega arith;
  fetched = omega arith;
  squashed = omega arith;
  branches = omega (arith, branch_count_limit (flow_in (found_in slot)));
  mispredicted = omega arith;
  retired = omega arith;
  output = omega (arith, sent slot.sends);
  order = behind_oldest t.cycle t.slots slot rest there below.order;
}

pub leaves_below : (s : Setup) (t : Timing) (left limit : ℕ) (kind : Leaving) → kind ≡ kind_of (leaving s t) → None ≡ ended_by kind left → IsBelow limit t →
    IsBelow (limit + 1) (behind_of t (leaving s t))
leaves_below s t left limit kind is none below =
    leaving_case s t (λ l. None ≡ ended_by (kind_of l) left → IsBelow (limit + 1) (behind_of t l)) (λ on. absurd (cc)) (λ slot rest done. record {
      if_faults = λ cause why on. absurd (cc);
      if_full = λ cause room on. absurd (cc);
      if_ends = λ halt passes on. absurd (cc);
      if_syncs = λ passes fence on. absurd (cc);
      if_leaves = λ passes fence on. committed_below s slot rest t limit done.slots below;
    }) (none ∙ ap (λ (l : Leaving). ended_by l left) is)

-- the phase as far as it has come
pub record IsUnderWay (s : Setup) (most : ℕ) (t : Timing) (left : ℕ) (behind : Timing) : Type 0 where
  pub below : IsBelow (2 ^ 63 + left) behind
  pub same : commits s most 0 t ≡ commits s (most - left) left behind
