-- The phases of the pipeline, from what its parts make.
use Rattle.std.proofs.Common.{◌≡◌, ℕ, ◌+◌, Bool, true, false, if◌then◌else◌, Option, Some, None, List, [], ◌∷◌, length, refl, ap, sym, ◌∙◌, subst, arith}
use Rattle.std.specs.Prelude.{slice_get, slice_set, nat_le}
use Rattle.cache_timing.specs.Caches.{CachesState}
use Rattle.rollback_cmds.specs.declared.order.Order.TheVariants.{Time}
use Rattle.reorder_buffer.specs.declared.slot.Slot.{Slot}
use Rattle.mono_model.specs.declared.setup.Setup.{Setup}
use Rattle.timing_side.specs.Timing.{Timing, Phase, quiet, ordering}
use Rattle.timing_side.specs.Commit.{commits, committed_phase}
use Rattle.timing_side.specs.Issue.{replayed}
use Rattle.timing_core.specs.declared.state.TimingCore.{TimingCore}
use Rattle.timing_core.specs.CoreStandsFor.{CoreStandsFor}
use Rattle.timing_core.specs.Small.{IsSmall}
use Rattle.timing_core.proofs.Walks.{same_slot}
use Rattle.in_flight.specs.Flight.{older_at}
use Rattle.inorder_machine.specs.InorderMachine.{memory_behind}
use Rattle.inorder_machine.specs.Memory.{went_on}
use Rattle.inorder_side.specs.Timing.{InorderTiming, Executing, in_execute, has_write, flushing, keeping}
use Rattle.inorder_side.specs.Phases.{write_width, with_caches, moved, may_move, moving_by, timing_inorder_execute}
use Rattle.inorder_side.specs.Issue.{wants_time, may_issue, begun, issue_of, issue_from, issued, issue_phase}
use Rattle.inorder_model.specs.declared.timing.InorderTimingCore.{InorderTimingCore}
use Rattle.inorder_model.specs.declared.stages.Executing as code
use Rattle.inorder_model.specs.Stages.{executing_in}
use Rattle.inorder_model.specs.InorderStandsFor.{InorderStandsFor}
use Rattle.inorder_model.proofs.Deciding.{issue_youngest, issue_none}

pub flushed : (s : Setup) (p : Phase) (memory : Option ℕ) (core : TimingCore) (now : InorderTimingCore) → CoreStandsFor s p.timing core → now.core ≡ core →
    now.memory ≡ memory_behind core.flight.slots memory → InorderStandsFor s (flushing p memory).inorder now
flushed s p memory core now stands same is = record {
  core = subst (λ (c : TimingCore). CoreStandsFor s p.timing c) (sym same) stands;
  memory = is ∙ ap (λ (slots : List Slot). memory_behind slots memory) stands.slots;
}

-- Memory where it has a slot
pub went_by : (cycle : ℕ) (memory : Option ℕ) (e : ℕ) (b : Bool) → memory ≡ Some e → nat_le e cycle ≡ b → went_on cycle memory ≡ (if b then None else Some e)
went_by cycle memory e b is over = ap (went_on cycle) is ∙ ap (λ (b : Bool). if b then None else Some e) over

-- caches change no number and no slot
pub cached_small : (caches : CachesState) (t : Timing) → IsSmall t → IsSmall (with_caches caches t)
cached_small caches t small = record {
  cycle = small.cycle;
  to_commit = small.to_commit;
  resume = small.resume;
  exceptions = small.exceptions;
  interrupts = small.interrupts;
  replays = small.replays;
  fetched = small.fetched;
  squashed = small.squashed;
  branches = small.branches;
  mispredicted = small.mispredicted;
  retired = small.retired;
  output = small.output;
  order = small.order;
}

-- the slot in Execute, as the state has it
pub held_executing : (s : Setup) (t : Timing) (core : TimingCore) (r x : Option code.Executing) → CoreStandsFor s t core → executing_in r ≡ in_execute core.flight.slots → r ≡ x →
    in_execute t.slots ≡ executing_in x
held_executing s t core r x k is same = ap in_execute (sym k.slots) ∙ sym is ∙ ap executing_in same

pub none_goes : (s : Setup) (l : InorderTiming) → in_execute l.timing.slots ≡ None → timing_inorder_execute s l ≡ keeping (quiet l.timing) l.memory
unfolding timing_inorder_execute
none_goes s l none = ap (λ (x : Option Executing). moving_by s x l) none

pub one_goes : (s : Setup) (l : InorderTiming) (x : Executing) (b : Bool) → in_execute l.timing.slots ≡ Some x → may_move l x ≡ b →
    timing_inorder_execute s l ≡ (if b then moved s x l else keeping (quiet l.timing) l.memory)
unfolding timing_inorder_execute
one_goes s l x b is may =
    ap (λ (y : Option Executing). moving_by s y l) is ∙ ap (λ (c : Bool). if c then moved s x l else keeping (quiet l.timing) l.memory) may

-- the phase of issue by its test
pub issue_by : (s : Setup) (l : InorderTiming) (b : Bool) → wants_time l.timing ≡ b →
    issue_phase s l ≡ (if b then ordering (Time l.timing.to_commit l.timing.cycle) (replayed l.timing) else quiet (issued s l))
issue_by s l b is = ap (λ (x : Bool). if x then ordering (Time l.timing.to_commit l.timing.cycle) (replayed l.timing) else quiet (issued s l)) is

-- what is issued: nothing where nothing is in flight, else the youngest slot takes its turn
pub issued_none : (s : Setup) (l : InorderTiming) → l.timing.slots ≡ [] → issued s l ≡ l.timing
issued_none s l none =
    let same : issue_all l.timing.slots ≡ l.timing.slots = ap issue_all none ∙ issue_none s l ∙ sym none in
    λ i. record l.timing { slots = same i }
  where
    issue_all : List Slot → List Slot
    issue_all slots = issue_from s l [] slots

pub issued_at : (s : Setup) (l : InorderTiming) (place : ℕ) (slot : Slot) → slice_get l.timing.slots place ≡ Some slot → length l.timing.slots ≡ place + 1 →
    issued s l ≡ record l.timing { slots = slice_set l.timing.slots place (issue_of s l (older_at l.timing.slots place) slot) }
issued_at s l place slot there last = λ i. record l.timing { slots = issue_youngest s l l.timing.slots place slot there last i }

pub issue_goes : (s : Setup) (l : InorderTiming) (older : List Slot) (slot : Slot) → may_issue l older slot ≡ true → issue_of s l older slot ≡ begun s l slot
unfolding issue_of
issue_goes s l older slot may = ap (λ (b : Bool). if b then begun s l slot else slot) may

pub issue_stays : (s : Setup) (l : InorderTiming) (older : List Slot) (slot : Slot) → may_issue l older slot ≡ false → issue_of s l older slot ≡ slot
unfolding issue_of
issue_stays s l older slot may = ap (λ (b : Bool). if b then begun s l slot else slot) may

pub issued_stays : (s : Setup) (l : InorderTiming) (place : ℕ) (slot : Slot) → slice_get l.timing.slots place ≡ Some slot → length l.timing.slots ≡ place + 1 →
    may_issue l (older_at l.timing.slots place) slot ≡ false → issued s l ≡ l.timing
issued_stays s l place slot there last may =
    issued_at s l place slot there last
    ∙ ap (λ (x : Slot). record l.timing { slots = slice_set l.timing.slots place x }) (issue_stays s l (older_at l.timing.slots place) slot may)
    ∙ ap (λ (slots : List Slot). record l.timing { slots = slots }) (unchanged l.timing.slots place slot there)
  where
    unchanged : (slots : List Slot) (place : ℕ) (slot : Slot) → slice_get slots place ≡ Some slot → slice_set slots place slot ≡ slots
    unchanged slots place slot there = same_slot s 0 0 slots place slot there

pub no_slots : (slots : List Slot) → length slots ≡ 0 → slots ≡ []
no_slots [] none = refl
no_slots (slot ∷ rest) none = absurd (omega (arith, none))

-- how many may leave
abbrev one_if : Bool → ℕ
one_if b = if b then 1 else 0

pub one_leaves : (l : InorderTiming) → true ≡ has_write l → 1 ≡ write_width l
one_leaves l is = ap one_if is

pub none_leaves : (l : InorderTiming) → false ≡ has_write l → 0 ≡ write_width l
none_leaves l is = ap one_if is

-- nothing leaves where none may
pub none_written : (s : Setup) (t : Timing) → ((committed_phase (commits s 0 0 t)).timing ≡ t) × ((committed_phase (commits s 0 0 t)).orders ≡ [])
unfolding commits
none_written s t = (refl, refl)
