-- A step of the timing side reads of the setup its parameters, its limit of cycles and its limit of output.
use Rattle.std.proofs.Common.{◌≡◌, ℕ, zero, suc, ◌+◌, if◌then◌else◌, Option, Some, None, List, [], ◌∷◌, refl, ap, ◌∙◌}
use Rattle.fsim_base.specs.declared.access.Access.{Access}
use Rattle.fsim_base.specs.declared.access.Access.TheVariants as access
use Rattle.fsim_base.specs.declared.access.Spot.TheVariants.{Ram, Device, Nowhere}
use Rattle.fsim_base.specs.declared.cause.Cause.{Cause}
use Rattle.cache_timing.specs.Caches.{CachesState, Served}
use Rattle.trace_entry.specs.declared.Entry.{Entry}
use Rattle.elf_image.specs.declared.image.Image.{Image}
use Rattle.rollback_cmds.specs.declared.order.Order.{Order}
use Rattle.rollback_cmds.specs.declared.order.Order.TheVariants.{Time}
use Rattle.reorder_buffer.specs.declared.slot.Slot.{Slot}
use Rattle.reorder_buffer.specs.declared.slot.SlotState.{SlotState}
use Rattle.reorder_buffer.specs.declared.slot.SlotState.TheVariants.{Waiting, Until, Done}
use Rattle.mono_model.specs.declared.setup.Setup.{Setup}
use Rattle.mono_model.specs.Issue.{Used, none_used, cached}
use Rattle.mono_model.specs.Demand.{At, interrupting, committing, completing, issuing, trying, ending, stopping, halted}
use Rattle.timing_side.specs.Timing.{Timing, Phase, quiet, ordering}
use Rattle.timing_side.specs.Commit as commit
use Rattle.timing_side.specs.Issue as issue
use Rattle.timing_side.specs.Fetch as fetch
use Rattle.timing_side.specs.Turn.{Turned, turned, try_or_end, at_after_commit, at_after_try, at_after_cycle, timing_turn, timing_end_of_cycle}
use Rattle.timing_side.specs.Step.{TimingPlace, step_by, telling, timing_step}

-- two setups that are alike but for image, input and trace
module _ (s : Setup) (image : Image) (input : List ℕ) (ring : ℕ) where
  abbrev other : Setup
  other = record s { image = image; input = input; ring = ring }

  done_alike : (slot : Slot) (rest : List Slot) (cause : Option Cause) (t : Timing) → commit.leaving_done s slot rest cause t ≡ commit.leaving_done other slot rest cause t
  done_alike slot rest (Some cause) t = refl
  done_alike slot rest None t = refl

  first_alike : (slots : List Slot) (t : Timing) → commit.leaving_first s slots t ≡ commit.leaving_first other slots t
  first_alike [] t = refl
  first_alike (slot ∷ rest) t = by_state slot.state
    where
      by_state : (state : SlotState) → commit.leaving_state s slot rest state t ≡ commit.leaving_state other slot rest state t
      by_state Waiting = refl
      by_state (Until e) = refl
      by_state Done = done_alike slot rest slot.cause t

  leaving_alike : (t : Timing) → commit.leaving s t ≡ commit.leaving other t
  unfolding commit.leaving
  leaving_alike t = first_alike t.slots t

  after_alike : (l : commit.Leaving) (t : Timing) (left : ℕ) (go_on follow : Timing → commit.Committed) → ((behind : Timing) → go_on behind ≡ follow behind) →
      commit.after_leaving l t left go_on ≡ commit.after_leaving l t left follow
  after_alike commit.stays t left go_on follow same = refl
  after_alike (commit.full behind) t left go_on follow same = refl
  after_alike (commit.leaves behind) t left go_on follow same = same behind
  after_alike (commit.faults handler behind) t left go_on follow same = refl
  after_alike (commit.syncs behind) t left go_on follow same = refl
  after_alike (commit.ends behind) t left go_on follow same = refl

  commits_alike : (more left : ℕ) (t : Timing) → commit.commits s more left t ≡ commit.commits other more left t
  unfolding commit.commits
  commits_alike zero left t = refl
  commits_alike (suc more) left t =
      ap (λ (l : commit.Leaving). commit.after_leaving l t left (λ behind. commit.commits s more (left + 1) behind)) (leaving_alike t)
      ∙ after_alike (commit.leaving other t) t left (λ behind. commit.commits s more (left + 1) behind) (λ behind. commit.commits other more (left + 1) behind)
      (λ behind. commits_alike more (left + 1) behind)

  commit_alike : (t : Timing) → commit.timing_commit s t ≡ commit.timing_commit other t
  unfolding commit.timing_commit
  commit_alike t = ap (λ (c : commit.Committed). commit.committed_phase c) (commits_alike s.params.core_commit 0 t)

  cached_alike : (cause : Option Cause) (made : Access) (caches : CachesState) → cached s cause made caches ≡ cached other cause made caches
  cached_alike (Some cause) made caches = refl
  cached_alike None access.Nothing caches = refl
  cached_alike None (access.Load addr width Ram) caches = refl
  cached_alike None (access.Load addr width Device) caches = refl
  cached_alike None (access.Load addr width Nowhere) caches = refl
  cached_alike None (access.Store addr width spot) caches = refl

  turn_alike : (cycle busy : ℕ) (older : List Slot) (slot : Slot) (used : Used) (caches : CachesState) →
      issue.turn_of s cycle busy older slot used caches ≡ issue.turn_of other cycle busy older slot used caches
  unfolding issue.turn_of
  turn_alike cycle busy older slot used caches =
      ap (λ (d : Served). if issue.may_begin s.params cycle busy older slot used then issue.begun s cycle slot used d else issue.unchanged slot used caches)
      (cached_alike slot.cause slot.access caches)

  walk_alike : (cycle busy : ℕ) (rest older : List Slot) (used : Used) (caches : CachesState) →
      issue.walk s cycle busy rest older used caches ≡ issue.walk other cycle busy rest older used caches
  unfolding issue.walk
  walk_alike cycle busy [] older used caches = refl
  walk_alike cycle busy (slot ∷ rest) older used caches =
      let t : issue.Turned = issue.turn_of other cycle busy older slot used caches in
      ap (λ (x : issue.Turned). issue.walked_on x.turned (issue.walk s cycle busy rest (x.turned ∷ older) x.used x.caches)) (turn_alike cycle busy older slot used caches)
      ∙ ap (λ (w : issue.Walked). issue.walked_on t.turned w) (walk_alike cycle busy rest (t.turned ∷ older) t.used t.caches)

  issue_alike : (t : Timing) → issue.timing_issue s t ≡ issue.timing_issue other t
  unfolding issue.timing_issue
  issue_alike t =
      ap (λ (w : issue.Walked). if issue.wants_time s t then ordering (Time t.to_commit t.cycle) (issue.replayed t) else quiet (record t { slots = w.slots; caches = w.caches }))
      (walk_alike t.cycle (issue.busy_divisions t.slots) t.slots [] none_used t.caches)

  fetch_alike : (e : Entry) (t : Timing) → fetch.timing_try s e t ≡ fetch.timing_try other e t
  unfolding fetch.timing_try
  fetch_alike e t = refl

  try_or_end_alike : (more : ℕ) (t : Timing) → try_or_end s more t ≡ try_or_end other more t
  unfolding fetch.may_fetch
  try_or_end_alike zero t = refl
  try_or_end_alike (suc more) t = refl

  tick_alike : (t : Timing) → timing_end_of_cycle s t ≡ timing_end_of_cycle other t
  unfolding timing_end_of_cycle
  tick_alike t = refl

  turns_alike : (e : Entry) (at : At) (t : Timing) → timing_turn s e at t ≡ timing_turn other e at t
  unfolding timing_turn
  turns_alike e interrupting t = refl
  turns_alike e committing t = ap (λ (p : Phase). turned p (at_after_commit p.timing)) (commit_alike t)
  turns_alike e completing t = refl
  turns_alike e issuing t =
      ap (λ (p : Phase). turned p (try_or_end s s.params.core_fetch p.timing)) (issue_alike t)
      ∙ ap (λ (x : At). turned (issue.timing_issue other t) x) (try_or_end_alike s.params.core_fetch (issue.timing_issue other t).timing)
  turns_alike e (trying more) t =
      ap (λ (f : fetch.Tried). turned f.phase (at_after_try s more f)) (fetch_alike e t)
      ∙ ap (λ (x : At). turned (fetch.timing_try other e t).phase (if (fetch.timing_try other e t).goes_on then x else ending))
      (try_or_end_alike more (fetch.timing_try other e t).phase.timing)
  turns_alike e ending t = ap (λ (x : Timing). turned (quiet x) (at_after_cycle x)) (tick_alike t)
  turns_alike e stopping t = refl
  turns_alike e halted t = refl

  by_owed : (e : Entry) (p : TimingPlace) (owed : List Order) → step_by s e p owed ≡ step_by other e p owed
  by_owed e p [] = ap (λ (x : Turned). telling x.timing x.at p.epoch x.orders) (turns_alike e p.at p.timing)
  by_owed e p (o ∷ os) = refl

  step_alike : (e : Entry) (p : TimingPlace) → timing_step s e p ≡ timing_step other e p
  unfolding timing_step
  step_alike e p = by_owed e p p.owed

pub step_knows : (s t : Setup) (e : Entry) (p : TimingPlace) → s.params ≡ t.params → s.cycles ≡ t.cycles → s.output ≡ t.output → timing_step s e p ≡ timing_step t e p
step_knows s t e p params cycles output =
    step_alike s t.image t.input t.ring e p
    ∙ (λ i. timing_step (record { image = t.image; params = params i; input = t.input; cycles = cycles i; output = output i; ring = t.ring }) e p)
