-- The commit of slots is that of the records.
use Rattle.std.proofs.Common.{◌≡◌, ℕ, zero, suc, ◌+◌, ◌-◌, ◌&&◌, nat_le, Bool, true, false, if◌then◌else◌, is_none, is_some, Option, Some, None, List, [], ◌∷◌, ◌++◌, length, refl, ap, sym, ◌∙◌, subst, arith}
use Rattle.fsim_base.specs.declared.cause.Cause.{Cause}
use Rattle.fsim_base.specs.declared.instruction.Halt.{Halt}
use Rattle.rollback_cmds.specs.declared.order.Order.{Order}
use Rattle.rollback_cmds.specs.declared.order.Order.TheVariants.{Set, Commit, Sync}
use Rattle.branch_predictor.specs.Predictor.{trained}
use Rattle.device_bus.specs.declared.undo.Note.{Note}
use Rattle.device_bus.specs.declared.undo.Note.TheVariants as note
use Rattle.reorder_buffer.specs.declared.slot.Slot.{Slot}
use Rattle.mono_model.specs.declared.setup.Setup.{Setup}
use Rattle.mono_model.specs.declared.final_state.End.TheVariants.{OutputFull}
use Rattle.mono_model.specs.Setup.{predictor_params, caches_params}
use Rattle.mono_model.specs.Arch.{Arch, compare_of, synced}
use Rattle.mono_model.specs.Found.{flow_in, is_fence_i}
use Rattle.mono_model.specs.Result.{Result}
use Rattle.mono_model.specs.Effect.{effect, note_of}
use Rattle.mono_model.specs.Sequence.{seq, result_at, byte_in, halt_in}
use Rattle.mono_model.specs.Path.{path, time_of, entry, GoesOn}
use Rattle.mono_model.specs.Final.{end_of}
use Rattle.mono_model.specs.Alone.{has_no_room}
use Rattle.mono_model.specs.Window.{Record, Stage, waiting, until, done}
use Rattle.mono_model.specs.Machine.{Machine, flushed}
use Rattle.mono_model.specs.Commit as mono
use Rattle.mono_model.specs.Demand.{Demand, ending_orders, commit_order, demand_committed, demand_commit}
use Rattle.machine_laws.specs.Relation.{Tracked, Tracks, Related, Within}
use Rattle.mono_model.proofs.Path.{path_commit}
use Rattle.machine_laws.proofs.Commit.{numbered, KeptBy, effect_is, leaving_kept, related_number, order_related}
use Rattle.mono_model.proofs.Commits.{every_commit}
use Rattle.mono_model.proofs.Commits as walk
use Rattle.timing_side.specs.Slots.{found_in}
use Rattle.timing_side.specs.Timing.{Timing, cut_to}
use Rattle.timing_side.specs.Commit as timing
use Rattle.timing_laws.specs.Seen.{state_of, slot_of, slots_of, seen}
use Rattle.timing_side.proofs.Commits.{commits-suc}
use Rattle.timing_laws.proofs.Effects.{committed_retired, committed_output, faulted_retired, faulted_output}
use Rattle.timing_laws.proofs.Entries.{entry_addr, entry_access, entry_cause, entry_next, entry_goes, entry_out, entry_halt, entry_irq, entry_cmp, slot_says, slots_length, slots_same, cut_seen, IsPhase}

-- the state of the oldest record's slot, as the timing side sees it
abbrev pub seen_leaving : Setup → ℕ → List Order → mono.Leaving → timing.Leaving
seen_leaving s n os mono.stays = timing.stays
seen_leaving s n os (mono.full m) = timing.full (seen s (numbered m n os))
seen_leaving s n os (mono.leaves m) = timing.leaves (seen s (numbered m (suc n) os))
seen_leaving s n os (mono.faults m) = timing.faults m.arch.pc (seen s (numbered m (suc n) (Set (suc n) m.arch.pc ∷ os)))
seen_leaving s n os (mono.syncs m) = timing.syncs (seen s (numbered m (suc n) (Sync (suc n) ∷ os)))
seen_leaving s n os (mono.ends m) = timing.ends (seen s (numbered m (suc n) os))

-- tests of what an instruction does outside
room_by : (s : Setup) (what : Note) (a : Arch) → (is_some (byte_in what) && nat_le s.output (length a.output)) ≡ has_no_room s what a
room_by s note.Nothing a = refl
room_by s (note.Out byte) a = refl
room_by s (note.End halt) a = refl

module _ (s : Setup) (m : Machine) (n : ℕ) (os : List Order) (rec : Record) (rest : List Record) (r : Result)
    (arch : m.arch ≡ path s os n) (tracked : Tracked s (time_of os n) (path s os n) (path s os (suc n)).pc (record rec { stage = done r }))
    (tracks : Tracks s (time_of os) (path s os) (suc n) rest m.fetch_addr m.kept)
    (on : GoesOn os (suc n + length rest)) (within : Within os n) where
  abbrev slot : Slot
  slot = slot_of (entry s os n) (record rec { stage = done r })

  abbrev behind : Arch
  behind = effect rec.found r rec.time rec.addr m.arch

  is_seq : behind ≡ seq s (time_of os n) (path s os n)
  is_seq = effect_is s m n os rec rest r arch tracked tracks on within

  note_same : note_of (result_at s (time_of os n) (path s os n)) (path s os n) ≡ note_of r m.arch
  note_same = ap (λ (t : Result). note_of t (path s os n)) (sym tracked.result) ∙ ap (λ (a : Arch). note_of r a) (sym arch)

  sends_same : slot.sends ≡ is_some (byte_in (note_of r m.arch))
  sends_same = ap is_some (entry_out s os n) ∙ ap (λ (w : Note). is_some (byte_in w)) note_same

  halt_same : slot.halt ≡ halt_in (note_of r m.arch)
  halt_same = entry_halt s os n ∙ ap halt_in note_same

  room_same : (slot.sends && nat_le s.output (length m.arch.output)) ≡ has_no_room s (note_of r m.arch) m.arch
  room_same = ap (λ (b : Bool). b && nat_le s.output (length m.arch.output)) sends_same ∙ room_by s (note_of r m.arch) m.arch

  irq_same : slot.irq_on ≡ (behind.csrs.mie && behind.csrs.mtie)
  irq_same = entry_irq s os n ∙ ap (λ (a : Arch). a.csrs.mie && a.csrs.mtie) (sym is_seq)

  cmp_same : slot.cmp ≡ compare_of behind.devices
  cmp_same = entry_cmp s os n ∙ ap (λ (a : Arch). compare_of a.devices) (sym is_seq)

  cause_same : slot.cause ≡ r.cause
  cause_same = entry_cause s os n ∙ ap (λ (t : Result). t.cause) (sym tracked.result)

  fence_same : is_fence_i (found_in slot) ≡ is_fence_i rec.found
  fence_same = slot_says s os n is_fence_i (λ cause. refl) (path s os (suc n)).pc (record rec { stage = done r }) tracked

  committed_seen : r.cause ≡ None → timing.committed s slot (slots_of (entry s os) (suc n) rest) (seen s (numbered m n os)) ≡ seen s (numbered (mono.committed s rec rest r m) (suc n) os)
  unfolding seen
  committed_seen none =
      let number : n + 1 ≡ suc n = omega arith in
      let addr : slot.addr ≡ rec.addr = entry_addr s os n ∙ sym tracked.addr in
      let flow : flow_in (found_in slot) ≡ flow_in rec.found =
      slot_says s os n flow_in (λ cause. refl) (path s os (suc n)).pc (record rec { stage = done r }) tracked in
      let goes : slot.next ≡ r.next =
      entry_goes s os n (ap (λ (t : Result). is_none t.cause) (sym tracked.result) ∙ ap is_none none) ∙ ap (λ (t : Result). t.next) (sym tracked.result) in
      let access : slot.access ≡ r.access = entry_access s os n ∙ ap (λ (t : Result). t.access) (sym tracked.result) in
      let retired : m.arch.csrs.retired + 1 ≡ behind.csrs.retired = sym (committed_retired rec.found r rec.time rec.addr m.arch none) in
      let output : length m.arch.output + (if slot.sends then 1 else 0) ≡ length behind.output =
      ap (λ (b : Bool). length m.arch.output + (if b then 1 else 0)) sends_same ∙ sym (committed_output rec.found r rec.time rec.addr m.arch none) in
      λ i. record (seen s (numbered m n os)) {
        to_commit = number i;
        slots = slots_of (entry s os) (suc n) rest;
        predictor = trained (predictor_params s.params) m.predictor (addr i) (flow i) (goes i);
        caches = mono.caches_after (caches_params s.params) (access i) m.caches;
        counts = record m.counts { branches = m.counts.branches + mono.branch_count (flow i) };
        retired = retired i;
        output = output i;
        irq_on = irq_same i;
        cmp = cmp_same i;
      }

  faulted_seen : (why : Cause) → r.cause ≡ Some why →
      timing.faulted slot (slots_of (entry s os) (suc n) rest) (seen s (numbered m n os)) ≡ seen s (numbered (mono.faulted rec rest r m) (suc n) (Set (suc n) behind.pc ∷ os))
  unfolding seen cut_to flushed
  faulted_seen why is =
      let number : n + 1 ≡ suc n = omega arith in
      let count : length (slots_of (entry s os) (suc n) rest) ≡ length rest = slots_length s os (suc n) rest in
      let retired : m.arch.csrs.retired ≡ behind.csrs.retired = sym (faulted_retired why rec.found r rec.time rec.addr m.arch is) in
      let output : length m.arch.output ≡ length behind.output = ap (λ (l : List ℕ). length l) (sym (faulted_output why rec.found r rec.time rec.addr m.arch is)) in
      λ i. record (seen s (numbered m n os)) {
        to_commit = number i;
        slots = [];
        resume = 0;
        paid = false;
        counts = record m.counts { exceptions = m.counts.exceptions + 1; squashed = m.counts.squashed + (count i - 0) };
        retired = retired i;
        output = output i;
        irq_on = irq_same i;
        cmp = cmp_same i;
      }

  fenced_seen : r.cause ≡ None → cut_to [] (timing.committed s slot (slots_of (entry s os) (suc n) rest) (seen s (numbered m n os)))
      ≡ seen s (numbered (mono.fenced s (mono.committed s rec rest r m)) (suc n) (Sync (suc n) ∷ os))
  unfolding seen flushed synced
  fenced_seen none =
      ap (λ (t : Timing). cut_to [] t) (committed_seen none)
      ∙ cut_seen s (numbered (mono.committed s rec rest r m) (suc n) os) [] behind.pc (Sync (suc n) ∷ os) [] refl

  by_note : (fence : Bool) (what : Note) → r.cause ≡ None →
      timing.leaving_by fence (halt_in what) (timing.committed s slot (slots_of (entry s os) (suc n) rest) (seen s (numbered m n os)))
      ≡ seen_leaving s n os (mono.leaving_by s m (mono.faulted rec rest r m) (mono.committed s rec rest r m) None false what fence)
  unfolding seen
  by_note fence (note.End halt) none = ap (λ (t : Timing). timing.ends (record t { end = end_of halt })) (committed_seen none)
  by_note true note.Nothing none = ap timing.syncs (fenced_seen none)
  by_note true (note.Out byte) none = ap timing.syncs (fenced_seen none)
  by_note false note.Nothing none = ap timing.leaves (committed_seen none)
  by_note false (note.Out byte) none = ap timing.leaves (committed_seen none)

  by_cause : (cause : Option Cause) → r.cause ≡ cause → timing.leaving_done s slot (slots_of (entry s os) (suc n) rest) cause (seen s (numbered m n os))
      ≡ seen_leaving s n os
      (mono.leaving_by s m (mono.faulted rec rest r m) (mono.committed s rec rest r m) cause (has_no_room s (note_of r m.arch) m.arch) (note_of r m.arch) (is_fence_i rec.found))
  unfolding seen
  by_cause (Some why) is =
      let handler : slot.next ≡ behind.pc = entry_next s os n ∙ ap (λ (a : Arch). a.pc) (sym is_seq) in
      ap (λ (k : ℕ). timing.faults k (timing.faulted slot (slots_of (entry s os) (suc n) rest) (seen s (numbered m n os)))) handler
      ∙ ap (λ (t : Timing). timing.faults behind.pc t) (faulted_seen why is)
  by_cause None is =
      ap (λ (b : Bool). if b then timing.full (record (seen s (numbered m n os)) { end = OutputFull }) else go_on (is_fence_i (found_in slot)) slot.halt) room_same
      ∙ ap (λ (b : Bool). if has_no_room s (note_of r m.arch) m.arch then timing.full (record (seen s (numbered m n os)) { end = OutputFull }) else go_on b slot.halt) fence_same
      ∙ ap (λ (h : Option Halt). if has_no_room s (note_of r m.arch) m.arch then timing.full (record (seen s (numbered m n os)) { end = OutputFull }) else go_on (is_fence_i rec.found) h) halt_same
      ∙ by_test (has_no_room s (note_of r m.arch) m.arch)
    where
      go_on : Bool → Option Halt → timing.Leaving
      go_on fence halt = timing.leaving_by fence halt (timing.committed s slot (slots_of (entry s os) (suc n) rest) (seen s (numbered m n os)))

      by_test : (b : Bool) →
          (if b then timing.full (record (seen s (numbered m n os)) { end = OutputFull }) else go_on (is_fence_i rec.found) (halt_in (note_of r m.arch)))
          ≡ seen_leaving s n os
          (mono.leaving_by s m (mono.faulted rec rest r m) (mono.committed s rec rest r m) None b (note_of r m.arch) (is_fence_i rec.found))
      by_test true = refl
      by_test false = by_note (is_fence_i rec.found) (note_of r m.arch) is

-- the oldest slot leaves, or it stays
stage_seen : (s : Setup) (m : Machine) (n : ℕ) (os : List Order) (rec : Record) (rest : List Record) (stage : Stage) → rec.stage ≡ stage → m.window ≡ rec ∷ rest →
    Related s (numbered m n os) →
    timing.leaving_state s (slot_of (entry s os n) (record rec { stage = stage })) (slots_of (entry s os) (suc n) rest) (state_of stage) (seen s (numbered m n os))
    ≡ seen_leaving s n os (mono.leaving_stage s rec rest stage m)
stage_seen s m n os rec rest waiting is there related = refl
stage_seen s m n os rec rest (until e r) is there related = refl
stage_seen s m n os rec rest (done r) is there related =
    let P : List Record → Type 0 = λ w. Tracks s (time_of os) (path s os) n w m.fetch_addr m.kept in
    let Q : Stage → Type 0 = λ stage. Tracked s (time_of os n) (path s os n) (path s os (suc n)).pc (record rec { stage = stage }) in
    let R : List Record → Type 0 = λ w. GoesOn os (n + length w) in
    let tracks : Tracks s (time_of os) (path s os) n (rec ∷ rest) m.fetch_addr m.kept = subst P there related.window in
    let tracked : Tracked s (time_of os n) (path s os n) (path s os (suc n)).pc (record rec { stage = done r }) = subst Q is tracks.0 in
    let e : n + length (rec ∷ rest) ≡ suc n + length rest = omega arith in
    let on : GoesOn os (suc n + length rest) = subst (λ (k : ℕ). GoesOn os k) e (subst R there related.on) in
    let slot : Slot = slot_of (entry s os n) (record rec { stage = done r }) in
    let slots : List Slot = slots_of (entry s os) (suc n) rest in
    ap (λ (c : Option Cause). timing.leaving_done s slot slots c (seen s (numbered m n os))) (cause_same s m n os rec rest r related.arch tracked tracks.1 on related.within)
    ∙ by_cause s m n os rec rest r related.arch tracked tracks.1 on related.within r.cause refl

first_seen : (s : Setup) (m : Machine) (n : ℕ) (os : List Order) (window : List Record) → m.window ≡ window → Related s (numbered m n os) →
    timing.leaving_first s (slots_of (entry s os) n window) (seen s (numbered m n os)) ≡ seen_leaving s n os (elim window [ [] ↦ mono.stays | rec ∷ rest ↦ mono.leaving_stage s rec rest rec.stage m ])
first_seen s m n os [] there related = refl
first_seen s m n os (rec ∷ rest) there related = stage_seen s m n os rec rest rec.stage refl there related

leaving_seen : (s : Setup) (m : Machine) (n : ℕ) (os : List Order) → Related s (numbered m n os) →
    timing.leaving s (seen s (numbered m n os)) ≡ seen_leaving s n os (mono.leaving s m)
unfolding seen timing.leaving mono.leaving
leaving_seen s m n os related = first_seen s m n os m.window refl related

-- what the phase leaves behind it, as the timing side sees it
abbrev pub seen_ending : ℕ → mono.Ending → timing.Ending
seen_ending handler mono.plain = timing.plain
seen_ending handler mono.trap = timing.trap handler
seen_ending handler mono.sync = timing.sync

abbrev pub seen_committed : Setup → ℕ → List Order → mono.Committed → timing.Committed
seen_committed s start os c = record {
  timing = seen s (numbered c.machine (start + c.left) (ending_orders c.ending c.machine.arch.pc (start + c.left) os));
  left = c.left;
  ending = seen_ending c.machine.arch.pc c.ending;
}

-- the timing side's phase, from its start on, is what is left of it where the records have come
record IsOn (s : Setup) (start : ℕ) (os : List Order) (whole : timing.Committed) (more left : ℕ) (m : Machine) : Type 0 where
  related : Related s (numbered m (start + left) os)
  same : whole ≡ timing.commits s more left (seen s (numbered m (start + left) os))

abbrev IsSeen : Setup → ℕ → List Order → timing.Committed → mono.Committed → Type 0
IsSeen s start os whole c = whole ≡ seen_committed s start os c

goes_on_seen : (s : Setup) (start : ℕ) (os : List Order) (whole : timing.Committed) (more left : ℕ) (m : Machine) (l : mono.Leaving) → KeptBy s (start + left) os l →
    whole ≡ timing.after_leaving (seen_leaving s (start + left) os l) (seen s (numbered m (start + left) os)) left (λ behind. timing.commits s more (left + 1) behind) →
    walk.GoesOn (IsOn s start os whole more) (IsSeen s start os whole) left m l
goes_on_seen s start os whole more left m mono.stays kept is = is
goes_on_seen s start os whole more left m (mono.full behind) kept is = is
goes_on_seen s start os whole more left m (mono.leaves behind) kept is =
    let e : suc (start + left) ≡ start + (left + 1) = omega arith in
    record {
      related = related_number s behind (suc (start + left)) (start + (left + 1)) os e kept;
      same = is ∙ ap (λ (k : ℕ). timing.commits s more (left + 1) (seen s (numbered behind k os))) e;
    }
goes_on_seen s start os whole more left m (mono.faults behind) kept is =
    let e : suc (start + left) ≡ start + (left + 1) = omega arith in
    is ∙ ap (λ (k : ℕ). timing.ended_with (seen s (numbered behind k (Set k behind.arch.pc ∷ os))) (left + 1) (timing.trap behind.arch.pc)) e
goes_on_seen s start os whole more left m (mono.syncs behind) kept is =
    let e : suc (start + left) ≡ start + (left + 1) = omega arith in
    is ∙ ap (λ (k : ℕ). timing.ended_with (seen s (numbered behind k (Sync k ∷ os))) (left + 1) timing.sync) e
goes_on_seen s start os whole more left m (mono.ends behind) kept is =
    let e : suc (start + left) ≡ start + (left + 1) = omega arith in
    is ∙ ap (λ (k : ℕ). timing.ended_with (seen s (numbered behind k os)) (left + 1) timing.plain) e

over_seen : (s : Setup) (start left : ℕ) (os : List Order) (whole : timing.Committed) (m : Machine) → IsOn s start os whole 0 left m → IsSeen s start os whole (mono.ended_with m left mono.plain)
unfolding timing.commits
over_seen s start left os whole m on = on.same

one_seen : (s : Setup) (start : ℕ) (os : List Order) (whole : timing.Committed) (more left : ℕ) (m : Machine) → IsOn s start os whole (suc more) left m →
    walk.GoesOn (IsOn s start os whole more) (IsSeen s start os whole) left m (mono.leaving s m)
one_seen s start os whole more left m on =
    let t : Timing = seen s (numbered m (start + left) os) in
    goes_on_seen s start os whole more left m (mono.leaving s m) (leaving_kept s m (start + left) os on.related)
    (on.same ∙ commits-suc s more left t
    ∙ ap (λ (l : timing.Leaving). timing.after_leaving l t left (λ behind. timing.commits s more (left + 1) behind)) (leaving_seen s m (start + left) os on.related))

commits_seen : (s : Setup) (start : ℕ) (os : List Order) (more left : ℕ) (m : Machine) → Related s (numbered m (start + left) os) →
    timing.commits s more left (seen s (numbered m (start + left) os)) ≡ seen_committed s start os (mono.commits s more left m)
commits_seen s start os more left m related =
    let whole : timing.Committed = timing.commits s more left (seen s (numbered m (start + left) os)) in
    every_commit s (IsOn s start os whole) (IsSeen s start os whole) (λ left m on. over_seen s start left os whole m on)
    (λ more left m on. one_seen s start os whole more left m on) more left m (record { related = related; same = refl })

-- an order Commit changes nothing of what is seen
order_seen : (s : Setup) (m : Machine) (n left k : ℕ) (os : List Order) → seen s (numbered m n os) ≡ seen s (numbered m n (commit_order left k os))
unfolding seen
order_seen s m n zero k os = refl
order_seen s m n (suc left) k os =
    let e : slots_of (entry s os) n m.window ≡ slots_of (entry s (Commit k ∷ os)) n m.window =
    sym (slots_same s os (Commit k ∷ os) n m.window (λ j. refl) (λ j under. ap (λ (p : ℕ → Arch). p j) (path_commit s k os))) in
    λ i. record (seen s (numbered m n os)) { slots = e i }

ending_added : (handler number left : ℕ) (how : mono.Ending) (os : List Order) →
    timing.ending_orders (seen_ending handler how) number (commit_order left number []) ++ os ≡ ending_orders how handler number (commit_order left number os)
ending_added handler number zero mono.plain os = refl
ending_added handler number (suc left) mono.plain os = refl
ending_added handler number zero mono.trap os = refl
ending_added handler number (suc left) mono.trap os = refl
ending_added handler number zero mono.sync os = refl
ending_added handler number (suc left) mono.sync os = refl

committed_phase_seen : (s : Setup) (d : Demand) (c : mono.Committed) →
    IsPhase s d
    (record {
      machine = c.machine;
      to_commit = d.to_commit + c.left;
      orders = ending_orders c.ending c.machine.arch.pc (d.to_commit + c.left) (commit_order c.left (d.to_commit + c.left) d.orders);
    })
    (timing.committed_phase (seen_committed s d.to_commit (commit_order c.left (d.to_commit + c.left) d.orders) c))
unfolding seen
committed_phase_seen s d c = record { timing = refl; orders = ending_added c.machine.arch.pc (d.to_commit + c.left) c.left c.ending d.orders }

pub commits_phase_seen : (s : Setup) (most : ℕ) (d : Demand) → Related s d →
    IsPhase s d (demand_committed (mono.commits s most 0 d.machine) d) (timing.committed_phase (timing.commits s most 0 (seen s d)))
commits_phase_seen s most d related =
    let c : mono.Committed = mono.commits s most 0 d.machine in
    let os : List Order = commit_order c.left (d.to_commit + c.left) d.orders in
    let e : d.to_commit ≡ d.to_commit + 0 = omega arith in
    let start : seen s d ≡ seen s (numbered d.machine (d.to_commit + 0) os) =
    order_seen s d.machine d.to_commit c.left (d.to_commit + c.left) d.orders ∙ ap (λ (k : ℕ). seen s (numbered d.machine k os)) e in
    let begins : Related s (numbered d.machine (d.to_commit + 0) os) =
    related_number s d.machine d.to_commit (d.to_commit + 0) os e (order_related s d.machine d.to_commit c.left (d.to_commit + c.left) d.orders related) in
    let is : timing.commits s most 0 (seen s d) ≡ seen_committed s d.to_commit os c =
    ap (λ (t : Timing). timing.commits s most 0 t) start ∙ commits_seen s d.to_commit os most 0 d.machine begins in
    let P : timing.Committed → Type 0 = λ x. IsPhase s d (demand_committed c d) (timing.committed_phase x) in
    subst P (sym is) (committed_phase_seen s d c)

pub commit_seen : (s : Setup) (d : Demand) → Related s d → IsPhase s d (demand_commit s d) (timing.timing_commit s (seen s d))
unfolding mono.commit_phase timing.timing_commit
commit_seen s d related = commits_phase_seen s s.params.core_commit d related
