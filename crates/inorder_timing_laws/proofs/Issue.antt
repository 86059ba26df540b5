-- The slot that goes on from Decode to Execute is that of the record.
use Rattle.std.proofs.Common.{◌≡◌, ℕ, zero, suc, ◌+◌, ◌≤◌, ◌&&◌, nat_lt, Bool, true, false, if◌then◌else◌, is_none, Option, List, [], ◌∷◌, refl, ap, sym, ◌∙◌, subst, arith}
use Rattle.fsim_base.specs.declared.access.Access.{Access}
use Rattle.fsim_base.specs.declared.instruction.Class.{Class}
use Rattle.rollback_cmds.specs.declared.order.Order.TheVariants.{Time}
use Rattle.trace_entry.specs.declared.Entry.{Entry}
use Rattle.reorder_buffer.specs.declared.slot.Slot.{Slot}
use Rattle.reorder_buffer.specs.declared.slot.SlotState.TheVariants.{Until}
use Rattle.mono_model.specs.declared.setup.Setup.{Setup}
use Rattle.mono_model.specs.Result.{Result}
use Rattle.mono_model.specs.Path.{path, time_of, entry}
use Rattle.mono_model.specs.Window.{Record, Stage, waiting, until, done, class_at}
use Rattle.mono_model.specs.Issue as mono
use Rattle.mono_model.specs.Demand.{Demand}
use Rattle.machine_laws.specs.Relation.{Tracked, Tracks, Related}
use Rattle.machine_laws.proofs.Path.{Follows, path_steps}
use Rattle.machine_laws.proofs.Operands.{Olders}
use Rattle.timing_side.specs.Timing.{quiet, ordering}
use Rattle.timing_side.specs.Issue as timing
use Rattle.timing_laws.specs.Seen.{state_of, slot_of, slots_of, seen}
use Rattle.timing_laws.proofs.Entries.{waiting_same, slot_class, IsPhase}
use Rattle.timing_laws.proofs.Issue.{slots_down, wants_ready, replayed_seen, ordered}
use Rattle.inorder_machine.specs.InorderMachine as inorder
use Rattle.inorder_machine.specs.InorderMachine.{memory_behind}
use Rattle.inorder_machine.specs.Issue as issue
use Rattle.inorder_machine.specs.Issue.{execute_latency, inorder_wants_time}
use Rattle.inorder_machine.specs.Demand.{inorder_in, demand_inorder_issue}
use Rattle.inorder_side.specs.Timing as place
use Rattle.inorder_side.specs.Issue as held
use Rattle.inorder_side.specs.Issue.{timing_inorder_issue}
use Rattle.inorder_timing_laws.specs.Seen.{inorder_held}
use Rattle.inorder_timing_laws.proofs.Phases.{IsInorderPhase, flushed_phase}
use Rattle.inorder_timing_laws.proofs.Found.{FindsSame, found_same}

-- whether Execute is empty
none_same : (stage : Stage) (slot : Slot) (rec : Record) (x : Option place.Executing) (y : Option inorder.Executing) → is_none x ≡ is_none y →
    is_none (place.execute_by slot (state_of stage) x) ≡ is_none (inorder.execute_by rec stage y)
none_same waiting slot rec x y same = same
none_same (until e r) slot rec x y same = refl
none_same (done r) slot rec x y same = same

module _ (s : Setup) (d : Demand) (memory : Option ℕ) where
  execute_same : (n : ℕ) (older : List Record) → Olders s (time_of d.orders) (path s d.orders) d.machine.arch n older →
      is_none (place.in_execute (slots_down s d.orders n older)) ≡ is_none (inorder.in_execute older)
  execute_same n [] olds = refl
  execute_same zero (rec ∷ older) olds = absurd olds
  execute_same (suc n) (rec ∷ older) olds =
      none_same rec.stage (slot_of (entry s d.orders n) rec) rec (place.in_execute (slots_down s d.orders n older)) (inorder.in_execute older) (execute_same n older olds.2)

  -- the slot in its turn, which goes on or not
  abbrev slot_goes : ℕ → Record → Bool → Class → Slot
  slot_goes n rec b c =
      if b then record (slot_of (entry s d.orders n) rec) { state = Until (d.machine.cycle + execute_latency s.params c) } else slot_of (entry s d.orders n) rec

  goes_same : (n : ℕ) (older : List Record) (rec : Record) (b : Bool) →
      slot_goes n rec b (class_at rec) ≡ slot_of (entry s d.orders n) (if b then issue.begun s (inorder_in d memory) older rec else rec)
  goes_same n older rec true = refl
  goes_same n older rec false = refl

  issue_of_same : (n : ℕ) (older : List Record) (rec : Record) (behind : ℕ) → Tracked s (time_of d.orders n) (path s d.orders n) behind rec →
      Olders s (time_of d.orders) (path s d.orders) d.machine.arch n older →
      held.issue_of s (inorder_held s d memory) (slots_down s d.orders n older) (slot_of (entry s d.orders n) rec)
      ≡ slot_of (entry s d.orders n) (issue.issue_of s (inorder_in d memory) older rec)
  unfolding held.issue_of issue.issue_of seen
  issue_of_same n older rec behind tracked olds =
      let found : FindsSame s d.orders d.machine.arch n slots records = found_same s d.orders d.machine.arch n memory older olds in
      let told : Entry = entry s d.orders n in
      let late : Bool = nat_lt rec.since d.machine.cycle in
      ap (λ (c : Class). slot_goes n rec (held.is_past_fetch d.machine.cycle slot && free && timing.has_operands slots slot && timing.class_allows c told.access slots) c)
      (slot_class s d.orders n behind rec tracked)
      ∙ ap (λ (b : Bool). slot_goes n rec (b && late && free && timing.has_operands slots slot && timing.class_allows (class_at rec) told.access slots) (class_at rec))
      (waiting_same rec.stage)
      ∙ ap (λ (b : Bool). slot_goes n rec (past && b && timing.has_operands slots slot && timing.class_allows (class_at rec) told.access slots) (class_at rec))
      (execute_same n older olds)
      ∙ ap (λ (b : Bool). slot_goes n rec (past && is_none (inorder.in_execute older) && b && timing.class_allows (class_at rec) told.access slots) (class_at rec))
      (found.operands rec behind tracked)
      ∙ ap (λ (b : Bool). slot_goes n rec (past && is_none (inorder.in_execute older) && has && b) (class_at rec))
      (found.allows (class_at rec) told.access)
      ∙ by_free found (past && is_none (inorder.in_execute older))
      ∙ goes_same n older rec (past && is_none (inorder.in_execute older) && has && mono.class_allows (class_at rec) made.access records)
    where
      slots : List Slot
      slots = held.found_in_order memory (slots_down s d.orders n older)

      records : List Record
      records = issue.found_in_order memory older

      slot : Slot
      slot = slot_of (entry s d.orders n) rec

      free : Bool
      free = is_none (place.in_execute (slots_down s d.orders n older))

      past : Bool
      past = issue.is_past_fetch d.machine.cycle rec

      has : Bool
      has = mono.has_operands d.machine.arch records rec

      made : Result
      made = mono.ready_result s d.machine.arch records rec

      by_has : FindsSame s d.orders d.machine.arch n slots records → (b : Bool) → mono.has_operands d.machine.arch records rec ≡ b →
          slot_goes n rec (b && mono.class_allows (class_at rec) (entry s d.orders n).access records) (class_at rec)
          ≡ slot_goes n rec (b && mono.class_allows (class_at rec) made.access records) (class_at rec)
      by_has found true is = ap (λ (a : Access). slot_goes n rec (mono.class_allows (class_at rec) a records) (class_at rec)) (found.access rec behind tracked is)
      by_has found false is = refl

      by_free : FindsSame s d.orders d.machine.arch n slots records → (b : Bool) →
          slot_goes n rec (b && has && mono.class_allows (class_at rec) (entry s d.orders n).access records) (class_at rec)
          ≡ slot_goes n rec (b && has && mono.class_allows (class_at rec) made.access records) (class_at rec)
      by_free found true = by_has found has refl
      by_free found false = refl

  issue_from_same : (n : ℕ) (older rest : List Record) (fetch_addr : ℕ) (kept : Option ℕ) →
      ((k : ℕ) → n ≤ k → Follows s (time_of d.orders k) (path s d.orders k) (path s d.orders (suc k))) →
      Tracks s (time_of d.orders) (path s d.orders) n rest fetch_addr kept → Olders s (time_of d.orders) (path s d.orders) d.machine.arch n older →
      held.issue_from s (inorder_held s d memory) (slots_down s d.orders n older) (slots_of (entry s d.orders) n rest)
      ≡ slots_of (entry s d.orders) n (issue.issue_from s (inorder_in d memory) older rest)
  unfolding held.issue_from issue.issue_from
  issue_from_same n older [] fetch_addr kept steps tracks olds = refl
  issue_from_same n older (rec ∷ []) fetch_addr kept steps tracks olds =
      ap (λ (slot : Slot). slot ∷ []) (issue_of_same n older rec (path s d.orders (suc n)).pc tracks.0 olds)
  issue_from_same n older (rec ∷ next ∷ rest) fetch_addr kept steps tracks olds =
      ap (λ (slots : List Slot). slot_of (entry s d.orders n) rec ∷ slots)
      (issue_from_same (suc n) (rec ∷ older) (next ∷ rest) fetch_addr kept (λ k from. steps k (omega arith)) tracks.1 (tracks.0, steps n (omega arith), olds))

  issued_same : Related s d → held.issued s (inorder_held s d memory) ≡ seen s (record d { machine = issue.issued s (inorder_in d memory) })
  unfolding seen
  issued_same related =
      let m = d.machine in
      let same = issue_from_same d.to_commit [] m.window m.fetch_addr m.kept (λ n from. path_steps s d.orders d.to_commit n related.within from) related.window related.arch in
      λ i. record (seen s d) { slots = same i }

  -- the oldest wants a time
  wants_first_same : (n : ℕ) (window : List Record) (fetch_addr : ℕ) (kept : Option ℕ) → d.machine.arch ≡ path s d.orders n →
      Tracks s (time_of d.orders) (path s d.orders) n window fetch_addr kept →
      held.wants_time_first d.machine.cycle (slots_of (entry s d.orders) n window) ≡ issue.wants_time_first s d.machine window
  wants_first_same n [] fetch_addr kept here tracks = refl
  wants_first_same n (rec ∷ rest) fetch_addr kept here tracks =
      ap (λ (b : Bool). b && nat_lt rec.since d.machine.cycle && (entry s d.orders n).unserved) (waiting_same rec.stage)
      ∙ by_past (issue.is_past_fetch d.machine.cycle rec)
    where
      by_past : (b : Bool) → (b && (entry s d.orders n).unserved)
          ≡ (b && mono.has_operands d.machine.arch [] rec && mono.wants_time_result rec (mono.ready_result s d.machine.arch [] rec))
      by_past true = wants_ready s d.orders d.machine n rec (path s d.orders (suc n)).pc here tracks.0
      by_past false = refl

  wants_same : Related s d → held.wants_time (seen s d) ≡ inorder_wants_time s d.machine
  unfolding seen inorder_wants_time
  wants_same related = wants_first_same d.to_commit d.machine.window d.machine.fetch_addr d.machine.kept related.arch related.window

  issue_phase_seen : Related s d → IsPhase s d (demand_inorder_issue s memory d) (held.issue_phase s (inorder_held s d memory))
  issue_phase_seen related =
      let P : Bool → Type 0 = λ b. IsPhase s d (demand_inorder_issue s memory d)
      (if b then ordering (Time (seen s d).to_commit (seen s d).cycle) (timing.replayed (seen s d)) else quiet (held.issued s (inorder_held s d memory))) in
      subst P (sym (wants_same related)) (by_test (inorder_wants_time s d.machine))
    where
      by_test : (b : Bool) → IsPhase s d
          (record d {
            machine = if b then mono.replayed d.machine else issue.issued s (inorder_in d memory);
            orders = if b then Time d.to_commit d.machine.cycle ∷ d.orders else d.orders;
          })
          (if b then ordering (Time (seen s d).to_commit (seen s d).cycle) (timing.replayed (seen s d)) else quiet (held.issued s (inorder_held s d memory)))
      by_test true = record { timing = replayed_seen s d; orders = ordered s d }
      by_test false = record { timing = issued_same related; orders = refl }

pub inorder_issue_seen : (s : Setup) (d : Demand) (memory : Option ℕ) → Related s d →
    (let behind = demand_inorder_issue s memory d in IsInorderPhase s d behind (memory_behind behind.machine.window memory) (timing_inorder_issue s (inorder_held s d memory)))
unfolding timing_inorder_issue
inorder_issue_seen s d memory related =
    flushed_phase s d (demand_inorder_issue s memory d) memory (held.issue_phase s (inorder_held s d memory)) (issue_phase_seen s d memory related)
