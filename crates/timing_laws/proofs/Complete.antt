-- The completion of slots is that of the records.
use Rattle.std.proofs.Common.{◌≡◌, ℕ, suc, ◌+◌, ◌==◌, ◌&&◌, not, Bool, true, false, if◌then◌else◌, is_none, Option, Some, None, List, [], ◌∷◌, length, refl, ap, sym, ◌∙◌, subst}
use Rattle.std.proofs.lemmas.Bool.{and_parts}
use Rattle.rollback_cmds.specs.declared.order.Order.{Order}
use Rattle.rollback_cmds.specs.declared.order.Order.TheVariants.{Set}
use Rattle.reorder_buffer.specs.declared.slot.Slot.{Slot}
use Rattle.mono_model.specs.declared.setup.Setup.{Setup}
use Rattle.mono_model.specs.Result.{Result}
use Rattle.mono_model.specs.Sequence.{result_at}
use Rattle.mono_model.specs.Path.{path, time_of, entry}
use Rattle.mono_model.specs.Window.{Record, Stage, waiting, until, done}
use Rattle.mono_model.specs.Complete as mono
use Rattle.mono_model.specs.Demand.{Demand, redirect_orders, demand_complete}
use Rattle.machine_laws.specs.Relation.{HoldsResult, Tracks, Related}
use Rattle.mono_model.proofs.Path.{path_below}
use Rattle.timing_side.specs.Timing.{Timing}
use Rattle.timing_side.specs.Complete as timing
use Rattle.timing_laws.specs.Seen.{state_of, slot_of, slots_of, seen}
use Rattle.timing_laws.proofs.Entries.{entry_cause, entry_goes, slots_length, slots_same, cut_seen, IsPhase}

-- equal tests, where the addresses are equal once the first test holds
same_test : (b : Bool) (x y predicted : ℕ) → (b ≡ true → x ≡ y) → (b && not (x == predicted)) ≡ (b && not (y == predicted))
same_test true x y predicted same = ap (λ (k : ℕ). not (k == predicted)) (same refl)
same_test false x y predicted same = refl

module _ (s : Setup) (os : List Order) where
  abbrev seen_completed : ℕ → mono.Completed → timing.Completed
  seen_completed n c = record { slots = slots_of (entry s os) n c.records; redirect = c.redirect }

  goes : (n : ℕ) (r : Result) → r ≡ result_at s (time_of os n) (path s os n) → is_none r.cause ≡ true → (entry s os n).next ≡ r.next
  goes n r is none = entry_goes s os n (ap (λ (t : Result). is_none t.cause) (sym is) ∙ none) ∙ ap (λ (t : Result). t.next) (sym is)

  mispredicted_same : (n : ℕ) (rec : Record) (r : Result) → r ≡ result_at s (time_of os n) (path s os n) →
      timing.is_mispredicted (slot_of (entry s os n) rec) ≡ mono.is_mispredicted rec r
  mispredicted_same n rec r is =
      ap (λ (b : Bool). b && not ((entry s os n).next == rec.predicted)) (ap is_none (entry_cause s os n) ∙ ap (λ (t : Result). is_none t.cause) (sym is))
      ∙ same_test (is_none r.cause) (entry s os n).next r.next rec.predicted (goes n r is)

  done_seen : (n : ℕ) (rec : Record) (r : Result) (rest : mono.Completed) → r ≡ result_at s (time_of os n) (path s os n) →
      timing.complete_next (slot_of (entry s os n) rec) true (seen_completed (suc n) rest) ≡ seen_completed n (mono.complete_next rec (Some r) rest)
  done_seen n rec r rest is =
      ap (λ (b : Bool). if b then wrong (entry s os n).next else right) (mispredicted_same n rec r is)
      ∙ by_test (mono.is_mispredicted rec r) refl
    where
      wrong : ℕ → timing.Completed
      wrong addr = record { slots = slot_of (entry s os n) (record rec { stage = done r }) ∷ []; redirect = Some addr }

      right : timing.Completed
      right = record { slots = slot_of (entry s os n) (record rec { stage = done r }) ∷ slots_of (entry s os) (suc n) rest.records; redirect = rest.redirect }

      by_test : (b : Bool) → mono.is_mispredicted rec r ≡ b → (if b then wrong (entry s os n).next else right) ≡
          seen_completed n (if b then record { records = record rec { stage = done r } ∷ []; redirect = Some r.next } else mono.in_front (record rec { stage = done r }) rest)
      by_test true yes_it_is = ap wrong (goes n r is (and_parts (is_none r.cause) (not (r.next == rec.predicted)) yes_it_is).0)
      by_test false it_is_not = refl

  next_seen : (cycle n : ℕ) (rec : Record) (stage : Stage) (rest : mono.Completed) → HoldsResult stage (result_at s (time_of os n) (path s os n)) →
      timing.complete_next (slot_of (entry s os n) rec) (timing.is_finishing cycle (state_of stage)) (seen_completed (suc n) rest)
      ≡ seen_completed n (mono.complete_next rec (mono.due cycle stage) rest)
  next_seen cycle n rec waiting rest held = refl
  next_seen cycle n rec (until e r) rest held = by_test (e == cycle)
    where
      by_test : (b : Bool) → timing.complete_next (slot_of (entry s os n) rec) b (seen_completed (suc n) rest)
          ≡ seen_completed n (mono.complete_next rec (if b then Some r else None) rest)
      by_test true = done_seen n rec r rest held
      by_test false = refl
  next_seen cycle n rec (done r) rest held = refl

  completes_seen : (cycle n : ℕ) (window : List Record) (fetch_addr : ℕ) (kept : Option ℕ) → Tracks s (time_of os) (path s os) n window fetch_addr kept →
      timing.completes cycle (slots_of (entry s os) n window) ≡ seen_completed n (mono.completes cycle window)
  unfolding timing.completes mono.completes
  completes_seen cycle n [] fetch_addr kept tracks = refl
  completes_seen cycle n (rec ∷ rest) fetch_addr kept tracks =
      ap (λ (c : timing.Completed). timing.complete_next (slot_of (entry s os n) rec) (timing.is_finishing cycle (state_of rec.stage)) c) (completes_seen cycle (suc n) rest fetch_addr kept tracks.1)
      ∙ next_seen cycle n rec rec.stage (mono.completes cycle rest) tracks.0.result

redirect_seen : (s : Setup) (d : Demand) (redirect : Option ℕ) (records : List Record) →
    IsPhase s d (record d { machine = mono.completed_by redirect records d.machine; orders = redirect_orders redirect (d.to_commit + length records) d.orders })
    (timing.completed_phase (record { slots = slots_of (entry s d.orders) d.to_commit records; redirect = redirect }) (seen s d))
unfolding seen
redirect_seen s d None records = record { timing = refl; orders = refl }
redirect_seen s d (Some addr) records =
    let n : ℕ = d.to_commit + length records in
    let later : List Order = Set n addr ∷ d.orders in
    let slots : List Slot = slots_of (entry s d.orders) d.to_commit records in
    let same : slots ≡ slots_of (entry s later) d.to_commit records =
    sym (slots_same s d.orders later d.to_commit records (λ m. refl) (λ m under. path_below s (Set n addr) d.orders m under)) in
    record {
      timing = ap (λ (f : Timing). record f { counts = record f.counts { mispredicted = f.counts.mispredicted + 1 } }) (cut_seen s d records addr later slots same);
      orders = ap (λ (k : ℕ). Set (d.to_commit + k) addr ∷ d.orders) (slots_length s d.orders d.to_commit records);
    }

-- a state behind the completion of what executes until a cycle
abbrev pub completed_until : ℕ → Demand → Demand
completed_until cycle d =
    let c = mono.completes cycle d.machine.window in
    record d { machine = mono.completed_by c.redirect c.records d.machine; orders = redirect_orders c.redirect (d.to_commit + length c.records) d.orders }

pub completes_phase_seen : (s : Setup) (cycle : ℕ) (d : Demand) → Related s d →
    IsPhase s d (completed_until cycle d) (timing.completed_phase (timing.completes cycle (seen s d).slots) (seen s d))
unfolding seen
completes_phase_seen s cycle d related =
    let m = d.machine in
    let c : mono.Completed = mono.completes cycle m.window in
    let P : timing.Completed → Type 0 = λ x. IsPhase s d (completed_until cycle d) (timing.completed_phase x (seen s d)) in
    subst P (sym (completes_seen s d.orders cycle d.to_commit m.window m.fetch_addr m.kept related.window)) (redirect_seen s d c.redirect c.records)

pub complete_seen : (s : Setup) (d : Demand) → Related s d → IsPhase s d (demand_complete d) (timing.timing_complete (seen s d))
unfolding seen mono.complete_phase timing.timing_complete
complete_seen s d related = completes_phase_seen s d.machine.cycle d related
