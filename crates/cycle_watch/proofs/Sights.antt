-- What a timing side shows is what is seen of the machine.
use Rattle.std.proofs.Common.{◌≡◌, ◌∙◌, ℕ, zero, suc, ◌==◌, ◌&&◌, not, Bool, true, false, if◌then◌else◌, is_none, Option, Some, None, List, [], ◌∷◌, map, refl, sym, ap}
use Rattle.fsim_base.specs.declared.cause.Cause.{Cause}
use Rattle.rollback_cmds.specs.declared.order.Order.{Order}
use Rattle.trace_entry.specs.declared.Entry.{Entry}
use Rattle.reorder_buffer.specs.declared.slot.SlotState.{SlotState}
use Rattle.mono_model.specs.declared.setup.Setup.{Setup}
use Rattle.mono_model.specs.Setup.{ram_range}
use Rattle.mono_model.specs.Arch.{register_value}
use Rattle.mono_model.specs.Found.{Found, refused, unknown, known, first_source, second_source, is_fetchable, word_in}
use Rattle.mono_model.specs.Result.{Result}
use Rattle.mono_model.specs.Sequence.{found_next, result_at, seen_in}
use Rattle.mono_model.specs.Path.{entry, path, time_of}
use Rattle.mono_model.specs.Window.{Record, Stage, waiting, until, done}
use Rattle.mono_model.specs.Demand.{Demand}
use Rattle.machine_laws.specs.Relation.{HoldsResult, Related, Tracked, Tracks}
use Rattle.inorder_side.specs.Timing as held
use Rattle.inorder_machine.specs.InorderMachine as inorder
use Rattle.inorder_machine.specs.InorderMachine.{InorderMachine}
use Rattle.inorder_timing_laws.proofs.Phases.{done_count_same}
use Rattle.timing_side.specs.Fetch.{is_fetch_cause}
use Rattle.timing_laws.specs.Seen.{seen, slot_of, slots_of, state_of}
use Rattle.timing_laws.proofs.Entries.{entry_access, entry_addr, entry_cause, entry_goes, entry_next, entry_word}
use Rattle.timing_laws.proofs.Words.{fetchable_is, found_fetched}
use Rattle.timing_core.specs.declared.state.TimingCore.{TimingCore}
use Rattle.timing_core.specs.CoreStandsFor.{CoreStandsFor}
use Rattle.time_model.specs.Missing.{missing_in}
use Rattle.insight_model.specs.Sight.{Outcome, Progress, Shown, Sight, accessing, executing, done as is_done, next_seen, waiting as is_waiting}
use Rattle.insight_model.specs.OfState.{inorder_progress, inorder_shown, inorder_sight, missing_of, outcome_of, progress_of, shown_as, shown_of, sight, word_found}
use Rattle.cycle_watch.specs.SeenIn.{core_sight, inorder_slot_progress, inorder_slots_shown, slot_as, slot_outcome, slot_progress, slot_shown, slot_word}

-- the word, if there is one to be fetched
abbrev word_by : Bool → ℕ → Option ℕ
word_by none word = if none then None else Some word

word_by_found : (none : Bool) (found : Found) → not none ≡ is_fetchable found → word_by none (word_in found) ≡ word_found found
word_by_found true (refused cause) is = refl
word_by_found true (unknown word) is = let e : false ≡ true = is in cc
word_by_found true (known word insn) is = let e : false ≡ true = is in cc
word_by_found false (refused cause) is = let e : true ≡ false = is in cc
word_by_found false (unknown word) is = refl
word_by_found false (known word insn) is = refl

-- what an instruction came to
next_by_cause : (cause : Option Cause) (told next : ℕ) → (is_none cause ≡ true → told ≡ next) → next_seen cause told ≡ next_seen cause next
next_by_cause None told next same = same refl
next_by_cause (Some cause) told next same = refl

module _ (s : Setup) (os : List Order) (n : ℕ) where
  abbrev own : Result
  own = result_at s (time_of os n) (path s os n)

  abbrev told : Entry
  told = entry s os n

  abbrev told_outcome : Outcome
  told_outcome = record { next = next_seen told.cause told.next; access = told.access; cause = told.cause }

  own_outcome : told_outcome ≡ outcome_of own
  own_outcome =
      let next : next_seen told.cause told.next ≡ next_seen own.cause own.next =
      ap (λ (cause : Option Cause). next_seen cause told.next) (entry_cause s os n)
      ∙ next_by_cause own.cause told.next own.next (entry_goes s os n) in
      λ i. record { next = next i; access = entry_access s os n i; cause = entry_cause s os n i }

  progress_seen : (stage : Stage) → HoldsResult stage own → slot_progress (state_of stage) told_outcome ≡ progress_of stage
  progress_seen waiting same = refl
  progress_seen (until e r) same = ap (executing e) (own_outcome ∙ ap outcome_of (sym same))
  progress_seen (done r) same = ap is_done (own_outcome ∙ ap outcome_of (sym same))

  word_seen : word_by (told.word == 0 && is_fetch_cause told.cause) told.word ≡ word_found (found_next s (path s os n))
  unfolding result_at
  word_seen =
      let a = path s os n in
      let found = found_next s a in
      let x = register_value a.regs (first_source found) in
      let y = register_value a.regs (second_source found) in
      (λ i. word_by (entry_word s os n i == 0 && is_fetch_cause (entry_cause s os n i)) (entry_word s os n i))
      ∙ word_by_found (word_in found == 0 && is_fetch_cause own.cause) found
      (fetchable_is (ram_range s.params) found a.pc x y (seen_in (time_of os n) a) (found_fetched s.image a.text a.pc))

  -- an instruction under way, as far as it has come
  as_seen : (behind : ℕ) (rec : Record) → Tracked s (time_of os n) (path s os n) behind rec → (told_progress progress : Progress) → told_progress ≡ progress →
      slot_as (slot_of told rec) told_progress ≡ shown_as rec progress
  as_seen behind rec tracked told_progress progress same =
      let addr : told.addr ≡ rec.addr = entry_addr s os n ∙ sym tracked.addr in
      let word : word_by (told.word == 0 && is_fetch_cause told.cause) told.word ≡ word_found rec.found = word_seen ∙ ap word_found (sym tracked.found) in
      λ i. record { addr = addr i; word = word i; predicted = rec.predicted; since = rec.since; progress = same i }

-- the instructions under way
shown_seen : (s : Setup) (os : List Order) (n fetch : ℕ) (kept : Option ℕ) (window : List Record) → Tracks s (time_of os) (path s os) n window fetch kept →
    map slot_shown (slots_of (entry s os) n window) ≡ map shown_of window
shown_seen s os n fetch kept [] tracks = refl
shown_seen s os n fetch kept (rec ∷ rest) tracks =
    let own : slot_shown (slot_of (entry s os n) rec) ≡ shown_of rec =
    as_seen s os n (path s os (suc n)).pc rec tracks.0 (slot_progress (state_of rec.stage) (told_outcome s os n)) (progress_of rec.stage) (progress_seen s os n rec.stage tracks.0.result) in
    λ i. own i ∷ shown_seen s os (suc n) fetch kept rest tracks.1 i

-- in order
inorder_progress_seen : (s : Setup) (os : List Order) (n : ℕ) (memory : Option ℕ) (younger : ℕ) (stage : Stage) → HoldsResult stage (own s os n) →
    inorder_slot_progress memory younger (state_of stage) (told_outcome s os n) ≡ inorder_progress memory younger stage
inorder_progress_seen s os n None younger stage same = progress_seen s os n stage same
inorder_progress_seen s os n (Some e) zero waiting same = refl
inorder_progress_seen s os n (Some e) zero (until u r) same = progress_seen s os n (until u r) same
inorder_progress_seen s os n (Some e) zero (done r) same = ap (accessing e) (own_outcome s os n ∙ ap outcome_of (sym same))
inorder_progress_seen s os n (Some e) (suc younger) stage same = progress_seen s os n stage same

inorder_shown_seen : (s : Setup) (os : List Order) (n fetch : ℕ) (kept memory : Option ℕ) (window : List Record) → Tracks s (time_of os) (path s os) n window fetch kept →
    inorder_slots_shown memory (slots_of (entry s os) n window) ≡ inorder_shown memory window
inorder_shown_seen s os n fetch kept memory [] tracks = refl
inorder_shown_seen s os n fetch kept memory (rec ∷ rest) tracks =
    let younger : held.done_count (slots_of (entry s os) (suc n) rest) ≡ inorder.done_count rest = done_count_same s os (suc n) rest in
    let progress : inorder_slot_progress memory (held.done_count (slots_of (entry s os) (suc n) rest)) (state_of rec.stage) (told_outcome s os n) ≡ inorder_progress memory (inorder.done_count rest) rec.stage =
    ap (λ (k : ℕ). inorder_slot_progress memory k (state_of rec.stage) (told_outcome s os n)) younger
    ∙ inorder_progress_seen s os n memory (inorder.done_count rest) rec.stage tracks.0.result in
    let own : slot_as (slot_of (entry s os n) rec) (inorder_slot_progress memory (held.done_count (slots_of (entry s os) (suc n) rest)) (state_of rec.stage) (told_outcome s os n))
    ≡ shown_as rec (inorder_progress memory (inorder.done_count rest) rec.stage) =
    as_seen s os n (path s os (suc n)).pc rec tracks.0 (inorder_slot_progress memory (held.done_count (slots_of (entry s os) (suc n) rest)) (state_of rec.stage) (told_outcome s os n))
    (inorder_progress memory (inorder.done_count rest) rec.stage) progress in
    λ i. own i ∷ inorder_shown_seen s os (suc n) fetch kept memory rest tracks.1 i

-- the machine
core_seen : (s : Setup) (d : Demand) (core : TimingCore) (ahead : Option Entry) (slots window : List Shown) → CoreStandsFor s (seen s d) core → slots ≡ window →
    missing_in core.paid ahead ≡ missing_of d.machine → core_sight slots ahead core ≡ record {
      cycle = d.machine.cycle;
      retired = d.machine.arch.csrs.retired;
      counts = d.machine.counts;
      end = d.machine.end;
      resume = d.machine.resume;
      missing = missing_of d.machine;
      window = window;
    }
unfolding seen
core_seen s d core ahead slots window h same missing =
    λ i. record {
      cycle = h.cycle i;
      retired = h.retired i;
      counts = h.counts i;
      end = h.end i;
      resume = h.resume i;
      missing = missing i;
      window = same i;
    }

slots_held : (s : Setup) (d : Demand) (core : TimingCore) → CoreStandsFor s (seen s d) core → core.flight.slots ≡ slots_of (entry s d.orders) d.to_commit d.machine.window
unfolding seen
slots_held s d core h = h.slots

pub core_shows : (s : Setup) (d : Demand) (core : TimingCore) (ahead : Option Entry) → Related s d → CoreStandsFor s (seen s d) core → missing_in core.paid ahead ≡ missing_of d.machine →
    core_sight (map slot_shown core.flight.slots) ahead core ≡ sight d.machine
unfolding sight
core_shows s d core ahead related h missing =
    core_seen s d core ahead (map slot_shown core.flight.slots) (map shown_of d.machine.window) h
    (ap (map slot_shown) (slots_held s d core h) ∙ shown_seen s d.orders d.to_commit d.machine.fetch_addr d.machine.kept d.machine.window related.window) missing

pub inorder_shows : (s : Setup) (d : Demand) (memory : Option ℕ) (core : TimingCore) (ahead : Option Entry) → Related s d → CoreStandsFor s (seen s d) core → missing_in core.paid ahead ≡ missing_of d.machine →
    core_sight (inorder_slots_shown memory core.flight.slots) ahead core ≡ inorder_sight (record { machine = d.machine; memory = memory })
unfolding inorder_sight
inorder_shows s d memory core ahead related h missing =
    core_seen s d core ahead (inorder_slots_shown memory core.flight.slots) (inorder_shown memory d.machine.window) h
    (ap (inorder_slots_shown memory) (slots_held s d core h) ∙ inorder_shown_seen s d.orders d.to_commit d.machine.fetch_addr d.machine.kept memory d.machine.window related.window) missing
