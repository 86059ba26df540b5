-- What is told of the instructions of a path, and the slots of a window on it.
use Rattle.std.proofs.Common.{◌≡◌, ℕ, suc, ◌+◌, ◌-◌, ◌<◌, ◌&&◌, true, false, is_none, Option, List, [], ◌∷◌, ◌++◌, length, refl, ap, sym, ◌∙◌, arith}
use Rattle.fsim_base.specs.declared.cause.Cause.{Cause}
use Rattle.rollback_cmds.specs.declared.order.Order.{Order}
use Rattle.reorder_buffer.specs.declared.slot.Slot.{Slot}
use Rattle.mono_model.specs.declared.setup.Setup.{Setup}
use Rattle.mono_model.specs.Arch.{Arch, compare_of}
use Rattle.mono_model.specs.Found.{Found, refused, unknown, word_in, class_in}
use Rattle.mono_model.specs.Effect.{note_of}
use Rattle.mono_model.specs.Sequence.{seq, found_next, result_at, is_unserved, byte_in, halt_in, entry_at}
use Rattle.mono_model.specs.Path.{path, time_of, entry, openings}
use Rattle.mono_model.specs.Window.{Record, Stage, waiting, until, done, class_at, is_waiting_stage}
use Rattle.mono_model.specs.Machine.{Machine, flushed}
use Rattle.mono_model.specs.Demand.{Demand}
use Rattle.machine_laws.specs.Relation.{Tracked}
use Rattle.machine_laws.proofs.Changes.{behind_next}
use Rattle.timing_side.specs.Slots.{found_in, is_waiting_state}
use Rattle.timing_side.specs.Timing.{Timing, cut_to, Phase}
use Rattle.timing_laws.specs.Seen.{state_of, slot_of, slots_of, seen}
use Rattle.timing_laws.proofs.Words.{found_fetched, said_by}

-- the fields of an entry
module _ (s : Setup) (os : List Order) (n : ℕ) where
  pub entry_addr : (entry s os n).addr ≡ (path s os n).pc
  unfolding entry entry_at
  entry_addr = refl

  pub entry_word : (entry s os n).word ≡ word_in (found_next s (path s os n))
  unfolding entry entry_at
  entry_word = refl

  pub entry_class : (entry s os n).class ≡ class_in (found_next s (path s os n))
  unfolding entry entry_at
  entry_class = refl

  pub entry_access : (entry s os n).access ≡ (result_at s (time_of os n) (path s os n)).access
  unfolding entry entry_at
  entry_access = refl

  pub entry_cause : (entry s os n).cause ≡ (result_at s (time_of os n) (path s os n)).cause
  unfolding entry entry_at
  entry_cause = refl

  pub entry_next : (entry s os n).next ≡ (seq s (time_of os n) (path s os n)).pc
  unfolding entry entry_at
  entry_next = refl

  pub entry_unserved : (entry s os n).unserved ≡ is_unserved (found_next s (path s os n)) (result_at s (time_of os n) (path s os n)) (time_of os n)
  unfolding entry entry_at
  entry_unserved = refl

  pub entry_out : (entry s os n).out ≡ byte_in (note_of (result_at s (time_of os n) (path s os n)) (path s os n))
  unfolding entry entry_at
  entry_out = refl

  pub entry_halt : (entry s os n).halt ≡ halt_in (note_of (result_at s (time_of os n) (path s os n)) (path s os n))
  unfolding entry entry_at
  entry_halt = refl

  pub entry_irq : (entry s os n).irq_on ≡ ((seq s (time_of os n) (path s os n)).csrs.mie && (seq s (time_of os n) (path s os n)).csrs.mtie)
  unfolding entry entry_at
  entry_irq = refl

  pub entry_cmp : (entry s os n).cmp ≡ compare_of (seq s (time_of os n) (path s os n)).devices
  unfolding entry entry_at
  entry_cmp = refl

  -- the address behind an instruction without a cause is its result's
  pub entry_goes : is_none (result_at s (time_of os n) (path s os n)).cause ≡ true → (entry s os n).next ≡ (result_at s (time_of os n) (path s os n)).next
  unfolding seq
  entry_goes none = entry_next ∙ behind_next (found_next s (path s os n)) (result_at s (time_of os n) (path s os n)) (time_of os n) (path s os n).pc (path s os n) none

  -- what the word of a record's slot says
  pub slot_says : {A : Type 0} (f : Found → A) → ((cause : Cause) → f (unknown 0) ≡ f (refused cause)) → (behind : ℕ) (rec : Record) →
      Tracked s (time_of os n) (path s os n) behind rec → f (found_in (slot_of (entry s os n) rec)) ≡ f rec.found
  unfolding entry entry_at
  slot_says f alike behind rec tracked =
      said_by f alike (found_next s (path s os n)) (found_fetched s.image (path s os n).text (path s os n).pc) ∙ ap f (sym tracked.found)

  pub slot_class : (behind : ℕ) (rec : Record) → Tracked s (time_of os n) (path s os n) behind rec → (entry s os n).class ≡ class_at rec
  slot_class behind rec tracked = entry_class ∙ ap class_in (sym tracked.found)

-- a slot waits where its record does
pub waiting_same : (stage : Stage) → is_waiting_state (state_of stage) ≡ is_waiting_stage stage
waiting_same waiting = refl
waiting_same (until e r) = refl
waiting_same (done r) = refl

-- as many slots as records
pub slots_length : (s : Setup) (os : List Order) (n : ℕ) (window : List Record) → length (slots_of (entry s os) n window) ≡ length window
slots_length s os n [] = refl
slots_length s os n (rec ∷ rest) = ap suc (slots_length s os (suc n) rest)

pub slots_append : (s : Setup) (os : List Order) (n : ℕ) (window : List Record) (rec : Record) →
    slots_of (entry s os) n (window ++ rec ∷ []) ≡ slots_of (entry s os) n window ++ slot_of (entry s os (n + length window)) rec ∷ []
slots_append s os n [] rec =
    let e : n ≡ n + length {A = Record} [] = omega arith in
    ap (λ (k : ℕ). slot_of (entry s os k) rec ∷ []) e
slots_append s os n (r ∷ rest) rec =
    let e : suc n + length rest ≡ n + length (r ∷ rest) = omega arith in
    ap (λ (slots : List Slot). slot_of (entry s os n) r ∷ slots)
    (slots_append s os (suc n) rest rec ∙ ap (λ (k : ℕ). slots_of (entry s os) (suc n) rest ++ slot_of (entry s os k) rec ∷ []) e)

-- a slot doesn't show the epoch, so it is the same under other orders that leave path and time
slot_at_same : (s : Setup) (time : Option ℕ) (a b : Arch) (n k l : ℕ) (rec : Record) → a ≡ b → slot_of (entry_at s time a n k) rec ≡ slot_of (entry_at s time b n l) rec
unfolding entry_at
slot_at_same s time a b n k l rec is = ap (λ (x : Arch). slot_of (entry_at s time x n k) rec) is

pub slot_same : (s : Setup) (os later : List Order) (n : ℕ) (rec : Record) → time_of later n ≡ time_of os n → path s later n ≡ path s os n →
    slot_of (entry s later n) rec ≡ slot_of (entry s os n) rec
unfolding entry
slot_same s os later n rec time is =
    ap (λ (t : Option ℕ). slot_of (entry_at s t (path s later n) n (openings later)) rec) time
    ∙ slot_at_same s (time_of os n) (path s later n) (path s os n) n (openings later) (openings os) rec is

pub slots_same : (s : Setup) (os later : List Order) (n : ℕ) (window : List Record) → ((m : ℕ) → time_of later m ≡ time_of os m) →
    ((m : ℕ) → m < n + length window → path s later m ≡ path s os m) → slots_of (entry s later) n window ≡ slots_of (entry s os) n window
slots_same s os later n [] times same = refl
slots_same s os later n (rec ∷ rest) times same =
    ap (λ (slot : Slot). slot ∷ slots_of (entry s later) (suc n) rest) (slot_same s os later n rec (times n) (same n (omega arith)))
    ∙ ap (λ (slots : List Slot). slot_of (entry s os n) rec ∷ slots) (slots_same s os later (suc n) rest times (λ m under. same m (omega arith)))

-- a flush
pub cut_seen : (s : Setup) (d : Demand) (front : List Record) (addr : ℕ) (later : List Order) (slots : List Slot) → slots ≡ slots_of (entry s later) d.to_commit front →
    cut_to slots (seen s d) ≡ seen s (record d { machine = flushed front addr d.machine; orders = later })
unfolding seen cut_to flushed
cut_seen s d front addr later slots is =
    let m : Machine = d.machine in
    let t : Timing = seen s d in
    let e : length (slots_of (entry s d.orders) d.to_commit m.window) - length slots ≡ length m.window - length front =
    ap (λ (k : ℕ). k - length slots) (slots_length s d.orders d.to_commit m.window)
    ∙ ap (λ (k : ℕ). length m.window - k) (ap (λ (l : List Slot). length l) is ∙ slots_length s later d.to_commit front) in
    λ i. record t { slots = is i; resume = 0; paid = false; counts = record m.counts { squashed = m.counts.squashed + e i } }

-- A phase of the timing side is that of the demand run.
pub record IsPhase (s : Setup) (before behind : Demand) (p : Phase) : Type 0 where
  pub timing : p.timing ≡ seen s behind
  pub orders : p.orders ++ before.orders ≡ behind.orders
