-- One instruction of a path, put together from what the hart ensures.
use Rattle.std.proofs.Common.{◌≡◌, ℕ, ◌<◌, ◌&&◌, nat_le, Bool, true, false, if◌then◌else◌, List, length, Option, None, is_none, refl, ap, sym, ◌∙◌, subst}
use Rattle.fsim_base.specs.declared.access.RamRange.{RamRange}
use Rattle.device_bus.specs.declared.undo.Note.{Note}
use Rattle.device_bus.specs.declared.undo.Note.TheVariants as note
use Rattle.undo_journal.specs.declared.past.Past.{Past}
use Rattle.mono_model.specs.declared.setup.Setup.{Setup}
use Rattle.mono_model.specs.Setup.{ram_range}
use Rattle.mono_model.specs.Arch.{Arch, compare_of}
use Rattle.mono_model.specs.Found.{Found, word_in, class_in}
use Rattle.mono_model.specs.Result.{Result, is_time_read}
use Rattle.mono_model.specs.Effect.{note_of}
use Rattle.mono_model.specs.Sequence.{seq, entry_at, found_next, result_at, halt_in}
use Rattle.func_model.specs.declared.performed.Performed.{Performed}
use Rattle.func_model.specs.declared.performed.Stepped.TheVariants as code
use Rattle.func_model.specs.Steps.{behind, result_of, stepped_by, Told}
use Rattle.func_model.specs.Undo.{undone, past_of, TakesBack, ended_in}
use Rattle.func_model.proofs.Advance.{result_same}
use Rattle.func_model.proofs.Undone.{behind_effect, undone_execute}

-- an instruction that was executed at a state, with what was told of it and the state behind it
pub record Executed (s : Setup) (time : Option ℕ) (limit : ℕ) (a : Arch) (found : Found) (done : Performed) (b : Arch) : Type 0 where
  pub found_is : found ≡ found_next s a
  pub told : Told limit (result_at s time a) a done
  pub made : b ≡ behind limit (found_next s a) (result_at s time a) time a
  pub room : length a.output < limit

abbrev pub Ensured : ℕ → Option ℕ → Performed → Arch → RamRange → Found → Arch → Type 0
Ensured limit time done b range found x = Told limit (result_of range found time x) x done × (b ≡ behind limit found (result_of range found time x) time x)

-- by what the hart ensures, at its state
pub executed_at : (s : Setup) (time : Option ℕ) (limit : ℕ) (range : RamRange) (found : Found) (x a b : Arch) (done : Performed) → x ≡ a → range ≡ ram_range s.params → found ≡ found_next s a →
    Told limit (result_of range found time x) x done → b ≡ behind limit found (result_of range found time x) time x → length x.output < limit → Executed s time limit a found done b
executed_at s time limit range found x a b done here in_range found_is told made room =
    let X : Arch → Type 0 = λ y. Ensured limit time done b range found y in
    let R : RamRange → Type 0 = λ r. Ensured limit time done b r found a in
    let F : Found → Type 0 = λ f. Ensured limit time done b (ram_range s.params) f a in
    let all : Ensured limit time done b (ram_range s.params) (found_next s a) a = subst F found_is (subst R in_range (subst X here (told, made))) in
    let T : Result → Type 0 = λ r. Told limit r a done in
    let M : Result → Type 0 = λ r. b ≡ behind limit (found_next s a) r time a in
    let L : Arch → Type 0 = λ y. length y.output < limit in
    record {
      found_is = found_is;
      told = subst T (result_same s time a) all.0;
      made = subst M (result_same s time a) all.1;
      room = subst L here room;
    }

-- the state behind it
pub executed_seq : (s : Setup) (time : Option ℕ) (limit : ℕ) (a : Arch) (found : Found) (done : Performed) (b : Arch) → Executed s time limit a found done b → b ≡ seq s time a
unfolding seq
executed_seq s time limit a found done b e = e.made ∙ behind_effect limit (found_next s a) (result_at s time a) time a e.room

-- what is told of it
ended_full : (full : Bool) → ended_in (if full then code.Full else code.On) ≡ None
ended_full true = refl
ended_full false = refl

ended_is : (limit : ℕ) (output : List ℕ) (what : Note) → ended_in (stepped_by limit output what) ≡ halt_in what
ended_is limit output note.Nothing = refl
ended_is limit output (note.Out byte) = ended_full (nat_le limit (length output))
ended_is limit output (note.End halt) = refl

pub entry_told : (s : Setup) (time : Option ℕ) (limit number epoch : ℕ) (a : Arch) (found : Found) (done : Performed) (b : Arch) → Executed s time limit a found done b →
    record {
      number = number;
      epoch = epoch;
      addr = a.pc;
      word = word_in found;
      access = done.access;
      next = b.pc;
      cause = done.cause;
      class = class_in found;
      unserved = is_time_read found done.access && is_none time;
      out = done.sent;
      halt = ended_in done.stepped;
      irq_on = b.csrs.mie && b.csrs.mtie;
      cmp = compare_of b.devices;
    } ≡ entry_at s time a number epoch
unfolding entry_at
entry_told s time limit number epoch a found done b e =
    let behind_is : b ≡ seq s time a = executed_seq s time limit a found done b e in
    λ i. record {
      number = number;
      epoch = epoch;
      addr = a.pc;
      word = ap word_in e.found_is i;
      access = e.told.access i;
      next = (behind_is i).pc;
      cause = e.told.cause i;
      class = ap class_in e.found_is i;
      unserved = is_time_read (e.found_is i) (e.told.access i) && is_none time;
      out = e.told.sent i;
      halt = (ap ended_in e.told.stepped ∙ ended_is limit a.output (note_of (result_at s time a) a)) i;
      irq_on = (behind_is i).csrs.mie && (behind_is i).csrs.mtie;
      cmp = compare_of (behind_is i).devices;
    }

-- what takes it back, from the state behind it
pub back_from : (s : Setup) (time : Option ℕ) (limit number : ℕ) (range : RamRange) (found : Found) (r : Result) (x a b : Arch) (done : Performed) (past : Past) → x ≡ a → range ≡ ram_range s.params →
    past ≡ past_of number found x done → Told limit r x done → b ≡ behind limit found r time x → TakesBack range done x b → length x.output < limit → b ≡ seq s time a →
    undone (ram_range s.params) past (seq s time a) ≡ a
back_from s time limit number range found r x a b done past here in_range is told made back room next =
    ap (λ (y : Arch). undone (ram_range s.params) past y) (sym next)
    ∙ ap (λ (m : RamRange). undone m past b) (sym in_range)
    ∙ ap (λ (p : Past). undone range p b) is
    ∙ undone_execute range number found r time limit x b done told made back room
    ∙ here
