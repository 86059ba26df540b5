-- What a record sees over the older records in the window is what stands on the path.
use Rattle.std.proofs.Common.{◌≡◌, ℕ, zero, suc, Bool, true, false, if◌then◌else◌, is_none, Option, Some, None, List, [], ◌∷◌, refl, ap, sym, ◌∙◌, subst}
use Rattle.fsim_base.specs.declared.instruction.Class.{Class}
use Rattle.mono_model.specs.declared.setup.Setup.{Setup}
use Rattle.mono_model.specs.Setup.{ram_range}
use Rattle.mono_model.specs.Arch.{Arch, register_value}
use Rattle.mono_model.specs.Found.{Found, class_in, destination_in, first_source, second_source}
use Rattle.mono_model.specs.Result.{Result}
use Rattle.mono_model.specs.Sequence.{seq, found_next, result_at, seen_in}
use Rattle.mono_model.specs.Window.{Record, Stage, waiting, until, done, is_register, value_at, value_if, written_value, operand, result_covers, stage_covers, stage_byte, stored_byte, loaded_byte, is_store_class, is_done_stage, is_unfinished_store, are_stores_done}
use Rattle.mono_model.specs.Issue.{is_oldest, seen_from}
use Rattle.machine_laws.specs.Relation.{Tracked, HoldsResult}
use Rattle.machine_laws.proofs.Path.{Follows}
use Rattle.machine_laws.proofs.Changes.{behind_kept, behind_written, behind_ram, behind_ram_kept}
use Rattle.machine_laws.proofs.Executed.{executed_kept, Alike}

-- the records older than instruction `n`, the youngest first, stand for the instructions before it, down to a state
abbrev pub Olders : Setup → (ℕ → Option ℕ) → (ℕ → Arch) → Arch → ℕ → List Record → Type 0
Olders s times p a n [] = a ≡ p n
Olders s times p a zero (rec ∷ older) = ⊥
Olders s times p a (suc n) (rec ∷ older) =
    Tracked s (times n) (p n) (p (suc n)).pc rec × Follows s (times n) (p n) (p (suc n)) × Olders s times p a n older

-- execution, by the result
seq_kept : (s : Setup) (time : Option ℕ) (a : Arch) (register : ℕ) → is_register register (destination_in (found_next s a)) ≡ false →
    (seq s time a).regs register ≡ a.regs register
unfolding seq
seq_kept s time a register other = behind_kept (found_next s a) (result_at s time a) time a.pc a register other

seq_written : (s : Setup) (time : Option ℕ) (a : Arch) (register : ℕ) → is_register register (destination_in (found_next s a)) ≡ true →
    is_none (result_at s time a).cause ≡ true → (seq s time a).regs register ≡ (result_at s time a).value
unfolding seq
seq_written s time a register is none = behind_written (found_next s a) (result_at s time a) time a.pc a register is none

seq_ram : (s : Setup) (time : Option ℕ) (a : Arch) (x : ℕ) →
    (seq s time a).ram x ≡ (if result_covers (result_at s time a) x then stored_byte (result_at s time a) x else a.ram x)
unfolding seq
seq_ram s time a x = behind_ram (found_next s a) (result_at s time a) time a.pc a x

seq_ram_kept : (s : Setup) (time : Option ℕ) (a : Arch) → is_store_class (class_in (found_next s a)) ≡ false → (seq s time a).ram ≡ a.ram
unfolding seq result_at
seq_ram_kept s time a no_store =
    behind_ram_kept (found_next s a) (result_at s time a) time a.pc a
    (executed_kept (ram_range s.params) (found_next s a) a.pc (register_value a.regs (first_source (found_next s a))) (register_value a.regs (second_source (found_next s a))) (seen_in time a)
    (result_at s time a).value a.ram no_store)

-- what a done record gives
value_is : (b : Bool) (value v : ℕ) → value_if b value ≡ Some v → (b ≡ true) × (v ≡ value)
value_is true value v is = (refl, cc)
value_is false value v is = cc

given_by_stage : (s : Setup) (time : Option ℕ) (a : Arch) (stage : Stage) (register v : ℕ) → HoldsResult stage (result_at s time a) →
    is_register register (destination_in (found_next s a)) ≡ true → value_at stage ≡ Some v → v ≡ (seq s time a).regs register
given_by_stage s time a waiting register v held is gives = cc
given_by_stage s time a (until e r) register v held is gives = cc
given_by_stage s time a (done r) register v held is gives =
    let given = value_is (is_none r.cause) r.value v gives in
    given.1 ∙ ap (λ (x : Result). x.value) held ∙ sym (seq_written s time a register is (ap (λ (x : Result). is_none x.cause) (sym held) ∙ given.0))

-- a byte over a record, where it is no store that isn't done
abbrev is_unfinished : Class → Stage → Bool
is_unfinished of_class stage = if is_store_class of_class then (if is_done_stage stage then false else true) else false

waiting_no_store : (store : Bool) → (if store then true else false) ≡ false → store ≡ false
waiting_no_store true is = cc
waiting_no_store false is = refl

covered_by : (s : Setup) (time : Option ℕ) (a : Arch) (r : Result) (x under : ℕ) → r ≡ result_at s time a → under ≡ a.ram x →
    (if result_covers r x then stored_byte r x else under) ≡ (seq s time a).ram x
covered_by s time a r x under held is =
    ap (λ (k : ℕ). if result_covers r x then stored_byte r x else k) is
    ∙ ap (λ (t : Result). if result_covers t x then stored_byte t x else a.ram x) held
    ∙ sym (seq_ram s time a x)

byte_over : (s : Setup) (time : Option ℕ) (a : Arch) (stage : Stage) (x under : ℕ) → HoldsResult stage (result_at s time a) →
    is_unfinished (class_in (found_next s a)) stage ≡ false → under ≡ a.ram x →
    (if stage_covers stage x then stage_byte stage x else under) ≡ (seq s time a).ram x
byte_over s time a waiting x under held finished is =
    is ∙ sym (ap (λ (ram : ℕ → ℕ). ram x) (seq_ram_kept s time a (waiting_no_store (is_store_class (class_in (found_next s a))) finished)))
byte_over s time a (until e r) x under held finished is = covered_by s time a r x under held is
byte_over s time a (done r) x under held finished is = covered_by s time a r x under held is

-- that all stores are done, of the youngest and of the others
both_done : (b rest : Bool) → (if b then false else rest) ≡ true → (b ≡ false) × (rest ≡ true)
both_done true rest all = cc
both_done false rest all = (refl, all)

module _ (s : Setup) (times : ℕ → Option ℕ) (p : ℕ → Arch) (a : Arch) where
  written_is : (n : ℕ) (older : List Record) (register v : ℕ) → Olders s times p a n older → written_value a.regs older register ≡ Some v → v ≡ (p n).regs register
  written_is n [] register v here gives = let e : v ≡ a.regs register = cc in e ∙ ap (λ (x : Arch). x.regs register) here
  written_is zero (rec ∷ older) register v olds gives = absurd olds
  written_is (suc n) (rec ∷ older) register v olds gives =
      by_test (λ given. written_is n older register v olds.2 given) (is_register register (destination_in rec.found)) refl gives
      ∙ sym (ap (λ (x : Arch). x.regs register) olds.1)
    where
      on : (b : Bool) → is_register register (destination_in rec.found) ≡ b → is_register register (destination_in (found_next s (p n))) ≡ b
      on b is = let P : Found → Type 0 = λ f. is_register register (destination_in f) ≡ b in subst P olds.0.found is

      by_test : (written_value a.regs older register ≡ Some v → v ≡ (p n).regs register) →
          (b : Bool) → is_register register (destination_in rec.found) ≡ b → (if b then value_at rec.stage else written_value a.regs older register) ≡ Some v →
          v ≡ (seq s (times n) (p n)).regs register
      by_test below true is gives = given_by_stage s (times n) (p n) rec.stage register v olds.0.result (on true is) gives
      by_test below false is gives = below gives ∙ sym (seq_kept s (times n) (p n) register (on false is))

  -- where a source has a value, it is the register's before the instruction
  pub operand_is : (n : ℕ) (older : List Record) (source : Option ℕ) (v : ℕ) → Olders s times p a n older → operand a.regs older source ≡ Some v →
      v ≡ register_value (p n).regs source
  operand_is n older None v olds gives = cc
  operand_is n older (Some register) v olds gives = written_is n older register v olds gives

  -- where all older stores are done, a loaded byte is memory's before the instruction
  loaded_is : (n : ℕ) (older : List Record) (x : ℕ) → Olders s times p a n older → are_stores_done older ≡ true → loaded_byte a.ram older x ≡ (p n).ram x
  loaded_is n [] x here all = ap (λ (b : Arch). b.ram x) here
  loaded_is zero (rec ∷ older) x olds all = absurd olds
  loaded_is (suc n) (rec ∷ older) x olds all =
      let both = both_done (is_unfinished_store rec) (are_stores_done older) all in
      let P : Found → Type 0 = λ f. is_unfinished (class_in f) rec.stage ≡ false in
      byte_over s (times n) (p n) rec.stage x (loaded_byte a.ram older x) olds.0.result (subst P olds.0.found both.0) (loaded_is n older x olds.2 both.1)
      ∙ sym (ap (λ (b : Arch). b.ram x) olds.1)

  oldest_is : (n : ℕ) (older : List Record) (time : Option ℕ) → Olders s times p a n older → is_oldest older ≡ true → seen_from a older time ≡ seen_in time (p n)
  oldest_is n [] time here oldest = ap (λ (b : Arch). seen_in time b) here
  oldest_is n (rec ∷ older) time olds oldest = cc

  -- what a record sees in the window and on the path
  pub sees_alike : (n : ℕ) (older : List Record) (time : Option ℕ) → Olders s times p a n older → Alike older (seen_from a older time) (seen_in time (p n))
  sees_alike n older time olds = record {
    bytes = λ all. λ i x. loaded_is n older x olds all i;
    all = oldest_is n older time olds;
  }
