-- What a slot finds where a load in Memory has no value yet is what its record finds.
use Rattle.std.proofs.Common.{◌≡◌, ℕ, zero, suc, Bool, true, false, if◌then◌else◌, Option, Some, None, List, [], ◌∷◌, is_some, unwrap_or, ◌&&◌, refl, ap, sym, ◌∙◌, subst}
use Rattle.fsim_base.specs.declared.access.Access.{Access}
use Rattle.fsim_base.specs.declared.access.Access.TheVariants as access
use Rattle.fsim_base.specs.declared.access.Spot.TheVariants.{Ram, Device, Nowhere}
use Rattle.fsim_base.specs.declared.instruction.Class.{Class}
use Rattle.fsim_base.specs.declared.instruction.Class.TheVariants as class
use Rattle.rollback_cmds.specs.declared.order.Order.{Order}
use Rattle.reorder_buffer.specs.declared.slot.Slot.{Slot}
use Rattle.reorder_buffer.specs.declared.slot.SlotState.{SlotState}
use Rattle.mono_model.specs.declared.setup.Setup.{Setup}
use Rattle.mono_model.specs.Setup.{ram_range}
use Rattle.mono_model.specs.Arch.{Arch}
use Rattle.mono_model.specs.Found.{first_source, second_source}
use Rattle.mono_model.specs.Result.{Result, executed}
use Rattle.mono_model.specs.Sequence.{result_at}
use Rattle.mono_model.specs.Path.{path, time_of, entry}
use Rattle.mono_model.specs.Window.{Record, Stage, waiting, until, done, class_at, operand}
use Rattle.mono_model.specs.Issue as mono
use Rattle.machine_laws.specs.Relation.{HoldsResult, followed_at, Tracked}
use Rattle.machine_laws.proofs.Operands.{Olders}
use Rattle.timing_side.specs.Slots.{found_in}
use Rattle.timing_side.specs.Issue as timing
use Rattle.timing_laws.specs.Seen.{state_of, slot_of}
use Rattle.timing_laws.proofs.Entries.{slot_class}
use Rattle.timing_laws.proofs.Issue.{slots_down, ready_same, allows_same, access_same}
use Rattle.inorder_machine.specs.Issue as inorder
use Rattle.inorder_machine.specs.Issue.{is_load_class}
use Rattle.inorder_side.specs.Issue as held

-- a stage without a value
valueless_same : (e : ℕ) (stage : Stage) → state_of (inorder.valueless e stage) ≡ held.valueless e (state_of stage)
valueless_same e waiting = refl
valueless_same e (until from r) = refl
valueless_same e (done r) = refl

valueless_holds : (e : ℕ) (stage : Stage) (r : Result) → HoldsResult stage r → HoldsResult (inorder.valueless e stage) r
valueless_holds e waiting r held = held
valueless_holds e (until from it) r held = held
valueless_holds e (done it) r held = held

-- behind such a stage the path goes as predicted
valueless_follows : (e : ℕ) (stage : Stage) (predicted : ℕ) → predicted ≡ followed_at (inorder.valueless e stage) predicted
valueless_follows e waiting predicted = refl
valueless_follows e (until from r) predicted = refl
valueless_follows e (done r) predicted = refl

-- where a record or a slot was predicted to go on doesn't matter to younger ones
module _ (s : Setup) (a : Arch) (first : Record) (older : List Record) (predicted : ℕ) where
  operand_moved : (source : Option ℕ) → operand a.regs (record first { predicted = predicted } ∷ older) source ≡ operand a.regs (first ∷ older) source
  operand_moved None = refl
  operand_moved (Some register) = refl

  operands_moved : (rec : Record) → mono.has_operands a (record first { predicted = predicted } ∷ older) rec ≡ mono.has_operands a (first ∷ older) rec
  operands_moved rec = λ i. is_some (operand_moved (first_source rec.found) i) && is_some (operand_moved (second_source rec.found) i)

  result_moved : (rec : Record) → mono.ready_result s a (record first { predicted = predicted } ∷ older) rec ≡ mono.ready_result s a (first ∷ older) rec
  unfolding mono.ready_result
  result_moved rec =
      λ i. executed (ram_range s.params) rec.found rec.addr (unwrap_or (operand_moved (first_source rec.found) i) 0) (unwrap_or (operand_moved (second_source rec.found) i) 0)
      (mono.seen_from a (first ∷ older) rec.time)

  load_moved : (made : Access) → mono.load_allows made (record first { predicted = predicted } ∷ older) ≡ mono.load_allows made (first ∷ older)
  load_moved access.Nothing = refl
  load_moved (access.Load addr width Ram) = refl
  load_moved (access.Load addr width Device) = refl
  load_moved (access.Load addr width Nowhere) = refl
  load_moved (access.Store addr width spot) = refl

  allows_moved : (c : Class) (made : Access) → mono.class_allows c made (record first { predicted = predicted } ∷ older) ≡ mono.class_allows c made (first ∷ older)
  allows_moved class.Alu made = refl
  allows_moved class.Mul made = refl
  allows_moved class.Div made = refl
  allows_moved class.Load made = load_moved made
  allows_moved class.Store made = refl
  allows_moved class.Serial made = refl

module _ (first : Slot) (older : List Slot) (predicted : ℕ) where
  value_told : (source : Option ℕ) → timing.has_value (record first { predicted = predicted } ∷ older) source ≡ timing.has_value (first ∷ older) source
  value_told None = refl
  value_told (Some register) = refl

  operands_told : (slot : Slot) → timing.has_operands (record first { predicted = predicted } ∷ older) slot ≡ timing.has_operands (first ∷ older) slot
  operands_told slot = λ i. value_told (first_source (found_in slot)) i && value_told (second_source (found_in slot)) i

  load_told : (made : Access) → timing.load_allows made (record first { predicted = predicted } ∷ older) ≡ timing.load_allows made (first ∷ older)
  load_told access.Nothing = refl
  load_told (access.Load addr width Ram) = refl
  load_told (access.Load addr width Device) = refl
  load_told (access.Load addr width Nowhere) = refl
  load_told (access.Store addr width spot) = refl

  allows_told : (c : Class) (made : Access) → timing.class_allows c made (record first { predicted = predicted } ∷ older) ≡ timing.class_allows c made (first ∷ older)
  allows_told class.Alu made = refl
  allows_told class.Mul made = refl
  allows_told class.Div made = refl
  allows_told class.Load made = load_told made
  allows_told class.Store made = refl
  allows_told class.Serial made = refl

module _ (s : Setup) (os : List Order) (a : Arch) where
  -- what instruction `n` finds of the older slots is what its record finds of the older records
  pub record FindsSame (n : ℕ) (slots : List Slot) (records : List Record) : Type 0 where
    pub operands : (rec : Record) (behind : ℕ) → Tracked s (time_of os n) (path s os n) behind rec →
        timing.has_operands slots (slot_of (entry s os n) rec) ≡ mono.has_operands a records rec
    pub allows : (c : Class) (made : Access) → timing.class_allows c made slots ≡ mono.class_allows c made records
    pub access : (rec : Record) (behind : ℕ) → Tracked s (time_of os n) (path s os n) behind rec → mono.has_operands a records rec ≡ true →
        (entry s os n).access ≡ (mono.ready_result s a records rec).access

  older_same : (n : ℕ) (older : List Record) → Olders s (time_of os) (path s os) a n older → FindsSame n (slots_down s os n older) older
  older_same n older olds = record {
    operands = λ rec behind tracked. ready_same s os a n older rec behind tracked olds;
    allows = λ c made. allows_same s os a n older c made olds;
    access = λ rec behind tracked has. access_same s os a n older rec behind tracked olds has;
  }

  -- a load without a value, by a record that went as predicted
  load_same : (n e : ℕ) (load : Record) (older : List Record) → Olders s (time_of os) (path s os) a (suc n) (load ∷ older) →
      FindsSame (suc n) (record (slot_of (entry s os n) load) { state = state_of (inorder.valueless e load.stage) } ∷ slots_down s os n older)
      (record load { stage = inorder.valueless e load.stage } ∷ older)
  load_same n e load older olds =
      let behind : ℕ = (path s os (suc n)).pc in
      let found : Record = record load { stage = inorder.valueless e load.stage } in
      let slot : Slot = record (slot_of (entry s os n) load) { state = state_of (inorder.valueless e load.stage) } in
      let olders : List Slot = slots_down s os n older in
      let went : Record = record load { stage = inorder.valueless e load.stage; predicted = behind } in
      let tracked : Tracked s (time_of os n) (path s os n) behind went = record {
        addr = olds.0.addr;
        found = olds.0.found;
        time = olds.0.time;
        result = valueless_holds e load.stage (result_at s (time_of os n) (path s os n)) olds.0.result;
        follows = valueless_follows e load.stage behind;
      } in
      let all = older_same (suc n) (went ∷ older) (tracked, olds.1, olds.2) in
      record {
        operands = λ rec behind_rec is.
            sym (operands_told slot olders behind (slot_of (entry s os (suc n)) rec)) ∙ all.operands rec behind_rec is ∙ operands_moved s a found older behind rec;
        allows = λ c made. sym (allows_told slot olders behind c made) ∙ all.allows c made ∙ allows_moved s a found older behind c made;
        access = λ rec behind_rec is has.
            all.access rec behind_rec is (operands_moved s a found older behind rec ∙ has) ∙ ap (λ (r : Result). r.access) (result_moved s a found older behind rec);
      }

  valueless_found : (n e : ℕ) (load : Record) (older : List Record) → Olders s (time_of os) (path s os) a (suc n) (load ∷ older) →
      FindsSame (suc n) (record (slot_of (entry s os n) load) { state = held.valueless e (state_of load.stage) } ∷ slots_down s os n older)
      (record load { stage = inorder.valueless e load.stage } ∷ older)
  valueless_found n e load older olds =
      let P : SlotState → Type 0 = λ state. FindsSame (suc n) (record (slot_of (entry s os n) load) { state = state } ∷ slots_down s os n older)
      (record load { stage = inorder.valueless e load.stage } ∷ older) in
      subst P (valueless_same e load.stage) (load_same n e load older olds)

  pub found_same : (n : ℕ) (memory : Option ℕ) (older : List Record) → Olders s (time_of os) (path s os) a n older →
      FindsSame n (held.found_in_order memory (slots_down s os n older)) (inorder.found_in_order memory older)
  found_same n None older olds = older_same n older olds
  found_same n (Some e) [] olds = older_same n [] olds
  found_same zero (Some e) (rec ∷ older) olds = absurd olds
  found_same (suc n) (Some e) (rec ∷ older) olds =
      let P : Class → Type 0 = λ c. FindsSame (suc n)
      ((if is_load_class c then record (slot_of (entry s os n) rec) { state = held.valueless e (state_of rec.stage) } else slot_of (entry s os n) rec) ∷ slots_down s os n older)
      (inorder.found_by_younger e rec ∷ older) in
      subst P (sym (slot_class s os n (path s os (suc n)).pc rec olds.0)) (by_load (is_load_class (class_at rec)))
    where
      by_load : (b : Bool) → FindsSame (suc n)
          ((if b then record (slot_of (entry s os n) rec) { state = held.valueless e (state_of rec.stage) } else slot_of (entry s os n) rec) ∷ slots_down s os n older)
          ((if b then record rec { stage = inorder.valueless e rec.stage } else rec) ∷ older)
      by_load true = valueless_found n e rec older olds
      by_load false = older_same (suc n) (rec ∷ older) olds
