-- What a younger record finds where a load in Memory has no value yet is no more than what the older records give.
use Rattle.std.proofs.Common.{◌≡◌, ℕ, ◌&&◌, Bool, true, false, if◌then◌else◌, is_some, unwrap_or, Option, Some, None, List, [], ◌∷◌, refl, ap, sym, ◌∙◌}
use Rattle.std.proofs.lemmas.Bool.{cond_both, and_parts}
use Rattle.fsim_base.specs.declared.access.Access.{Access}
use Rattle.fsim_base.specs.declared.access.Access.TheVariants as access
use Rattle.fsim_base.specs.declared.access.Spot.TheVariants.{Ram, Device, Nowhere}
use Rattle.fsim_base.specs.declared.instruction.Class.{Class}
use Rattle.fsim_base.specs.declared.instruction.Class.TheVariants as class
use Rattle.mono_model.specs.declared.setup.Setup.{Setup}
use Rattle.mono_model.specs.Setup.{ram_range}
use Rattle.mono_model.specs.Arch.{Arch}
use Rattle.mono_model.specs.Found.{destination_in, first_source, second_source}
use Rattle.mono_model.specs.Result.{Seen, executed}
use Rattle.mono_model.specs.Window.{Record, Stage, waiting, until, done, class_at, is_register, value_at, written_value, operand, stage_covers, stage_byte, loaded_byte, is_store_class, is_done_stage, is_unfinished_store, are_stores_done}
use Rattle.mono_model.specs.Issue.{has_operands, operand_value, seen_from, ready_result, is_oldest, load_allows, class_allows}
use Rattle.inorder_machine.specs.Issue.{is_load_class, valueless, found_in_order}

-- of the older records and of those that are found
record FoundAlike (older found : List Record) : Type 0 where
  -- a value that is found is the one that is given
  written : (regs : ℕ → ℕ) (register v : ℕ) → written_value regs found register ≡ Some v → written_value regs older register ≡ Some v
  bytes : (ram : ℕ → ℕ) (x : ℕ) → loaded_byte ram found x ≡ loaded_byte ram older x
  stores : are_stores_done found ≡ are_stores_done older
  oldest : is_oldest found ≡ is_oldest older

same_alike : (older : List Record) → FoundAlike older older
same_alike older = record { written = λ regs register v is. is; bytes = λ ram x. refl; stores = refl; oldest = refl }

no_value : (e : ℕ) (stage : Stage) (v : ℕ) → value_at (valueless e stage) ≡ Some v → value_at stage ≡ Some v
no_value e waiting v is = cc
no_value e (until from r) v is = cc
no_value e (done r) v is = cc

same_byte : (e : ℕ) (stage : Stage) (x under : ℕ) →
    (if stage_covers (valueless e stage) x then stage_byte (valueless e stage) x else under) ≡ (if stage_covers stage x then stage_byte stage x else under)
same_byte e waiting x under = refl
same_byte e (until from r) x under = refl
same_byte e (done r) x under = refl

no_store : (c : Class) → is_load_class c ≡ true → is_store_class c ≡ false
no_store class.Alu is = refl
no_store class.Mul is = refl
no_store class.Div is = refl
no_store class.Load is = refl
no_store class.Store is = cc
no_store class.Serial is = refl

load_alike : (e : ℕ) (rec : Record) (older : List Record) → is_load_class (class_at rec) ≡ true → FoundAlike (rec ∷ older) (record rec { stage = valueless e rec.stage } ∷ older)
load_alike e rec older load = record {
  written = λ regs register v is. by_register regs register v (is_register register (destination_in rec.found)) is;
  bytes = λ ram x. same_byte e rec.stage x (loaded_byte ram older x);
  stores = ap (λ (b : Bool). if b then false else are_stores_done older) (finished (record rec { stage = valueless e rec.stage }) load ∙ sym (finished rec load));
  oldest = refl;
}
  where
    by_register : (regs : ℕ → ℕ) (register v : ℕ) (b : Bool) → (if b then value_at (valueless e rec.stage) else written_value regs older register) ≡ Some v →
        (if b then value_at rec.stage else written_value regs older register) ≡ Some v
    by_register regs register v true is = no_value e rec.stage v is
    by_register regs register v false is = is

    finished : (r : Record) → is_load_class (class_at r) ≡ true → is_unfinished_store r ≡ false
    finished r is = ap (λ (b : Bool). if b then (if is_done_stage r.stage then false else true) else false) (no_store (class_at r) is)

found_alike : (memory : Option ℕ) (older : List Record) → FoundAlike older (found_in_order memory older)
found_alike None older = same_alike older
found_alike (Some e) [] = same_alike []
found_alike (Some e) (rec ∷ older) =
    cond_both (is_load_class (class_at rec)) (record rec { stage = valueless e rec.stage }) rec (λ r. FoundAlike (rec ∷ older) (r ∷ older))
    (load_alike e rec older) (λ no. same_alike (rec ∷ older))

-- what a record comes to is what it comes to over the older records
pub record IsReady (s : Setup) (a : Arch) (older found : List Record) (rec : Record) : Type 0 where
  pub operands : has_operands a older rec ≡ true
  pub result : ready_result s a found rec ≡ ready_result s a older rec

module _ (a : Arch) (older found : List Record) (alike : FoundAlike older found) where
  same_operand : (source : Option ℕ) (v : ℕ) → operand a.regs found source ≡ Some v → operand a.regs older source ≡ Some v
  same_operand None v is = is
  same_operand (Some register) v is = alike.written a.regs register v is

  -- an operand that is found
  record Same (source : Option ℕ) : Type 0 where
    has : is_some (operand a.regs older source) ≡ true
    value : operand_value a found source ≡ operand_value a older source

  same_value : (source : Option ℕ) → is_some (operand a.regs found source) ≡ true → Same source
  same_value source has = by_value (operand a.regs found source) refl has
    where
      by_value : (o : Option ℕ) → operand a.regs found source ≡ o → is_some o ≡ true → Same source
      by_value None is has = cc
      by_value (Some v) is has = record {
        has = ap (λ (o : Option ℕ). is_some o) (same_operand source v is);
        value = ap (λ (o : Option ℕ). unwrap_or o 0) (is ∙ sym (same_operand source v is));
      }

  same_seen : (time : Option ℕ) → seen_from a found time ≡ seen_from a older time
  same_seen time = λ i. record { bytes = λ x. alike.bytes a.ram x i; csrs = a.csrs; devices = a.devices; time = time }

  is_ready : (s : Setup) (rec : Record) → has_operands a found rec ≡ true → IsReady s a older found rec
  unfolding ready_result
  is_ready s rec has =
      let first = first_source rec.found in
      let second = second_source rec.found in
      let both = and_parts (is_some (operand a.regs found first)) (is_some (operand a.regs found second)) has in
      let x = same_value first both.0 in
      let y = same_value second both.1 in
      record {
        operands = ap (λ (b : Bool). b && is_some (operand a.regs older second)) x.has ∙ y.has;
        result = ap (λ (v : ℕ). executed (ram_range s.params) rec.found rec.addr v (operand_value a found second) (seen_from a found rec.time)) x.value
            ∙ ap (λ (v : ℕ). executed (ram_range s.params) rec.found rec.addr (operand_value a older first) v (seen_from a found rec.time)) y.value
            ∙ ap (λ (e : Seen). executed (ram_range s.params) rec.found rec.addr (operand_value a older first) (operand_value a older second) e) (same_seen rec.time);
      }

  load_same : (made : Access) → load_allows made found ≡ load_allows made older
  load_same access.Nothing = alike.stores
  load_same (access.Load addr width Ram) = alike.stores
  load_same (access.Load addr width Device) = alike.oldest
  load_same (access.Load addr width Nowhere) = alike.stores
  load_same (access.Store addr width spot) = alike.stores

  same_allows : (c : Class) (made : Access) → class_allows c made found ≡ class_allows c made older
  same_allows class.Alu made = refl
  same_allows class.Mul made = refl
  same_allows class.Div made = refl
  same_allows class.Load made = load_same made
  same_allows class.Store made = refl
  same_allows class.Serial made = alike.oldest

-- with a load in Memory that has no value yet
pub ready_in_order : (s : Setup) (a : Arch) (memory : Option ℕ) (older : List Record) (rec : Record) → has_operands a (found_in_order memory older) rec ≡ true →
    IsReady s a older (found_in_order memory older) rec
ready_in_order s a memory older rec has = is_ready a older (found_in_order memory older) (found_alike memory older) s rec has

pub allows_in_order : (a : Arch) (memory : Option ℕ) (older : List Record) (c : Class) (made : Access) →
    class_allows c made (found_in_order memory older) ≡ class_allows c made older
allows_in_order a memory older c made = same_allows a older (found_in_order memory older) (found_alike memory older) c made
