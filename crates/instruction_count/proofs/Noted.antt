-- The counts of rows after one more instruction.
use Rattle.std.proofs.Common.{◌≡◌, ◌∙◌, ℕ, ◌+◌, ◌≤◌, Bool, true, false, not, List, [], ◌∷◌, ◌++◌, refl, sym, ap, arith, length-append}
use Rattle.elf_image.specs.declared.image.Image.{Image}
use Rattle.func_model.specs.declared.told.Executed.{Executed as ToldExecuted}
use Rattle.insight_model.specs.Count.{Executed}
use Rattle.insight_model.specs.Profile.{goes_on, retired, row_of, taken, trapped}
use Rattle.instruction_count.specs.declared.row.CountRow.{CountRow}
use Rattle.instruction_count.specs.Counted.{IsCountRow, Tells}
use Rattle.instruction_count.proofs.Amounts.{amount-elsewhere, retired-push, retired_by, taken-push, taken_by, trapped-push, trapped_by, word-elsewhere, word-push}

-- whether an instruction that retired went on to the next word
is_off : (b : Bool) → not b ≡ true → b ≡ false
is_off false is = refl
is_off true is = let e : false ≡ true = is in cc

is_on : (b : Bool) → not b ≡ false → b ≡ true
is_on true is = refl
is_on false is = let e : true ≡ false = is in cc

goes_as_told : (told : ToldExecuted) (x : Executed) → Tells told x → x.has_trapped ≡ false → goes_on told.addr told.next ≡ goes_on x.addr x.next
goes_as_told told x tells trap = λ i. goes_on (tells.addr i) (tells.next trap i)

pub goes_off : (told : ToldExecuted) (x : Executed) (jumps : Bool) → Tells told x → x.has_trapped ≡ false → jumps ≡ not (goes_on told.addr told.next) → jumps ≡ true → goes_on x.addr x.next ≡ false
goes_off told x jumps tells trap is here = sym (goes_as_told told x tells trap) ∙ is_off (goes_on told.addr told.next) (sym is ∙ here)

pub goes_straight : (told : ToldExecuted) (x : Executed) (jumps : Bool) → Tells told x → x.has_trapped ≡ false → jumps ≡ not (goes_on told.addr told.next) → jumps ≡ false → goes_on x.addr x.next ≡ true
goes_straight told x jumps tells trap is here = sym (goes_as_told told x tells trap) ∙ is_on (goes_on told.addr told.next) (sym is ∙ here)

-- at most one is counted in each column, and one in the first two together
bounds : (trap on : Bool) → (retired_by trap + trapped_by trap ≡ 1) × (taken_by trap on ≤ retired_by trap)
bounds true on = (refl, omega arith)
bounds false true = (refl, omega arith)
bounds false false = (refl, omega arith)

pub noted : (image : Image) (run : List Executed) (x : Executed) (old new : CountRow) → IsCountRow image run (row_of image x.addr) old → new.word ≡ x.word →
    new.retired ≡ old.retired + retired_by x.has_trapped → new.trapped ≡ old.trapped + trapped_by x.has_trapped → new.taken ≡ old.taken + taken_by x.has_trapped (goes_on x.addr x.next) →
    IsCountRow image (run ++ x ∷ []) (row_of image x.addr) new
noted image run x old new row word more trap elsewhere = record {
  word = word ∙ sym (word-push image run x);
  retired = more ∙ ap (λ (n : ℕ). n + retired_by x.has_trapped) row.retired ∙ sym (retired-push image run x);
  trapped = trap ∙ ap (λ (n : ℕ). n + trapped_by x.has_trapped) row.trapped ∙ sym (trapped-push image run x);
  taken = elsewhere ∙ ap (λ (n : ℕ). n + taken_by x.has_trapped (goes_on x.addr x.next)) row.taken ∙ sym (taken-push image run x);
  few = omega (arith, length-append run (x ∷ []), row.few, more, trap, (bounds x.has_trapped (goes_on x.addr x.next)).0);
  fewer = omega (arith, row.fewer, more, elsewhere, (bounds x.has_trapped (goes_on x.addr x.next)).1);
}

pub noted_elsewhere : (image : Image) (run : List Executed) (x : Executed) (row : ℕ) (counted : CountRow) → (row_of image x.addr ≡ row → ⊥) → IsCountRow image run row counted → IsCountRow image (run ++ x ∷ []) row counted
noted_elsewhere image run x row counted apart old = record {
  word = old.word ∙ sym (word-elsewhere image run x row apart);
  retired = old.retired ∙ sym (amount-elsewhere image run x row retired apart);
  trapped = old.trapped ∙ sym (amount-elsewhere image run x row trapped apart);
  taken = old.taken ∙ sym (amount-elsewhere image run x row taken apart);
  few = omega (arith, length-append run (x ∷ []), old.few);
  fewer = old.fewer;
}

-- one that trapped, one that went on to the next word, and one that went elsewhere
module _ (image : Image) (run : List Executed) (x : Executed) (old new : CountRow) (row : IsCountRow image run (row_of image x.addr) old) (word : new.word ≡ x.word) where
  pub noted_trap : x.has_trapped ≡ true → new.retired ≡ old.retired → new.trapped ≡ old.trapped + 1 → new.taken ≡ old.taken → IsCountRow image (run ++ x ∷ []) (row_of image x.addr) new
  noted_trap trap more gone elsewhere =
      let none : retired_by x.has_trapped ≡ 0 = ap retired_by trap in
      let one : trapped_by x.has_trapped ≡ 1 = ap trapped_by trap in
      let no : taken_by x.has_trapped (goes_on x.addr x.next) ≡ 0 = ap (λ (b : Bool). taken_by b (goes_on x.addr x.next)) trap in
      noted image run x old new row word (omega (arith, more, none)) (omega (arith, gone, one)) (omega (arith, elsewhere, no))

  pub noted_on : x.has_trapped ≡ false → goes_on x.addr x.next ≡ true → new.retired ≡ old.retired + 1 → new.trapped ≡ old.trapped → new.taken ≡ old.taken → IsCountRow image (run ++ x ∷ []) (row_of image x.addr) new
  noted_on trap on more gone elsewhere =
      let one : retired_by x.has_trapped ≡ 1 = ap retired_by trap in
      let none : trapped_by x.has_trapped ≡ 0 = ap trapped_by trap in
      let no : taken_by x.has_trapped (goes_on x.addr x.next) ≡ 0 = λ i. taken_by (trap i) (on i) in
      noted image run x old new row word (omega (arith, more, one)) (omega (arith, gone, none)) (omega (arith, elsewhere, no))

  pub noted_taken : x.has_trapped ≡ false → goes_on x.addr x.next ≡ false → new.retired ≡ old.retired + 1 → new.trapped ≡ old.trapped → new.taken ≡ old.taken + 1 → IsCountRow image (run ++ x ∷ []) (row_of image x.addr) new
  noted_taken trap off more gone elsewhere =
      let one : retired_by x.has_trapped ≡ 1 = ap retired_by trap in
      let none : trapped_by x.has_trapped ≡ 0 = ap trapped_by trap in
      let once : taken_by x.has_trapped (goes_on x.addr x.next) ≡ 1 = λ i. taken_by (trap i) (off i) in
      noted image run x old new row word (omega (arith, more, one)) (omega (arith, gone, none)) (omega (arith, elsewhere, once))
