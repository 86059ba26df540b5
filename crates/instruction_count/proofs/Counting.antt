-- The counts of a run, from one instruction to the next.
use Rattle.std.proofs.Common.{◌≡◌, ◌∙◌, ℕ, ◌+◌, ◌<◌, ◌^◌, List, [], ◌∷◌, ◌++◌, length, replicate, set, Some, None, refl, sym, ap, subst, arith, length-set}
use Rattle.std.specs.Prelude.{slice_get}
use Rattle.elf_image.specs.declared.image.Image.{Image}
use Rattle.mono_model.specs.declared.setup.Setup.{Setup}
use Rattle.func_model.specs.declared.told.Executed.{Executed as ToldExecuted}
use Rattle.func_model.specs.declared.told.ToldRun.{ToldRun}
use Rattle.func_model.specs.Told.{IsToldStep, ToldStandsFor}
use Rattle.text_rows.specs.Rows.{AreRowsOf, IsRowOf}
use Rattle.insight_model.specs.Count.{Executed}
use Rattle.insight_model.specs.Profile.{row_of}
use Rattle.instruction_count.specs.declared.counts.InstructionCounts.{InstructionCounts}
use Rattle.instruction_count.specs.declared.row.CountRow.{CountRow}
use Rattle.instruction_count.specs.Counted.{AreCountsOf, IsCountRow, Tells, row_address}
use Rattle.insight_laws.proofs.TextRows.{all_alike, one_changes}
use Rattle.instruction_count.proofs.Noted.{noted_elsewhere}
use Rattle.instruction_count.proofs.Runs.{executed_to, few_to, instruction_of, none_to, on_to, over_at, told_of}

-- one row changes
pub noted_in : (image : Image) (run : List Executed) (x : Executed) (old new : InstructionCounts) (place : ℕ) (before after : CountRow) → AreCountsOf image run old → new.rows ≡ old.rows →
    IsRowOf old.rows x.addr place → slice_get old.counts.items place ≡ Some before → new.counts.items ≡ set old.counts.items place after →
    (IsCountRow image run (row_of image x.addr) before → IsCountRow image (run ++ x ∷ []) (row_of image x.addr) after) → AreCountsOf image (run ++ x ∷ []) new
noted_in image run x old new place before after are rows found there changed noted =
    let same : length new.counts.items ≡ length old.counts.items = ap (length {A = CountRow}) changed ∙ length-set old.counts.items place after in
    let R : List ℕ → Type 0 = λ xs. AreRowsOf image xs in
    record {
      rows = subst R (sym rows) are.rows;
      each = omega (arith, same, are.each, ap (length {A = ℕ}) rows);
      counted = λ k row is.
          let P : List ℕ → Type 0 = λ xs. IsCountRow image (run ++ x ∷ []) (row_address xs k) row in
          let at : slice_get (set old.counts.items place after) k ≡ Some row = ap (λ (xs : List CountRow). slice_get xs k) (sym changed) ∙ is in
          subst P (sym rows)
          (one_changes image old.rows old.counts.items x.addr place before after (IsCountRow image run) (IsCountRow image (run ++ x ∷ [])) are.rows are.each found there are.counted noted
          (λ other counted apart was. noted_elsewhere image run x other counted apart was) k row at);
    }

-- a row of each, in which nothing was counted
pub none_counted : (image : Image) (rows : List ℕ) (items : List CountRow) (none : CountRow) → items ≡ replicate (length rows + 1) none → ((row : ℕ) → IsCountRow image [] row none) →
    (place : ℕ) (row : CountRow) → slice_get items place ≡ Some row → IsCountRow image [] (row_address rows place) row
none_counted image rows items none are nothing place row is = all_alike rows items none (IsCountRow image []) are nothing place row is

-- at the start, nothing was counted
pub record CountsTo {D : Type 0} (s : Setup) (steps : ℕ) (counts : InstructionCounts) (run : ToldRun D) : Type 0 where
  pub stands : ToldStandsFor s run
  pub made : run.made ≡ steps
  pub counted : AreCountsOf s.image (executed_to s run.made) counts

pub counts_start : {D : Type 0} (s : Setup) (counts : InstructionCounts) (run : ToldRun D) → ToldStandsFor s run → run.made ≡ 0 → AreCountsOf s.image [] counts → CountsTo s 0 counts run
counts_start s counts run stands start nothing =
    let P : List Executed → Type 0 = λ xs. AreCountsOf s.image xs counts in
    record {
      stands = stands;
      made = start;
      counted = subst P (sym (ap (executed_to s) start ∙ none_to s)) nothing;
    }

-- one more step
pub counts_more : {D : Type 0} (s : Setup) (made : ℕ) (counts next : InstructionCounts) (run new : ToldRun D) (executed : ToldExecuted) → CountsTo s made counts run → made < 2 ^ 63 →
    IsToldStep s run new (Some executed) →
    ((x : Executed) → length (executed_to s run.made) < 2 ^ 63 → Tells executed x → AreCountsOf s.image (executed_to s run.made) counts → AreCountsOf s.image (executed_to s run.made ++ x ∷ []) next) →
    CountsTo s (made + 1) next new
counts_more s made counts next run new executed h bounded step noted =
    let on = step.on in
    let x : Executed = instruction_of s run.made in
    let T : ToldExecuted → Type 0 = λ told. Tells told x in
    let P : List Executed → Type 0 = λ xs. AreCountsOf s.image xs next in
    let few : length (executed_to s run.made) < 2 ^ 63 = omega (arith, few_to s run.made, h.made, bounded) in
    let after : executed_to s new.made ≡ executed_to s run.made ++ x ∷ [] = ap (executed_to s) on.made ∙ on_to s run.made step.reached on.going on.room in
    record {
      stands = on.stands;
      made = on.made ∙ ap (λ (k : ℕ). k + 1) h.made;
      counted = subst P (sym after) (noted x few (subst T (sym on.told) (told_of s run.made)) h.counted);
    }

-- no further step
pub counts_over : {D : Type 0} (s : Setup) (made : ℕ) (counts : InstructionCounts) (run new : ToldRun D) → CountsTo s made counts run → made < s.cycles → IsToldStep s run new None →
    AreCountsOf s.image (executed_to s s.cycles) counts
counts_over s made counts run new h within step =
    let P : List Executed → Type 0 = λ xs. AreCountsOf s.image xs counts in
    subst P (over_at s run.made s.cycles step.reached step.over (omega (arith, h.made, within))) h.counted

pub counts_all : {D : Type 0} (s : Setup) (made : ℕ) (counts : InstructionCounts) (run : ToldRun D) → CountsTo s made counts run → made ≡ s.cycles → AreCountsOf s.image (executed_to s s.cycles) counts
counts_all s made counts run h all =
    let P : List Executed → Type 0 = λ xs. AreCountsOf s.image xs counts in
    subst P (ap (executed_to s) (h.made ∙ all)) h.counted
