use Rattle.std.proofs.Common.{◌≡◌, ◌∙◌, ◌&&◌, ◌≤◌, ◌+◌, true, false, List, length, take, sym, subst}
use Rattle.std.specs.List.{list_any}
use Rattle.elf_image.specs.declared.segment.Segment.{Segment}
use Rattle.text_rows.proofs.Reached.{and_none, and_off, none_all, none_more, none_reached, reaches, reaches_exec}
use Rattle.text_rows.proofs.text.is_reached.Goals as goal
use Rattle.text_rows.proofs.text.is_reached.Goals.{else-segment-via-then-segment+else-reaches_into, else-segment-via-else-segment}

pub returns-then-reaches_into : goal.returns-then-reaches_into
returns-then-reaches_into c = record { unreached = λ is. let e : true ≡ false = is in cc }

pub loop-segment-preserved : goal.loop-segment-preserved
loop-segment-preserved c =
    let page = c.args.page in
    let items = c.as_slice-segment-items.result.now in
    let i = c.loop-segment.segment-index in
    let s = c.segment-item.result in
    let S : List Segment → Type 0 = λ xs. list_any (reaches_exec page) (take i xs) ≡ false in
    let T : List Segment → Type 0 = λ xs. list_any (reaches_exec page) (take (i + 1) xs) ≡ false in
    let none : (s.exec && reaches page s) ≡ false = elim c.else-segment.branch [
      | else-segment-via-then-segment+else-reaches_into w ↦ and_off s.exec (reaches page s) (sym w.reaches_into.ensures.reaches ∙ w.if-reaches_into.false)
      | else-segment-via-else-segment w ↦ and_none s.exec (reaches page s) w.if-segment.false
    ] in
    subst T c.as_slice-segment-items.ensures.same
    (none_more (reaches_exec page) items i s c.loop-segment-test.true c.segment-item.is (subst S (sym c.as_slice-segment-items.ensures.same) c.loop-segment.invariant) none)

pub returns : goal.returns
returns c =
    let image = c.args.image.now in
    let page = c.args.page in
    let i = c.loop-segment.segment-index in
    let L : List Segment → Type 0 = λ xs. length xs ≤ i in
    let none = none_all (reaches_exec page) image.segments i (subst L c.as_slice-segment-items.ensures.same c.loop-segment-test.false) c.loop-segment.invariant in
    record { unreached = λ is. none_reached image page none }
