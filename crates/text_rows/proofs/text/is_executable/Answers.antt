use Rattle.std.proofs.Common.{◌≡◌, ◌∙◌, ◌&&◌, ◌≤◌, ◌+◌, false, List, length, take, ap, sym, subst}
use Rattle.std.specs.List.{list_any}
use Rattle.elf_image.specs.declared.segment.Segment.{Segment}
use Rattle.elf_image.specs.Load.{holds}
use Rattle.text_rows.proofs.Reached.{and_both, and_none, and_off, executable_any, has_exec, none_all, none_more, one_here}
use Rattle.text_rows.proofs.text.is_executable.Goals as goal
use Rattle.text_rows.proofs.text.is_executable.Goals.{else-segment-via-then-segment+else-has_byte, else-segment-via-else-segment}

pub returns-then-has_byte : goal.returns-then-has_byte
returns-then-has_byte c =
    let image = c.args.image.now in
    let addr = c.args.addr in
    let s = c.segment-item.result in
    let one = and_both s.exec (holds s addr) c.if-segment.true (sym c.has_byte.ensures.byte ∙ c.if-has_byte.true) in
    let here = one_here (has_exec addr) c.as_slice-segment-items.result.now c.loop-segment.segment-index s c.loop-segment-test.true c.segment-item.is one in
    record { executable = sym here ∙ ap (list_any (has_exec addr)) c.as_slice-segment-items.ensures.same ∙ executable_any image addr }

pub loop-segment-preserved : goal.loop-segment-preserved
loop-segment-preserved c =
    let addr = c.args.addr in
    let items = c.as_slice-segment-items.result.now in
    let i = c.loop-segment.segment-index in
    let s = c.segment-item.result in
    let S : List Segment → Type 0 = λ xs. list_any (has_exec addr) (take i xs) ≡ false in
    let T : List Segment → Type 0 = λ xs. list_any (has_exec addr) (take (i + 1) xs) ≡ false in
    let none : (s.exec && holds s addr) ≡ false = elim c.else-segment.branch [
      | else-segment-via-then-segment+else-has_byte w ↦ and_off s.exec (holds s addr) (sym w.has_byte.ensures.byte ∙ w.if-has_byte.false)
      | else-segment-via-else-segment w ↦ and_none s.exec (holds s addr) w.if-segment.false
    ] in
    subst T c.as_slice-segment-items.ensures.same
    (none_more (has_exec addr) items i s c.loop-segment-test.true c.segment-item.is (subst S (sym c.as_slice-segment-items.ensures.same) c.loop-segment.invariant) none)

pub returns : goal.returns
returns c =
    let image = c.args.image.now in
    let addr = c.args.addr in
    let i = c.loop-segment.segment-index in
    let L : List Segment → Type 0 = λ xs. length xs ≤ i in
    let none = none_all (has_exec addr) image.segments i (subst L c.as_slice-segment-items.ensures.same c.loop-segment-test.false) c.loop-segment.invariant in
    record { executable = sym none ∙ executable_any image addr }
