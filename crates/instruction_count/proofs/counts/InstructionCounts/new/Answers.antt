use Rattle.std.proofs.Common.{◌≡◌, ◌+◌, ℕ, length, replicate, ap, ◌∙◌}
use Rattle.std.proofs.lemmas.List.{length-replicate}
use Rattle.instruction_count.specs.declared.row.CountRow.{CountRow}
use Rattle.instruction_count.proofs.Counting.{none_counted}
use Rattle.instruction_count.proofs.counts.InstructionCounts.new.Goals as goal

pub returns : goal.returns
returns c =
    let image = c.args.setup.now.image in
    let rows = c.in_ok-rows.rows in
    let none = c.new-2.result in
    let are : c.in-Ok.counts.items ≡ replicate (c.len.result + 1) none = c.in-Ok.ensures.items_if_clones_equal (λ y is. is) in
    let each : c.in-Ok.counts.items ≡ replicate (length rows + 1) none = are ∙ ap (λ (n : ℕ). replicate (n + 1) none) c.len.ensures.len in
    record {
      nothing = record {
        rows = c.in_ok-rows.ensures.rows;
        each = ap (length {A = CountRow}) each ∙ length-replicate (length rows + 1) none;
        counted = none_counted image rows c.in-Ok.counts.items none each (c.new-2.ensures.nothing image);
      };
    }
