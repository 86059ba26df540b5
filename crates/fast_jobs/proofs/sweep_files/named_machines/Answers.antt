use Rattle.std.proofs.Common.{ℕ, ◌++◌, ◌∷◌, [], List, take, ap, sym, ◌∙◌}
use Rattle.std.specs.Vec.Iter.{into_iter_items}
use Rattle.fast_jobs.specs.declared.sweep_files.NamedMachine.{NamedMachine}
use Rattle.fast_jobs.specs.SweepFiles.{named_machines}
use Rattle.fast_jobs.proofs.Sweeps.{left-next, named-next}
use Rattle.fast_jobs.proofs.sweep_files.named_machines.Goals as goal

pub loop-name-preserved : goal.loop-name-preserved
loop-name-preserved c =
    let all = into_iter_items c.args.contents.now in
    let left = into_iter_items c.loop-name.contents in
    let names = c.args.names.now in
    let i = c.loop-name.name-index in
    let name = c.name-item.result in
    let bytes = c.next_file.result in
    record {
      named = c.in_ok-push.ensures.pushed
          ∙ ap (λ (list : List NamedMachine). list ++ record { name = c.in_ok-copy_of.field-0; bytes = bytes } ∷ []) c.loop-name.invariant.named
          ∙ ap (λ (text : List ℕ). named_machines (take i names) all ++ record { name = text; bytes = bytes } ∷ []) c.in_ok-copy_of.ensures.same
          ∙ sym (named-next names all left i name bytes c.loop-name-test.true c.name-item.is c.loop-name.invariant.left c.next_file.ensures.bytes);
      left = left-next all left (into_iter_items c.next_file.new.contents) i c.loop-name.invariant.left c.next_file.ensures.left;
    }
