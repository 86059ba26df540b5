-- The relation through Execute: the record that goes on to Memory is done, and the path follows a misprediction.
use Rattle.std.proofs.Common.{ℕ, Option, Some, None, length, refl}
use Rattle.std.proofs.lemmas.Bool.{cond_both}
use Rattle.cache_timing.specs.Caches.{CachesState}
use Rattle.mono_model.specs.declared.setup.Setup.{Setup}
use Rattle.mono_model.specs.Path.{path, time_of}
use Rattle.mono_model.specs.Complete.{Completed}
use Rattle.mono_model.specs.Demand.{Demand}
use Rattle.machine_laws.specs.Relation.{Related}
use Rattle.machine_laws.proofs.Complete.{Keeps, completes_keeps, completed_related}
use Rattle.inorder_machine.specs.InorderMachine.{Executing, in_execute}
use Rattle.inorder_machine.specs.Execute.{Moved, unmoved, moved, may_move, moving_by, moving}
use Rattle.inorder_machine.specs.Demand.{inorder_in, demand_moved}

abbrev KeepsAll : Setup → Demand → Completed → Type 0
KeepsAll s d c = Keeps s (time_of d.orders) (path s d.orders) d.to_commit (length d.machine.window) d.machine.fetch_addr d.machine.kept c.redirect c.records

by_record : (s : Setup) (d : Demand) (memory : Option ℕ) (x : Option Executing) → Related s d → KeepsAll s d (moving_by s x (inorder_in d memory)).completed
by_record s d memory None related = (refl, related.window)
by_record s d memory (Some x) related =
    cond_both (may_move (inorder_in d memory) x) (moved s x (inorder_in d memory)) (unmoved (inorder_in d memory)) (λ k. KeepsAll s d k.completed)
    (λ may. completes_keeps s (time_of d.orders) (path s d.orders) d.machine.fetch_addr d.machine.kept d.to_commit x.from d.machine.window related.window)
    (λ may. (refl, related.window))

-- caches don't matter here
with_caches : (s : Setup) (d : Demand) (caches : CachesState) → Related s d → Related s (record d { machine = record d.machine { caches = caches } })
with_caches s d caches related = record { arch = related.arch; window = related.window; on = related.on; within = related.within }

pub moved_related : (s : Setup) (d : Demand) (memory : Option ℕ) → Related s d → Related s (demand_moved (moving s (inorder_in d memory)) d)
unfolding moving
moved_related s d memory related =
    let x : Moved = moving_by s (in_execute d.machine.window) (inorder_in d memory) in
    completed_related s (record d { machine = record d.machine { caches = x.caches } }) x.completed.redirect x.completed.records (with_caches s d x.caches related)
    (by_record s d memory (in_execute d.machine.window) related)
