-- The relation at every place of the in-order machine's demand run.
use Rattle.std.proofs.Common.{ℕ, Option}
use Rattle.mono_model.specs.declared.setup.Setup.{Setup}
use Rattle.mono_model.specs.Demand.{Demand}
use Rattle.machine_laws.specs.Relation.{Related}
use Rattle.machine_laws.proofs.Interrupt.{interrupt_related}
use Rattle.machine_laws.proofs.Commit.{commits_related}
use Rattle.machine_laws.proofs.Fetch.{fetch_related}
use Rattle.machine_laws.proofs.Places.{start_related, cycle_end_related, stopped_related}
use Rattle.inorder_machine.specs.Write.{write_width, inorder_commit}
use Rattle.inorder_machine.specs.Demand.{InorderAt, interrupting, writing, accessing, executing, issuing, trying, ending, stopping, halted, inorder_in, inorder_turn_at, inorder_place}
use Rattle.inorder_laws.proofs.Always.{always}
use Rattle.inorder_laws.proofs.Moving.{moved_related}
use Rattle.inorder_laws.proofs.Issuing.{inorder_issue_related}

-- each turn keeps it
turn_related : (s : Setup) (at : InorderAt) (d : Demand) (memory : Option ℕ) → Related s d → Related s (inorder_turn_at s at d memory).demand
unfolding inorder_commit
turn_related s interrupting d memory related = interrupt_related s d related
turn_related s writing d memory related = commits_related s (write_width (inorder_in d memory)) d related
turn_related s accessing d memory related = related
turn_related s executing d memory related = moved_related s d memory related
turn_related s issuing d memory related = inorder_issue_related s d memory related
turn_related s trying d memory related = fetch_related s d related
turn_related s ending d memory related = cycle_end_related s d related
turn_related s stopping d memory related = stopped_related s d related
turn_related s halted d memory related = related

-- and so it holds at every place
pub place_related : (s : Setup) (k : ℕ) → Related s (inorder_place s k).run.demand
place_related s = always s (λ at d memory. Related s d) (start_related s) (turn_related s)
