-- The same of the in-order machine's timing side.
use Rattle.mono_model.specs.declared.setup.Setup.{Setup}
use Rattle.inorder_model.specs.Standing.{inorder_piped}
use Rattle.cycle_watch.proofs.Held.{Holds}
use Rattle.cycle_watch.proofs.InorderPaid.{inorder_holds_on}

pub inorder_holds : (s : Setup) → Holds inorder_piped s
inorder_holds s = inorder_holds_on s
