use Rattle.inorder_laws.proofs.FirstEnd as first_end
use Rattle.inorder_laws.proofs.end.run_in_order_ends_once.Goals as goal

pub returns : goal.returns
returns c = record { ends = λ s some. first_end.inorder_run_ends_once s some }
