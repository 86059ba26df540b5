use Rattle.machine_laws.proofs.FirstEnd as first_end
use Rattle.machine_laws.proofs.end.run_ends_once.Goals as goal

pub returns : goal.returns
returns c = record { ends = λ s some. first_end.run_ends_once s some }
