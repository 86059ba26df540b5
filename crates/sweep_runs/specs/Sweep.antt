-- What a sweep reports of a run.
use Rattle.mono_model.specs.declared.setup.Setup.{Setup}
use Rattle.mono_model.specs.declared.final_state.Final.{Final}
use Rattle.mono_model.specs.Cycle.{final}
use Rattle.inorder_machine.specs.Cycle.{inorder_final}

-- What is reported of the run on a machine once it has ended. It has ended after as many cycles as
-- its limit, and from its end on it stands still.
abbrev pub last_of : Setup → Final
last_of s = final s s.cycles

-- the same on the in-order machine
abbrev pub inorder_last_of : Setup → Final
inorder_last_of s = inorder_final s s.cycles
