-- Which turn comes next, as the demand run has it.
use Rattle.mono_model.specs.Demand as run
use Rattle.time_model.specs.declared.at.At.{At}
use Rattle.time_model.specs.declared.at.At.TheVariants.{Interrupting, Committing, Completing, Issuing, Trying, Ending, Stopping, Halted}

abbrev pub at_in : At → run.At
at_in Interrupting = run.interrupting
at_in Committing = run.committing
at_in Completing = run.completing
at_in Issuing = run.issuing
at_in (Trying more) = run.trying more
at_in Ending = run.ending
at_in Stopping = run.stopping
at_in Halted = run.halted
