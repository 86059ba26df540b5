-- Which turn comes next, as the demand run has it.
use Rattle.inorder_machine.specs.Demand as run
use Rattle.inorder_model.specs.declared.at.At.{At}
use Rattle.inorder_model.specs.declared.at.At.TheVariants.{Interrupting, Writing, Accessing, Executing, Issuing, Trying, Ending, Stopping, Halted}

abbrev pub at_in : At → run.InorderAt
at_in Interrupting = run.interrupting
at_in Writing = run.writing
at_in Accessing = run.accessing
at_in Executing = run.executing
at_in Issuing = run.issuing
at_in Trying = run.trying
at_in Ending = run.ending
at_in Stopping = run.stopping
at_in Halted = run.halted
