use Rattle.instruction_count.proofs.Counting.{CountsTo}
use Rattle.instruction_count.proofs.counts.InstructionCounts.of_run.Given as goal

abbrev pub invariant-loop : goal.invariant-loop
invariant-loop g l = CountsTo l.setup l.counter l.counts l.run
