-- What the phases count, as the machine's counts.
use Rattle.mono_model.specs.Machine as machine
use Rattle.timing_core.specs.declared.counts.Counts.{Counts}

abbrev pub counts_in : Counts → machine.Counts
counts_in c = record {
  exceptions = c.exceptions;
  interrupts = c.interrupts;
  replays = c.replays;
  fetched = c.fetched;
  squashed = c.squashed;
  branches = c.branches;
  mispredicted = c.mispredicted;
}
