use Rattle.cache_timing.proofs.Word.{IsAged}
use Rattle.cache_timing.proofs.ages.after_use.Given as goal

abbrev pub invariant-loop-way : goal.invariant-loop-way
invariant-loop-way l = IsAged l.ages l.ways l.used l.way l.aged
