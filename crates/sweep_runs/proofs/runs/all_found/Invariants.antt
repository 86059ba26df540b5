use Rattle.std.proofs.Common.{◌≡◌, map, take, Ok}
use Rattle.sweep_runs.proofs.runs.all_found.Given as goal

abbrev pub invariant-loop-last : goal.invariant-loop-last
invariant-loop-last l = map (λ last. Ok last) l.finals.items ≡ take l.last-index l.played
