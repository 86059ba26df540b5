use Rattle.std.proofs.Common.{arith}
use Rattle.in_flight.proofs.Divisions.{divisions_front}
use Rattle.in_flight.proofs.dividing.divisions_cut.Goals as goal

pub returns-then-dividing-eq0 : goal.returns-then-dividing-eq0
returns-then-dividing-eq0 c =
    record { divisions = omega (arith, divisions_front c.args.window.now.slots c.args.from, c.requires.counted, c.if-dividing-eq0.true) }
