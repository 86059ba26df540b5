use Rattle.std.proofs.Common.{rules, arith}
use Rattle.mono_model.proofs.Sound.{setup_facts}
use Rattle.trace_ring.proofs.ends.opened.Goals as goal

pub line-requires : goal.line-requires
line-requires g c = let some = (setup_facts c.args.setup.now c.requires.sound).some_ring in omega arith
