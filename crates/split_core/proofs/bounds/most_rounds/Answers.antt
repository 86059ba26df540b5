use Rattle.std.proofs.Common.{◌+◌, arith}
use Rattle.std.proofs.lemmas.Nat.{mul-le}
use Rattle.mono_model.proofs.Sound.{setup_facts}
use Rattle.split_core.proofs.bounds.most_rounds.Goals as goal

pub overflow_add-result : goal.overflow_add-result
overflow_add-result c = omega (arith, (setup_facts c.args.setup.now c.requires.sound).ring)

pub overflow_add-result-2 : goal.overflow_add-result-2
overflow_add-result-2 c = omega (arith, (setup_facts c.args.setup.now c.requires.sound).fetch)

pub overflow_mul-result : goal.overflow_mul-result
overflow_mul-result c =
    let s = c.args.setup.now in
    let facts = setup_facts s c.requires.sound in
    omega (arith, mul-le (s.ring + 128) (s.params.core_fetch + 8) 65664 16 (omega (arith, facts.ring)) (omega (arith, facts.fetch)))
