use Rattle.std.proofs.Common.{arith}
use Rattle.mono_model.proofs.Sound.{setup_facts}
use Rattle.inorder_model.proofs.bounds.most_steps.Goals as goal

pub overflow_mul-result : goal.overflow_mul-result
overflow_mul-result c = omega (arith, (setup_facts c.args.setup.now c.requires.sound).cycles)

pub overflow_add-result : goal.overflow_add-result
overflow_add-result c = omega (arith, (setup_facts c.args.setup.now c.requires.sound).cycles)
