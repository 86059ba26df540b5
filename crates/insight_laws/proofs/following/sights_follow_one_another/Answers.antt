use Rattle.mono_model.proofs.Sound.{setup_facts}
use Rattle.insight_laws.proofs.Sights.{inorder_follows, window_follows}
use Rattle.insight_laws.proofs.following.sights_follow_one_another.Goals as goal

pub returns-clause-window : goal.returns-clause-window
returns-clause-window c = λ s n sound. window_follows s n sound

pub returns-clause-inorder : goal.returns-clause-inorder
returns-clause-inorder c = λ s n sound.
    let facts = setup_facts s sound.sound in
    inorder_follows s n sound (c.run_in_order_ends_once.ensures.ends s facts.some_cycle)
