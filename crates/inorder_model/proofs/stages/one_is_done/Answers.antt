use Rattle.std.proofs.Common.{sym, ◌∙◌}
use Rattle.inorder_model.proofs.Slots.{one_done}
use Rattle.inorder_model.proofs.stages.one_is_done.Goals as goal

pub returns-in-Some : goal.returns-in-Some
returns-in-Some c = record { one = one_done c.args.flight.now.slots c.in-Some.slot (sym c.in-Some.ensures.oldest) (sym c.is_done.ensures.done ∙ c.if-is_done.true) }
