use Rattle.inorder_model.proofs.Slots.{first_of_all, none_of_all}
use Rattle.inorder_model.proofs.stages.executing_place.Goals as goal

pub returns-clause-first : goal.returns-clause-first
returns-clause-first c = first_of_all c.args.flight.now.slots c.next.result c.next.ensures.first

pub returns-clause-none : goal.returns-clause-none
returns-clause-none c = none_of_all c.args.flight.now.slots c.next.result c.next.ensures.none
