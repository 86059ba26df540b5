use Rattle.std.proofs.Common.{sym, arith}
use Rattle.timing_core.proofs.Finishing.{executes_there}
use Rattle.inorder_model.proofs.Slots.{first_executing, none_executing}
use Rattle.inorder_model.proofs.stages.in_execute.Goals as goal

pub returns-in_default : goal.returns-in_default
returns-in_default c = record {
  executing = sym (none_executing c.args.flight.now.slots (λ k. c.in_default.ensures.none k (omega arith)));
  first = tt;
  all = tt;
}

pub at-slot-requires : goal.at-slot-requires
at-slot-requires c = record { within = executes_there c.args.flight.now.slots c.in-Some.place c.in-Some.ensures.found }

pub returns-in-Until : goal.returns-in-Until
returns-in-Until c = record {
  executing = sym (first_executing c.args.flight.now.slots c.in-Some.place c.at-slot.result c.in-Until.from c.at-slot.ensures.slot c.in-Until.is (λ k under. c.in-Some.ensures.first k (omega arith) under));
  first = record {
    there = c.at-slot.ensures.slot;
    due = c.in-Until.is;
    before = λ k under. c.in-Some.ensures.first k (omega arith) under;
  };
  all = c.in-Some.ensures.left;
}
