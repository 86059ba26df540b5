use Rattle.std.proofs.Common.{sym, ◌∙◌, None}
use Rattle.std.proofs.lemmas.Bool.{cond-true, cond-false}
use Rattle.rollback_cmds.specs.Order.{opens_epoch_of}
use Rattle.side_laws.specs.Along.{MayObey}
use Rattle.split_core.proofs.Obeying.{can_obey, nothing_obeyed, order_obeyed}
use Rattle.split_core.proofs.state.SplitState.obey.Goals as goal

pub obey-requires : goal.obey-requires
obey-requires g c =
    let can : MayObey c.in-Some.order c.args.self.now.func = can_obey g.T.Timing.timed g.met.T.Timing.laws c.args.self.now c.in-Some.order c.requires.standing (sym c.pop_front.ensures.value ∙ c.in-Some.is) in
    record {
      reach = can.reach;
      from = can.from;
      room = can.room;
      number = can.number;
      position = can.position;
      epoch = can.epoch;
      within = can.within;
    }

pub returns-then-opens_epoch : goal.returns-then-opens_epoch
returns-then-opens_epoch g c = record {
  obeyed = λ s x sound reached h. order_obeyed g.T.Timing.timed g.met.T.Timing.laws s x c.args.self.now h c.pop_front.new.self c.pop_front.ensures.items c.in-Some.order c.obey.new.self None (sym c.pop_front.ensures.value ∙ c.in-Some.is)
      c.obey.ensures.stands c.obey.ensures.moved (sym (cond-true (opens_epoch_of c.in-Some.order) None c.args.self.now.computed (sym c.opens_epoch.ensures.all_but_commit ∙ c.if-opens_epoch.true)));
}

pub returns-else-opens_epoch : goal.returns-else-opens_epoch
returns-else-opens_epoch g c = record {
  obeyed = λ s x sound reached h. order_obeyed g.T.Timing.timed g.met.T.Timing.laws s x c.args.self.now h c.pop_front.new.self c.pop_front.ensures.items c.in-Some.order c.obey.new.self c.args.self.now.computed (sym c.pop_front.ensures.value ∙ c.in-Some.is)
      c.obey.ensures.stands c.obey.ensures.moved (sym (cond-false (opens_epoch_of c.in-Some.order) None c.args.self.now.computed (sym c.opens_epoch.ensures.all_but_commit ∙ c.if-opens_epoch.false)));
}

pub returns-in_default : goal.returns-in_default
returns-in_default g c = record {
  obeyed = λ s x sound reached h. nothing_obeyed g.T.Timing.timed g.met.T.Timing.laws s x c.args.self.now h c.pop_front.new.self c.pop_front.ensures.items (sym c.pop_front.ensures.value ∙ c.in_default.is);
}
