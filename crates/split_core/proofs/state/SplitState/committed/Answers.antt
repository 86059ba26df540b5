use Rattle.std.proofs.Common.{rules, ◌≡◌, length, ap, sym, ◌∙◌}
use Rattle.func_model.specs.declared.side.Arch.{Arch}
use Rattle.func_model.specs.Side.{reported_of}
use Rattle.side_laws.specs.Along.{MayObey}
use Rattle.split_core.proofs.Reporting.{can_stop, holds_committed, reports}
use Rattle.rollback_cmds.specs.declared.order.Order.TheVariants.{Stop}
use Rattle.split_core.proofs.state.SplitState.committed.Goals as goal

pub obey-requires : goal.obey-requires
obey-requires g c =
    let func = c.args.self.now.func in
    let can : MayObey (Stop c.committed-number.result) func =
    rw c.committed-number.ensures.number (can_stop g.T.Timing.timed g.met.T.Timing.laws c.args.self.now c.requires.boundary.standing) in
    record {
      reach = can.reach;
      from = can.from;
      room = can.room;
      number = can.number;
      position = can.position;
      epoch = can.epoch;
      within = can.within;
    }

pub returns-clause-reported : goal.returns-clause-reported
returns-clause-reported g c = λ s x sound reached h at.
    let whole : length c.arch-arch.result.regs ≡ 32 = search rules in
    c.reported.ensures.reported
    ∙ ap (λ (a : Arch). reported_of c.end.result c.stats.result a) c.arch-arch.ensures.arch
    ∙ reports g.T.Timing.timed g.met.T.Timing.laws s x c.obey.new.self c.end.result c.stats.result sound reached at
    (holds_committed g.T.Timing.timed g.met.T.Timing.laws s x c.args.self.now c.obey.new.self c.committed-number.result sound reached h at c.committed-number.ensures.number c.obey.ensures.stands c.obey.ensures.moved)
    (ap (λ (a : Arch). length a.regs) (sym c.arch-arch.ensures.arch) ∙ whole)
    (c.end.ensures.end s x.steps h.time)
    (c.stats.ensures.stats s x.steps h.time)

pub returns-clause-contents : goal.returns-clause-contents
returns-clause-contents g c = λ s x sound reached h at.
    holds_committed g.T.Timing.timed g.met.T.Timing.laws s x c.args.self.now c.obey.new.self c.committed-number.result sound reached h at c.committed-number.ensures.number c.obey.ensures.stands c.obey.ensures.moved
