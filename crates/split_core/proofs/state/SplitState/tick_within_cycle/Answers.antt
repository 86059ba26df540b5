use Rattle.std.proofs.Common.{rules, ◌≡◌, true, false}
use Rattle.split_core.proofs.Ticking.{made_within, left_out}
use Rattle.split_core.proofs.state.SplitState.tick_within_cycle.Goals as goal

pub returns-then-not-at_boundary : goal.returns-then-not-at_boundary
returns-then-not-at_boundary g c = record {
  stepped = λ s x sound reached h.
      let off : c.at_boundary.result ≡ false = search rules in
      made_within g.T.Timing.timed g.met.T.Timing.laws s x c.tick.new.self reached c.at_boundary.result (c.at_boundary.ensures.boundary s x.steps h.time) off
      (c.tick.ensures.stepped s x sound reached h);
}

pub returns-else-not-at_boundary : goal.returns-else-not-at_boundary
returns-else-not-at_boundary g c = record {
  stepped = λ s x sound reached h.
      let on : c.at_boundary.result ≡ true = search rules in
      left_out g.T.Timing.timed g.met.T.Timing.laws s x c.args.self.now reached c.at_boundary.result (c.at_boundary.ensures.boundary s x.steps h.time) on h;
}
