use Rattle.std.proofs.Common.{◌∙◌, sym}
use Rattle.insight_model.specs.Sight.{is_executing_at, is_waiting_at}
use Rattle.insight_model.specs.Hole.{decode_stall, has_in, past_decode, stays_in}
use Rattle.cycle_watch.specs.Facts.{charge_in}
use Rattle.cycle_watch.specs.Known.{kept_of}
use Rattle.cycle_watch.specs.Stages.{kept_in}
use Rattle.cycle_watch.proofs.Holding.{moved_before, moved_own, moved_stall, stays_at}
use Rattle.cycle_watch.proofs.holes.Holes.execute_after.Goals as goal

pub returns-then-has_in : goal.returns-then-has_in
returns-then-has_in g c = record {
  hole = sym (moved_own (has_in is_executing_at (g.S.Watched.sight c.args.side.now).window) (charge_in c.args.self.now.execute) (charge_in c.args.self.now.decode) _ (sym c.has_in.ensures.has ∙ c.if-has_in.true));
}

pub returns-in-Some : goal.returns-in-Some
returns-in-Some g c =
    let last = c.args.last.now in
    let f = c.args.facts.now in
    let w = (g.S.Watched.sight c.args.side.now).window in
    let found = stays_in is_waiting_at (kept_in last f w) in
    let s = stays_at last f w c.in-Some.place found c.requires.kept c.in-Some.ensures.within c.in-Some.ensures.stays in
    record {
      hole =
          c.decode_hole.ensures.hole s.1 s.3
          ∙ sym (moved_stall (has_in is_executing_at w) (charge_in c.args.self.now.execute) (charge_in c.args.self.now.decode) (decode_stall (past_decode w)) found (kept_of s.0 s.1, s.0.miss)
          (sym c.has_in.ensures.has ∙ c.if-has_in.false) s.4);
    }

pub returns-in-None : goal.returns-in-None
returns-in-None g c =
    let w = (g.S.Watched.sight c.args.side.now).window in
    record {
      hole = sym (moved_before (has_in is_executing_at w) (charge_in c.args.self.now.execute) (charge_in c.args.self.now.decode) (decode_stall (past_decode w)) (stays_in is_waiting_at (kept_in c.args.last.now c.args.facts.now w))
          (sym c.has_in.ensures.has ∙ c.if-has_in.false) (sym c.in-None.ensures.stays));
    }
