use Rattle.std.proofs.Common.{◌≡◌, ◌∙◌, Bool, if◌then◌else◌, option_map, zip, ap, sym}
use Rattle.insight_model.specs.Facts.{Facts}
use Rattle.insight_model.specs.Hole.{Holes, flushed_holes, moved_holes}
use Rattle.cycle_watch.specs.Facts.{charge_in, facts_in}
use Rattle.cycle_watch.specs.Known.{holes_in}
use Rattle.cycle_watch.specs.Stages.{kept_in}
use Rattle.cycle_watch.proofs.Holding.{holes_moved}
use Rattle.cycle_watch.proofs.holes.Holes.after.Goals as goal

pub returns-then-facts : goal.returns-then-facts
returns-then-facts g c = record {
  after = λ before keeps told.
      let f = c.args.facts.now in
      let w = (g.S.Watched.sight c.args.side.now).window in
      let h = holes_in c.args.self in
      sym (holes_moved before (g.S.Watched.sight c.args.side.now) c.args.last.now f h keeps told c.requires.kept
      ∙ ap (λ (b : Bool). if b then h else moved_holes (facts_in before.window w f) (kept_in c.args.last.now f w) w (flushed_holes (option_map charge_in f.flush) h)) c.if-facts.true);
}

pub returns : goal.returns
returns g c = record {
  after = λ before keeps told.
      let f = c.args.facts.now in
      let w = (g.S.Watched.sight c.args.side.now).window in
      let h = holes_in c.args.self in
      let G : Facts = facts_in before.window w f in
      let parts : holes_in (record { decode = c.decode_after.result; execute = c.execute_after.result; memory = c.memory_after.result; write = c.write_after.result })
      ≡ moved_holes G (kept_in c.args.last.now f w) w (holes_in c.flushed_if-holes.result) = λ i. record {
        decode = c.decode_after.ensures.hole i;
        execute = c.execute_after.ensures.hole i;
        memory = c.memory_after.ensures.hole i;
        write = c.write_after.ensures.hole i;
      } in
      parts
      ∙ ap (moved_holes G (kept_in c.args.last.now f w) w) c.flushed_if-holes.ensures.flushed
      ∙ sym (holes_moved before (g.S.Watched.sight c.args.side.now) c.args.last.now f h keeps told c.requires.kept
      ∙ ap (λ (b : Bool). if b then h else moved_holes G (kept_in c.args.last.now f w) w (flushed_holes (option_map charge_in f.flush) h)) c.if-facts.false);
}
