use Rattle.cycle_watch.proofs.Advanced.{has_advanced}
use Rattle.cycle_watch.proofs.last.LastSight.advance.Goals as goal

pub returns : goal.returns
returns c = record {
  marks = λ mark here.
      has_advanced c.args.self.now c.note_load.new.self c.put_mark.new.self c.args.cycle c.args.place c.mark-mark.result.now mark c.args.shown c.load_made-made.result c.miss_after-miss.result
      c.mark-mark.ensures.mark here c.load_made-made.ensures.made c.miss_after-miss.ensures.miss c.note_load.ensures.loads c.note_load.ensures.room c.note_load.ensures.rest c.put_mark.ensures.marks;
}
