use Rattle.std.proofs.Common.{◌≡◌, ◌&&◌, nat_le, true, false, length, None, refl, sym, ◌∙◌, subst, arith}
use Rattle.std.proofs.lemmas.Grind.{common_steps}
use Rattle.func_model.specs.declared.trail.Trail.{Trail}
use Rattle.func_model.specs.Contents.{output_in}
use Rattle.func_model.specs.History.{walk, step_seq}
use Rattle.func_model.specs.Trail.{IsTold}
use Rattle.func_model.proofs.Trails.{Going, sent_one, retired_below, room_ahead, stopped_full, fenced, noted, both_on, left_off, right_off}
use Rattle.func_model.proofs.trail.Trail.step_by_call.Goals as goal
use Rattle.func_model.proofs.trail.Trail.step_by_call.Goals.{else-made-via-else-made, else-made-via-then-made+else-output-self}

pub make-made-requires-clause-count : goal.make-made-requires-clause-count
make-made-requires-clause-count g c = retired_below c.args.self.now c.requires.standing c.requires.going

pub make-made-requires-clause-room : goal.make-made-requires-clause-room
make-made-requires-clause-room g c = room_ahead c.args.self.now c.requires.standing

pub returns-then-output-self : goal.returns-then-output-self
returns-then-output-self g c = record {
  told = λ s h.
      let trail : Trail g.row.D.Denot = c.args.self.now in
      let one = sent_one s trail c.make-made.result c.make-made.new.self h (c.make-made.ensures.made s (walk s trail.at) h.contents) (c.make-made.ensures.stands s (walk s trail.at) h.contents) c.if-made.true in
      let is_full : nat_le trail.limit (length (output_in trail.contents)) ≡ true = grind (arith, common_steps, c.if-output-self.true, c.output.ensures.output, one) in
      let going : Going s trail (nat_le trail.limit (length (output_in trail.contents))) c.make-made.result = record {
        stands = h;
        going = c.requires.going;
        full = refl;
        made_is = c.make-made.ensures.made s (walk s trail.at) h.contents;
      } in
      stopped_full s trail _ c.make-made.result c.unmake.new.self going (both_on _ c.make-made.result.has_sent is_full c.if-made.true)
      (c.unmake.ensures.stands s (step_seq s trail.at (walk s trail.at)) (c.make-made.ensures.stands s (walk s trail.at) h.contents))
      (c.unmake.ensures.room ∙ c.make-made.ensures.room);
}

pub returns-then-made-2 : goal.returns-then-made-2
returns-then-made-2 g c = record {
  told = λ s h.
      let trail : Trail g.row.D.Denot = c.args.self.now in
      let has_room : (nat_le trail.limit (length (output_in trail.contents)) && c.make-made.result.has_sent) ≡ false = elim c.else-made.branch [
        | else-made-via-else-made w ↦ right_off _ c.make-made.result.has_sent w.if-made.false
        | else-made-via-then-made+else-output-self w ↦
            let one = sent_one s trail c.make-made.result c.make-made.new.self h (c.make-made.ensures.made s (walk s trail.at) h.contents) (c.make-made.ensures.stands s (walk s trail.at) h.contents) w.if-made.true in
            let off : nat_le trail.limit (length (output_in trail.contents)) ≡ false = grind (arith, common_steps, w.if-output-self.false, w.output.ensures.output, one) in
            left_off _ c.make-made.result.has_sent off
      ] in
      let going : Going s trail (nat_le trail.limit (length (output_in trail.contents))) c.make-made.result = record {
        stands = h;
        going = c.requires.going;
        full = refl;
        made_is = c.make-made.ensures.made s (walk s trail.at) h.contents;
      } in
      subst (λ (x : Trail g.row.D.Denot). IsTold s trail x None) (sym c.sync.ensures.others)
      (fenced s trail _ c.make-made.result c.end_behind-self.result c.sync.new.self.contents going has_room c.end_behind-self.ensures.end c.if-made-2.true
      (c.sync.ensures.contents s (step_seq s trail.at (walk s trail.at)) (c.make-made.ensures.stands s (walk s trail.at) h.contents))
      (c.sync.ensures.room ∙ c.make-made.ensures.room));
}

pub returns : goal.returns
returns g c = record {
  told = λ s h.
      let trail : Trail g.row.D.Denot = c.args.self.now in
      let has_room : (nat_le trail.limit (length (output_in trail.contents)) && c.make-made.result.has_sent) ≡ false = elim c.else-made.branch [
        | else-made-via-else-made w ↦ right_off _ c.make-made.result.has_sent w.if-made.false
        | else-made-via-then-made+else-output-self w ↦
            let one = sent_one s trail c.make-made.result c.make-made.new.self h (c.make-made.ensures.made s (walk s trail.at) h.contents) (c.make-made.ensures.stands s (walk s trail.at) h.contents) w.if-made.true in
            let off : nat_le trail.limit (length (output_in trail.contents)) ≡ false = grind (arith, common_steps, w.if-output-self.false, w.output.ensures.output, one) in
            left_off _ c.make-made.result.has_sent off
      ] in
      let going : Going s trail (nat_le trail.limit (length (output_in trail.contents))) c.make-made.result = record {
        stands = h;
        going = c.requires.going;
        full = refl;
        made_is = c.make-made.ensures.made s (walk s trail.at) h.contents;
      } in
      subst (λ (x : Trail g.row.D.Denot). IsTold s trail x None) (sym c.note.ensures.noted)
      (noted s trail _ c.make-made.result c.end_behind-self.result c.make-made.new.self going has_room c.end_behind-self.ensures.end c.if-made-2.false
      c.make-made.ensures.restorable (c.make-made.ensures.stands s (walk s trail.at) h.contents) c.make-made.ensures.room);
}
