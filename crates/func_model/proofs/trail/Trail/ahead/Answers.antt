use Rattle.std.proofs.Common.{◌≡◌, ◌&&◌, nat_le, true, false, length, ℕ, sym, ap, ◌∙◌, arith}
use Rattle.std.proofs.lemmas.Grind.{common_steps}
use Rattle.func_model.specs.History.{walk}
use Rattle.func_model.proofs.Seeing.{full_ahead, over_ahead, room_by, step_ahead}
use Rattle.func_model.proofs.Trails.{both_on, left_off, right_off, retired_below, room_ahead}
use Rattle.func_model.proofs.Walking.{stands_output}
use Rattle.func_model.proofs.trail.Trail.ahead.Goals as goal
use Rattle.func_model.proofs.trail.Trail.ahead.Goals.{else-probe-via-else-probe, else-probe-via-then-probe+else-output-self}

pub returns-then-has_ended-clause-ahead : goal.returns-then-has_ended-clause-ahead
returns-then-has_ended-clause-ahead g c = λ s h. over_ahead s c.args.self.now h (sym c.has_ended.ensures.ended ∙ c.if-has_ended.true)

pub probe-probe-requires-clause-count : goal.probe-probe-requires-clause-count
probe-probe-requires-clause-count g c = retired_below c.args.self.now c.requires.standing (sym c.has_ended.ensures.ended ∙ c.if-has_ended.false)

pub probe-probe-requires-clause-room : goal.probe-probe-requires-clause-room
probe-probe-requires-clause-room g c = room_ahead c.args.self.now c.requires.standing

pub returns-then-output-self-clause-ahead : goal.returns-then-output-self-clause-ahead
returns-then-output-self-clause-ahead g c = λ s h.
    let a = walk s c.args.self.now.at in
    let len : length c.output.result.now ≡ length a.output =
    ap (length {A = ℕ}) (c.output.ensures.output ∙ stands_output s a c.probe-probe.new.self (c.probe-probe.ensures.stands s a h.contents)) in
    let is_full : nat_le s.output (length a.output) ≡ true = grind (arith, common_steps, c.if-output-self.true, len, h.limit) in
    full_ahead s c.args.self.now h (sym c.has_ended.ensures.ended ∙ c.if-has_ended.false)
    (room_by s c.args.self.now c.probe-probe.result.has_sent h (c.probe-probe.ensures.sent s a h.contents)
    ∙ both_on (nat_le s.output (length a.output)) c.probe-probe.result.has_sent is_full c.if-probe.true)

pub returns-clause-ahead : goal.returns-clause-ahead
returns-clause-ahead g c = λ s h.
    let a = walk s c.args.self.now.at in
    let has_room : (nat_le s.output (length a.output) && c.probe-probe.result.has_sent) ≡ false = elim c.else-probe.branch [
      | else-probe-via-else-probe w ↦ right_off _ c.probe-probe.result.has_sent w.if-probe.false
      | else-probe-via-then-probe+else-output-self w ↦
          let len : length w.output.result.now ≡ length a.output =
          ap (length {A = ℕ}) (w.output.ensures.output ∙ stands_output s a c.probe-probe.new.self (c.probe-probe.ensures.stands s a h.contents)) in
          let off : nat_le s.output (length a.output) ≡ false = grind (arith, common_steps, w.if-output-self.false, len, h.limit) in
          left_off _ c.probe-probe.result.has_sent off
    ] in
    step_ahead s c.args.self.now c.probe-probe.result.access h (sym c.has_ended.ensures.ended ∙ c.if-has_ended.false)
    (room_by s c.args.self.now c.probe-probe.result.has_sent h (c.probe-probe.ensures.sent s a h.contents) ∙ has_room)
    (c.probe-probe.ensures.access s a h.contents)
