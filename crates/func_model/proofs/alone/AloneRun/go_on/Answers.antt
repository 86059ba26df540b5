use Rattle.std.proofs.Common.{◌≡◌, ◌+◌, sym, ◌∙◌, arith}
use Rattle.mono_model.specs.declared.final_state.End.TheVariants.{Running}
use Rattle.func_model.proofs.Pieces.{ended_stays, piece_ends, retired_made, run_on_at}
use Rattle.func_model.proofs.Trails.{running}
use Rattle.func_model.proofs.alone.AloneRun.go_on.Goals as goal

pub returns-then-has_ended : goal.returns-then-has_ended
returns-then-has_ended g c = record { stands = λ s n h. ended_stays s n c.args.steps c.args.self.now (sym c.has_ended.ensures.ended ∙ c.if-has_ended.true) h }

pub overflow_sub-self : goal.overflow_sub-self
overflow_sub-self g c =
    let is = c.requires.standing in
    let on : c.args.self.now.end ≡ Running = running c.args.self.now.end (sym c.has_ended.ensures.ended ∙ c.if-has_ended.false) in
    omega (arith, is.stands.cycles, is.stands.going on)

pub overflow_add-to : goal.overflow_add-to
overflow_add-to g c =
    let is = c.requires.standing in
    let on : c.args.self.now.end ≡ Running = running c.args.self.now.end (sym c.has_ended.ensures.ended ∙ c.if-has_ended.false) in
    record { fits = omega (arith, c.min.ensures, is.stands.cycles, is.stands.going on, is.stands.bounded) }

pub alone-piece-requires : goal.alone-piece-requires
alone-piece-requires g c =
    let is = c.requires.standing in
    let on : c.args.self.now.end ≡ Running = running c.args.self.now.end (sym c.has_ended.ensures.ended ∙ c.if-has_ended.false) in
    record {
      within = omega arith;
      bounded = omega (arith, c.min.ensures, is.stands.cycles, is.stands.going on, is.stands.bounded);
      retired = retired_made c.args.self.now is;
      taken = is.stands.few on;
      limit = omega (arith, is.stands.limit, is.stands.space);
    }

pub returns : goal.returns
returns g c = record {
  stands = λ s n h.
      let on : c.args.self.now.end ≡ Running = running c.args.self.now.end (sym c.has_ended.ensures.ended ∙ c.if-has_ended.false) in
      let to = c.args.self.now.made + c.min.result in
      let at = c.alone-piece.ensures.stands s (sym h.limit) (omega (arith, c.min.ensures, h.cycles, h.going on)) (run_on_at s n c.args.self.now h on) in
      piece_ends s n c.args.steps to c.args.self.now c.alone-piece.new.self c.alone-piece.result h on (omega (arith, c.min.ensures)) c.alone-piece.ensures.whole c.alone-piece.ensures.few at c.alone-piece.ensures.room
      c.end_left-self.result c.end_left-self.ensures.end;
}
