use Rattle.std.proofs.Common.{◌≡◌, ◌∙◌, ◌≤◌, ◌<◌, ap, refl, sym, arith}
use Rattle.std.specs.Prelude.{length, vec_capacity}
use Rattle.circular_buffer.specs.Buffer.{Buffer}
use Rattle.cycle_watch.specs.declared.last.LastSight.{LastSight}
use Rattle.cycle_watch.specs.declared.mark.Mark.{Mark}
use Rattle.cycle_watch.proofs.Looked.{looked_at_none, looked_capacity, looked_few, looked_keeps, looked_next}
use Rattle.cycle_watch.proofs.last.LastSight.look.Goals as goal

pub loop-place-init : goal.loop-place-init
loop-place-init g c = looked_at_none _ _ (ap (λ (b : Buffer Mark). b.items) c.clear.ensures)

pub append-requires : goal.append-requires
append-requires g c =
    let w = (g.S.Watched.sight c.args.side.now).window in
    let capacity = looked_capacity w c.loop-place.place _ c.loop-place.self c.loop-place.invariant in
    let few = looked_few w c.loop-place.place _ c.loop-place.self c.loop-place.invariant in
    let cleared = ap (λ (b : Buffer Mark). b.capacity) c.clear.ensures in
    record { room = omega (arith, capacity, few, cleared, c.requires.within, c.requires.room.marks) }

pub loop-place-preserved : goal.loop-place-preserved
loop-place-preserved g c =
    looked_next _ _ _ _ c.loop-place.invariant c.append.new.self c.new.result c.shown.result c.shown.ensures.shown c.new.ensures.shown c.append.ensures.marks

pub returns-clause-keeps : goal.returns-clause-keeps
returns-clause-keeps g c =
    let s = g.S.Watched.sight c.args.side.now in
    let cleared = ap (λ (b : Buffer Mark). b.capacity) c.clear.ensures in
    looked_keeps s _ c.loop-place.self c.note.new.self c.loop-place.place c.loop-place.invariant (omega arith) (cleared ∙ c.requires.room.marks)
    (omega (arith, c.clear-2.ensures.capacity, c.requires.room.loads)) c.note.ensures.noted c.note.ensures.marks c.note.ensures.loads c.cycle-self.result c.cycle-self.ensures.cycle

pub returns-clause-pipeline : goal.returns-clause-pipeline
returns-clause-pipeline g c = c.note.ensures.pipeline ∙ ap (λ (l : LastSight). l.pipeline) c.loop-place.invariant.rest

pub returns-clause-params : goal.returns-clause-params
returns-clause-params g c = c.note.ensures.params ∙ ap (λ (l : LastSight). l.params) c.loop-place.invariant.rest
