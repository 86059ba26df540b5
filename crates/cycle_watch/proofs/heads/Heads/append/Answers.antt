use Rattle.std.proofs.Common.{◌≡◌, ◌∙◌, ◌≤◌, ◌<◌, ◌+◌, ◌-◌, ◌++◌, ℕ, [], ◌∷◌, ap, drop, length, length-append, take, refl, sym, arith}
use Rattle.insight_model.specs.Sight.{Shown}
use Rattle.cycle_watch.specs.declared.last.LastSight.{LastSight}
use Rattle.cycle_watch.specs.declared.mark.Mark.{Mark}
use Rattle.cycle_watch.specs.declared.shown.Shown.{Shown as ShownInCode}
use Rattle.cycle_watch.specs.Shown.{shown_in}
use Rattle.cycle_watch.proofs.Appending.{all_appended, appended_step, none_appended}
use Rattle.cycle_watch.proofs.heads.Heads.append.Goals as goal

pub loop-place-init : goal.loop-place-init
loop-place-init g c =
    let kept = c.args.facts.now.kept in
    let w = (g.S.Watched.sight c.args.side.now).window in
    let none : kept - kept ≡ 0 = omega arith in
    record {
      count = c.requires.all;
      room = refl;
      appended = λ f tells. none_appended c.args.self.now f (take (kept - kept) (drop kept w)) (ap (λ (n : ℕ). take n (drop kept w)) none);
    }

pub append-requires : goal.append-requires
append-requires g c = record { room = omega (arith, c.loop-place.invariant.count, c.loop-place.invariant.room, c.requires.room) }

pub loop-place-preserved : goal.loop-place-preserved
loop-place-preserved g c =
    let inv = c.loop-place.invariant in
    let w = (g.S.Watched.sight c.args.side.now).window in
    let kept = c.args.facts.now.kept in
    let place = c.loop-place.place in
    let shown = c.shown.result in
    let mark : Mark = record c.new-mark.result { origin = c.origin_at-mark.result } in
    let order : kept ≤ place = omega arith in
    let now = c.loop-place.self in
    let seen : shown_in mark.shown ≡ shown_in shown = ap (λ (s : ShownInCode). shown_in s) c.new-mark.ensures.shown in
    let at = ap (λ (s : ShownInCode). s.addr) c.new-mark.ensures.shown in
    record {
      count =
          ap (λ (l : LastSight). length l.marks.items) c.append.ensures.marks ∙ length-append now.last.marks.items (mark ∷ [])
          ∙ ap (λ (n : ℕ). n + 1) inv.count;
      room = ap (λ (l : LastSight). l.marks.capacity) c.append.ensures.marks ∙ inv.room;
      appended = λ f tells.
          appended_step c.args.self.now f w kept place now (record now { last = c.append.new.self }) mark (shown_in shown) order c.shown.ensures.shown (inv.appended f tells) seen c.new-mark.ensures.miss
          (c.origin_at-mark.ensures.origin f (shown_in shown) tells at) (λ i. record now { last = c.append.ensures.marks i });
    }

pub returns : goal.returns
returns g c = record {
  appended = λ f tells.
      all_appended c.args.self.now c.loop-place.self f (g.S.Watched.sight c.args.side.now).window c.args.facts.now.kept c.loop-place.place (omega arith) (c.loop-place.invariant.appended f tells);
}
