use Rattle.std.proofs.Common.{◌≡◌, ◌∙◌, ◌≤◌, ◌<◌, ◌-◌, ℕ, length, drop, map, take, refl, sym, ap, subst, arith}
use Rattle.std.specs.Prelude.{vec_capacity}
use Rattle.circular_buffer.specs.Buffer.{Buffer, keep_last}
use Rattle.insight_model.specs.Sight.{Sight}
use Rattle.cycle_watch.specs.declared.facts.Facts.{Facts as FactsInCode}
use Rattle.cycle_watch.specs.declared.last.LastSight.{LastSight}
use Rattle.cycle_watch.specs.declared.mark.Mark.{Mark}
use Rattle.cycle_watch.specs.Facts.{MayPassTo, access_in}
use Rattle.cycle_watch.specs.Known.{misses_in, origins_in}
use Rattle.cycle_watch.proofs.Passed.{PassedSoFar}
use Rattle.cycle_watch.proofs.PassedAll.{loads_all, misses_all, origins_all, window_all}
use Rattle.cycle_watch.proofs.Passing.{has_passed, is_still, is_there, kept_last, kept_were, load_room, none_passed, one_passed, told_cycle, was_there}
use Rattle.cycle_watch.proofs.last.LastSight.pass.Goals as goal

-- what the two cuts leave
cut_is : (old : LastSight) (after : Sight) (f : FactsInCode) (others : ℕ) (front back : Buffer Mark) → MayPassTo old after f → others ≡ length old.marks.items - f.left →
    front.items ≡ keep_last others old.marks.items → back.items ≡ take f.kept front.items → back.items ≡ take f.kept (drop f.left old.marks.items)
cut_is old after f others front back may is cut rest =
    rest ∙ ap (take f.kept) (cut ∙ kept_last old.marks.items f.left others (omega (arith, kept_were old after f may)) is)

pub overflow_sub-others : goal.overflow_sub-others
overflow_sub-others g c = omega (arith, kept_were c.args.self.now (g.S.Watched.sight c.args.side.now) c.args.facts.now c.requires.follows)

pub overflow_add-self : goal.overflow_add-self
overflow_add-self g c =
    let may = c.requires.follows in
    let same = told_cycle may.before (g.S.Watched.sight c.args.side.now) c.args.facts.now may.told in
    omega (arith, same, may.small)

pub loop-place-init : goal.loop-place-init
loop-place-init g c = none_passed _ _ _ c.clear.ensures.items

pub pass_mark-requires : goal.pass_mark-requires
pass_mark-requires g c =
    let old = c.args.self.now in
    let after = g.S.Watched.sight c.args.side.now in
    let f = c.args.facts.now in
    let may = c.requires.follows in
    let cut =
    cut_is old after f (c.len.result - f.left) c.truncate_front.new.self c.truncate_back.new.self may (ap (λ (n : ℕ). n - f.left) c.len.ensures.len)
    (ap (λ (b : Buffer Mark). b.items) c.truncate_front.ensures) (ap (λ (b : Buffer Mark). b.items) c.truncate_back.ensures) in
    let was : LastSight = record old { marks = c.truncate_back.new.self; loads = c.clear.new.self } in
    let room : 256 ≤ vec_capacity was.loads = omega (arith, c.clear.ensures.capacity, may.keeps.room.loads) in
    let now = c.loop-place.self in
    let s = c.loop-place.invariant in
    let below : c.loop-place.place < f.kept = omega arith in
    record {
      before = was_there old was after f may cut room c.loop-place.place now s below;
      after = is_there old was after f may cut room c.loop-place.place now s below;
      room = load_room old was after f may cut room c.loop-place.place now s below;
      still = is_still old was after f may cut room c.loop-place.place now s below;
    }

pub loop-place-preserved : goal.loop-place-preserved
loop-place-preserved g c =
    let old = c.args.self.now in
    let after = g.S.Watched.sight c.args.side.now in
    let f = c.args.facts.now in
    let may = c.requires.follows in
    let cut =
    cut_is old after f (c.len.result - f.left) c.truncate_front.new.self c.truncate_back.new.self may (ap (λ (n : ℕ). n - f.left) c.len.ensures.len)
    (ap (λ (b : Buffer Mark). b.items) c.truncate_front.ensures) (ap (λ (b : Buffer Mark). b.items) c.truncate_back.ensures) in
    let was : LastSight = record old { marks = c.truncate_back.new.self; loads = c.clear.new.self } in
    let room : 256 ≤ vec_capacity was.loads = omega (arith, c.clear.ensures.capacity, may.keeps.room.loads) in
    let below : c.loop-place.place < f.kept = omega arith in
    one_passed old was after f may cut room c.loop-place.place c.loop-place.self c.loop-place.invariant below c.pass_mark.new.self c.pass_mark.ensures.marks

pub returns : goal.returns
returns g c =
    let old = c.args.self.now in
    let after = g.S.Watched.sight c.args.side.now in
    let f = c.args.facts.now in
    let may = c.requires.follows in
    let cut =
    cut_is old after f (c.len.result - f.left) c.truncate_front.new.self c.truncate_back.new.self may (ap (λ (n : ℕ). n - f.left) c.len.ensures.len)
    (ap (λ (b : Buffer Mark). b.items) c.truncate_front.ensures) (ap (λ (b : Buffer Mark). b.items) c.truncate_back.ensures) in
    let was : LastSight = record old { marks = c.truncate_back.new.self; loads = c.clear.new.self } in
    let room : 256 ≤ vec_capacity was.loads = omega (arith, c.clear.ensures.capacity, may.keeps.room.loads) in
    let capacity : was.marks.capacity ≡ 256 =
    ap (λ (b : Buffer Mark). b.capacity) c.truncate_back.ensures ∙ ap (λ (b : Buffer Mark). b.capacity) c.truncate_front.ensures ∙ may.keeps.room.marks in
    let now = c.loop-place.self in
    let all : c.loop-place.place ≡ f.kept = omega arith in
    let P : ℕ → Type 0 = λ n. PassedSoFar after.window f.cycle n was now in
    let s = subst P all c.loop-place.invariant in
    record {
      passed = λ before keeps follows told.
          has_passed before after was now c.note.new.self f told s (window_all before after old was now f keeps follows told cut refl refl s) capacity room
          c.note.ensures.noted c.note.ensures.marks c.note.ensures.loads;
      misses = λ before keeps follows told.
          ap (λ (b : Buffer Mark). misses_in b.items) c.note.ensures.marks ∙ misses_all before after old was now f keeps follows told cut refl refl s;
      origins =
          ap (λ (b : Buffer Mark). origins_in b.items) c.note.ensures.marks
          ∙ origins_all may.before after old was now f may.keeps may.follows may.told cut refl refl s;
      loads = λ before keeps follows told.
          (λ i. map access_in (c.note.ensures.loads i).items) ∙ loads_all before after old was now f keeps follows told cut refl refl s;
      pipeline = c.note.ensures.pipeline ∙ ap (λ (l : LastSight). l.pipeline) s.rest;
      params = c.note.ensures.params ∙ ap (λ (l : LastSight). l.params) s.rest;
    }
