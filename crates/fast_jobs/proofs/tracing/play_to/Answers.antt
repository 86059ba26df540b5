use Rattle.std.proofs.Common.{◌≡◌, ◌∙◌, ◌+◌, ℕ, false, sym, arith}
use borrow.Author.Count.{below_more}
use Rattle.mono_model.specs.Final.{has_ended}
use Rattle.fast_jobs.specs.Played.{sight_at}
use Rattle.fast_jobs.proofs.tracing.play_to.Goals as goal

pub loop-init : goal.loop-init
loop-init g c = record { playing = c.requires.playing; comes = λ s starts. (starts, λ k less. absurd (omega (arith, less))) }

pub returns-then-has_ended : goal.returns-then-has_ended
returns-then-has_ended g c = record {
  comes = λ s starts.
      let i = c.loop.invariant.comes s starts in
      record {
        cycle = c.loop.counter;
        starts = i.0;
        within = omega arith;
        went = i.1;
        ended = λ less. sym (c.has_ended.ensures.ended s c.loop.counter i.0) ∙ c.if-has_ended.true;
      };
}

pub cycle_on-requires : goal.cycle_on-requires
cycle_on-requires g c = record { playing = c.loop.invariant.playing }

pub loop-preserved : goal.loop-preserved
loop-preserved g c =
    let p = c.loop.invariant.playing in
    record {
      playing = record {
        setup = p.setup;
        cycle = p.cycle + 1;
        starts = c.cycle_on.ensures.next p.setup p.cycle p.starts (sym (c.has_ended.ensures.ended p.setup p.cycle p.starts) ∙ c.if-has_ended.false);
      };
      comes = λ s starts.
          let i = c.loop.invariant.comes s starts in
          let n = c.loop.counter in
          let goes : has_ended (sight_at g.M.Played.plays.pipeline s n).end ≡ false = sym (c.has_ended.ensures.ended s n i.0) ∙ c.if-has_ended.false in (
            c.cycle_on.ensures.next s n i.0 goes,
            below_more (λ (k : ℕ). has_ended (sight_at g.M.Played.plays.pipeline s k).end ≡ false) n i.1 goes,
          );
    }

pub returns : goal.returns
returns g c = record {
  comes = λ s starts.
      let i = c.loop.invariant.comes s starts in
      record { cycle = c.loop.counter; starts = i.0; within = omega arith; went = i.1; ended = λ less. absurd (omega (arith, less)) };
}
