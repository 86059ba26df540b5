use Rattle.std.proofs.Common.{◌≡◌, ◌∙◌, ◌+◌, List, false, sym, arith}
use Rattle.mono_model.specs.Final.{has_ended}
use Rattle.mono_model.proofs.Sound.{setup_facts}
use Rattle.insight_model.specs.Cycles.{Cycle, cycles_from}
use Rattle.insight_laws.proofs.Sights.{EndsInorder}
use Rattle.cycle_watch.specs.Counted.{IsStackOf}
use Rattle.fast_jobs.specs.Played.{sight_at}
use Rattle.fast_jobs.proofs.Watching.{all_told, can_sound, cycles_length, cycles_of, known_of, none_looked, one_looked, one_told, went_there}
use Rattle.fast_jobs.proofs.stacking.stack_cycles.Goals as goal

pub loop-init : goal.loop-init
unfolding cycles_from
loop-init g c = record {
  starts = c.requires.starts;
  looked = none_looked g.M.Played.plays.pipeline c.args.setup.now c.args.stacking.now.heads c.requires.stands;
  counted = c.requires.none;
}

pub returns-then-has_ended : goal.returns-then-has_ended
returns-then-has_ended g c =
    let kind = g.M.Played.plays.pipeline in
    let s = c.args.setup.now in
    let n = c.loop.counter in
    let T : List Cycle → Type 0 = λ run. IsStackOf kind s.params run c.loop.stacking.counts in
    record {
      playing = record { cycle = n; starts = c.loop.invariant.starts };
      counted = all_told kind s n c.loop.stacking.heads T c.loop.invariant.looked (omega arith)
          (λ less. sym (c.has_ended.ensures.ended s n c.loop.invariant.starts) ∙ c.if-has_ended.true) c.loop.invariant.counted;
    }

pub cycle_on-requires : goal.cycle_on-requires
cycle_on-requires g c = record { playing = record { setup = c.args.setup.now; cycle = c.loop.counter; starts = c.loop.invariant.starts } }

pub look-requires : goal.look-requires
look-requires g c =
    let kind = g.M.Played.plays.pipeline in
    let s = c.args.setup.now in
    let n = c.loop.counter in
    let has = c.loop.invariant.looked in
    let once : EndsInorder s = c.run_in_order_ends_once.ensures.ends s (setup_facts s (can_sound kind s c.requires.can)).some_cycle in
    let goes : has_ended (sight_at kind s n).end ≡ false = sym (c.has_ended.ensures.ended s n c.loop.invariant.starts) ∙ c.if-has_ended.false in
    let shown = g.M.Side.Watched.sight c.side.result.now in
    let is : shown ≡ sight_at kind s (n + 1) = c.side.ensures.seen s (n + 1) (c.cycle_on.ensures.next s n c.loop.invariant.starts goes) in
    record {
      standing = record {
        pipeline = kind;
        params = s.params;
        before = sight_at kind s n;
        known = known_of kind s n;
        run = cycles_of kind s n;
        more = 0;
        stands = has.stands;
        counted = c.loop.invariant.counted;
        all = cycles_length kind s n ∙ sym has.cycle;
        went = went_there kind s n shown is c.requires.can once goes;
      };
    }

pub loop-preserved : goal.loop-preserved
loop-preserved g c =
    let kind = g.M.Played.plays.pipeline in
    let s = c.args.setup.now in
    let n = c.loop.counter in
    let has = c.loop.invariant.looked in
    let once : EndsInorder s = c.run_in_order_ends_once.ensures.ends s (setup_facts s (can_sound kind s c.requires.can)).some_cycle in
    let goes : has_ended (sight_at kind s n).end ≡ false = sym (c.has_ended.ensures.ended s n c.loop.invariant.starts) ∙ c.if-has_ended.false in
    let starts = c.cycle_on.ensures.next s n c.loop.invariant.starts goes in
    let shown = g.M.Side.Watched.sight c.side.result.now in
    let is : shown ≡ sight_at kind s (n + 1) = c.side.ensures.seen s (n + 1) starts in
    let went = went_there kind s n shown is c.requires.can once goes in
    let new = c.look.new.self in
    let T : List Cycle → Type 0 = λ run. IsStackOf kind s.params run new.counts in
    record {
      starts = starts;
      looked = one_looked kind s n shown is c.loop.stacking.heads new.heads has went goes
          (c.look.ensures.stands kind s.params (sight_at kind s n) (known_of kind s n) 0 has.stands went);
      counted = one_told kind s n shown is T
          (c.look.ensures.counted kind s.params (sight_at kind s n) (known_of kind s n) 0 (cycles_of kind s n) has.stands went c.loop.invariant.counted);
    }

pub returns : goal.returns
returns g c =
    let kind = g.M.Played.plays.pipeline in
    let s = c.args.setup.now in
    let n = c.loop.counter in
    let T : List Cycle → Type 0 = λ run. IsStackOf kind s.params run c.loop.stacking.counts in
    record {
      playing = record { cycle = n; starts = c.loop.invariant.starts };
      counted = all_told kind s n c.loop.stacking.heads T c.loop.invariant.looked (omega arith) (λ less. absurd (omega (arith, less))) c.loop.invariant.counted;
    }
