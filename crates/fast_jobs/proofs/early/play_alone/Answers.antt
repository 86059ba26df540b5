use Rattle.std.proofs.Common.{◌≡◌, ℕ, ◌+◌, ◌-◌, ◌≤◌, List, ◌∙◌, sym, subst, arith}
use Rattle.std.proofs.lemmas.Result.{err_from_is_err_and}
use Rattle.mono_model.specs.declared.setup.Setup.{Setup}
use Rattle.mono_model.specs.Alone.{alone}
use Rattle.machine_laws.specs.Output.{GrowsTo}
use Rattle.func_model.specs.Alone.{AloneStandsFor}
use Rattle.func_model.proofs.Pieces.{ended_stays}
use Rattle.fast_jobs.proofs.Putting.{breaks_more, grown_none, puts_more}
use Rattle.fast_jobs.proofs.early.play_alone.Goals as goal

pub loop-left-init : goal.loop-left-init
loop-left-init g c = record {
  within = omega arith;
  count = omega arith;
  standing = c.requires.standing;
  at = λ s is h.
      let e : 0 ≡ c.args.cycles - c.args.cycles = omega arith in
      subst (λ (n : ℕ). AloneStandsFor s n c.args.run.now) e h;
  written = λ s is h. grown_none (g.K.Sink.written c.args.sink.now);
}

-- a run that is over stays as it is in the steps that are left
pub returns-then-is_over-clause-ended : goal.returns-then-is_over-clause-ended
returns-then-is_over-clause-ended g c = λ s is h.
    let e : (c.args.cycles - c.loop-left.left) + c.loop-left.left ≡ c.args.cycles = omega (arith, c.loop-left.invariant.within) in
    subst (λ (n : ℕ). AloneStandsFor s n c.loop-left.run) e
    (ended_stays s (c.args.cycles - c.loop-left.left) c.loop-left.left c.loop-left.run (sym c.is_over.ensures.over ∙ c.if-is_over.true) (c.loop-left.invariant.at s is h))

pub returns-then-is_over-clause-put : goal.returns-then-is_over-clause-put
returns-then-is_over-clause-put g c = λ s is h. (omega arith, c.loop-left.invariant.written s is h)

-- the output after a piece is the beginning of the whole
at_piece : (cycles left steps : ℕ) → left ≤ cycles → steps ≤ left → (cycles - left) + steps ≡ cycles - (left - steps)
at_piece cycles left steps within least = omega (arith, within, least)

pub returns-in_err-put-clause-put : goal.returns-in_err-put-clause-put
returns-in_err-put-clause-put g c = λ s is h.
    let left = err_from_is_err_and c.from_residual.result c.from_residual.ensures.1 in
    let n = (c.args.cycles - c.loop-left.left) + c.min-steps.result in
    let whole : List ℕ = (alone s c.args.cycles).arch.output in
    let there = c.go_on.ensures.stands s (c.args.cycles - c.loop-left.left) (c.loop-left.invariant.at s is h) in
    let grows = subst (λ (o : List ℕ). GrowsTo o whole) (sym (c.output.ensures.output s n there)) (c.output_only_grows.ensures.steps s n c.args.cycles (omega (arith, c.loop-left.invariant.within, c.min-steps.ensures))) in
    rw (left.1) (breaks_more whole c.loop-left.put (g.K.Sink.faults c.args.sink.now) (g.K.Sink.faults c.loop-left.sink) (g.K.Sink.faults c.put_new.new.sink)
    (g.K.Sink.written c.args.sink.now) (g.K.Sink.written c.loop-left.sink) (g.K.Sink.written c.put_new.new.sink)
    (c.loop-left.invariant.written s is h) c.loop-left.invariant.count (c.in_err-put.ensures.put whole grows))

pub loop-left-preserved : goal.loop-left-preserved
loop-left-preserved g c =
    let inv = c.loop-left.invariant in
    let before = c.args.cycles - c.loop-left.left in
    let there = c.go_on.ensures.stands in
    let passes = at_piece c.args.cycles c.loop-left.left c.min-steps.result inv.within (omega (arith, c.min-steps.ensures)) in
    record {
      within = omega (arith, inv.within);
      count = omega (arith, inv.count, c.put_new.ensures.count);
      standing = record { setup = inv.standing.setup; number = inv.standing.number + c.min-steps.result; stands = there inv.standing.setup inv.standing.number inv.standing.stands };
      at = λ s is h. subst (λ (n : ℕ). AloneStandsFor s n c.go_on.new.self) passes (there s before (inv.at s is h));
      written = λ s is h.
          let whole : List ℕ = (alone s c.args.cycles).arch.output in
          let grows = subst (λ (o : List ℕ). GrowsTo o whole) (sym (c.output.ensures.output s (before + c.min-steps.result) (there s before (inv.at s is h))))
          (c.output_only_grows.ensures.steps s (before + c.min-steps.result) c.args.cycles (omega (arith, inv.within, c.min-steps.ensures))) in
          let puts = c.in_ok-put.ensures.put whole grows in
          puts_more whole c.loop-left.put c.in_ok-put.put (g.K.Sink.written c.args.sink.now) (g.K.Sink.written c.loop-left.sink) (g.K.Sink.written c.put_new.new.sink)
          puts.0 (inv.written s is h) puts.1;
    }

pub returns-clause-ended : goal.returns-clause-ended
returns-clause-ended g c = λ s is h.
    let e : c.args.cycles - c.loop-left.left ≡ c.args.cycles = omega (arith, c.loop-left-test.false) in
    subst (λ (n : ℕ). AloneStandsFor s n c.loop-left.run) e (c.loop-left.invariant.at s is h)

pub returns-clause-put : goal.returns-clause-put
returns-clause-put g c = λ s is h. (omega arith, c.loop-left.invariant.written s is h)
