use Rattle.std.proofs.Common.{◌≡◌, ◌<◌, ◌^◌, arith}
use Rattle.mono_model.proofs.Sound.{setup_facts}
use Rattle.instruction_count.proofs.Counting.{counts_all, counts_more, counts_over, counts_start}
use Rattle.instruction_count.proofs.counts.InstructionCounts.of_run.Goals as goal

pub loop-init : goal.loop-init
loop-init g c = counts_start c.args.setup.now c.in_ok-counts.counts c.in_ok-run.run' c.in_ok-run.ensures.stands c.in_ok-run.ensures.start c.in_ok-counts.ensures.nothing

pub step-requires : goal.step-requires
step-requires g c = record { standing = record { setup = c.args.setup.now; stands = c.loop.invariant.stands } }

pub note-requires : goal.note-requires
note-requires g c = record { each = c.loop.invariant.counted.each }

pub returns-in-None : goal.returns-in-None
returns-in-None g c = record {
  counts = counts_over c.args.setup.now c.loop.counter c.loop.counts c.loop.run c.step.new.self c.loop.invariant c.loop-test.true (c.in-None.ensures.told c.args.setup.now c.loop.invariant.stands);
}

pub loop-preserved : goal.loop-preserved
loop-preserved g c =
    let s = c.args.setup.now in
    let facts = setup_facts s c.requires.sound in
    let bounded : c.loop.counter < 2 ^ 63 = omega (arith, c.loop-test.true, facts.cycles) in
    counts_more s c.loop.counter c.loop.counts c.note.new.self c.loop.run c.step.new.self c.in-Some.executed c.loop.invariant bounded (c.in-Some.ensures.told s c.loop.invariant.stands)
    (λ x few tells are. c.note.ensures.noted s.image _ x few tells are)

pub returns : goal.returns
returns g c = record {
  counts =
      let all : c.loop.counter ≡ c.args.setup.now.cycles = omega (arith, c.loop-test.false, c.loop.auto.counter-end) in
      counts_all c.args.setup.now c.loop.counter c.loop.counts c.loop.run c.loop.invariant all;
}
