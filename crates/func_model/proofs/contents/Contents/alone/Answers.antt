use Rattle.std.proofs.Common.{arith, refl, subst, ◌∙◌, ◌≡◌, ◌<◌, ◌≤◌, ◌+◌, ℕ}
use Rattle.mono_model.specs.Final.{end_of}
use Rattle.mono_model.specs.declared.final_state.End.TheVariants as end
use Rattle.mono_model.specs.declared.setup.Setup.{Setup}
use Rattle.mono_model.specs.Alone.{alone}
use Rattle.func_model.specs.Contents.{GoesOn, before}
use Rattle.func_model.specs.Alone.{IsOnAt}
use Rattle.func_model.specs.declared.performed.Stepped.TheVariants.{On}
use Rattle.func_model.proofs.Running.{Steps, runs_on, runs_full, runs_ended, rests, end_has_ended, stays, retires}
use Rattle.func_model.proofs.contents.Contents.alone.Given as given
use Rattle.func_model.proofs.contents.Contents.alone.Goals as goal

-- src/side.rt:129:9
pub loop-made-init : goal.loop-made-init
loop-made-init g c = record {
  retired_bound = c.requires.retired;
  count_bound = c.requires.taken;
  room = refl;
  running = λ s fits within at. at;
}

-- src/side.rt:130:13
pub overflow_add-interrupts : goal.overflow_add-interrupts
overflow_add-interrupts g c = record { fits = omega (arith, c.loop-made.invariant.count_bound, c.interrupt-interrupts.ensures.one, c.loop-made-test.true, c.requires.bounded) }

pub advance_plain-requires : goal.advance_plain-requires
advance_plain-requires g c = record { count = omega (arith, c.loop-made.invariant.retired_bound, c.interrupt-interrupts.ensures.retired, c.loop-made-test.true, c.requires.bounded) }

-- src/side.rt:131:19
pub advance-requires : goal.advance-requires
advance-requires g c = record {
  count = omega (arith, retires (c.advance_plain.ensures.unchanged c.if-advance_plain.false), c.loop-made.invariant.retired_bound, c.interrupt-interrupts.ensures.retired, c.loop-made-test.true, c.requires.bounded);
  limit = omega (arith, c.requires.limit, c.advance_plain.ensures.room, c.interrupt-interrupts.ensures.room, c.loop-made.invariant.room);
}

-- the contracts of a step, in a run
steps_full : (g : given.Over) (c : goal.In-Full g) (s : Setup) → s.output ≡ c.args.limit → Steps s c.loop-made.made c.interrupt-interrupts.result c.advance.result c.loop-made.self c.advance_plain.new.self c.advance.new.self
steps_full g c s fits = record {
  pending = c.interrupt-interrupts.ensures.pending s;
  interrupted = λ a h. stays s (before c.loop-made.made a) c.interrupt-interrupts.new.self c.advance_plain.new.self (c.advance_plain.ensures.unchanged c.if-advance_plain.false) (c.interrupt-interrupts.ensures.stands s a h);
  stepped = λ a. c.advance.ensures.stepped s a fits;
  stands = λ a. c.advance.ensures.stands s a fits;
}

steps_ended : (g : given.Over) (c : goal.In-Ended g) (s : Setup) → s.output ≡ c.args.limit → Steps s c.loop-made.made c.interrupt-interrupts.result c.advance.result c.loop-made.self c.advance_plain.new.self c.advance.new.self
steps_ended g c s fits = record {
  pending = c.interrupt-interrupts.ensures.pending s;
  interrupted = λ a h. stays s (before c.loop-made.made a) c.interrupt-interrupts.new.self c.advance_plain.new.self (c.advance_plain.ensures.unchanged c.if-advance_plain.false) (c.interrupt-interrupts.ensures.stands s a h);
  stepped = λ a. c.advance.ensures.stepped s a fits;
  stands = λ a. c.advance.ensures.stands s a fits;
}

steps_on : (g : given.Over) (c : goal.In-On g) (s : Setup) → s.output ≡ c.args.limit → Steps s c.loop-made.made c.interrupt-interrupts.result c.advance.result c.loop-made.self c.advance_plain.new.self c.advance.new.self
steps_on g c s fits = record {
  pending = c.interrupt-interrupts.ensures.pending s;
  interrupted = λ a h. stays s (before c.loop-made.made a) c.interrupt-interrupts.new.self c.advance_plain.new.self (c.advance_plain.ensures.unchanged c.if-advance_plain.false) (c.interrupt-interrupts.ensures.stands s a h);
  stepped = λ a. c.advance.ensures.stepped s a fits;
  stands = λ a. c.advance.ensures.stands s a fits;
}

-- the same where it is executed before any call that may come to a device
goes : (g : given.Over) (c : goal.Then-advance_plain g) → GoesOn c.loop-made.made c.interrupt-interrupts.new.self c.advance_plain.new.self
goes g c = c.advance_plain.ensures.on c.if-advance_plain.true

steps_plain : (g : given.Over) (c : goal.Then-advance_plain g) (s : Setup) → Steps s c.loop-made.made c.interrupt-interrupts.result On c.loop-made.self c.interrupt-interrupts.new.self c.advance_plain.new.self
steps_plain g c s = record {
  pending = c.interrupt-interrupts.ensures.pending s;
  interrupted = c.interrupt-interrupts.ensures.stands s;
  stepped = (goes g c).stepped s;
  stands = (goes g c).stands s;
}

below : (made to cycles : ℕ) → made < to → to ≤ cycles → made < cycles
below made to cycles under within = omega arith

one_more : (made to : ℕ) → made < to → made + 1 ≤ to
one_more made to under = omega arith

-- src/side.rt:133:34
pub returns-in-Full-clause-stands : goal.returns-in-Full-clause-stands
returns-in-Full-clause-stands g c = λ s fits within at.
    let stopped = runs_full s c.loop-made.made c.loop-made.interrupts c.interrupt-interrupts.result c.advance.result c.loop-made.self c.advance_plain.new.self c.advance.new.self
    (below c.loop-made.made c.args.to s.cycles c.loop-made-test.true within) (c.loop-made.invariant.running s fits within at) (steps_full g c s fits) c.in-Full.is in
    rests s c.args.to c.loop-made.made c.loop-made.made (c.loop-made.interrupts + c.interrupt-interrupts.result) end.OutputFull c.advance.new.self
    (one_more c.loop-made.made c.args.to c.loop-made-test.true) refl stopped

pub returns-in-Full-clause-room : goal.returns-in-Full-clause-room
returns-in-Full-clause-room g c =
    c.advance.ensures.room ∙ c.advance_plain.ensures.room ∙ c.interrupt-interrupts.ensures.room ∙ c.loop-made.invariant.room

pub returns-in-Full-clause-whole : goal.returns-in-Full-clause-whole
returns-in-Full-clause-whole g c = λ on. cc

pub returns-in-Full-clause-few : goal.returns-in-Full-clause-few
returns-in-Full-clause-few g c = λ on. cc

-- src/side.rt:134:41
pub returns-in-Ended-clause-stands : goal.returns-in-Ended-clause-stands
returns-in-Ended-clause-stands g c = λ s fits within at.
    let stopped = runs_ended s c.loop-made.made c.loop-made.interrupts c.interrupt-interrupts.result c.in-Ended.halt c.advance.result c.loop-made.self c.advance_plain.new.self c.advance.new.self
    (below c.loop-made.made c.args.to s.cycles c.loop-made-test.true within) (c.loop-made.invariant.running s fits within at) (steps_ended g c s fits) c.in-Ended.is in
    rests s c.args.to c.loop-made.made (c.loop-made.made + 1) (c.loop-made.interrupts + c.interrupt-interrupts.result) (end_of c.in-Ended.halt) c.advance.new.self
    (one_more c.loop-made.made c.args.to c.loop-made-test.true) (end_has_ended c.in-Ended.halt) stopped

pub returns-in-Ended-clause-room : goal.returns-in-Ended-clause-room
returns-in-Ended-clause-room g c =
    c.advance.ensures.room ∙ c.advance_plain.ensures.room ∙ c.interrupt-interrupts.ensures.room ∙ c.loop-made.invariant.room

-- src/side.rt:129:9
pub loop-made-preserved : goal.loop-made-preserved
loop-made-preserved g c = record {
  retired_bound = omega (arith, retires (c.advance_plain.ensures.unchanged c.if-advance_plain.false), c.advance.ensures.bound, c.interrupt-interrupts.ensures.retired, c.loop-made.invariant.retired_bound);
  count_bound = omega (arith, c.loop-made.invariant.count_bound, c.interrupt-interrupts.ensures.one);
  room = c.advance.ensures.room ∙ c.advance_plain.ensures.room ∙ c.interrupt-interrupts.ensures.room ∙ c.loop-made.invariant.room;
  running = λ s fits within at. runs_on s c.loop-made.made c.loop-made.interrupts c.interrupt-interrupts.result c.advance.result c.loop-made.self c.advance_plain.new.self c.advance.new.self
      (below c.loop-made.made c.args.to s.cycles c.loop-made-test.true within) (c.loop-made.invariant.running s fits within at) (steps_on g c s fits) c.in-On.is;
}

pub loop-made-preserved-then-advance_plain : goal.loop-made-preserved-then-advance_plain
loop-made-preserved-then-advance_plain g c = record {
  retired_bound = omega (arith, (goes g c).bound, c.interrupt-interrupts.ensures.retired, c.loop-made.invariant.retired_bound);
  count_bound = omega (arith, c.loop-made.invariant.count_bound, c.interrupt-interrupts.ensures.one);
  room = c.advance_plain.ensures.room ∙ c.interrupt-interrupts.ensures.room ∙ c.loop-made.invariant.room;
  running = λ s fits within at. runs_on s c.loop-made.made c.loop-made.interrupts c.interrupt-interrupts.result On c.loop-made.self c.interrupt-interrupts.new.self c.advance_plain.new.self
      (below c.loop-made.made c.args.to s.cycles c.loop-made-test.true within) (c.loop-made.invariant.running s fits within at) (steps_plain g c s) refl;
}

pub returns-in-Ended-clause-whole : goal.returns-in-Ended-clause-whole
returns-in-Ended-clause-whole g c = λ on. cc

pub returns-in-Ended-clause-few : goal.returns-in-Ended-clause-few
returns-in-Ended-clause-few g c = λ on. cc

reached : (made to : ℕ) → made ≤ to → to ≤ made → made ≡ to
reached made to most least = omega arith

-- src/side.rt:121:5
pub returns-clause-stands : goal.returns-clause-stands
returns-clause-stands g c = λ s fits within at.
    let all : c.loop-made.made ≡ c.args.to = reached c.loop-made.made c.args.to (c.loop-made.auto.made-end c.requires.within) c.loop-made-test.false in
    let P : ℕ → Type 0 = λ k. IsOnAt s (alone s k) k c.loop-made.interrupts c.loop-made.self in
    subst P all (c.loop-made.invariant.running s fits within at)

pub returns-clause-few : goal.returns-clause-few
returns-clause-few g c = λ on.
    omega (arith, c.loop-made.invariant.count_bound, reached c.loop-made.made c.args.to (c.loop-made.auto.made-end c.requires.within) c.loop-made-test.false)
