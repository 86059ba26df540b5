use Rattle.std.proofs.Common.{if◌then◌else◌, Option, Some, None, true, refl, ap, ◌∙◌}
use Rattle.trace_entry.specs.declared.Entry.{Entry}
use Rattle.time_model.specs.declared.telling.Telling.{Telling}
use Rattle.time_model.specs.Feeding.{holding}
use Rattle.time_model.proofs.Sides.{may_try}
use Rattle.time_model.proofs.Feeding.{wanting, holding_free, try_due}
use Rattle.time_model.proofs.state.TimingState.attempt_at_once.Goals as goal

pub fetch-requires : goal.fetch-requires
fetch-requires g c =
    let w = wanting g.P.Pipeline.piped g.met.P.Pipeline.laws c.args.self.now c.requires.wants in
    record { tries = may_try g.P.Pipeline.piped g.met.P.Pipeline.laws (holding c.args.entry.now c.args.self.now) c.requires.standing w.told (holding_free g.P.Pipeline.piped g.met.P.Pipeline.laws c.args.entry.now c.args.self.now) w.try c.args.entry.now refl }

pub returns-in_default-clause-due : goal.returns-in_default-clause-due
returns-in_default-clause-due g c =
    let w = wanting g.P.Pipeline.piped g.met.P.Pipeline.laws c.args.self.now c.requires.wants in
    try_due g.P.Pipeline.piped g.met.P.Pipeline.laws c.args.entry.now (holding c.args.entry.now c.args.self.now) (record c.args.self.now { pipeline = c.fetch.new.self; at = c.fetch.new.next })
    (record { orders = record { first = None; second = None }; appended = true }) w.told (holding_free g.P.Pipeline.piped g.met.P.Pipeline.laws c.args.entry.now c.args.self.now) w.try refl c.in_default.ensures.gone.fetched w.none

pub returns-in_default-clause-free : goal.returns-in_default-clause-free
returns-in_default-clause-free g c = (wanting g.P.Pipeline.piped g.met.P.Pipeline.laws c.args.self.now c.requires.wants).none

pub returns-clause-due : goal.returns-clause-due
returns-clause-due g c =
    let w = wanting g.P.Pipeline.piped g.met.P.Pipeline.laws c.args.self.now c.requires.wants in
    try_due g.P.Pipeline.piped g.met.P.Pipeline.laws c.args.entry.now (holding c.args.entry.now c.args.self.now) (record { pipeline = c.fetch.new.self; at = c.fetch.new.next; telling = c.keep.new.self })
    c.in-Some.fetched w.told (holding_free g.P.Pipeline.piped g.met.P.Pipeline.laws c.args.entry.now c.args.self.now) w.try refl c.in-Some.ensures.fetched
    (ap (λ (t : Telling). t.held) c.keep.ensures.kept ∙ ap (λ (o : Option Entry). if c.in-Some.fetched.appended then o else Some c.args.entry.now) w.none)
