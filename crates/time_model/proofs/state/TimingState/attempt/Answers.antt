use Rattle.std.proofs.Common.{None, true, rules, sym, ap, ◌∙◌}
use Rattle.std.specs.Option.{option_copied}
use Rattle.time_model.specs.declared.telling.Telling.{Telling}
use Rattle.time_model.specs.Turning.{placed}
use Rattle.time_model.proofs.Sides.{try_holds, may_try}
use Rattle.time_model.proofs.Feeding.{try_due}
use Rattle.time_model.proofs.state.TimingState.attempt.Goals as goal

pub unwrap-entry-requires : goal.unwrap-entry-requires
unwrap-entry-requires g c =
    let st = c.requires.standing in
    let some = try_holds g.P.Pipeline.piped g.met.P.Pipeline.laws st.setup st.steps (placed c.args.next.now c.args.self.now) st.stands c.requires.free c.requires.holds c.requires.tries in
    search rules

pub fetch-requires : goal.fetch-requires
fetch-requires g c = record {
  tries = may_try g.P.Pipeline.piped g.met.P.Pipeline.laws (placed c.args.next.now c.args.self.now) c.requires.standing c.requires.free c.requires.holds c.requires.tries c.unwrap-entry.result.now
      (sym c.as_ref.ensures.value ∙ ap option_copied c.unwrap-entry.ensures);
}

pub returns-in-Some-clause-due : goal.returns-in-Some-clause-due
returns-in-Some-clause-due g c =
    try_due g.P.Pipeline.piped g.met.P.Pipeline.laws c.unwrap-entry.result.now (placed c.args.next.now c.args.self.now)
    (record { pipeline = c.fetch.new.self; at = c.fetch.new.next; telling = c.spend.new.self }) c.in-Some.fetched
    c.requires.free c.requires.holds c.requires.tries (sym c.as_ref.ensures.value ∙ ap option_copied c.unwrap-entry.ensures) c.in-Some.ensures.fetched (ap (λ (t : Telling). t.held) c.spend.ensures.spent)

pub returns-in-None-clause-due : goal.returns-in-None-clause-due
returns-in-None-clause-due g c =
    try_due g.P.Pipeline.piped g.met.P.Pipeline.laws c.unwrap-entry.result.now (placed c.args.next.now c.args.self.now)
    (record { pipeline = c.fetch.new.self; at = c.fetch.new.next; telling = c.spend-in-None.new.self }) (record { orders = record { first = None; second = None }; appended = true })
    c.requires.free c.requires.holds c.requires.tries (sym c.as_ref.ensures.value ∙ ap option_copied c.unwrap-entry.ensures) c.in-None.ensures.gone.fetched (ap (λ (t : Telling). t.held) c.spend-in-None.ensures.spent)
