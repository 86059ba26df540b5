use Rattle.std.proofs.Common.{ap, sym, ◌∙◌}
use Rattle.gdb_session.specs.Commands.{stop_by}
use Rattle.gdb_session.proofs.Words.{stop_none, stop_some}
use Rattle.gdb_session.proofs.monitor.stop_at.Goals as goal

pub returns-in_err-digits : goal.returns-in_err-digits
returns-in_err-digits c = rw c.from_residual.ensures (record { stop = sym (stop_none c.args.word.now c.in_err-digits.ensures.cases) })

pub returns-in_err-position_in : goal.returns-in_err-position_in
returns-in_err-position_in c =
    let rest = c.in_ok-digits.ensures.cases in
    rw c.from_residual-in_err-position_in.ensures (record {
      stop = sym (stop_some c.args.word.now c.in_ok-digits.digits.now rest.0 rest.1 ∙ ap stop_by (sym c.in_err-position_in.ensures.position));
    })

pub returns : goal.returns
returns c =
    let rest = c.in_ok-digits.ensures.cases in
    record { stop = sym (stop_some c.args.word.now c.in_ok-digits.digits.now rest.0 rest.1 ∙ ap stop_by (sym c.in_ok-position_in.ensures.position)) }
