use Rattle.std.proofs.Common.{◌-◌, ℕ, List, length, take, drop, subst}
use Rattle.fsim_ports.specs.Sink.{Puts}
use Rattle.fsim_ports.proofs.Writing.{puts_second}
use Rattle.mono_model.specs.declared.final_state.Final.{Final}
use Rattle.fast_jobs.specs.SweepFiles.{finals_behind, next_line, told_lines}
use Rattle.fast_jobs.proofs.Sweeps.{lines-next}
use Rattle.fast_jobs.proofs.sweep.+put_lines.Goals as goal

pub returns-in_ok-put_line-in-len1-up-refusals-clause-written : goal.returns-in_ok-put_line-in-len1-up-refusals-clause-written
returns-in_ok-put_line-in-len1-up-refusals-clause-written g t c =
    let machines = c.args.machines.now in
    let refusals = c.args.refusals.now in
    let finals = c.args.finals.now in
    let machine = c.machine-item.result in
    let refusal = c.refusal-item.result in
    let done = c.put_line.new.sink in
    let after = c.put_lines.new.sink in
    let first : List ℕ = next_line machine refusal finals in
    let lines : List Final → List ℕ = told_lines (take (length machines - 1) (drop 1 machines)) (take (length refusals - 1) (drop 1 refusals)) in
    let F : List Final → Type 0 = λ left. Puts (lines left) (g.K.Sink.faults done) (g.K.Sink.faults after) (g.K.Sink.written done) (g.K.Sink.written after) c.put_lines.result in
    let P : List ℕ → Type 0 = λ text. Puts text (g.K.Sink.faults c.args.sink.now) (g.K.Sink.faults after) (g.K.Sink.written c.args.sink.now) (g.K.Sink.written after) c.put_lines.result in
    subst P (lines-next machines refusals finals machine refusal c.in-len1-up.len_at_least c.machine-item.is c.in-len1-up-refusals.len_at_least c.refusal-item.is)
    (puts_second first (lines (finals_behind refusal finals)) (g.K.Sink.faults after) (g.K.Sink.written c.args.sink.now) (g.K.Sink.written after) c.put_lines.result
    c.in_ok-put_line-in-len1-up-refusals.ensures.written c.in_ok-put_line-in-len1-up-refusals.ensures.count (subst F c.finals_behind.ensures.behind c.put_lines.ensures.written))
