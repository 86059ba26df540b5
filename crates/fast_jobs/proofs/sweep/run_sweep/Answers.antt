use Rattle.std.proofs.Common.{◌≡◌, ℕ, List, refl, ap, sym, ◌∙◌, subst}
use Rattle.fsim_ports.specs.Sink.{grown, Breaks}
use Rattle.report_text.specs.declared.status.Status.TheVariants.{Shown}
use Rattle.fast_jobs.specs.declared.job.Job.TheVariants.{Sweep}
use Rattle.fast_jobs.specs.Call.{writing_of}
use Rattle.fast_jobs.specs.SweepFiles.{told_lines}
use Rattle.fast_jobs.proofs.Outcomes.{ends-broken, ends-reported}
use Rattle.fast_jobs.proofs.Sweeps.{lines-swept}
use Rattle.fast_jobs.proofs.sweep.run_sweep.Goals as goal

pub returns-in-Ok-put_lines-clause-ends : goal.returns-in-Ok-put_lines-clause-ends
returns-in-Ok-put_lines-clause-ends g c =
    let files = c.args.files.now in
    let told = c.in-Ok.told in
    let before = g.K.Sink.written c.args.sink.now in
    let text : List ℕ = told_lines files.machines told.refusals.items told.finals.items in
    let same : told_lines c.as_slice-machines.result.now c.as_slice.result.now c.as_slice-2.result.now ≡ text =
    λ i. told_lines (c.as_slice-machines.ensures.same i) (c.as_slice.ensures.value i) (c.as_slice-2.ensures.value i) in
    ends-reported (Sweep files) text (writing_of g.K.Sink.written g.K.Sink.faults c.args.sink.now c.put_lines.new.sink) Shown refl (λ on. cc)
    (sym (lines-swept files told.refusals.items told.finals.items c.in-Ok.ensures.told)) (c.in-Ok-put_lines.ensures.written ∙ ap (grown before) same)

pub returns-clause-ends : goal.returns-clause-ends
returns-clause-ends g c =
    let files = c.args.files.now in
    let told = c.in-Ok.told in
    let text : List ℕ = told_lines files.machines told.refusals.items told.finals.items in
    let same : told_lines c.as_slice-machines.result.now c.as_slice.result.now c.as_slice-2.result.now ≡ text =
    λ i. told_lines (c.as_slice-machines.ensures.same i) (c.as_slice.ensures.value i) (c.as_slice-2.ensures.value i) in
    let P : List ℕ → Type 0 = λ t. Breaks t (g.K.Sink.faults c.args.sink.now) (g.K.Sink.faults c.put_lines.new.sink) (g.K.Sink.written c.args.sink.now) (g.K.Sink.written c.put_lines.new.sink) in
    ends-broken (Sweep files) text (writing_of g.K.Sink.written g.K.Sink.faults c.args.sink.now c.put_lines.new.sink)
    (sym (lines-swept files told.refusals.items told.finals.items c.in-Ok.ensures.told)) (subst P same c.in-Err-put_lines.ensures.written)
