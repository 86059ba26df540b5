-- What is written of a run with its stack, and how the run ended.
use Rattle.std.proofs.Common.{◌≡◌, ◌∙◌, ℕ, ◌++◌, ◌≤◌, true, List, ap, sym, arith}
use Rattle.mono_model.specs.declared.setup.Setup.{Setup}
use Rattle.mono_model.specs.declared.final_state.Final.{Final}
use Rattle.mono_model.specs.Setup.{is_setup}
use Rattle.mono_model.specs.Final.{has_ended}
use Rattle.mono_model.specs.Machine.{Machine}
use Rattle.mono_model.specs.Cycle.{final}
use Rattle.mono_model.specs.Report.{closed_output, joined, report_text}
use Rattle.mono_model.proofs.Sound.{setup_facts}
use Rattle.machine_laws.specs.FirstEnd.{EndsOnce}
use Rattle.inorder_machine.specs.InorderMachine.{InorderMachine}
use Rattle.insight_model.specs.declared.pipeline.Pipeline.{Pipeline}
use Rattle.insight_model.specs.declared.pipeline.Pipeline.TheVariants.{Window, Inorder}
use Rattle.insight_model.specs.Cycles.{cycles}
use Rattle.insight_model.specs.Stack.{commit_width, run_text, stack_lines, stack_text}
use Rattle.insight_laws.proofs.Sights.{EndsInorder}
use Rattle.report_text.specs.declared.stack.StackCounts.{StackCounts}
use Rattle.report_text.specs.StackText.{stack_lines_of}
use Rattle.cycle_watch.specs.Counted.{IsStackOf}
use Rattle.cycle_watch.proofs.StackLines.{stack_is}
use Rattle.fast_jobs.specs.declared.job.Job.TheVariants.{Single}
use Rattle.fast_jobs.specs.declared.job.SingleJob.TheVariants.{Stack}
use Rattle.fast_jobs.specs.Played.{final_of, output_of}
use Rattle.fast_jobs.specs.Outcome.{MayEnd, run_end, status_for}
use Rattle.fast_jobs.proofs.Ending.{at-end, at-text, not_running}
use Rattle.fast_jobs.proofs.InorderEnding.{inorder-end, inorder-text}
use Rattle.fast_jobs.proofs.Outcomes.{running-end}

width_fits : (kind : Pipeline) (s : Setup) → is_setup s ≡ true → commit_width kind s.params ≤ 8
width_fits Window s sound = let facts = setup_facts s sound in omega (arith, facts.commit)
width_fits Inorder s sound = omega arith

module _ (kind : Pipeline) (s : Setup) (output : List ℕ) (last : Final) (wrote : output ≡ output_of kind s) (told : last ≡ final_of kind s) where
  text_is : (which : Pipeline) → output ≡ output_of which s → last ≡ final_of which s → run_text which s s.cycles ≡ closed_output output ++ report_text last
  text_is Window written reported = at-text s s.cycles output last (record { written = written; reported = reported })
  text_is Inorder written reported = inorder-text s s.cycles output last (record { written = written; reported = reported })

  end_is : (which : Pipeline) → output ≡ output_of which s → last ≡ final_of which s → run_end which s ≡ last.end
  end_is Window written reported = at-end s s.cycles output last (record { written = written; reported = reported })
  end_is Inorder written reported = inorder-end s s.cycles output last (record { written = written; reported = reported })

  pub stack_status : status_for (run_end kind s) ≡ status_for last.end
  stack_status = ap status_for (end_is kind wrote told)

  pub stack_written : (counts : StackCounts) → is_setup s ≡ true → IsStackOf kind s.params (cycles kind s s.cycles) counts →
      stack_text kind s s.cycles ≡ (closed_output output ++ report_text last) ++ joined (stack_lines_of kind s.params counts)
  unfolding stack_text
  stack_written counts sound stacked =
      let lines : stack_lines_of kind s.params counts ≡ stack_lines kind s.params (cycles kind s s.cycles) =
      stack_is kind s.params (cycles kind s s.cycles) counts stacked (width_fits kind s sound) in
      λ i. text_is kind wrote told i ++ joined (sym lines i)

-- its run has ended at its limit
run_over : (kind : Pipeline) (s : Setup) → EndsOnce s (final s s.cycles).stats.cycles → EndsInorder s → has_ended (run_end kind s) ≡ true
run_over Window s window inorder = ap (λ (m : Machine). has_ended m.end) (window.still s.cycles window.within) ∙ window.first.ended
run_over Inorder s window inorder = ap (λ (l : InorderMachine). has_ended l.machine.end) (inorder.still s.cycles inorder.within) ∙ inorder.first.ended

pub stack_may_end : (kind : Pipeline) (s : Setup) → EndsOnce s (final s s.cycles).stats.cycles → EndsInorder s → MayEnd (Single (Stack s kind))
stack_may_end kind s window inorder = λ on. absurd (not_running (run_end kind s) (run_over kind s window inorder) (running-end (run_end kind s) on))
