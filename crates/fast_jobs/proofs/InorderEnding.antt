-- How the in-order machine's run ends, and what is reported of it.
use Rattle.std.proofs.Common.{◌≡◌, ℕ, ◌++◌, List, refl, ap, sym, ◌∙◌}
use Rattle.mono_model.specs.declared.setup.Setup.{Setup}
use Rattle.mono_model.specs.declared.final_state.Final.{Final}
use Rattle.mono_model.specs.Machine.{machine_final}
use Rattle.mono_model.specs.Report.{closed_output, report_text}
use Rattle.inorder_machine.specs.InorderMachine.{InorderMachine}
use Rattle.inorder_machine.specs.Cycle.{inorder, inorder_final, inorder_text}
use Rattle.sweep_runs.proofs.InorderLast.{IsLast}

-- What is reported is the in-order machine after so many cycles.
pub record IsInorderAt (s : Setup) (c : ℕ) (output : List ℕ) (last : Final) : Type 0 where
  pub written : output ≡ (inorder s c).machine.arch.output
  pub reported : last ≡ inorder_final s c

inorder_final-end : (s : Setup) (c : ℕ) → (inorder_final s c).end ≡ (inorder s c).machine.end
unfolding machine_final
inorder_final-end s c = refl

pub inorder-end : (s : Setup) (c : ℕ) (output : List ℕ) (last : Final) → IsInorderAt s c output last → (inorder s c).machine.end ≡ last.end
inorder-end s c output last at = sym (ap (λ (f : Final). f.end) at.reported ∙ inorder_final-end s c)

pub inorder-text : (s : Setup) (c : ℕ) (output : List ℕ) (last : Final) → IsInorderAt s c output last → inorder_text s c ≡ closed_output output ++ report_text last
unfolding inorder_text
inorder-text s c output last at = λ i. closed_output (sym at.written i) ++ report_text (sym at.reported i)

pub inorder_at-limit : (s : Setup) (c : ℕ) (output : List ℕ) (last : Final) → IsLast s c → IsInorderAt s c output last → IsInorderAt s s.cycles output last
inorder_at-limit s c output last ended at = record {
  written = at.written ∙ ap (λ (l : InorderMachine). l.machine.arch.output) ended.same;
  reported = at.reported ∙ ap (λ (l : InorderMachine). machine_final s l.machine) ended.same;
}
