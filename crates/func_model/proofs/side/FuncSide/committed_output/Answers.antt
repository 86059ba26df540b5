use Rattle.std.proofs.Common.{◌≡◌, ◌-◌, ℕ, List, length, min, take, sym, subst, ap, ◌∙◌, arith}
use Rattle.mono_model.specs.Setup.{ram_range}
use Rattle.mono_model.specs.Path.{path}
use Rattle.func_model.specs.declared.walk.Walk.{Walk}
use Rattle.func_model.specs.Walk.{WalkStandsFor, bytes_sent}
use Rattle.func_model.proofs.Outputs.{outputs_up_to}
use Rattle.func_model.proofs.Walking.{stands_output}
use Rattle.func_model.proofs.side.FuncSide.committed_output.Goals as goal

pub returns : goal.returns
returns g c = record {
  output = λ s os h.
      let P : Walk g.row.D.Denot → Type 0 = λ w. WalkStandsFor s os w in
      let walk = c.self.inside.walk in
      let inside : WalkStandsFor s os walk = subst P (sym c.self.view_is) h in
      let holds = inside.holds in
      let a = path s os walk.position in
      let all : c.output-output.result.now ≡ a.output = c.output-output.ensures.output ∙ stands_output s a walk.contents holds.contents in
      let long : length c.output-output.result.now ≡ length a.output = ap (λ (l : List ℕ). length l) all in
      let size : c.saturating_sub.result ≡ length a.output - bytes_sent walk.journal.steps = omega (arith, c.saturating_sub.ensures, c.sent-ahead.ensures.bytes, long) in
      ap (λ (l : List ℕ). take c.saturating_sub.result l) all ∙ ap (λ (k : ℕ). take k a.output) size
      ∙ sym (outputs_up_to (ram_range s.params) (path s os) walk.committed walk.position walk.journal.steps holds.back holds.held)
      ∙ ap (λ (w : Walk g.row.D.Denot). (path s os (min w.committed w.position)).output) c.self.view_is;
}
