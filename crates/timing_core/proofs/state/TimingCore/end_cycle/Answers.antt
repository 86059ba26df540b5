use Rattle.std.proofs.Common.{◌≡◌, ◌+◌, ◌%◌, ◌^◌, ◌==◌, true, false, if◌then◌else◌, refl, ap, ◌∙◌, arith}
use Rattle.mono_model.specs.declared.final_state.End.{End}
use Rattle.mono_model.specs.declared.final_state.End.TheVariants.{Limit}
use Rattle.mono_model.specs.Final.{has_ended}
use Rattle.timing_core.proofs.Sums.{risen}
use Rattle.timing_core.proofs.Phases.{with_last, without_last, ends_cycle}
use Rattle.timing_core.proofs.state.TimingCore.end_cycle.Goals as goal

pub returns-then-self : goal.returns-then-self
returns-then-self c = record {
  kept = λ s t k small.
      let core = c.args.self.now in
      let next : (core.cycle + 1) % 2 ^ 64 ≡ t.cycle + 1 = risen _ _ t.cycle 1 refl k.cycle (omega arith) (omega arith) in
      let last : (t.cycle + 1 == s.cycles) ≡ true = grind (arith, next, k.cycle_limit, c.if-self.true) in
      ends_cycle s t core k _ c.end_at_limit-self.result next
      (c.end_at_limit-self.ensures.end ∙ ap (λ (end : End). if has_ended end then end else Limit) k.end ∙ with_last (t.cycle + 1 == s.cycles) t.end last);
}

pub returns-else-self : goal.returns-else-self
returns-else-self c = record {
  kept = λ s t k small.
      let core = c.args.self.now in
      let next : (core.cycle + 1) % 2 ^ 64 ≡ t.cycle + 1 = risen _ _ t.cycle 1 refl k.cycle (omega arith) (omega arith) in
      let last : (t.cycle + 1 == s.cycles) ≡ false = grind (arith, next, k.cycle_limit, c.if-self.false) in
      ends_cycle s t core k _ core.end next (k.end ∙ without_last (t.cycle + 1 == s.cycles) t.end last);
}
