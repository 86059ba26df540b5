-- What lies ahead, and that looking at it leaves a debugger where it stands.
use Rattle.std.proofs.Common.{◌≡◌, ℕ, Bool, true, false, Option, Some, None, is_some, if◌then◌else◌, refl, ap, sym, ◌∙◌}
use Rattle.fsim_base.specs.declared.access.Access.TheVariants as access
use Rattle.mono_model.specs.declared.final_state.End.{End}
use Rattle.mono_model.specs.declared.setup.Setup.{Setup}
use Rattle.mono_model.specs.Final.{has_ended}
use Rattle.mono_model.specs.Sequence.{result_at}
use Rattle.func_model.specs.declared.trail.Trail.{Trail}
use Rattle.func_model.specs.History.{end_at, fences}
use Rattle.func_model.specs.Position.{found, made_access, reach}
use Rattle.func_model.specs.Trail.{TrailStandsFor}
use Rattle.func_model.proofs.Seeing.{found_going, over_ahead, reaching_no_fence}
use Rattle.gdb_model.specs.Session.{Session, watched, watched_access}

never : {P : Type 0} {A : Type 0} (x : A) → None ≡ Some x → P
never x e = cc

-- where the run has ended there is no access
pub nothing_at : (s : Setup) (at : ℕ) (end : End) → end_at s at ≡ Some end → reach s at ≡ access.Nothing
nothing_at s at end is = ap (λ (e : Option End). if is_some e then access.Nothing else made_access (result_at s (Some at) (found s at))) is

-- what is watched is reached, so there is a step
pub watched_steps : (s : Setup) (o : Session) (at byte : ℕ) → watched s o at ≡ Some byte → end_at s at ≡ None
watched_steps s o at byte is = by (end_at s at) refl
  where
    by : (end : Option End) → end_at s at ≡ end → end ≡ None
    by None same = refl
    by (Some how) same = never byte (ap (watched_access o.points) (sym (nothing_at s at how same)) ∙ is)

-- and it is no FENCE.I
goes : {D : Type 0} (s : Setup) (trail : Trail D) → TrailStandsFor s trail → end_at s trail.at ≡ None → has_ended trail.end ≡ false
goes s trail h none = by (has_ended trail.end) refl
  where
    by : (b : Bool) → has_ended trail.end ≡ b → b ≡ false
    by false is = refl
    by true is = never trail.end (sym none ∙ over_ahead s trail h is)

pub watched_no_fence : {D : Type 0} (s : Setup) (o : Session) (trail : Trail D) (byte : ℕ) → TrailStandsFor s trail → watched s o trail.at ≡ Some byte → fences s trail.at ≡ false
watched_no_fence s o trail byte h is =
    let none : end_at s trail.at ≡ None = watched_steps s o trail.at byte is in
    reaching_no_fence s trail.at none (found_going s trail h (goes s trail h none)) (λ nothing. never byte (ap (watched_access o.points) (sym nothing) ∙ is))

-- a debugger that looked ahead
pub record IsLooked {D : Type 0} (s : Setup) (now seen : Trail D) : Type 0 where
  pub stands : TrailStandsFor s seen
  pub at : seen.at ≡ now.at
  pub floor_is : seen.floor ≡ now.floor
  pub history_is : seen.steps.capacity ≡ now.steps.capacity

pub looked : {D : Type 0} (s : Setup) (now seen : Trail D) → TrailStandsFor s seen → seen ≡ record now { contents = seen.contents } → IsLooked s now seen
looked {D} s now seen stands same = record {
  stands = stands;
  at = ap (λ (t : Trail D). t.at) same;
  floor_is = ap (λ (t : Trail D). t.floor) same;
  history_is = ap (λ (t : Trail D). t.steps.capacity) same;
}
