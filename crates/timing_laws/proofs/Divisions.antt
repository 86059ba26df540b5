-- The divisions that execute: those when the phase began, with those begun in it, are those of the window as it stands.
use Rattle.std.proofs.Common.{◌≡◌, ℕ, ◌+◌, Bool, true, false, if◌then◌else◌, List, ◌∷◌, refl, ap, arith}
use Rattle.std.proofs.lemmas.Bool.{cond_both}
use Rattle.fsim_base.specs.declared.instruction.Class.{Class}
use Rattle.fsim_base.specs.declared.instruction.Class.TheVariants as class
use Rattle.mono_model.specs.declared.setup.Setup.{Setup}
use Rattle.mono_model.specs.Result.{Result}
use Rattle.mono_model.specs.Window.{Record, Stage, waiting, until, done, class_at, is_waiting, is_waiting_stage, is_busy_division, busy_divisions}
use Rattle.mono_model.specs.Machine.{Machine}
use Rattle.mono_model.specs.Issue.{Used, with_used, Passed, ready_result, issues, Turned, unchanged, begun, turn_of}
use Rattle.mono_model.proofs.Issue.{issues_all}

abbrev one_if : Bool → ℕ
one_if b = if b then 1 else 0

-- one that waits doesn't execute
idle : (c : Class) (stage : Stage) → is_waiting_stage stage ≡ true → is_busy_division c stage ≡ false
idle class.Div waiting is = refl
idle class.Div (until e r) is = cc
idle class.Div (done r) is = refl
idle class.Alu stage is = refl
idle class.Mul stage is = refl
idle class.Load stage is = refl
idle class.Store stage is = refl
idle class.Serial stage is = refl

begun_count : (c : Class) (used : Used) (e : ℕ) (r : Result) → (with_used c used).div ≡ used.div + one_if (is_busy_division c (until e r))
begun_count class.Div used e r = refl
begun_count class.Alu used e r = omega arith
begun_count class.Mul used e r = omega arith
begun_count class.Load used e r = omega arith
begun_count class.Store used e r = omega arith
begun_count class.Serial used e r = omega arith

-- before the turn of a record that waits
pub dividing_is : (busy : ℕ) (used : Used) (older : List Record) (rec : Record) (younger : List Record) → is_waiting rec ≡ true →
    busy + used.div ≡ busy_divisions older + busy_divisions (rec ∷ younger) → busy + used.div ≡ busy_divisions older + busy_divisions younger
dividing_is busy used older rec younger waits counted =
    let none : one_if (is_busy_division (class_at rec) rec.stage) ≡ 0 = ap one_if (idle (class_at rec) rec.stage waits) in
    omega (arith, counted, none)

-- and behind it
pub dividing_on : (s : Setup) (m : Machine) (busy : ℕ) (p : Passed) (rec : Record) (younger : List Record) →
    busy + p.used.div ≡ busy_divisions p.older + busy_divisions (rec ∷ younger) →
    (let t = turn_of s m p rec younger in busy + t.used.div ≡ busy_divisions (t.turned ∷ p.older) + busy_divisions younger)
unfolding turn_of
dividing_on s m busy p rec younger counted =
    cond_both (issues s m p rec younger) (begun s m.cycle p rec (ready_result s m.arch p.older rec)) (unchanged p rec) IsCounted starts (λ not. omega (arith, counted))
  where
    IsCounted : Turned → Type 0
    IsCounted t = busy + t.used.div ≡ busy_divisions (t.turned ∷ p.older) + busy_divisions younger

    starts : issues s m p rec younger ≡ true → IsCounted (begun s m.cycle p rec (ready_result s m.arch p.older rec))
    starts may =
        let waits = (issues_all s m p rec younger may).waits in
        let before = dividing_is busy p.used p.older rec younger waits counted in
        by_end _ before
      where
        by_end : (e : ℕ) → busy + p.used.div ≡ busy_divisions p.older + busy_divisions younger →
            busy + (with_used (class_at rec) p.used).div
            ≡ busy_divisions (record rec { stage = until e (ready_result s m.arch p.older rec) } ∷ p.older) + busy_divisions younger
        by_end e before = omega (arith, before, begun_count (class_at rec) p.used e (ready_result s m.arch p.older rec))
