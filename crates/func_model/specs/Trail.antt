-- What a run alone that remembers its last steps stands for: a setup, and a number of steps.
use Rattle.std.specs.Prelude.{◌≡◌, ℕ, ◌+◌, ◌-◌, ◌^◌, max, ◌<◌, ◌≤◌, ◌↔◌, ◌==◌, Bool, false, suc, if◌then◌else◌, List, [], ◌∷◌, ◌++◌, length, Option, None, IfNone, IfSome}
use Rattle.circular_buffer.specs.Buffer.{buffer, keep_last}
use Rattle.mono_model.specs.declared.final_state.End.{End}
use Rattle.mono_model.specs.declared.final_state.End.TheVariants.{Running}
use Rattle.mono_model.specs.declared.setup.Setup.{Setup}
use Rattle.mono_model.specs.Setup.{ram_range}
use Rattle.mono_model.specs.Alone.{alone}
use Rattle.func_model.specs.declared.performed.PastStep.{PastStep}
use Rattle.func_model.specs.declared.trail.Trail.{Trail}
use Rattle.func_model.specs.Contents.{ContentsStandFor}
use Rattle.func_model.specs.Undo.{IsRestorable}
use Rattle.func_model.specs.History.{walk, IsReached, end_at, end_by, floor, step_undone}

-- how a run stands behind so many steps, all made
pub record IsPlace (s : Setup) (made : ℕ) (end : End) : Type 0 where
  pub reached : IsReached s made
  pub end_is : (alone s made).end ≡ end
  pub fits : length (walk s made).output ≤ s.output
  pub within : made ≤ s.cycles
  pub going : end ≡ Running → made < s.cycles

-- it leads back over the step behind so many
pub record IsBackOver (s : Setup) (made : ℕ) (past : PastStep) : Type 0 where
  pub place : IsPlace s made Running
  pub back : step_undone (ram_range s.params) past (walk s (suc made)) ≡ walk s made
  pub restorable : IsRestorable past.past

-- past steps, the oldest first, lead back to where so many are made
abbrev pub StepsLeadBack : Setup → ℕ → List PastStep → Type 0
StepsLeadBack s made [] = Unit {0}
StepsLeadBack s made (past ∷ later) = IsBackOver s made past × StepsLeadBack s (suc made) later

pub record TrailStandsFor {D : Type 0} (s : Setup) (trail : Trail D) : Type 0 where
  pub contents : ContentsStandFor s (walk s trail.at) trail.contents
  pub place : IsPlace s trail.at trail.end
  pub back : StepsLeadBack s trail.floor trail.steps.items
  pub held : trail.floor + length trail.steps.items ≡ trail.at
  pub limit : trail.limit ≡ s.output
  pub cycles : trail.cycles ≡ s.cycles
  pub space : trail.contents.hart.room ≡ s.output + 1
  pub bounded : s.cycles < 2 ^ 63

-- with one more step remembered, as many as there is room for
abbrev pub remembered : {D : Type 0} → PastStep → Trail D → Trail D
remembered past trail = record trail {
  steps = buffer (keep_last trail.steps.capacity (trail.steps.items ++ past ∷ [])) trail.steps.capacity;
  floor = max trail.floor (trail.at - trail.steps.capacity);
}

-- with one more step made, which doesn't end the run, and remembered
abbrev pub gone_on : {D : Type 0} → PastStep → Trail D → Trail D
gone_on past trail = remembered past (record trail { at = trail.at + 1; end = end_by None (trail.at + 1 == trail.cycles) })

-- there is a setup for which it stands
pub record IsOnTrail {D : Type 0} (trail : Trail D) : Type 0 where
  pub setup : Setup
  pub stands : TrailStandsFor setup trail

-- nothing is made, and so many steps can be remembered
pub record IsOpening {D : Type 0} (history : ℕ) (trail : Trail D) : Type 0 where
  pub at : trail.at ≡ 0
  pub floor_is : trail.floor ≡ 0
  pub history_is : trail.steps.capacity ≡ history

-- one step further
pub record IsFurther {D : Type 0} (s : Setup) (old new : Trail D) : Type 0 where
  pub at : new.at ≡ old.at + 1
  pub floor_is : new.floor ≡ floor old.steps.capacity s old.at old.floor

-- at the same position
pub record IsThere {D : Type 0} (old new : Trail D) : Type 0 where
  pub at : new.at ≡ old.at
  pub floor_is : new.floor ≡ old.floor

-- what a step makes of a trail, and what it answers
pub record IsTold {D : Type 0} (s : Setup) (old new : Trail D) (result : Option End) : Type 0 where
  pub stands : TrailStandsFor s new
  pub answer : result ≡ end_at s old.at
  pub moved : IfNone result (IsFurther s old new)
  pub stays : IfSome result (λ end. IsThere old new)
  pub history_is : new.steps.capacity ≡ old.steps.capacity

-- what going back makes of it
pub record IsBack {D : Type 0} (old new : Trail D) (result : Bool) : Type 0 where
  pub oldest : (result ≡ false) ↔ (old.at ≡ old.floor)
  pub at : old.at ≡ new.at + (if result then 1 else 0)
  pub floor_is : new.floor ≡ old.floor
  pub history_is : new.steps.capacity ≡ old.steps.capacity
