-- What a run alone that is made by pieces stands for: a setup, and a number of steps.
use Rattle.std.specs.Prelude.{◌≡◌, ℕ, ◌^◌, ◌==◌, ◌<◌, ◌≤◌, Bool, None, Some, if◌then◌else◌}
use Rattle.mono_model.specs.declared.final_state.End.{End}
use Rattle.mono_model.specs.declared.final_state.End.TheVariants.{Limit, OutputFull, Running}
use Rattle.mono_model.specs.declared.setup.Setup.{Setup}
use Rattle.mono_model.specs.Alone.{Alone, alone}
use Rattle.func_model.specs.declared.performed.Stepped.{Stepped}
use Rattle.func_model.specs.declared.performed.Stepped.TheVariants.{On, Full, Ended}
use Rattle.func_model.specs.declared.contents.Contents.{Contents}
use Rattle.func_model.specs.declared.alone.AloneRun.{AloneRun}
use Rattle.func_model.specs.Contents.{ContentsStandFor}
use Rattle.func_model.specs.History.{end_by}

-- a state of the run: its contents, how many steps were made and interrupts taken, and how it stands
pub record IsAt {D : Type 0} (s : Setup) (m : Alone) (made count : ℕ) (how : End) (side : Contents D) : Type 0 where
  pub stands : ContentsStandFor s m.arch side
  pub steps : m.steps ≡ made
  pub taken : m.interrupts ≡ count
  pub end : m.end ≡ how

-- a state of a run that the program hasn't ended: it goes on, unless its last step was made
abbrev pub IsOnAt : {D : Type 0} → Setup → Alone → ℕ → ℕ → Contents D → Type 0
IsOnAt s m made taken side = IsAt s m made taken (if made == s.cycles then Limit else Running) side

-- how the run stands after a step that left it so
abbrev pub end_left : Stepped → Bool → End
end_left On last = end_by None last
end_left Full last = OutputFull
end_left (Ended halt) last = end_by (Some halt) last

-- the run after so many steps; where it has ended before, that is how it ended
pub record AloneStandsFor {D : Type 0} (s : Setup) (n : ℕ) (run : AloneRun D) : Type 0 where
  pub at : IsAt s (alone s n) run.made run.taken run.end run.contents
  -- while it goes on each step is made, and one more may be
  pub number : run.end ≡ Running → run.made ≡ n
  pub going : run.end ≡ Running → run.made < s.cycles
  -- each took one interrupt at most
  pub few : run.end ≡ Running → run.taken ≤ run.made
  pub cycles : run.cycles ≡ s.cycles
  pub limit : run.limit ≡ s.output
  pub space : run.contents.hart.room ≡ s.output
  pub bounded : s.cycles < 2 ^ 63

-- there is a setup and a number of steps for which it stands
pub record IsAlone {D : Type 0} (run : AloneRun D) : Type 0 where
  pub setup : Setup
  pub number : ℕ
  pub stands : AloneStandsFor setup number run
