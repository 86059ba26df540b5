-- The law of the stages: each stage behind Fetch has at most one record, and they stand in order.
use Rattle.std.specs.Prelude.{◌≡◌, ℕ, zero, suc, ◌≤◌, List, [], ◌∷◌, length}
use Rattle.mono_model.specs.Window.{Record, Stage, waiting, until, done}
use Rattle.inorder_machine.specs.InorderMachine.{memory_count}
use Rattle.inorder_machine.specs.Demand.{InorderPlace}

-- at most one record, in Decode
abbrev pub AreInDecode : List Record → Type 0
AreInDecode [] = Unit {0}
AreInDecode (rec ∷ rest) = (rec.stage ≡ waiting) × (rest ≡ [])

-- by the stage of the oldest record: `among k` says of the younger ones that at most `k` are done
abbrev pub StageBy : ℕ → Stage → List Record → (ℕ → Type 0) → Type 0
StageBy n waiting rest among = rest ≡ []
StageBy n (until e r) rest among = AreInDecode rest
StageBy zero (done r) rest among = ⊥
StageBy (suc n) (done r) rest among = among n

-- The oldest first: at most `n` records in Memory and Write, at most one in Execute, at most one in Decode.
abbrev pub AreStaged : ℕ → List Record → Type 0
AreStaged n [] = Unit {0}
AreStaged n (rec ∷ rest) = StageBy n rec.stage rest (λ k. AreStaged k rest)

-- Where a record is in Memory, at most one is in Write, and where Memory is empty too.
pub record IsPipeline (p : InorderPlace) : Type 0 where
  pub staged : AreStaged (suc (memory_count p.run.memory)) p.run.demand.machine.window
  pub within : length p.run.demand.machine.window ≤ 4
