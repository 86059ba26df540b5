-- A journal of undo steps: a bounded list, the oldest first, with rising instruction numbers.
use Rattle.std.specs.Prelude.{◌≡◌, ℕ, ◌<◌, false, ◌-◌, List, nat_le, length, filter, AllPairs, Option, slice_get}
use Rattle.undo_journal.specs.declared.past.Past.{Past}
use Rattle.undo_journal.specs.declared.past.Change.TheVariants.{Nothing}

-- how many steps a journal has room for, and the steps that it holds, the oldest first
pub record Log : Type 0 where
  pub room : ℕ
  pub steps : List Past

-- each step's number is below that of every later one
abbrev pub IsRising : List Past → Type 0
IsRising steps = AllPairs (λ p q. p.number < q.number) steps

-- the newest step, where there is one
abbrev pub newest : List Past → Option Past
newest steps = slice_get steps (length steps - 1)

-- the steps whose number is n or above
abbrev pub from_number : ℕ → List Past → List Past
from_number n steps = filter (λ p. nat_le n p.number) steps

-- an instruction changed nothing beside its register and the count of retired instructions
pub record IsPlain (past : Past) : Type 0 where
  pub silent : past.out ≡ false
  pub nothing : past.change ≡ Nothing
