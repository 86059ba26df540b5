-- The rule of a count: the word is what was told, and no more was read.
use Rattle.std.specs.Prelude.{◌≡◌, ◌⊎◌, ℕ, ◌≤◌, List, [], ◌∷◌, length, slice_index}
use Rattle.atomic_table.specs.Table.{State}
use Rattle.trace_ring.specs.declared.role.Role.{Role}
use Rattle.trace_ring.specs.declared.role.Role.TheVariants.{Alone, Pushes, Takes}
use Rattle.trace_ring.specs.declared.count.CountView.{CountView}

abbrev pub count_view : Role → ℕ → CountView
count_view role count = record { role = role; count = count }

-- before the second seat is given
abbrev pub count_fresh : CountView
count_fresh = count_view Alone 0

-- the end that takes has told how many it has handed out, the other has read no more
pub record CountBetween (word : ℕ) (views : List CountView) : Type 0 where
  pub known : ℕ
  pub seats : views ≡ count_view Takes word ∷ count_view Pushes known ∷ []
  pub within : known ≤ word

-- the rule, with the word in its place
pub record Counted (s : State (Unit {0}) CountView) : Type 0 where
  pub wide : length s.words ≡ 17
  pub told : ((s.views ≡ count_fresh ∷ []) × (slice_index s.words 8 ≡ 0))
      ⊎ CountBetween (slice_index s.words 8) s.views
