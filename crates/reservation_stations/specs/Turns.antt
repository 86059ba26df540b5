-- The stations from the oldest to the youngest, by turns: each takes the one behind the youngest's, modulo 256, and a
-- table has the index of each turn.
use Rattle.std.specs.Prelude.{ℕ, zero, suc, ◌+◌, ◌%◌, List, [], ◌∷◌, get_or}

-- the indices of so many stations from a turn on, the oldest first
abbrev pub indices_from : List ℕ → ℕ → ℕ → List ℕ
indices_from at_turn turn zero = []
indices_from at_turn turn (suc count) = get_or at_turn (turn % 256) 0 ∷ indices_from at_turn (turn + 1) count
