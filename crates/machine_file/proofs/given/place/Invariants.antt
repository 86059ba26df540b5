use Rattle.std.proofs.Common.{◌≡◌, map, drop}
use Rattle.std.specs.List.{position_from}
use Rattle.std.specs.Str.{bytes_eq}
use Rattle.machine_file.proofs.given.place.Given as goal

-- the place among the texts that are left is that among all
abbrev pub invariant-loop-i : goal.invariant-loop-i
invariant-loop-i l = position_from (λ t. bytes_eq t l.text) l.i (map (λ t. t.now) (drop l.i l.texts)) ≡ position_from (λ t. bytes_eq t l.text) 0 (map (λ t. t.now) l.texts)
