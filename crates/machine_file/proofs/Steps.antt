-- One more row of the table.
use Rattle.std.proofs.Common.{◌≡◌, ℕ, ◌+◌, ◌<◌, List, [], ◌∷◌, length, map, take, drop, get_or, set, refl, ◌∙◌}
use Rattle.std.specs.Prelude.{None}
use Rattle.std.proofs.lemmas.Grind.{take-set_at}
use Rattle.std.proofs.lemmas.List.{take_more, drop_more, map-append}
use Rattle.toml.specs.Data.{Members}
use Rattle.machine_file.specs.Table.{Row}
use Rattle.machine_file.specs.File.{first_failing, row_fault}

pub values-next : {X : Type 0} (f : Row → ℕ) (g : X → Row) (xs : List X) (ns : List ℕ) (i n : ℕ) (d : X) → i < length xs → i < length ns
    → take i ns ≡ map f (map g (take i xs)) → n ≡ f (g (get_or xs i d)) → take (i + 1) (set ns i n) ≡ map f (map g (take (i + 1) xs))
values-next f g xs ns i n d within room same this =
    take-set_at ns i (i + 1) n refl room ∙ rw (same, this, take_more xs i d within, map-append g (take i xs) (get_or xs i d ∷ []), map-append f (map g (take i xs)) (g (get_or xs i d) ∷ [])) refl

pub clear-next : {X : Type 0} (file : Members) (g : X → Row) (xs : List X) (i : ℕ) (d : X) → i < length xs → row_fault file (g (get_or xs i d)) ≡ None
    → first_failing file (map g (drop (i + 1) xs)) ≡ first_failing file (map g (drop i xs))
clear-next file g xs i d within clear = rw (drop_more xs i d within, clear) refl
