-- Names behind references.
use Rattle.std.proofs.Common.{◌≡◌, ◌&&◌, List, map, length, refl}
use Rattle.std.specs.Prelude.{Some, None, if◌then◌else◌}
use Rattle.std.specs.Borrow.{Bor}
use Rattle.std.specs.List.{list_all}
use Rattle.std.proofs.lemmas.List.{length-map}
use Rattle.std.proofs.lemmas.List.Folds.{list_all-map}
use Rattle.clap.specs.Walk.{Text}
use Rattle.fast_cli.specs.Number.{is_between}
use Rattle.fast_cli.specs.Values.{is_name, names_in}

pub names_in_behind : (xs : List (Bor Text)) → names_in (map (λ t. t.now) xs)
    ≡ (if is_between 1 64 (length xs) && list_all (λ t. is_name t.now) xs then Some (map (λ t. t.now) xs) else None)
unfolding names_in
names_in_behind xs = rw (list_all-map is_name (λ (t : Bor Text). t.now) xs, length-map xs (λ (t : Bor Text). t.now)) refl
