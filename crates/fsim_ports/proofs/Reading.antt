-- A read of bytes in memory.
use Rattle.std.proofs.Common.{◌≡◌, ℕ, ◌+◌, ◌-◌, List, ◌++◌, length, take, drop, ap, sym, ◌∙◌}
use Rattle.std.proofs.Math.Seq.{take-add}
use Rattle.std.proofs.lemmas.List.{take_at, take_rest}

-- a piece comes after the bytes that were read before it
pub read_more : (bytes source piece rest : List ℕ) (place count : ℕ) → source ≡ bytes → piece ≡ take count (take (length source - place) (drop place source)) → length piece ≡ count →
    take (place + count) bytes ≡ take place bytes ++ take count (piece ++ rest)
read_more bytes source piece rest place count same is len =
    let next : take count (drop place bytes) ≡ piece =
    sym (is ∙ ap (take count) (take_rest source place) ∙ ap (λ (xs : List ℕ). take count (drop place xs)) same) in
    take-add place count bytes ∙ ap (λ (xs : List ℕ). take place bytes ++ xs) (next ∙ sym (take_at piece rest count len))
