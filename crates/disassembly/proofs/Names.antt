-- No two mnemonics are the same, nor two names of CSRs; each row has one.
use Rattle.std.proofs.Common.{◌≡◌, ◌≢◌, refl, sym, ℕ, if◌then◌else◌, Bool, true, false, not, ◌&&◌, ◌==◌, List, [], ◌∷◌, length, is_some, IsSome, ◌↔◌, bytes_eq, Option, Some, arith, rules}
use Rattle.std.specs.List.{All, AllPairs}
use Rattle.std.proofs.lemmas.List.Elements.{All-cons}
use Rattle.std.proofs.lemmas.List.Kept.{AllPairs-cons}
use Rattle.std.proofs.lemmas.Bool.{and_parts}
use Rattle.std.proofs.lemmas.Slice.Eq.{bytes_eq-Decides}
use Rattle.rv_decode.specs.Table.{table}
use Rattle.machine_csr.specs.Csr.{Row, rows, row_in, row_at}
use Rattle.disassembly.specs.Number.{Text}
use Rattle.disassembly.specs.Mnemonic.{branches, loads, stores, immediate_forms, register_forms, products, csr_forms, mnemonic, mnemonics}
use Rattle.disassembly.specs.CsrName.{csr_names, name_in, name_at}

abbrev pub all_pass : (Text → Bool) → List Text → Bool
all_pass test [] = true
all_pass test (name ∷ names) = test name && all_pass test names

abbrev pub is_new : Text → List Text → Bool
is_new name = all_pass (λ other. not (bytes_eq name other))

abbrev pub are_apart : List Text → Bool
are_apart [] = true
are_apart (name ∷ names) = is_new name names && are_apart names

pub differ : (name other : Text) → not (bytes_eq name other) ≡ true → name ≢ other
differ name other h e = search (rules, bytes_eq-Decides)

new_differs : (name : Text) (others : List Text) → is_new name others ≡ true → All (λ other. name ≢ other) others
new_differs name [] h = λ k d below. absurd (omega arith)
new_differs name (other ∷ others) h =
    let (here, rest) = and_parts (not (bytes_eq name other)) (is_new name others) h in
    All-cons (λ t. name ≢ t) other others (differ name other here) (new_differs name others rest)

pub apart_pairs : (names : List Text) → are_apart names ≡ true → AllPairs (λ name other. name ≢ other) names
apart_pairs [] h = λ i j d below within. absurd (omega arith)
apart_pairs (name ∷ names) h =
    let (here, rest) = and_parts (is_new name names) (are_apart names) h in
    AllPairs-cons (λ t u. t ≢ u) name names (new_differs name names here) (apart_pairs names rest)

pub mnemonics_apart : (word : ℕ) → AllPairs (λ name other. name ≢ other) (mnemonics word)
unfolding table mnemonic branches loads stores immediate_forms register_forms products csr_forms
mnemonics_apart word = apart_pairs (mnemonics word) refl

-- with an empty name before them, they would still be apart: none is empty
pub mnemonics_given : (word : ℕ) → All (λ name. name ≢ []) (mnemonics word)
unfolding table mnemonic branches loads stores immediate_forms register_forms products csr_forms
mnemonics_given word = λ k d below e. new_differs [] (mnemonics word) refl k d below (sym e)

pub csr_names_apart : AllPairs (λ name other. name ≢ other) csr_names
csr_names_apart = apart_pairs csr_names refl

both_or_none_here : (found : Bool) (name : Text) (r : Row) (o : Option Text) (p : Option Row) → is_some o ≡ is_some p
    → is_some (if found then Some name else o) ≡ is_some (if found then Some r else p)
both_or_none_here true name r o p h = refl
both_or_none_here false name r o p h = h

-- as many names as rows: an address has both or none
both_or_none : (rs : List Row) (names : List Text) (csr : ℕ) → length names ≡ length rs → is_some (name_in rs names csr) ≡ is_some (row_in rs csr)
both_or_none [] names csr h = refl
both_or_none (r ∷ rs) [] csr h = absurd (omega arith)
both_or_none (r ∷ rs) (name ∷ names) csr h =
    both_or_none_here (r.address == csr) name r (name_in rs names csr) (row_in rs csr) (both_or_none rs names csr (omega arith))

same_case : (o : Option Text) (p : Option Row) → is_some o ≡ is_some p → IsSome o ↔ IsSome p
same_case o p h = grind arith

pub csr_named : (csr : ℕ) → IsSome (name_at csr) ↔ IsSome (row_at csr)
unfolding name_at row_at
csr_named csr = same_case (name_in rows csr_names csr) (row_in rows csr) (both_or_none rows csr_names csr refl)
