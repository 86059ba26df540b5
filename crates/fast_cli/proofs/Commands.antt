-- A command that grows by arguments, one after the other.
use Rattle.std.proofs.Common.{◌≡◌, ◌∙◌, ◌+◌, ◌<◌, ℕ, List, [], ◌∷◌, ◌++◌, ap, sym, length, map, take, append_assoc, append-nil, add-one}
use Rattle.std.specs.List.{slice_index_or}
use Rattle.std.specs.Borrow.{Bor}
use Rattle.std.proofs.lemmas.List.{map-append}
use Rattle.std.proofs.Math.Seq.{take-suc}
use Rattle.clap.specs.Walk.{Rule, Text}
use Rattle.clap.specs.Simple.{App, with_rule}
use Rattle.fast_cli.specs.Command.{with_rules}

abbrev on_rules : App → List Rule → App
on_rules a rules = record a { top = record a.top { rules = rules } }

pub with_rules-none : (a : App) → a ≡ with_rules [] a
with_rules-none a = ap (on_rules a) (sym (append-nil a.top.rules))

with_rules-more : (a : App) (rules : List Rule) (rule : Rule) → with_rule (with_rules rules a) rule ≡ with_rules (rules ++ rule ∷ []) a
with_rules-more a rules rule = ap (on_rules a) (append_assoc a.top.rules rules (rule ∷ []))

-- the texts behind references, with one more of them
pub texts-take-suc : (xs : List (Bor Text)) (i : ℕ) (d : Bor Text) → i < length xs
    → map (λ s. s.now) (take i xs) ++ (slice_index_or xs i d).now ∷ [] ≡ map (λ s. s.now) (take (i + 1) xs)
texts-take-suc xs i d below =
    sym (rw (add-one, take-suc xs i d below) (map-append (λ s. s.now) (take i xs) (slice_index_or xs i d ∷ [])))

-- one argument more, by the rule for its name
pub with_rules-next : (by : Text → Rule) (names : List (Bor Text)) (i : ℕ) (d : Bor Text) (first a b : App) → i < length names
    → b ≡ with_rule a (by (slice_index_or names i d).now) → a ≡ with_rules (map by (map (λ n. n.now) (take i names))) first
    → b ≡ with_rules (map by (map (λ n. n.now) (take (i + 1) names))) first
with_rules-next by names i d first a b below added so_far =
    let texts = map (λ (n : Bor Text). n.now) (take i names) in
    let name = (slice_index_or names i d).now in
    added ∙ ap (λ x. with_rule x (by name)) so_far ∙ with_rules-more first (map by texts) (by name)
    ∙ ap (λ rules. with_rules rules first) (sym (map-append by texts (name ∷ [])))
    ∙ ap (λ ts. with_rules (map by ts) first) (texts-take-suc names i d below)
