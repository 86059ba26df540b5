use Rattle.std.proofs.Common.{◌≡◌, ◌∙◌, ℕ, List, [], ◌∷◌, ◌++◌, append_assoc, drop, length, length-append, length-drop, replicate, take, sym, ap, arith}
use Rattle.std.specs.Prelude.{slice_set}
use Rattle.std.proofs.lemmas.List.{append-nil, drop_all, set_at, take_at}
use borrow.Rule.Slice.PartMut.{post_of}
use Rattle.cycle_watch.proofs.profile_row.ProfileRow.numbers.Goals as goal

-- a number after the counts of the caches, and nothing after those of the cycles
parts_are : (caches spent : List ℕ) (all : ℕ) (a b c d e f : ℕ) → length caches ≡ 7 →
    a ∷ b ∷ c ∷ d ∷ e ∷ f ∷ (take 8 (slice_set (caches ++ replicate 20 0) 7 all) ++ (spent ++ post_of 14 19 (a ∷ b ∷ c ∷ d ∷ e ∷ f ∷ slice_set (caches ++ replicate 20 0) 7 all)))
    ≡ a ∷ b ∷ c ∷ d ∷ e ∷ f ∷ (caches ++ all ∷ spent)
parts_are caches spent all a b c d e f seven =
    let set : slice_set (caches ++ replicate 20 0) 7 all ≡ caches ++ all ∷ replicate 19 0 = set_at caches 0 (replicate 19 0) all 7 seven in
    let one : length (caches ++ all ∷ []) ≡ 8 = omega (arith, length-append caches (all ∷ []), seven) in
    let eight : take 8 (caches ++ all ∷ replicate 19 0) ≡ caches ++ all ∷ [] =
    sym (ap (take 8) (append_assoc caches (all ∷ []) (replicate 19 0))) ∙ take_at (caches ++ all ∷ []) (replicate 19 0) 8 one in
    let none : drop 19 (drop 8 (caches ++ all ∷ replicate 19 0)) ≡ [] =
    drop_all 19 (drop 8 (caches ++ all ∷ replicate 19 0)) (omega (arith, length-drop 8 (caches ++ all ∷ replicate 19 0), length-append caches (all ∷ replicate 19 0), seven)) in
    (λ i. a ∷ b ∷ c ∷ d ∷ e ∷ f ∷ (take 8 (set i) ++ (spent ++ post_of 14 19 (a ∷ b ∷ c ∷ d ∷ e ∷ f ∷ set i))))
    ∙ (λ i. a ∷ b ∷ c ∷ d ∷ e ∷ f ∷ (eight i ++ (spent ++ none i)))
    ∙ (λ i. a ∷ b ∷ c ∷ d ∷ e ∷ f ∷ ((caches ++ all ∷ []) ++ append-nil spent i))
    ∙ (λ i. a ∷ b ∷ c ∷ d ∷ e ∷ f ∷ append_assoc caches (all ∷ []) spent i)

pub returns : goal.returns
returns c =
    let self = c.args.self.now in
    record {
      numbers =
          parts_are c.copy_from_slice.new.self c.copy_from_slice-2.new.self c.cycles.result self.retired self.trapped self.taken self.fetched self.squashed self.mispredicted c.copy_from_slice.ensures.len
          ∙ (λ i. self.retired ∷ self.trapped ∷ self.taken ∷ self.fetched ∷ self.squashed ∷ self.mispredicted
          ∷ (c.copy_from_slice.ensures.after i ++ c.cycles.ensures.sum i ∷ c.copy_from_slice-2.ensures.after i));
    }
