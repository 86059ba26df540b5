-- Which words can be branches, jumps or FENCE.I, by their opcodes: a word whose opcode is that of none is found plain in
-- the instruction table.
use Rattle.std.proofs.Common.{◌≡◌, ◌≢◌, ℕ, nat_eq, ◌==◌, ◌&&◌, Bool, true, false, Option, List, [], ◌∷◌, refl, ap, ◌∙◌}
use Rattle.std.proofs.lemmas.Bool.{and_parts, eqb-true}
use Rattle.fsim_base.specs.Number.{bits_of}
use Rattle.fsim_base.specs.declared.instruction.Flow.TheVariants.{Plain, Jump}
use Rattle.rv_decode.specs.declared.insn.Insn.{Insn}
use Rattle.rv_decode.specs.Decode.{decode_of}
use Rattle.rv_decode.specs.Class.{flow_of}
use Rattle.rv_decode.specs.Table.{Row, has_fixed, table}
use Rattle.rv_decode.proofs.Found.{found, found-here, found-past}
use Rattle.mono_model.specs.Found.{found_word, flow_in, is_fence_i, is_fence_i_insn}

-- a word with another opcode hasn't the fixed bits of a row
pub other : {A : Type 0} (word value : ℕ) (rest : Bool) → bits_of word 6 0 ≢ value → (bits_of word 6 0 == value && rest) ≡ true → A
other word value rest differs has = absurd (differs (eqb-true (bits_of word 6 0) value (and_parts (bits_of word 6 0 == value) rest has).0))

-- nor has another word those of a whole row
whole_other : {A : Type 0} (word value : ℕ) → bits_of word 31 0 ≢ value → (bits_of word 31 0 == value && true) ≡ true → A
whole_other word value differs has = absurd (differs (eqb-true (bits_of word 31 0) value (and_parts (bits_of word 31 0 == value) true has).0))

-- the rows that a word has are plain
abbrev ArePlain : ℕ → List Row → Type 0
ArePlain word [] = Unit
ArePlain word (row ∷ rows) = (has_fixed word row ≡ true → flow_of (row.insn word) ≡ Plain) × ArePlain word rows

find_plain : (word : ℕ) (rows : List Row) → ArePlain word rows → flow_in (found_word word (found word rows)) ≡ Plain
find_plain word [] all = refl
find_plain word (row ∷ rows) all = by_test (has_fixed word row) refl (find_plain word rows all.1)
  where
    by_test : (b : Bool) → has_fixed word row ≡ b → flow_in (found_word word (found word rows)) ≡ Plain
        → flow_in (found_word word (found word (row ∷ rows))) ≡ Plain
    by_test true has rest = ap (λ (o : Option Insn). flow_in (found_word word o)) (found-here word row rows has) ∙ all.0 has
    by_test false lacks rest = ap (λ (o : Option Insn). flow_in (found_word word o)) (found-past word row rows lacks) ∙ rest

-- a word that is neither branch nor jump
pub record JumpsNot (word : ℕ) : Type 0 where
  pub branch : bits_of word 6 0 ≢ 0x63
  pub jalr : bits_of word 6 0 ≢ 0x67
  pub jal : bits_of word 6 0 ≢ 0x6f
  pub mret : bits_of word 31 0 ≢ 0x30200073

pub plain_flow : (word : ℕ) → JumpsNot word → flow_in (found_word word (decode_of word)) ≡ Plain
unfolding decode_of table
plain_flow word o = find_plain word table (
  λ has. refl,
  (
    λ has. refl,
    (
      other word 0x6f _ o.jal,
      (
        other word 0x67 _ o.jalr,
        (
          other word 0x63 _ o.branch,
          (
            other word 0x63 _ o.branch,
            (
              other word 0x63 _ o.branch,
              (
                other word 0x63 _ o.branch,
                (
                  other word 0x63 _ o.branch,
                  (
                    other word 0x63 _ o.branch,
                    (
                      λ has. refl,
                      (
                        λ has. refl,
                        (
                          λ has. refl,
                          (
                            λ has. refl,
                            (
                              λ has. refl,
                              (
                                λ has. refl,
                                (
                                  λ has. refl,
                                  (
                                    λ has. refl,
                                    (
                                      λ has. refl,
                                      (
                                        λ has. refl,
                                        (
                                          λ has. refl,
                                          (
                                            λ has. refl,
                                            (
                                              λ has. refl,
                                              (
                                                λ has. refl,
                                                (
                                                  λ has. refl,
                                                  (
                                                    λ has. refl,
                                                    (
                                                      λ has. refl,
                                                      (
                                                        λ has. refl,
                                                        (
                                                          λ has. refl,
                                                          (
                                                            λ has. refl,
                                                            (
                                                              λ has. refl,
                                                              (
                                                                λ has. refl,
                                                                (
                                                                  λ has. refl,
                                                                  (
                                                                    λ has. refl,
                                                                    (
                                                                      λ has. refl,
                                                                      (
                                                                        λ has. refl,
                                                                        (
                                                                          λ has. refl,
                                                                          (
                                                                            λ has. refl,
                                                                            (
                                                                              λ has. refl,
                                                                              (
                                                                                λ has. refl,
                                                                                (
                                                                                  λ has. refl,
                                                                                  (
                                                                                    λ has. refl,
                                                                                    (
                                                                                      λ has. refl,
                                                                                      (
                                                                                        λ has. refl,
                                                                                        (
                                                                                          λ has. refl,
                                                                                          (
                                                                                            λ has. refl,
                                                                                            (
                                                                                              λ has. refl,
                                                                                              (
                                                                                                λ has. refl,
                                                                                                (
                                                                                                  λ has. refl,
                                                                                                  (
                                                                                                    whole_other word 0x30200073 o.mret,
                                                                                                    (
                                                                                                      λ has. refl,
                                                                                                      (
                                                                                                        λ has. refl,
                                                                                                        (
                                                                                                          λ has. refl,
                                                                                                          (
                                                                                                            λ has. refl,
                                                                                                            (
                                                                                                              λ has. refl,
                                                                                                              (
                                                                                                                λ has. refl,
                                                                                                                (λ has. refl, tt),
                                                                                                              ),
                                                                                                            ),
                                                                                                          ),
                                                                                                        ),
                                                                                                      ),
                                                                                                    ),
                                                                                                  ),
                                                                                                ),
                                                                                              ),
                                                                                            ),
                                                                                          ),
                                                                                        ),
                                                                                      ),
                                                                                    ),
                                                                                  ),
                                                                                ),
                                                                              ),
                                                                            ),
                                                                          ),
                                                                        ),
                                                                      ),
                                                                    ),
                                                                  ),
                                                                ),
                                                              ),
                                                            ),
                                                          ),
                                                        ),
                                                      ),
                                                    ),
                                                  ),
                                                ),
                                              ),
                                            ),
                                          ),
                                        ),
                                      ),
                                    ),
                                  ),
                                ),
                              ),
                            ),
                          ),
                        ),
                      ),
                    ),
                  ),
                ),
              ),
            ),
          ),
        ),
      ),
    ),
  ),
)

-- MRET jumps
pub mret_flow : (word : ℕ) → word ≡ 0x30200073 → flow_in (found_word word (decode_of word)) ≡ Jump
unfolding decode_of table
mret_flow word is = ap (λ (w : ℕ). flow_in (found_word w (decode_of w))) is

-- the rows that a word has are no FENCE.I
abbrev HaveNone : ℕ → List Row → Type 0
HaveNone word [] = Unit
HaveNone word (row ∷ rows) = (has_fixed word row ≡ true → is_fence_i_insn (row.insn word) ≡ false) × HaveNone word rows

find_none : (word : ℕ) (rows : List Row) → HaveNone word rows → is_fence_i (found_word word (found word rows)) ≡ false
find_none word [] all = refl
find_none word (row ∷ rows) all = by_test (has_fixed word row) refl (find_none word rows all.1)
  where
    by_test : (b : Bool) → has_fixed word row ≡ b → is_fence_i (found_word word (found word rows)) ≡ false
        → is_fence_i (found_word word (found word (row ∷ rows))) ≡ false
    by_test true has rest = ap (λ (o : Option Insn). is_fence_i (found_word word o)) (found-here word row rows has) ∙ all.0 has
    by_test false lacks rest = ap (λ (o : Option Insn). is_fence_i (found_word word o)) (found-past word row rows lacks) ∙ rest

pub no_fence : (word : ℕ) → bits_of word 6 0 ≢ 0x0f → is_fence_i (found_word word (decode_of word)) ≡ false
unfolding decode_of table
no_fence word not_fence = find_none word table (
  λ has. refl,
  (
    λ has. refl,
    (
      λ has. refl,
      (
        λ has. refl,
        (
          λ has. refl,
          (
            λ has. refl,
            (
              λ has. refl,
              (
                λ has. refl,
                (
                  λ has. refl,
                  (
                    λ has. refl,
                    (
                      λ has. refl,
                      (
                        λ has. refl,
                        (
                          λ has. refl,
                          (
                            λ has. refl,
                            (
                              λ has. refl,
                              (
                                λ has. refl,
                                (
                                  λ has. refl,
                                  (
                                    λ has. refl,
                                    (
                                      λ has. refl,
                                      (
                                        λ has. refl,
                                        (
                                          λ has. refl,
                                          (
                                            λ has. refl,
                                            (
                                              λ has. refl,
                                              (
                                                λ has. refl,
                                                (
                                                  λ has. refl,
                                                  (
                                                    λ has. refl,
                                                    (
                                                      λ has. refl,
                                                      (
                                                        λ has. refl,
                                                        (
                                                          λ has. refl,
                                                          (
                                                            λ has. refl,
                                                            (
                                                              λ has. refl,
                                                              (
                                                                λ has. refl,
                                                                (
                                                                  λ has. refl,
                                                                  (
                                                                    λ has. refl,
                                                                    (
                                                                      λ has. refl,
                                                                      (
                                                                        λ has. refl,
                                                                        (
                                                                          λ has. refl,
                                                                          (
                                                                            λ has. refl,
                                                                            (
                                                                              λ has. refl,
                                                                              (
                                                                                λ has. refl,
                                                                                (
                                                                                  λ has. refl,
                                                                                  (
                                                                                    λ has. refl,
                                                                                    (
                                                                                      λ has. refl,
                                                                                      (
                                                                                        λ has. refl,
                                                                                        (
                                                                                          λ has. refl,
                                                                                          (
                                                                                            λ has. refl,
                                                                                            (
                                                                                              other word 0x0f _ not_fence,
                                                                                              (
                                                                                                λ has. refl,
                                                                                                (
                                                                                                  λ has. refl,
                                                                                                  (
                                                                                                    λ has. refl,
                                                                                                    (
                                                                                                      λ has. refl,
                                                                                                      (
                                                                                                        λ has. refl,
                                                                                                        (
                                                                                                          λ has. refl,
                                                                                                          (
                                                                                                            λ has. refl,
                                                                                                            (
                                                                                                              λ has. refl,
                                                                                                              (
                                                                                                                λ has. refl,
                                                                                                                (λ has. refl, tt),
                                                                                                              ),
                                                                                                            ),
                                                                                                          ),
                                                                                                        ),
                                                                                                      ),
                                                                                                    ),
                                                                                                  ),
                                                                                                ),
                                                                                              ),
                                                                                            ),
                                                                                          ),
                                                                                        ),
                                                                                      ),
                                                                                    ),
                                                                                  ),
                                                                                ),
                                                                              ),
                                                                            ),
                                                                          ),
                                                                        ),
                                                                      ),
                                                                    ),
                                                                  ),
                                                                ),
                                                              ),
                                                            ),
                                                          ),
                                                        ),
                                                      ),
                                                    ),
                                                  ),
                                                ),
                                              ),
                                            ),
                                          ),
                                        ),
                                      ),
                                    ),
                                  ),
                                ),
                              ),
                            ),
                          ),
                        ),
                      ),
                    ),
                  ),
                ),
              ),
            ),
          ),
        ),
      ),
    ),
  ),
)

pub not_eq : (a b : ℕ) → a ≢ b → nat_eq a b ≡ false
not_eq a b differs = by_test (nat_eq a b) refl
  where
    by_test : (t : Bool) → nat_eq a b ≡ t → t ≡ false
    by_test true same = absurd (differs (eqb-true a b same))
    by_test false other = refl
