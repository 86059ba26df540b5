-- Parts of code, one behind the other.
use Rattle.std.proofs.Common.{◌≡◌, ℕ, zero, suc, ◌+◌, ◌%◌, ◌<◌, ◌≤◌, get_or, length, All, Result, Ok, Err, OnOk, lit≤, arith, List, [], ◌∷◌, ◌++◌, map, refl, sym, ap, ◌∙◌, add-one, append_assoc}
use Rattle.std.proofs.lemmas.Grind.{flat_map-append}
use Rattle.std.proofs.lemmas.List.{append-nil, map-append}
use Rattle.byteorder.specs.Endian.{little_bytes}
use Rattle.elf_image.specs.declared.segment.Segment.{Segment}
use Rattle.elf_image.specs.Sound.{IsPlaced, IsSound}
use Rattle.elf_image.specs.Write.{words}
use Rattle.rand_pcg.specs.Lcg.{Lcg}
use Rattle.rv_decode.specs.declared.insn.Insn.{Insn}
use Rattle.rv_decode.specs.Encode.{encode_of}
use Rattle.gen_image.specs.Draws.{Code, draw, plain, each}
use Rattle.gen_image.specs.Made.{Adds}
use Rattle.gen_image.specs.Soak.{handler, opening, ending, first_value, block, kinds, soak_code, program_at, plain_ram}

pub bytes-append : (a b : List Insn) → words (map encode_of (a ++ b)) ≡ words (map encode_of a) ++ words (map encode_of b)
bytes-append a b = ap words (map-append encode_of a b) ∙ flat_map-append (little_bytes 4) (map encode_of a) (map encode_of b)

-- no part yet
pub each_none : (part : ℕ → Code) (g : Lcg) (bytes : List ℕ) → Adds (each part 0) g g bytes bytes
unfolding each
each_none part g bytes = record { bytes = sym (append-nil bytes); drawn = refl }

-- one part more
pub each_more : (part : ℕ → Code) (n : ℕ) (before middle after : Lcg) (old now new : List ℕ) → Adds (each part n) before middle old now
    → new ≡ now ++ words (map encode_of (part n middle).0) → after ≡ (part n middle).1 → Adds (each part (n + 1)) before after old new
unfolding each
each_more part n before middle after old now new so_far added drawn =
    let code = (each part n before).0 in
    let same : middle ≡ (each part n before).1 = so_far.drawn in
    rw add-one (record {
      bytes =
          added ∙ ap (λ g. now ++ words (map encode_of (part n g).0)) same
          ∙ ap (λ x. x ++ words (map encode_of (part n (each part n before).1).0)) so_far.bytes
          ∙ append_assoc old (words (map encode_of code)) (words (map encode_of (part n (each part n before).1).0))
          ∙ ap (λ x. old ++ x) (sym (bytes-append code (part n (each part n before).1).0));
      drawn = drawn ∙ ap (λ g. (part n g).1) same;
    })

assoc5 : (a b c d e : List ℕ) → (((a ++ b) ++ c) ++ d) ++ e ≡ a ++ (b ++ (c ++ (d ++ e)))
assoc5 a b c d e = simp append_assoc

five_parts : (a b c d e : List Insn) (b1 b2 b3 b4 b5 : List ℕ) → b1 ≡ words (map encode_of a) → b2 ≡ b1 ++ words (map encode_of b) → b3 ≡ b2 ++ words (map encode_of c)
    → b4 ≡ b3 ++ words (map encode_of d) → b5 ≡ b4 ++ words (map encode_of e) → b5 ≡ words (map encode_of (a ++ (b ++ (c ++ (d ++ (e ++ []))))))
five_parts a b c d e b1 b2 b3 b4 b5 e1 e2 e3 e4 e5 =
    e5 ∙ ap (λ x. x ++ words (map encode_of e)) (e4 ∙ ap (λ x. x ++ words (map encode_of d)) (e3 ∙ ap (λ x. x ++ words (map encode_of c)) (e2 ∙ ap (λ x. x ++ words (map encode_of b)) e1)))
    ∙ sym (bytes-append a (b ++ (c ++ (d ++ (e ++ []))))
    ∙ ap (λ x. words (map encode_of a) ++ x) (bytes-append b (c ++ (d ++ (e ++ [])))
    ∙ ap (λ x. words (map encode_of b) ++ x) (bytes-append c (d ++ (e ++ []))
    ∙ ap (λ x. words (map encode_of c) ++ x) (bytes-append d (e ++ [])
    ∙ ap (λ x. words (map encode_of d) ++ x) (ap (λ x. words (map encode_of x)) (append-nil e)))))
    ∙ sym (assoc5 (words (map encode_of a)) (words (map encode_of b)) (words (map encode_of c)) (words (map encode_of d)) (words (map encode_of e))))

-- the bytes of the whole program, part by part
pub whole_program : (blocks : ℕ) (g middle after : Lcg) (b1 b2 b3 b4 b5 : List ℕ) → b1 ≡ words (map encode_of handler) → b2 ≡ b1 ++ words (map encode_of opening)
    → Adds (each (λ k. first_value (5 + k)) 8) g middle b2 b3 → Adds (each (λ k. block) blocks) middle after b3 b4
    → b5 ≡ b4 ++ words (map encode_of ending) → b5 ≡ words (map encode_of (soak_code blocks g).0)
unfolding soak_code
whole_program blocks g middle after b1 b2 b3 b4 b5 first second values made last =
    let values_code = each (λ k. first_value (5 + k)) 8 in
    let blocks_code : Code = each (λ k. block) blocks in
    five_parts handler opening (values_code g).0 (blocks_code (values_code g).1).0 ending b1 b2 b3 b4 b5 first second values.bytes
    (made.bytes ∙ ap (λ m. b3 ++ words (map encode_of (blocks_code m).0)) values.drawn) last

-- a block of the kind that its draw names
pub adds_kind : {A E : Type 0} (r : Result A E) (k : ℕ) (kind : Code) (before middle after : Lcg) (n : ℕ) (old new xs : List ℕ) → n ≡ (draw before).0 → middle ≡ (draw before).1
    → n % 6 ≡ k → get_or kinds k (plain []) ≡ kind → xs ≡ map encode_of (kind middle).0 → after ≡ (kind middle).1 → OnOk r (new ≡ old ++ words xs) → OnOk r (Adds block before after old new)
adds_kind (Ok done) k kind before middle after n old new xs word next is same code drawn added =
    let made : block before ≡ kind middle =
    ap (λ m. get_or kinds m (plain []) (draw before).1) (ap (λ m. m % 6) (sym word) ∙ is) ∙ ap (λ (code : Code). code (draw before).1) same ∙ ap kind (sym next) in
    record {
      bytes = added ∙ ap (λ x. old ++ words x) (code ∙ ap (λ p. map encode_of p.0) (sym made));
      drawn = drawn ∙ ap (λ p. p.1) (sym made);
    }
adds_kind (Err fault) k kind before middle after n old new xs word next is same code drawn added = added

each_single : (P : Segment → Type 0) (s : Segment) → P s → All P (s ∷ [])
each_single P s p zero d within = p
each_single P s p (suc k) d within = absurd (omega arith)

-- a program that fits in the plain RAM
pub program_sound : (bytes : List ℕ) → 0 < length bytes → length bytes ≤ 16777216 → IsSound (program_at bytes) plain_ram
program_sound bytes some small = record {
  few = lit≤ tt;
  placed = each_single (IsPlaced plain_ram) _ (record { numbered = omega arith; taken = some; filled = omega arith; inside = (omega arith, omega arith) });
  rising = λ i j d lt within. absurd (omega arith);
  apart = λ i j d lt within. absurd (omega arith);
}
