-- Texts that a byte parts which they lack come apart in one way.
use Rattle.std.proofs.Common.{◌≡◌, refl, ap, ℕ, Bool, true, not, ◌&&◌, ◌==◌, [], ◌∷◌, ◌++◌, length, length-append, arith}
use Rattle.std.proofs.lemmas.Bool.{and_parts}
use Rattle.disassembly.specs.Number.{Text}
use Rattle.disassembly.specs.Text.{after_space}

abbrev pub lacks : ℕ → Text → Bool
lacks c [] = true
lacks c (b ∷ bs) = not (b == c) && lacks c bs

-- nothing, or a text that begins with the byte
abbrev pub begins : ℕ → Text → Bool
begins c [] = true
begins c (b ∷ bs) = b == c

pub lacks-append : (c : ℕ) (a b : Text) → lacks c a ≡ true → lacks c b ≡ true → lacks c (a ++ b) ≡ true
lacks-append c [] b p q = q
lacks-append c (x ∷ a) b p q =
    let (here, rest) = and_parts (not (x == c)) (lacks c a) p in
    let tail : lacks c (a ++ b) ≡ true = lacks-append c a b rest q in
    grind arith

pub parted : (c : ℕ) (a b t u : Text) → lacks c a ≡ true → lacks c b ≡ true → begins c t ≡ true → begins c u ≡ true → a ++ t ≡ b ++ u → (a ≡ b) × (t ≡ u)
parted c [] [] t u p q r s e = (refl, e)
parted c [] (y ∷ b) [] u p q r s e = absurd (cc)
parted c [] (y ∷ b) (x ∷ t) u p q r s e =
    let same : x ≡ y = cc in
    let (here, rest) = and_parts (not (y == c)) (lacks c b) q in
    absurd (grind arith)
parted c (x ∷ a) [] t [] p q r s e = absurd (cc)
parted c (x ∷ a) [] t (y ∷ u) p q r s e =
    let same : x ≡ y = cc in
    let (here, rest) = and_parts (not (x == c)) (lacks c a) p in
    absurd (grind arith)
parted c (x ∷ a) (y ∷ b) t u p q r s e =
    let same : x ≡ y = cc in
    let tails : a ++ t ≡ b ++ u = cc in
    let first = and_parts (not (x == c)) (lacks c a) p in
    let second = and_parts (not (y == c)) (lacks c b) q in
    let (here, rest) = parted c a b t u first.1 second.1 r s tails in
    (cc, rest)

pub last_parted : (a b : Text) (x y : ℕ) → a ++ x ∷ [] ≡ b ++ y ∷ [] → (a ≡ b) × (x ≡ y)
last_parted [] [] x y e = (refl, cc)
last_parted [] (z ∷ b) x y e = absurd (omega (arith, ap length e, length-append b (y ∷ [])))
last_parted (z ∷ a) [] x y e = absurd (omega (arith, ap length e, length-append a (x ∷ [])))
last_parted (w ∷ a) (z ∷ b) x y e =
    let same : w ≡ z = cc in
    let tails : a ++ x ∷ [] ≡ b ++ y ∷ [] = cc in
    let (here, rest) = last_parted a b x y tails in
    (cc, rest)

pub two_parted : (a b a' b' : Text) → lacks 44 a ≡ true → lacks 44 a' ≡ true → after_space (a ∷ b ∷ []) ≡ after_space (a' ∷ b' ∷ []) → (a ≡ a') × (b ≡ b')
two_parted a b a' b' p q e =
    let inner : a ++ (44 ∷ b) ≡ a' ++ (44 ∷ b') = cc in
    let (here, rest) = parted 44 a a' (44 ∷ b) (44 ∷ b') p q refl refl inner in
    (here, cc)

pub three_parted : (a b c a' b' c' : Text) → lacks 44 a ≡ true → lacks 44 a' ≡ true → lacks 44 b ≡ true → lacks 44 b' ≡ true
    → after_space (a ∷ b ∷ c ∷ []) ≡ after_space (a' ∷ b' ∷ c' ∷ []) → (a ≡ a') × (b ≡ b') × (c ≡ c')
three_parted a b c a' b' c' p p' q q' e =
    let inner : a ++ (44 ∷ (b ++ (44 ∷ c))) ≡ a' ++ (44 ∷ (b' ++ (44 ∷ c'))) = cc in
    let (here, rest) = parted 44 a a' (44 ∷ (b ++ (44 ∷ c))) (44 ∷ (b' ++ (44 ∷ c'))) p p' refl refl inner in
    let later : b ++ (44 ∷ c) ≡ b' ++ (44 ∷ c') = cc in
    let (middle, last) = parted 44 b b' (44 ∷ c) (44 ∷ c') q q' refl refl later in
    (here, middle, cc)
