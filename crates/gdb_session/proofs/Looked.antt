-- Memory as bytes, one after the other.
use Rattle.std.proofs.Common.{◌≡◌, ℕ, zero, suc, ◌+◌, ◌<◌, ◌≤◌, List, [], ◌∷◌, ◌++◌, length, get_or, Option, Some, None, refl, ap, sym, ◌∙◌, arith}
use Rattle.mono_model.specs.declared.setup.Setup.{Setup}
use Rattle.func_model.specs.Position.{byte_at}
use Rattle.gdb_model.specs.Talk.{bytes_from}

-- the first of them
abbrev before : Option ℕ → List ℕ → List ℕ
before None rest = []
before (Some byte) rest = byte ∷ rest

at_first : (s : Setup) (at addr n : ℕ) (o : Option ℕ) → byte_at s at addr ≡ o → bytes_from s at addr (suc n) ≡ before o (bytes_from s at (addr + 1) n)
at_first s at addr n None is = rw is refl
at_first s at addr n (Some byte) is = rw is refl

none_at : (s : Setup) (at addr n : ℕ) {P : Type 0} → length (bytes_from s at addr (suc n)) ≡ suc n → byte_at s at addr ≡ None → P
none_at s at addr n full none =
    let empty : bytes_from s at addr (suc n) ≡ [] = at_first s at addr n None none in
    absurd (omega (arith, full, ap length empty))

-- one byte more, after as many as were asked for
more_by : (s : Setup) (at addr n byte : ℕ) (o : Option ℕ) → byte_at s at addr ≡ o → length (bytes_from s at addr (suc n)) ≡ suc n →
    (length (bytes_from s at (addr + 1) n) ≡ n → bytes_from s at (addr + 1) (n + 1) ≡ bytes_from s at (addr + 1) n ++ byte ∷ []) →
    bytes_from s at addr (suc n + 1) ≡ bytes_from s at addr (suc n) ++ byte ∷ []
more_by s at addr n byte None none full more = none_at s at addr n full none
more_by s at addr n byte (Some first) some full more =
    let front : bytes_from s at addr (suc n) ≡ first ∷ bytes_from s at (addr + 1) n = at_first s at addr n (Some first) some in
    let left : length (bytes_from s at (addr + 1) n) ≡ n = omega (arith, full, ap length front) in
    let count : suc n + 1 ≡ suc (n + 1) = omega arith in
    ap (bytes_from s at addr) count ∙ at_first s at addr (n + 1) (Some first) some
    ∙ ap (λ (rest : List ℕ). first ∷ rest) (more left)
    ∙ sym (ap (λ (bytes : List ℕ). bytes ++ byte ∷ []) front)

pub bytes_more : (s : Setup) (at addr n byte : ℕ) → length (bytes_from s at addr n) ≡ n → byte_at s at (addr + n) ≡ Some byte →
    bytes_from s at addr (n + 1) ≡ bytes_from s at addr n ++ byte ∷ []
bytes_more s at addr zero byte full is =
    let here : addr + 0 ≡ addr = omega arith in
    at_first s at addr 0 (Some byte) (ap (byte_at s at) (sym here) ∙ is)
bytes_more s at addr (suc n) byte full is =
    let place : addr + suc n ≡ addr + 1 + n = omega arith in
    more_by s at addr n byte (byte_at s at addr) refl full (λ left. bytes_more s at (addr + 1) n byte left (ap (byte_at s at) (sym place) ∙ is))

-- they end before the first that isn't there
end_by : (s : Setup) (at addr n m : ℕ) (o : Option ℕ) → byte_at s at addr ≡ o → length (bytes_from s at addr (suc n)) ≡ suc n →
    (length (bytes_from s at (addr + 1) n) ≡ n → bytes_from s at (addr + 1) m ≡ bytes_from s at (addr + 1) n) →
    bytes_from s at addr (suc m) ≡ bytes_from s at addr (suc n)
end_by s at addr n m None none full same = none_at s at addr n full none
end_by s at addr n m (Some first) some full same =
    let front : bytes_from s at addr (suc n) ≡ first ∷ bytes_from s at (addr + 1) n = at_first s at addr n (Some first) some in
    let left : length (bytes_from s at (addr + 1) n) ≡ n = omega (arith, full, ap length front) in
    at_first s at addr m (Some first) some ∙ ap (λ (rest : List ℕ). first ∷ rest) (same left) ∙ sym front

pub bytes_end : (s : Setup) (at addr n m : ℕ) → length (bytes_from s at addr n) ≡ n → byte_at s at (addr + n) ≡ None → n ≤ m →
    bytes_from s at addr m ≡ bytes_from s at addr n
bytes_end s at addr zero zero full none within = refl
bytes_end s at addr zero (suc m) full none within =
    let here : addr + 0 ≡ addr = omega arith in
    at_first s at addr m None (ap (byte_at s at) (sym here) ∙ none)
bytes_end s at addr (suc n) zero full none within = absurd (omega (arith, within))
bytes_end s at addr (suc n) (suc m) full none within =
    let place : addr + suc n ≡ addr + 1 + n = omega arith in
    end_by s at addr n m (byte_at s at addr) refl full
    (λ left. bytes_end s at (addr + 1) n m left (ap (byte_at s at) (sym place) ∙ none) (omega (arith, within)))

-- each of them is what is there
there_by : (s : Setup) (at addr n : ℕ) (o : Option ℕ) → byte_at s at addr ≡ o →
    ((k : ℕ) → k < length (bytes_from s at (addr + 1) n) → byte_at s at (addr + 1 + k) ≡ Some (get_or (bytes_from s at (addr + 1) n) k 0)) →
    (k : ℕ) → k < length (bytes_from s at addr (suc n)) → byte_at s at (addr + k) ≡ Some (get_or (bytes_from s at addr (suc n)) k 0)
there_by s at addr n None none later k below =
    let empty : bytes_from s at addr (suc n) ≡ [] = at_first s at addr n None none in
    absurd (omega (arith, below, ap length empty))
there_by s at addr n (Some first) some later zero below =
    let here : addr + 0 ≡ addr = omega arith in
    let front : bytes_from s at addr (suc n) ≡ first ∷ bytes_from s at (addr + 1) n = at_first s at addr n (Some first) some in
    ap (byte_at s at) here ∙ some ∙ sym (ap (λ (bytes : List ℕ). Some (get_or bytes 0 0)) front)
there_by s at addr n (Some first) some later (suc k) below =
    let front : bytes_from s at addr (suc n) ≡ first ∷ bytes_from s at (addr + 1) n = at_first s at addr n (Some first) some in
    let place : addr + suc k ≡ addr + 1 + k = omega arith in
    ap (byte_at s at) place ∙ later k (omega (arith, below, ap length front))
    ∙ sym (ap (λ (bytes : List ℕ). Some (get_or bytes (suc k) 0)) front)

pub bytes_there : (s : Setup) (at addr n k : ℕ) → k < length (bytes_from s at addr n) → byte_at s at (addr + k) ≡ Some (get_or (bytes_from s at addr n) k 0)
bytes_there s at addr zero k below = absurd (omega (arith, below))
bytes_there s at addr (suc n) k below = there_by s at addr n (byte_at s at addr) refl (bytes_there s at (addr + 1) n) k below

-- where each of some bytes is there, they are the bytes
pub bytes_all : (s : Setup) (at addr : ℕ) (bytes : List ℕ) → ((k : ℕ) → k < length bytes → byte_at s at (addr + k) ≡ Some (get_or bytes k 0)) →
    bytes_from s at addr (length bytes) ≡ bytes
bytes_all s at addr [] each = refl
bytes_all s at addr (byte ∷ bytes) each =
    let here : addr + 0 ≡ addr = omega arith in
    at_first s at addr (length bytes) (Some byte) (ap (byte_at s at) (sym here) ∙ each 0 (omega arith))
    ∙ ap (λ (rest : List ℕ). byte ∷ rest) (bytes_all s at (addr + 1) bytes (λ k below.
    let place : addr + 1 + k ≡ addr + suc k = omega arith in
    ap (byte_at s at) place ∙ each (suc k) (omega (arith, below))))
