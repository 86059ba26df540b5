-- Bytes put into a page and read from it.
use Rattle.std.proofs.Common.{◌≡◌, ℕ, zero, suc, ◌+◌, ◌-◌, ◌/◌, ◌%◌, ◌<◌, ◌≤◌, List, [], ◌∷◌, ◌++◌, length, take, drop, set, refl, ap, sym, ◌∙◌, arith, append_assoc, append-nil, add-one, length-set, length-drop}
use Rattle.std.proofs.Math.Seq.{take-suc-set}
use Rattle.std.proofs.lemmas.Bool.Decides.{nat_tests}
use Rattle.std.proofs.lemmas.List.{take-append-drop, take_all, drop_all, drop-drop, drop-set-lt, get_or-set_other}
use Rattle.std.proofs.lemmas.Grind.{get_or-set_at}
use borrow.Rule.Slice.PartMut.{mid_of, put_mid}
use Rattle.byteorder.specs.Endian.{little_bytes}
use Rattle.fsim_base.specs.Memory.{put_byte, put_bytes}
use Rattle.phys_mem.specs.PageBytes.{bytes_of}

-- a list with some items set, one after the other from a place on
abbrev sets : List ℕ → ℕ → List ℕ → List ℕ
sets page at [] = page
sets page at (b ∷ bytes) = sets (set page at b) (at + 1) bytes

-- a part of a list written over
over_sets : (bytes page : List ℕ) (at : ℕ) → at + length bytes ≤ length page
    → take at page ++ (bytes ++ drop (length bytes) (drop at page)) ≡ sets page at bytes
over_sets [] page at fits = take-append-drop at page
over_sets (b ∷ bytes) page at fits =
    let long = length-set page at b in
    let front = take-suc-set page at b (omega arith) in
    let back = drop-set-lt (at + 1) page at b (omega arith) in
    let rest : drop (suc (length bytes)) (drop at page) ≡ drop (length bytes) (drop (at + 1) page) =
    drop-drop (suc (length bytes)) at page ∙ ap (λ k. drop k page) (omega arith) ∙ sym (drop-drop (length bytes) (at + 1) page) in
    ap (λ r. take at page ++ (b ∷ (bytes ++ r))) rest
    ∙ sym (append_assoc (take at page) (b ∷ []) (bytes ++ drop (length bytes) (drop (at + 1) page)))
    ∙ (λ i. (sym front ∙ ap (λ k. take k (set page at b)) (sym (add-one at))) i ++ (bytes ++ drop (length bytes) (sym back i)))
    ∙ over_sets bytes (set page at b) (at + 1) (omega arith)

-- setting an item of a page puts a byte into it
bytes_of-set : (page : List ℕ) (at b : ℕ) → at < length page → bytes_of (set page at b) ≡ put_byte at b (bytes_of page)
bytes_of-set page at b fits =
    let same : (x : ℕ) → bytes_of (set page at b) x ≡ put_byte at b (bytes_of page) x = λ x. grind (arith, nat_tests, get_or-set_at, get_or-set_other) in
    λ i x. same x i

-- the low bytes of a number, the lowest first
abbrev digits : ℕ → ℕ → List ℕ
digits zero value = []
digits (suc count) value = value % 256 ∷ digits count (value / 256)

bytes_of-sets : (count : ℕ) (page : List ℕ) (at value : ℕ) → at + count ≤ length page
    → bytes_of (sets page at (digits count value)) ≡ put_bytes count at value (bytes_of page)
bytes_of-sets zero page at value fits = refl
bytes_of-sets (suc count) page at value fits =
    let long = length-set page at (value % 256) in
    bytes_of-sets count (set page at (value % 256)) (at + 1) (value / 256) (omega arith)
    ∙ ap (put_bytes count (at + 1) (value / 256)) (bytes_of-set page at (value % 256) (omega arith))

digits_two : (value : ℕ) → little_bytes 2 value ≡ digits 2 value
digits_two value = λ i. value % 256 ∷ value / 256 % 256 ∷ []

digits_four : (value : ℕ) → little_bytes 4 value ≡ digits 4 value
digits_four value =
    let third : value / 65536 % 256 ≡ value / 256 / 256 % 256 = omega arith in
    let fourth : value / 16777216 % 256 ≡ value / 256 / 256 / 256 % 256 = omega arith in
    λ i. value % 256 ∷ value / 256 % 256 ∷ third i ∷ fourth i ∷ []

-- the low half of a number has its low bytes
digits_half : (value : ℕ) → digits 2 (value % 65536) ≡ digits 2 value
digits_half value =
    let first : value % 65536 % 256 ≡ value % 256 = omega arith in
    let second : value % 65536 / 256 % 256 ≡ value / 256 % 256 = omega arith in
    λ i. first i ∷ second i ∷ []

-- bytes written over the front of the rest of a page are put into it
over_rest : (page bytes written : List ℕ) (at count value : ℕ) → length page ≡ 4096 → at + count ≤ 4096
    → bytes ≡ digits count value → length bytes ≡ count → written ≡ bytes ++ drop count (mid_of at (4096 - at) page)
    → bytes_of (put_mid at (4096 - at) page written) ≡ put_bytes count at value (bytes_of page)
over_rest page bytes written at count value long fits same size e =
    let rest = drop at page in
    let rest_long : length rest ≡ 4096 - at = length-drop at page ∙ ap (λ k. k - at) long in
    let all : take (4096 - at) rest ≡ rest = take_all (4096 - at) rest (omega arith) in
    let none : drop (4096 - at) rest ≡ [] = drop_all (4096 - at) rest (omega arith) in
    let whole : put_mid at (4096 - at) page written ≡ take at page ++ (bytes ++ drop (length bytes) rest) =
    (λ i. take at page ++ (e i ++ none i)) ∙ ap (λ w. take at page ++ w) (append-nil (bytes ++ drop count (take (4096 - at) rest)))
    ∙ (λ i. take at page ++ (bytes ++ drop (sym size i) (all i))) in
    ap bytes_of (whole ∙ over_sets bytes page at (omega arith))
    ∙ ap (λ b. bytes_of (sets page at b)) same ∙ bytes_of-sets count page at value (omega arith)

pub over_half : (page written : List ℕ) (at value : ℕ) → length page ≡ 4096 → at + 2 ≤ 4096
    → written ≡ little_bytes 2 (value % 65536) ++ drop 2 (mid_of at (4096 - at) page)
    → bytes_of (put_mid at (4096 - at) page written) ≡ put_bytes 2 at value (bytes_of page)
over_half page written at value long fits e =
    over_rest page (little_bytes 2 (value % 65536)) written at 2 value long fits (digits_two (value % 65536) ∙ digits_half value) refl e

pub over_word : (page written : List ℕ) (at value : ℕ) → length page ≡ 4096 → at + 4 ≤ 4096
    → written ≡ little_bytes 4 value ++ drop 4 (mid_of at (4096 - at) page)
    → bytes_of (put_mid at (4096 - at) page written) ≡ put_bytes 4 at value (bytes_of page)
over_word page written at value long fits e =
    over_rest page (little_bytes 4 value) written at 4 value long fits (digits_four value) refl e
