-- The pages that hold text, one after the other.
use Rattle.std.proofs.Common.{◌≡◌, ℕ, zero, suc, ◌+◌, ◌*◌, ◌/◌, ◌≤◌, ◌<◌, Bool, true, false, [], refl, sym, ap, ◌∙◌, arith, add-one, cond}
use Rattle.std.specs.Prelude.{◌||◌, count_by}
use Rattle.std.specs.List.{list_any, range_with_len}
use Rattle.std.proofs.lemmas.List.Sums.{sum_by-cons}
use Rattle.fsim_base.specs.declared.access.RamRange.{RamRange}
use Rattle.elf_image.specs.declared.image.Image.{Image}
use Rattle.elf_image.specs.Load.{is_executable}
use Rattle.mono_model.specs.Found.{has_text}
use Rattle.text_rows.specs.Pages.{holds_text, text_pages}

none_from : (p : ℕ → Bool) (from n : ℕ) → ((k : ℕ) → k < n → p (from + k) ≡ false) → list_any p (range_with_len from n) ≡ false
none_from p from zero none = refl
none_from p from (suc n) none =
    let here : p from ≡ false = ap p (omega arith) ∙ none 0 (omega arith) in
    rw here (none_from p (from + 1) n (λ k below. ap p (omega arith) ∙ none (k + 1) (omega arith)))

some_from : (p : ℕ → Bool) (from n k : ℕ) → k < n → p (from + k) ≡ true → list_any p (range_with_len from n) ≡ true
some_from p from zero k below is = absurd (omega arith)
some_from p from (suc n) zero below is = let here : p from ≡ true = ap p (omega arith) ∙ is in rw here refl
some_from p from (suc n) (suc k) below is = or_true (p from) _ (some_from p (from + 1) n k (omega arith) (ap p (omega arith) ∙ is))
  where
    or_true : (a b : Bool) → b ≡ true → (a || b) ≡ true
    or_true true b is = refl
    or_true false b is = is

pub holds_none : (image : Image) (page : ℕ) → ((k : ℕ) → k < 1024 → has_text image (page + 4 * k) ≡ false) → holds_text image page ≡ false
unfolding holds_text
holds_none image page none = none_from (λ word. has_text image (page + 4 * word)) 0 1024 (λ k below. ap (λ (n : ℕ). has_text image (page + 4 * n)) (omega arith) ∙ none k below)

pub holds_some : (image : Image) (page k : ℕ) → k < 1024 → has_text image (page + 4 * k) ≡ true → holds_text image page ≡ true
unfolding holds_text
holds_some image page k below is = some_from (λ word. has_text image (page + 4 * word)) 0 1024 k below (ap (λ (n : ℕ). has_text image (page + 4 * n)) (omega arith) ∙ is)

-- a word whose first byte lies in no executable segment is none of text
pub unreached_text : (image : Image) (addr : ℕ) → is_executable image addr ≡ false → has_text image addr ≡ false
unreached_text image addr none = rw none refl

-- one number more
abbrev one : Bool → ℕ
one b = cond b 1 0

count_from : (p : ℕ → Bool) (from n : ℕ) → count_by p (range_with_len from (suc n)) ≡ count_by p (range_with_len from n) + one (p (from + n))
count_from p from zero =
    let at : from + 0 ≡ from = omega arith in
    let same : one (p (from + 0)) ≡ one (p from) = ap (λ (k : ℕ). one (p k)) at in
    let left : count_by p (range_with_len from 1) ≡ one (p from) + count_by p [] = sum_by-cons (λ k. one (p k)) from [] in
    let none : count_by p [] ≡ 0 = refl in
    omega (arith, left, same, none)
count_from p from (suc n) =
    let at : from + 1 + n ≡ from + suc n = omega arith in
    let same : one (p (from + 1 + n)) ≡ one (p (from + suc n)) = ap (λ (k : ℕ). one (p k)) at in
    let left : count_by p (range_with_len from (suc (suc n))) ≡ one (p from) + count_by p (range_with_len (from + 1) (suc n)) = sum_by-cons (λ k. one (p k)) from (range_with_len (from + 1) (suc n)) in
    let right : count_by p (range_with_len from (suc n)) ≡ one (p from) + count_by p (range_with_len (from + 1) n) = sum_by-cons (λ k. one (p k)) from (range_with_len (from + 1) n) in
    omega (arith, left, right, same, count_from p (from + 1) n)

-- how many of the first pages hold text
pub record PagesTo (image : Image) (ram : RamRange) (page count : ℕ) : Type 0 where
  pub counted : count ≡ count_by (λ k. holds_text image (ram.base + 4096 * k)) (range_with_len 0 page)
  pub within : count ≤ page

abbrev page_at : Image → RamRange → ℕ → Bool
page_at image ram k = holds_text image (ram.base + 4096 * k)

-- one page more, with text and without
counts_next : (image : Image) (ram : RamRange) (page : ℕ) (b : Bool) → holds_text image (ram.base + 4096 * page) ≡ b →
    count_by (page_at image ram) (range_with_len 0 (page + 1)) ≡ count_by (page_at image ram) (range_with_len 0 page) + one b
counts_next image ram page b is =
    let place : page + 1 ≡ suc page = add-one page in
    let at : 0 + page ≡ page = omega arith in
    let more : one (page_at image ram (0 + page)) ≡ one b = ap (λ (k : ℕ). one (page_at image ram k)) at ∙ ap one is in
    ap (λ (n : ℕ). count_by (page_at image ram) (range_with_len 0 n)) place
    ∙ count_from (page_at image ram) 0 page
    ∙ ap (λ (n : ℕ). count_by (page_at image ram) (range_with_len 0 page) + n) more

pub page_with : (image : Image) (ram : RamRange) (page count : ℕ) → PagesTo image ram page count → holds_text image (ram.base + 4096 * page) ≡ true → PagesTo image ram (page + 1) (count + 1)
page_with image ram page count to is =
    record { counted = ap (λ (n : ℕ). n + 1) to.counted ∙ sym (counts_next image ram page true is); within = omega (arith, to.within) }

pub page_without : (image : Image) (ram : RamRange) (page count : ℕ) → PagesTo image ram page count → holds_text image (ram.base + 4096 * page) ≡ false → PagesTo image ram (page + 1) count
page_without image ram page count to is =
    let same : count + 0 ≡ count = omega arith in
    record { counted = sym same ∙ ap (λ (n : ℕ). n + 0) to.counted ∙ sym (counts_next image ram page false is); within = omega (arith, to.within) }

pub pages_all : (image : Image) (ram : RamRange) (page count : ℕ) → PagesTo image ram page count → page ≡ ram.size / 4096 → count ≡ text_pages image ram
unfolding text_pages
pages_all image ram page count to all = to.counted ∙ ap (λ (n : ℕ). count_by (page_at image ram) (range_with_len 0 n)) all
