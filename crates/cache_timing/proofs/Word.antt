-- A word of ages that grows at its low end.
use Rattle.std.proofs.Common.{◌≡◌, ◌⊎◌, inl, inr, ℕ, ◌+◌, ◌-◌, ◌*◌, ◌/◌, ◌%◌, ◌^◌, ◌<◌, ◌≤◌, arith, lit<, ap, sym, ◌∙◌}
use Rattle.std.proofs.Math.Nat.{pow-le-pow_right}
use Rattle.std.proofs.lemmas.Nat.{shr-shr, pow-add}
use Rattle.std.proofs.lemmas.Bool.{cases_eq}
use Rattle.cache_timing.specs.Ages.{age_of, age_after}

pub age_of-grown_first : (word age : ℕ) → age < 16 → age_of (word * 16 + age) 0 ≡ age
age_of-grown_first word age small = omega arith

pub age_of-grown_next : (word age way : ℕ) → age < 16 → age_of (word * 16 + age) (way + 1) ≡ age_of word way
age_of-grown_next word age way small =
    let four : 4 * (way + 1) ≡ 4 + 4 * way = omega arith in
    let cut : (word * 16 + age) / 2 ^ 4 ≡ word = omega arith in
    ap (λ n. (word * 16 + age) / 2 ^ n % 16) four
    ∙ ap (λ n. n % 16) (sym (shr-shr (word * 16 + age) 4 (4 * way)))
    ∙ ap (λ n. n / 2 ^ (4 * way) % 16) cut

pub grown-lt : (word age ways : ℕ) → word < 2 ^ (4 * ways) → age < 16 → word * 16 + age < 2 ^ (4 * (ways + 1))
grown-lt word age ways within small =
    let four : 4 * (ways + 1) ≡ 4 * ways + 4 = omega arith in
    rw (four, pow-add 2 (4 * ways) 4) (omega arith)

pub grown_fits : (word age ways : ℕ) → word < 2 ^ (4 * ways) → ways ≤ 15 → age < 16 → word * 16 + age < 2 ^ 64
grown_fits word age ways within few small =
    let short : 4 * ways ≤ 60 = omega arith in
    let most : 2 ^ (4 * ways) ≤ 2 ^ 60 = pow-le-pow_right (lit< tt) short in omega arith

-- the ways from `first` on have their new ages, at the low end of a word
pub record IsAged (ages ways used first aged : ℕ) : Type 0 where
  pub within : aged < 2 ^ (4 * (ways - first))
  pub new : (way : ℕ) → first ≤ way → way < ways → age_of aged (way - first) ≡ age_after (age_of ages) used way

first_or_past : (first next way : ℕ) → next ≡ first + 1 → first ≤ way → (way ≡ first) ⊎ (next ≤ way)
first_or_past first next way e from = elim (cases_eq way first) [ inl same ↦ inl same | inr other ↦ inr (omega arith) ]

-- the new age at the low end, or one of those before it
aged_at : (ages ways used next first aged age : ℕ) → next ≡ first + 1 → age < 16 → age ≡ age_after (age_of ages) used first →
    IsAged ages ways used next aged → (way : ℕ) → way < ways → (way ≡ first) ⊎ (next ≤ way) →
    age_of (aged * 16 + age) (way - first) ≡ age_after (age_of ages) used way
aged_at ages ways used next first aged age e small is old way h (inl same) =
    let low : way - first ≡ 0 = omega arith in
    rw (low, same) (age_of-grown_first aged age small ∙ is)
aged_at ages ways used next first aged age e small is old way h (inr past) =
    let high : way - first ≡ (way - next) + 1 = omega arith in
    rw high (age_of-grown_next aged age (way - next) small ∙ old.new way past h)

pub IsAged-next : (ages ways used next first aged age : ℕ) → next ≡ first + 1 → next ≤ ways → age < 16 → age ≡ age_after (age_of ages) used first →
    IsAged ages ways used next aged → IsAged ages ways used first (aged * 16 + age)
IsAged-next ages ways used next first aged age e few small is old = record {
  within = (let more : ways - first ≡ (ways - next) + 1 = omega arith in rw more (grown-lt aged age (ways - next) old.within small));
  new = λ way from h. aged_at ages ways used next first aged age e small is old way h (first_or_past first next way e from);
}
