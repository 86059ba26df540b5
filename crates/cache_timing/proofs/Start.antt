-- The ages at the start: each way's own number.
use Rattle.std.proofs.Common.{◌≡◌, ℕ, zero, suc, ◌*◌, ◌^◌, ◌<◌, ◌≤◌, ◌==◌, ◌&&◌, inl, inr, Bool, true, [], arith, refl, ap, ◌∙◌, sym, subst}
use Rattle.std.specs.Prelude.{Option, None, IfSome, replicate, slice_index}
use Rattle.std.proofs.lemmas.Bool.{cases_eq}
use Rattle.std.proofs.lemmas.List.{get_or-replicate}
use Rattle.std.proofs.lemmas.Grind.{common_steps}
use Rattle.std.proofs.lemmas.List.Elements.{All-nil}
use Rattle.cache_timing.specs.declared.ages.TheConstants.{START}
use Rattle.cache_timing.specs.declared.params.CacheParams.{CacheParams}
use Rattle.cache_timing.specs.declared.cache.Line.{Line}
use Rattle.cache_timing.specs.declared.cache.Cache.{Cache}
use Rattle.cache_timing.specs.Ages.{age_of}
use Rattle.cache_timing.specs.CacheStandsFor.{IsSet, IsFirst, CacheStandsFor, line_at, age_at, latest_at}
use Rattle.cache_timing.specs.Cache.{no_lines}

-- whether each of so many ways has its own number as its age
abbrev own_ages : ℕ → Bool
own_ages zero = true
own_ages (suc ways) = (age_of START ways == ways) && own_ages ways

own_age : (ways : ℕ) → own_ages ways ≡ true → (way : ℕ) → way < ways → age_of START way ≡ way
own_age zero h way l = absurd (omega arith)
own_age (suc ways) h way l =
    elim (cases_eq way ways) [ inl e ↦ grind (arith, e, h) | inr e ↦ own_age ways (grind (arith, h)) way (omega arith) ]

pub age_of-start : (way : ℕ) → way < 16 → age_of START way ≡ way
age_of-start way l = own_age 16 refl way l

pub IsSet-start : (p : CacheParams) (line : ℕ → Option Line) (age : ℕ → ℕ) → ((way : ℕ) → way < p.ways → line way ≡ None) →
    ((way : ℕ) → way < p.ways → age way ≡ way) → IsSet p line age []
IsSet-start p line age nothing own = record {
  order = record {
    way = λ a. a;
    age_within = λ w h. omega (arith, own w h);
    way_within = λ a h. h;
    age_of_way = own;
    way_of_age = own;
  };
  within = omega arith;
  lines = nothing;
  distinct = tt;
  fit = All-nil (λ (l : Line). l.number * p.line < 2 ^ 32);
}

-- each way of a new cache holds nothing
empty_line : (it : Cache) (count : ℕ) → it.lines.items ≡ replicate count None → (set way : ℕ) → line_at it set way ≡ None
empty_line it count e set way = grind (arith, e, common_steps)

-- and no set has a latest line
empty_latest : (it : Cache) (count : ℕ) → it.latest.items ≡ replicate count None → (set : ℕ) → latest_at it set ≡ None
empty_latest it count e set = grind (arith, e, common_steps)

start_age : (it : Cache) → it.ages.items ≡ replicate it.params.sets START → it.params.ways ≤ 16 → (set way : ℕ) → set < it.params.sets →
    way < it.params.ways → age_at it set way ≡ way
start_age it e few set way within here =
    ap (λ ages. age_of (slice_index ages set) way) e
    ∙ ap (λ word. age_of word way) (get_or-replicate it.params.sets set START 0 within) ∙ age_of-start way (omega arith)

pub CacheStandsFor-start : (it : Cache) (count : ℕ) → it.lines.items ≡ replicate count None → it.ages.items ≡ replicate it.params.sets START →
    it.latest.items ≡ replicate it.params.sets None → it.params.ways ≤ 16 → CacheStandsFor it it.params it.back no_lines
CacheStandsFor-start it count lines ages latest few = record {
  sizes = refl;
  policy = refl;
  lists = λ i within.
      IsSet-start it.params (line_at it i) (age_at it i) (λ way here. empty_line it count lines i way)
      (λ way here. start_age it ages few i way within here);
  latest = λ i within. subst (λ o. IfSome o (IsFirst (no_lines i))) (sym (empty_latest it it.params.sets latest i)) tt;
}
