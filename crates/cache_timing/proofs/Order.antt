-- The order of the ways by their ages, and how a use changes it.
use Rattle.std.proofs.Common.{◌≡◌, ◌≢◌, ℕ, ◌+◌, ◌-◌, ◌<◌, ◌≤◌, ◌==◌, inl, inr, nat_le, arith, ap, sym, ◌∙◌, if◌then◌else◌}
use Rattle.std.proofs.lemmas.Bool.{cases_eq, cases_lt}
use Rattle.cache_timing.specs.Ages.{IsOrder, age_after}

-- what a use of a way does to the ages
record Uses (ways : ℕ) (age age' : ℕ → ℕ) (used : ℕ) : Type 0 where
  first : age' used ≡ 0
  raised : (w : ℕ) → w < ways → age w < age used → age' w ≡ age w + 1
  kept : (w : ℕ) → w < ways → age used < age w → age' w ≡ age w

pub age_after-first : (age : ℕ → ℕ) (used : ℕ) → age_after age used used ≡ 0
age_after-first age used = grind arith

pub age_after-raised : (age : ℕ → ℕ) (used w : ℕ) → w ≢ used → age w < age used → age_after age used w ≡ age w + 1
age_after-raised age used w other l = grind arith

pub age_after-kept : (age : ℕ → ℕ) (used w : ℕ) → w ≢ used → age used < age w → age_after age used w ≡ age w
age_after-kept age used w other l = grind arith

uses : (ways : ℕ) (age age' : ℕ → ℕ) (used : ℕ) → used < ways → ((w : ℕ) → w < ways → age' w ≡ age_after age used w) → Uses ways age age' used
uses ways age age' used here new = record {
  first = new used here ∙ age_after-first age used;
  raised = λ w h l. new w h ∙ age_after-raised age used w (λ e. absurd (omega (arith, ap age e))) l;
  kept = λ w h l. new w h ∙ age_after-kept age used w (λ e. absurd (omega (arith, ap age e))) l;
}

-- the way at a place of the order after a way was used: that one is first, and those that were before it come one later
abbrev moved_way : (ℕ → ℕ) → ℕ → ℕ → ℕ → ℕ
moved_way way used place a = if a == 0 then used else if nat_le a place then way (a - 1) else way a

first_way : (way : ℕ → ℕ) (used place a : ℕ) → a ≡ 0 → moved_way way used place a ≡ used
first_way way used place a e = grind (arith, e)

raised_way : (way : ℕ → ℕ) (used place a : ℕ) → 0 < a → a ≤ place → moved_way way used place a ≡ way (a - 1)
raised_way way used place a some within = grind arith

kept_way : (way : ℕ → ℕ) (used place a : ℕ) → place < a → moved_way way used place a ≡ way a
kept_way way used place a past = grind arith

-- a place is the first one, or one up to where the used way stood, or one past it
data Part (place a : ℕ) : Type 0 where
  front : a ≡ 0 → Part place a
  before : 0 < a → a ≤ place → Part place a
  behind : place < a → Part place a

part_of : (place a : ℕ) → Part place a
part_of place a = elim (cases_eq a 0) [ inl e ↦ front e | inr e ↦ elim (cases_lt place a) [ inl l ↦ behind l | inr l ↦ before (omega arith) l ] ]

age_of_moved : (ways : ℕ) (age age' : ℕ → ℕ) (used : ℕ) → used < ways → (o : IsOrder ways age) → Uses ways age age' used → (a : ℕ) → a < ways →
    Part (age used) a → age' (moved_way o.way used (age used) a) ≡ a
age_of_moved ways age age' used here o new a h (front e) = rw (first_way o.way used (age used) a e) (omega (arith, new.first))
age_of_moved ways age age' used here o new a h (before some within) =
    let old : age (o.way (a - 1)) ≡ a - 1 = o.age_of_way (a - 1) (omega arith) in
    rw (raised_way o.way used (age used) a some within) (omega (arith, new.raised (o.way (a - 1)) (o.way_within (a - 1) (omega arith)) (omega arith)))
age_of_moved ways age age' used here o new a h (behind past) =
    let old : age (o.way a) ≡ a = o.age_of_way a h in
    rw (kept_way o.way used (age used) a past) (omega (arith, new.kept (o.way a) (o.way_within a h) (omega arith)))

-- a way is the one used, or stands before or behind it
pub data Place (w used age used_age : ℕ) : Type 0 where
  same : w ≡ used → Place w used age used_age
  nearer : age < used_age → Place w used age used_age
  farther : used_age < age → Place w used age used_age

same_age : (ways : ℕ) (age : ℕ → ℕ) (o : IsOrder ways age) (v w : ℕ) → v < ways → w < ways → age v ≡ age w → v ≡ w
same_age ways age o v w hv hw e = sym (o.way_of_age v hv) ∙ ap o.way e ∙ o.way_of_age w hw

pub place_of : (ways : ℕ) (age : ℕ → ℕ) → IsOrder ways age → (used w : ℕ) → used < ways → w < ways → Place w used (age w) (age used)
place_of ways age o used w here h =
    elim (cases_eq (age w) (age used)) [
      | inl e ↦ same (same_age ways age o w used h here e)
      | inr e ↦ elim (cases_lt (age w) (age used)) [ inl l ↦ nearer l | inr l ↦ farther (omega arith) ]
    ]

way_of_moved : (ways : ℕ) (age age' : ℕ → ℕ) (used : ℕ) → used < ways → (o : IsOrder ways age) → Uses ways age age' used → (w : ℕ) → w < ways →
    Place w used (age w) (age used) → moved_way o.way used (age used) (age' w) ≡ w
way_of_moved ways age age' used here o new w h (same e) = first_way o.way used (age used) (age' w) (ap age' e ∙ new.first) ∙ sym e
way_of_moved ways age age' used here o new w h (nearer l) =
    let moved : age' w ≡ age w + 1 = new.raised w h l in
    let back : age' w - 1 ≡ age w = omega arith in
    raised_way o.way used (age used) (age' w) (omega arith) (omega arith) ∙ ap o.way back ∙ o.way_of_age w h
way_of_moved ways age age' used here o new w h (farther l) =
    let stays : age' w ≡ age w = new.kept w h l in
    kept_way o.way used (age used) (age' w) (omega arith) ∙ ap o.way stays ∙ o.way_of_age w h

age_stays_within : (ways : ℕ) (age age' : ℕ → ℕ) (used : ℕ) → used < ways → (o : IsOrder ways age) → Uses ways age age' used → (w : ℕ) → w < ways →
    Place w used (age w) (age used) → age' w < ways
age_stays_within ways age age' used here o new w h (same e) = let first : age' w ≡ 0 = ap age' e ∙ new.first in omega arith
age_stays_within ways age age' used here o new w h (nearer l) = omega (arith, new.raised w h l, o.age_within used here)
age_stays_within ways age age' used here o new w h (farther l) = omega (arith, new.kept w h l, o.age_within w h)

way_stays_within : (ways : ℕ) (age : ℕ → ℕ) (used : ℕ) → used < ways → (o : IsOrder ways age) → (a : ℕ) → a < ways → Part (age used) a →
    moved_way o.way used (age used) a < ways
way_stays_within ways age used here o a h (front e) = omega (arith, first_way o.way used (age used) a e)
way_stays_within ways age used here o a h (before some within) =
    omega (arith, raised_way o.way used (age used) a some within, o.way_within (a - 1) (omega arith))
way_stays_within ways age used here o a h (behind past) = omega (arith, kept_way o.way used (age used) a past, o.way_within a h)

order_again : (ways : ℕ) (age age' : ℕ → ℕ) (used : ℕ) → used < ways → IsOrder ways age → Uses ways age age' used → IsOrder ways age'
order_again ways age age' used here o new = record {
  way = moved_way o.way used (age used);
  age_within = λ w h. age_stays_within ways age age' used here o new w h (place_of ways age o used w here h);
  way_within = λ a h. way_stays_within ways age used here o a h (part_of (age used) a);
  age_of_way = λ a h. age_of_moved ways age age' used here o new a h (part_of (age used) a);
  way_of_age = λ w h. way_of_moved ways age age' used here o new w h (place_of ways age o used w here h);
}

-- after a use the ways are in one order again
pub IsOrder-used : (ways : ℕ) (age age' : ℕ → ℕ) (used : ℕ) → used < ways → IsOrder ways age →
    ((w : ℕ) → w < ways → age' w ≡ age_after age used w) → IsOrder ways age'
IsOrder-used ways age age' used here o new = order_again ways age age' used here o (uses ways age age' used here new)
