-- Steps in places that go round: what stands in them, one step more, and without the newest and the oldest ones.
use Rattle.std.proofs.Common.{◌≡◌, ◌≢◌, ℕ, ◌+◌, ◌-◌, ◌*◌, ◌%◌, ◌^◌, ◌<◌, ◌≤◌, min, ◌⊎◌, inl, inr, IfSome, subst, false, List, [], ◌∷◌, ◌++◌, length, get_or, set, take, drop, sym, ap, ◌∙◌, bit_and, arith, ext_get_or}
use Rattle.std.proofs.lemmas.Bool.{cases_lt}
use Rattle.std.proofs.lemmas.Nat.{mod-mul-add, and_mask, pow_pos}
use Rattle.std.proofs.lemmas.List.{length-append, length-take, length-drop, length-set, get_or-take, get_or-drop, get_or_append_left, get_or-append_right, get_or-set_same, get_or-set_other, drop_all, take-take, take_more}
use Rattle.undo_journal.specs.declared.past.Past.{Past}
use Rattle.undo_journal.specs.declared.past.Change.TheVariants.{Nothing}
use Rattle.undo_journal.specs.Journal.{Log, IsRising, newest}
use Rattle.undo_journal.specs.Ring.{held, IsRing}
use Rattle.undo_journal.proofs.Steps.{rising_front, rising_without, rising_with_one_more}

-- a number below twice n leaves itself by n, or what it is above n
around : (n k : ℕ) → k < n + n → ((k < n) × (k % n ≡ k)) ⊎ ((n ≤ k) × (k % n + n ≡ k))
around n k below = elim (cases_lt k n) [
  | inl first ↦ let e : k ≡ 0 * n + k = omega arith in inl (first, ap (λ m. m % n) e ∙ mod-mul-add 0 n k first)
  | inr again ↦
      let e : k ≡ 1 * n + (k - n) = omega arith in
      let left : k % n ≡ k - n = ap (λ m. m % n) e ∙ mod-mul-add 1 n (k - n) (omega arith) in
      inr (again, omega (arith, left))
]

-- to go on twice is to go on once
onward : (n first gone i : ℕ) → first < n → gone ≤ n → gone + i ≤ n → ((first + gone) % n + i) % n ≡ (first + (gone + i)) % n
onward n first gone i at le within = elim (around n (first + gone) (omega arith)) [
  | inl on ↦ ap (λ k. k % n) (omega (arith, on.1))
  | inr round ↦
      let here : (first + gone) % n + i < n = omega (arith, round.0, round.1) in
      let e : first + (gone + i) ≡ 1 * n + ((first + gone) % n + i) = omega (arith, round.1) in
      let left : (first + (gone + i)) % n ≡ (first + gone) % n + i = ap (λ m. m % n) e ∙ mod-mul-add 1 n ((first + gone) % n + i) here in
      let same : (first + gone) % n + i ≡ 0 * n + ((first + gone) % n + i) = omega arith in
      ap (λ m. m % n) same ∙ mod-mul-add 0 n ((first + gone) % n + i) here ∙ sym left
]

-- a place that nothing was written to yet
pub blank : Past
blank = record { number = 0; addr = 0; value = 0; register = 0; out = false; change = Nothing }

module _ (places : List Past) (n : ℕ) (long : length places ≡ n) where
  both : length (places ++ places) ≡ n + n
  both = omega (arith, length-append places places)

  pub length_held : (first count : ℕ) → first ≤ n → count ≤ n → length (held places first count) ≡ count
  length_held first count at within = omega (arith, both, length-take count (drop first (places ++ places)), length-drop first (places ++ places))

  -- the step behind so many others
  pub held_at : (first count i : ℕ) (d : Past) → first < n → count ≤ n → i < count → get_or (held places first count) i d ≡ get_or places ((first + i) % n) d
  held_at first count i d at within lt =
      let read : get_or (held places first count) i d ≡ get_or (places ++ places) (first + i) d =
      get_or-take count (drop first (places ++ places)) i d lt ∙ get_or-drop first (places ++ places) i d in
      elim (around n (first + i) (omega arith)) [
        | inl on ↦ read ∙ get_or_append_left places places d (first + i) (omega (arith, on.0)) ∙ ap (λ k. get_or places k d) (sym on.1)
        | inr round ↦
            let e : first + i - n ≡ (first + i) % n = omega (arith, round.0, round.1) in
            read ∙ get_or-append_right places places n (first + i) d long round.0 ∙ ap (λ k. get_or places k d) e
      ]

  -- one step more
  pub held_more : (first count : ℕ) (d : Past) → first < n → count < n → held places first (count + 1) ≡ held places first count ++ get_or places ((first + count) % n) d ∷ []
  held_more first count d at room =
      let all = drop first (places ++ places) in
      let many : count < length all = omega (arith, both, length-drop first (places ++ places)) in
      let last : get_or all count d ≡ get_or places ((first + count) % n) d =
      sym (get_or-take (count + 1) all count d (omega arith)) ∙ held_at first (count + 1) count d at (omega arith) (omega arith) in
      take_more all count d many ∙ ap (λ p. take count all ++ p ∷ []) last

  -- fewer steps
  pub held_fewer : (first count fewer : ℕ) → fewer ≤ count → take fewer (held places first count) ≡ held places first fewer
  held_fewer first count fewer le = take-take fewer count (drop first (places ++ places)) le

  below : (k : ℕ) → k < n + n → k % n < n
  below k lt = elim (around n k lt) [ inl on ↦ omega (arith, on.0, on.1) | inr round ↦ omega (arith, round.0, round.1) ]

  -- without the oldest ones
  pub held_later : (first count gone : ℕ) → first < n → count ≤ n → gone ≤ count → held places ((first + gone) % n) (count - gone) ≡ drop gone (held places first count)
  held_later first count gone at within le =
      let next = (first + gone) % n in
      let next_at : next < n = below (first + gone) (omega arith) in
      let many = length_held next (count - gone) (omega arith) (omega arith) in
      ext_get_or blank (held places next (count - gone)) (drop gone (held places first count))
      (omega (arith, many, length_held first count (omega arith) within, length-drop gone (held places first count)))
      (λ i lt.
      let later : i < count - gone = omega (arith, many) in
      held_at next (count - gone) i blank next_at (omega arith) later
      ∙ ap (λ k. get_or places k blank) (onward n first gone i at (omega arith) (omega arith))
      ∙ sym (get_or-drop gone (held places first count) i blank ∙ held_at first count (gone + i) blank at within (omega arith)))

  -- the newest ones, as far as they stand side by side
  pub held_run : (first count end k : ℕ) → first < n → count ≤ n → 0 < count → end ≡ (first + (count - 1)) % n + 1 → k ≤ count → k ≤ end
      → take k (drop (end - k) places) ≡ drop (count - k) (held places first count)
  held_run first count end k at within some is few side =
      let last : end ≤ n = omega (arith, below (first + (count - 1)) (omega arith)) in
      let many : length (take k (drop (end - k) places)) ≡ k = omega (arith, long, length-take k (drop (end - k) places), length-drop (end - k) places) in
      ext_get_or blank (take k (drop (end - k) places)) (drop (count - k) (held places first count))
      (omega (arith, many, length_held first count (omega arith) within, length-drop (count - k) (held places first count)))
      (λ i lt.
      let inside : i < k = omega (arith, many) in
      let place : (first + (count - k + i)) % n ≡ end - k + i = elim (around n (first + (count - 1)) (omega arith)) [
        | inl on ↦ elim (around n (first + (count - k + i)) (omega arith)) [ inl now ↦ omega (arith, on.1, now.1) | inr far ↦ absurd (omega (arith, on.0, far.0)) ]
        | inr round ↦ elim (around n (first + (count - k + i)) (omega arith)) [ inl near ↦ absurd (omega (arith, round.1, near.0)) | inr now ↦ omega (arith, round.1, now.1) ]
      ] in
      get_or-take k (drop (end - k) places) i blank inside ∙ get_or-drop (end - k) places i blank ∙ ap (λ j. get_or places j blank) (sym place)
      ∙ sym (get_or-drop (count - k) (held places first count) i blank ∙ held_at first count (count - k + i) blank at within (omega arith)))

-- a step written behind the newest one
module _ (places : List Past) (n : ℕ) (long : length places ≡ n) (first count : ℕ) (p : Past) (at : first < n) (room : count < n) where
  abbrev pub place : ℕ
  place = (first + count) % n

  abbrev pub written : List Past
  written = set places place p

  pub long_written : length written ≡ n
  long_written = length-set places place p ∙ long

  others : (i : ℕ) → i < count → (first + i) % n ≢ place
  others i lt same =
      let here : (first + i) % n ≡ (first + count) % n = same in
      elim (around n (first + i) (omega arith)) [
        | inl a ↦ elim (around n (first + count) (omega arith)) [ inl b ↦ absurd (omega (arith, here, a.0, a.1, b.0, b.1)) | inr b ↦ absurd (omega (arith, here, a.0, a.1, b.0, b.1)) ]
        | inr a ↦ elim (around n (first + count) (omega arith)) [ inl b ↦ absurd (omega (arith, here, a.0, a.1, b.0, b.1)) | inr b ↦ absurd (omega (arith, here, a.0, a.1, b.0, b.1)) ]
      ]

  stays : held written first count ≡ held places first count
  stays =
      let many = length_held written n long_written first count (omega arith) (omega arith) in
      ext_get_or p (held written first count) (held places first count) (omega (arith, many, length_held places n long first count (omega arith) (omega arith)))
      (λ i lt.
      let earlier : i < count = omega (arith, many) in
      held_at written n long_written first count i p at (omega arith) earlier ∙ get_or-set_other places place ((first + i) % n) p p (others i earlier)
      ∙ sym (held_at places n long first count i p at (omega arith) earlier))

  pub held_noted : held written first (count + 1) ≡ held places first count ++ p ∷ []
  held_noted =
      let here : place < length places = omega (arith, long, below places n long (first + count) (omega arith)) in
      held_more written n long_written first count p at room ∙ (λ i. stays i ++ get_or-set_same places place p p here i ∷ [])

-- what holds of the places still holds behind each call
module _ (places : List Past) (mask room first count : ℕ) (ring : IsRing places mask room first count) where
  at_first : first < mask + 1
  at_first = omega (arith, ring.oldest)

  few : count ≤ mask + 1
  few = omega (arith, ring.newest, ring.within)

  pub fewer_kept : (k : ℕ) → k ≤ count → IsRing places mask room first k
  fewer_kept k le = record {
    size = ring.size;
    masks = ring.masks;
    bound = ring.bound;
    within = ring.within;
    oldest = ring.oldest;
    newest = omega (arith, ring.newest);
    rising = subst IsRising (held_fewer places (mask + 1) ring.size first count k le) (rising_front k (held places first count) ring.rising);
  }

  pub later_kept : (gone : ℕ) → gone ≤ count → IsRing places mask room ((first + gone) % (mask + 1)) (count - gone)
  later_kept gone le = record {
    size = ring.size;
    masks = ring.masks;
    bound = ring.bound;
    within = ring.within;
    oldest = omega (arith, below places (mask + 1) ring.size (first + gone) (omega (arith, at_first, few)));
    newest = omega (arith, ring.newest);
    rising = subst IsRising (sym (held_later places (mask + 1) ring.size first count gone at_first few le)) (rising_without gone (held places first count) ring.rising);
  }

  pub noted_kept : (p : Past) → count < room → IfSome (newest (held places first count)) (λ q. q.number < p.number)
      → IsRing (set places ((first + count) % (mask + 1)) p) mask room first (count + 1)
  noted_kept p lt above =
      let free : count < mask + 1 = omega (arith, ring.within) in
      record {
        size = long_written places (mask + 1) ring.size first count p at_first free;
        masks = ring.masks;
        bound = ring.bound;
        within = ring.within;
        oldest = ring.oldest;
        newest = omega arith;
        rising = subst IsRising (sym (held_noted places (mask + 1) ring.size first count p at_first free)) (rising_with_one_more (held places first count) p ring.rising above);
      }

  -- what a call behind them gives
  pub noted_steps : (p : Past) → count < room → held (set places ((first + count) % (mask + 1)) p) first (count + 1) ≡ held places first count ++ p ∷ []
  noted_steps p lt = held_noted places (mask + 1) ring.size first count p at_first (omega (arith, ring.within))

  pub held_newest : (place : ℕ) (p : Past) → 0 < count → place ≡ (first + (count - 1)) % (mask + 1) → p ≡ get_or places place p
      → held places first count ≡ held places first (count - 1) ++ p ∷ []
  held_newest place p some is read =
      let one : count - 1 + 1 ≡ count = omega arith in
      let last : p ≡ get_or places ((first + (count - 1)) % (mask + 1)) p = read ∙ ap (λ k. get_or places k p) is in
      ap (held places first) (sym one) ∙ held_more places (mask + 1) ring.size first (count - 1) p at_first (omega (arith, few))
      ∙ ap (λ q. held places first (count - 1) ++ q ∷ []) (sym last)

  pub held_without : (n gone : ℕ) → gone ≡ min n count → held places ((first + gone) % (mask + 1)) (count - gone) ≡ drop n (held places first count)
  held_without n gone is =
      let long = length_held places (mask + 1) ring.size first count (omega (arith, at_first)) few in
      let left = held_later places (mask + 1) ring.size first count gone at_first few (omega (arith, is)) in
      elim (cases_lt n count) [
        | inl fewer ↦ left ∙ ap (λ k. drop k (held places first count)) (omega (arith, is))
        | inr all ↦ left ∙ drop_all gone (held places first count) (omega (arith, is, long)) ∙ sym (drop_all n (held places first count) (omega (arith, long)))
      ]

  -- the list that is seen of them
  module _ (log : Log) (is : ◌≡◌ {A = Log} (record { room = room; steps = held places first count }) log) where
    pub length_log : length log.steps ≡ count
    length_log = ap (λ (l : Log). length l.steps) (sym is) ∙ length_held places (mask + 1) ring.size first count (omega (arith, at_first)) few

    pub step_at : (i spot : ℕ) (p : Past) → i < count → spot ≡ (first + i) % (mask + 1) → p ≡ get_or places spot p → get_or log.steps i p ≡ p
    step_at i spot p lt at read =
        ap (λ (l : Log). get_or l.steps i p) (sym is) ∙ held_at places (mask + 1) ring.size first count i p at_first few lt
        ∙ ap (λ k. get_or places k p) (sym at) ∙ sym read

    pub run_newest : (end k : ℕ) (shown : List Past) → 0 < count → end ≡ (first + (count - 1)) % (mask + 1) + 1 → k ≤ count → k ≤ end
        → shown ≡ take k (drop (end - k) places) → shown ≡ drop (length log.steps - length shown) log.steps
    run_newest end k shown some ends fewer side shows =
        let last : (first + (count - 1)) % (mask + 1) < mask + 1 = below places (mask + 1) ring.size (first + (count - 1)) (omega (arith, at_first, few)) in
        let many : length shown ≡ k =
        ap length shows ∙ omega (arith, ring.size, last, ends, length-take k (drop (end - k) places), length-drop (end - k) places) in
        let left : count - k ≡ length log.steps - length shown = omega (arith, length_log, many) in
        let steps : held places first count ≡ log.steps = ap (λ (l : Log). l.steps) is in
        shows ∙ held_run places (mask + 1) ring.size first count end k at_first few some ends fewer side ∙ (λ i. drop (left i) (steps i))

-- no steps in as many places as a power of two
pub empty_ring : (places : List Past) (room k size : ℕ) → size ≡ 2 ^ k → length places ≡ size → room ≤ size → size ≤ 2 ^ 31 → IsRing places (size - 1) room 0 0
empty_ring places room k size power long within bound =
    let some : 0 < size = omega (arith, power, pow_pos k) in
    let above : size - 1 + 1 ≡ size = omega arith in
    let below_power : size - 1 ≡ 2 ^ k - 1 = omega (arith, power) in
    record {
      size = long ∙ sym above;
      masks = λ n. ap (bit_and n) below_power ∙ and_mask n k ∙ ap (λ m. n % m) (sym power ∙ sym above);
      bound = omega arith;
      within = omega arith;
      oldest = omega arith;
      newest = omega arith;
      rising = λ i j d before lt. absurd (omega (arith, before, lt));
    }
