-- The rounds to a boundary come to one.
use Rattle.std.proofs.Common.{◌≡◌, ◌⊎◌, ℕ, zero, suc, ◌+◌, ◌*◌, ◌≤◌, ◌<◌, ◌==◌, ◌&&◌, not, is_none, Bool, true, false, Option, Some, None, List, [], ◌∷◌, length, refl, ap, sym, ◌∙◌, subst, arith, inl, inr, ⊎_elim, mul-suc, mul-add, mul-le-mul_left}
use Rattle.std.proofs.lemmas.Bool.{cond_both, and_parts, and_from, eq-eqb}
use Rattle.rollback_cmds.specs.declared.order.Order.{Order}
use Rattle.mono_model.specs.declared.setup.Setup.{Setup}
use Rattle.mono_model.specs.Path.{openings}
use Rattle.mono_model.specs.Demand.{At, interrupting, committing, completing, issuing, trying, ending, stopping, halted, Place, step, told, needs_entry}
use Rattle.mono_model.specs.Split.{Split, may_take, sent, ticked_to, on_tick, may_tick, is_halted, is_cycle_start, is_place_boundary, is_boundary, event_at, round, rounds_to_boundary, boundary_rounds, to_boundary}
use Rattle.machine_laws.specs.SplitLaw.{IsListed}
use Rattle.machine_laws.specs.Reached.{IsReached}
use Rattle.machine_laws.proofs.SplitLeft.{steps_left, step_left, place_left}
use Rattle.machine_laws.proofs.SplitRounds.{waiting_for, send_sends}
use Rattle.machine_laws.proofs.SplitStale.{stale, stale_most}
use Rattle.machine_laws.proofs.SplitBoundary.{before_step, Before, before_is, wait_of, wait_most, waits, none_from, some_none, orders_fewer}
use Rattle.machine_laws.specs.DemandRun.{DemandRun, mono_run}
use Rattle.machine_laws.proofs.Laws.{IsDemandRun}
use Rattle.machine_laws.proofs.MonoRun.{mono_laws}
use Rattle.machine_laws.proofs.SplitRun.{Known}
use Rattle.machine_laws.proofs.SplitDropping.{drops}
use Rattle.machine_laws.proofs.SplitReached.{known, round_reached}

by_stale : (ring : ℕ) (lack now : Bool) (p q st su : ℕ) → lack ≡ true → p ≡ 0 → q ≡ 0 → su < st → wait_of ring now q su < wait_of ring lack p st
by_stale ring false now p q st su is e f less = cc
by_stale ring true now (suc p) q st su is e f less = absurd (omega arith)
by_stale ring true now zero (suc q) st su is e f less = absurd (omega arith)
by_stale ring true false zero zero st su is e f less = omega arith
by_stale ring true true zero zero st su is e f less = omega arith

waiting_most : (l : List Order) (h : Option Order) → length l ≤ 64 → waiting_for l h ≤ 66
waiting_most l None most = omega arith
waiting_most l (Some o) most = omega arith

no_waiting : (l : List Order) (h : Option Order) → waiting_for l h ≡ 0 → (l ≡ []) × (h ≡ None)
no_waiting [] None e = (refl, refl)
no_waiting (o ∷ l) None e = absurd (omega arith)
no_waiting l (Some o) e = absurd (omega arith)

waits_for_entry : (h g l : Bool) → h ≡ true → g ≡ false → (h && not g && not l) ≡ false → l ≡ true
waits_for_entry true false true e f is = refl
waits_for_entry true false false e f is = cc
waits_for_entry true true l e f is = cc
waits_for_entry false g l e f is = cc

not_over : (at : At) (c : Bool) → (c && is_cycle_start at) ≡ false → (is_halted at && c) ≡ false
not_over interrupting c off = refl
not_over committing c off = refl
not_over completing c off = refl
not_over issuing c off = refl
not_over (trying more) c off = refl
not_over ending c off = refl
not_over stopping c off = refl
not_over halted true off = cc
not_over halted false off = refl

abbrev pub cost : Setup → ℕ
cost s = s.ring + 128

-- with so many steps left to the next start of a cycle
abbrev pub rank : Setup → ℕ → Split → ℕ
rank s left x = cost s * left + waits s x

pub waits_most : (s : Setup) (x : Split) → IsListed s x → waits s x ≤ s.ring + 68
waits_most s x listed =
    wait_most s.ring (may_take x) (waiting_for x.listed_orders x.hand) (stale (openings (told x.place)) x.entries) (waiting_most x.listed_orders x.hand listed.orders)
    (omega (arith, stale_most (openings (told x.place)) x.entries, listed.entries))

-- no step is made
abbrev pub Stays : Split → Type 0
Stays b = (is_place_boundary b.place ≡ true) ⊎ ((is_place_boundary b.place ≡ false) × (may_tick b ≡ false))

module _ {s : Setup} {r : DemandRun} (laws : IsDemandRun s r) (x : Split) (is : Known s r x) (ring : 1 ≤ s.ring) (off : is_boundary x ≡ false) where
  b : Split
  b = before_step s x

  before : Before x b
  unfolding b
  before = before_is s x

  idle : Stays b → waiting_for x.listed_orders x.hand ≡ 0 → waits s (sent b.hand b) < waits s x
  unfolding b
  idle stays none = ⊎_elim (λ at. absurd (let yes = here at in cc)) (λ idles. dropping idles.0 idles.1) stays
    where
      empty : (x.listed_orders ≡ []) × (x.hand ≡ None)
      empty = no_waiting x.listed_orders x.hand none

      here : is_place_boundary b.place ≡ true → is_boundary x ≡ true
      here at =
          and_from (is_place_boundary x.place && is_none x.hand) (length x.listed_orders == 0)
          (and_from (is_place_boundary x.place) (is_none x.hand) (subst (λ (p : Place). is_place_boundary p ≡ true) before.place at) (none_from x.hand empty.1))
          (eq-eqb (length x.listed_orders) 0 (ap (λ (l : List Order). length l) empty.0))

      dropping : is_place_boundary b.place ≡ false → may_tick b ≡ false → waits s (sent b.hand b) < waits s x
      dropping away idles =
          let lack = waits_for_entry (is_none b.hand) (is_halted b.place.run.at && b.place.owed == 0) (needs_entry b.place && is_none b.held) (none_from b.hand (before.hand ∙ empty.1)) (not_over b.place.run.at (b.place.owed == 0) away) idles in
          let parts = and_parts (needs_entry b.place) (is_none b.held) lack in
          let needs : needs_entry x.place ≡ true = subst (λ (p : Place). needs_entry p ≡ true) before.place parts.0 in
          let none_b : b.held ≡ None = some_none b.held parts.1 in
          let none_x : x.held ≡ None = before.held none_b in
          let less : stale (openings (told x.place)) b.entries < stale (openings (told x.place)) x.entries = drops laws x is ring empty.1 empty.0 needs none_x none_b in
          let z = sent b.hand b in
          let kept : z ≡ b = ap (λ (h : Option Order). sent h b) (before.hand ∙ empty.1) in
          let now : waiting_for z.listed_orders z.hand ≡ 0 =
          ap (λ (y : Split). waiting_for y.listed_orders y.hand) kept ∙ ap (waiting_for b.listed_orders) (before.hand ∙ empty.1) ∙ omega (arith, before.listed_orders, ap (λ (l : List Order). length l) empty.0) in
          let same : stale (openings (told z.place)) z.entries ≡ stale (openings (told x.place)) b.entries =
          ap (λ (y : Split). stale (openings (told y.place)) y.entries) kept ∙ ap (λ (p : Place). stale (openings (told p)) b.entries) before.place in
          by_stale s.ring (may_take x) (may_take z) (waiting_for x.listed_orders x.hand) (waiting_for z.listed_orders z.hand) (stale (openings (told x.place)) x.entries) (stale (openings (told z.place)) z.entries)
          (and_from (needs_entry x.place) (is_none x.held) needs (none_from x.held none_x)) none now (omega (arith, less, same))

  -- a round without a step leaves a lower rank
  pub still : (left : ℕ) → Stays (before_step s x) → IsListed s (sent (before_step s x).hand (before_step s x)) → rank s left (sent (before_step s x).hand (before_step s x)) < rank s left x
  unfolding b
  still left stays listed =
      let less : waits s (sent b.hand b) < waits s x = by_count (waiting_for x.listed_orders x.hand) refl in
      omega (arith, less)
    where
      by_count : (n : ℕ) → waiting_for x.listed_orders x.hand ≡ n → waits s (sent b.hand b) < waits s x
      by_count zero e = idle stays e
      by_count (suc n) e =
          let z = sent b.hand b in
          orders_fewer s x is.listed.orders (omega (arith, e)) (stale (openings (told z.place)) z.entries)
          (omega (arith, stale_most (openings (told z.place)) z.entries, listed.entries))

-- and so does one with a step, which leaves fewer
pub ticks : (s : Setup) (x c : Split) (left fewer : ℕ) → fewer < left → IsListed s (sent c.hand c) → rank s fewer (sent c.hand c) < rank s left x
ticks s x c left fewer less listed =
    let most : cost s * suc fewer ≤ cost s * left = mul-le-mul_left (cost s) (omega (arith, less)) in
    omega (arith, most, mul-suc (cost s) fewer, waits_most s (sent c.hand c) listed)

-- Of the monolithic machine.
abbrev rank_of : Setup → Split → ℕ
rank_of s x = rank s (steps_left s x.place) x

module _ (s : Setup) (x : Split) (is : Known s (mono_run s) x) (ring : 1 ≤ s.ring) (off : is_boundary x ≡ false) where
  here : Split
  here = before_step s x

  here_place : here.place ≡ x.place
  unfolding here
  here_place = (before_is s x).place

  stands : Stays here → IsListed s (sent here.hand here) → rank_of s (sent here.hand here) < rank_of s x
  unfolding here
  stands stays listed =
      let same : steps_left s (sent here.hand here).place ≡ steps_left s x.place = ap (λ (p : Place). steps_left s p) ((send_sends here.hand here).place ∙ here_place) in
      subst (λ (n : ℕ). rank s n (sent here.hand here) < rank_of s x) (sym same) (still (mono_laws s) x is ring off (steps_left s x.place) stays listed)

  goes : is_place_boundary here.place ≡ false → IsListed s (sent (ticked_to (step s here.place) here).hand (ticked_to (step s here.place) here)) →
      rank_of s (sent (ticked_to (step s here.place) here).hand (ticked_to (step s here.place) here)) < rank_of s x
  goes away listed =
      let c = ticked_to (step s here.place) here in
      let place : steps_left s (sent c.hand c).place ≡ steps_left s (step s x.place) = ap (steps_left s) ((send_sends c.hand c).place ∙ ap (step s) here_place) in
      let fewer : steps_left s (step s x.place) < steps_left s x.place = step_left s x.place (subst (λ (p : Place). is_place_boundary p ≡ false) here_place away) in
      ticks s x c (steps_left s x.place) (steps_left s (sent c.hand c).place) (omega (arith, place, fewer)) listed

  pub round_less : IsListed s (round s x) → rank_of s (round s x) < rank_of s x
  unfolding event_at here
  round_less =
      let P : Split → Type 0 = λ c. IsListed s (sent c.hand c) → rank_of s (sent c.hand c) < rank_of s x in
      cond_both (is_place_boundary here.place) here (on_tick s here) P (λ at. stands (inl at))
      (λ away. cond_both (may_tick here) (ticked_to (step s here.place) here) here P (λ may. goes away) (λ idles. stands (inr (away, idles))))

arrives : (s : Setup) → 1 ≤ s.ring → (n : ℕ) (x : Split) → IsReached s x → rank_of s x ≤ n → is_boundary (rounds_to_boundary s n x) ≡ true
unfolding rounds_to_boundary
arrives s ring zero x reached most = by_test (is_boundary x) refl
  where
    by_test : (b : Bool) → is_boundary x ≡ b → is_boundary x ≡ true
    by_test true at = at
    by_test false off = absurd (omega (arith, round_less s x (known s x reached) ring off (known s (round s x) (round_reached s x reached)).listed))
arrives s ring (suc n) x reached most =
    cond_both (is_boundary x) x (rounds_to_boundary s n (round s x)) (λ y. is_boundary y ≡ true) (λ at. at)
    (λ off. arrives s ring n (round s x) (round_reached s x reached) (omega (arith, round_less s x (known s x reached) ring off (known s (round s x) (round_reached s x reached)).listed)))

-- within the rounds that are made
pub comes_to_boundary : (s : Setup) (x : Split) → 1 ≤ s.ring → IsReached s x → is_boundary (to_boundary s x) ≡ true
comes_to_boundary s x ring reached =
    let is = known s x reached in
    let left : steps_left s x.place ≤ s.params.core_fetch + 5 = subst (λ (p : Place). steps_left s p ≤ s.params.core_fetch + 5) (sym is.holds.ordered.at) (place_left s is.holds.ordered.steps) in
    let most : cost s * (steps_left s x.place + 3) ≤ cost s * (s.params.core_fetch + 8) = mul-le-mul_left (cost s) (omega (arith, left)) in
    let more : cost s * (steps_left s x.place + 3) ≡ cost s * steps_left s x.place + cost s * 3 = mul-add (cost s) (steps_left s x.place) 3 in
    arrives s ring (boundary_rounds s) x reached (omega (arith, most, more, waits_most s x is.listed))
