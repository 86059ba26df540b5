-- What is seen as a cycle begins follows what was seen a cycle before.
use Rattle.std.proofs.Common.{◌≡◌, ℕ, zero, suc, ◌+◌, ◌-◌, ◌*◌, ◌^◌, ◌≤◌, ◌<◌, ◌⊎◌, inl, inr, true, false, Some, List, length, map, slice_get, refl, ap, sym, ◌∙◌, subst, length-append, arith}
use Rattle.std.proofs.lemmas.Bool.{cases_lt}
use Rattle.mono_model.specs.declared.setup.Setup.{Setup}
use Rattle.mono_model.specs.Setup.{is_setup}
use Rattle.mono_model.specs.Sound.{IsSetup}
use Rattle.mono_model.specs.Arch.{start}
use Rattle.mono_model.specs.Final.{has_ended}
use Rattle.mono_model.specs.Window.{Record}
use Rattle.mono_model.specs.Machine.{Machine, machine_start}
use Rattle.mono_model.specs.Cycle.{final, mono}
use Rattle.mono_model.proofs.Sound.{setup_facts}
use Rattle.machine_laws.proofs.FirstEnd.{run_ends_once}
use Rattle.machine_laws.proofs.Numbering.{window_within}
use Rattle.machine_laws.proofs.Reaching.{cycle_reached}
use Rattle.inorder_machine.specs.Setup.{IsInorder}
use Rattle.inorder_machine.specs.InorderMachine.{InorderMachine, inorder_start}
use Rattle.inorder_machine.specs.Cycle.{inorder, inorder_final}
use Rattle.inorder_laws.specs.FirstEnd.{InorderEndsOnce}
use Rattle.insight_model.specs.Sight.{Shown}
use Rattle.insight_model.specs.OfState.{inorder_shown, inorder_sight, seen_with, shown_of, sight}
use Rattle.insight_model.specs.Following.{Follows, IsStill}
use Rattle.insight_laws.proofs.Later.{AreViewed, all_still, as_many, inorder_viewed, window_viewed}
use Rattle.insight_laws.proofs.Moving.{Moves, cycle_moves, inorder_cycle_moves}
use Rattle.insight_laws.proofs.Staged.{inorder_within}

abbrev gone : Machine → ℕ
gone m = m.arch.csrs.retired + m.counts.exceptions

follows_by : (m y : Machine) (most : ℕ) (before after : List Shown) → AreViewed m.window before → AreViewed y.window after → Moves m most y → most ≤ 8 → gone y < 2 ^ 63 → length y.window ≤ 256 →
    Follows (seen_with before m) (seen_with after y)
follows_by m y most before after v w moves few small within =
    let were = as_many m.window before v in
    let are = as_many y.window after w in
    let all = ap (λ (x : List Record). length x) moves.window in
    let both = length-append moves.kept moves.fresh in
    let left : gone y - gone m ≡ moves.left = omega (arith, moves.departed) in
    let fresh : y.counts.fetched - m.counts.fetched ≡ length moves.fresh = omega (arith, moves.fetched) in
    let kept : length after - (y.counts.fetched - m.counts.fetched) ≡ length moves.kept = omega (arith, fresh, are, all, both) in
    let appended : y.counts.fetched - m.counts.fetched ≤ length after = omega (arith, fresh, are, all, both) in
    let stay : (gone y - gone m) + (length after - (y.counts.fetched - m.counts.fetched)) ≤ length before = omega (arith, left, kept, were, moves.within) in
    let seen = subst (λ (x : List Record). AreViewed x after) moves.window w in
    let still : (place : ℕ) (was is : Shown) → place < length after - (y.counts.fetched - m.counts.fetched) → slice_get before ((gone y - gone m) + place) ≡ Some was → slice_get after place ≡ Some is → IsStill was is =
    λ place was is less here there.
    all_still moves.left m.window moves.kept moves.fresh before after v seen moves.later ((gone y - gone m) + place) place was is (omega (arith, left)) (omega (arith, less, kept)) here there in
    record {
      retired = moves.retired;
      exceptions = moves.exceptions;
      fetched = omega (arith, moves.fetched);
      appended = appended;
      kept = stay;
      still = still;
      leave = omega (arith, left, moves.few, few);
      small = small;
      within = omega (arith, are, within);
    }

-- As many leave as the cycles let.
module _ (at : ℕ → Machine) (most : ℕ) (none : gone (at zero) ≡ 0) (each : (n : ℕ) → gone (at (suc n)) ≤ gone (at n) + most) (few : most ≤ 8) where
  gone_by : (n : ℕ) → gone (at n) ≤ 8 * n
  gone_by zero = omega (arith, none)
  gone_by (suc n) = omega (arith, gone_by n, each n, few)

  module _ (c limit : ℕ) (within : c ≤ limit) (limited : limit ≤ 1099511627776) (still : (k : ℕ) → c ≤ k → at k ≡ at c) where
    gone_few : (n : ℕ) → gone (at n) < 2 ^ 63
    gone_few n = by (cases_lt n c)
      where
        by : (n < c) ⊎ (c ≤ n) → gone (at n) < 2 ^ 63
        by (inl less) = omega (arith, gone_by n, less, within, limited)
        by (inr more) =
            let same : gone (at n) ≡ gone (at c) = ap (λ (m : Machine). gone m) (still n more) in
            omega (arith, same, gone_by c, within, limited)

-- No cycle is counted after the end of the run.
module _ (at : ℕ → Machine) (c limit : ℕ) (within : c ≤ limit) (counted : (k : ℕ) → k ≤ c → (at k).cycle ≡ k) (still : (k : ℕ) → c ≤ k → at k ≡ at c) where
  cycle_few : (n : ℕ) → (at n).cycle ≤ limit
  cycle_few n = by (cases_lt n c)
    where
      by : (n < c) ⊎ (c ≤ n) → (at n).cycle ≤ limit
      by (inl less) = omega (arith, counted n (omega (arith, less)), less, within)
      by (inr more) =
          let same : (at n).cycle ≡ (at c).cycle = ap (λ (m : Machine). m.cycle) (still n more) in
          omega (arith, same, counted c (omega arith), within)

-- Each cycle before the end is counted.
module _ (at : ℕ → Machine) (c : ℕ) (ended : has_ended (at c).end ≡ true) (counted : (k : ℕ) → k ≤ c → (at k).cycle ≡ k) (still : (k : ℕ) → c ≤ k → at k ≡ at c) where
  cycle_next : (n : ℕ) → has_ended (at n).end ≡ false → (at (suc n)).cycle ≡ (at n).cycle + 1
  cycle_next n goes = by (cases_lt n c)
    where
      by : (n < c) ⊎ (c ≤ n) → (at (suc n)).cycle ≡ (at n).cycle + 1
      by (inl less) = omega (arith, counted n (omega (arith, less)), counted (suc n) (omega (arith, less)))
      by (inr more) =
          let e : true ≡ false = sym ended ∙ ap (λ (m : Machine). has_ended m.end) (sym (still n more)) ∙ goes in
          cc

-- The monolithic machine.
mono_next : (s : Setup) (n : ℕ) → Moves (mono s n) s.params.core_commit (mono s (suc n))
unfolding mono
mono_next s n = cycle_moves s (mono s n)

mono_none : (s : Setup) → gone (mono s zero) ≡ 0
unfolding mono machine_start start
mono_none s = refl

mono_gone : (s : Setup) (n : ℕ) → gone (mono s (suc n)) ≤ gone (mono s n) + s.params.core_commit
mono_gone s n = let moves = mono_next s n in omega (arith, moves.departed, moves.few)

mono_within : (s : Setup) (n : ℕ) → length (mono s n).window ≤ s.params.core_window
mono_within s n =
    let reached = cycle_reached s n in
    subst (λ (m : Machine). length m.window ≤ s.params.core_window) reached.1.machine (window_within s reached.0)

mono_follows : (s : Setup) (n : ℕ) → IsSetup s → Follows (sight (mono s n)) (sight (mono s (suc n)))
unfolding sight
mono_follows s n sound =
    let m = mono s n in
    let y = mono s (suc n) in
    let once = run_ends_once s sound.some_cycle in
    follows_by m y s.params.core_commit (map shown_of m.window) (map shown_of y.window) (window_viewed m.window) (window_viewed y.window) (mono_next s n) sound.commit
    (gone_few (mono s) s.params.core_commit (mono_none s) (mono_gone s) sound.commit (final s s.cycles).stats.cycles s.cycles once.within sound.cycles once.still (suc n))
    (omega (arith, mono_within s (suc n), sound.window))

pub window_follows : (s : Setup) (n : ℕ) → is_setup s ≡ true → Follows (sight (mono s n)) (sight (mono s (n + 1)))
window_follows s n sound =
    let next : suc n ≡ n + 1 = omega arith in
    subst (λ (k : ℕ). Follows (sight (mono s n)) (sight (mono s k))) next (mono_follows s n (setup_facts s sound))

pub window_cycles : (s : Setup) (n : ℕ) → 1 ≤ s.cycles → (sight (mono s n)).cycle ≤ s.cycles
unfolding sight
window_cycles s n some = let once = run_ends_once s some in cycle_few (mono s) (final s s.cycles).stats.cycles s.cycles once.within once.counted once.still n

next_cycle : (s : Setup) (n : ℕ) → 1 ≤ s.cycles → has_ended (sight (mono s n)).end ≡ false → (sight (mono s (suc n))).cycle ≡ (sight (mono s n)).cycle + 1
unfolding sight
next_cycle s n some goes = let once = run_ends_once s some in cycle_next (mono s) (final s s.cycles).stats.cycles once.first.ended once.counted once.still n goes

pub window_next : (s : Setup) (n : ℕ) → 1 ≤ s.cycles → has_ended (sight (mono s n)).end ≡ false → (sight (mono s (n + 1))).cycle ≡ (sight (mono s n)).cycle + 1
window_next s n some goes =
    let next : suc n ≡ n + 1 = omega arith in
    subst (λ (k : ℕ). (sight (mono s k)).cycle ≡ (sight (mono s n)).cycle + 1) next (next_cycle s n some goes)

-- The in-order machine, whose run ends once.
abbrev pub EndsInorder : Setup → Type 0
EndsInorder s = InorderEndsOnce s (inorder_final s s.cycles).stats.cycles

inorder_next : (s : Setup) (n : ℕ) → Moves (inorder s n).machine 1 (inorder s (suc n)).machine
unfolding inorder
inorder_next s n = inorder_cycle_moves s (inorder s n)

inorder_none : (s : Setup) → gone (inorder s zero).machine ≡ 0
unfolding inorder inorder_start machine_start start
inorder_none s = refl

inorder_gone : (s : Setup) (n : ℕ) → gone (inorder s (suc n)).machine ≤ gone (inorder s n).machine + 1
inorder_gone s n = let moves = inorder_next s n in omega (arith, moves.departed, moves.few)

inorder_follows_next : (s : Setup) (n : ℕ) → IsSetup s → EndsInorder s → Follows (inorder_sight (inorder s n)) (inorder_sight (inorder s (suc n)))
unfolding inorder_sight
inorder_follows_next s n sound once =
    let l = inorder s n in
    let y = inorder s (suc n) in
    follows_by l.machine y.machine 1 (inorder_shown l.memory l.machine.window) (inorder_shown y.memory y.machine.window) (inorder_viewed l.memory l.machine.window) (inorder_viewed y.memory y.machine.window)
    (inorder_next s n) (omega arith)
    (gone_few (λ k. (inorder s k).machine) 1 (inorder_none s) (inorder_gone s) (omega arith) (inorder_final s s.cycles).stats.cycles s.cycles once.within sound.cycles
    (λ k more. ap (λ (x : InorderMachine). x.machine) (once.still k more)) (suc n))
    (omega (arith, inorder_within s (suc n)))

pub inorder_follows : (s : Setup) (n : ℕ) → IsInorder s → EndsInorder s → Follows (inorder_sight (inorder s n)) (inorder_sight (inorder s (n + 1)))
inorder_follows s n sound once =
    let next : suc n ≡ n + 1 = omega arith in
    subst (λ (k : ℕ). Follows (inorder_sight (inorder s n)) (inorder_sight (inorder s k))) next (inorder_follows_next s n (setup_facts s sound.sound) once)

pub inorder_cycles : (s : Setup) (n : ℕ) → EndsInorder s → (inorder_sight (inorder s n)).cycle ≤ s.cycles
unfolding inorder_sight
inorder_cycles s n once =
    cycle_few (λ k. (inorder s k).machine) (inorder_final s s.cycles).stats.cycles s.cycles once.within once.counted (λ k more. ap (λ (x : InorderMachine). x.machine) (once.still k more)) n

inorder_next_cycle : (s : Setup) (n : ℕ) → EndsInorder s → has_ended (inorder_sight (inorder s n)).end ≡ false → (inorder_sight (inorder s (suc n))).cycle ≡ (inorder_sight (inorder s n)).cycle + 1
unfolding inorder_sight
inorder_next_cycle s n once goes =
    cycle_next (λ k. (inorder s k).machine) (inorder_final s s.cycles).stats.cycles once.first.ended once.counted (λ k more. ap (λ (x : InorderMachine). x.machine) (once.still k more)) n goes

pub inorder_sight_next : (s : Setup) (n : ℕ) → EndsInorder s → has_ended (inorder_sight (inorder s n)).end ≡ false → (inorder_sight (inorder s (n + 1))).cycle ≡ (inorder_sight (inorder s n)).cycle + 1
inorder_sight_next s n once goes =
    let next : suc n ≡ n + 1 = omega arith in
    subst (λ (k : ℕ). (inorder_sight (inorder s k)).cycle ≡ (inorder_sight (inorder s n)).cycle + 1) next (inorder_next_cycle s n once goes)
