-- Cycles in which nothing happens, of the machine around a window: what is known stays.
use Rattle.std.proofs.Common.{◌≡◌, ◌∙◌, ℕ, ◌+◌, ◌-◌, ◌≤◌, ◌&&◌, Bool, false, is_some, if◌then◌else◌, Option, None, List, [], ◌∷◌, ◌++◌, drop, length, take, refl, sym, ap, arith}
use Rattle.std.specs.Prelude.{replicate}
use Rattle.std.proofs.lemmas.List.{append-nil, drop_all, take_all}
use Rattle.mono_model.specs.declared.params.Params.{Params}
use Rattle.insight_model.specs.declared.pipeline.Pipeline.TheVariants.{Window}
use Rattle.insight_model.specs.Cause.{Charge}
use Rattle.insight_model.specs.Sight.{Progress, Shown, Sight, waiting, executing, accessing, done, is_executing_at, is_waiting_at, ram_load}
use Rattle.insight_model.specs.Facts.{Facts, Kept, pairs}
use Rattle.insight_model.specs.Accesses.{kept_misses, miss_after, misses_after, until_at}
use Rattle.insight_model.specs.Origin.{new_origins, newest, origins_after, refill_after, unfilled}
use Rattle.cycle_watch.specs.Facts.{facts_in}
use Rattle.cycle_watch.proofs.Idle.{idle_code}
use Rattle.cycle_watch.proofs.Windows.{pairs_length}

-- what is told of such a cycle
abbrev pub idle_seen : Sight → Facts
idle_seen s = facts_in s.window s.window (idle_code s)

pub not_begun : (q : Progress) → (is_waiting_at q && is_executing_at q) ≡ false
not_begun waiting = refl
not_begun (executing e o) = refl
not_begun (accessing e o) = refl
not_begun (done o) = refl

same_misses : (p : Params) (cycle : ℕ) (xs : List Shown) (ms : List ℕ) → length ms ≡ length xs → kept_misses Window p cycle (pairs xs xs) ms ≡ ms
same_misses p cycle [] [] level = refl
same_misses p cycle [] (m ∷ ms) level = absurd (omega (arith, level))
same_misses p cycle (x ∷ xs) [] level = absurd (omega (arith, level))
same_misses p cycle (x ∷ xs) (m ∷ ms) level =
    let k : Kept = record { before = x; after = x } in
    let own : miss_after Window p cycle k m ≡ m =
    ap (λ (b : Bool). if is_some (if b then ram_load x else None) then until_at x.progress - cycle - p.mem_latency else m) (not_begun x.progress) in
    λ i. own i ∷ same_misses p cycle xs ms (omega (arith, level)) i

module _ (p : Params) (s : Sight) where
  none_new : drop (length s.window) s.window ≡ []
  none_new = drop_all (length s.window) s.window (omega arith)

  all_still : take (length s.window) s.window ≡ s.window
  all_still = take_all (length s.window) s.window (omega arith)

  pub idle_misses : (ms : List ℕ) → length ms ≡ length s.window → misses_after Window p (idle_seen s) ms ≡ ms
  unfolding misses_after
  idle_misses ms level =
      (λ i. kept_misses Window p s.cycle (pairs s.window (all_still i)) ms ++ replicate (length (none_new i)) 0)
      ∙ append-nil (kept_misses Window p s.cycle (pairs s.window s.window) ms)
      ∙ same_misses p s.cycle s.window ms level

  pub idle_origins : (refill : Option Charge) (os : List Charge) → length os ≡ length s.window → origins_after p (idle_seen s) refill os ≡ os
  unfolding origins_after
  idle_origins refill os level =
      (λ i. take (length (pairs s.window (all_still i))) os ++ new_origins p (idle_seen s) (newest (idle_seen s) refill) (none_new i))
      ∙ append-nil (take (length (pairs s.window s.window)) os)
      ∙ take_all (length (pairs s.window s.window)) os (omega (arith, level, pairs_length s.window s.window (omega arith)))

  pub idle_refill : (refill : Option Charge) → refill_after (idle_seen s) refill ≡ refill
  unfolding refill_after
  idle_refill refill = ap (unfilled refill) none_new
