-- The rounds to a boundary come to one.
use Rattle.std.proofs.Common.{◌≡◌, ℕ, zero, suc, ◌+◌, ◌*◌, ◌≤◌, ◌<◌, Bool, true, false, refl, sym, ◌∙◌, subst, arith, inl, inr, mul-add, mul-le-mul_left}
use Rattle.std.proofs.lemmas.Bool.{cond_both}
use Rattle.mono_model.specs.declared.setup.Setup.{Setup}
use Rattle.mono_model.specs.Demand.{Place}
use Rattle.mono_model.specs.Split.{Split, may_tick, ticked_to, sent, event_at, is_place_boundary, is_boundary}
use Rattle.machine_laws.specs.SplitLaw.{IsListed}
use Rattle.machine_laws.proofs.SplitArriving.{cost, rank, waits_most, still, ticks}
use Rattle.machine_laws.proofs.SplitBoundary.{before_step, before_is}
use Rattle.inorder_machine.specs.Demand.{InorderPlace, inorder_step, seen_of}
use Rattle.inorder_machine.specs.Split.{InorderSplit, inorder_ticked_to, on_inorder_tick, inorder_event_at}
use Rattle.inorder_laws.specs.Rounds.{inorder_round, inorder_rounds_to_boundary, inorder_boundary_rounds, inorder_to_boundary}
use Rattle.inorder_laws.specs.SplitLaw.{IsInorderReached}
use Rattle.inorder_laws.proofs.Laws.{inorder_laws}
use Rattle.inorder_laws.proofs.Left.{inorder_steps_left, inorder_step_left, inorder_place_left}
use Rattle.inorder_laws.proofs.SplitRun.{round_keeps, rounds_keep, InorderKnown, event_inorder_reached, reached_inorder_known}

round_inorder_reached : (s : Setup) (x : InorderSplit) → IsInorderReached s x → IsInorderReached s (inorder_round s x)
round_inorder_reached s x reached = round_keeps s (IsInorderReached s) (event_inorder_reached s) x reached

pub boundary_inorder_reached : (s : Setup) (rounds : ℕ) (x : InorderSplit) → IsInorderReached s x → IsInorderReached s (inorder_rounds_to_boundary s rounds x)
boundary_inorder_reached s rounds x reached = rounds_keep s (IsInorderReached s) (event_inorder_reached s) rounds x reached

abbrev inorder_rank : Setup → InorderSplit → ℕ
inorder_rank s x = rank s (inorder_steps_left x.place) x.split

module _ (s : Setup) (room : 4 ≤ s.params.core_window) (x : InorderSplit) (is : InorderKnown s x) (ring : 1 ≤ s.ring) (off : is_boundary x.split ≡ false) where
  -- the state before the round's step
  before : InorderSplit
  before = record x { split = before_step s x.split }

  away_from : is_place_boundary before.split.place ≡ false → is_place_boundary (seen_of x.place) ≡ false
  unfolding before
  away_from away = subst (λ (p : Place). is_place_boundary p ≡ false) ((before_is s x.split).place ∙ is.sees) away

  round_less : IsListed s (inorder_round s x).split → inorder_rank s (inorder_round s x) < inorder_rank s x
  unfolding inorder_event_at event_at before
  round_less =
      let laws = inorder_laws s room in
      let b : Split = before_step s x.split in
      let left : ℕ = inorder_steps_left x.place in
      let next : InorderPlace = inorder_step s x.place in
      let P : InorderSplit → Type 0 = λ c. IsListed s (sent c.split.hand c.split) → rank s (inorder_steps_left c.place) (sent c.split.hand c.split) < inorder_rank s x in
      cond_both (is_place_boundary b.place) before (on_inorder_tick s before) P (λ at. still laws x.split is.known ring off left (inl at))
      (λ away. cond_both (may_tick b) (inorder_ticked_to next before) before P
      (λ may. ticks s x.split (ticked_to (seen_of next) b) left (inorder_steps_left next) (inorder_step_left s x.place (away_from away)))
      (λ idles. still laws x.split is.known ring off left (inr (away, idles))))

module _ (s : Setup) (room : 4 ≤ s.params.core_window) (ring : 1 ≤ s.ring) where
  lowers : (x : InorderSplit) → IsInorderReached s x → is_boundary x.split ≡ false → inorder_rank s (inorder_round s x) < inorder_rank s x
  lowers x reached off = round_less s room x (reached_inorder_known s x room reached) ring off (reached_inorder_known s (inorder_round s x) room (round_inorder_reached s x reached)).known.listed

  arrives : (n : ℕ) (x : InorderSplit) → IsInorderReached s x → inorder_rank s x ≤ n → is_boundary (inorder_rounds_to_boundary s n x).split ≡ true
  unfolding inorder_rounds_to_boundary
  arrives zero x reached most = by_test (is_boundary x.split) refl
    where
      by_test : (b : Bool) → is_boundary x.split ≡ b → is_boundary x.split ≡ true
      by_test true at = at
      by_test false off = absurd (omega (arith, lowers x reached off))
  arrives (suc n) x reached most =
      cond_both (is_boundary x.split) x (inorder_rounds_to_boundary s n (inorder_round s x)) (λ y. is_boundary y.split ≡ true) (λ at. at)
      (λ off. arrives n (inorder_round s x) (round_inorder_reached s x reached) (omega (arith, lowers x reached off)))

  -- within the rounds that are made
  pub comes_to_inorder_boundary : (x : InorderSplit) → IsInorderReached s x → is_boundary (inorder_to_boundary s x).split ≡ true
  comes_to_inorder_boundary x reached =
      let is = reached_inorder_known s x room reached in
      let left : inorder_steps_left x.place ≤ 7 = subst (λ (p : InorderPlace). inorder_steps_left p ≤ 7) (sym is.at) (inorder_place_left s is.steps) in
      let most : cost s * (inorder_steps_left x.place + 3) ≤ cost s * 10 = mul-le-mul_left (cost s) (omega (arith, left)) in
      let more : cost s * (inorder_steps_left x.place + 3) ≡ cost s * inorder_steps_left x.place + cost s * 3 = mul-add (cost s) (inorder_steps_left x.place) 3 in
      arrives (inorder_boundary_rounds s) x reached (omega (arith, most, more, waits_most s x.split is.known.listed))
