-- A debugger that runs to an address, step by step.
use Rattle.std.proofs.Common.{◌≡◌, ◌≢◌, ℕ, suc, ◌+◌, ◌-◌, ◌<◌, Option, Some, None, refl, ap, sym, ◌∙◌, subst, arith, inl, inr}
use Rattle.std.proofs.lemmas.Bool.{cases_lt}
use Rattle.mono_model.specs.declared.final_state.End.{End}
use Rattle.mono_model.specs.declared.setup.Setup.{Setup}
use Rattle.func_model.specs.declared.trail.Trail.{Trail}
use Rattle.func_model.specs.History.{walk, end_at, floor}
use Rattle.func_model.specs.Trail.{TrailStandsFor, IsOnTrail, IsTold}
use Rattle.back_debug.specs.Debugger.{Misses, floors, IsAhead, IsFirst, IsLast}

-- what holds before each step of a run to an address
pub record Missing {D : Type 0} (addr : ℕ) (opened now : Trail D) : Type 0 where
  pub ahead : (s : Setup) → TrailStandsFor s opened → IsAhead s opened now
  pub missed : (s : Setup) → TrailStandsFor s opened → Misses s addr opened.at now.at

pub missing_start : {D : Type 0} (addr : ℕ) (trail : Trail D) → Missing addr trail trail
unfolding floors
missing_start addr trail = record {
  ahead = λ s h.
      let here : trail.at - trail.at ≡ 0 = omega arith in
      record {
        stands = h;
        from = omega arith;
        goes_on = λ made above below. absurd (omega (arith, above, below));
        floor_is = sym (ap (floors trail.steps.capacity s trail.at trail.floor) here);
        history_is = refl;
      };
  missed = λ s h made above within. absurd (omega (arith, above, within));
}

-- one step further
ahead_more : {D : Type 0} (s : Setup) (opened now next : Trail D) → IsAhead s opened now → IsTold s now next None → IsAhead s opened next
unfolding floors
ahead_more s opened now next ahead told =
    let count : next.at - opened.at ≡ suc (now.at - opened.at) = omega (arith, told.moved.at, ahead.from) in
    let place : opened.at + (now.at - opened.at) ≡ now.at = omega (arith, ahead.from) in
    record {
      stands = told.stands;
      from = omega (arith, told.moved.at, ahead.from);
      goes_on = λ made above below. elim (cases_lt made now.at) [
        | inl before ↦ ahead.goes_on made above before
        | inr behind ↦
            let here : now.at ≡ made = omega (arith, behind, below, told.moved.at) in
            subst (λ (n : ℕ). end_at s n ≡ None) here (sym told.answer)
      ];
      floor_is = told.moved.floor_is
          ∙ ap (λ (cap : ℕ). floor cap s now.at now.floor) ahead.history_is
          ∙ ap (λ (old : ℕ). floor opened.steps.capacity s now.at old) ahead.floor_is
          ∙ ap (λ (n : ℕ). floor opened.steps.capacity s n (floors opened.steps.capacity s opened.at opened.floor (now.at - opened.at))) (sym place)
          ∙ sym (ap (floors opened.steps.capacity s opened.at opened.floor) count);
      history_is = told.history_is ∙ ahead.history_is;
    }

misses_more : (s : Setup) (addr from now next : ℕ) → next ≡ now + 1 → Misses s addr from now → (walk s next).pc ≢ addr → Misses s addr from next
misses_more s addr from now next is missed other = λ made above within. elim (cases_lt now made) [
  | inl later ↦
      let last : next ≡ made = omega (arith, is, later, within) in
      subst (λ (n : ℕ). (walk s n).pc ≢ addr) last other
  | inr before ↦ missed made above (omega arith)
]

pub missing_more : {D : Type 0} (addr pc : ℕ) (opened now next : Trail D) → Missing addr opened now → ((s : Setup) → TrailStandsFor s now → IsTold s now next None) →
    ((s : Setup) → TrailStandsFor s next → pc ≡ (walk s next.at).pc) → pc ≢ addr → Missing addr opened next
missing_more addr pc opened now next at told pc_is off = record {
  ahead = λ s h. ahead_more s opened now next (at.ahead s h) (told s (at.ahead s h).stands);
  missed = λ s h.
      let step = told s (at.ahead s h).stands in
      misses_more s addr opened.at now.at next.at step.moved.at (at.missed s h) (λ is. off (pc_is s step.stands ∙ is));
}

-- the step that reaches the address
pub reached : {D : Type 0} (s : Setup) (addr pc : ℕ) (opened now next : Trail D) → TrailStandsFor s opened → Missing addr opened now → ((s : Setup) → TrailStandsFor s now → IsTold s now next None) →
    ((s : Setup) → TrailStandsFor s next → pc ≡ (walk s next.at).pc) → pc ≡ addr → IsFirst s addr opened next
reached s addr pc opened now next h at told pc_is on =
    let ahead = at.ahead s h in
    let step = told s ahead.stands in
    let before : next.at - 1 ≡ now.at = omega (arith, step.moved.at) in
    record {
      ahead = ahead_more s opened now next ahead step;
      further = omega (arith, step.moved.at, ahead.from);
      there = sym (pc_is s step.stands) ∙ on;
      missed = subst (λ (n : ℕ). Misses s addr opened.at n) (sym before) (at.missed s h);
    }

-- the run ends before
pub ended : {D : Type 0} (s : Setup) (addr : ℕ) (opened now next : Trail D) (end : End) → TrailStandsFor s opened → Missing addr opened now → ((s : Setup) → TrailStandsFor s now → IsTold s now next (Some end)) →
    IsLast s addr opened next end
ended s addr opened now next end h at told =
    let ahead = at.ahead s h in
    let step = told s ahead.stands in
    let same : next.at ≡ now.at = step.stays.at in
    record {
      ahead = record {
        stands = step.stands;
        from = omega (arith, same, ahead.from);
        goes_on = λ made above below. ahead.goes_on made above (omega (arith, same, below));
        floor_is = step.stays.floor_is ∙ ahead.floor_is ∙ ap (λ (n : ℕ). floors opened.steps.capacity s opened.at opened.floor (n - opened.at)) (sym same);
        history_is = step.history_is ∙ ahead.history_is;
      };
      answer = ap (end_at s) same ∙ sym step.answer;
      missed = subst (λ (n : ℕ). Misses s addr opened.at n) (sym same) (at.missed s h);
    }

-- each step leaves fewer
pub fewer : {D : Type 0} (opened now next : Trail D) (addr : ℕ) → IsOnTrail opened → Missing addr opened now → ((s : Setup) → TrailStandsFor s now → IsTold s now next None) →
    next.cycles - next.at < now.cycles - now.at
fewer opened now next addr on at told =
    let h = (at.ahead on.setup on.stands).stands in
    let step = told on.setup h in
    omega (arith, step.moved.at, step.stands.place.within, step.stands.cycles, h.cycles)

-- there is still a setup for which it stands
pub on_trail : {D : Type 0} (opened now next : Trail D) (addr : ℕ) {result : Option End} → IsOnTrail opened → Missing addr opened now → ((s : Setup) → TrailStandsFor s now → IsTold s now next result) → IsOnTrail next
on_trail opened now next addr on at told = record {
  setup = on.setup;
  stands = (told on.setup (at.ahead on.setup on.stands).stands).stands;
}

pub still_on : {D : Type 0} (opened now : Trail D) (addr : ℕ) → IsOnTrail opened → Missing addr opened now → IsOnTrail now
still_on opened now addr on at = record { setup = on.setup; stands = (at.ahead on.setup on.stands).stands }
