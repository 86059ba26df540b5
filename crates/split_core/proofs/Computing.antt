-- The functional side computes an entry.
use Rattle.std.proofs.Common.{◌≡◌, ◌↔◌, ◌<◌, ◌≤◌, ◌+◌, ℕ, Bool, true, false, is_none, Option, Some, None, IfSome, IfNone, IsNone, List, refl, ap, sym, ◌∙◌, subst, arith, inl, inr}
use Rattle.std.proofs.lemmas.Bool.{cond-true, cond-false}
use Rattle.std.proofs.lemmas.Grind.{common_steps}
use Rattle.rollback_cmds.specs.declared.order.Order.{Order}
use Rattle.trace_entry.specs.declared.Entry.{Entry}
use Rattle.mono_model.specs.declared.setup.Setup.{Setup}
use Rattle.mono_model.specs.Path.{entry}
use Rattle.mono_model.specs.Split.{Split, compute, event_at, may_compute, room}
use Rattle.machine_laws.specs.SplitLaw.{IsRunIn}
use Rattle.func_model.specs.declared.walk.Walk.{Walk}
use Rattle.func_model.specs.Walk.{WalkStandsFor, IsAtRest, IsForward, IsProduced}
use Rattle.split_core.specs.declared.state.SplitState.{SplitState}
use Rattle.split_core.specs.Along.{At, event_on, IsReachedOn}
use Rattle.split_core.specs.Timed.{Timed, IsTimed}
use Rattle.split_core.specs.Standing.{StandsOn}
use Rattle.split_core.proofs.Standing.{Agrees, agrees, still_stands, none_is}
use Rattle.machine_laws.specs.DemandRun.{DemandRun}

computes_not : (s : Setup) (r : DemandRun) (x : At) → may_compute s x.split ≡ false → event_on s r compute x ≡ x
unfolding event_on event_at
computes_not s r x may = ap (λ (y : Split). record x { split = y }) (cond-false (may_compute s x.split) _ _ may)

computes : (s : Setup) (r : DemandRun) (x : At) → may_compute s x.split ≡ true → event_on s r compute x ≡ record x { split = record x.split { computed = Some (entry s x.split.obeyed x.split.position); position = x.split.position + 1 } }
unfolding event_on event_at
computes s r x may = ap (λ (y : Split). record x { split = y }) (cond-true (may_compute s x.split) _ _ may)

-- an entry that is computed is in the way
full_hand : (s : Setup) (x : At) → is_none x.split.computed ≡ false → may_compute s x.split ≡ false
full_hand s x full = grind (arith, common_steps)

module _ {D T : Type 0} (timed : Timed T) (laws : IsTimed timed) (s : Setup) (x : At) (state : SplitState D T) (sound : timed.allows s) (reached : IsReachedOn s (timed.run s) x) (h : StandsOn timed s x state) where
  pub keeps_computed : is_none state.computed ≡ false → StandsOn timed s (event_on s (timed.run s) compute x) state
  keeps_computed full = still_stands timed laws s x (event_on s (timed.run s) compute x) state (computes_not s (timed.run s) x (full_hand s x (ap is_none (sym h.computed) ∙ full))) h

  rests : IsAtRest state.func → may_compute s x.split ≡ false
  rests rest =
      let run : IsRunIn s (timed.run s) x.split = laws.law s x sound reached in
      let same : Agrees x state = agrees timed laws s x state sound reached h in
      elim rest [
        | inl stopped ↦
            let is : x.split.is_stopped ≡ true = sym same.stopped ∙ stopped in
            grind (arith, common_steps)
        | inr full ↦
            let least : x.split.committed_number ≤ x.split.position = run.counted.least in
            let at : x.split.committed_number + room s ≤ x.split.position = omega (arith, full, h.func.holds.held, h.func.holds.capacity, h.position, same.committed, run.counted.least) in
            grind (arith, common_steps)
      ]

  goes : (IsAtRest state.func → ⊥) → is_none state.computed ≡ true → may_compute s x.split ≡ true
  goes free empty =
      let run : IsRunIn s (timed.run s) x.split = laws.law s x sound reached in
      let same : Agrees x state = agrees timed laws s x state sound reached h in
      let none : is_none x.split.computed ≡ true = ap is_none (sym h.computed) ∙ empty in
      let running : x.split.is_stopped ≡ false = not_stopped x.split.is_stopped (λ is. free (inl (same.stopped ∙ is))) in
      let most : x.split.position ≤ x.split.committed_number + room s = run.counted.most in
      let apart : x.split.position ≡ x.split.committed_number + room s → ⊥ = λ is. free (inr (omega (arith, is, h.func.holds.held, h.func.holds.capacity, h.position, same.committed))) in
      let below : x.split.position < x.split.committed_number + room s = omega (arith, most, apart) in
      grind (arith, common_steps)
    where
      not_stopped : (b : Bool) → (b ≡ true → ⊥) → b ≡ false
      not_stopped true none = absurd (none refl)
      not_stopped false none = refl

  module _ (func : Walk D) (empty : is_none state.computed ≡ true) where
    pub computed_stands : (result : Option Entry) → ((s : Setup) (os : List Order) → WalkStandsFor s os state.func → IsProduced s os state.func func result) →
        IfSome result (λ e. IsForward state.func func) → (IsNone result ↔ IsAtRest state.func) → IfNone result (func ≡ state.func) →
        StandsOn timed s (event_on s (timed.run s) compute x) (record state { func = func; computed = result })
    computed_stands None produced moved none same =
        let P : Walk D → Type 0 = λ f. StandsOn timed s x (record state { func = f; computed = None }) in
        let Q : Option Entry → Type 0 = λ o. StandsOn timed s x (record state { computed = o }) in
        still_stands timed laws s x (event_on s (timed.run s) compute x) (record state { func = func; computed = None }) (computes_not s (timed.run s) x (rests (none.0 refl)))
        (subst P (sym same) (subst Q (none_is state.computed empty) h))
    computed_stands (Some e) produced moved none same =
        let made : IsProduced s x.split.obeyed state.func func (Some e) = produced s x.split.obeyed h.func in
        let may : may_compute s x.split ≡ true = goes (λ rest. cc (none.1 rest)) empty in
        still_stands timed laws s (record x { split = record x.split { computed = Some (entry s x.split.obeyed x.split.position); position = x.split.position + 1 } }) (event_on s (timed.run s) compute x) (record state { func = func; computed = Some e }) (computes s (timed.run s) x may)
        (record {
          func = made.stands;
          position = moved.position ∙ ap (λ (n : ℕ). n + 1) h.position;
          time = h.time;
          held = h.held;
          computed = ap Some (made.entry_is ∙ ap (entry s x.split.obeyed) h.position);
          hand = h.hand;
          entries = h.entries;
          listed_orders = h.listed_orders;
          rounds = h.rounds;
          steps = h.steps;
          going = h.going;
        })
