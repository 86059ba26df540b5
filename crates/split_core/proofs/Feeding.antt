-- An entry that goes to the timing side at once, and the steps that this makes behind it.
use Rattle.std.proofs.Common.{◌≡◌, ◌&&◌, ℕ, Bool, true, is_none, Option, Some, None, List, ◌∷◌, ◌++◌, reverse, ap, sym, ◌∙◌, subst}
use Rattle.circular_buffer.specs.Buffer.{Buffer}
use Rattle.rollback_cmds.specs.declared.order.Order.{Order}
use Rattle.trace_entry.specs.declared.Entry.{Entry}
use Rattle.mono_model.specs.declared.setup.Setup.{Setup}
use Rattle.mono_model.specs.Path.{entry, openings}
use Rattle.mono_model.specs.Sequence.{entry_at}
use Rattle.mono_model.specs.Demand.{Place, told, needs_entry}
use Rattle.machine_laws.specs.SplitLaw.{IsRunIn}
use Rattle.machine_laws.specs.Telling.{with_order}
use Rattle.func_model.specs.declared.walk.Walk.{Walk}
use Rattle.func_model.specs.Walk.{WalkStandsFor, IsObeyed, IsProduced, entry_if}
use Rattle.side_laws.specs.Along.{MayObey}
use Rattle.time_model.specs.declared.turn.Turn.{Turn}
use Rattle.time_model.specs.declared.turn.Turn.TheVariants.{Ordered}
use Rattle.time_model.specs.Turns.{order_told}
use Rattle.split_core.specs.declared.state.SplitState.{SplitState}
use Rattle.split_core.specs.Along.{At}
use Rattle.split_core.specs.Plays.{Plays, IsClear}
use Rattle.split_core.specs.Timed.{Timed, IsTimed, IsRightOn, IsFedOn}
use Rattle.split_core.specs.Standing.{IsStandingOn}
use Rattle.split_core.proofs.Standing.{sees}
use Rattle.split_core.proofs.OnDemand.{plays_on, plays_standing}
use Rattle.split_core.proofs.Handing.{Made, handed_right, handed_played}
use Rattle.split_core.proofs.Clear.{clear_at, as_run, run_silent, run_may, run_obeyed}

module _ {D T : Type 0} (timed : Timed T) (laws : IsTimed timed) (state : SplitState D T) (clear : IsClear state) (func : Walk D) (e : Entry) (written : Bool) (wrote : written ≡ true)
    (made : Made state.func func (entry_if written e)) (wants : (s : Setup) (k : ℕ) → timed.stands s k state.time → true ≡ (needs_entry ((timed.run s).places k) && is_none (timed.held state.time))) where
  some : entry_if written e ≡ Some e
  some = ap (λ (b : Bool). entry_if b e) wrote

  pub fed_right : IsStandingOn timed state → IsRightOn timed e state.time
  fed_right st = handed_right timed laws state (ap is_none clear.computed) clear.entries func e (entry_if written e) some made st wants

  -- it is of the side's epoch, since every order told was obeyed
  pub fed_own : IsStandingOn timed state → e.epoch ≡ timed.epoch state.time
  unfolding entry entry_at
  fed_own st =
      let s = st.setup in
      let x : At = st.split in
      let h = st.stands in
      let is : IsProduced s x.split.obeyed state.func func (Some e) = subst (IsProduced s x.split.obeyed state.func func) some (made.produced s x.split.obeyed h.func) in
      let run : IsRunIn s (timed.run s) x.split = laws.law s x st.sound st.reached in
      let told_is : told x.split.place ≡ x.split.obeyed =
      run.orders ∙ ap (λ (o : Option Order). with_order o (reverse x.split.listed_orders ++ x.split.obeyed)) (sym h.hand ∙ clear.hand)
      ∙ ap (λ (os : List Order). reverse os ++ x.split.obeyed) (sym (ap (λ (b : Buffer Order). b.items) h.listed_orders) ∙ clear.orders) in
      ap (λ (made : Entry). made.epoch) is.entry_is ∙ ap openings (sym told_is) ∙ ap (λ (p : Place). openings (told p)) (sees timed laws s x st.reached)
      ∙ sym (laws.epoch s x.steps state.time h.time)

  module _ (time : T) (turn : Turn) (fed : IsFedOn timed e state.time time turn) where
    -- the entry is taken
    abbrev mid : SplitState D T
    mid = record state { func = func; time = fed.taken }

    mid_clear : IsClear mid
    mid_clear = clear_at state clear func fed.taken

    comes : Plays timed state mid
    comes = handed_played timed laws state (ap is_none clear.computed) clear.entries func e (entry_if written e) some made fed.taken fed.answer wants fed.stands fed.used fed.dropped fed.by_epoch

    -- the steps behind it tell no order
    pub fed_silent : order_told turn ≡ None → Plays timed state (record state { func = func; time = time })
    fed_silent none = plays_on timed laws state mid (record state { func = func; time = time }) comes (run_silent timed laws mid mid_clear time turn (as_run timed fed.taken time turn fed.run) none)

    -- they tell one
    module _ (order : Order) (told : turn ≡ Ordered order) where
      pub fed_may : IsStandingOn timed state → MayObey order func
      fed_may st = run_may timed laws mid mid_clear time turn (as_run timed fed.taken time turn fed.run) order told (plays_standing timed laws state mid st comes)

      pub fed_obeyed : (after : Walk D) → ((s : Setup) (os : List Order) → WalkStandsFor s os func → WalkStandsFor s (order ∷ os) after) →
          IsObeyed order func after → Plays timed state (record state { func = after; time = time })
      fed_obeyed after stands moved =
          plays_on timed laws state mid (record state { func = after; time = time }) comes (run_obeyed timed laws mid mid_clear time turn (as_run timed fed.taken time turn fed.run) order told after stands moved)
