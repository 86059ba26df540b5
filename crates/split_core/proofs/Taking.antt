-- The timing side takes an entry.
use Rattle.std.proofs.Common.{◌≡◌, ◌↔◌, ℕ, Bool, true, false, ◌&&◌, ◌==◌, is_none, if◌then◌else◌, Option, Some, None, List, [], ◌∷◌, drop, slice_get, refl, ap, sym, ◌∙◌, subst, arith}
use Rattle.std.proofs.lemmas.Bool.{cond-true, cond-false, and_parts, eq-eqb}
use Rattle.std.proofs.lemmas.Grind.{common_steps}
use Rattle.circular_buffer.specs.Buffer.{Buffer, buffer}
use Rattle.trace_entry.specs.declared.Entry.{Entry}
use Rattle.mono_model.specs.declared.setup.Setup.{Setup}
use Rattle.mono_model.specs.Path.{openings}
use Rattle.mono_model.specs.Demand.{Place, told, needs_entry, needed_entry}
use Rattle.mono_model.specs.Split.{Split, take, event_at, may_take, on_take, taken}
use Rattle.machine_laws.specs.SplitLaw.{IsRunIn}
use Rattle.time_model.specs.declared.side.Taken.{Taken}
use Rattle.time_model.specs.declared.side.Taken.TheVariants.{Used, Dropped}
use Rattle.split_core.specs.declared.state.SplitState.{SplitState}
use Rattle.split_core.specs.Along.{At, event_on, IsReachedOn}
use Rattle.split_core.specs.Timed.{Timed, IsTimed, IsRightOn}
use Rattle.split_core.specs.Standing.{StandsOn, IsStandingOn}
use Rattle.split_core.proofs.Standing.{sees, still_stands, none_is, front_is, no_front}
use Rattle.machine_laws.specs.DemandRun.{DemandRun}

take_is : (s : Setup) (r : DemandRun) (x : At) → event_on s r take x ≡ record x { split = on_take x.split.entries x.split }
unfolding event_on event_at
take_is s r x = refl

take_by : (x : Split) (es : List Entry) → may_take x ≡ false → on_take es x ≡ x
take_by x [] may = refl
take_by x (e ∷ rest) may = cond-false (may_take x) _ _ may

not_equal : (m n : ℕ) → (m ≡ n → ⊥) → (m == n) ≡ false
not_equal m n apart = grind (arith, common_steps)

module _ {D T : Type 0} (timed : Timed T) (laws : IsTimed timed) (s : Setup) (x : At) (state : SplitState D T) (reached : IsReachedOn s (timed.run s) x) (h : StandsOn timed s x state) where
  items_are : state.entries.items ≡ x.split.entries
  items_are = ap (λ (b : Buffer Entry). b.items) h.entries

  -- whether the timing side wants an entry is whether the event may happen
  may_is : (wants : Bool) → ((s : Setup) (k : ℕ) → timed.stands s k state.time → wants ≡ (needs_entry ((timed.run s).places k) && is_none (timed.held state.time))) → may_take x.split ≡ wants
  may_is wants is =
      ap (λ (p : Place). needs_entry p && is_none x.split.held) (sees timed laws s x reached) ∙ ap (λ (o : Option Entry). needs_entry ((timed.run s).places x.steps) && is_none o) (sym h.held) ∙ sym (is s x.steps h.time)

  pub wants_none : ((s : Setup) (k : ℕ) → timed.stands s k state.time → false ≡ (needs_entry ((timed.run s).places k) && is_none (timed.held state.time))) → StandsOn timed s (event_on s (timed.run s) take x) state
  wants_none is = still_stands timed laws s x (event_on s (timed.run s) take x) state (take_is s (timed.run s) x ∙ ap (λ (y : Split). record x { split = y }) (take_by x.split x.split.entries (may_is false is))) h

  module _ (entries : Buffer Entry) (popped : entries ≡ buffer (drop 1 state.entries.items) state.entries.capacity) where
    pub nothing_taken : slice_get state.entries.items 0 ≡ None → StandsOn timed s (event_on s (timed.run s) take x) (record state { entries = entries })
    nothing_taken front =
        let none : state.entries.items ≡ [] = no_front state.entries.items front in
        let same : entries ≡ state.entries = popped ∙ ap (λ (es : List Entry). buffer (drop 1 es) state.entries.capacity) none ∙ ap (λ (es : List Entry). buffer es state.entries.capacity) (sym none) in
        let P : Buffer Entry → Type 0 = λ b. StandsOn timed s x (record state { entries = b }) in
        still_stands timed laws s x (event_on s (timed.run s) take x) (record state { entries = entries })
        (take_is s (timed.run s) x ∙ ap (λ (es : List Entry). record x { split = on_take es x.split }) (sym items_are ∙ none))
        (subst P (sym same) h)

    module _ (sound : timed.allows s) (e : Entry) (front : slice_get state.entries.items 0 ≡ Some e)
        (wants : (s : Setup) (k : ℕ) → timed.stands s k state.time → true ≡ (needs_entry ((timed.run s).places k) && is_none (timed.held state.time))) where
      listed_is : x.split.entries ≡ e ∷ drop 1 x.split.entries
      listed_is = front_is x.split.entries e (ap (λ (es : List Entry). slice_get es 0) (sym items_are) ∙ front)

      -- the entry of the side's epoch is the one that its place needs
      pub needed_is : e.epoch ≡ timed.epoch state.time → e ≡ needed_entry s ((timed.run s).places x.steps)
      needed_is same =
          let run : IsRunIn s (timed.run s) x.split = laws.law s x sound reached in
          let parts = and_parts (needs_entry x.split.place) (is_none x.split.held) (may_is true wants) in
          let epoch : e.epoch ≡ openings (told x.split.place) = same ∙ laws.epoch s x.steps state.time h.time ∙ ap (λ (p : Place). openings (told p)) (sym (sees timed laws s x reached)) in
          run.next e (drop 1 x.split.entries) parts.0 (none_is x.split.held parts.1) listed_is epoch ∙ ap (needed_entry s) (sees timed laws s x reached)

      pub entry_taken : (time : T) (answer : Taken) →
          ((s : Setup) (k : ℕ) → timed.stands s k state.time → (e.epoch ≡ timed.epoch state.time → e ≡ needed_entry s ((timed.run s).places k)) → timed.stands s k time) →
          (answer ≡ Used → timed.held time ≡ Some e) → (answer ≡ Dropped → time ≡ state.time) →
          ((answer ≡ Used) ↔ (e.epoch ≡ timed.epoch state.time)) → StandsOn timed s (event_on s (timed.run s) take x) (record state { entries = entries; time = time })
      entry_taken time answer stands used dropped by_epoch = still_stands timed laws s (record x { split = taken e (drop 1 x.split.entries) x.split }) (event_on s (timed.run s) take x) (record state { entries = entries; time = time })
          (take_is s (timed.run s) x ∙ ap (λ (es : List Entry). record x { split = on_take es x.split }) listed_is ∙ ap (λ (y : Split). record x { split = y }) (cond-true (may_take x.split) _ _ (may_is true wants)))
          (record {
            func = h.func;
            position = h.position;
            time = stands s x.steps h.time needed_is;
            held = held_is answer used dropped by_epoch;
            computed = h.computed;
            hand = h.hand;
            entries = popped ∙ ap (λ (b : Buffer Entry). buffer (drop 1 b.items) b.capacity) h.entries;
            listed_orders = h.listed_orders;
            rounds = h.rounds;
            steps = h.steps;
            going = h.going;
          })
        where
          epoch_is : timed.epoch state.time ≡ openings (told x.split.place)
          epoch_is = laws.epoch s x.steps state.time h.time ∙ ap (λ (p : Place). openings (told p)) (sym (sees timed laws s x reached))

          held_is : (answer : Taken) → (answer ≡ Used → timed.held time ≡ Some e) → (answer ≡ Dropped → time ≡ state.time) →
              ((answer ≡ Used) ↔ (e.epoch ≡ timed.epoch state.time)) → timed.held time ≡ (if e.epoch == openings (told x.split.place) then Some e else x.split.held)
          held_is Used used dropped by_epoch =
              used refl ∙ sym (cond-true (e.epoch == openings (told x.split.place)) (Some e) x.split.held (eq-eqb e.epoch (openings (told x.split.place)) (by_epoch.0 refl ∙ epoch_is)))
          held_is Dropped used dropped by_epoch =
              ap (λ (t : T). timed.held t) (dropped refl) ∙ h.held
              ∙ sym (cond-false (e.epoch == openings (told x.split.place)) (Some e) x.split.held (not_equal e.epoch (openings (told x.split.place)) (λ same. other (by_epoch.1 (same ∙ sym epoch_is)))))
            where
              other : Dropped ≡ Used → ⊥
              other is = cc

pub is_right : {D T : Type 0} (timed : Timed T) (laws : IsTimed timed) (state : SplitState D T) (e : Entry) → IsStandingOn timed state → slice_get state.entries.items 0 ≡ Some e →
    ((s : Setup) (k : ℕ) → timed.stands s k state.time → true ≡ (needs_entry ((timed.run s).places k) && is_none (timed.held state.time))) → IsRightOn timed e state.time
is_right timed laws state e st front wants = record {
  setup = st.setup;
  allowed = st.sound;
  steps = st.split.steps;
  stands = st.stands.time;
  needed = needed_is timed laws st.setup st.split state st.reached st.stands (buffer (drop 1 state.entries.items) state.entries.capacity) refl st.sound e front wants;
}
