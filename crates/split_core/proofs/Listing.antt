-- An entry or an order goes to the end of its list.
use Rattle.std.proofs.Common.{◌≡◌, ◌↔◌, ◌<◌, ◌≤◌, ℕ, true, false, nat_lt, length, Option, Some, None, Result, Ok, Err, is_ok, IsOk, OnOk, IfErr, inl, inr, [], ◌∷◌, ◌++◌, refl, ap, sym, ◌∙◌, subst, arith}
use Rattle.std.proofs.lemmas.Bool.{cond-true, cond-false, cases_lt}
use Rattle.std.proofs.lemmas.Grind.{common_steps}
use Rattle.circular_buffer.specs.Buffer.{Buffer, buffer}
use Rattle.rollback_cmds.specs.declared.order.Order.{Order}
use Rattle.trace_entry.specs.declared.Entry.{Entry}
use Rattle.mono_model.specs.declared.setup.Setup.{Setup}
use Rattle.mono_model.specs.Split.{Split, push, send, pushed, sent, event_at}
use Rattle.split_core.specs.declared.state.SplitState.{SplitState}
use Rattle.split_core.specs.Along.{At, event_on}
use Rattle.split_core.specs.Timed.{Timed, IsTimed}
use Rattle.split_core.specs.Standing.{StandsOn}
use Rattle.split_core.proofs.Standing.{still_stands}
use Rattle.machine_laws.specs.DemandRun.{DemandRun}

push_is : (s : Setup) (r : DemandRun) (x : At) → event_on s r push x ≡ record x { split = pushed s x.split.computed x.split }
unfolding event_on event_at
push_is s r x = refl

send_is : (s : Setup) (r : DemandRun) (x : At) → event_on s r send x ≡ record x { split = sent x.split.hand x.split }
unfolding event_on event_at
send_is s r x = refl

below : (m n : ℕ) → m < n → nat_lt m n ≡ true
below m n less = grind (arith, common_steps)

not_below : (m n : ℕ) → n ≤ m → nat_lt m n ≡ false
not_below m n least = grind (arith, common_steps)

-- what a list that was pushed to says
module _ {T : Type 0} (old new : Buffer T) (item : T) where
  pub accepted : (r : Result (Unit {0}) T) → is_ok r ≡ true → OnOk r (new ≡ buffer (old.items ++ item ∷ []) old.capacity) → new ≡ buffer (old.items ++ item ∷ []) old.capacity
  accepted (Ok u) taken ok = ok
  accepted (Err e) taken ok = cc

  pub refused : (r : Result (Unit {0}) T) → is_ok r ≡ false → IfErr r (λ x. (x ≡ item) × (new ≡ old)) → new ≡ old
  refused (Ok u) full err = cc
  refused (Err e) full err = err.1

pub is_accepted : {T : Type 0} (r : Result (Unit {0}) T) (n m : ℕ) → is_ok r ≡ true → (IsOk r ↔ (n < m)) → n < m
is_accepted r n m taken variant = variant.0 taken

pub is_refused : {T : Type 0} (r : Result (Unit {0}) T) (n m : ℕ) → is_ok r ≡ false → (IsOk r ↔ (n < m)) → m ≤ n
is_refused r n m full variant = elim (cases_lt n m) [
  | inl less ↦ let e : true ≡ false = sym (variant.1 less) ∙ full in cc
  | inr least ↦ least
]

module _ {D T : Type 0} (timed : Timed T) (laws : IsTimed timed) (s : Setup) (x : At) (state : SplitState D T) (h : StandsOn timed s x state) where
  pub nothing_pushed : state.computed ≡ None → StandsOn timed s (event_on s (timed.run s) push x) state
  nothing_pushed none = still_stands timed laws s x (event_on s (timed.run s) push x) state (push_is s (timed.run s) x ∙ ap (λ (o : Option Entry). record x { split = pushed s o x.split }) (sym h.computed ∙ none)) h

  nothing_sent_is : x.split.hand ≡ None → event_on s (timed.run s) send x ≡ x
  nothing_sent_is none = send_is s (timed.run s) x ∙ ap (λ (o : Option Order). record x { split = sent o x.split }) none

  pub nothing_sent : state.hand ≡ None → StandsOn timed s (event_on s (timed.run s) send x) state
  nothing_sent none = still_stands timed laws s x (event_on s (timed.run s) send x) state (nothing_sent_is (sym h.hand ∙ none)) h

  module _ (e : Entry) (some : state.computed ≡ Some e) (entries : Buffer Entry) where
    pub entry_pushed : length state.entries.items < state.entries.capacity → entries ≡ buffer (state.entries.items ++ e ∷ []) state.entries.capacity →
        StandsOn timed s (event_on s (timed.run s) push x) (record state { computed = None; entries = entries })
    entry_pushed room is =
        let less : length x.split.entries < s.ring = subst (λ (b : Buffer Entry). length b.items < b.capacity) h.entries room in
        still_stands timed laws s (record x { split = record x.split { computed = None; entries = x.split.entries ++ e ∷ [] } }) (event_on s (timed.run s) push x) (record state { computed = None; entries = entries })
        (push_is s (timed.run s) x ∙ ap (λ (o : Option Entry). record x { split = pushed s o x.split }) (sym h.computed ∙ some) ∙ ap (λ (y : Split). record x { split = y }) (cond-true (nat_lt (length x.split.entries) s.ring) _ _ (below (length x.split.entries) s.ring less)))
        (record {
          func = h.func;
          position = h.position;
          time = h.time;
          held = h.held;
          computed = refl;
          hand = h.hand;
          entries = is ∙ ap (λ (b : Buffer Entry). buffer (b.items ++ e ∷ []) b.capacity) h.entries;
          listed_orders = h.listed_orders;
          rounds = h.rounds;
          steps = h.steps;
          going = h.going;
        })

    pub entry_kept : state.entries.capacity ≤ length state.entries.items → entries ≡ state.entries → StandsOn timed s (event_on s (timed.run s) push x) (record state { entries = entries })
    entry_kept full same =
        let most : s.ring ≤ length x.split.entries = subst (λ (b : Buffer Entry). b.capacity ≤ length b.items) h.entries full in
        let P : Buffer Entry → Type 0 = λ b. StandsOn timed s x (record state { entries = b }) in
        still_stands timed laws s x (event_on s (timed.run s) push x) (record state { entries = entries })
        (push_is s (timed.run s) x ∙ ap (λ (o : Option Entry). record x { split = pushed s o x.split }) (sym h.computed ∙ some) ∙ ap (λ (y : Split). record x { split = y }) (cond-false (nat_lt (length x.split.entries) s.ring) _ _ (not_below (length x.split.entries) s.ring most)))
        (subst P (sym same) h)

  module _ (o : Order) (some : state.hand ≡ Some o) (listed : Buffer Order) where
    pub order_sent : length state.listed_orders.items < state.listed_orders.capacity → listed ≡ buffer (state.listed_orders.items ++ o ∷ []) state.listed_orders.capacity →
        StandsOn timed s (event_on s (timed.run s) send x) (record state { hand = None; listed_orders = listed })
    order_sent room is =
        let less : length x.split.listed_orders < 64 = subst (λ (b : Buffer Order). length b.items < b.capacity) h.listed_orders room in
        still_stands timed laws s (record x { split = record x.split { hand = None; listed_orders = x.split.listed_orders ++ o ∷ [] } }) (event_on s (timed.run s) send x) (record state { hand = None; listed_orders = listed })
        (send_is s (timed.run s) x ∙ ap (λ (it : Option Order). record x { split = sent it x.split }) (sym h.hand ∙ some) ∙ ap (λ (y : Split). record x { split = y }) (cond-true (nat_lt (length x.split.listed_orders) 64) _ _ (below (length x.split.listed_orders) 64 less)))
        (record {
          func = h.func;
          position = h.position;
          time = h.time;
          held = h.held;
          computed = h.computed;
          hand = refl;
          entries = h.entries;
          listed_orders = is ∙ ap (λ (b : Buffer Order). buffer (b.items ++ o ∷ []) b.capacity) h.listed_orders;
          rounds = h.rounds;
          steps = h.steps;
          going = h.going;
        })

    pub order_kept : state.listed_orders.capacity ≤ length state.listed_orders.items → listed ≡ state.listed_orders → StandsOn timed s (event_on s (timed.run s) send x) (record state { listed_orders = listed })
    order_kept full same =
        let most : 64 ≤ length x.split.listed_orders = subst (λ (b : Buffer Order). b.capacity ≤ length b.items) h.listed_orders full in
        let P : Buffer Order → Type 0 = λ b. StandsOn timed s x (record state { listed_orders = b }) in
        still_stands timed laws s x (event_on s (timed.run s) send x) (record state { listed_orders = listed })
        (send_is s (timed.run s) x ∙ ap (λ (it : Option Order). record x { split = sent it x.split }) (sym h.hand ∙ some) ∙ ap (λ (y : Split). record x { split = y }) (cond-false (nat_lt (length x.split.listed_orders) 64) _ _ (not_below (length x.split.listed_orders) 64 most)))
        (subst P (sym same) h)
