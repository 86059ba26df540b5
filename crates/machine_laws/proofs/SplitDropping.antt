-- Where no order waits, a round without a step drops an entry of an older epoch.
use Rattle.std.proofs.Common.{◌≡◌, ℕ, ◌+◌, ◌≤◌, ◌<◌, is_none, true, false, Option, Some, None, IfSome, List, [], ◌++◌, reverse, length, refl, ap, sym, ◌∙◌, subst, arith}
use Rattle.std.proofs.lemmas.Bool.{cond_both, and_from}
use Rattle.rollback_cmds.specs.declared.order.Order.{Order}
use Rattle.trace_entry.specs.declared.Entry.{Entry}
use Rattle.mono_model.specs.declared.setup.Setup.{Setup}
use Rattle.mono_model.specs.Path.{entry, openings, has_stop}
use Rattle.mono_model.specs.Demand.{next, Place, told, is_try, needs_entry}
use Rattle.mono_model.specs.Split.{Split, compute, room, may_compute, on_compute, pushed, on_obey, on_take}
use Rattle.machine_laws.specs.Numbers.{last_commit}
use Rattle.machine_laws.specs.Telling.{with_order}
use Rattle.machine_laws.specs.DemandRun.{DemandRun}
use Rattle.machine_laws.proofs.Laws.{IsDemandRun}
use Rattle.machine_laws.proofs.SplitEvents.{event_to}
use Rattle.machine_laws.proofs.SplitRun.{Known}
use Rattle.machine_laws.proofs.SplitLists.{hand_list, entry_list, Lead, position_behind}
use Rattle.machine_laws.proofs.SplitAhead.{flight, goal_position, needs_none}
use Rattle.machine_laws.proofs.SplitCounts.{none_stops}
use Rattle.machine_laws.proofs.SplitEntries.{needs_on}
use Rattle.machine_laws.proofs.SplitRounds.{IsFresh, event_fresh, compute_side, push_side}
use Rattle.machine_laws.proofs.SplitStale.{stale, push_stale, compute_some, take_stale}
use Rattle.machine_laws.proofs.SplitBoundary.{before_step, none_from}

compute_obeyed : (s : Setup) (x : Split) → (on_compute s x).obeyed ≡ x.obeyed
compute_obeyed s x =
    cond_both (may_compute s x) (record x { computed = Some (entry s x.obeyed x.position); position = x.position + 1 }) x (λ y. y.obeyed ≡ x.obeyed) (λ may. refl) (λ may. refl)

compute_entries : (s : Setup) (x : Split) → (on_compute s x).entries ≡ x.entries
compute_entries s x =
    cond_both (may_compute s x) (record x { computed = Some (entry s x.obeyed x.position); position = x.position + 1 }) x (λ y. y.entries ≡ x.entries) (λ may. refl) (λ may. refl)

fresh_computed : (s : Setup) (x : Split) → IsFresh x → IsFresh (on_compute s x)
unfolding event_to
fresh_computed s x is = event_fresh s x.place compute x is

module _ {s : Setup} {r : DemandRun} (laws : IsDemandRun s r) (x : Split) (is : Known s r x) (ring : 1 ≤ s.ring) (no_hand : x.hand ≡ None) (no_listed : x.listed_orders ≡ []) (needs : needs_entry x.place ≡ true) (no_held : x.held ≡ None) where
  all_obeyed : told x.place ≡ x.obeyed
  all_obeyed = is.holds.ordered.orders ∙ ap (λ (h : Option Order). with_order h (reverse x.listed_orders ++ x.obeyed)) no_hand ∙ ap (λ (l : List Order). reverse l ++ x.obeyed) no_listed

  runs : x.is_stopped ≡ false
  runs =
      is.holds.counted.stopped ∙ ap (λ (os : List Order). has_stop os) (sym all_obeyed) ∙ none_stops (told x.place) (is.holds.ahead.going (needs_on x.place needs))

  goal : goal_position x ≡ x.position
  goal = ap (λ (l : List Order). position_behind (l ++ hand_list x.hand) x.position) no_listed ∙ ap (λ (h : Option Order). position_behind (hand_list h) x.position) no_hand

  window : next x.place.run.demand ≤ last_commit (told x.place) + s.params.core_window
  window =
      subst (λ (p : Place). next p.run.demand ≤ last_commit (told p) + s.params.core_window) (sym is.holds.ordered.at)
      (omega (arith, laws.done is.holds.ordered.steps, laws.window is.holds.ordered.steps))

  has_room : x.computed ≡ None → x.entries ≡ [] → x.position < x.committed_number + room s
  has_room none empty =
      let flies : flight x ≡ [] =
      ap (λ (h : Option Entry). entry_list h ++ (x.entries ++ entry_list x.computed)) no_held ∙ ap (λ (l : List Entry). l ++ entry_list x.computed) empty ∙ ap (λ (c : Option Entry). entry_list c) none in
      let at : next x.place.run.demand ≡ goal_position x =
      subst (λ (l : List Entry). Lead (openings (told x.place)) (next x.place.run.demand) l (goal_position x)) flies
      (is.holds.ahead.lead (needs_on x.place needs) (needs_none x.place.owed (is_try x.place.run.at) needs)) in
      omega (arith, at, goal, window, is.holds.counted.committed, ap (λ (os : List Order). last_commit os) all_obeyed)

  computes : Split
  computes = on_compute s x

  pushes : Split
  pushes = pushed s computes.computed computes

  some : 1 ≤ length pushes.entries
  unfolding pushes computes
  some = compute_some s x.computed x refl ring (λ none empty. (runs, has_room none empty))

  pushes_place : pushes.place ≡ x.place
  unfolding pushes computes
  pushes_place = (push_side s computes.computed computes).place ∙ (compute_side s x).place

  pushes_held : pushes.held ≡ None
  unfolding pushes computes
  pushes_held = (push_side s computes.computed computes).held ∙ (compute_side s x).held ∙ no_held

  fewer_pushed : stale (openings (told x.place)) pushes.entries ≤ stale (openings (told x.place)) x.entries
  unfolding pushes computes
  fewer_pushed =
      let epoch : openings computes.obeyed ≡ openings (told x.place) = ap (λ (os : List Order). openings os) (compute_obeyed s x ∙ sym all_obeyed) in
      let fresh : IfSome computes.computed (λ e. e.epoch ≡ openings (told x.place)) =
      subst (λ (k : ℕ). IfSome computes.computed (λ e. e.epoch ≡ k)) epoch (fresh_computed s x is.fresh) in
      omega (arith, push_stale s (openings (told x.place)) computes.computed computes fresh, ap (λ (l : List Entry). stale (openings (told x.place)) l) (compute_entries s x))

  pub drops : (before_step s x).held ≡ None → stale (openings (told x.place)) (before_step s x).entries < stale (openings (told x.place)) x.entries
  unfolding pushes computes
  drops none =
      let y = on_obey x.listed_orders x in
      let same : y ≡ x = ap (λ (l : List Order). on_obey l x) no_listed in
      let B : Split → Split = λ y. on_take (pushed s (on_compute s y).computed (on_compute s y)).entries (pushed s (on_compute s y).computed (on_compute s y)) in
      let here : (on_take pushes.entries pushes).held ≡ None = ap (λ (y : Split). (B y).held) (sym same) ∙ none in
      let may = and_from (needs_entry pushes.place) (is_none pushes.held) (subst (λ (p : Place). needs_entry p ≡ true) (sym pushes_place) needs) (none_from pushes.held pushes_held) in
      let dropped : stale (openings (told x.place)) (on_take pushes.entries pushes).entries < stale (openings (told x.place)) pushes.entries =
      subst (λ (p : Place). stale (openings (told p)) (on_take pushes.entries pushes).entries < stale (openings (told p)) pushes.entries) pushes_place (take_stale pushes.entries pushes refl some may here) in
      omega (arith, dropped, fewer_pushed, ap (λ (y : Split). stale (openings (told x.place)) (B y).entries) same)
