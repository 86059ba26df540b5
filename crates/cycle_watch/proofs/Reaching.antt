-- Where the miss of the instruction to fetch next was counted, its entry is held, whatever events led there.
use Rattle.std.proofs.Common.{◌≡◌, ◌∙◌, ℕ, zero, suc, ◌==◌, ◌&&◌, not, Bool, true, false, is_none, is_some, Option, Some, None, List, [], ◌∷◌, refl, sym, ap, subst}
use Rattle.std.proofs.lemmas.Bool.{and_parts, cond_both, not-true}
use Rattle.trace_entry.specs.declared.Entry.{Entry}
use Rattle.mono_model.specs.declared.setup.Setup.{Setup}
use Rattle.mono_model.specs.Machine.{machine_start}
use Rattle.mono_model.specs.Demand.{Place, needs_entry, place_start}
use Rattle.mono_model.specs.Split.{Event, compute, push, obey, tick, take, send, event_at, held_after, is_halted, may_tick, split_start, told_by}
use Rattle.machine_laws.specs.DemandRun.{DemandRun}
use Rattle.machine_laws.proofs.SplitRounds.{compute_side, push_side, obey_side, take_takes, send_sends}
use Rattle.split_core.specs.Along.{At, IsReachedOn, event_on, played_on, start_at, stepped_to}
use Rattle.split_core.specs.AlongLaws.{Sees, event_sees, start_sees}
use Rattle.cycle_watch.proofs.Paid.{HeldAt}

-- each step of a demand run keeps it
abbrev pub KeepsHeld : DemandRun → Type 0
KeepsHeld r = (k : ℕ) (held : Option Entry) → HeldAt (r.places k) held → (needs_entry (r.places k) && is_none held) ≡ false →
    HeldAt (r.places (suc k)) (held_after (told_by (r.places k) (r.places (suc k))) (r.places k) (r.places (suc k)) held)

abbrev Holds : At → Type 0
Holds x = HeldAt x.split.place x.split.held

some_kept : (before after : Option Entry) → (after ≡ None → before ≡ None) → is_some before ≡ true → is_some after ≡ true
some_kept before (Some e) none some = refl
some_kept before None none some = let e : false ≡ true = ap (λ (o : Option Entry). is_some o) (sym (none refl)) ∙ some in cc

-- an event that moves neither the place nor the entry
beside : (p q : Place) (before after : Option Entry) → q ≡ p → (after ≡ None → before ≡ None) → HeldAt p before → HeldAt q after
beside p q before after same none h = λ on paid.
    some_kept before after none
    (h (ap (λ (place : Place). is_halted place.run.at) (sym same) ∙ on) (ap (λ (place : Place). place.run.demand.machine.paid) (sym same) ∙ paid))

as_before : (before after : Option Entry) → after ≡ before → after ≡ None → before ≡ None
as_before before after same none = sym same ∙ none

module _ (s : Setup) (r : DemandRun) (law : KeepsHeld r) where
  stepped_holds : (x : At) → Sees r x → Holds x → may_tick x.split ≡ true → Holds (stepped_to r x)
  stepped_holds x sees h may =
      let p = x.split.place in
      let held = x.split.held in
      let q = r.places (suc x.steps) in
      let free : (needs_entry p && is_none held) ≡ false =
      not-true (needs_entry p && is_none held) (and_parts (is_none x.split.hand && not (is_halted p.run.at && p.owed == 0)) (not (needs_entry p && is_none held)) may).1 in
      let H : Place → Type 0 = λ place. HeldAt place held → (needs_entry place && is_none held) ≡ false → HeldAt q (held_after (told_by place q) place q held) in
      let on : H p = subst H (sym sees) (law x.steps held) in
      on h free

  event_holds : (e : Event) (x : At) → Sees r x → Holds x → Holds (event_on s r e x)
  unfolding event_on event_at
  event_holds compute x sees h =
      let is = compute_side s x.split in
      let y = event_at s compute x.split in
      beside x.split.place y.place x.split.held y.held is.place (as_before x.split.held y.held is.held) h
  event_holds push x sees h =
      let is = push_side s x.split.computed x.split in
      let y = event_at s push x.split in
      beside x.split.place y.place x.split.held y.held is.place (as_before x.split.held y.held is.held) h
  event_holds obey x sees h =
      let is = obey_side x.split.listed_orders x.split in
      let y = event_at s obey x.split in
      beside x.split.place y.place x.split.held y.held is.place (as_before x.split.held y.held is.held) h
  event_holds tick x sees h = cond_both (may_tick x.split) (stepped_to r x) x Holds (λ may. stepped_holds x sees h may) (λ off. h)
  event_holds take x sees h =
      let is = take_takes x.split.entries x.split in
      let y = event_at s take x.split in
      beside x.split.place y.place x.split.held y.held is.place is.held h
  event_holds send x sees h =
      let is = send_sends x.split.hand x.split in
      let y = event_at s send x.split in
      beside x.split.place y.place x.split.held y.held is.place (as_before x.split.held y.held is.held) h

  played_holds : (events : List Event) (x : At) → Sees r x → Holds x → Holds (played_on s r events x)
  played_holds [] x sees h = h
  played_holds (e ∷ events) x sees h = played_holds events (event_on s r e x) (event_sees s r e x sees) (event_holds e x sees h)

  start_holds : Holds (start_at s)
  unfolding split_start machine_start
  start_holds = λ on paid. let e : false ≡ true = paid in cc

  pub reached_holds : (x : At) → r.places 0 ≡ place_start s → IsReachedOn s r x → HeldAt x.split.place x.split.held
  reached_holds x start reached = subst Holds (sym reached.is) (played_holds reached.events (start_at s) (start_sees s r start) start_holds)
