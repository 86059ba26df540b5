-- Each step of the in-order machine's timing side is that of its demand run.
use Rattle.std.proofs.Common.{◌≡◌, ℕ, zero, suc, ◌-◌, ◌≤◌, ◌==◌, true, false, if◌then◌else◌, Some, None, List, [], ◌∷◌, ◌++◌, length, length-append, take, drop, refl, ap, sym, ◌∙◌, arith}
use Rattle.std.proofs.lemmas.Bool.{cond-false, ne_eqb}
use Rattle.rollback_cmds.specs.declared.order.Order.{Order}
use Rattle.trace_entry.specs.declared.Entry.{Entry}
use Rattle.mono_model.specs.declared.setup.Setup.{Setup}
use Rattle.mono_model.specs.Arch.{start}
use Rattle.mono_model.specs.Path.{entry, openings}
use Rattle.mono_model.specs.Machine.{machine_start, stats_of}
use Rattle.mono_model.specs.Demand.{is_try, next, told, needs_entry, needed_entry}
use Rattle.mono_model.specs.Split.{told_by}
use Rattle.machine_laws.specs.Relation.{Related}
use Rattle.machine_laws.proofs.Telling.{by_none, by_one}
use Rattle.timing_side.specs.Timing.{timing_start, timing_stats}
use Rattle.timing_side.specs.Step.{oldest, younger}
use Rattle.timing_laws.specs.Seen as timing
use Rattle.timing_laws.proofs.Fetch.{fetch_stands}
use Rattle.timing_laws.proofs.Stepping.{take_younger, drop_oldest, take_made, drop_made}
use Rattle.inorder_machine.specs.Demand.{InorderAt, interrupting, writing, accessing, executing, issuing, trying, ending, stopping, halted, InorderRun, inorder_turn, InorderPlace, inorder_place_start, inorder_moved, inorder_step_by, inorder_step, inorder_place, seen_at, seen_of, seen}
use Rattle.inorder_laws.proofs.Places.{place_related}
use Rattle.inorder_side.specs.Timing.{InorderTiming}
use Rattle.inorder_side.specs.Turn.{InorderTurned, timing_inorder_turn}
use Rattle.inorder_side.specs.Step as held
use Rattle.inorder_side.specs.Step.{InorderTimingPlace, inorder_timing_place_start, InorderStepped, telling, timing_inorder_step, wants_entry, wants_entry_by}
use Rattle.inorder_timing_laws.specs.Seen.{inorder_held, inorder_held_at, IsInorderTurn}
use Rattle.inorder_timing_laws.proofs.Turning.{inorder_turn_seen}

-- what a step makes of a place
abbrev MakesStep : Setup → InorderPlace → InorderPlace → InorderStepped → Type 0
MakesStep s before behind x = x ≡ record { place = inorder_held_at s behind; told = told_by (seen_of before) (seen_of behind) }

abbrev place_at : InorderRun → ℕ → InorderPlace
place_at r owed = record { run = r; owed = owed }

abbrev held_of : Setup → InorderRun → InorderTiming
held_of s r = inorder_held s r.demand r.memory

-- an order that is owed is told
owed_step : (s : Setup) (r : InorderRun) (owed : ℕ) (os : List Order) → r.demand.orders ≡ os → suc owed ≤ length os →
    MakesStep s (place_at r (suc owed)) (place_at r owed) (telling (held_of s r) r.at (openings (drop (suc owed) os)) (take (suc owed) os))
unfolding inorder_held_at
owed_step s r owed [] is within = absurd (omega arith)
owed_step s r owed (o ∷ os) is within =
    let before : InorderPlace = place_at r (suc owed) in
    let behind : InorderPlace = place_at r owed in
    let least : owed ≤ length os = omega arith in
    let falls = drop_oldest owed o os least in
    let stays : younger o (take owed os) ≡ take owed r.demand.orders = take_younger owed o os least ∙ ap (λ (l : List Order). take owed l) (sym is) in
    let opened : openings (oldest o (take owed os) ∷ drop owed os) ≡ openings (drop owed r.demand.orders) =
    ap openings (sym falls ∙ ap (λ (l : List Order). drop owed l) (sym is)) in
    let one : told (seen_of behind) ≡ oldest o (take owed os) ∷ told (seen_of before) =
    ap (λ (l : List Order). drop owed l) is ∙ falls ∙ ap (λ (l : List Order). oldest o (take owed os) ∷ drop (suc owed) l) (sym is) in
    let tells : Some (oldest o (take owed os)) ≡ told_by (seen_of before) (seen_of behind) = sym (by_one (seen_of before) (seen_of behind) (oldest o (take owed os)) one) in
    λ i. record {
      place = record { inorder = held_of s r; at = r.at; owed = stays i; epoch = opened i };
      told = tells i;
    }

-- the orders of a turn
made_step : (s : Setup) (r behind : InorderRun) (made : List Order) → made ++ r.demand.orders ≡ behind.demand.orders → (owed : ℕ) →
    owed ≡ length behind.demand.orders - length r.demand.orders - 1 →
    MakesStep s (place_at r 0) (place_at behind owed) (telling (held_of s behind) behind.at (openings r.demand.orders) made)
unfolding inorder_held_at
made_step s r behind [] is owed count =
    let before : InorderPlace = place_at r 0 in
    let after : InorderPlace = place_at behind owed in
    let none : owed ≡ 0 = omega (arith, ap (λ (l : List Order). length l) is) in
    let same : told (seen_of after) ≡ r.demand.orders = ap (λ (k : ℕ). drop k behind.demand.orders) none ∙ sym is in
    let stays : [] ≡ take owed behind.demand.orders = ap (λ (k : ℕ). take k behind.demand.orders) (sym none) in
    let tells : None ≡ told_by (seen_of before) (seen_of after) = sym (by_none (seen_of before) (seen_of after) same) in
    λ i. record {
      place = record { inorder = held_of s behind; at = behind.at; owed = stays i; epoch = openings (sym same i) };
      told = tells i;
    }
made_step s r behind (o ∷ made) is owed count =
    let before : InorderPlace = place_at r 0 in
    let after : InorderPlace = place_at behind owed in
    let os = r.demand.orders in
    let many : owed ≡ length made = omega (arith, ap (λ (l : List Order). length l) is, length-append made os) in
    let falls : told (seen_of after) ≡ oldest o made ∷ os =
    ap (λ (k : ℕ). drop k behind.demand.orders) many ∙ ap (λ (l : List Order). drop (length made) l) (sym is) ∙ drop_made o made os in
    let stays : younger o made ≡ take owed behind.demand.orders =
    sym (ap (λ (k : ℕ). take k behind.demand.orders) many ∙ ap (λ (l : List Order). take (length made) l) (sym is) ∙ take_made o made os) in
    let tells : Some (oldest o made) ≡ told_by (seen_of before) (seen_of after) = sym (by_one (seen_of before) (seen_of after) (oldest o made) falls) in
    λ i. record {
      place = record { inorder = held_of s behind; at = behind.at; owed = stays i; epoch = openings (sym falls i) };
      told = tells i;
    }

turned_step : (s : Setup) (r : InorderRun) (x : InorderTurned) → IsInorderTurn s r x →
    MakesStep s (place_at r 0) (inorder_moved s r) (telling x.inorder x.at (openings r.demand.orders) x.orders)
turned_step s r x is =
    (λ i. telling (is.inorder i) (is.at i) (openings r.demand.orders) x.orders)
    ∙ made_step s r (inorder_turn s r) x.orders is.orders (length (inorder_turn s r).demand.orders - length r.demand.orders - 1) refl

step_seen : (s : Setup) (owed : ℕ) (r : InorderRun) (e : Entry) → owed ≤ length r.demand.orders → (is_try (seen_at r.at) ≡ true → e ≡ entry s r.demand.orders (next r.demand)) →
    Related s r.demand →
    MakesStep s (place_at r owed) (inorder_step_by s owed r) (held.step_by s e (inorder_held_at s (place_at r owed)) (take owed r.demand.orders))
unfolding inorder_held_at
step_seen s zero r e within entry_is related = turned_step s r (timing_inorder_turn s e r.at (held_of s r)) (inorder_turn_seen s r e entry_is related)
step_seen s (suc owed) r e within entry_is related = owing r.demand.orders within (owed_step s r owed r.demand.orders refl within)
  where
    owing : (os : List Order) → suc owed ≤ length os →
        MakesStep s (place_at r (suc owed)) (place_at r owed) (telling (held_of s r) r.at (openings (drop (suc owed) r.demand.orders)) (take (suc owed) os)) →
        MakesStep s (place_at r (suc owed)) (place_at r owed) (held.step_by s e (inorder_held_at s (place_at r (suc owed))) (take (suc owed) os))
    owing [] within is = absurd (omega arith)
    owing (o ∷ os) within is = is

-- no more orders are owed than were made
owed_by : (s : Setup) (owed : ℕ) (r : InorderRun) → owed ≤ length r.demand.orders →
    (inorder_step_by s owed r).owed ≤ length (inorder_step_by s owed r).run.demand.orders
owed_by s zero r within = omega arith
owed_by s (suc owed) r within = omega arith

pub inorder_owed_within : (s : Setup) (k : ℕ) → (inorder_place s k).owed ≤ length (inorder_place s k).run.demand.orders
unfolding inorder_place inorder_step
inorder_owed_within s zero = omega arith
inorder_owed_within s (suc k) = owed_by s (inorder_place s k).owed (inorder_place s k).run (inorder_owed_within s k)

pub inorder_place_step : (s : Setup) (k : ℕ) →
    timing_inorder_step s (needed_entry s (seen s k)) (inorder_held_at s (inorder_place s k)) ≡ record { place = inorder_held_at s (inorder_place s (suc k)); told = told_by (seen s k) (seen s (suc k)) }
unfolding inorder_place inorder_step timing_inorder_step inorder_held_at
inorder_place_step s k =
    step_seen s (inorder_place s k).owed (inorder_place s k).run (needed_entry s (seen s k)) (inorder_owed_within s k) (λ is. refl) (place_related s k)

-- the entry that is needed has the address where fetch stands
pub inorder_place_stands : (s : Setup) (k : ℕ) → (needed_entry s (seen s k)).addr ≡ (inorder_place s k).run.demand.machine.fetch_addr
inorder_place_stands s k = fetch_stands s (inorder_place s k).run.demand (place_related s k)

-- a step wants an entry where the place needs one
wanted_by : (owed : ℕ) (os : List Order) (at : InorderAt) → owed ≤ length os → wants_entry_by (take owed os) at ≡ (if owed == 0 then is_try (seen_at at) else false)
wanted_by zero os at within = refl
wanted_by (suc owed) [] at within = absurd (omega arith)
wanted_by (suc owed) (o ∷ os) at within =
    sym (cond-false (suc owed == 0) (is_try (seen_at at)) false (ne_eqb (suc owed) 0 (λ same. omega arith)))

pub inorder_place_wants : (s : Setup) (k : ℕ) → wants_entry (inorder_held_at s (inorder_place s k)) ≡ needs_entry (seen s k)
unfolding inorder_held_at
inorder_place_wants s k = wanted_by (inorder_place s k).owed (inorder_place s k).run.demand.orders (inorder_place s k).run.at (inorder_owed_within s k)

-- and else it is the same for every entry
turn_free : (s : Setup) (e f : Entry) (at : InorderAt) (l : InorderTiming) → is_try (seen_at at) ≡ false → timing_inorder_turn s e at l ≡ timing_inorder_turn s f at l
unfolding timing_inorder_turn
turn_free s e f interrupting l free = refl
turn_free s e f writing l free = refl
turn_free s e f accessing l free = refl
turn_free s e f executing l free = refl
turn_free s e f issuing l free = refl
turn_free s e f trying l free = cc
turn_free s e f ending l free = refl
turn_free s e f stopping l free = refl
turn_free s e f halted l free = refl

step_free : (s : Setup) (e f : Entry) (p : InorderTimingPlace) (owed : List Order) → wants_entry_by owed p.at ≡ false → held.step_by s e p owed ≡ held.step_by s f p owed
step_free s e f p [] free = ap (λ (x : InorderTurned). telling x.inorder x.at p.epoch x.orders) (turn_free s e f p.at p.inorder free)
step_free s e f p (o ∷ os) free = refl

pub inorder_entry_free : (s : Setup) (e f : Entry) (p : InorderTimingPlace) → wants_entry p ≡ false → timing_inorder_step s e p ≡ timing_inorder_step s f p
unfolding timing_inorder_step
inorder_entry_free s e f p free = step_free s e f p p.owed free

-- the start
pub inorder_starts : (s : Setup) → inorder_held_at s (inorder_place_start s) ≡ inorder_timing_place_start
unfolding inorder_held_at timing.seen machine_start start inorder_timing_place_start timing_start
inorder_starts s = refl

-- what the timing side shows of the run
pub inorder_place_cycle : (s : Setup) (k : ℕ) → (inorder_held_at s (inorder_place s k)).inorder.timing.cycle ≡ (inorder_place s k).run.demand.machine.cycle
unfolding inorder_held_at timing.seen
inorder_place_cycle s k = refl

pub inorder_place_end : (s : Setup) (k : ℕ) → (inorder_held_at s (inorder_place s k)).inorder.timing.end ≡ (inorder_place s k).run.demand.machine.end
unfolding inorder_held_at timing.seen
inorder_place_end s k = refl

pub inorder_place_done : (s : Setup) (k : ℕ) → (inorder_held_at s (inorder_place s k)).inorder.timing.to_commit ≡ (inorder_place s k).run.demand.to_commit
unfolding inorder_held_at timing.seen
inorder_place_done s k = refl

pub inorder_place_at : (s : Setup) (k : ℕ) → (inorder_held_at s (inorder_place s k)).at ≡ (inorder_place s k).run.at
unfolding inorder_held_at
inorder_place_at s k = refl

pub inorder_place_epoch : (s : Setup) (k : ℕ) → (inorder_held_at s (inorder_place s k)).epoch ≡ openings (told (seen s k))
unfolding inorder_held_at
inorder_place_epoch s k = refl

pub inorder_place_stats : (s : Setup) (k : ℕ) → timing_stats s (inorder_held_at s (inorder_place s k)).inorder.timing ≡ stats_of s (inorder_place s k).run.demand.machine
unfolding inorder_held_at timing.seen
inorder_place_stats s k = refl
