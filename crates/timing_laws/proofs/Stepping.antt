-- Each step of the timing side is that of the demand run.
use Rattle.std.proofs.Common.{◌≡◌, ℕ, zero, suc, ◌-◌, ◌≤◌, ◌==◌, true, false, if◌then◌else◌, Some, None, List, [], ◌∷◌, ◌++◌, length, length-append, take, drop, refl, ap, sym, ◌∙◌, arith}
use Rattle.std.proofs.lemmas.Bool.{cond-false, ne_eqb}
use Rattle.rollback_cmds.specs.declared.order.Order.{Order}
use Rattle.trace_entry.specs.declared.Entry.{Entry}
use Rattle.mono_model.specs.declared.setup.Setup.{Setup}
use Rattle.mono_model.specs.Arch.{start}
use Rattle.mono_model.specs.Path.{entry, openings}
use Rattle.mono_model.specs.Machine.{machine_start, stats_of}
use Rattle.mono_model.specs.Demand.{At, interrupting, committing, completing, issuing, trying, ending, stopping, halted, is_try, next, Run, turn, Place, place_start, moved, step_by, step, place, told, needs_entry, needed_entry}
use Rattle.mono_model.specs.Split.{told_by}
use Rattle.machine_laws.specs.Relation.{Related}
use Rattle.machine_laws.proofs.Always.{owed_within}
use Rattle.machine_laws.proofs.Places.{place_related}
use Rattle.machine_laws.proofs.Telling.{by_none, by_one}
use Rattle.timing_side.specs.Timing.{Timing, timing_start, timing_stats}
use Rattle.timing_side.specs.Turn.{Turned, timing_turn}
use Rattle.timing_side.specs.Step as timing
use Rattle.timing_side.specs.Step.{TimingPlace, timing_place_start, Stepped, timing_step, wants_entry, wants_entry_by, oldest, younger, telling}
use Rattle.timing_laws.specs.Seen.{seen, seen_at, IsTurn}
use Rattle.timing_laws.proofs.Fetch.{fetch_stands}
use Rattle.timing_laws.proofs.Turning.{turn_seen}

-- the oldest of the orders that are owed is told, and the others are owed
pub take_younger : (owed : ℕ) (p : Order) (os : List Order) → owed ≤ length os → younger p (take owed os) ≡ take owed (p ∷ os)
take_younger zero p os within = refl
take_younger (suc owed) p [] within = absurd (omega arith)
take_younger (suc owed) p (q ∷ os) within = ap (λ (l : List Order). p ∷ l) (take_younger owed q os (omega arith))

pub drop_oldest : (owed : ℕ) (p : Order) (os : List Order) → owed ≤ length os → drop owed (p ∷ os) ≡ oldest p (take owed os) ∷ drop (suc owed) (p ∷ os)
drop_oldest zero p os within = refl
drop_oldest (suc owed) p [] within = absurd (omega arith)
drop_oldest (suc owed) p (q ∷ os) within = drop_oldest owed q os (omega arith)

-- what a step makes of a place
abbrev pub MakesStep : Setup → Place → Place → Stepped → Type 0
MakesStep s before behind x = x ≡ record { place = seen_at s behind; told = told_by before behind }

-- an order that is owed is told
owed_step : (s : Setup) (r : Run) (owed : ℕ) (os : List Order) → r.demand.orders ≡ os → suc owed ≤ length os →
    MakesStep s (record { run = r; owed = suc owed }) (record { run = r; owed = owed })
    (telling (seen s r.demand) r.at (openings (drop (suc owed) os)) (take (suc owed) os))
unfolding seen_at
owed_step s r owed [] is within = absurd (omega arith)
owed_step s r owed (o ∷ os) is within =
    let before : Place = record { run = r; owed = suc owed } in
    let behind : Place = record { run = r; owed = owed } in
    let least : owed ≤ length os = omega arith in
    let falls = drop_oldest owed o os least in
    let stays : younger o (take owed os) ≡ take owed r.demand.orders = take_younger owed o os least ∙ ap (λ (l : List Order). take owed l) (sym is) in
    let opened : openings (oldest o (take owed os) ∷ drop owed os) ≡ openings (drop owed r.demand.orders) =
    ap openings (sym falls ∙ ap (λ (l : List Order). drop owed l) (sym is)) in
    let one : told behind ≡ oldest o (take owed os) ∷ told before =
    ap (λ (l : List Order). drop owed l) is ∙ falls ∙ ap (λ (l : List Order). oldest o (take owed os) ∷ drop (suc owed) l) (sym is) in
    let tells : Some (oldest o (take owed os)) ≡ told_by before behind = sym (by_one before behind (oldest o (take owed os)) one) in
    λ i. record {
      place = record { timing = seen s r.demand; at = r.at; owed = stays i; epoch = opened i };
      told = tells i;
    }

-- the orders of a turn
pub take_made : (o : Order) (made os : List Order) → take (length made) (o ∷ made ++ os) ≡ younger o made
take_made o [] os = refl
take_made o (p ∷ made) os = ap (λ (l : List Order). o ∷ l) (take_made p made os)

pub drop_made : (o : Order) (made os : List Order) → drop (length made) (o ∷ made ++ os) ≡ oldest o made ∷ os
drop_made o [] os = refl
drop_made o (p ∷ made) os = drop_made p made os

made_step : (s : Setup) (r behind : Run) (made : List Order) → made ++ r.demand.orders ≡ behind.demand.orders → (owed : ℕ) →
    owed ≡ length behind.demand.orders - length r.demand.orders - 1 →
    MakesStep s (record { run = r; owed = 0 }) (record { run = behind; owed = owed }) (telling (seen s behind.demand) behind.at (openings r.demand.orders) made)
unfolding seen_at
made_step s r behind [] is owed count =
    let before : Place = record { run = r; owed = 0 } in
    let after : Place = record { run = behind; owed = owed } in
    let none : owed ≡ 0 = omega (arith, ap (λ (l : List Order). length l) is) in
    let same : told after ≡ r.demand.orders = ap (λ (k : ℕ). drop k behind.demand.orders) none ∙ sym is in
    let stays : [] ≡ take owed behind.demand.orders = ap (λ (k : ℕ). take k behind.demand.orders) (sym none) in
    let tells : None ≡ told_by before after = sym (by_none before after same) in
    λ i. record {
      place = record { timing = seen s behind.demand; at = behind.at; owed = stays i; epoch = openings (sym same i) };
      told = tells i;
    }
made_step s r behind (o ∷ made) is owed count =
    let before : Place = record { run = r; owed = 0 } in
    let after : Place = record { run = behind; owed = owed } in
    let os = r.demand.orders in
    let many : owed ≡ length made = omega (arith, ap (λ (l : List Order). length l) is, length-append made os) in
    let falls : told after ≡ oldest o made ∷ os =
    ap (λ (k : ℕ). drop k behind.demand.orders) many ∙ ap (λ (l : List Order). drop (length made) l) (sym is) ∙ drop_made o made os in
    let stays : younger o made ≡ take owed behind.demand.orders =
    sym (ap (λ (k : ℕ). take k behind.demand.orders) many ∙ ap (λ (l : List Order). take (length made) l) (sym is) ∙ take_made o made os) in
    let tells : Some (oldest o made) ≡ told_by before after = sym (by_one before after (oldest o made) falls) in
    λ i. record {
      place = record { timing = seen s behind.demand; at = behind.at; owed = stays i; epoch = openings (sym falls i) };
      told = tells i;
    }

turned_step : (s : Setup) (r : Run) (x : Turned) → IsTurn s r x → MakesStep s (record { run = r; owed = 0 }) (moved s r) (telling x.timing x.at (openings r.demand.orders) x.orders)
turned_step s r x is =
    (λ i. telling (is.timing i) (is.at i) (openings r.demand.orders) x.orders)
    ∙ made_step s r (turn s r) x.orders is.orders (length (turn s r).demand.orders - length r.demand.orders - 1) refl

step_seen : (s : Setup) (owed : ℕ) (r : Run) (e : Entry) → owed ≤ length r.demand.orders → (is_try r.at ≡ true → e ≡ entry s r.demand.orders (next r.demand)) → Related s r.demand →
    MakesStep s (record { run = r; owed = owed }) (step_by s owed r) (timing.step_by s e (seen_at s (record { run = r; owed = owed })) (take owed r.demand.orders))
unfolding seen_at
step_seen s zero r e within entry_is related = turned_step s r (timing_turn s e r.at (seen s r.demand)) (turn_seen s r e entry_is related)
step_seen s (suc owed) r e within entry_is related = owing r.demand.orders within (owed_step s r owed r.demand.orders refl within)
  where
    owing : (os : List Order) → suc owed ≤ length os →
        MakesStep s (record { run = r; owed = suc owed }) (record { run = r; owed = owed }) (telling (seen s r.demand) r.at (openings (drop (suc owed) r.demand.orders)) (take (suc owed) os)) →
        MakesStep s (record { run = r; owed = suc owed }) (record { run = r; owed = owed }) (timing.step_by s e (seen_at s (record { run = r; owed = suc owed })) (take (suc owed) os))
    owing [] within is = absurd (omega arith)
    owing (o ∷ os) within is = is

pub place_step : (s : Setup) (k : ℕ) →
    timing_step s (needed_entry s (place s k)) (seen_at s (place s k)) ≡ record { place = seen_at s (place s (suc k)); told = told_by (place s k) (place s (suc k)) }
unfolding place step timing_step seen_at
place_step s k =
    step_seen s (place s k).owed (place s k).run (needed_entry s (place s k)) (owed_within s k) (λ is. refl) (place_related s k)

-- the entry that is needed has the address where fetch stands
pub place_stands : (s : Setup) (k : ℕ) → (needed_entry s (place s k)).addr ≡ (place s k).run.demand.machine.fetch_addr
place_stands s k = fetch_stands s (place s k).run.demand (place_related s k)

-- a step wants an entry where the place needs one
wanted_by : (owed : ℕ) (os : List Order) (at : At) → owed ≤ length os → wants_entry_by (take owed os) at ≡ (if owed == 0 then is_try at else false)
wanted_by zero os at within = refl
wanted_by (suc owed) [] at within = absurd (omega arith)
wanted_by (suc owed) (o ∷ os) at within =
    sym (cond-false (suc owed == 0) (is_try at) false (ne_eqb (suc owed) 0 (λ same. omega arith)))

pub place_wants : (s : Setup) (k : ℕ) → wants_entry (seen_at s (place s k)) ≡ needs_entry (place s k)
unfolding seen_at
place_wants s k = wanted_by (place s k).owed (place s k).run.demand.orders (place s k).run.at (owed_within s k)

-- and else it is the same for every entry
turn_free : (s : Setup) (e f : Entry) (at : At) (t : Timing) → is_try at ≡ false → timing_turn s e at t ≡ timing_turn s f at t
unfolding timing_turn
turn_free s e f interrupting t free = refl
turn_free s e f committing t free = refl
turn_free s e f completing t free = refl
turn_free s e f issuing t free = refl
turn_free s e f (trying more) t free = cc
turn_free s e f ending t free = refl
turn_free s e f stopping t free = refl
turn_free s e f halted t free = refl

step_free : (s : Setup) (e f : Entry) (p : TimingPlace) (owed : List Order) → wants_entry_by owed p.at ≡ false → timing.step_by s e p owed ≡ timing.step_by s f p owed
step_free s e f p [] free = ap (λ (x : Turned). telling x.timing x.at p.epoch x.orders) (turn_free s e f p.at p.timing free)
step_free s e f p (o ∷ os) free = refl

pub entry_free : (s : Setup) (e f : Entry) (p : TimingPlace) → wants_entry p ≡ false → timing_step s e p ≡ timing_step s f p
unfolding timing_step
entry_free s e f p free = step_free s e f p p.owed free

-- the start
pub starts : (s : Setup) → seen_at s (place_start s) ≡ timing_place_start
unfolding seen_at seen machine_start start timing_place_start timing_start
starts s = refl

-- what the timing side shows of the run
pub place_cycle : (s : Setup) (k : ℕ) → (seen_at s (place s k)).timing.cycle ≡ (place s k).run.demand.machine.cycle
unfolding seen_at seen
place_cycle s k = refl

pub place_end : (s : Setup) (k : ℕ) → (seen_at s (place s k)).timing.end ≡ (place s k).run.demand.machine.end
unfolding seen_at seen
place_end s k = refl

pub place_done : (s : Setup) (k : ℕ) → (seen_at s (place s k)).timing.to_commit ≡ (place s k).run.demand.to_commit
unfolding seen_at seen
place_done s k = refl

pub place_at : (s : Setup) (k : ℕ) → (seen_at s (place s k)).at ≡ (place s k).run.at
unfolding seen_at
place_at s k = refl

pub place_epoch : (s : Setup) (k : ℕ) → (seen_at s (place s k)).epoch ≡ openings (told (place s k))
unfolding seen_at
place_epoch s k = refl

pub place_stats : (s : Setup) (k : ℕ) → timing_stats s (seen_at s (place s k)).timing ≡ stats_of s (place s k).run.demand.machine
unfolding seen_at seen
place_stats s k = refl
