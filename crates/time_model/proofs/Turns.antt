-- The turns of the out-of-order machine's pipeline, each from its phase.
use Rattle.std.proofs.Common.{◌≡◌, ℕ, suc, ◌==◌, ◌+◌, ◌++◌, not, nat_lt, if◌then◌else◌, true, false, Bool, List, refl, ap, sym, ◌∙◌, subst, arith}
use Rattle.std.proofs.lemmas.Bool.Decides.{nat_tests}
use Rattle.rollback_cmds.specs.declared.order.Order.{Order}
use Rattle.trace_entry.specs.declared.Entry.{Entry}
use Rattle.mono_model.specs.declared.setup.Setup.{Setup}
use Rattle.mono_model.specs.Setup.{is_setup}
use Rattle.mono_model.specs.Demand.{At, trying, ending, Run, turn, Place, place, needed_entry}
use Rattle.mono_model.specs.Split.{has_appended}
use Rattle.fsim_base.specs.Number.{wrap_sum}
use Rattle.cache_timing.specs.Caches.{Served}
use Rattle.machine_laws.proofs.Places.{place_related}
use Rattle.std.specs.Prelude.{Result, Ok, Err, IfOk}
use Rattle.fsim_base.specs.declared.NoMemory.{NoMemory}
use Rattle.timing_side.specs.Step.{TimingPlace, timing_place_start}
use Rattle.timing_side.specs.Timing.{Timing, timing_start, quiet}
use Rattle.timing_side.specs.Fetch as phase
use Rattle.timing_side.specs.Fetch.{timing_try, cache_read}
use Rattle.timing_side.specs.Turn.{Turned, try_or_end, timing_turn}
use Rattle.timing_laws.specs.Seen.{seen, seen_at, IsTurn}
use Rattle.timing_laws.proofs.Stepping.{starts}
use Rattle.timing_laws.proofs.Turning.{turn_seen}
use Rattle.timing_core.specs.declared.orders.Orders.{Orders}
use Rattle.timing_core.specs.declared.fetch.Tried.{Tried}
use Rattle.timing_core.specs.declared.state.TimingCore.{TimingCore}
use Rattle.timing_core.specs.CoreStandsFor.{CoreStandsFor}
use Rattle.timing_core.specs.Orders.{orders_in}
use Rattle.timing_core.specs.Small.{IsSmall}
use Rattle.time_model.specs.declared.at.At as code
use Rattle.time_model.specs.declared.at.At.TheVariants.{Interrupting, Trying}
use Rattle.time_model.specs.declared.fetched.Fetched.{Fetched}
use Rattle.time_model.specs.At.{at_in}
use Rattle.time_model.specs.OutOfOrder.{CoreStandsAt, core_piped}
use Rattle.time_model.specs.OutOfOrderLaws.{turn_next}
use Rattle.time_model.specs.Piped.{IsNext, IsTurned, IsFetched, MayTry}
use Rattle.time_model.specs.SmallLaws.{place_small}

-- a core, the turn that comes next and the orders of a turn are as the turn of the timing machine has them
pub record IsTurnOf (s : Setup) (made : Turned) (state : TimingCore) (next : code.At) (told : Orders) : Type 0 where
  pub core : CoreStandsFor s made.timing state
  pub at : at_in next ≡ made.at
  pub orders : orders_in told ≡ made.orders

-- So they are as the demand run has them.
module _ (s : Setup) (k : ℕ) (old : TimingCore) (at : code.At) (new : TimingCore) (next : code.At) (told : Orders) (is : CoreStandsAt s k old at) (none : (place s k).owed ≡ 0)
    (made : IsTurnOf s (timing_turn s (needed_entry s (place s k)) (at_in at) (seen s (place s k).run.demand)) new next told) where
  run : Run
  run = (place s k).run

  made_there : IsTurnOf s (timing_turn s (needed_entry s (place s k)) run.at (seen s run.demand)) new next told
  unfolding run
  made_there = subst (λ (a : At). IsTurnOf s (timing_turn s (needed_entry s (place s k)) a (seen s run.demand)) new next told) is.at made

  turned : IsTurn s run (timing_turn s (needed_entry s (place s k)) run.at (seen s run.demand))
  unfolding run
  turned = turn_seen s run (needed_entry s (place s k)) (λ try. refl) (place_related s k)

  behind : turn s run ≡ (place s (suc k)).run
  unfolding run
  behind = sym (ap (λ (p : Place). p.run) (turn_next s k none))

  pub next_of : IsNext core_piped s k new next told
  unfolding run
  next_of = record {
    stands = record {
      core = subst (λ (r : Run). CoreStandsFor s (seen s r.demand) new) behind (subst (λ (t : Timing). CoreStandsFor s t new) turned.timing made_there.core);
      at = made_there.at ∙ turned.at ∙ ap (λ (r : Run). r.at) behind;
    };
    orders = ap (λ (os : List Order). os ++ run.demand.orders) made_there.orders ∙ turned.orders ∙ ap (λ (r : Run). r.demand.orders) behind;
  }

  pub timing_of : (timing_turn s (needed_entry s (place s k)) (at_in at) (seen s (place s k).run.demand)).timing ≡ seen s (place s (suc k)).run.demand
  unfolding run
  timing_of =
      ap (λ (a : At). (timing_turn s (needed_entry s (place s k)) a (seen s run.demand)).timing) is.at ∙ turned.timing ∙ ap (λ (r : Run). seen s r.demand) behind

-- a phase, with an entry that it doesn't look at
pub turned_by : (old : TimingCore) (at : code.At) (new : TimingCore) (next : code.At) (told : Orders) →
    ((s : Setup) (t : Timing) (e : Entry) → CoreStandsFor s t old → IsSmall t → IsTurnOf s (timing_turn s e (at_in at) t) new next told) → IsTurned core_piped old at new next told
turned_by old at new next told made = λ s k allowed is none.
    next_of s k old at new next told is none (made s (seen s (place s k).run.demand) (needed_entry s (place s k)) is.core (place_small s k allowed))

pub at_turned : (a at : code.At) (old new : TimingCore) (next : code.At) (told : Orders) → at ≡ a → IsTurned core_piped old a new next told → IsTurned core_piped old at new next told
at_turned a at old new next told is turned = subst (λ (x : code.At). IsTurned core_piped old x new next told) (sym is) turned

-- a try that was made with its entry
pub record IsTried (s : Setup) (t : Timing) (allowed : ℕ) (e : Entry) (x : Tried) (state : TimingCore) (next : code.At) : Type 0 where
  pub core : CoreStandsFor s (timing_try s e t).phase.timing state
  pub orders : orders_in x.orders ≡ (timing_try s e t).phase.orders
  pub goes_on : x.goes_on ≡ (timing_try s e t).goes_on
  pub appended : x.appended ≡ not ((timing_try s e t).phase.timing.counts.fetched == t.counts.fetched)
  pub at : at_in next ≡ (if x.goes_on then try_or_end s allowed (timing_try s e t).phase.timing else ending)

try_turned : (s : Setup) (t : Timing) (allowed : ℕ) (e : Entry) (x : Tried) (core : TimingCore) (next : code.At) → IsTried s t allowed e x core next → IsTurnOf s (timing_turn s e (trying allowed) t) core next x.orders
unfolding timing_turn
try_turned s t allowed e x core next is = record {
  core = is.core;
  at = is.at ∙ ap (λ (b : Bool). if b then try_or_end s allowed (timing_try s e t).phase.timing else ending) is.goes_on;
  orders = is.orders;
}

try_timing : (s : Setup) (t : Timing) (allowed : ℕ) (e : Entry) → (timing_turn s e (trying allowed) t).timing ≡ (timing_try s e t).phase.timing
unfolding timing_turn
try_timing s t allowed e = refl

-- whatever run it stood in that needs the entry
module _ (old new : TimingCore) (allowed : ℕ) (next : code.At) (e : Entry) (x : Tried)
    (tried : (s : Setup) (t : Timing) → CoreStandsFor s t old → IsSmall t → IsTried s t allowed e x new next) where
  needed_tried : (s : Setup) (k : ℕ) → is_setup s ≡ true → CoreStandsAt s k old (Trying allowed) → e ≡ needed_entry s (place s k) →
      IsTried s (seen s (place s k).run.demand) allowed (needed_entry s (place s k)) x new next
  needed_tried s k sound is needed =
      subst (λ (n : Entry). IsTried s (seen s (place s k).run.demand) allowed n x new next) needed (tried s (seen s (place s k).run.demand) is.core (place_small s k sound))

  appended_is : (s : Setup) (k : ℕ) → is_setup s ≡ true → CoreStandsAt s k old (Trying allowed) → (place s k).owed ≡ 0 → e ≡ needed_entry s (place s k) →
      x.appended ≡ has_appended (place s k) (place s (suc k))
  unfolding seen
  appended_is s k sound is none needed =
      let made = needed_tried s k sound is needed in
      let t = seen s (place s k).run.demand in
      let n = needed_entry s (place s k) in
      let behind : (timing_try s n t).phase.timing ≡ seen s (place s (suc k)).run.demand =
      sym (try_timing s t allowed n) ∙ timing_of s k old (Trying allowed) new next x.orders is none (try_turned s t allowed n x new next made) in
      made.appended ∙ ap (λ (y : Timing). not (y.counts.fetched == t.counts.fetched)) behind

  pub fetched_by : (fetched : Fetched) → fetched.orders ≡ x.orders → fetched.appended ≡ x.appended → IsFetched core_piped e old (Trying allowed) new next fetched
  fetched_by fetched orders appended = record {
    made = λ s k sound is none needed.
        subst (λ (os : Orders). IsNext core_piped s k new next os) (sym orders)
        (next_of s k old (Trying allowed) new next x.orders is none
        (try_turned s (seen s (place s k).run.demand) allowed (needed_entry s (place s k)) x new next (needed_tried s k sound is needed)));
    appended = λ s k sound is none needed. appended ∙ appended_is s k sound is none needed;
  }

-- a try that another may follow has appended its instruction
more_fetched : (n : ℕ) → (n + 1 == n) ≡ false
more_fetched n = grind (arith, nat_tests)

goes_only : (b : Bool) (x y : phase.Tried) (n : ℕ) → x.goes_on ≡ false → (y.phase.timing.counts.fetched == n) ≡ false →
    (if b then x else y).goes_on ≡ true → ((if b then x else y).phase.timing.counts.fetched == n) ≡ false
goes_only true x y n off more goes = cc
goes_only false x y n off more goes = more

pub appends : (s : Setup) (t : Timing) (e : Entry) → (timing_try s e t).goes_on ≡ true → ((timing_try s e t).phase.timing.counts.fetched == t.counts.fetched) ≡ false
unfolding timing_try
appends s t e goes =
    let d : Served = cache_read s e t in
    let waits : phase.Tried = record { phase = quiet (phase.missed d.cycles d.state t); goes_on = false } in
    let made : phase.Tried = record {
      phase = record { timing = phase.appended s e d.state t; orders = phase.path_orders s e t };
      goes_on = phase.predicted_next s e t == wrap_sum e.addr 4;
    } in
    goes_only (nat_lt 0 d.cycles) waits made t.counts.fetched refl (more_fetched t.counts.fetched) goes

-- a try that another follows has appended its instruction
pub gone_appended : (core : TimingCore) (at : code.At) (e : Entry) (x : Tried) → MayTry core_piped core at e →
    ((s : Setup) (t : Timing) → CoreStandsFor s t core → IsSmall t → x.goes_on ≡ (timing_try s e t).goes_on) →
    ((s : Setup) (t : Timing) → CoreStandsFor s t core → IsSmall t → x.appended ≡ not ((timing_try s e t).phase.timing.counts.fetched == t.counts.fetched)) →
    x.goes_on ≡ true → true ≡ x.appended
gone_appended core at e x may goes_on appended goes =
    let s = may.setup in
    let t = seen s (place s may.steps).run.demand in
    let h = may.stands.core in
    let small = place_small s may.steps may.allowed in
    sym (appended s t h small ∙ ap not (appends s t e (sym (goes_on s t h small) ∙ goes)))

-- before the first turn
pub new_stands : (s : Setup) (made : Result TimingCore NoMemory) → IfOk made (λ core. CoreStandsFor s timing_start core) → IfOk made (λ core. CoreStandsAt s 0 core Interrupting)
unfolding place seen_at timing_place_start
new_stands s (Ok core) h = record { core = subst (λ (p : TimingPlace). CoreStandsFor s p.timing core) (sym (starts s)) h; at = refl }
new_stands s (Err e) h = tt
