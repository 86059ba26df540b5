-- The turns of the in-order machine's pipeline, each from its phase.
use Rattle.std.specs.Prelude.{Result, Ok, Err, IfOk}
use Rattle.std.proofs.Common.{◌≡◌, ℕ, suc, ◌==◌, ◌++◌, not, List, refl, ap, sym, ◌∙◌, subst}
use Rattle.fsim_base.specs.declared.NoMemory.{NoMemory}
use Rattle.rollback_cmds.specs.declared.order.Order.{Order}
use Rattle.trace_entry.specs.declared.Entry.{Entry}
use Rattle.mono_model.specs.declared.setup.Setup.{Setup}
use Rattle.mono_model.specs.Demand.{needed_entry}
use Rattle.mono_model.specs.Split.{has_appended}
use Rattle.timing_side.specs.Timing.{Timing}
use Rattle.timing_side.specs.Fetch.{timing_try}
use Rattle.timing_laws.specs.Seen as timing
use Rattle.timing_core.specs.declared.orders.Orders.{Orders}
use Rattle.timing_core.specs.declared.fetch.Tried.{Tried}
use Rattle.timing_core.specs.Orders.{orders_in}
use Rattle.timing_core.specs.Small.{IsSmall}
use Rattle.inorder_machine.specs.Demand.{InorderAt, trying, InorderRun, inorder_turn, InorderPlace, inorder_place, seen}
use Rattle.inorder_laws.proofs.Places.{place_related}
use Rattle.inorder_side.specs.Timing.{InorderTiming, inorder_timing_start}
use Rattle.inorder_side.specs.Turn.{InorderTurned, timing_inorder_turn}
use Rattle.inorder_side.specs.Step.{InorderTimingPlace, inorder_timing_place_start}
use Rattle.inorder_timing_laws.specs.Seen.{inorder_held, inorder_held_at, IsInorderTurn}
use Rattle.inorder_timing_laws.proofs.Stepping.{inorder_starts}
use Rattle.inorder_timing_laws.proofs.Turning.{inorder_turn_seen}
use Rattle.time_model.specs.Piped.{IsNext, IsTurned, IsFetched}
use Rattle.inorder_model.specs.declared.at.At as code
use Rattle.inorder_model.specs.declared.at.At.TheVariants.{Interrupting, Trying, Ending}
use Rattle.inorder_model.specs.declared.timing.InorderTimingCore.{InorderTimingCore}
use Rattle.inorder_model.specs.At.{at_in}
use Rattle.inorder_model.specs.InorderStandsFor.{InorderStandsFor}
use Rattle.inorder_machine.specs.Setup.{IsInorder}
use Rattle.inorder_model.specs.Standing.{InorderStandsAt, inorder_piped}
use Rattle.inorder_model.specs.StandingLaws.{turn_next}
use Rattle.inorder_model.specs.SmallLaws.{place_small}

-- a pipeline, the turn that comes next and the orders of a turn are as the turn of the timing machine has them
pub record IsTurnOf (s : Setup) (made : InorderTurned) (pipeline : InorderTimingCore) (next : code.At) (told : Orders) : Type 0 where
  pub inorder : InorderStandsFor s made.inorder pipeline
  pub at : at_in next ≡ made.at
  pub orders : orders_in told ≡ made.orders

-- So they are as the demand run has them.
module _ (s : Setup) (k : ℕ) (old : InorderTimingCore) (at : code.At) (new : InorderTimingCore) (next : code.At) (told : Orders) (is : InorderStandsAt s k old at) (none : (inorder_place s k).owed ≡ 0)
    (made : IsTurnOf s (timing_inorder_turn s (needed_entry s (seen s k)) (at_in at) (inorder_held s (inorder_place s k).run.demand (inorder_place s k).run.memory)) new next told) where
  run : InorderRun
  run = (inorder_place s k).run

  made_there : IsTurnOf s (timing_inorder_turn s (needed_entry s (seen s k)) run.at (inorder_held s run.demand run.memory)) new next told
  unfolding run
  made_there = subst (λ (a : InorderAt). IsTurnOf s (timing_inorder_turn s (needed_entry s (seen s k)) a (inorder_held s run.demand run.memory)) new next told) is.at made

  turned : IsInorderTurn s run (timing_inorder_turn s (needed_entry s (seen s k)) run.at (inorder_held s run.demand run.memory))
  unfolding run
  turned = inorder_turn_seen s run (needed_entry s (seen s k)) (λ try. refl) (place_related s k)

  behind : inorder_turn s run ≡ (inorder_place s (suc k)).run
  unfolding run
  behind = sym (ap (λ (p : InorderPlace). p.run) (turn_next s k none))

  pub next_of : IsNext inorder_piped s k new next told
  unfolding run
  next_of = record {
    stands = record {
      inorder = subst (λ (r : InorderRun). InorderStandsFor s (inorder_held s r.demand r.memory) new) behind (subst (λ (l : InorderTiming). InorderStandsFor s l new) turned.inorder made_there.inorder);
      at = made_there.at ∙ turned.at ∙ ap (λ (r : InorderRun). r.at) behind;
    };
    orders = ap (λ (os : List Order). os ++ run.demand.orders) made_there.orders ∙ turned.orders ∙ ap (λ (r : InorderRun). r.demand.orders) behind;
  }

  pub inorder_of : (timing_inorder_turn s (needed_entry s (seen s k)) (at_in at) (inorder_held s (inorder_place s k).run.demand (inorder_place s k).run.memory)).inorder.timing
      ≡ timing.seen s (inorder_place s (suc k)).run.demand
  unfolding run
  inorder_of =
      ap (λ (a : InorderAt). (timing_inorder_turn s (needed_entry s (seen s k)) a (inorder_held s run.demand run.memory)).inorder.timing) is.at
      ∙ ap (λ (l : InorderTiming). l.timing) turned.inorder ∙ ap (λ (r : InorderRun). timing.seen s r.demand) behind

-- a phase, with an entry that it doesn't look at
pub turned_by : (old : InorderTimingCore) (at : code.At) (new : InorderTimingCore) (next : code.At) (told : Orders) →
    ((s : Setup) (l : InorderTiming) (e : Entry) → InorderStandsFor s l old → IsSmall l.timing → IsTurnOf s (timing_inorder_turn s e (at_in at) l) new next told) → IsTurned inorder_piped old at new next told
turned_by old at new next told made = λ s k allowed is none.
    next_of s k old at new next told is none (made s (inorder_held s (inorder_place s k).run.demand (inorder_place s k).run.memory) (needed_entry s (seen s k)) is.inorder (place_small s k allowed))

pub at_turned : (a at : code.At) (old new : InorderTimingCore) (next : code.At) (told : Orders) → at ≡ a → IsTurned inorder_piped old a new next told → IsTurned inorder_piped old at new next told
at_turned a at old new next told is turned = subst (λ (x : code.At). IsTurned inorder_piped old x new next told) (sym is) turned

-- a try that was made with its entry
pub record IsTried (s : Setup) (l : InorderTiming) (e : Entry) (x : Tried) (pipeline : InorderTimingCore) : Type 0 where
  pub inorder : InorderStandsFor s (record l { timing = (timing_try s e l.timing).phase.timing }) pipeline
  pub orders : orders_in x.orders ≡ (timing_try s e l.timing).phase.orders
  pub appended : x.appended ≡ not ((timing_try s e l.timing).phase.timing.counts.fetched == l.timing.counts.fetched)

try_turned : (s : Setup) (l : InorderTiming) (e : Entry) (x : Tried) (inorder : InorderTimingCore) → IsTried s l e x inorder → IsTurnOf s (timing_inorder_turn s e trying l) inorder Ending x.orders
unfolding timing_inorder_turn
try_turned s l e x inorder is = record { inorder = is.inorder; at = refl; orders = is.orders }

try_timing : (s : Setup) (l : InorderTiming) (e : Entry) → (timing_inorder_turn s e trying l).inorder.timing ≡ (timing_try s e l.timing).phase.timing
unfolding timing_inorder_turn
try_timing s l e = refl

-- whatever run it stood in that needs the entry
module _ (old new : InorderTimingCore) (e : Entry) (x : Tried) (tried : (s : Setup) (l : InorderTiming) → InorderStandsFor s l old → IsSmall l.timing → IsTried s l e x new) where
  needed_tried : (s : Setup) (k : ℕ) → IsInorder s → InorderStandsAt s k old Trying → e ≡ needed_entry s (seen s k) →
      IsTried s (inorder_held s (inorder_place s k).run.demand (inorder_place s k).run.memory) (needed_entry s (seen s k)) x new
  needed_tried s k allowed is needed =
      let l = inorder_held s (inorder_place s k).run.demand (inorder_place s k).run.memory in
      subst (λ (n : Entry). IsTried s l n x new) needed (tried s l is.inorder (place_small s k allowed))

  appended_is : (s : Setup) (k : ℕ) → IsInorder s → InorderStandsAt s k old Trying → (inorder_place s k).owed ≡ 0 → e ≡ needed_entry s (seen s k) → x.appended ≡ has_appended (seen s k) (seen s (suc k))
  unfolding timing.seen
  appended_is s k allowed is none needed =
      let made = needed_tried s k allowed is needed in
      let l = inorder_held s (inorder_place s k).run.demand (inorder_place s k).run.memory in
      let n = needed_entry s (seen s k) in
      let behind : (timing_try s n l.timing).phase.timing ≡ timing.seen s (inorder_place s (suc k)).run.demand =
      sym (try_timing s l n) ∙ inorder_of s k old Trying new Ending x.orders is none (try_turned s l n x new made) in
      made.appended ∙ ap (λ (y : Timing). not (y.counts.fetched == l.timing.counts.fetched)) behind

  pub fetched_by : (at : code.At) → at ≡ Trying → IsFetched inorder_piped e old at new Ending (record { orders = x.orders; appended = x.appended })
  fetched_by at trial = subst (λ (a : code.At). IsFetched inorder_piped e old a new Ending (record { orders = x.orders; appended = x.appended })) (sym trial) (record {
    made = λ s k allowed is none needed.
        next_of s k old Trying new Ending x.orders is none
        (try_turned s (inorder_held s (inorder_place s k).run.demand (inorder_place s k).run.memory) (needed_entry s (seen s k)) x new (needed_tried s k allowed is needed));
    appended = λ s k allowed is none needed. appended_is s k allowed is none needed;
  })

-- before the first turn
pub new_stands : (s : Setup) (made : Result InorderTimingCore NoMemory) → IfOk made (λ inorder. InorderStandsFor s inorder_timing_start inorder) → IfOk made (λ inorder. InorderStandsAt s 0 inorder Interrupting)
unfolding inorder_place inorder_held_at inorder_timing_place_start
new_stands s (Ok inorder) h = record { inorder = subst (λ (p : InorderTimingPlace). InorderStandsFor s p.inorder inorder) (sym (inorder_starts s)) h; at = refl }
new_stands s (Err e) h = tt
