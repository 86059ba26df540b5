-- The timing side at its end of the queues: each of its turns keeps what it stands for.
use Rattle.std.proofs.Common.{◌≡◌, ◌↔◌, ℕ, suc, ◌+◌, ◌&&◌, ◌==◌, Bool, true, false, is_none, Option, Some, None, IfSome, List, length, refl, ap, sym, ◌∙◌, subst, arith}
use Rattle.std.proofs.lemmas.Bool.{and_parts}
use Rattle.rollback_cmds.specs.declared.order.Order.{Order}
use Rattle.trace_entry.specs.declared.Entry.{Entry}
use Rattle.mono_model.specs.declared.setup.Setup.{Setup}
use Rattle.mono_model.specs.declared.final_state.End.{End}
use Rattle.mono_model.specs.declared.final_state.Stats.{Stats}
use Rattle.mono_model.specs.Setup.{is_setup}
use Rattle.mono_model.specs.Cycle.{mono}
use Rattle.mono_model.specs.Machine.{Machine, stats_of}
use Rattle.mono_model.specs.Demand.{At, interrupting, committing, completing, issuing, trying, ending, stopping, halted, place, told, next, order, needs_entry, needed_entry}
use Rattle.mono_model.specs.Split.{told_by, is_halted}
use Rattle.machine_laws.specs.Telling.{with_order}
use Rattle.mono_model.proofs.Sound.{setup_facts}
use Rattle.machine_laws.proofs.Telling.{step_told}
use Rattle.machine_laws.proofs.Whole.{order_is}
use Rattle.machine_laws.proofs.OrderSteps.{needed_is}
use Rattle.machine_laws.proofs.Stopping.{halted_machine}
use Rattle.time_model.specs.declared.turn.Turn.{Turn}
use Rattle.time_model.specs.declared.turn.Turn.TheVariants.{Moved, Ordered, Want, CycleEnd, Halted}
use Rattle.time_model.specs.Turns.{turn_told, order_told}
use Rattle.time_model.specs.Running.{is_silent, IsSilent, start, more, IsRun, Steps}
use Rattle.time_model.specs.declared.side.Taken.{Taken}
use Rattle.time_model.specs.declared.side.Taken.TheVariants.{Used, Dropped}
use Rattle.time_model.specs.Feeding.{holding, IsFed}
use Rattle.time_model.proofs.Running.{run_of_cycle}
use Rattle.time_model.proofs.Feeding.{holding_stands, told_turn}
use Rattle.time_model.specs.Standing.{IsStep, IsMade, IsRight, is_told_out, wants_in}
use Rattle.time_model.specs.OutOfOrder.{TimeState, TimeSideStandsFor, core_piped}
use Rattle.time_model.specs.OutOfOrderLaws.{core_laws}
use Rattle.time_model.proofs.Owing.{stands_wants}
use Rattle.trace_ring.specs.Ring.{IsNamed}
use Rattle.trace_ring.specs.Ends.{TimeAt, time_start, time_pushed, time_read, time_flushed, time_taken}
use Rattle.fast_threads.specs.Workers.{in_hand, IsTimeAt}

none_told : (s : Setup) → length (told (place s 0)) ≡ 0
unfolding place
none_told s = refl

-- at the start of a run
pub time_starts : (s : Setup) (side : TimeState) → is_setup s ≡ true → TimeSideStandsFor s 0 side → IsTimeAt (time_start s) side None false
time_starts s side sound stands = record {
  sound = sound;
  steps = 0;
  stands = stands;
  orders = none_told s;
  next = tt;
  over = λ is. cc;
  sent = λ is. refl;
}

pub time_same : (end behind : TimeAt) (side : TimeState) (hand : Option Order) (is_halted : Bool) → IsTimeAt end side hand is_halted → behind ≡ end → IsTimeAt behind side hand is_halted
time_same end behind side hand is_halted is same =
    let P : TimeAt → Type 0 = λ x. IsTimeAt x side hand is_halted in
    subst P (sym same) is

-- an entry is taken from the queue, and handed to the side or let go
pub time_takes : (end behind : TimeAt) (side new : TimeState) (e : Entry) (hand : Option Order) (is_halted : Bool) (is : IsTimeAt end side hand is_halted) → behind ≡ time_taken end e →
    TimeSideStandsFor end.setup is.steps new → IsTimeAt behind new hand is_halted
time_takes end behind side new e hand is_halted is taken stands =
    let P : TimeAt → Type 0 = λ x. IsTimeAt x new hand is_halted in
    subst P (sym taken) (record {
      sound = is.sound;
      steps = is.steps;
      stands = stands;
      orders = is.orders;
      next = is.next;
      over = is.over;
      sent = is.sent;
    })

-- the entry with the wanted number may be handed to the side: where it is of the side's epoch, it
-- is the one that is needed
module _ (end : TimeAt) (side : TimeState) (e : Entry) (hand : Option Order) (is_halted : Bool) (is : IsTimeAt end side hand is_halted)
    (named : IsNamed end.setup e) (wants : wants_in core_piped side ≡ true) (number : e.number ≡ next (place end.setup is.steps).run.demand) where
  pub time_needs : e.epoch ≡ side.telling.epoch → e ≡ needed_entry end.setup (place end.setup is.steps)
  time_needs epoch =
      let s = end.setup in
      let p = place s is.steps in
      let needs : needs_entry p ≡ true = (and_parts (needs_entry p) (is_none side.telling.held) (sym (stands_wants core_piped core_laws s is.steps side is.stands) ∙ wants)).0 in
      needed_is s is.steps e (setup_facts s is.sound).some_cycle needs named (epoch ∙ is.stands.epoch) number

  pub time_right : IsRight core_piped e side
  time_right = record { setup = end.setup; sound = is.sound; steps = is.steps; stands = is.stands; needed = time_needs }

pub time_with : (end : TimeAt) (side : TimeState) (hand other : Option Order) (is_halted : Bool) → hand ≡ other → IsTimeAt end side hand is_halted → IsTimeAt end side other is_halted
time_with end side hand other is_halted same is =
    let P : Option Order → Type 0 = λ o. IsTimeAt end side o is_halted in
    subst P same is

goes_on : (o : Option Order) (at : At) → turn_told o at ≡ Halted → ⊥
goes_on (Some o) at is = cc
goes_on None interrupting is = cc
goes_on None committing is = cc
goes_on None completing is = cc
goes_on None issuing is = cc
goes_on None (trying allowed) is = cc
goes_on None ending is = cc
goes_on None stopping is = cc
goes_on None halted is = cc

none_held : (o : Option Entry) → is_none o ≡ true → o ≡ None
none_held None is = refl
none_held (Some e) is = cc

one_more : (o : Option Order) (os : List Order) → length (with_order o os) ≡ length os + in_hand o
one_more None os = omega arith
one_more (Some o) os = omega arith

in_place : (s : Setup) (o : Option Order) (m n : ℕ) → m ≡ n → IfSome o (λ x. order s m ≡ Some x) → IfSome o (λ x. order s n ≡ Some x)
in_place s None m n same is = tt
in_place s (Some o) m n same is = subst (λ (k : ℕ). order s k ≡ Some o) same is

module _ (end : TimeAt) (side new : TimeState) (hand : Option Order) (is_halted : Bool) (turn : Turn) (none : hand ≡ None)
    (is : IsTimeAt end side hand is_halted) (made : IsStep core_piped end.setup is.steps side new turn) where
  abbrev Stepped : Type 0
  Stepped = IsTimeAt end new (order_told turn) is_halted

  orders_pushed : length (told (place end.setup is.steps)) ≡ end.pushed
  orders_pushed = let e : in_hand hand ≡ 0 = ap in_hand none in omega (arith, is.orders, e)

  stays : order_told turn ≡ None → new ≡ side → Stepped
  stays told same =
      let P : TimeState → Type 0 = λ t. IsTimeAt end t hand is_halted in
      let Q : Option Order → Type 0 = λ o. IsTimeAt end new o is_halted in
      subst Q (none ∙ sym told) (subst P (sym same) is)

  goes : IsMade core_piped end.setup is.steps side new turn → is_told_out (place end.setup is.steps) ≡ false → Stepped
  goes it on =
      let s = end.setup in
      let p = place s is.steps in
      let q = place s (suc is.steps) in
      let o : Option Order = told_by p q in
      let Q : Option Order → Type 0 = λ x. IsTimeAt end new x is_halted in
      subst Q (sym (ap order_told it.turn_is ∙ told_turn o p.run.at)) (record {
        sound = is.sound;
        steps = suc is.steps;
        stands = it.stands;
        orders = ap (λ (os : List Order). length os) (step_told s is.steps) ∙ one_more o (told p) ∙ ap (λ (n : ℕ). n + in_hand o) orders_pushed;
        next = in_place s o (length (told p)) end.pushed orders_pushed (order_is s is.steps (setup_facts s is.sound).some_cycle);
        over = λ halts. cc (is.over halts, on);
        sent = is.sent;
      })

  by_over : (b : Bool) → is_told_out (place end.setup is.steps) ≡ b → (needs_entry (place end.setup is.steps) && is_none side.telling.held) ≡ false → Stepped
  by_over true over fed = let it = made.rests over in stays (ap order_told it.0) it.1
  by_over false on fed = goes (made.goes fed on) on

  by_lack : (b : Bool) → (needs_entry (place end.setup is.steps) && is_none side.telling.held) ≡ b → Stepped
  by_lack true lacks =
      let parts = and_parts (needs_entry (place end.setup is.steps)) (is_none side.telling.held) lacks in
      let it = made.waits parts.0 (none_held side.telling.held parts.1) in
      stays (ap order_told it.0) it.1
  by_lack false fed = by_over (is_told_out (place end.setup is.steps)) refl fed

  stepped : Stepped
  stepped = by_lack (needs_entry (place end.setup is.steps) && is_none side.telling.held) refl

  -- a step that tells an order
  time_tells : (o : Order) → turn ≡ Ordered o → IsTimeAt end new (Some o) is_halted
  time_tells o ordered = time_with end new (order_told turn) (Some o) is_halted (ap order_told ordered) stepped

  -- and one that tells none
  time_moves : (what : Turn) → turn ≡ what → order_told what ≡ None → IsTimeAt end new hand is_halted
  time_moves what same told = time_with end new (order_told turn) hand is_halted (ap order_told same ∙ told ∙ sym none) stepped

  halts_over : turn ≡ Halted → (b : Bool) → is_told_out (place end.setup is.steps) ≡ b → (needs_entry (place end.setup is.steps) && is_none side.telling.held) ≡ false → IsTimeAt (time_flushed end) new hand true
  halts_over halts true over fed =
      let it = made.rests over in
      let P : TimeState → Type 0 = λ t. IsTimeAt (time_flushed end) t hand true in
      subst P (sym it.1) (record { sound = is.sound; steps = is.steps; stands = is.stands; orders = is.orders; next = is.next; over = λ h. over; sent = λ h. refl })
  halts_over halts false on fed = absurd (goes_on _ _ (sym (made.goes fed on).turn_is ∙ halts))

  halts_lack : turn ≡ Halted → (b : Bool) → (needs_entry (place end.setup is.steps) && is_none side.telling.held) ≡ b → IsTimeAt (time_flushed end) new hand true
  halts_lack halts true lacks =
      let parts = and_parts (needs_entry (place end.setup is.steps)) (is_none side.telling.held) lacks in
      let it = made.waits parts.0 (none_held side.telling.held parts.1) in
      let e : Want ≡ Halted = sym it.0 ∙ halts in
      cc e
  halts_lack halts false fed = halts_over halts (is_told_out (place end.setup is.steps)) refl fed

  -- the run is over
  time_halts : turn ≡ Halted → IsTimeAt (time_flushed end) new hand true
  time_halts halts = halts_lack halts (needs_entry (place end.setup is.steps) && is_none side.telling.held) refl

silent_told : (turn : Turn) → is_silent turn ≡ true → order_told turn ≡ None
silent_told Moved is = refl
silent_told (Ordered o) is = cc
silent_told Want is = cc
silent_told CycleEnd is = refl
silent_told Halted is = cc

-- steps that tell no order
time_passes : (end : TimeAt) (side behind : TimeState) (hand : Option Order) (is_halted : Bool) → hand ≡ None → IsTimeAt end side hand is_halted → IsSilent (Steps core_piped) side behind →
    IsTimeAt end behind hand is_halted
time_passes end side _ hand is_halted none is start = is
time_passes end side _ hand is_halted none is (more mid new turn rest made silent) =
    let at : IsTimeAt end mid hand is_halted = time_passes end side mid hand is_halted none is rest in
    time_moves end mid new hand is_halted turn none at (made end.setup at.steps at.sound at.stands) turn refl (silent_told turn silent)

-- several steps, by what the last one did
module _ (end : TimeAt) (side new : TimeState) (hand : Option Order) (is_halted : Bool) (turn : Turn) (none : hand ≡ None)
    (is : IsTimeAt end side hand is_halted) (ran : IsRun (Steps core_piped) side new turn) where
  before_last : IsTimeAt end ran.behind hand is_halted
  before_last = time_passes end side ran.behind hand is_halted none is ran.silent

  last_made : IsStep core_piped end.setup before_last.steps ran.behind new turn
  last_made = ran.last end.setup before_last.steps before_last.sound before_last.stands

  -- the order that they told is in hand
  pub run_told : (told : Option Order) → told ≡ order_told turn → IsTimeAt end new told is_halted
  run_told told is_told = time_with end new (order_told turn) told is_halted (sym is_told) (stepped end ran.behind new hand is_halted turn none before_last last_made)

  pub run_tells : (o : Order) → turn ≡ Ordered o → IsTimeAt end new (Some o) is_halted
  run_tells = time_tells end ran.behind new hand is_halted turn none before_last last_made

  pub run_moves : (what : Turn) → turn ≡ what → order_told what ≡ None → IsTimeAt end new hand is_halted
  run_moves = time_moves end ran.behind new hand is_halted turn none before_last last_made

  pub run_halts : turn ≡ Halted → IsTimeAt (time_flushed end) new hand true
  run_halts = time_halts end ran.behind new hand is_halted turn none before_last last_made

-- the side stands where it stood behind an entry that was held or dropped
taken_stands : (s : Setup) (k : ℕ) (e : Entry) (old taken : TimeState) (answer : Taken) → (answer ≡ Used → taken ≡ holding e old) → (answer ≡ Dropped → taken ≡ old) →
    ((answer ≡ Used) ↔ (e.epoch ≡ old.telling.epoch)) → TimeSideStandsFor s k old → (e.epoch ≡ old.telling.epoch → e ≡ needed_entry s (place s k)) → TimeSideStandsFor s k taken
taken_stands s k e old taken Used used dropped by_epoch stands needs = subst (TimeSideStandsFor s k) (sym (used refl)) (holding_stands core_piped core_laws s k e old stands (needs (by_epoch.0 refl)))
taken_stands s k e old taken Dropped used dropped by_epoch stands needs = subst (TimeSideStandsFor s k) (sym (dropped refl)) stands

-- an entry is taken from the queue and fed to the side, and the order that it told is in hand
pub time_fed : (end behind : TimeAt) (side new : TimeState) (e : Entry) (hand told : Option Order) (is_halted : Bool) (turn : Turn) → hand ≡ None → (is : IsTimeAt end side hand is_halted) →
    behind ≡ time_taken end e → (e.epoch ≡ side.telling.epoch → e ≡ needed_entry end.setup (place end.setup is.steps)) → IsFed core_piped e side new turn → told ≡ order_told turn →
    IsTimeAt behind new told is_halted
time_fed end behind side new e hand told is_halted turn none is taken needs fed is_told =
    let stands = taken_stands end.setup is.steps e side fed.taken fed.answer fed.used fed.dropped fed.by_epoch is.stands needs in
    run_told behind fed.taken new hand is_halted turn none (time_takes end behind side fed.taken e hand is_halted is taken stands) (run_of_cycle core_piped fed.taken new turn fed.run) told is_told

-- an order was pushed, and comes no more than once
pub time_sends : (end behind : TimeAt) (side : TimeState) (o : Order) (is_halted : Bool) (known waiting : ℕ) → IsTimeAt end side (Some o) is_halted → behind ≡ time_pushed end known waiting →
    IsTimeAt behind side None false
time_sends end behind side o is_halted known waiting is pushed =
    let P : TimeAt → Type 0 = λ x. IsTimeAt x side None false in
    subst P (sym pushed) (record {
      sound = is.sound;
      steps = is.steps;
      stands = is.stands;
      orders = let all = is.orders in omega arith;
      next = tt;
      over = λ h. cc;
      sent = λ h. cc;
    })

-- or came back
pub time_reads : (end behind : TimeAt) (side : TimeState) (hand : Option Order) (is_halted : Bool) (known : ℕ) → IsTimeAt end side hand is_halted → behind ≡ time_read end known →
    IsTimeAt behind side hand is_halted
time_reads end behind side hand is_halted known is read =
    let P : TimeAt → Type 0 = λ x. IsTimeAt x side hand is_halted in
    subst P (sym read) (record { sound = is.sound; steps = is.steps; stands = is.stands; orders = is.orders; next = is.next; over = is.over; sent = is.sent })

-- none waits any more
pub time_flushes : (end behind : TimeAt) (side : TimeState) (hand : Option Order) (is_halted : Bool) → IsTimeAt end side hand is_halted → behind ≡ time_flushed end → IsTimeAt behind side hand is_halted
time_flushes end behind side hand is_halted is flushed =
    let P : TimeAt → Type 0 = λ x. IsTimeAt x side hand is_halted in
    subst P (sym flushed) (record { sound = is.sound; steps = is.steps; stands = is.stands; orders = is.orders; next = is.next; over = is.over; sent = λ h. refl })

-- where it is halted the machine is the one behind all cycles
module _ (end : TimeAt) (side : TimeState) (hand : Option Order) (is : IsTimeAt end side hand true) where
  pub machine_at_end : (place end.setup is.steps).run.demand.machine ≡ mono end.setup end.setup.cycles
  machine_at_end =
      let p = place end.setup is.steps in
      halted_machine end.setup is.steps (setup_facts end.setup is.sound).some_cycle (and_parts (is_halted p.run.at) (p.owed == 0) (is.over refl)).0

  pub end_at_end : (result : End) → ((s : Setup) (k : ℕ) → TimeSideStandsFor s k side → result ≡ (place s k).run.demand.machine.end) → result ≡ (mono end.setup end.setup.cycles).end
  end_at_end result told = told end.setup is.steps is.stands ∙ ap (λ (m : Machine). m.end) machine_at_end

  pub stats_at_end : (result : Stats) → ((s : Setup) (k : ℕ) → TimeSideStandsFor s k side → result ≡ stats_of s (place s k).run.demand.machine) →
      result ≡ stats_of end.setup (mono end.setup end.setup.cycles)
  stats_at_end result told = told end.setup is.steps is.stands ∙ ap (stats_of end.setup) machine_at_end

pub time_over : (end : TimeAt) (side : TimeState) (hand : Option Order) (is_halted : Bool) → is_halted ≡ true → IsTimeAt end side hand is_halted → IsTimeAt end side hand true
time_over end side hand is_halted halts is =
    let P : Bool → Type 0 = λ b. IsTimeAt end side hand b in
    subst P halts is
