-- The law of the split state, put together.
use Rattle.std.proofs.Common.{◌≡◌, ◌≤◌, ℕ, suc, ◌==◌, ◌&&◌, is_none, Bool, true, false, Option, Some, None, IfSome, List, [], ◌∷◌, ◌++◌, reverse, length, drop, refl, ap, sym, ◌∙◌, subst, arith}
use Rattle.std.proofs.lemmas.Bool.{and_parts, eqb-true}
use Rattle.rollback_cmds.specs.declared.order.Order.{Order}
use Rattle.trace_entry.specs.declared.Entry.{Entry}
use Rattle.mono_model.specs.declared.setup.Setup.{Setup}
use Rattle.mono_model.specs.Machine.{Machine}
use Rattle.mono_model.specs.Path.{path, openings}
use Rattle.mono_model.specs.Demand.{next, Place, place, told, is_try, needs_entry, needed_entry}
use Rattle.mono_model.specs.Split.{Split, split_start, Event, event_at, is_halted, is_cycle_start, is_place_boundary, is_boundary, committed, run}
use Rattle.machine_laws.specs.Numbers.{last_commit, AreAtCommit}
use Rattle.machine_laws.specs.Runs.{IsByCycles}
use Rattle.machine_laws.specs.Telling.{with_order}
use Rattle.machine_laws.specs.SplitLaw.{MayObey, IsEntry, IsUnderWayIn, Each, IsListed, IsLevelIn, IsRunIn, IsRun}
use Rattle.machine_laws.specs.DemandRun.{DemandRun, mono_run}
use Rattle.machine_laws.proofs.Laws.{IsDemandRun}
use Rattle.machine_laws.proofs.MonoRun.{step_is, mono_laws}
use Rattle.machine_laws.proofs.SplitEvents.{event_to, event_is, run_keeps}
use Rattle.machine_laws.proofs.SplitOrders.{none_is}
use Rattle.machine_laws.proofs.SplitLists.{hand_list, entry_list, Lead, lead_front}
use Rattle.machine_laws.proofs.SplitAhead.{flight, goal_position, needs_none}
use Rattle.machine_laws.proofs.SplitCounts.{told_front, at_commit_behind, next_front, next_is}
use Rattle.machine_laws.proofs.SplitFull.{start_listed, event_listed}
use Rattle.machine_laws.proofs.SplitRounds.{IsFresh, start_fresh, event_fresh}
use Rattle.machine_laws.proofs.SplitBounds.{is_small}
use Rattle.machine_laws.proofs.SplitOutput.{AreWithin, told_within, within_behind, commits_within}
use Rattle.machine_laws.proofs.SplitNames.{entry_named}
use Rattle.machine_laws.proofs.SplitEntries.{each_front, each_behind, each_more, each_both, each_some, needs_on, EntriesHold, start_holds, event_holds, is_needed}

-- Where a cycle starts, the machine and what is committed are those of the run by cycles.
abbrev HasState : Setup → DemandRun → Place → Type 0
HasState s r p = path s (told p) p.run.demand.to_commit ≡ (r.machines p.run.demand.machine.cycle).arch

module _ {s : Setup} {r : DemandRun} (laws : IsDemandRun s r) where
  boundary_machine : (k : ℕ) → is_place_boundary (r.places k) ≡ true → IsByCycles r.machines (r.places k)
  boundary_machine k at = laws.by_cycles k (and_parts ((r.places k).owed == 0) (is_cycle_start (r.places k).run.at) at).1

  boundary_state : (k : ℕ) → is_place_boundary (r.places k) ≡ true → HasState s r (r.places k)
  boundary_state k at =
      let p = r.places k in
      let all : told p ≡ p.run.demand.orders = ap (λ (n : ℕ). drop n p.run.demand.orders) (eqb-true p.owed 0 (and_parts (p.owed == 0) (is_cycle_start p.run.at) at).0) in
      ap (λ (os : List Order). path s os p.run.demand.to_commit) all ∙ sym (laws.related k).arch ∙ ap (λ (m : Machine). m.arch) (boundary_machine k at).machine

no_orders : (os : List Order) → (length os == 0) ≡ true → os ≡ []
no_orders [] e = refl
no_orders (o ∷ os) e = absurd (omega (arith, eqb-true (suc (length os)) 0 e))

module _ {s : Setup} {r : DemandRun} (laws : IsDemandRun s r) (x : Split) (is : EntriesHold s r x) where
  abbrev Made : Entry → Type 0
  Made = IsEntry s (told x.place)

  machine : is_place_boundary x.place ≡ true → IsByCycles r.machines x.place
  machine at = subst (IsByCycles r.machines) (sym is.ordered.at) (boundary_machine laws is.ordered.steps (subst (λ (p : Place). is_place_boundary p ≡ true) is.ordered.at at))

  state : is_place_boundary x.place ≡ true → HasState s r x.place
  state at = subst (HasState s r) (sym is.ordered.at) (boundary_state laws is.ordered.steps (subst (λ (p : Place). is_place_boundary p ≡ true) is.ordered.at at))

  done_is : x.place.run.demand.to_commit ≡ last_commit (told x.place)
  done_is = subst (λ (p : Place). p.run.demand.to_commit ≡ last_commit (told p)) (sym is.ordered.at) (laws.done is.ordered.steps)

  level : is_boundary x ≡ true → IsLevelIn s r x
  level at =
      let parts = and_parts (is_place_boundary x.place && is_none x.hand) (length x.listed_orders == 0) at in
      let there = and_parts (is_place_boundary x.place) (is_none x.hand) parts.0 in
      let obeyed : x.obeyed ≡ told x.place =
      sym (is.ordered.orders ∙ ap (λ (h : Option Order). with_order h (reverse x.listed_orders ++ x.obeyed)) (none_is x.hand there.1) ∙ ap (λ (l : List Order). reverse l ++ x.obeyed) (no_orders x.listed_orders parts.1)) in
      let done : x.committed_number ≡ x.place.run.demand.to_commit = is.counted.committed ∙ ap (λ (os : List Order). last_commit os) obeyed ∙ sym done_is in
      record {
        obeyed = obeyed;
        to_commit = done;
        state = ap (λ (os : List Order). path s os x.committed_number) obeyed ∙ ap (path s (told x.place)) done ∙ state there.0;
      }

  kinds : AreAtCommit x.obeyed
  kinds =
      at_commit_behind (hand_list x.hand ++ reverse x.listed_orders) x.obeyed
      (subst AreAtCommit (told_front x is.ordered) (subst (λ (p : Place). AreAtCommit (told p)) (sym is.ordered.at) (laws.kinds is.ordered.steps)))

  within : AreWithin s (told x.place)
  within = subst (λ (p : Place). AreWithin s (told p)) (sym is.ordered.at) (told_within laws is.ordered.steps)

  may_obey : (o : Order) (os : List Order) → x.listed_orders ≡ o ∷ os → MayObey s x o
  may_obey o os e =
      let first = next_is laws x o os is.ordered is.ahead e in
      record {
        least = omega (arith, is.counted.committed, first.numbered.least);
        most = first.reached;
        window = omega (arith, is.counted.committed, first.numbered.most);
        running = is.counted.stopped ∙ first.running;
        output = commits_within s o x.obeyed first.kind
            (within_behind s (hand_list x.hand ++ reverse os) (o ∷ x.obeyed) (subst (AreWithin s) (next_front x o os is.ordered e) within)).0;
      }

  abbrev UnderWay : Entry → Type 0
  UnderWay = IsUnderWayIn s r x

  under_way : (e : Entry) → (e.epoch ≤ openings x.obeyed) × Made e → UnderWay e
  under_way e made = record {
    is = made.1;
    epoch = made.0;
    named = λ cycles. entry_named laws is.ordered.steps e cycles (subst (λ (p : Place). IsEntry s (told p) e) is.ordered.at made.1);
  }

  all_under_way : Each UnderWay (flight x)
  all_under_way =
      each_more (λ e. (e.epoch ≤ openings x.obeyed) × Made e) UnderWay under_way (flight x) (each_both Made (openings x.obeyed) (flight x) is.ahead.epochs is.made.entries)

  rest_under_way : Each UnderWay (x.entries ++ entry_list x.computed)
  rest_under_way = each_behind UnderWay (entry_list x.held) (x.entries ++ entry_list x.computed) all_under_way

  -- the entry in front is the one that the place needs
  front_needed : (e : Entry) (rest : List Entry) → x.place.owed ≡ 0 → is_halted x.place.run.at ≡ false → flight x ≡ e ∷ rest → e.epoch ≡ openings (told x.place) → e ≡ needed_entry s x.place
  front_needed e rest all on flies at =
      is_needed s x.place e all (subst (Each Made) flies is.made.entries).0 at
      (lead_front (openings (told x.place)) (next x.place.run.demand) (goal_position x) e rest at
      (subst (λ (l : List Entry). Lead (openings (told x.place)) (next x.place.run.demand) l (goal_position x)) flies (is.ahead.lead on all))).0

  held_needed : (h : Option Entry) → x.held ≡ h → x.place.owed ≡ 0 → IfSome h (λ e. e ≡ needed_entry s x.place)
  held_needed None e all = tt
  held_needed (Some a) e all = by_test (is_halted x.place.run.at) refl
    where
      by_test : (b : Bool) → is_halted x.place.run.at ≡ b → a ≡ needed_entry s x.place
      by_test true off = let none = is.made.halts off in cc
      by_test false on =
          front_needed a (x.entries ++ entry_list x.computed) all on (ap (λ (h : Option Entry). entry_list h ++ (x.entries ++ entry_list x.computed)) e)
          (subst (λ (h : Option Entry). IfSome h (λ e. e.epoch ≡ openings (told x.place))) e is.ahead.held)

  next_needed : (e : Entry) (es : List Entry) → needs_entry x.place ≡ true → x.held ≡ None → x.entries ≡ e ∷ es → e.epoch ≡ openings (told x.place) → e ≡ needed_entry s x.place
  next_needed e es needs none listed at =
      front_needed e (es ++ entry_list x.computed) (needs_none x.place.owed (is_try x.place.run.at) needs) (needs_on x.place needs)
      (ap (λ (h : Option Entry). entry_list h ++ (x.entries ++ entry_list x.computed)) none ∙ ap (λ (l : List Entry). l ++ entry_list x.computed) listed) at

  pub holds_run : IsListed s x → IsRunIn s r x
  unfolding committed
  holds_run listed = record {
    steps = is.ordered.steps;
    at = is.ordered.at;
    orders = is.ordered.orders;
    machine = machine;
    state = state;
    level = level;
    counted = is.counted;
    kinds = kinds;
    small = is_small laws x is.ordered is.counted;
    obeys = may_obey;
    listed = listed;
    entries = each_front UnderWay x.entries (entry_list x.computed) rest_under_way;
    computed = each_some UnderWay x.computed (each_behind UnderWay x.entries (entry_list x.computed) rest_under_way);
    holds = each_some UnderWay x.held (each_front UnderWay (entry_list x.held) (x.entries ++ entry_list x.computed) all_under_way);
    held = held_needed x.held refl;
    next = next_needed;
  }

-- What holds of the split state where the timing side goes along a demand run.
pub record Known (s : Setup) (r : DemandRun) (x : Split) : Type 0 where
  pub holds : EntriesHold s r x
  pub listed : IsListed s x
  pub fresh : IsFresh x

module _ {s : Setup} {r : DemandRun} (laws : IsDemandRun s r) where
  pub start_known : Known s r (split_start s)
  start_known = record { holds = start_holds laws; listed = start_listed s; fresh = start_fresh s }

  -- an event that leads on from a place of the run keeps it
  pub event_known : (k : ℕ) (e : Event) (x : Split) → x.place ≡ r.places k → Known s r x → Known s r (event_to s (r.places (suc k)) e x)
  event_known k e x at is = record {
    holds = event_holds laws k e x at is.holds;
    listed = event_listed s (r.places (suc k)) e x is.listed;
    fresh = event_fresh s (r.places (suc k)) e x is.fresh;
  }

  -- and the law follows
  pub known_run : (x : Split) → Known s r x → IsRunIn s r x
  known_run x is = holds_run laws x is.holds is.listed

-- the monolithic machine's
pub mono_known : (s : Setup) (events : List Event) → Known s (mono_run s) (run s events)
mono_known s events =
    let laws = mono_laws s in
    run_keeps s (Known s (mono_run s)) (λ e x is.
    let k : ℕ = is.holds.ordered.steps in
    let goes : event_at s e x ≡ event_to s (place s (suc k)) e x =
    event_is s e x ∙ ap (λ (q : Place). event_to s q e x) (step_is s k x.place is.holds.ordered.at) in
    subst (Known s (mono_run s)) (sym goes) (event_known laws k e x is.holds.ordered.at is)) (start_known laws) events

pub is_run : (s : Setup) (events : List Event) → IsRun s (run s events)
is_run s events = known_run (mono_laws s) (run s events) (mono_known s events)
