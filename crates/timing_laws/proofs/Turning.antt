-- Each turn of the timing side is that of the demand run.
use Rattle.std.proofs.Common.{◌≡◌, ℕ, zero, suc, Bool, true, if◌then◌else◌, [], ◌∷◌, ◌++◌, refl, ap, sym, ◌∙◌, subst}
use Rattle.rollback_cmds.specs.declared.order.Order.TheVariants.{Stop}
use Rattle.trace_entry.specs.declared.Entry.{Entry}
use Rattle.mono_model.specs.declared.setup.Setup.{Setup}
use Rattle.mono_model.specs.Arch.{Arch}
use Rattle.mono_model.specs.Path.{entry}
use Rattle.mono_model.specs.Fetch as fetch
use Rattle.mono_model.specs.Cycle.{end_of_cycle}
use Rattle.mono_model.specs.Demand as mono
use Rattle.mono_model.specs.Demand.{Demand, At, interrupting, committing, completing, issuing, trying, ending, stopping, halted, is_try, next, Run, turn, demand_commit, demand_issue, demand_try}
use Rattle.machine_laws.specs.Relation.{Related}
use Rattle.mono_model.proofs.Path.{path_stop}
use Rattle.timing_side.specs.Timing.{Timing}
use Rattle.timing_side.specs.Fetch as try
use Rattle.timing_side.specs.Turn as timing
use Rattle.timing_laws.specs.Seen.{slots_of, seen, IsTurn}
use Rattle.timing_laws.proofs.Entries.{slots_same}
use Rattle.timing_laws.proofs.Interrupt.{interrupt_seen}
use Rattle.timing_laws.proofs.Commit.{commit_seen}
use Rattle.timing_laws.proofs.Complete.{complete_seen}
use Rattle.timing_laws.proofs.Issue.{issue_seen}
use Rattle.timing_laws.proofs.Fetch.{may_fetch_same, try_seen, goes_on}
use Rattle.timing_laws.proofs.CycleEnd.{tick_seen}

-- which turn comes next
commit_at : (s : Setup) (d : Demand) → timing.at_after_commit (seen s d) ≡ mono.at_after_commit d
unfolding seen
commit_at s d = refl

cycle_at : (s : Setup) (d : Demand) → timing.at_after_cycle (seen s d) ≡ mono.at_after_cycle d
unfolding seen
cycle_at s d = refl

try_at : (s : Setup) (more : ℕ) (d : Demand) → timing.try_or_end s more (seen s d) ≡ mono.try_or_end s more d
try_at s zero d = refl
try_at s (suc more) d = ap (λ (b : Bool). if b then trying more else ending) (may_fetch_same s d)

after_try_at : (s : Setup) (t : fetch.Try) (more : ℕ) (d : Demand) → (if goes_on t then mono.try_or_end s more d else ending) ≡ mono.at_after_try s t more d
after_try_at s (fetch.misses behind) more d = refl
after_try_at s (fetch.appends behind) more d = refl
after_try_at s (fetch.turns behind) more d = refl

-- the last order changes nothing of what is seen
pub stop_seen : (s : Setup) (d : Demand) → seen s d ≡ seen s (record d { orders = Stop d.to_commit ∷ d.orders })
unfolding seen
stop_seen s d =
    let os = d.orders in
    let e : slots_of (entry s os) d.to_commit d.machine.window ≡ slots_of (entry s (Stop d.to_commit ∷ os)) d.to_commit d.machine.window =
    sym (slots_same s os (Stop d.to_commit ∷ os) d.to_commit d.machine.window (λ j. refl) (λ j under. ap (λ (p : ℕ → Arch). p j) (path_stop s d.to_commit os))) in
    λ i. record (seen s d) { slots = e i }

pub stop_orders : (s : Setup) (d : Demand) → (Stop (seen s d).to_commit ∷ []) ++ d.orders ≡ Stop d.to_commit ∷ d.orders
unfolding seen
stop_orders s d = refl

pub turn_seen : (s : Setup) (r : Run) (e : Entry) → (is_try r.at ≡ true → e ≡ entry s r.demand.orders (next r.demand)) → Related s r.demand →
    IsTurn s r (timing.timing_turn s e r.at (seen s r.demand))
unfolding timing.timing_turn turn
turn_seen s r e told related = by_at r.at told
  where
    by_at : (at : At) → (is_try at ≡ true → e ≡ entry s r.demand.orders (next r.demand)) →
        IsTurn s (record { demand = r.demand; at = at }) (timing.timing_turn s e at (seen s r.demand))
    by_at interrupting told =
        let p = interrupt_seen s r.demand in
        record { timing = p.timing; at = refl; orders = p.orders }
    by_at committing told =
        let p = commit_seen s r.demand related in
        record { timing = p.timing; at = ap timing.at_after_commit p.timing ∙ commit_at s (demand_commit s r.demand); orders = p.orders }
    by_at completing told =
        let p = complete_seen s r.demand related in
        record { timing = p.timing; at = refl; orders = p.orders }
    by_at issuing told =
        let p = issue_seen s r.demand related in
        record {
          timing = p.timing;
          at = ap (λ (t : Timing). timing.try_or_end s s.params.core_fetch t) p.timing ∙ try_at s s.params.core_fetch (demand_issue s r.demand);
          orders = p.orders;
        }
    by_at (trying more) told =
        let now = entry s r.demand.orders (next r.demand) in
        let t : fetch.Try = fetch.fetch_try s r.demand.machine in
        let f = try_seen s r.demand related in
        let behind : Demand = demand_try s t r.demand in
        let is : IsTurn s (record { demand = r.demand; at = trying more }) (timing.timing_turn s now (trying more) (seen s r.demand)) = record {
          timing = f.phase.timing;
          at = ap (λ (b : Bool). if b then timing.try_or_end s more (try.timing_try s now (seen s r.demand)).phase.timing else ending) f.goes_on
              ∙ ap (λ (x : Timing). if goes_on t then timing.try_or_end s more x else ending) f.phase.timing
              ∙ ap (λ (x : At). if goes_on t then x else ending) (try_at s more behind)
              ∙ after_try_at s t more behind;
          orders = f.phase.orders;
        } in
        subst (λ (x : Entry). IsTurn s (record { demand = r.demand; at = trying more }) (timing.timing_turn s x (trying more) (seen s r.demand))) (sym (told refl)) is
    by_at ending told =
        let is = tick_seen s r.demand in
        record { timing = is; at = ap timing.at_after_cycle is ∙ cycle_at s (record r.demand { machine = end_of_cycle s r.demand.machine }); orders = refl }
    by_at stopping told = record { timing = stop_seen s r.demand; at = refl; orders = stop_orders s r.demand }
    by_at halted told = record { timing = refl; at = refl; orders = refl }
