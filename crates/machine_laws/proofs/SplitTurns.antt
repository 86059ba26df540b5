-- What each turn makes of the list of orders, of the number of the record to fetch and of the count of records fetched.
use Rattle.std.proofs.Common.{◌≡◌, ℕ, zero, suc, ◌+◌, ◌≤◌, nat_lt, ◌==◌, if◌then◌else◌, Bool, true, false, Option, Some, None, List, [], ◌∷◌, length, refl, ap, sym, ◌∙◌, subst, arith, length-append}
use Rattle.std.proofs.lemmas.Bool.{cond_both, cond-false}
use Rattle.fsim_base.specs.Number.{wrap_sum}
use Rattle.rollback_cmds.specs.declared.order.Order.{Order}
use Rattle.rollback_cmds.specs.declared.order.Order.TheVariants.{Set, Commit, Interrupt, Time, Stop, Sync}
use Rattle.rollback_cmds.specs.Order.{opens_epoch_of}
use Rattle.cache_timing.specs.Caches.{Served}
use Rattle.mono_model.specs.declared.setup.Setup.{Setup}
use Rattle.mono_model.specs.Final.{has_ended}
use Rattle.mono_model.specs.Result.{Result}
use Rattle.mono_model.specs.Window.{Record, done}
use Rattle.mono_model.specs.Machine.{Machine, flushed}
use Rattle.mono_model.specs.Interrupt.{is_interrupted, take_interrupt, interrupt_phase}
use Rattle.mono_model.specs.Commit.{leaving, Ending, plain, trap, sync, Committed, ended_with, commits, commit_phase}
use Rattle.mono_model.specs.Complete.{Completed, due, is_mispredicted, complete_next, completes, completed_by, complete_phase}
use Rattle.mono_model.specs.Issue.{none_passed, wants_time, replayed, issued, issue_phase}
use Rattle.mono_model.specs.Fetch.{Try, misses, appends, turns, may_fetch, cache_read, missed, appended, new_record, predicted_next, tried, fetch_try}
use Rattle.mono_model.specs.Cycle.{end_of_cycle}
use Rattle.mono_model.specs.Path.{entry, stops}
use Rattle.mono_model.specs.Demand.{Demand, next, ending_orders, commit_order, redirect_orders, path_orders, demand_interrupt, demand_commit, demand_complete, demand_issue, demand_try, At, interrupting, committing, completing, issuing, trying, ending, stopping, halted, is_try, try_or_end, at_after_commit, Run, tried_turn, turn_at, number_of}
use Rattle.mono_model.specs.Split.{is_halted}
use Rattle.mono_model.proofs.Commits.{GoesOn, leaving_case, every_commit}
use Rattle.machine_laws.proofs.Phases.{walk_length, interrupt_flushes, interrupt_window, EndingLeft, commit_from, completes_from, complete_window, replay_flushes}

-- Commit without a flush: the records that leave and those that stay are all there were.
abbrev pub IsWhole : Ending → ℕ → ℕ → Type 0
IsWhole plain count all = count ≡ all
IsWhole trap count all = Unit {0}
IsWhole sync count all = Unit {0}

pub record Whole (m : Machine) (c : Committed) : Type 0 where
  pub window : IsWhole c.ending (c.left + length c.machine.window) (length m.window)
  pub fetched : c.machine.counts.fetched ≡ m.counts.fetched

abbrev IsOn : Machine → ℕ → Machine → Type 0
IsOn m left between = Whole m (ended_with between left plain)

one_whole : (s : Setup) (m between : Machine) (left : ℕ) → IsOn m left between → GoesOn (IsOn m) (Whole m) left between (leaving s between)
unfolding flushed
one_whole s m between left on =
    leaving_case s between (GoesOn (IsOn m) (Whole m) left between) on (λ rec rest r is.
    let count : length between.window ≡ suc (length rest) = ap (λ (w : List Record). length w) is.window in
    record {
      if_faults = λ cause why. record { window = tt; fetched = on.fetched };
      if_full = λ none room. record { window = on.window; fetched = on.fetched };
      if_ends = λ halt passes. record { window = omega (arith, on.window); fetched = on.fetched };
      if_syncs = λ passes fence. record { window = tt; fetched = on.fetched };
      if_leaves = λ passes fence. record { window = omega (arith, on.window); fetched = on.fetched };
    })

-- where at most so many records leave
pub commits_all : (s : Setup) (most : ℕ) (m : Machine) → Whole m (commits s most 0 m)
commits_all s most m =
    every_commit s (λ more. IsOn m) (Whole m) (λ left between on. on) (λ more left between on. one_whole s m between left on)
    most 0 m (record { window = omega arith; fetched = refl })

commit_all : (s : Setup) (m : Machine) → Whole m (commit_phase s m)
unfolding commit_phase
commit_all s m = commits_all s s.params.core_commit m

-- What a turn makes: `n` is the number of the record to fetch before it, or one more where it appended one, and `to` that
-- behind it.
pub record IsOpening (n : ℕ) (o : Order) : Type 0 where
  pub opens : opens_epoch_of o ≡ true
  pub number : number_of o ≡ n
  pub runs : stops o ≡ false

pub data MadeBy (n to : ℕ) (halts : Bool) (os behind : List Order) : Type 0 where
  quiet : behind ≡ os → to ≡ n → halts ≡ false → MadeBy n to halts os behind
  commits_to : (m : ℕ) → behind ≡ Commit m ∷ os → m ≤ to → to ≡ n → halts ≡ false → MadeBy n to halts os behind
  opens_at : (o : Order) → behind ≡ o ∷ os → IsOpening to o → to ≤ n → halts ≡ false → MadeBy n to halts os behind
  both_at : (m : ℕ) (o : Order) → behind ≡ o ∷ Commit m ∷ os → IsOpening to o → m ≤ to → to ≤ n → halts ≡ false → MadeBy n to halts os behind
  stops_at : (m : ℕ) → behind ≡ Stop m ∷ os → m ≤ n → halts ≡ true → MadeBy n to halts os behind

abbrev pub one : Bool → ℕ
one true = 1
one false = 0

pub record Turned (at : At) (d : Demand) (r : Run) : Type 0 where
  pub appends : Bool
  pub fetched : r.demand.machine.counts.fetched ≡ d.machine.counts.fetched + one appends
  pub try : appends ≡ true → is_try at ≡ true
  pub made : MadeBy (next d + one appends) (next r.demand) (is_halted r.at) d.orders r.demand.orders

-- turns that append no record
pub still : (at : At) (d : Demand) (r : Run) → r.demand.machine.counts.fetched ≡ d.machine.counts.fetched → MadeBy (next d) (next r.demand) (is_halted r.at) d.orders r.demand.orders → Turned at d r
still at d r fetched made = record {
  appends = false;
  fetched = omega (arith, fetched);
  try = λ is. cc;
  made = let e : next d ≡ next d + one false = omega arith in subst (λ (n : ℕ). MadeBy n (next r.demand) (is_halted r.at) d.orders r.demand.orders) e made;
}

interrupt_fetched : (m : Machine) → (interrupt_phase m).counts.fetched ≡ m.counts.fetched
unfolding interrupt_phase flushed
interrupt_fetched m = cond_both (is_interrupted m) (take_interrupt m) m (λ x. x.counts.fetched ≡ m.counts.fetched) (λ e. refl) (λ e. refl)

interrupt_same : (m : Machine) → is_interrupted m ≡ false → length (interrupt_phase m).window ≡ length m.window
unfolding interrupt_phase
interrupt_same m is = ap (λ (x : Machine). length x.window) (cond-false (is_interrupted m) (take_interrupt m) m is)

pub interrupt_turned : (s : Setup) (d : Demand) → Turned interrupting d (turn_at s interrupting d)
interrupt_turned s d =
    let to = next (demand_interrupt d) in
    still interrupting d (turn_at s interrupting d) (interrupt_fetched d.machine)
    (cond_both (is_interrupted d.machine) (Interrupt d.to_commit ∷ d.orders) d.orders (MadeBy (next d) to false d.orders)
    (λ is. opens_at (Interrupt d.to_commit) refl (record { opens = refl; number = omega (arith, interrupt_flushes d.machine is); runs = refl }) (omega (arith, interrupt_window d.machine)) refl)
    (λ is. quiet refl (omega (arith, interrupt_same d.machine is)) refl))

pub commit_made : (n m left handler all : ℕ) (e : Ending) (halts : Bool) (w : List Record) (os : List Order) → m ≡ n + left → EndingLeft e left w → left + length w ≤ all → IsWhole e (left + length w) all → halts ≡ false →
    MadeBy (n + all) (m + length w) halts os (ending_orders e handler m (commit_order left m os))
commit_made n m zero handler all plain halts w os is more within whole on = quiet refl (omega (arith, whole)) on
commit_made n m zero handler all trap halts w os is more within whole on = absurd (omega (arith, more.0))
commit_made n m zero handler all sync halts w os is more within whole on = absurd (omega (arith, more.0))
commit_made n m (suc left) handler all plain halts w os is more within whole on = commits_to m refl (omega arith) (omega (arith, whole)) on
commit_made n m (suc left) handler all trap halts w os is more within whole on =
    both_at m (Set m handler) refl (record { opens = refl; number = omega (arith, more.1); runs = refl }) (omega arith) (omega arith) on
commit_made n m (suc left) handler all sync halts w os is more within whole on =
    both_at m (Sync m) refl (record { opens = refl; number = omega (arith, more.1); runs = refl }) (omega arith) (omega arith) on

pub goes_on : (b : Bool) (x y : At) → is_halted x ≡ false → is_halted y ≡ false → is_halted (if b then x else y) ≡ false
goes_on b x y first second = cond_both b x y (λ at. is_halted at ≡ false) (λ e. first) (λ e. second)

commit_turned : (s : Setup) (d : Demand) → Turned committing d (turn_at s committing d)
commit_turned s d =
    let c = commit_phase s d.machine in
    let whole = commit_all s d.machine in
    let from = commit_from s d.machine in
    still committing d (turn_at s committing d) whole.fetched
    (commit_made d.to_commit (d.to_commit + c.left) c.left c.machine.arch.pc (length d.machine.window) c.ending (is_halted (at_after_commit (demand_commit s d))) c.machine.window d.orders refl from.ending (omega (arith, from.window))
    whole.window
    (goes_on (has_ended c.machine.end) ending completing refl refl))

unfoldable pub IsSame : Option ℕ → ℕ → ℕ → Type 0
IsSame None count all = count ≡ all
IsSame (Some addr) count all = Unit {0}

next_same : (rec : Record) (over : Option Result) (c : Completed) (all : ℕ) → IsSame c.redirect (length c.records) all → IsSame (complete_next rec over c).redirect (length (complete_next rec over c).records) (suc all)
unfolding IsSame
next_same rec None c all is = by_redirect c.redirect (length c.records) is
  where
    by_redirect : (redirect : Option ℕ) (count : ℕ) → IsSame redirect count all → IsSame redirect (suc count) (suc all)
    by_redirect None count is = ap suc is
    by_redirect (Some addr) count is = tt
next_same rec (Some r) c all is =
    cond_both (is_mispredicted rec r) (record { records = record rec { stage = done r } ∷ []; redirect = Some r.next })
    (record c { records = record rec { stage = done r } ∷ c.records }) (λ x. IsSame x.redirect (length x.records) (suc all))
    (λ b. tt) (λ b. by_redirect c.redirect (length c.records) is)
  where
    by_redirect : (redirect : Option ℕ) (count : ℕ) → IsSame redirect count all → IsSame redirect (suc count) (suc all)
    by_redirect None count is = ap suc is
    by_redirect (Some addr) count is = tt

pub completes_same : (cycle : ℕ) (w : List Record) → IsSame (completes cycle w).redirect (length (completes cycle w).records) (length w)
unfolding completes IsSame
completes_same cycle [] = refl
completes_same cycle (rec ∷ rest) = next_same rec (due cycle rec.stage) (completes cycle rest) (length rest) (completes_same cycle rest)

pub by_fetched : (redirect : Option ℕ) (records : List Record) (m : Machine) → (completed_by redirect records m).counts.fetched ≡ m.counts.fetched
unfolding flushed
by_fetched None records m = refl
by_fetched (Some addr) records m = refl

complete_fetched : (m : Machine) → (complete_phase m).counts.fetched ≡ m.counts.fetched
unfolding complete_phase
complete_fetched m = let c = completes m.cycle m.window in by_fetched c.redirect c.records m

pub redirect_made : (redirect : Option ℕ) (n count all : ℕ) (os : List Order) → IsSame redirect count all → count ≤ all → MadeBy (n + all) (n + count) false os (redirect_orders redirect (n + count) os)
unfolding IsSame
redirect_made None n count all os same within = quiet refl (omega (arith, same)) refl
redirect_made (Some addr) n count all os same within = opens_at (Set (n + count) addr) refl (record { opens = refl; number = refl; runs = refl }) (omega arith) refl

complete_turned : (s : Setup) (d : Demand) → Turned completing d (turn_at s completing d)
complete_turned s d =
    let c = completes d.machine.cycle d.machine.window in
    still completing d (turn_at s completing d) (complete_fetched d.machine)
    (subst (λ (w : List Record). MadeBy (next d) (d.to_commit + length w) false d.orders (demand_complete d).orders) (sym (complete_window d.machine))
    (redirect_made c.redirect d.to_commit (length c.records) (length d.machine.window) d.orders (completes_same d.machine.cycle d.machine.window) (completes_from d.machine.cycle d.machine.window).window))

try_or_end_on : (s : Setup) (more : ℕ) (d : Demand) → is_halted (try_or_end s more d) ≡ false
try_or_end_on s zero d = refl
try_or_end_on s (suc more) d = goes_on (may_fetch s d.machine) (trying more) ending refl refl

issue_same : (s : Setup) (m : Machine) → wants_time s m ≡ false → length (issue_phase s m).window ≡ length m.window
unfolding issue_phase
issue_same s m is =
    ap (λ (x : Machine). length x.window) (cond-false (wants_time s m) (replayed m) (issued s m) is) ∙ walk_length s m (none_passed m) m.window

issue_fetched : (s : Setup) (m : Machine) → (issue_phase s m).counts.fetched ≡ m.counts.fetched
unfolding issue_phase flushed
issue_fetched s m = cond_both (wants_time s m) (replayed m) (issued s m) (λ x. x.counts.fetched ≡ m.counts.fetched) (λ e. refl) (λ e. refl)

issue_turned : (s : Setup) (d : Demand) → Turned issuing d (turn_at s issuing d)
issue_turned s d =
    let behind = demand_issue s d in
    let on = try_or_end_on s s.params.core_fetch behind in
    still issuing d (turn_at s issuing d) (issue_fetched s d.machine)
    (cond_both (wants_time s d.machine) (Time d.to_commit d.machine.cycle ∷ d.orders) d.orders (MadeBy (next d) (next behind) (is_halted (try_or_end s s.params.core_fetch behind)) d.orders)
    (λ is. opens_at (Time d.to_commit d.machine.cycle) refl (record { opens = refl; number = omega (arith, replay_flushes s d.machine is); runs = refl }) (omega (arith, replay_flushes s d.machine is)) on)
    (λ is. quiet refl (omega (arith, issue_same s d.machine is)) on))

-- a try
pub record Appended (m behind : Machine) : Type 0 where
  pub window : length behind.window ≡ length m.window + 1
  pub fetched : behind.counts.fetched ≡ m.counts.fetched + 1

abbrev pub TriesAll : Machine → Try → Type 0
TriesAll m (misses behind) = (length behind.window ≡ length m.window) × (behind.counts.fetched ≡ m.counts.fetched)
TriesAll m (appends behind) = Appended m behind
TriesAll m (turns behind) = Appended m behind

tried_all : (s : Setup) (d : Served) (m : Machine) → TriesAll m (tried s d m)
tried_all s d m =
    cond_both (nat_lt 0 d.cycles) (misses (missed d.cycles d.state m))
    (if predicted_next s m == wrap_sum m.fetch_addr 4 then appends (appended s d.state m) else turns (appended s d.state m)) (TriesAll m)
    (λ e. (refl, refl))
    (λ e. cond_both (predicted_next s m == wrap_sum m.fetch_addr 4) (appends (appended s d.state m)) (turns (appended s d.state m)) (TriesAll m)
    (λ f. more) (λ f. more))
  where
    more : Appended m (appended s d.state m)
    more = record { window = length-append m.window (new_record s m ∷ []); fetched = refl }

pub try_all : (s : Setup) (m : Machine) → TriesAll m (fetch_try s m)
unfolding fetch_try
try_all s m = tried_all s (cache_read s m) m

path_made : (s : Setup) (d : Demand) (to : ℕ) (halts : Bool) → to ≡ next d + 1 → halts ≡ false → MadeBy (next d + 1) to halts d.orders (path_orders s d)
path_made s d to halts is on =
    cond_both ((entry s d.orders (next d)).next == predicted_next s d.machine) d.orders (Set (next d + 1) (predicted_next s d.machine) ∷ d.orders) (MadeBy (next d + 1) to halts d.orders)
    (λ e. quiet refl is on) (λ e. opens_at (Set (next d + 1) (predicted_next s d.machine)) refl (record { opens = refl; number = sym is; runs = refl }) (omega (arith, is)) on)

pub by_try : (s : Setup) (t : Try) (more : ℕ) (d : Demand) → TriesAll d.machine t → Turned (trying more) d (tried_turn s t more d)
by_try s (misses behind) more d made = still (trying more) d (tried_turn s (misses behind) more d) made.1 (quiet refl (ap (λ (k : ℕ). d.to_commit + k) made.0) refl)
by_try s (appends behind) more d made = record {
  appends = true;
  fetched = made.fetched;
  try = λ is. refl;
  made = path_made s d (d.to_commit + length behind.window) (is_halted (try_or_end s more (demand_try s (appends behind) d))) (omega (arith, made.window)) (try_or_end_on s more (demand_try s (appends behind) d));
}
by_try s (turns behind) more d made = record {
  appends = true;
  fetched = made.fetched;
  try = λ is. refl;
  made = path_made s d (d.to_commit + length behind.window) false (omega (arith, made.window)) refl;
}

pub cycle_end_window : (s : Setup) (m : Machine) → length (end_of_cycle s m).window ≡ length m.window
unfolding end_of_cycle
cycle_end_window s m = refl

pub cycle_end_fetched : (s : Setup) (m : Machine) → (end_of_cycle s m).counts.fetched ≡ m.counts.fetched
unfolding end_of_cycle
cycle_end_fetched s m = refl

ending_turned : (s : Setup) (d : Demand) → Turned ending d (turn_at s ending d)
ending_turned s d =
    still ending d (turn_at s ending d) (cycle_end_fetched s d.machine)
    (quiet refl (ap (λ (k : ℕ). d.to_commit + k) (cycle_end_window s d.machine)) (goes_on (has_ended (end_of_cycle s d.machine).end) stopping interrupting refl refl))

pub turn_turned : (s : Setup) (at : At) (d : Demand) → is_halted at ≡ false → Turned at d (turn_at s at d)
turn_turned s interrupting d on = interrupt_turned s d
turn_turned s committing d on = commit_turned s d
turn_turned s completing d on = complete_turned s d
turn_turned s issuing d on = issue_turned s d
turn_turned s (trying more) d on = by_try s (fetch_try s d.machine) more d (try_all s d.machine)
turn_turned s ending d on = ending_turned s d
turn_turned s stopping d on = still stopping d (turn_at s stopping d) refl (stops_at d.to_commit refl (omega arith) refl)
turn_turned s halted d on = cc
