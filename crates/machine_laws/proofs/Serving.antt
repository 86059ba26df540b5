-- Each turn leaves time reads served.
use Rattle.std.proofs.Common.{◌≡◌, ℕ, ◌≤◌, nat_lt, ◌==◌, ◌&&◌, Bool, true, false, if◌then◌else◌, is_none, Option, Some, None, List, [], ◌∷◌, ◌++◌, refl, subst}
use Rattle.std.proofs.lemmas.Bool.{cond_both}
use Rattle.fsim_base.specs.Number.{wrap_sum}
use Rattle.cache_timing.specs.Caches.{Served}
use Rattle.mono_model.specs.declared.setup.Setup.{Setup}
use Rattle.mono_model.specs.Setup.{ram_range, is_setup}
use Rattle.mono_model.specs.Found.{first_source, second_source}
use Rattle.mono_model.specs.Result.{Result, is_time_read}
use Rattle.mono_model.specs.Sequence.{is_unserved}
use Rattle.mono_model.specs.Window.{Record, Stage, waiting, until, done, class_at}
use Rattle.mono_model.specs.Machine.{Machine, machine_start, flushed}
use Rattle.mono_model.specs.Interrupt.{is_interrupted, take_interrupt, interrupt_phase}
use Rattle.mono_model.specs.Commit as commit
use Rattle.mono_model.specs.Complete.{Completed, due, is_mispredicted, in_front, complete_next, completes, completed_by, complete_phase}
use Rattle.mono_model.specs.Issue.{Passed, none_passed, is_oldest, class_allows, is_past_front, has_operands, operand_value, seen_from, ready_result, issues, Turned, unchanged, begun, turn_of, passed, walk, wants_time, wants_time_result, wants_time_first, replayed, issued, issue_phase}
use Rattle.mono_model.specs.Fetch.{misses, appends, turns, missed, appended, new_record, predicted_next, cache_read, fetch_try}
use Rattle.mono_model.specs.Cycle.{end_of_cycle}
use Rattle.mono_model.specs.Demand.{Demand, demand_try, At, interrupting, committing, completing, issuing, trying, ending, stopping, halted, turn_at, place}
use Rattle.mono_model.proofs.Issue.{issues_all}
use Rattle.machine_laws.specs.Served.{IsServed, AreServed}
use Rattle.machine_laws.proofs.Always.{always}
use Rattle.machine_laws.proofs.TimeReads.{time_read_oldest}
use Rattle.mono_model.proofs.Commits as commits
use Rattle.mono_model.proofs.Sound.{setup_facts}

-- interrupt
pub interrupt_served : (m : Machine) → AreServed m.window → AreServed (interrupt_phase m).window
unfolding interrupt_phase flushed
interrupt_served m served = by_test (is_interrupted m)
  where
    by_test : (b : Bool) → AreServed (if b then take_interrupt m else m).window
    by_test true = tt
    by_test false = served

-- commit
abbrev IsOn : ℕ → Machine → Type 0
IsOn left m = AreServed m.window

one_served : (s : Setup) (m : Machine) (left : ℕ) → AreServed m.window → commits.GoesOn IsOn (λ c. AreServed c.machine.window) left m (commit.leaving s m)
unfolding flushed
one_served s m left served =
    commits.leaving_case s m (commits.GoesOn IsOn (λ c. AreServed c.machine.window) left m) served (λ rec rest r is.
    let rest_served : AreServed rest = (subst AreServed is.window served).1 in
    record {
      if_faults = λ cause why. tt;
      if_full = λ none room. served;
      if_ends = λ halt passes. rest_served;
      if_syncs = λ passes fence. tt;
      if_leaves = λ passes fence. rest_served;
    })

-- where at most so many records leave
pub commits_served : (s : Setup) (most : ℕ) (m : Machine) → AreServed m.window → AreServed (commit.commits s most 0 m).machine.window
commits_served s most m served =
    commits.every_commit s (λ more. IsOn) (λ c. AreServed c.machine.window) (λ left m served. served) (λ more left m served. one_served s m left served)
    most 0 m served

commit_served : (s : Setup) (m : Machine) → AreServed m.window → AreServed (commit.commit_phase s m).machine.window
unfolding commit.commit_phase
commit_served s m served = commits_served s s.params.core_commit m served

-- complete
done_served : (rec : Record) (r : Result) (rest : Completed) → is_unserved rec.found r rec.time ≡ false → AreServed rest.records → AreServed (complete_next rec (Some r) rest).records
done_served rec r rest is served = by_test (is_mispredicted rec r)
  where
    by_test : (b : Bool) →
        AreServed (if b then record { records = record rec { stage = done r } ∷ []; redirect = Some r.next } else in_front (record rec { stage = done r }) rest).records
    by_test true = (is, tt)
    by_test false = (is, served)

next_served : (cycle : ℕ) (rec : Record) (stage : Stage) (rest : Completed) → IsServed rec.found rec.time rec.stage → IsServed rec.found rec.time stage → AreServed rest.records →
    AreServed (complete_next rec (due cycle stage) rest).records
next_served cycle rec waiting rest now is served = (now, served)
next_served cycle rec (until e r) rest now is served = by_test (e == cycle)
  where
    by_test : (b : Bool) → AreServed (complete_next rec (if b then Some r else None) rest).records
    by_test true = done_served rec r rest is served
    by_test false = (now, served)
next_served cycle rec (done r) rest now is served = (now, served)

pub completes_served : (cycle : ℕ) (window : List Record) → AreServed window → AreServed (completes cycle window).records
unfolding completes
completes_served cycle [] served = tt
completes_served cycle (rec ∷ rest) served = next_served cycle rec rec.stage (completes cycle rest) served.0 served.0 (completes_served cycle rest served.1)

pub redirect_served : (redirect : Option ℕ) (records : List Record) (m : Machine) → AreServed records → AreServed (completed_by redirect records m).window
unfolding flushed
redirect_served None records m served = served
redirect_served (Some addr) records m served = served

complete_served : (m : Machine) → AreServed m.window → AreServed (complete_phase m).window
unfolding complete_phase
complete_served m served = redirect_served (completes m.cycle m.window).redirect (completes m.cycle m.window).records m (completes_served m.cycle m.window served)

-- issue: the oldest is replayed where it wants a time, and no other record reads it
pub unwanted : (reads none : Bool) → (reads ≡ true → (none && reads) ≡ false) → (reads && none) ≡ false
unwanted false none has = refl
unwanted true true has = has refl
unwanted true false has = refl

-- three tests, of which the first two hold
pub unasked_third : (past has asks : Bool) → (past && has && asks) ≡ false → past ≡ true → has ≡ true → asks ≡ false
unasked_third true true asks none is held = none
unasked_third true false asks none is held = cc
unasked_third false has asks none is held = cc

module _ (s : Setup) (above : 0x20000000 ≤ (ram_range s.params).base) (m : Machine) where
  pub ready_time : (older : List Record) (rec : Record) → is_time_read rec.found (ready_result s m.arch older rec).access ≡ true →
      class_allows (class_at rec) (ready_result s m.arch older rec).access older ≡ true → is_oldest older ≡ true
  unfolding ready_result
  ready_time older rec reads allows =
      time_read_oldest (ram_range s.params) above older rec.found rec.addr
      (operand_value m.arch older (first_source rec.found)) (operand_value m.arch older (second_source rec.found)) (seen_from m.arch older rec.time) reads allows

  -- the test of a replay, of any record
  wants : List Record → Record → Bool
  wants older rec =
      is_past_front s.params m.cycle rec && has_operands m.arch older rec && wants_time_result rec (ready_result s m.arch older rec)

  turn_served : (w : Passed) (rec : Record) (younger : List Record) → (is_oldest w.older ≡ true → wants w.older rec ≡ false) →
      IsServed rec.found rec.time rec.stage → (let t = (turn_of s m w rec younger).turned in IsServed t.found t.time t.stage)
  unfolding turn_of wants
  turn_served w rec younger unasked served =
      cond_both (issues s m w rec younger) (begun s m.cycle w rec r) (unchanged w rec) (λ t. IsServed t.turned.found t.turned.time t.turned.stage)
      starts (λ not. served)
    where
      r : Result
      r = ready_result s m.arch w.older rec

      starts : issues s m w rec younger ≡ true → IsServed rec.found rec.time (begun s m.cycle w rec r).turned.stage
      starts may =
          let all = issues_all s m w rec younger may in
          unwanted (is_time_read rec.found r.access) (is_none rec.time)
          (λ reads. unasked_third (is_past_front s.params m.cycle rec) (has_operands m.arch w.older rec) (wants_time_result rec r)
          (unasked (ready_time w.older rec reads all.allows)) all.past all.operands)

  -- behind the oldest
  walk_served : (w : Passed) (rest : List Record) → is_oldest w.older ≡ false → AreServed rest → AreServed (walk s m w rest).records
  unfolding walk
  walk_served w [] others served = tt
  walk_served w (rec ∷ rest) others served =
      let t : Turned = turn_of s m w rec rest in
      (turn_served w rec rest (λ oldest. cc) served.0, walk_served (passed t w.older) rest refl served.1)

  issued_served : (window : List Record) → wants_time_first s m window ≡ false → AreServed window → AreServed (walk s m (none_passed m) window).records
  unfolding walk wants
  issued_served [] unasked served = tt
  issued_served (rec ∷ rest) unasked served =
      let t : Turned = turn_of s m (none_passed m) rec rest in
      (turn_served (none_passed m) rec rest (λ oldest. unasked) served.0, walk_served (passed t []) rest refl served.1)

issue_served : (s : Setup) (m : Machine) → 0x20000000 ≤ (ram_range s.params).base → AreServed m.window → AreServed (issue_phase s m).window
unfolding issue_phase wants_time flushed
issue_served s m above served = by_test (wants_time_first s m m.window) refl
  where
    by_test : (b : Bool) → wants_time_first s m m.window ≡ b → AreServed (if b then replayed m else issued s m).window
    by_test true is = tt
    by_test false is = issued_served s above m m.window is served

-- fetch
append_served : (window : List Record) (rec : Record) → AreServed window → IsServed rec.found rec.time rec.stage → AreServed (window ++ rec ∷ [])
append_served [] rec served now = (now, tt)
append_served (r ∷ rest) rec served now = (served.0, append_served rest rec served.1 now)

try_served : (s : Setup) (d : Demand) (c : Served) (miss straight : Bool) → AreServed d.machine.window →
    AreServed (demand_try s (if miss then misses (missed c.cycles c.state d.machine) else if straight then appends (appended s c.state d.machine) else turns (appended s c.state d.machine)) d).machine.window
try_served s d c true straight served = served
try_served s d c false true served = append_served d.machine.window (new_record s d.machine) served tt
try_served s d c false false served = append_served d.machine.window (new_record s d.machine) served tt

pub fetch_served : (s : Setup) (d : Demand) → AreServed d.machine.window → AreServed (demand_try s (fetch_try s d.machine) d).machine.window
unfolding fetch_try
fetch_served s d served =
    try_served s d (cache_read s d.machine) (nat_lt 0 (cache_read s d.machine).cycles) (predicted_next s d.machine == wrap_sum d.machine.fetch_addr 4) served

pub cycle_end_served : (s : Setup) (m : Machine) → AreServed m.window → AreServed (end_of_cycle s m).window
unfolding end_of_cycle
cycle_end_served s m served = served

pub start_served : (s : Setup) → AreServed (machine_start s).window
unfolding machine_start
start_served s = tt

turn_served_at : (s : Setup) → 0x20000000 ≤ (ram_range s.params).base → (at : At) (d : Demand) → AreServed d.machine.window → AreServed (turn_at s at d).demand.machine.window
turn_served_at s above interrupting d served = interrupt_served d.machine served
turn_served_at s above committing d served = commit_served s d.machine served
turn_served_at s above completing d served = complete_served d.machine served
turn_served_at s above issuing d served = issue_served s d.machine above served
turn_served_at s above (trying more) d served = fetch_served s d served
turn_served_at s above ending d served = cycle_end_served s d.machine served
turn_served_at s above stopping d served = served
turn_served_at s above halted d served = served

-- at every place
pub place_served : (s : Setup) (k : ℕ) → is_setup s ≡ true → AreServed (place s k).run.demand.machine.window
place_served s k is = always s (λ at d. AreServed d.machine.window) (start_served s) (turn_served_at s (setup_facts s is).ram) k
