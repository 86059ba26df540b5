-- Each turn leaves time reads served.
use Rattle.std.proofs.Common.{◌≡◌, ℕ, ◌≤◌, ◌&&◌, Bool, true, false, is_none, Option, Some, None, List, [], ◌∷◌, refl, sym, subst}
use Rattle.std.proofs.lemmas.Bool.{cond_both}
use Rattle.mono_model.specs.declared.setup.Setup.{Setup}
use Rattle.mono_model.specs.Setup.{ram_range, is_setup}
use Rattle.mono_model.specs.Result.{Result, is_time_read}
use Rattle.mono_model.specs.Window.{Record}
use Rattle.mono_model.specs.Machine.{Machine, flushed}
use Rattle.mono_model.specs.Issue.{is_oldest, has_operands, ready_result, wants_time_result, replayed}
use Rattle.mono_model.specs.Demand.{Demand}
use Rattle.mono_model.proofs.Sound.{setup_facts}
use Rattle.machine_laws.specs.Served.{IsServed, AreServed}
use Rattle.machine_laws.proofs.Serving.{interrupt_served, commits_served, completes_served, redirect_served, unwanted, unasked_third, ready_time, fetch_served, cycle_end_served, start_served}
use Rattle.inorder_machine.specs.InorderMachine.{InorderMachine, Executing, in_execute}
use Rattle.inorder_machine.specs.Write.{write_width, inorder_commit}
use Rattle.inorder_machine.specs.Execute.{Moved, unmoved, moved, may_move, moving_by, moving}
use Rattle.inorder_machine.specs.Issue.{is_past_fetch, found_in_order, decoded_result, may_issue, begun, issue_of, issue_from, wants_time_first, inorder_wants_time, issued, issue_machine}
use Rattle.inorder_machine.specs.Demand.{InorderAt, interrupting, writing, accessing, executing, issuing, trying, ending, stopping, halted, inorder_in, inorder_turn_at, inorder_place}
use Rattle.inorder_laws.proofs.Always.{always}
use Rattle.inorder_laws.proofs.Issuing.{issues_all}

-- Execute
moved_served : (s : Setup) (l : InorderMachine) (x : Option Executing) → AreServed l.machine.window → AreServed (moving_by s x l).completed.records
moved_served s l None served = served
moved_served s l (Some x) served =
    cond_both (may_move l x) (moved s x l) (unmoved l) (λ k. AreServed k.completed.records)
    (λ may. completes_served x.from l.machine.window served) (λ may. served)

-- Issue: the oldest is replayed where it wants a time, and no other record reads it.
none_older : (memory : Option ℕ) → found_in_order memory [] ≡ []
none_older None = refl
none_older (Some e) = refl

some_older : (memory : Option ℕ) (rec : Record) (older : List Record) → is_oldest (found_in_order memory (rec ∷ older)) ≡ false
some_older None rec older = refl
some_older (Some e) rec older = refl

module _ (s : Setup) (above : 0x20000000 ≤ (ram_range s.params).base) (l : InorderMachine) where
  -- the test of a replay, of any record behind these
  wants : List Record → Record → Bool
  wants found rec =
      is_past_fetch l.machine.cycle rec && has_operands l.machine.arch found rec && wants_time_result rec (ready_result s l.machine.arch found rec)

  one_served : (older : List Record) (rec : Record) → (is_oldest (found_in_order l.memory older) ≡ true → wants (found_in_order l.memory older) rec ≡ false) →
      IsServed rec.found rec.time rec.stage → (let t = issue_of s l older rec in IsServed t.found t.time t.stage)
  unfolding issue_of wants
  one_served older rec unasked served =
      cond_both (may_issue s l older rec) (begun s l older rec) rec (λ t. IsServed t.found t.time t.stage) starts (λ not. served)
    where
      found : List Record
      found = found_in_order l.memory older

      r : Result
      r = decoded_result s l older rec

      starts : may_issue s l older rec ≡ true → (let t = begun s l older rec in IsServed t.found t.time t.stage)
      starts may =
          let all = issues_all s l older rec may in
          unwanted (is_time_read rec.found r.access) (is_none rec.time)
          (λ reads. unasked_third (is_past_fetch l.machine.cycle rec) (has_operands l.machine.arch found rec) (wants_time_result rec r)
          (unasked (ready_time s above l.machine found rec reads all.allows)) all.past all.operands)

  -- behind the oldest
  younger_served : (first : Record) (older rest : List Record) → AreServed rest → AreServed (issue_from s l (first ∷ older) rest)
  unfolding issue_from
  younger_served first older [] served = tt
  younger_served first older (rec ∷ []) served = (one_served (first ∷ older) rec (λ oldest. let none = some_older l.memory first older in cc) served.0, tt)
  younger_served first older (rec ∷ next ∷ rest) served = (served.0, younger_served rec (first ∷ older) (next ∷ rest) served.1)

  oldest_served : (window : List Record) → wants_time_first s l.machine window ≡ false → AreServed window → AreServed (issue_from s l [] window)
  unfolding issue_from wants
  oldest_served [] unasked served = tt
  oldest_served (rec ∷ []) unasked served =
      (one_served [] rec (λ oldest. subst (λ (found : List Record). wants found rec ≡ false) (sym (none_older l.memory)) unasked) served.0, tt)
  oldest_served (rec ∷ next ∷ rest) unasked served = (served.0, younger_served rec [] (next ∷ rest) served.1)

issue_served : (s : Setup) (l : InorderMachine) → 0x20000000 ≤ (ram_range s.params).base → AreServed l.machine.window → AreServed (issue_machine s l).window
unfolding inorder_wants_time flushed
issue_served s l above served =
    cond_both (wants_time_first s l.machine l.machine.window) (replayed l.machine) (issued s l) (λ m. AreServed m.window)
    (λ is. tt) (λ is. oldest_served s above l l.machine.window is served)

-- at every place
turn_served : (s : Setup) → 0x20000000 ≤ (ram_range s.params).base → (at : InorderAt) (d : Demand) (memory : Option ℕ) →
    AreServed d.machine.window → AreServed (inorder_turn_at s at d memory).demand.machine.window
unfolding inorder_commit moving
turn_served s above interrupting d memory served = interrupt_served d.machine served
turn_served s above writing d memory served = commits_served s (write_width (inorder_in d memory)) d.machine served
turn_served s above accessing d memory served = served
turn_served s above executing d memory served =
    let x : Moved = moving_by s (in_execute d.machine.window) (inorder_in d memory) in
    let m : Machine = record d.machine { caches = x.caches } in
    redirect_served x.completed.redirect x.completed.records m (moved_served s (inorder_in d memory) (in_execute d.machine.window) served)
turn_served s above issuing d memory served = issue_served s (inorder_in d memory) above served
turn_served s above trying d memory served = fetch_served s d served
turn_served s above ending d memory served = cycle_end_served s d.machine served
turn_served s above stopping d memory served = served
turn_served s above halted d memory served = served

pub place_served : (s : Setup) (k : ℕ) → is_setup s ≡ true → AreServed (inorder_place s k).run.demand.machine.window
place_served s k is = always s (λ at d memory. AreServed d.machine.window) (start_served s) (turn_served s (setup_facts s is).ram) k
