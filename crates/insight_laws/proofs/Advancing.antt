-- What the phases of a cycle leave of the records under way and of what is counted of them.
use Rattle.std.proofs.Common.{◌≡◌, ℕ, zero, suc, ◌+◌, ◌≤◌, nat_le, nat_lt, ◌==◌, ◌&&◌, if◌then◌else◌, Bool, true, false, Option, Some, None, List, [], ◌∷◌, ◌++◌, length, drop, refl, ap, sym, ◌∙◌, subst, append-nil, append_assoc, length-append, arith}
use Rattle.std.proofs.lemmas.Bool.{and_parts, cond_both}
use Rattle.fsim_base.specs.declared.cause.Cause.{Cause}
use Rattle.fsim_base.specs.Number.{wrap_sum}
use Rattle.mono_model.specs.declared.setup.Setup.{Setup}
use Rattle.mono_model.specs.Arch.{Arch, synced, trapped}
use Rattle.mono_model.specs.Found.{Found}
use Rattle.mono_model.specs.Final.{end_of}
use Rattle.mono_model.specs.Result.{Result}
use Rattle.mono_model.specs.Effect.{effect, effect_by, retired}
use Rattle.mono_model.specs.Window.{Record, Stage, waiting, until, done, class_at, is_waiting, is_waiting_stage, busy_divisions}
use Rattle.mono_model.specs.Machine.{Machine, flushed}
use Rattle.mono_model.specs.Interrupt.{is_interrupted, take_interrupt, interrupt_phase}
use Rattle.mono_model.specs.Commit.{committed, faulted, fenced, leaving, Committed, commits}
use Rattle.mono_model.specs.Complete.{Completed, complete_next, complete_phase, completed_by, completes, due, is_mispredicted}
use Rattle.mono_model.specs.Issue.{Passed, Turned, begun, cached, class_allows, has_operands, has_unit, is_past_front, issue_phase, issued, issues, latency_of, none_passed, passed, ready_result, replayed, turn_of, unchanged, walk, wants_time}
use Rattle.mono_model.specs.Fetch.{Try, misses, appends, turns, after_try, appended, cache_read, fetch_try, fetches, may_fetch, missed, new_record, predicted_next}
use Rattle.mono_model.proofs.Commits.{GoesOn, every_commit, leaving_case}
use Rattle.mono_model.proofs.Retired.{changed_retired}
use Rattle.insight_laws.proofs.Later.{AreLater, IsLater, all_on, all_same, later_same, no_more, rest_later, result_in}

-- Of a machine so many records left, and the others are the same, as far as they stayed.
pub record Advances (m : Machine) (left : ℕ) (x : Machine) : Type 0 where
  pub retired : m.arch.csrs.retired ≤ x.arch.csrs.retired
  pub exceptions : m.counts.exceptions ≤ x.counts.exceptions
  pub departed : x.arch.csrs.retired + x.counts.exceptions ≡ m.arch.csrs.retired + m.counts.exceptions + left
  pub fetched : x.counts.fetched ≡ m.counts.fetched
  pub within : left + length x.window ≤ length m.window
  pub later : AreLater x.window (drop left m.window)

pub advances_none : (m : Machine) → Advances m 0 m
advances_none m = record { retired = omega arith; exceptions = omega arith; departed = omega arith; fetched = refl; within = omega arith; later = all_same m.window }

-- a phase in which none leave
pub record Stays (x y : Machine) : Type 0 where
  pub retired : y.arch.csrs.retired ≡ x.arch.csrs.retired
  pub exceptions : y.counts.exceptions ≡ x.counts.exceptions
  pub fetched : y.counts.fetched ≡ x.counts.fetched
  pub later : AreLater y.window x.window

pub stays_on : (m x y : Machine) (left : ℕ) → Advances m left x → Stays x y → Advances m left y
stays_on m x y left on stays = record {
  retired = omega (arith, on.retired, stays.retired);
  exceptions = omega (arith, on.exceptions, stays.exceptions);
  departed = omega (arith, on.departed, stays.retired, stays.exceptions);
  fetched = stays.fetched ∙ on.fetched;
  within = omega (arith, on.within, no_more y.window x.window stays.later);
  later = all_on y.window x.window (drop left m.window) stays.later on.later;
}

-- The interrupt.
pub interrupt_stays : (m : Machine) → Stays m (interrupt_phase m)
unfolding interrupt_phase flushed trapped
interrupt_stays m =
    cond_both (is_interrupted m) (take_interrupt m) m (Stays m)
    (λ is. record { retired = refl; exceptions = refl; fetched = refl; later = tt })
    (λ off. record { retired = refl; exceptions = refl; fetched = refl; later = all_same m.window })

-- Commit: the oldest record leaves, and of the others some stay as they are.
record Leaves (x : Machine) (rest : List Record) (y : Machine) : Type 0 where
  retired : x.arch.csrs.retired ≤ y.arch.csrs.retired
  exceptions : x.counts.exceptions ≤ y.counts.exceptions
  one : y.arch.csrs.retired + y.counts.exceptions ≡ x.arch.csrs.retired + x.counts.exceptions + 1
  fetched : y.counts.fetched ≡ x.counts.fetched
  later : AreLater y.window rest

retires : (cause : Option Cause) (found : Found) (r : Result) (time : Option ℕ) (addr : ℕ) (a : Arch) → cause ≡ None → (effect_by cause found r time addr a).csrs.retired ≡ a.csrs.retired + 1
unfolding retired
retires None found r time addr a is = ap (λ (n : ℕ). n + 1) (changed_retired found time a)
retires (Some cause) found r time addr a is = cc

traps : (cause : Option Cause) (why : Cause) (found : Found) (r : Result) (time : Option ℕ) (addr : ℕ) (a : Arch) → cause ≡ Some why → (effect_by cause found r time addr a).csrs.retired ≡ a.csrs.retired
unfolding trapped
traps None why found r time addr a is = cc
traps (Some cause) why found r time addr a is = refl

committed_leaves : (s : Setup) (rec : Record) (rest : List Record) (r : Result) (x : Machine) → r.cause ≡ None → Leaves x rest (committed s rec rest r x)
unfolding effect
committed_leaves s rec rest r x none =
    let one = retires r.cause rec.found r rec.time rec.addr x.arch none in
    record { retired = omega (arith, one); exceptions = omega arith; one = omega (arith, one); fetched = refl; later = all_same rest }

faulted_leaves : (rec : Record) (rest : List Record) (r : Result) (why : Cause) (x : Machine) → r.cause ≡ Some why → Leaves x rest (faulted rec rest r x)
unfolding effect flushed
faulted_leaves rec rest r why x some =
    let same = traps r.cause why rec.found r rec.time rec.addr x.arch some in
    record { retired = omega (arith, same); exceptions = omega arith; one = omega (arith, same); fetched = refl; later = tt }

fenced_leaves : (s : Setup) (x y : Machine) (rest : List Record) → Leaves x rest y → Leaves x rest (fenced s y)
unfolding flushed synced
fenced_leaves s x y rest gone = record { retired = gone.retired; exceptions = gone.exceptions; one = gone.one; fetched = gone.fetched; later = tt }

leaves_on : (m x y : Machine) (left : ℕ) (rec : Record) (rest : List Record) → x.window ≡ rec ∷ rest → Advances m left x → Leaves x rest y → Advances m (left + 1) y
leaves_on m x y left rec rest is on gone =
    let next : suc left ≡ left + 1 = omega arith in
    let shorter : length x.window ≡ suc (length rest) = ap (λ (w : List Record). length w) is in
    let others = rest_later left m.window rec rest (subst (λ (w : List Record). AreLater w (drop left m.window)) is on.later) in
    record {
      retired = omega (arith, on.retired, gone.retired);
      exceptions = omega (arith, on.exceptions, gone.exceptions);
      departed = omega (arith, on.departed, gone.one);
      fetched = gone.fetched ∙ on.fetched;
      within = omega (arith, on.within, shorter, no_more y.window rest gone.later);
      later = subst (λ (n : ℕ). AreLater y.window (drop n m.window)) next (all_on y.window rest (drop (suc left) m.window) gone.later others);
    }

-- at most so many leave
pub record AdvancesBy (m : Machine) (most left : ℕ) (x : Machine) : Type 0 where
  pub advances : Advances m left x
  pub few : left ≤ most

abbrev MayGoOn : Machine → ℕ → ℕ → ℕ → Machine → Type 0
MayGoOn m most more left x = Advances m left x × (left + more ≤ most)

abbrev HasGone : Machine → ℕ → Committed → Type 0
HasGone m most c = AdvancesBy m most c.left c.machine

one_leaves : (s : Setup) (m : Machine) (most more left : ℕ) (x : Machine) → MayGoOn m most (suc more) left x → GoesOn (MayGoOn m most more) (HasGone m most) left x (leaving s x)
one_leaves s m most more left x on =
    leaving_case s x (GoesOn (MayGoOn m most more) (HasGone m most) left x) (record { advances = on.0; few = omega (arith, on.1) }) (λ rec rest r is.
    let y = committed s rec rest r x in
    let goes : r.cause ≡ None → Leaves x rest y = λ none. committed_leaves s rec rest r x none in
    record {
      if_faults = λ cause why. record {
        advances = leaves_on m x (faulted rec rest r x) left rec rest is.window on.0 (faulted_leaves rec rest r cause x why);
        few = omega (arith, on.1);
      };
      if_full = λ none room.
          let same : Advances m left x = on.0 in
          record {
            advances = record { retired = same.retired; exceptions = same.exceptions; departed = same.departed; fetched = same.fetched; within = same.within; later = same.later };
            few = omega (arith, on.1);
          };
      if_ends = λ halt passes.
          let gone = goes passes.cause in
          record {
            advances = leaves_on m x (record y { end = end_of halt }) left rec rest is.window on.0
                (record { retired = gone.retired; exceptions = gone.exceptions; one = gone.one; fetched = gone.fetched; later = gone.later });
            few = omega (arith, on.1);
          };
      if_syncs = λ passes fence. record {
        advances = leaves_on m x (fenced s y) left rec rest is.window on.0 (fenced_leaves s x y rest (goes passes.cause));
        few = omega (arith, on.1);
      };
      if_leaves = λ passes fence. (leaves_on m x y left rec rest is.window on.0 (goes passes.cause), omega (arith, on.1));
    })

pub commits_advance : (s : Setup) (most : ℕ) (m x : Machine) → Advances m 0 x → AdvancesBy m most (commits s most 0 x).left (commits s most 0 x).machine
commits_advance s most m x on =
    every_commit s (MayGoOn m most) (HasGone m most) (λ left y may. record { advances = may.0; few = omega (arith, may.1) }) (λ more left y may. one_leaves s m most more left y may)
    most 0 x (on, omega arith)

-- Complete: a record that executes comes to what it is done with.
due_result : (cycle : ℕ) (stage : Stage) (r : Result) → due cycle stage ≡ Some r → result_in stage ≡ Some r
due_result cycle waiting r is = cc
due_result cycle (until e q) r is = by (e == cycle) is
  where
    by : (b : Bool) → ◌≡◌ {A = Option Result} (if b then Some q else None) (Some r) → ◌≡◌ {A = Option Result} (Some q) (Some r)
    by true over = over
    by false over = cc
due_result cycle (done q) r is = cc

done_later : (cycle : ℕ) (rec : Record) (r : Result) → due cycle rec.stage ≡ Some r → IsLater rec (record rec { stage = done r })
done_later cycle rec r is = record {
  addr = refl;
  found = refl;
  predicted = refl;
  since = refl;
  result = λ q came. sym (due_result cycle rec.stage r is) ∙ came;
}

next_later : (rec : Record) (over : Option Result) (rest : List Record) (c : Completed) → ((r : Result) → over ≡ Some r → IsLater rec (record rec { stage = done r })) → AreLater c.records rest →
    AreLater (complete_next rec over c).records (rec ∷ rest)
next_later rec None rest c comes later = (later_same rec, later)
next_later rec (Some r) rest c comes later =
    cond_both (is_mispredicted rec r) (record { records = record rec { stage = done r } ∷ []; redirect = Some r.next })
    (record c { records = record rec { stage = done r } ∷ c.records }) (λ k. AreLater k.records (rec ∷ rest))
    (λ wrong. (comes r refl, tt)) (λ right. (comes r refl, later))

pub completes_later : (cycle : ℕ) (w : List Record) → AreLater (completes cycle w).records w
unfolding completes
completes_later cycle [] = tt
completes_later cycle (rec ∷ rest) = next_later rec (due cycle rec.stage) rest (completes cycle rest) (λ r is. done_later cycle rec r is) (completes_later cycle rest)

pub completed_stays : (redirect : Option ℕ) (records : List Record) (m : Machine) → AreLater records m.window → Stays m (completed_by redirect records m)
unfolding flushed
completed_stays None records m later = record { retired = refl; exceptions = refl; fetched = refl; later = later }
completed_stays (Some addr) records m later = record { retired = refl; exceptions = refl; fetched = refl; later = later }

pub complete_stays : (m : Machine) → Stays m (complete_phase m)
unfolding complete_phase
complete_stays m = let c = completes m.cycle m.window in completed_stays c.redirect c.records m (completes_later m.cycle m.window)

-- Issue: a record that waited begins.
began : (stage : Stage) → is_waiting_stage stage ≡ true → (r : Result) (other : Option Result) → result_in stage ≡ Some r → other ≡ Some r
began waiting waits r other came = cc
began (until e q) waits r other came = cc
began (done q) waits r other came = cc

pub begins_later : (rec : Record) (e : ℕ) (r : Result) → is_waiting rec ≡ true → IsLater rec (record rec { stage = until e r })
begins_later rec e r waits = record { addr = refl; found = refl; predicted = refl; since = refl; result = λ q came. began rec.stage waits q (Some r) came }

issues_waiting : (s : Setup) (m : Machine) (p : Passed) (rec : Record) (younger : List Record) → issues s m p rec younger ≡ true → is_waiting rec ≡ true
issues_waiting s m p rec younger is =
    let a = is_past_front s.params m.cycle rec in
    let b = has_operands m.arch p.older rec in
    let c = class_allows (class_at rec) (ready_result s m.arch p.older rec).access p.older in
    let d = has_unit s.params (busy_divisions p.older + busy_divisions younger) p.used (class_at rec) in
    let past : a ≡ true = (and_parts a b (and_parts (a && b) c (and_parts (a && b && c) d is).0).0).0 in
    (and_parts (is_waiting rec) (nat_le (rec.since + s.params.core_front) m.cycle) past).0

turn_later : (s : Setup) (m : Machine) (p : Passed) (rec : Record) (younger : List Record) → IsLater rec (turn_of s m p rec younger).turned
unfolding turn_of
turn_later s m p rec younger =
    let r = ready_result s m.arch p.older rec in
    let e = m.cycle + latency_of s.params (class_at rec) + (cached s r.cause r.access p.caches).cycles in
    cond_both (issues s m p rec younger) (begun s m.cycle p rec r) (unchanged p rec) (λ (t : Turned). IsLater rec t.turned)
    (λ may. begins_later rec e r (issues_waiting s m p rec younger may)) (λ off. later_same rec)

walk_later : (s : Setup) (m : Machine) (p : Passed) (w : List Record) → AreLater (walk s m p w).records w
unfolding walk
walk_later s m p [] = tt
walk_later s m p (rec ∷ younger) = let t = turn_of s m p rec younger in (turn_later s m p rec younger, walk_later s m (passed t p.older) younger)

pub replayed_stays : (m : Machine) → Stays m (replayed m)
unfolding flushed
replayed_stays m = record { retired = refl; exceptions = refl; fetched = refl; later = tt }

pub issue_stays : (s : Setup) (m : Machine) → Stays m (issue_phase s m)
unfolding issue_phase
issue_stays s m =
    cond_both (wants_time s m) (replayed m) (issued s m) (Stays m) (λ is. replayed_stays m)
    (λ off. record { retired = refl; exceptions = refl; fetched = refl; later = walk_later s m (none_passed m) m.window })

-- Fetch: records are appended.
pub record Fetches (x y : Machine) : Type 0 where
  pub fresh : List Record
  pub retired : y.arch.csrs.retired ≡ x.arch.csrs.retired
  pub exceptions : y.counts.exceptions ≡ x.counts.exceptions
  pub fetched : y.counts.fetched ≡ x.counts.fetched + length fresh
  pub window : y.window ≡ x.window ++ fresh

pub fetches_none : (x : Machine) → Fetches x x
fetches_none x = record { fresh = []; retired = refl; exceptions = refl; fetched = omega arith; window = sym (append-nil x.window) }

fetches_on : (x y z : Machine) → Fetches x y → Fetches y z → Fetches x z
fetches_on x y z first second = record {
  fresh = first.fresh ++ second.fresh;
  retired = second.retired ∙ first.retired;
  exceptions = second.exceptions ∙ first.exceptions;
  fetched = omega (arith, first.fetched, second.fetched, length-append first.fresh second.fresh);
  window = second.window ∙ ap (λ (w : List Record). w ++ second.fresh) first.window ∙ append_assoc x.window first.fresh second.fresh;
}

abbrev TryFetches : Machine → Try → Type 0
TryFetches m (misses y) = Fetches m y
TryFetches m (appends y) = Fetches m y
TryFetches m (turns y) = Fetches m y

try_fetches : (s : Setup) (m : Machine) → TryFetches m (fetch_try s m)
unfolding fetch_try
try_fetches s m =
    let d = cache_read s m in
    let one : Fetches m (appended s d.state m) = record { fresh = new_record s m ∷ []; retired = refl; exceptions = refl; fetched = omega arith; window = refl } in
    cond_both (nat_lt 0 d.cycles) (misses (missed d.cycles d.state m))
    (if predicted_next s m == wrap_sum m.fetch_addr 4 then appends (appended s d.state m) else turns (appended s d.state m)) (TryFetches m)
    (λ e. record { fresh = []; retired = refl; exceptions = refl; fetched = omega arith; window = sym (append-nil m.window) })
    (λ e. cond_both (predicted_next s m == wrap_sum m.fetch_addr 4) (appends (appended s d.state m)) (turns (appended s d.state m)) (TryFetches m) (λ f. one) (λ f. one))

after_fetches : (m : Machine) (t : Try) (go_on : Machine → Machine) → TryFetches m t → ((y : Machine) → Fetches y (go_on y)) → Fetches m (after_try t go_on)
after_fetches m (misses y) go_on one on = one
after_fetches m (appends y) go_on one on = fetches_on m y (go_on y) one (on y)
after_fetches m (turns y) go_on one on = one

pub one_fetch : (s : Setup) (m : Machine) → Fetches m (after_try (fetch_try s m) (λ behind. behind))
one_fetch s m = after_fetches m (fetch_try s m) (λ behind. behind) (try_fetches s m) fetches_none

pub all_fetches : (s : Setup) (more : ℕ) (m : Machine) → Fetches m (fetches s more m)
unfolding fetches
all_fetches s zero m = fetches_none m
all_fetches s (suc more) m =
    cond_both (may_fetch s m) (after_try (fetch_try s m) (λ behind. fetches s more behind)) m (Fetches m)
    (λ may. after_fetches m (fetch_try s m) (λ behind. fetches s more behind) (try_fetches s m) (all_fetches s more)) (λ off. fetches_none m)
