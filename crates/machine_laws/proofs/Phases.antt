-- What each phase of a cycle leaves of the cycle number, of how many records the window has, and of the output.
use Rattle.std.proofs.Common.{◌≡◌, ℕ, ◌+◌, ◌≤◌, ◌<◌, nat_lt, ◌==◌, if◌then◌else◌, true, false, Option, Some, None, List, [], ◌∷◌, length, refl, ap, sym, ◌∙◌, subst, arith, length-append, leb-false}
use Rattle.std.proofs.lemmas.Bool.{cond_both, cond-true}
use Rattle.fsim_base.specs.declared.cause.Cause.{Cause}
use Rattle.fsim_base.specs.Number.{wrap_sum}
use Rattle.device_bus.specs.declared.undo.Note.{Note}
use Rattle.device_bus.specs.declared.undo.Note.TheVariants as note
use Rattle.cache_timing.specs.Caches.{Served}
use Rattle.mono_model.specs.declared.setup.Setup.{Setup}
use Rattle.mono_model.specs.Arch.{Arch, trapped, synced}
use Rattle.mono_model.specs.Found.{Found}
use Rattle.mono_model.specs.Final.{end_of}
use Rattle.mono_model.specs.Result.{Result}
use Rattle.mono_model.specs.Effect.{effect, effect_by, retired, note_of, with_note}
use Rattle.mono_model.specs.Alone.{has_no_room}
use Rattle.mono_model.specs.Window.{Record, done}
use Rattle.mono_model.specs.Machine.{Machine, flushed}
use Rattle.mono_model.specs.Interrupt.{is_interrupted, take_interrupt, interrupt_phase}
use Rattle.mono_model.specs.Commit.{committed, faulted, fenced, leaving, Ending, plain, trap, sync, Committed, ended_with, commits, commit_phase}
use Rattle.mono_model.specs.Complete.{Completed, due, is_mispredicted, complete_next, completes, completed_by, complete_phase}
use Rattle.mono_model.specs.Issue.{Passed, none_passed, turn_of, passed, walk, wants_time, replayed, issued, issue_phase}
use Rattle.mono_model.specs.Fetch.{Try, misses, appends, turns, cache_read, missed, appended, new_record, predicted_next, tried, fetch_try}
use Rattle.mono_model.proofs.Commits.{GoesOn, leaving_case, every_commit}
use Rattle.machine_laws.specs.Output.{GrowsTo}
use Rattle.machine_laws.proofs.Growing.{grows_none, grows_on, effect_grows}

-- The interrupt.
pub interrupt_cycle : (m : Machine) → (interrupt_phase m).cycle ≡ m.cycle
unfolding interrupt_phase flushed
interrupt_cycle m = cond_both (is_interrupted m) (take_interrupt m) m (λ x. x.cycle ≡ m.cycle) (λ e. refl) (λ e. refl)

pub interrupt_window : (m : Machine) → length (interrupt_phase m).window ≤ length m.window
unfolding interrupt_phase flushed
interrupt_window m = cond_both (is_interrupted m) (take_interrupt m) m (λ x. length x.window ≤ length m.window) (λ e. omega arith) (λ e. omega arith)

pub interrupt_flushes : (m : Machine) → is_interrupted m ≡ true → length (interrupt_phase m).window ≡ 0
unfolding interrupt_phase flushed
interrupt_flushes m is = ap (λ (x : Machine). length x.window) (cond-true (is_interrupted m) (take_interrupt m) m is)

pub interrupt_output : (m : Machine) → (interrupt_phase m).arch.output ≡ m.arch.output
unfolding interrupt_phase flushed trapped
interrupt_output m = cond_both (is_interrupted m) (take_interrupt m) m (λ x. x.arch.output ≡ m.arch.output) (λ e. refl) (λ e. refl)

-- What the oldest record leaves as it goes.
pub record GoneFrom (s : Setup) (m behind : Machine) : Type 0 where
  pub cycle : behind.cycle ≡ m.cycle
  pub window : length behind.window < length m.window
  pub output : length m.arch.output ≤ s.output → length behind.arch.output ≤ s.output
  pub grows : GrowsTo m.arch.output behind.arch.output

-- an instruction that has room for its byte keeps the output within its limit
with_note_room : (s : Setup) (what : Note) (a : Arch) → has_no_room s what a ≡ false → length a.output ≤ s.output → length (with_note what a.output) ≤ s.output
with_note_room s note.Nothing a room within = within
with_note_room s (note.Out byte) a room within = omega (arith, length-append a.output (byte ∷ []), leb-false s.output (length a.output) room)
with_note_room s (note.End halt) a room within = within

effect_room : (s : Setup) (cause : Option Cause) (found : Found) (r : Result) (time : Option ℕ) (addr : ℕ) (a : Arch) → cause ≡ None → has_no_room s (note_of r a) a ≡ false → length a.output ≤ s.output →
    length (effect_by cause found r time addr a).output ≤ s.output
unfolding retired
effect_room s None found r time addr a is room within = with_note_room s (note_of r a) a room within
effect_room s (Some cause) found r time addr a is room within = cc

fault_output : (cause : Option Cause) (why : Cause) (found : Found) (r : Result) (time : Option ℕ) (addr : ℕ) (a : Arch) → cause ≡ Some why → (effect_by cause found r time addr a).output ≡ a.output
unfolding trapped
fault_output None why found r time addr a is = cc
fault_output (Some cause) why found r time addr a is = refl

-- one record less
shorter : (w rest : List Record) (rec : Record) → w ≡ rec ∷ rest → length rest < length w
shorter w rest rec is = omega (arith, ap (λ (x : List Record). length x) is)

committed_gone : (s : Setup) (rec : Record) (rest : List Record) (r : Result) (m : Machine) → m.window ≡ rec ∷ rest → r.cause ≡ None → has_no_room s (note_of r m.arch) m.arch ≡ false →
    GoneFrom s m (committed s rec rest r m)
unfolding effect
committed_gone s rec rest r m is none room = record {
  cycle = refl;
  window = shorter m.window rest rec is;
  output = effect_room s r.cause rec.found r rec.time rec.addr m.arch none room;
  grows = effect_grows rec.found r rec.time rec.addr m.arch;
}

faulted_gone : (s : Setup) (rec : Record) (rest : List Record) (r : Result) (why : Cause) (m : Machine) → m.window ≡ rec ∷ rest → r.cause ≡ Some why → GoneFrom s m (faulted rec rest r m)
unfolding effect flushed
faulted_gone s rec rest r why m is some = record {
  cycle = refl;
  window = omega (arith, shorter m.window rest rec is);
  output = λ within. subst (λ (x : List ℕ). length x ≤ s.output) (sym (fault_output r.cause why rec.found r rec.time rec.addr m.arch some)) within;
  grows = effect_grows rec.found r rec.time rec.addr m.arch;
}

fenced_gone : (s : Setup) (m behind : Machine) → GoneFrom s m behind → GoneFrom s m (fenced s behind)
unfolding flushed synced
fenced_gone s m behind gone = record { cycle = gone.cycle; window = omega (arith, gone.window); output = gone.output; grows = gone.grows }

faulted_empty : (rec : Record) (rest : List Record) (r : Result) (m : Machine) → length (faulted rec rest r m).window ≡ 0
unfolding flushed
faulted_empty rec rest r m = refl

fenced_empty : (s : Setup) (m : Machine) → length (fenced s m).window ≡ 0
unfolding flushed
fenced_empty s m = refl

-- What the phase of commit leaves.
abbrev pub EndingLeft : Ending → ℕ → List Record → Type 0
EndingLeft plain left w = Unit {0}
EndingLeft trap left w = (0 < left) × (length w ≡ 0)
EndingLeft sync left w = (0 < left) × (length w ≡ 0)

pub record CommittedFrom (s : Setup) (m : Machine) (c : Committed) : Type 0 where
  pub cycle : c.machine.cycle ≡ m.cycle
  pub window : c.left + length c.machine.window ≤ length m.window
  pub output : length m.arch.output ≤ s.output → length c.machine.arch.output ≤ s.output
  pub grows : GrowsTo m.arch.output c.machine.arch.output
  pub ending : EndingLeft c.ending c.left c.machine.window

gone_on : (s : Setup) (m between behind : Machine) (left : ℕ) (ending : Ending) → CommittedFrom s m (ended_with between left plain) → GoneFrom s between behind →
    EndingLeft ending (left + 1) behind.window → CommittedFrom s m (ended_with behind (left + 1) ending)
gone_on s m between behind left ending on gone empty = record {
  cycle = gone.cycle ∙ on.cycle;
  window = omega (arith, on.window, gone.window);
  output = λ within. gone.output (on.output within);
  grows = grows_on m.arch.output between.arch.output behind.arch.output on.grows gone.grows;
  ending = empty;
}

-- the same, record by record
abbrev IsOn : Setup → Machine → ℕ → Machine → Type 0
IsOn s m left between = CommittedFrom s m (ended_with between left plain)

one_from : (s : Setup) (m between : Machine) (left : ℕ) → IsOn s m left between → GoesOn (IsOn s m) (CommittedFrom s m) left between (leaving s between)
one_from s m between left on =
    leaving_case s between (GoesOn (IsOn s m) (CommittedFrom s m) left between) on (λ rec rest r is.
    let behind = committed s rec rest r between in
    record {
      if_faults = λ cause why.
          gone_on s m between (faulted rec rest r between) left trap on (faulted_gone s rec rest r cause between is.window why) (omega arith, faulted_empty rec rest r between);
      if_full = λ none room. record { cycle = on.cycle; window = on.window; output = on.output; grows = on.grows; ending = tt };
      if_ends = λ halt passes.
          let gone = committed_gone s rec rest r between is.window passes.cause passes.room in
          gone_on s m between (record behind { end = end_of halt }) left plain on (record { cycle = gone.cycle; window = gone.window; output = gone.output; grows = gone.grows }) tt;
      if_syncs = λ passes fence. gone_on s m between (fenced s behind) left sync on (fenced_gone s between behind (committed_gone s rec rest r between is.window passes.cause passes.room)) (omega arith, fenced_empty s behind);
      if_leaves = λ passes fence. gone_on s m between behind left plain on (committed_gone s rec rest r between is.window passes.cause passes.room) tt;
    })

-- where at most so many records leave
pub commits_from : (s : Setup) (most : ℕ) (m : Machine) → CommittedFrom s m (commits s most 0 m)
commits_from s most m =
    every_commit s (λ more. IsOn s m) (CommittedFrom s m) (λ left between on. on) (λ more left between on. one_from s m between left on)
    most 0 m (record { cycle = refl; window = omega arith; output = λ within. within; grows = grows_none m.arch.output; ending = tt })

pub commit_from : (s : Setup) (m : Machine) → CommittedFrom s m (commit_phase s m)
unfolding commit_phase
commit_from s m = commits_from s s.params.core_commit m

-- Complete: records stay, and where fetch has to go on elsewhere, the mispredicted one is among them.
pub record CompletedFrom (w : List Record) (c : Completed) : Type 0 where
  pub window : length c.records ≤ length w
  pub redirect : (addr : ℕ) → c.redirect ≡ Some addr → 0 < length c.records
  pub kept : c.redirect ≡ None → length c.records ≡ length w

next_from : (rec : Record) (over : Option Result) (w : List Record) (c : Completed) → CompletedFrom w c → CompletedFrom (rec ∷ w) (complete_next rec over c)
next_from rec None w c from = record { window = omega (arith, from.window); redirect = λ addr is. omega arith; kept = λ is. omega (arith, from.kept is) }
next_from rec (Some r) w c from =
    cond_both (is_mispredicted rec r) (record { records = record rec { stage = done r } ∷ []; redirect = Some r.next })
    (record c { records = record rec { stage = done r } ∷ c.records }) (CompletedFrom (rec ∷ w))
    (λ b. record { window = omega arith; redirect = λ addr is. omega arith; kept = λ is. cc })
    (λ b. record { window = omega (arith, from.window); redirect = λ addr is. omega arith; kept = λ is. omega (arith, from.kept is) })

pub completes_from : (cycle : ℕ) (w : List Record) → CompletedFrom w (completes cycle w)
unfolding completes
completes_from cycle [] = record { window = omega arith; redirect = λ addr is. cc; kept = λ is. refl }
completes_from cycle (rec ∷ rest) = next_from rec (due cycle rec.stage) rest (completes cycle rest) (completes_from cycle rest)

pub by_window : (redirect : Option ℕ) (records : List Record) (m : Machine) → (completed_by redirect records m).window ≡ records
unfolding flushed
by_window None records m = refl
by_window (Some addr) records m = refl

pub complete_window : (m : Machine) → (complete_phase m).window ≡ (completes m.cycle m.window).records
unfolding complete_phase
complete_window m = let c = completes m.cycle m.window in by_window c.redirect c.records m

-- what a phase behind commit leaves: the cycle number, the committed state, and no more records
pub record Kept (m behind : Machine) : Type 0 where
  pub cycle : behind.cycle ≡ m.cycle
  pub arch : behind.arch ≡ m.arch
  pub window : length behind.window ≤ length m.window

pub by_kept : (redirect : Option ℕ) (records : List Record) (m : Machine) → length records ≤ length m.window → Kept m (completed_by redirect records m)
unfolding flushed
by_kept None records m fewer = record { cycle = refl; arch = refl; window = fewer }
by_kept (Some addr) records m fewer = record { cycle = refl; arch = refl; window = fewer }

pub complete_kept : (m : Machine) → Kept m (complete_phase m)
unfolding complete_phase
complete_kept m = let c = completes m.cycle m.window in by_kept c.redirect c.records m (completes_from m.cycle m.window).window

-- Issue.
pub walk_length : (s : Setup) (m : Machine) (p : Passed) (rest : List Record) → length (walk s m p rest).records ≡ length rest
unfolding walk
walk_length s m p [] = refl
walk_length s m p (rec ∷ rest) =
    let t = turn_of s m p rec rest in
    let same : length (walk s m (passed t p.older) rest).records ≡ length rest = walk_length s m (passed t p.older) rest in
    omega arith

pub issue_kept : (s : Setup) (m : Machine) → Kept m (issue_phase s m)
unfolding issue_phase flushed
issue_kept s m =
    cond_both (wants_time s m) (replayed m) (issued s m) (Kept m)
    (λ e. record { cycle = refl; arch = refl; window = omega arith })
    (λ e. record { cycle = refl; arch = refl; window = omega (arith, walk_length s m (none_passed m) m.window) })

pub replay_flushes : (s : Setup) (m : Machine) → wants_time s m ≡ true → length (issue_phase s m).window ≡ 0
unfolding issue_phase flushed
replay_flushes s m is = ap (λ (x : Machine). length x.window) (cond-true (wants_time s m) (replayed m) (issued s m) is)

-- A try of fetch appends one record at most.
pub record OneMore (m behind : Machine) : Type 0 where
  pub cycle : behind.cycle ≡ m.cycle
  pub arch : behind.arch ≡ m.arch
  pub window : length behind.window ≡ length m.window + 1

abbrev pub Tries : Machine → Try → Type 0
Tries m (misses behind) = Kept m behind
Tries m (appends behind) = OneMore m behind
Tries m (turns behind) = OneMore m behind

tried_tries : (s : Setup) (d : Served) (m : Machine) → Tries m (tried s d m)
tried_tries s d m =
    cond_both (nat_lt 0 d.cycles) (misses (missed d.cycles d.state m))
    (if predicted_next s m == wrap_sum m.fetch_addr 4 then appends (appended s d.state m) else turns (appended s d.state m)) (Tries m)
    (λ e. record { cycle = refl; arch = refl; window = omega arith })
    (λ e. cond_both (predicted_next s m == wrap_sum m.fetch_addr 4) (appends (appended s d.state m)) (turns (appended s d.state m)) (Tries m)
    (λ f. more) (λ f. more))
  where
    more : OneMore m (appended s d.state m)
    more = record { cycle = refl; arch = refl; window = omega (arith, length-append m.window (new_record s m ∷ [])) }

pub try_tries : (s : Setup) (m : Machine) → Tries m (fetch_try s m)
unfolding fetch_try
try_tries s m = tried_tries s (cache_read s m) m
