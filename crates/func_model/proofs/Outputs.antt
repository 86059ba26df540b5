-- How long the output is along a path: ahead by execution, and back by undo steps.
use Rattle.std.proofs.Common.{◌≡◌, ◌<◌, ℕ, zero, suc, ◌+◌, ◌-◌, ◌≤◌, min, nat_le, if◌then◌else◌, Bool, true, false, Option, Some, None, List, [], ◌∷◌, ◌++◌, length, refl, ap, sym, ◌∙◌, subst, arith, inl, inr, length-append, length-take, take}
use Rattle.std.specs.Prelude.{filter}
use Rattle.std.proofs.lemmas.List.{take_all, take-take}
use Rattle.std.proofs.lemmas.Bool.{le-leb, lt-leb, cond-true, cond-false, cases_lt}
use Rattle.fsim_base.specs.declared.access.RamRange.{RamRange}
use Rattle.fsim_base.specs.declared.cause.Cause.{Cause}
use Rattle.elf_image.specs.Load.{is_executable}
use Rattle.device_bus.specs.declared.undo.Note.{Note}
use Rattle.device_bus.specs.declared.undo.Note.TheVariants as note
use Rattle.rollback_cmds.specs.declared.order.Order.{Order}
use Rattle.undo_journal.specs.declared.past.Past.{Past}
use Rattle.undo_journal.specs.Journal.{from_number}
use Rattle.phys_mem.specs.Ram.{exec_of, range_of}
use Rattle.mono_model.specs.declared.setup.Setup.{Setup}
use Rattle.mono_model.specs.Setup.{ram_range}
use Rattle.mono_model.specs.Arch.{Arch, trapped}
use Rattle.mono_model.specs.Found.{Found, found_at}
use Rattle.mono_model.specs.Result.{Result}
use Rattle.mono_model.specs.Effect.{effect, effect_by, retired, note_of, with_note}
use Rattle.mono_model.specs.Sequence.{seq, found_next, result_at}
use Rattle.mono_model.specs.Path.{path, time_of, GoesOn}
use Rattle.func_model.specs.declared.walk.Walk.{Walk}
use Rattle.func_model.specs.Hart.{arch_of, found_by}
use Rattle.func_model.specs.Contents.{output_in}
use Rattle.func_model.specs.Undo.{undone, shortened}
use Rattle.func_model.specs.Walk.{LeadsBack, WalkStandsFor, given_at, seq_by, ahead, bytes_sent, bytes_before}
use Rattle.mono_model.proofs.Path.{path_next, goes_on_after}
use Rattle.func_model.proofs.Leading.{leads_from, length_from}

-- one instruction sends one byte at most
pub record OneMore (before after : List ℕ) : Type 0 where
  pub least : length before ≤ length after
  pub most : length after ≤ length before + 1

with_note_more : (what : Note) (output : List ℕ) → OneMore output (with_note what output)
with_note_more note.Nothing output = record { least = omega arith; most = omega arith }
with_note_more (note.Out byte) output =
    let e : length (output ++ byte ∷ []) ≡ length output + 1 = length-append output (byte ∷ []) in
    record { least = omega arith; most = omega arith }
with_note_more (note.End halt) output = record { least = omega arith; most = omega arith }

effect_more : (cause : Option Cause) (found : Found) (r : Result) (time : Option ℕ) (addr : ℕ) (a : Arch) → OneMore a.output (effect_by cause found r time addr a).output
unfolding retired trapped
effect_more None found r time addr a = with_note_more (note_of r a) a.output
effect_more (Some cause) found r time addr a = record { least = omega arith; most = omega arith }

pub seq_more : (s : Setup) (time : Option ℕ) (a : Arch) → OneMore a.output (seq s time a).output
unfolding seq effect
seq_more s time a = effect_more (result_at s time a).cause (found_next s a) (result_at s time a) time a.pc a

-- the output never gets shorter where the path goes on
outputs_after : (s : Setup) (os : List Order) (n d : ℕ) → GoesOn os n → length (path s os n).output ≤ length (path s os (n + d)).output
outputs_after s os n zero on = let e : n ≡ n + zero = omega arith in subst (λ (k : ℕ). length (path s os n).output ≤ length (path s os k).output) e (omega arith)
outputs_after s os n (suc d) on =
    let e : suc (n + d) ≡ n + suc d = omega arith in
    let next : path s os (suc (n + d)) ≡ seq s (time_of os (n + d)) (path s os (n + d)) = path_next s os (n + d) (goes_on_after os n (n + d) (omega arith) on) in
    let more : length (path s os (n + d)).output ≤ length (path s os (suc (n + d))).output =
    subst (λ (a : Arch). length (path s os (n + d)).output ≤ length a.output) (sym next) (seq_more s (time_of os (n + d)) (path s os (n + d))).least in
    let within : length (path s os n).output ≤ length (path s os (suc (n + d))).output = omega (arith, outputs_after s os n d on) in
    subst (λ (k : ℕ). length (path s os n).output ≤ length (path s os k).output) e within

pub outputs_on : (s : Setup) (os : List Order) (n k : ℕ) → GoesOn os n → n ≤ k → length (path s os n).output ≤ length (path s os k).output
outputs_on s os n k on later =
    let e : n + (k - n) ≡ k = omega arith in
    subst (λ (j : ℕ). length (path s os n).output ≤ length (path s os j).output) e (outputs_after s os n (k - n) on)

-- one undo step takes back one byte, or none
length_back : (b : Bool) (output : List ℕ) → length (if b then shortened output else output) ≡ length output - (if b then 1 else 0)
length_back true output = length-take (length output - 1) output ∙ omega arith
length_back false output = omega arith

undone_length : (range : RamRange) (past : Past) (a : Arch) → length (undone range past a).output ≡ length a.output - (if past.out then 1 else 0)
unfolding undone
undone_length range past a = length_back past.out a.output

-- what it leaves is the front of the output
taken_by : (b : Bool) (output : List ℕ) → (if b then shortened output else output) ≡ take (length (if b then shortened output else output)) output
taken_by true output =
    let e : length (shortened output) ≡ length output - 1 = length-take (length output - 1) output ∙ omega arith in
    ap (λ (k : ℕ). take k output) (sym e)
taken_by false output = sym (take_all (length output) output (omega arith))

undone_taken : (range : RamRange) (past : Past) (a : Arch) → (undone range past a).output ≡ take (length (undone range past a).output) a.output
unfolding undone
undone_taken range past a = taken_by past.out a.output

undone_shorter : (range : RamRange) (past : Past) (a : Arch) → length (undone range past a).output ≤ length a.output
undone_shorter range past a = omega (arith, undone_length range past a)

sent_more : (b : Bool) (past : Past) (rest : List Past) → length (if b then past ∷ rest else rest) ≡ (if b then 1 else 0) + length rest
sent_more true past rest = omega arith
sent_more false past rest = omega arith

sent_most : (steps : List Past) → bytes_sent steps ≤ length steps
sent_most [] = omega arith
sent_most (past ∷ steps) = by_test past.out (sent_more past.out past (filter (λ (p : Past). p.out) steps)) (sent_most steps)
  where
    by_test : (b : Bool) {n m k : ℕ} → n ≡ (if b then 1 else 0) + m → m ≤ k → n ≤ suc k
    by_test true e within = omega arith
    by_test false e within = omega arith

module _ (range : RamRange) (at : ℕ → Arch) where
  -- the bytes that all steps take back
  outputs_all : (m : ℕ) (steps : List Past) → LeadsBack range at m steps → length (at m).output ≡ length (at (m + length steps)).output - bytes_sent steps
  outputs_all m [] leads = let e : m ≡ m + 0 = omega arith in subst (λ (k : ℕ). length (at m).output ≡ length (at k).output - 0) e (omega arith)
  outputs_all m (past ∷ steps) leads =
      let e : suc m + length steps ≡ m + length (past ∷ steps) = omega arith in
      let rest : length (at (suc m)).output ≡ length (at (suc m + length steps)).output - bytes_sent steps = outputs_all (suc m) steps leads.1 in
      let same : length (at (suc m + length steps)).output ≡ length (at (m + length (past ∷ steps))).output = ap (λ (k : ℕ). length (at k).output) e in
      let one : length (at m).output ≡ length (at (suc m)).output - (if past.out then 1 else 0) =
      ap (λ (a : Arch). length a.output) (sym leads.0.back) ∙ undone_length range past (at (suc m)) in
      let sent : bytes_sent (past ∷ steps) ≡ (if past.out then 1 else 0) + bytes_sent steps = sent_more past.out past (filter (λ (p : Past). p.out) steps) in
      omega arith

  -- the bytes that the steps from a number on take back
  pub outputs_back : (m n : ℕ) (steps : List Past) → LeadsBack range at m steps → m ≤ n → n ≤ m + length steps →
      length (at n).output ≡ length (at (m + length steps)).output - bytes_sent (from_number n steps)
  outputs_back m n steps leads from within =
      let e : n + length (from_number n steps) ≡ m + length steps = omega (arith, length_from range at m n steps leads from) in
      outputs_all n (from_number n steps) (leads_from range at m n steps leads from)
      ∙ ap (λ (k : ℕ). length (at k).output - bytes_sent (from_number n steps)) e

  -- they are the last ones of the output
  outputs_taken : (m : ℕ) (steps : List Past) → LeadsBack range at m steps → (at m).output ≡ take (length (at m).output) (at (m + length steps)).output
  outputs_taken m [] leads =
      let e : m ≡ m + 0 = omega arith in
      sym (take_all (length (at m).output) (at m).output (omega arith)) ∙ ap (λ (k : ℕ). take (length (at m).output) (at k).output) e
  outputs_taken m (past ∷ steps) leads =
      let e : suc m + length steps ≡ m + length (past ∷ steps) = omega arith in
      let next = (at (suc m)).output in
      let last = (at (suc m + length steps)).output in
      let fewer : length (at m).output ≤ length next =
      subst (λ (a : Arch). length a.output ≤ length next) leads.0.back (undone_shorter range past (at (suc m))) in
      let one : (at m).output ≡ take (length (at m).output) next =
      subst (λ (a : Arch). a.output ≡ take (length a.output) next) leads.0.back (undone_taken range past (at (suc m))) in
      one ∙ ap (λ (l : List ℕ). take (length (at m).output) l) (outputs_taken (suc m) steps leads.1)
      ∙ take-take (length (at m).output) (length next) last fewer
      ∙ ap (λ (k : ℕ). take (length (at m).output) (at k).output) e

  pub outputs_front : (m n : ℕ) (steps : List Past) → LeadsBack range at m steps → n ≡ m + length steps → (at m).output ≡ take (length (at n).output - bytes_sent steps) (at n).output
  outputs_front m n steps leads is =
      let e : length (at m).output ≡ length (at n).output - bytes_sent steps =
      outputs_all m steps leads ∙ ap (λ (k : ℕ). length (at k).output - bytes_sent steps) (sym is) in
      outputs_taken m steps leads ∙ ap (λ (k : ℕ). take (length (at m).output) (at k).output) (sym is) ∙ ap (λ (k : ℕ). take k (at n).output) e

  -- also where the path doesn't come so far, and nothing is to be taken back
  pub outputs_up_to : (m p : ℕ) (steps : List Past) → LeadsBack range at m steps → length steps ≡ p - m → (at (min m p)).output ≡ take (length (at p).output - bytes_sent steps) (at p).output
  outputs_up_to m p steps leads held = elim (cases_lt p m) [
    | inl beyond ↦
        let e : min m p ≡ p = omega arith in
        ap (λ (k : ℕ). (at k).output) e ∙ by_none steps (omega (arith, held))
    | inr within ↦
        let e : min m p ≡ m = omega arith in
        ap (λ (k : ℕ). (at k).output) e ∙ outputs_front m p steps leads (omega (arith, held))
  ]
    where
      by_none : (l : List Past) → length l ≡ 0 → (at p).output ≡ take (length (at p).output - bytes_sent l) (at p).output
      by_none [] none = sym (take_all (length (at p).output - 0) (at p).output (omega arith))
      by_none (past ∷ l) none = absurd (omega (arith, none))

  -- no more bytes than steps
  pub outputs_within : (m : ℕ) (steps : List Past) → LeadsBack range at m steps → length (at (m + length steps)).output ≤ length (at m).output + length steps
  outputs_within m steps leads = omega (arith, outputs_all m steps leads, sent_most steps)

-- execution by the addresses alone is the path's
pub seq_by_is : (s : Setup) (time : Option ℕ) (a : Arch) → seq s time a ≡ seq_by (ram_range s.params) (is_executable s.image) time a
unfolding seq seq_by result_at found_by found_at
seq_by_is s time a = refl

pub ahead_is : (s : Setup) (os : List Order) (n count : ℕ) (times : ℕ → Option ℕ) (a : Arch) → GoesOn os n → ((k : ℕ) → times k ≡ time_of os k) → a ≡ path s os n →
    ahead (ram_range s.params) (is_executable s.image) times n count a ≡ path s os (n + count)
unfolding ahead
ahead_is s os n zero times a on given here = let e : n ≡ n + zero = omega arith in here ∙ ap (path s os) e
ahead_is s os n (suc count) times a on given here =
    let e : suc (n + count) ≡ n + suc count = omega arith in
    let front = ahead (ram_range s.params) (is_executable s.image) times n count a in
    sym (seq_by_is s (times (n + count)) front)
    ∙ ap (λ (time : Option ℕ). seq s time front) (given (n + count))
    ∙ ap (λ (x : Arch). seq s (time_of os (n + count)) x) (ahead_is s os n count times a on given here)
    ∙ sym (path_next s os (n + count) (goes_on_after os n (n + count) (omega arith) on))
    ∙ ap (path s os) e

-- the output of a side is its state's
output_is : {D : Type 0} (walk : Walk D) (a : Arch) → arch_of walk.contents.hart walk.contents.bus ≡ a → output_in walk.contents ≡ a.output
unfolding arch_of
output_is walk a is = ap (λ (x : Arch). x.output) is

-- the bytes before an instruction are those of the path
pub bytes_before_is : {D : Type 0} (s : Setup) (os : List Order) (walk : Walk D) → WalkStandsFor s os walk → (n : ℕ) → (walk.position < n → walk.is_stopped ≡ false) → walk.committed ≤ n →
    bytes_before walk n ≡ length (path s os n).output
unfolding bytes_before
bytes_before_is {D} s os walk stands n running from = elim (cases_lt walk.position n) [
  | inl beyond ↦
      let h = stands.holds in
      let e : walk.position + (n - walk.position) ≡ n = omega arith in
      cond-false (nat_le n walk.position) back on (lt-leb n walk.position beyond)
      ∙ ap (λ (range : RamRange). length (ahead range (exec_of walk.contents.hart.memory) (given_at walk.given) walk.position (n - walk.position) (arch_of walk.contents.hart walk.contents.bus)).output) h.contents.range
      ∙ ap (λ (text : ℕ → Bool). length (ahead (ram_range s.params) text (given_at walk.given) walk.position (n - walk.position) (arch_of walk.contents.hart walk.contents.bus)).output) h.contents.exec
      ∙ ap (λ (a : Arch). length a.output)
      (ahead_is s os walk.position (n - walk.position) (given_at walk.given) (arch_of walk.contents.hart walk.contents.bus) (stands.on (running beyond)) h.given h.contents.arch ∙ ap (path s os) e)
  | inr within ↦
      let h = stands.holds in
      let e : walk.committed + length walk.journal.steps ≡ walk.position = omega (arith, h.held) in
      cond-true (nat_le n walk.position) back on (le-leb n walk.position within)
      ∙ ap (λ (output : List ℕ). length output - bytes_sent (from_number n walk.journal.steps)) (output_is walk (path s os walk.position) h.contents.arch)
      ∙ ap (λ (k : ℕ). length (path s os k).output - bytes_sent (from_number n walk.journal.steps)) (sym e)
      ∙ sym (outputs_back (ram_range s.params) (path s os) walk.committed n walk.journal.steps h.back from (omega arith))
]
  where
    back : ℕ
    back = length (output_in walk.contents) - bytes_sent (from_number n walk.journal.steps)

    on : ℕ
    on = length (ahead (range_of walk.contents.hart.memory) (exec_of walk.contents.hart.memory) (given_at walk.given) walk.position (n - walk.position) (arch_of walk.contents.hart walk.contents.bus)).output
