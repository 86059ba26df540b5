-- The order of stages through each phase.
use Rattle.std.proofs.Common.{◌≡◌, ℕ, zero, suc, ◌+◌, ◌≤◌, ◌<◌, ◌==◌, Bool, true, false, if◌then◌else◌, is_none, Option, Some, None, List, [], ◌∷◌, ◌++◌, length, refl, ap, sym, ◌∙◌, subst, arith}
use Rattle.std.proofs.lemmas.Bool.{cond_both}
use Rattle.mono_model.specs.declared.setup.Setup.{Setup}
use Rattle.mono_model.specs.Result.{Result}
use Rattle.mono_model.specs.Window.{Record, Stage, waiting, until, done, is_done_stage, is_waiting_stage, waiting_count}
use Rattle.mono_model.specs.Complete.{Completed, due, is_mispredicted, in_front, complete_next, completes}
use Rattle.inorder_machine.specs.InorderMachine.{InorderMachine, Executing, execute_by, in_execute, done_count}
use Rattle.inorder_machine.specs.Issue.{may_issue, begun, issue_of, issue_from}
use Rattle.inorder_laws.specs.Stages.{AreInDecode, StageBy, AreStaged}
use Rattle.inorder_laws.proofs.Issuing.{issues_all}

-- with one more allowed
decode_length : (w : List Record) → AreInDecode w → length w ≤ 1
decode_length [] are = omega arith
decode_length (rec ∷ rest) are = omega (arith, ap (λ (l : List Record). length l) are.1)

pub more_staged : (n : ℕ) (w : List Record) → AreStaged n w → AreStaged (suc n) w
more_staged n [] are = tt
more_staged n (rec ∷ rest) are = by_stage n rec.stage are (λ k. more_staged k rest)
  where
    by_stage : (n : ℕ) (stage : Stage) → StageBy n stage rest (λ k. AreStaged k rest) → ((k : ℕ) → AreStaged k rest → AreStaged (suc k) rest) →
        StageBy (suc n) stage rest (λ k. AreStaged k rest)
    by_stage n waiting is on = is
    by_stage n (until e r) is on = is
    by_stage zero (done r) is on = absurd is
    by_stage (suc n) (done r) is on = on n is

pub staged_length : (n : ℕ) (w : List Record) → AreStaged n w → length w ≤ n + 2
staged_length n [] are = omega arith
staged_length n (rec ∷ rest) are = by_stage n rec.stage are (λ k. staged_length k rest)
  where
    by_stage : (n : ℕ) (stage : Stage) → StageBy n stage rest (λ k. AreStaged k rest) → ((k : ℕ) → AreStaged k rest → length rest ≤ k + 2) → length (rec ∷ rest) ≤ n + 2
    by_stage n waiting is on = omega (arith, ap (λ (l : List Record). length l) is)
    by_stage n (until e r) is on = omega (arith, decode_length rest is)
    by_stage zero (done r) is on = absurd is
    by_stage (suc n) (done r) is on = omega (arith, on n is)

-- nothing is done behind a record that isn't
not_done : (stage : Stage) (count : ℕ) → stage ≡ waiting → count ≡ 0 → (if is_done_stage stage then 1 else 0) + count ≡ 0
not_done waiting count is none = omega arith
not_done (until e r) count is none = cc
not_done (done r) count is none = cc

decode_done : (w : List Record) → AreInDecode w → done_count w ≡ 0
decode_done [] are = refl
decode_done (rec ∷ rest) are =
    not_done rec.stage (done_count rest) are.0 (ap (λ (l : List Record). done_count l) are.1)

-- fewer are allowed where fewer are done
pub fewer_staged : (n k : ℕ) (w : List Record) → AreStaged n w → done_count w ≤ k → AreStaged k w
fewer_staged n k [] are within = tt
fewer_staged n k (rec ∷ rest) are within = by_stage n k rec.stage are within (λ i j. fewer_staged i j rest)
  where
    by_stage : (n k : ℕ) (stage : Stage) → StageBy n stage rest (λ j. AreStaged j rest) → (if is_done_stage stage then 1 else 0) + done_count rest ≤ k →
        ((i j : ℕ) → AreStaged i rest → done_count rest ≤ j → AreStaged j rest) → StageBy k stage rest (λ j. AreStaged j rest)
    by_stage n k waiting is within on = is
    by_stage n k (until e r) is within on = is
    by_stage zero k (done r) is within on = absurd is
    by_stage (suc n) zero (done r) is within on = absurd (omega arith)
    by_stage (suc n) (suc k) (done r) is within on = on n k is (omega arith)

-- where some are done, the oldest is
pub oldest_done : (n : ℕ) (rec : Record) (rest : List Record) → AreStaged n (rec ∷ rest) → 0 < done_count (rec ∷ rest) → is_done_stage rec.stage ≡ true
oldest_done n rec rest are some = by_stage n rec.stage are some
  where
    by_stage : (n : ℕ) (stage : Stage) → StageBy n stage rest (λ j. AreStaged j rest) → 0 < (if is_done_stage stage then 1 else 0) + done_count rest → is_done_stage stage ≡ true
    by_stage n waiting is some = absurd (omega (arith, ap (λ (l : List Record). done_count l) is))
    by_stage n (until e r) is some = absurd (omega (arith, decode_done rest is))
    by_stage n (done r) is some = refl

-- the others, where the oldest is done
pub rest_staged : (n : ℕ) (rec : Record) (rest : List Record) (r : Result) → rec.stage ≡ done r → AreStaged (suc n) (rec ∷ rest) → AreStaged n rest
rest_staged n rec rest r is are = subst (λ (stage : Stage). StageBy (suc n) stage rest (λ j. AreStaged j rest)) is are

-- Execute: one more may be done.
decode_completes : (cycle : ℕ) (w : List Record) → AreInDecode w → completes cycle w ≡ record { records = w; redirect = None }
unfolding completes
decode_completes cycle [] are = refl
decode_completes cycle (rec ∷ rest) are =
    ap (λ (stage : Stage). complete_next rec (due cycle stage) (completes cycle rest)) are.0
    ∙ ap (λ (l : List Record). in_front rec (completes cycle l)) are.1 ∙ sym (ap (λ (l : List Record). record { records = rec ∷ l; redirect = None }) are.1)

-- those in Decode, whatever is allowed before them
in_decode : (n : ℕ) (w : List Record) → AreInDecode w → AreStaged n w
in_decode n [] are = tt
in_decode n (rec ∷ rest) are = subst (λ (x : Stage). StageBy n x rest (λ j. AreStaged j rest)) (sym are.0) are.1

until_staged : (n e cycle : ℕ) (rec : Record) (r : Result) (rest : List Record) → rec.stage ≡ until e r → AreInDecode rest →
    AreStaged (suc n) (complete_next rec (due cycle (until e r)) (record { records = rest; redirect = None })).records
until_staged n e cycle rec r rest at are = by_test (e == cycle)
  where
    by_test : (b : Bool) → AreStaged (suc n) (complete_next rec (if b then Some r else None) (record { records = rest; redirect = None })).records
    by_test true =
        let wrong : Completed = record { records = record rec { stage = done r } ∷ []; redirect = Some r.next } in
        let right : Completed = record { records = record rec { stage = done r } ∷ rest; redirect = None } in
        cond_both (is_mispredicted rec r) wrong right (λ c. AreStaged (suc n) c.records) (λ is. tt) (λ is. in_decode n rest are)
    by_test false = subst (λ (x : Stage). StageBy (suc n) x rest (λ j. AreStaged j rest)) (sym at) are

pub completes_staged : (n cycle : ℕ) (w : List Record) → AreStaged n w → AreStaged (suc n) (completes cycle w).records
unfolding completes
completes_staged n cycle [] are = tt
completes_staged n cycle (rec ∷ rest) are = by_stage n rec.stage refl are (λ k. completes_staged k cycle rest)
  where
    by_stage : (n : ℕ) (stage : Stage) → rec.stage ≡ stage → StageBy n stage rest (λ j. AreStaged j rest) →
        ((k : ℕ) → AreStaged k rest → AreStaged (suc k) (completes cycle rest).records) →
        AreStaged (suc n) (complete_next rec (due cycle stage) (completes cycle rest)).records
    by_stage n waiting at is on =
        subst (λ (x : Stage). StageBy (suc n) x (completes cycle rest).records (λ j. AreStaged j (completes cycle rest).records)) (sym at)
        (ap (λ (l : List Record). (completes cycle l).records) is)
    by_stage n (until e r) at is on =
        subst (λ (c : Completed). AreStaged (suc n) (complete_next rec (due cycle (until e r)) c).records) (sym (decode_completes cycle rest is))
        (until_staged n e cycle rec r rest at is)
    by_stage zero (done r) at is on = absurd is
    by_stage (suc n) (done r) at is on =
        subst (λ (x : Stage). StageBy (suc (suc n)) x (completes cycle rest).records (λ j. AreStaged j (completes cycle rest).records)) (sym at) (on n is)

-- Issue: the record in Decode goes on where none is in Execute.
waits_on : (s : Setup) (l : InorderMachine) (older : List Record) (rec : Record) (x : Executing) → in_execute older ≡ Some x → issue_of s l older rec ≡ rec
unfolding issue_of
waits_on s l older rec x full =
    let off : is_none (in_execute older) ≡ false = ap (λ (o : Option Executing). is_none o) full in
    cond_both (may_issue s l older rec) (begun s l older rec) rec (λ r. r ≡ rec)
    (λ may. let e : true ≡ false = sym (issues_all s l older rec may).free ∙ off in absurd (cc)) (λ not. refl)

decode_issue : (s : Setup) (l : InorderMachine) (older : List Record) (x : Executing) (w : List Record) → in_execute older ≡ Some x → AreInDecode w → issue_from s l older w ≡ w
unfolding issue_from
decode_issue s l older x [] full are = refl
decode_issue s l older x (rec ∷ []) full are = ap (λ (r : Record). r ∷ []) (waits_on s l older rec x full)
decode_issue s l older x (rec ∷ next ∷ rest) full are = absurd (omega (arith, ap (λ (l : List Record). length l) are.1))

alone_staged : (s : Setup) (l : InorderMachine) (n : ℕ) (older : List Record) (rec : Record) → AreStaged n (rec ∷ []) → AreStaged n (issue_of s l older rec ∷ [])
unfolding issue_of
alone_staged s l n older rec are =
    cond_both (may_issue s l older rec) (begun s l older rec) rec (λ r. AreStaged n (r ∷ [])) (λ may. tt) (λ not. are)

pub issue_staged : (s : Setup) (l : InorderMachine) (n : ℕ) (older w : List Record) → AreStaged n w → AreStaged n (issue_from s l older w)
unfolding issue_from
issue_staged s l n older [] are = tt
issue_staged s l n older (rec ∷ []) are = alone_staged s l n older rec are
issue_staged s l n older (rec ∷ next ∷ rest) are = by_stage n rec.stage refl are (λ k. issue_staged s l k (rec ∷ older) (next ∷ rest))
  where
    by_stage : (n : ℕ) (stage : Stage) → rec.stage ≡ stage → StageBy n stage (next ∷ rest) (λ j. AreStaged j (next ∷ rest)) →
        ((k : ℕ) → AreStaged k (next ∷ rest) → AreStaged k (issue_from s l (rec ∷ older) (next ∷ rest))) →
        AreStaged n (rec ∷ issue_from s l (rec ∷ older) (next ∷ rest))
    by_stage n waiting at is on = absurd (omega (arith, ap (λ (l : List Record). length l) is))
    by_stage n (until e r) at is on =
        let x : Executing = record { instruction = rec; from = e; result = r } in
        let full : in_execute (rec ∷ older) ≡ Some x = ap (λ (stage : Stage). execute_by rec stage (in_execute older)) at in
        subst (λ (w : List Record). AreStaged n (rec ∷ w)) (sym (decode_issue s l (rec ∷ older) x (next ∷ rest) full is))
        (subst (λ (stage : Stage). StageBy n stage (next ∷ rest) (λ j. AreStaged j (next ∷ rest))) (sym at) is)
    by_stage zero (done r) at is on = absurd is
    by_stage (suc n) (done r) at is on =
        subst (λ (x : Stage). StageBy (suc n) x (issue_from s l (rec ∷ older) (next ∷ rest)) (λ j. AreStaged j (issue_from s l (rec ∷ older) (next ∷ rest)))) (sym at) (on n is)

-- Fetch: the record fetched goes to Decode, where that is empty.
none_waits : (stage : Stage) (count : ℕ) → (if is_waiting_stage stage then 1 else 0) + count ≡ 0 → (stage ≡ waiting → ⊥) × (count ≡ 0)
none_waits waiting count none = absurd (omega arith)
none_waits (until e r) count none = (λ is. cc, omega arith)
none_waits (done r) count none = (λ is. cc, omega arith)

decode_empty : (w : List Record) → AreInDecode w → waiting_count w ≡ 0 → w ≡ []
decode_empty [] are none = refl
decode_empty (rec ∷ rest) are none = absurd ((none_waits rec.stage (waiting_count rest) none).0 are.0)

pub fetch_staged : (n : ℕ) (w : List Record) (rec : Record) → rec.stage ≡ waiting → AreStaged n w → waiting_count w ≡ 0 → AreStaged n (w ++ rec ∷ [])
fetch_staged n [] rec new are none = subst (λ (x : Stage). StageBy n x [] (λ j. AreStaged j [])) (sym new) refl
fetch_staged n (old ∷ rest) rec new are none = by_stage n old.stage refl are none (λ k. fetch_staged k rest rec new)
  where
    by_stage : (n : ℕ) (stage : Stage) → old.stage ≡ stage → StageBy n stage rest (λ j. AreStaged j rest) → (if is_waiting_stage stage then 1 else 0) + waiting_count rest ≡ 0 →
        ((k : ℕ) → AreStaged k rest → waiting_count rest ≡ 0 → AreStaged k (rest ++ rec ∷ [])) → AreStaged n (old ∷ rest ++ rec ∷ [])
    by_stage n waiting at is none on = absurd (omega arith)
    by_stage n (until e r) at is none on =
        let empty : rest ≡ [] = decode_empty rest is (none_waits (until e r) (waiting_count rest) none).1 in
        subst (λ (x : Stage). StageBy n x (rest ++ rec ∷ []) (λ j. AreStaged j (rest ++ rec ∷ []))) (sym at)
        (subst (λ (l : List Record). AreInDecode (l ++ rec ∷ [])) (sym empty) (new, refl))
    by_stage zero (done r) at is none on = absurd is
    by_stage (suc n) (done r) at is none on =
        subst (λ (x : Stage). StageBy (suc n) x (rest ++ rec ∷ []) (λ j. AreStaged j (rest ++ rec ∷ []))) (sym at)
        (on n is (none_waits (done r) (waiting_count rest) none).1)

-- with Decode empty there are fewer
pub empty_length : (n : ℕ) (w : List Record) → AreStaged n w → waiting_count w ≡ 0 → length w ≤ n + 1
empty_length n [] are none = omega arith
empty_length n (rec ∷ rest) are none = by_stage n rec.stage are none (λ k. empty_length k rest)
  where
    by_stage : (n : ℕ) (stage : Stage) → StageBy n stage rest (λ k. AreStaged k rest) → (if is_waiting_stage stage then 1 else 0) + waiting_count rest ≡ 0 →
        ((k : ℕ) → AreStaged k rest → waiting_count rest ≡ 0 → length rest ≤ k + 1) → length (rec ∷ rest) ≤ n + 1
    by_stage n waiting is none on = absurd (omega arith)
    by_stage n (until e r) is none on =
        omega (arith, ap (λ (l : List Record). length l) (decode_empty rest is (none_waits (until e r) (waiting_count rest) none).1))
    by_stage zero (done r) is none on = absurd is
    by_stage (suc n) (done r) is none on = omega (arith, on n is (none_waits (done r) (waiting_count rest) none).1)
