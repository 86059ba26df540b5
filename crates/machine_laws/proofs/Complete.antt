-- The relation through the completion of records: they have their results, and the path follows a misprediction.
use Rattle.std.proofs.Common.{◌≡◌, ℕ, suc, ◌+◌, ◌<◌, ◌==◌, ◌&&◌, not, Bool, true, false, if◌then◌else◌, is_none, Option, Some, None, List, [], ◌∷◌, length, refl, ap, sym, ◌∙◌, subst, arith}
use Rattle.std.proofs.lemmas.Bool.{eqb-true, and_parts}
use Rattle.fsim_base.specs.declared.cause.Cause.{Cause}
use Rattle.rollback_cmds.specs.declared.order.Order.TheVariants.{Set}
use Rattle.mono_model.specs.declared.setup.Setup.{Setup}
use Rattle.mono_model.specs.Arch.{Arch}
use Rattle.mono_model.specs.Result.{Result}
use Rattle.mono_model.specs.Path.{path, time_of, GoesOn}
use Rattle.mono_model.specs.Window.{Record, Stage, waiting, until, done}
use Rattle.mono_model.specs.Machine.{flushed}
use Rattle.mono_model.specs.Complete.{Completed, due, is_mispredicted, in_front, complete_next, completes, completed_by, complete_phase}
use Rattle.mono_model.specs.Demand.{Demand, next, redirect_orders, demand_complete}
use Rattle.machine_laws.specs.Relation.{Tracked, Tracks, Related, next_by}
use Rattle.mono_model.proofs.Path.{path_below, path_at_set}
use Rattle.machine_laws.proofs.Path.{time_none}
use Rattle.machine_laws.proofs.Tracks.{tracked_alike, kept_none, next_none}

-- What is kept of a window of so many records: all of it; or, with a misprediction, its front, which stands on any path
-- that is the same up to there and goes on at the redirected address.
abbrev pub Keeps : Setup → (ℕ → Option ℕ) → (ℕ → Arch) → ℕ → ℕ → ℕ → Option ℕ → Option ℕ → List Record → Type 0
Keeps s times p n count fetch_addr kept None records = (length records ≡ count) × Tracks s times p n records fetch_addr kept
Keeps s times p n count fetch_addr kept (Some addr) records =
    (0 < length records) × (0 < count) ×
    ((q : ℕ → Arch) (m : ℕ) (given : Option ℕ) → m ≡ n + length records → ((k : ℕ) → k < m → q k ≡ p k) → (q m).pc ≡ addr → given ≡ times m →
    Tracks s times q n records addr given)

next_predicted : (cause : Option Cause) (next predicted : ℕ) → (is_none cause && not (next == predicted)) ≡ false → predicted ≡ next_by cause next predicted
next_predicted None next predicted as_predicted = by_test (next == predicted) refl as_predicted
  where
    by_test : (b : Bool) → (next == predicted) ≡ b → not b ≡ false → predicted ≡ next
    by_test true is as_predicted = sym (eqb-true next predicted is)
    by_test false is as_predicted = cc
next_predicted (Some cause) next predicted as_predicted = refl

module _ (s : Setup) (times : ℕ → Option ℕ) (p : ℕ → Arch) (fetch_addr : ℕ) (kept : Option ℕ) where
  keeps_front : (n count : ℕ) (rec : Record) (redirect : Option ℕ) (records : List Record) → Tracked s (times n) (p n) (p (suc n)).pc rec →
      Keeps s times p (suc n) count fetch_addr kept redirect records → Keeps s times p n (suc count) fetch_addr kept redirect (rec ∷ records)
  keeps_front n count rec None records tracked keeps = (let same : length records ≡ count = keeps.0 in omega arith, (tracked, keeps.1))
  keeps_front n count rec (Some addr) records tracked keeps =
      let some : 0 < length records = keeps.0 in (
        omega arith,
        omega arith,
        λ q m given is same at when. (
          tracked_alike s (times n) (p n) (q n) (p (suc n)) (q (suc n)) rec (same n (omega arith)) (same (suc n) (omega arith)) tracked,
          keeps.2 q m given (omega arith) same at when,
        ),
      )

  -- a record whose latency is over
  keeps_done : (n count : ℕ) (rec : Record) (e : ℕ) (r : Result) (rest : Completed) → rec.stage ≡ until e r → Tracked s (times n) (p n) (p (suc n)).pc rec →
      Keeps s times p (suc n) count fetch_addr kept rest.redirect rest.records →
      Keeps s times p n (suc count) fetch_addr kept (complete_next rec (Some r) rest).redirect (complete_next rec (Some r) rest).records
  keeps_done n count rec e r rest is tracked keeps = by_test (is_mispredicted rec r) refl
    where
      settled : (a b : Arch) → a ≡ p n → b.pc ≡ next_by r.cause r.next rec.predicted → Tracked s (times n) a b.pc (record rec { stage = done r })
      settled a b here follows =
          let P : Arch → Type 0 = λ x. Tracked s (times n) x (p (suc n)).pc rec in
          let moved : Tracked s (times n) a (p (suc n)).pc rec = subst P (sym here) tracked in
          let Q : Stage → Type 0 = λ stage. Tracked s (times n) a (p (suc n)).pc (record rec { stage = stage }) in
          let known : Tracked s (times n) a (p (suc n)).pc (record rec { stage = until e r }) = subst Q is moved in
          record { addr = moved.addr; found = moved.found; time = moved.time; result = known.result; follows = follows }

      as_predicted : (p (suc n)).pc ≡ rec.predicted
      as_predicted =
          let Q : Stage → Type 0 = λ stage. Tracked s (times n) (p n) (p (suc n)).pc (record rec { stage = stage }) in
          let known : Tracked s (times n) (p n) (p (suc n)).pc (record rec { stage = until e r }) = subst Q is tracked in
          known.follows

      by_test : (b : Bool) → is_mispredicted rec r ≡ b →
          Keeps s times p n (suc count) fetch_addr kept
          (if b then record { records = record rec { stage = done r } ∷ []; redirect = Some r.next } else in_front (record rec { stage = done r }) rest).redirect
          (if b then record { records = record rec { stage = done r } ∷ []; redirect = Some r.next } else in_front (record rec { stage = done r }) rest).records
      by_test true wrong = (
        omega arith,
        omega arith,
        λ q m given at same there when.
            let e : m ≡ suc n = omega (arith, at) in
            let P : ℕ → Type 0 = λ k. (q k).pc ≡ r.next in
            let Q : ℕ → Type 0 = λ k. given ≡ times k in
            let goes : (q (suc n)).pc ≡ r.next = subst P e there in (
              settled (q n) (q (suc n)) (same n (omega arith)) (goes ∙ sym (next_none r.cause r.next rec.predicted (and_parts (is_none r.cause) (not (r.next == rec.predicted)) wrong).0)),
              (goes, subst Q e when),
            ),
      )
      by_test false right =
          keeps_front n count (record rec { stage = done r }) rest.redirect rest.records
          (settled (p n) (p (suc n)) refl (as_predicted ∙ next_predicted r.cause r.next rec.predicted right)) keeps

  keeps_next : (n count cycle : ℕ) (rec : Record) (stage : Stage) (rest : Completed) → rec.stage ≡ stage → Tracked s (times n) (p n) (p (suc n)).pc rec →
      Keeps s times p (suc n) count fetch_addr kept rest.redirect rest.records →
      Keeps s times p n (suc count) fetch_addr kept (complete_next rec (due cycle stage) rest).redirect (complete_next rec (due cycle stage) rest).records
  keeps_next n count cycle rec waiting rest is tracked keeps = keeps_front n count rec rest.redirect rest.records tracked keeps
  keeps_next n count cycle rec (until e r) rest is tracked keeps = by_test (e == cycle)
    where
      by_test : (b : Bool) →
          Keeps s times p n (suc count) fetch_addr kept (complete_next rec (if b then Some r else None) rest).redirect (complete_next rec (if b then Some r else None) rest).records
      by_test true = keeps_done n count rec e r rest is tracked keeps
      by_test false = keeps_front n count rec rest.redirect rest.records tracked keeps
  keeps_next n count cycle rec (done r) rest is tracked keeps = keeps_front n count rec rest.redirect rest.records tracked keeps

  pub completes_keeps : (n cycle : ℕ) (window : List Record) → Tracks s times p n window fetch_addr kept →
      Keeps s times p n (length window) fetch_addr kept (completes cycle window).redirect (completes cycle window).records
  unfolding completes
  completes_keeps n cycle [] tracks = (refl, tracks)
  completes_keeps n cycle (rec ∷ rest) tracks =
      keeps_next n (length rest) cycle rec rec.stage (completes cycle rest) refl tracks.0 (completes_keeps (suc n) cycle rest tracks.1)

pub completed_related : (s : Setup) (d : Demand) (redirect : Option ℕ) (records : List Record) → Related s d →
    Keeps s (time_of d.orders) (path s d.orders) d.to_commit (length d.machine.window) d.machine.fetch_addr d.machine.kept redirect records →
    Related s (record d { machine = completed_by redirect records d.machine; orders = redirect_orders redirect (d.to_commit + length records) d.orders })
unfolding flushed
completed_related s d None records related keeps =
    let e : next d ≡ d.to_commit + length records = let same : length records ≡ length d.machine.window = keeps.0 in omega arith in
    record { arch = related.arch; window = keeps.1; on = subst (λ (n : ℕ). GoesOn d.orders n) e related.on; within = related.within }
completed_related s d (Some addr) records related keeps =
    let some : 0 < length records = keeps.0 in
    let m : ℕ = d.to_commit + length records in
    let os = Set m addr ∷ d.orders in
    record {
      arch = related.arch ∙ sym (path_below s (Set m addr) d.orders d.to_commit (omega arith));
      window = keeps.2 (path s os) m d.machine.kept refl (λ k under. path_below s (Set m addr) d.orders k under)
          (ap (λ (a : Arch). a.pc) (path_at_set s m addr d.orders))
          (kept_none s d related keeps.1 ∙ sym (time_none d.orders d.to_commit m related.within (omega arith)));
      on = omega arith;
      within = related.within;
    }

pub complete_related : (s : Setup) (d : Demand) → Related s d → Related s (demand_complete d)
unfolding complete_phase
complete_related s d related =
    completed_related s d (completes d.machine.cycle d.machine.window).redirect (completes d.machine.cycle d.machine.window).records related
    (completes_keeps s (time_of d.orders) (path s d.orders) d.machine.fetch_addr d.machine.kept d.to_commit d.machine.cycle d.machine.window related.window)
