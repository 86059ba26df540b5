-- The records of a window on the path: along another path, at the end, and with one record more.
use Rattle.std.proofs.Common.{◌≡◌, ℕ, suc, ◌+◌, ◌≤◌, ◌<◌, Option, Some, None, is_none, true, List, [], ◌∷◌, ◌++◌, length, refl, sym, ◌∙◌, subst, arith}
use Rattle.fsim_base.specs.declared.cause.Cause.{Cause}
use Rattle.mono_model.specs.declared.setup.Setup.{Setup}
use Rattle.mono_model.specs.Arch.{Arch}
use Rattle.mono_model.specs.Path.{path, time_of}
use Rattle.mono_model.specs.Window.{Record}
use Rattle.mono_model.specs.Demand.{Demand}
use Rattle.machine_laws.specs.Relation.{Tracked, Tracks, Related, next_by}
use Rattle.machine_laws.proofs.Path.{time_none}

-- behind a record that is done without a cause
pub next_none : (cause : Option Cause) (next predicted : ℕ) → is_none cause ≡ true → next_by cause next predicted ≡ next
next_none None next predicted none = refl
next_none (Some cause) next predicted none = cc

-- where two states are the same
pub tracked_alike : (s : Setup) (time : Option ℕ) (a b c d : Arch) (rec : Record) → b ≡ a → d ≡ c → Tracked s time a c.pc rec → Tracked s time b d.pc rec
tracked_alike s time a b c d rec first second tracked =
    let P : Arch → Type 0 = λ x. Tracked s time x d.pc rec in
    let Q : Arch → Type 0 = λ x. Tracked s time a x.pc rec in
    subst P (sym first) (subst Q (sym second) tracked)

module _ (s : Setup) (times : ℕ → Option ℕ) (p : ℕ → Arch) where
  -- fetch stands behind the window
  pub tracks_end : (n : ℕ) (window : List Record) (fetch_addr : ℕ) (kept : Option ℕ) → Tracks s times p n window fetch_addr kept →
      ((p (n + length window)).pc ≡ fetch_addr) × (kept ≡ times (n + length window))
  tracks_end n [] fetch_addr kept tracks =
      let e : n ≡ n + length {A = Record} [] = omega arith in
      let P : ℕ → Type 0 = λ k. ((p k).pc ≡ fetch_addr) × (kept ≡ times k) in
      subst P e tracks
  tracks_end n (rec ∷ rest) fetch_addr kept tracks =
      let e : suc n + length rest ≡ n + length (rec ∷ rest) = omega arith in
      let P : ℕ → Type 0 = λ k. ((p k).pc ≡ fetch_addr) × (kept ≡ times k) in
      subst P e (tracks_end (suc n) rest fetch_addr kept tracks.1)

  -- a record more, along another path that is the same up to it
  pub tracks_append : (q : ℕ → Arch) (n : ℕ) (window : List Record) (rec : Record) (fetch_addr addr : ℕ) (kept given : Option ℕ) →
      Tracks s times p n window fetch_addr kept → ((m : ℕ) → m ≤ n + length window → q m ≡ p m) →
      ((m : ℕ) → m ≡ n + length window → Tracked s (times m) (q m) (q (suc m)).pc rec × ((q (suc m)).pc ≡ addr) × (given ≡ times (suc m))) →
      Tracks s times q n (window ++ rec ∷ []) addr given
  tracks_append q n [] rec fetch_addr addr kept given tracks same more =
      let now = more n (omega arith) in
      (now.0, (now.1, now.2))
  tracks_append q n (r ∷ rest) rec fetch_addr addr kept given tracks same more = (
    tracked_alike s (times n) (p n) (q n) (p (suc n)) (q (suc n)) r (same n (omega arith)) (same (suc n) (omega arith)) tracks.0,
    tracks_append q (suc n) rest rec fetch_addr addr kept given tracks.1 (λ m under. same m (omega arith)) (λ m is. more m (omega arith)),
  )

-- with a record in the window no time is kept
pub kept_none : (s : Setup) (d : Demand) → Related s d → 0 < length d.machine.window → d.machine.kept ≡ None
kept_none s d related some =
    (tracks_end s (time_of d.orders) (path s d.orders) d.to_commit d.machine.window d.machine.fetch_addr d.machine.kept related.window).1
    ∙ time_none d.orders d.to_commit (d.to_commit + length d.machine.window) related.within (omega arith)
