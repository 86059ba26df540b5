-- The relation through commit: a record that leaves makes the path's next state.
use Rattle.std.proofs.Common.{◌≡◌, ℕ, zero, suc, ◌+◌, true, is_none, Option, None, List, ◌∷◌, length, refl, ap, sym, ◌∙◌, subst, arith}
use Rattle.fsim_base.specs.declared.cause.Cause.{Cause}
use Rattle.rollback_cmds.specs.declared.order.Order.{Order}
use Rattle.rollback_cmds.specs.declared.order.Order.TheVariants.{Set, Commit, Sync}
use Rattle.mono_model.specs.declared.setup.Setup.{Setup}
use Rattle.mono_model.specs.declared.final_state.End.{End}
use Rattle.mono_model.specs.Arch.{Arch, synced}
use Rattle.mono_model.specs.Found.{Found}
use Rattle.mono_model.specs.Final.{end_of}
use Rattle.mono_model.specs.Result.{Result}
use Rattle.mono_model.specs.Effect.{effect}
use Rattle.mono_model.specs.Sequence.{seq, found_next, result_at}
use Rattle.mono_model.specs.Path.{path, time_of, GoesOn}
use Rattle.mono_model.specs.Window.{Record, Stage, done}
use Rattle.mono_model.specs.Machine.{Machine, flushed}
use Rattle.mono_model.specs.Commit as commit
use Rattle.mono_model.specs.Demand.{Demand, ending_orders, commit_order, demand_committed, demand_commit}
use Rattle.machine_laws.specs.Relation.{Tracked, Tracks, Related, Within}
use Rattle.mono_model.proofs.Commits as commits
use Rattle.mono_model.proofs.Commits.{IsDone, InEachCase, leaving_case}
use Rattle.mono_model.proofs.Path.{path_at_set, path_at_sync, path_commit}
use Rattle.machine_laws.proofs.Path.{Follows, path_steps, time_none, within_after}
use Rattle.machine_laws.proofs.Changes.{behind_next}
use Rattle.machine_laws.proofs.Tracks.{tracks_end, next_none}

abbrev pub numbered : Machine → ℕ → List Order → Demand
numbered m n os = record { machine = m; to_commit = n; orders = os }

-- what the oldest record leaves behind it, where it has number `n`
abbrev pub KeptBy : Setup → ℕ → List Order → commit.Leaving → Type 0
KeptBy s n os commit.stays = Unit {0}
KeptBy s n os (commit.full m) = Related s (numbered m n os)
KeptBy s n os (commit.leaves m) = Related s (numbered m (suc n) os)
KeptBy s n os (commit.faults m) = Related s (numbered m (suc n) (Set (suc n) m.arch.pc ∷ os))
KeptBy s n os (commit.syncs m) = Related s (numbered m (suc n) (Sync (suc n) ∷ os))
KeptBy s n os (commit.ends m) = Related s (numbered m (suc n) os)

some_none : (cause : Option Cause) → cause ≡ None → is_none cause ≡ true
some_none cause is = ap (λ (c : Option Cause). is_none c) is

synced_pc : (s : Setup) (a : Arch) → (synced s a).pc ≡ a.pc
unfolding synced
synced_pc s a = refl

seq_next : (s : Setup) (time : Option ℕ) (a : Arch) → is_none (result_at s time a).cause ≡ true → (seq s time a).pc ≡ (result_at s time a).next
unfolding seq
seq_next s time a none = behind_next (found_next s a) (result_at s time a) time a.pc a none

-- The oldest record, done, before it leaves.
module _ (s : Setup) (m : Machine) (n : ℕ) (os : List Order) (rec : Record) (rest : List Record) (r : Result)
    (arch : m.arch ≡ path s os n) (tracked : Tracked s (time_of os n) (path s os n) (path s os (suc n)).pc (record rec { stage = done r }))
    (tracks : Tracks s (time_of os) (path s os) (suc n) rest m.fetch_addr m.kept)
    (on : GoesOn os (suc n + length rest)) (within : Within os n) where
  -- its effect is the sequential step
  pub effect_is : effect rec.found r rec.time rec.addr m.arch ≡ seq s (time_of os n) (path s os n)
  unfolding seq
  effect_is =
      ap (λ (a : Arch). effect rec.found r rec.time rec.addr a) arch
      ∙ ap (λ (f : Found). effect f r rec.time rec.addr (path s os n)) tracked.found
      ∙ ap (λ (t : Result). effect (found_next s (path s os n)) t rec.time rec.addr (path s os n)) tracked.result
      ∙ ap (λ (t : Option ℕ). effect (found_next s (path s os n)) (result_at s (time_of os n) (path s os n)) t rec.addr (path s os n)) tracked.time
      ∙ ap (λ (k : ℕ). effect (found_next s (path s os n)) (result_at s (time_of os n) (path s os n)) (time_of os n) k (path s os n)) tracked.addr

  step_is : Follows s (time_of os n) (path s os n) (path s os (suc n))
  step_is = path_steps s os n n within (omega arith)

  -- without a cause, the path goes where the instruction does
  left_is : r.cause ≡ None → effect rec.found r rec.time rec.addr m.arch ≡ path s os (suc n)
  left_is none =
      let a : Arch = seq s (time_of os n) (path s os n) in
      let here : (path s os (suc n)).pc ≡ a.pc =
      tracked.follows ∙ next_none r.cause r.next rec.predicted (some_none r.cause none) ∙ ap (λ (t : Result). t.next) tracked.result
      ∙ sym (seq_next s (time_of os n) (path s os n) (ap (λ (t : Result). is_none t.cause) (sym tracked.result) ∙ some_none r.cause none)) in
      effect_is ∙ sym (step_is ∙ ap (λ (k : ℕ). record a { pc = k }) here)

  none_kept : m.kept ≡ time_of os (suc n)
  none_kept =
      (tracks_end s (time_of os) (path s os) (suc n) rest m.fetch_addr m.kept tracks).1
      ∙ time_none os n (suc n + length rest) within (omega arith) ∙ sym (time_none os n (suc n) within (omega arith))

  committed_kept : r.cause ≡ None → Related s (numbered (commit.committed s rec rest r m) (suc n) os)
  committed_kept none = record { arch = left_is none; window = tracks; on = on; within = within_after os n (suc n) (omega arith) within }

  faulted_kept : Related s (numbered (commit.faulted rec rest r m) (suc n) (Set (suc n) (effect rec.found r rec.time rec.addr m.arch).pc ∷ os))
  unfolding flushed
  faulted_kept =
      let trap : Arch = effect rec.found r rec.time rec.addr m.arch in
      let a : Arch = seq s (time_of os n) (path s os n) in
      let P : Arch → Type 0 = λ x. trap ≡ record x { pc = trap.pc } in
      let same : trap ≡ record a { pc = trap.pc } = subst P effect_is refl in
      let at : trap ≡ path s (Set (suc n) trap.pc ∷ os) (suc n) =
      same ∙ ap (λ (x : Arch). record x { pc = trap.pc }) (sym step_is) ∙ sym (path_at_set s (suc n) trap.pc os) in
      record {
        arch = at;
        window = (sym (ap (λ (x : Arch). x.pc) at), none_kept);
        on = omega arith;
        within = within_after os n (suc n) (omega arith) within;
      }

  fenced_kept : r.cause ≡ None → Related s (numbered (commit.fenced s (commit.committed s rec rest r m)) (suc n) (Sync (suc n) ∷ os))
  unfolding flushed
  fenced_kept none =
      let behind : Arch = effect rec.found r rec.time rec.addr m.arch in
      let at : synced s behind ≡ path s (Sync (suc n) ∷ os) (suc n) = ap (λ (x : Arch). synced s x) (left_is none) ∙ sym (path_at_sync s (suc n) os) in
      record {
        arch = at;
        window = (sym (ap (λ (x : Arch). x.pc) at) ∙ synced_pc s behind, none_kept);
        on = omega arith;
        within = (omega arith, within_after os n (suc n) (omega arith) within);
      }

  ended_kept : (end : End) → r.cause ≡ None → Related s (numbered (record (commit.committed s rec rest r m) { end = end }) (suc n) os)
  ended_kept end none = let k = committed_kept none in record { arch = k.arch; window = k.window; on = k.on; within = k.within }

  each_kept : Related s (numbered m n os) → InEachCase s m rec rest r (KeptBy s n os)
  each_kept related = record {
    if_faults = λ cause why. faulted_kept;
    if_full = λ none room. record { arch = related.arch; window = related.window; on = related.on; within = related.within };
    if_ends = λ halt passes. ended_kept (end_of halt) passes.cause;
    if_syncs = λ passes fence. fenced_kept passes.cause;
    if_leaves = λ passes fence. committed_kept passes.cause;
  }

-- the oldest record leaves, or it stays
pub leaving_kept : (s : Setup) (m : Machine) (n : ℕ) (os : List Order) → Related s (numbered m n os) → KeptBy s n os (commit.leaving s m)
leaving_kept s m n os related = leaving_case s m (KeptBy s n os) tt each
  where
    each : (rec : Record) (rest : List Record) (r : Result) → IsDone m rec rest r → InEachCase s m rec rest r (KeptBy s n os)
    each rec rest r is =
        let P : List Record → Type 0 = λ w. Tracks s (time_of os) (path s os) n w m.fetch_addr m.kept in
        let Q : Stage → Type 0 = λ stage. Tracked s (time_of os n) (path s os n) (path s os (suc n)).pc (record rec { stage = stage }) in
        let R : List Record → Type 0 = λ w. GoesOn os (n + length w) in
        let tracks : Tracks s (time_of os) (path s os) n (rec ∷ rest) m.fetch_addr m.kept = subst P is.window related.window in
        let e : n + length (rec ∷ rest) ≡ suc n + length rest = omega arith in
        each_kept s m n os rec rest r related.arch (subst Q is.stage tracks.0) tracks.1 (subst (λ (k : ℕ). GoesOn os k) e (subst R is.window related.on)) related.within related

-- what the phase leaves behind it
abbrev EndedBy : Setup → ℕ → List Order → commit.Committed → Type 0
EndedBy s start os c =
    Related s (numbered c.machine (start + c.left) (ending_orders c.ending c.machine.arch.pc (start + c.left) os))

pub related_number : (s : Setup) (m : Machine) (n k : ℕ) (os : List Order) → n ≡ k → Related s (numbered m n os) → Related s (numbered m k os)
related_number s m n k os is related = subst (λ (j : ℕ). Related s (numbered m j os)) is related

-- where `start` records had left before the phase
abbrev IsOn : Setup → ℕ → List Order → ℕ → Machine → Type 0
IsOn s start os left m = Related s (numbered m (start + left) os)

goes_on_kept : (s : Setup) (start left : ℕ) (os : List Order) (m : Machine) (l : commit.Leaving) → IsOn s start os left m → KeptBy s (start + left) os l →
    commits.GoesOn (IsOn s start os) (EndedBy s start os) left m l
goes_on_kept s start left os m commit.stays related kept = related
goes_on_kept s start left os m (commit.full behind) related kept = kept
goes_on_kept s start left os m (commit.leaves behind) related kept = related_number s behind (suc (start + left)) (start + (left + 1)) os (omega arith) kept
goes_on_kept s start left os m (commit.faults behind) related kept =
    let e : suc (start + left) ≡ start + (left + 1) = omega arith in
    subst (λ (k : ℕ). Related s (numbered behind k (Set k behind.arch.pc ∷ os))) e kept
goes_on_kept s start left os m (commit.syncs behind) related kept =
    let e : suc (start + left) ≡ start + (left + 1) = omega arith in
    subst (λ (k : ℕ). Related s (numbered behind k (Sync k ∷ os))) e kept
goes_on_kept s start left os m (commit.ends behind) related kept = related_number s behind (suc (start + left)) (start + (left + 1)) os (omega arith) kept

commits_kept : (s : Setup) (start : ℕ) (os : List Order) (more left : ℕ) (m : Machine) → Related s (numbered m (start + left) os) → EndedBy s start os (commit.commits s more left m)
commits_kept s start os =
    commits.every_commit s (λ more. IsOn s start os) (EndedBy s start os) (λ left m related. related)
    (λ more left m related. goes_on_kept s start left os m (commit.leaving s m) related (leaving_kept s m (start + left) os related))

-- an order Commit changes nothing
pub commit_related : (s : Setup) (m : Machine) (n k : ℕ) (os : List Order) → Related s (numbered m n os) → Related s (numbered m n (Commit k ∷ os))
commit_related s m n k os related =
    let P : (ℕ → Arch) → Type 0 = λ p. m.arch ≡ p n in
    let Q : (ℕ → Arch) → Type 0 = λ p. Tracks s (time_of os) p n m.window m.fetch_addr m.kept in
    record {
      arch = subst P (sym (path_commit s k os)) related.arch;
      window = subst Q (sym (path_commit s k os)) related.window;
      on = related.on;
      within = related.within;
    }

pub order_related : (s : Setup) (m : Machine) (n left k : ℕ) (os : List Order) → Related s (numbered m n os) → Related s (numbered m n (commit_order left k os))
order_related s m n zero k os related = related
order_related s m n (suc left) k os related = commit_related s m n k os related

-- where at most so many records leave
pub commits_related : (s : Setup) (most : ℕ) (d : Demand) → Related s d → Related s (demand_committed (commit.commits s most 0 d.machine) d)
commits_related s most d related =
    let c : commit.Committed = commit.commits s most 0 d.machine in
    let os : List Order = commit_order c.left (d.to_commit + c.left) d.orders in
    commits_kept s d.to_commit os most 0 d.machine
    (related_number s d.machine d.to_commit (d.to_commit + 0) os (omega arith) (order_related s d.machine d.to_commit c.left (d.to_commit + c.left) d.orders related))

pub commit_phase_related : (s : Setup) (d : Demand) → Related s d → Related s (demand_commit s d)
unfolding commit.commit_phase
commit_phase_related s d related = commits_related s s.params.core_commit d related
