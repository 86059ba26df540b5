-- The relation through issue: the record that goes on to Execute has the path's result; the oldest is replayed with its time.
use Rattle.std.proofs.Common.{◌≡◌, ℕ, suc, ◌+◌, ◌≤◌, ◌&&◌, nat_lt, Bool, true, false, if◌then◌else◌, is_none, Option, List, [], ◌∷◌, length, refl, ap, sym, ◌∙◌, subst, arith}
use Rattle.std.proofs.lemmas.Bool.{and_parts, cond_both}
use Rattle.rollback_cmds.specs.declared.order.Order.TheVariants.{Time}
use Rattle.mono_model.specs.declared.setup.Setup.{Setup}
use Rattle.mono_model.specs.Arch.{Arch}
use Rattle.mono_model.specs.Result.{Result}
use Rattle.mono_model.specs.Path.{path, time_of, GoesOn}
use Rattle.mono_model.specs.Window.{Record, Stage, waiting, class_at, is_waiting}
use Rattle.mono_model.specs.Issue.{has_operands, ready_result, class_allows, replayed}
use Rattle.mono_model.specs.Demand.{Demand, next}
use Rattle.machine_laws.specs.Relation.{Tracked, Tracks, Related}
use Rattle.machine_laws.proofs.Path.{Follows, path_steps}
use Rattle.machine_laws.proofs.Operands.{Olders}
use Rattle.machine_laws.proofs.Issue.{waits, ready_is, replayed_related}
use Rattle.inorder_machine.specs.InorderMachine.{InorderMachine, in_execute}
use Rattle.inorder_machine.specs.Issue.{is_past_fetch, found_in_order, decoded_result, may_issue, begun, issue_of, issue_from, inorder_wants_time, issued}
use Rattle.inorder_machine.specs.Demand.{inorder_in, demand_inorder_issue}
use Rattle.inorder_laws.proofs.Found.{ready_in_order, allows_in_order}

-- the conditions of issue, one by one
pub record Issues (s : Setup) (l : InorderMachine) (older : List Record) (rec : Record) : Type 0 where
  pub past : is_past_fetch l.machine.cycle rec ≡ true
  pub waits : is_waiting rec ≡ true
  pub free : is_none (in_execute older) ≡ true
  pub operands : has_operands l.machine.arch (found_in_order l.memory older) rec ≡ true
  pub allows : class_allows (class_at rec) (decoded_result s l older rec).access (found_in_order l.memory older) ≡ true

pub issues_all : (s : Setup) (l : InorderMachine) (older : List Record) (rec : Record) → may_issue s l older rec ≡ true → Issues s l older rec
issues_all s l older rec may =
    let past = is_past_fetch l.machine.cycle rec in
    let free = is_none (in_execute older) in
    let has = has_operands l.machine.arch (found_in_order l.memory older) rec in
    let allows = class_allows (class_at rec) (decoded_result s l older rec).access (found_in_order l.memory older) in
    let last = and_parts (past && free && has) allows may in
    let two = and_parts (past && free) has last.0 in
    let one = and_parts past free two.0 in
    record { past = one.0; waits = (and_parts (is_waiting rec) (nat_lt rec.since l.machine.cycle) one.0).0; free = one.1; operands = two.1; allows = last.1 }

module _ (s : Setup) (times : ℕ → Option ℕ) (p : ℕ → Arch) (l : InorderMachine) where
  -- a record in its turn
  issue_tracked : (n : ℕ) (older : List Record) (rec : Record) (behind : ℕ) → Tracked s (times n) (p n) behind rec →
      Olders s times p l.machine.arch n older → Tracked s (times n) (p n) behind (issue_of s l older rec)
  unfolding issue_of
  issue_tracked n older rec behind tracked olds =
      cond_both (may_issue s l older rec) (begun s l older rec) rec (λ r. Tracked s (times n) (p n) behind r) starts (λ not. tracked)
    where
      starts : may_issue s l older rec ≡ true → Tracked s (times n) (p n) behind (begun s l older rec)
      starts may =
          let all = issues_all s l older rec may in
          let ready = ready_in_order s l.machine.arch l.memory older rec all.operands in
          let Q : Stage → Type 0 = λ stage. Tracked s (times n) (p n) behind (record rec { stage = stage }) in
          let known : Tracked s (times n) (p n) behind (record rec { stage = waiting }) = subst Q (waits rec.stage all.waits) tracked in
          let P : Result → Type 0 = λ r. class_allows (class_at rec) r.access older ≡ true in
          let allows : class_allows (class_at rec) (ready_result s l.machine.arch older rec).access older ≡ true =
          subst P ready.result (sym (allows_in_order l.machine.arch l.memory older (class_at rec) (decoded_result s l older rec).access) ∙ all.allows) in
          record {
            addr = tracked.addr;
            found = tracked.found;
            time = tracked.time;
            result = ready.result ∙ ready_is s times p l.machine.arch n older rec behind tracked olds ready.operands allows;
            follows = known.follows;
          }

  issue_tracks : (n : ℕ) (older rest : List Record) (fetch_addr : ℕ) (kept : Option ℕ) →
      ((k : ℕ) → n ≤ k → Follows s (times k) (p k) (p (suc k))) → Tracks s times p n rest fetch_addr kept → Olders s times p l.machine.arch n older →
      Tracks s times p n (issue_from s l older rest) fetch_addr kept
  unfolding issue_from
  issue_tracks n older [] fetch_addr kept steps tracks olds = tracks
  issue_tracks n older (rec ∷ []) fetch_addr kept steps tracks olds = (issue_tracked n older rec (p (suc n)).pc tracks.0 olds, tracks.1)
  issue_tracks n older (rec ∷ next ∷ rest) fetch_addr kept steps tracks olds =
      (tracks.0, issue_tracks (suc n) (rec ∷ older) (next ∷ rest) fetch_addr kept (λ k from. steps k (omega arith)) tracks.1 (tracks.0, steps n (omega arith), olds))

pub issue_length : (s : Setup) (l : InorderMachine) (older rest : List Record) → length (issue_from s l older rest) ≡ length rest
unfolding issue_from
issue_length s l older [] = refl
issue_length s l older (rec ∷ []) = refl
issue_length s l older (rec ∷ next ∷ rest) = ap suc (issue_length s l (rec ∷ older) (next ∷ rest))

issued_related : (s : Setup) (d : Demand) (memory : Option ℕ) → Related s d → Related s (record d { machine = issued s (inorder_in d memory) })
issued_related s d memory related =
    let m = d.machine in
    let e : next d ≡ d.to_commit + length (issue_from s (inorder_in d memory) [] m.window) =
    ap (λ (k : ℕ). d.to_commit + k) (sym (issue_length s (inorder_in d memory) [] m.window)) in
    record {
      arch = related.arch;
      window = issue_tracks s (time_of d.orders) (path s d.orders) (inorder_in d memory) d.to_commit [] m.window m.fetch_addr m.kept
          (λ n from. path_steps s d.orders d.to_commit n related.within from) related.window related.arch;
      on = subst (λ (n : ℕ). GoesOn d.orders n) e related.on;
      within = related.within;
    }

pub inorder_issue_related : (s : Setup) (d : Demand) (memory : Option ℕ) → Related s d → Related s (demand_inorder_issue s memory d)
inorder_issue_related s d memory related = by_test (inorder_wants_time s d.machine)
  where
    by_test : (b : Bool) → Related s (record d {
      machine = if b then replayed d.machine else issued s (inorder_in d memory);
      orders = if b then Time d.to_commit d.machine.cycle ∷ d.orders else d.orders;
    })
    by_test true = replayed_related s d related
    by_test false = issued_related s d memory related
