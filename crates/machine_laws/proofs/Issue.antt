-- The relation through issue: a record that begins to execute has the path's result; the oldest is replayed with its time.
use Rattle.std.proofs.Common.{◌≡◌, ℕ, suc, ◌+◌, ◌≤◌, ◌==◌, Bool, true, false, if◌then◌else◌, is_some, unwrap_or, Option, Some, None, List, [], ◌∷◌, length, refl, ap, sym, ◌∙◌, subst, arith}
use Rattle.std.proofs.lemmas.Bool.{and_parts, eq-eqb, cond-true, cond_both}
use Rattle.rollback_cmds.specs.declared.order.Order.TheVariants.{Time}
use Rattle.mono_model.specs.declared.setup.Setup.{Setup}
use Rattle.mono_model.specs.Setup.{ram_range}
use Rattle.mono_model.specs.Arch.{Arch, register_value}
use Rattle.mono_model.specs.Found.{Found, first_source, second_source}
use Rattle.mono_model.specs.Result.{Result, executed}
use Rattle.mono_model.specs.Sequence.{found_next, seen_in, result_at}
use Rattle.mono_model.specs.Path.{path, time_of, GoesOn}
use Rattle.mono_model.specs.Window.{Record, Stage, waiting, until, done, class_at, is_waiting_stage, operand}
use Rattle.mono_model.specs.Machine.{Machine, flushed}
use Rattle.mono_model.specs.Issue.{Passed, none_passed, class_allows, has_operands, operand_value, seen_from, ready_result, issues, Turned, unchanged, begun, turn_of, passed, walk, wants_time, oldest_address, replayed, issued, issue_phase}
use Rattle.mono_model.specs.Demand.{Demand, next, demand_issue}
use Rattle.machine_laws.specs.Relation.{Tracked, Tracks, Related}
use Rattle.mono_model.proofs.Path.{path_at_time}
use Rattle.mono_model.proofs.Issue.{issues_all}
use Rattle.machine_laws.proofs.Path.{Follows, path_steps}
use Rattle.machine_laws.proofs.Executed.{executed_alike}
use Rattle.machine_laws.proofs.Operands.{Olders, operand_is, sees_alike}

pub waits : (stage : Stage) → is_waiting_stage stage ≡ true → stage ≡ waiting
waits waiting is = refl
waits (until e r) is = cc
waits (done r) is = cc

module _ (s : Setup) (times : ℕ → Option ℕ) (p : ℕ → Arch) (a : Arch) where
  -- the operands, the instruction and its time are those of the path
  pub same_result : (n : ℕ) (rec : Record) (behind x y : ℕ) → Tracked s (times n) (p n) behind rec →
      x ≡ register_value (p n).regs (first_source rec.found) → y ≡ register_value (p n).regs (second_source rec.found) →
      executed (ram_range s.params) rec.found rec.addr x y (seen_in rec.time (p n)) ≡ result_at s (times n) (p n)
  unfolding result_at
  same_result n rec behind x y tracked first second =
      ap (λ (k : ℕ). executed (ram_range s.params) rec.found rec.addr k y (seen_in rec.time (p n))) first
      ∙ ap (λ (k : ℕ). executed (ram_range s.params) rec.found rec.addr (register_value (p n).regs (first_source rec.found)) k (seen_in rec.time (p n))) second
      ∙ ap (λ (f : Found). executed (ram_range s.params) f rec.addr (register_value (p n).regs (first_source f)) (register_value (p n).regs (second_source f)) (seen_in rec.time (p n))) tracked.found
      ∙ ap (λ (k : ℕ). executed (ram_range s.params) (found_next s (p n)) k (register_value (p n).regs (first_source (found_next s (p n)))) (register_value (p n).regs (second_source (found_next s (p n)))) (seen_in rec.time (p n))) tracked.addr
      ∙ ap (λ (t : Option ℕ). executed (ram_range s.params) (found_next s (p n)) (p n).pc (register_value (p n).regs (first_source (found_next s (p n)))) (register_value (p n).regs (second_source (found_next s (p n)))) (seen_in t (p n))) tracked.time

  -- an operand that has a value is the path's
  pub value_is : (n : ℕ) (older : List Record) (source : Option ℕ) → Olders s times p a n older →
      is_some (operand a.regs older source) ≡ true → operand_value a older source ≡ register_value (p n).regs source
  value_is n older source olds has = by_value (operand a.regs older source) refl has
    where
      by_value : (o : Option ℕ) → operand a.regs older source ≡ o → is_some o ≡ true → unwrap_or o 0 ≡ register_value (p n).regs source
      by_value (Some x) is has = operand_is s times p a n older source x olds is
      by_value None is has = cc

  -- the result of a record that may issue is the path's
  pub ready_is : (n : ℕ) (older : List Record) (rec : Record) (behind : ℕ) → Tracked s (times n) (p n) behind rec →
      Olders s times p a n older → has_operands a older rec ≡ true →
      class_allows (class_at rec) (ready_result s a older rec).access older ≡ true → ready_result s a older rec ≡ result_at s (times n) (p n)
  unfolding ready_result
  ready_is n older rec behind tracked olds has allows =
      let first = first_source rec.found in
      let second = second_source rec.found in
      let x : ℕ = operand_value a older first in
      let y : ℕ = operand_value a older second in
      let both = and_parts (is_some (operand a.regs older first)) (is_some (operand a.regs older second)) has in
      executed_alike (ram_range s.params) older (seen_from a older rec.time) (seen_in rec.time (p n))
      (sees_alike s times p a n older rec.time olds) rec.found rec.addr x y allows
      ∙ same_result n rec behind x y tracked (value_is n older first olds both.0) (value_is n older second olds both.1)

module _ (s : Setup) (times : ℕ → Option ℕ) (p : ℕ → Arch) (m : Machine) where
  -- a record in its turn
  pub turn_tracked : (n : ℕ) (w : Passed) (rec : Record) (younger : List Record) (behind : ℕ) → Tracked s (times n) (p n) behind rec →
      Olders s times p m.arch n w.older → Tracked s (times n) (p n) behind (turn_of s m w rec younger).turned
  unfolding turn_of
  turn_tracked n w rec younger behind tracked olds =
      cond_both (issues s m w rec younger) (begun s m.cycle w rec r) (unchanged w rec) (λ t. Tracked s (times n) (p n) behind t.turned) starts (λ not. tracked)
    where
      r : Result
      r = ready_result s m.arch w.older rec

      starts : issues s m w rec younger ≡ true → Tracked s (times n) (p n) behind (begun s m.cycle w rec r).turned
      starts may =
          let all = issues_all s m w rec younger may in
          let Q : Stage → Type 0 = λ stage. Tracked s (times n) (p n) behind (record rec { stage = stage }) in
          let known : Tracked s (times n) (p n) behind (record rec { stage = waiting }) = subst Q (waits rec.stage all.waits) tracked in
          record {
            addr = tracked.addr;
            found = tracked.found;
            time = tracked.time;
            result = ready_is s times p m.arch n w.older rec behind tracked olds all.operands all.allows;
            follows = known.follows;
          }

  walk_tracks : (n : ℕ) (w : Passed) (rest : List Record) (fetch_addr : ℕ) (kept : Option ℕ) →
      ((k : ℕ) → n ≤ k → Follows s (times k) (p k) (p (suc k))) → Tracks s times p n rest fetch_addr kept → Olders s times p m.arch n w.older →
      Tracks s times p n (walk s m w rest).records fetch_addr kept
  unfolding walk
  walk_tracks n w [] fetch_addr kept steps tracks olds = tracks
  walk_tracks n w (rec ∷ rest) fetch_addr kept steps tracks olds =
      let t : Turned = turn_of s m w rec rest in
      let now : Tracked s (times n) (p n) (p (suc n)).pc t.turned = turn_tracked n w rec rest (p (suc n)).pc tracks.0 olds in
      (now, walk_tracks (suc n) (passed t w.older) rest fetch_addr kept (λ k from. steps k (omega arith)) tracks.1 (now, steps n (omega arith), olds))

  walk_length : (w : Passed) (rest : List Record) → length (walk s m w rest).records ≡ length rest
  unfolding walk
  walk_length w [] = refl
  walk_length w (rec ∷ rest) = let t : Turned = turn_of s m w rec rest in ap suc (walk_length (passed t w.older) rest)

issued_related : (s : Setup) (d : Demand) → Related s d → Related s (record d { machine = issued s d.machine })
issued_related s d related =
    let m = d.machine in
    let e : next d ≡ d.to_commit + length (walk s m (none_passed m) m.window).records =
    ap (λ (k : ℕ). d.to_commit + k) (sym (walk_length s (time_of d.orders) (path s d.orders) m (none_passed m) m.window)) in
    record {
      arch = related.arch;
      window = walk_tracks s (time_of d.orders) (path s d.orders) m d.to_commit (none_passed m) m.window m.fetch_addr m.kept
          (λ n from. path_steps s d.orders d.to_commit n related.within from) related.window related.arch;
      on = subst (λ (n : ℕ). GoesOn d.orders n) e related.on;
      within = related.within;
    }

-- the oldest record stands at the next instruction to commit
oldest_addr : (s : Setup) (times : ℕ → Option ℕ) (p : ℕ → Arch) (n : ℕ) (m : Machine) (window : List Record) → Tracks s times p n window m.fetch_addr m.kept → (p n).pc ≡ oldest_address m window
oldest_addr s times p n m [] tracks = tracks.0
oldest_addr s times p n m (rec ∷ rest) tracks = sym tracks.0.addr

pub replayed_related : (s : Setup) (d : Demand) → Related s d → Related s (record d { machine = replayed d.machine; orders = Time d.to_commit d.machine.cycle ∷ d.orders })
unfolding flushed
replayed_related s d related =
    let at : path s (Time d.to_commit d.machine.cycle ∷ d.orders) d.to_commit ≡ path s d.orders d.to_commit = path_at_time s d.to_commit d.machine.cycle d.orders in
    record {
      arch = related.arch ∙ sym at;
      window = (
        ap (λ (a : Arch). a.pc) at ∙ oldest_addr s (time_of d.orders) (path s d.orders) d.to_commit d.machine d.machine.window related.window,
        sym (cond-true (d.to_commit == d.to_commit) (Some d.machine.cycle) None (eq-eqb d.to_commit d.to_commit refl)),
      );
      on = omega arith;
      within = (omega arith, related.within);
    }

pub issue_related : (s : Setup) (d : Demand) → Related s d → Related s (demand_issue s d)
unfolding issue_phase
issue_related s d related = by_test (wants_time s d.machine)
  where
    by_test : (b : Bool) → Related s (record d {
      machine = if b then replayed d.machine else issued s d.machine;
      orders = if b then Time d.to_commit d.machine.cycle ∷ d.orders else d.orders;
    })
    by_test true = replayed_related s d related
    by_test false = issued_related s d related
