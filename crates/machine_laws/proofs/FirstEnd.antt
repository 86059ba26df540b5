-- A run ends behind one number of cycles: the one that it reports.
use Rattle.std.proofs.Common.{◌≡◌, ℕ, zero, suc, ◌+◌, ◌-◌, ◌≤◌, ◌<◌, List, ◌++◌, Bool, true, false, refl, ap, sym, ◌∙◌, subst, ⊎_elim, arith}
use Rattle.std.proofs.lemmas.Bool.{cond_both, cases_order, false≢true}
use Rattle.mono_model.specs.declared.setup.Setup.{Setup}
use Rattle.mono_model.specs.Final.{has_ended}
use Rattle.mono_model.specs.Machine.{Machine, machine_start, machine_final}
use Rattle.mono_model.specs.Interrupt.{interrupt_phase}
use Rattle.mono_model.specs.Commit.{commit_phase}
use Rattle.mono_model.specs.Complete.{complete_phase}
use Rattle.mono_model.specs.Issue.{issue_phase}
use Rattle.mono_model.specs.Fetch.{Try, misses, appends, turns, may_fetch, fetch_try, after_try, fetches, fetch_phase}
use Rattle.mono_model.specs.Cycle.{phases, mono, final}
use Rattle.mono_model.specs.Report.{closed_output, report_text, text}
use Rattle.mono_model.specs.Demand.{step_bound}
use Rattle.mono_model.specs.Split.{is_cycle_start}
use Rattle.mono_model.proofs.Next.{mono-suc}
use Rattle.machine_laws.specs.Runs.{is_over}
use Rattle.machine_laws.specs.FirstEnd.{IsFirst, EndsOnce}
use Rattle.machine_laws.proofs.Phases.{interrupt_cycle, commit_from, complete_kept, issue_kept, Tries, try_tries}
use Rattle.machine_laws.proofs.DemandRun.{is_mono}
use Rattle.machine_laws.proofs.Reaching.{ended_stays, cycle_end_cycle}
use Rattle.machine_laws.proofs.Halting.{cycled_on, run_halts}

-- the phases of a cycle leave its number
after_cycle : (t : Try) (m : Machine) (go_on : Machine → Machine) → Tries m t
    → ((behind : Machine) → (go_on behind).cycle ≡ behind.cycle)
    → (after_try t go_on).cycle ≡ m.cycle
after_cycle (misses behind) m go_on is on = is.cycle
after_cycle (appends behind) m go_on is on = on behind ∙ is.cycle
after_cycle (turns behind) m go_on is on = is.cycle

fetches_cycle : (s : Setup) (more : ℕ) (m : Machine) → (fetches s more m).cycle ≡ m.cycle
unfolding fetches
fetches_cycle s zero m = refl
fetches_cycle s (suc more) m =
    let go_on : Machine → Machine = λ behind. fetches s more behind in
    cond_both (may_fetch s m) (after_try (fetch_try s m) go_on) m (λ x. x.cycle ≡ m.cycle)
    (λ may. after_cycle (fetch_try s m) m go_on (try_tries s m) (fetches_cycle s more)) (λ stays. refl)

phases_cycle : (s : Setup) (m : Machine) → (phases s m).cycle ≡ m.cycle
unfolding fetch_phase
phases_cycle s m =
    let c = (commit_phase s (interrupt_phase m)).machine in
    let here : c.cycle ≡ m.cycle = (commit_from s (interrupt_phase m)).cycle ∙ interrupt_cycle m in
    let issued = issue_phase s (complete_phase c) in
    let kept : issued.cycle ≡ m.cycle =
    (issue_kept s (complete_phase c)).cycle ∙ (complete_kept c).cycle ∙ here in
    cond_both (has_ended c.end) c (fetch_phase s issued) (λ x. x.cycle ≡ m.cycle)
    (λ ended. here) (λ on. fetches_cycle s s.params.core_fetch issued ∙ kept)

-- a machine that runs counts one cycle more
next_counts : (s : Setup) (c : ℕ) → has_ended (mono s c).end ≡ false
    → (mono s (suc c)).cycle ≡ (mono s c).cycle + 1
next_counts s c on =
    ap (λ (m : Machine). m.cycle) (mono-suc s c ∙ cycled_on s (mono s c) on)
    ∙ cycle_end_cycle s (phases s (mono s c)) ∙ ap (λ (n : ℕ). n + 1) (phases_cycle s (mono s c))

first_counts : (s : Setup) → (mono s zero).cycle ≡ 0
unfolding mono machine_start
first_counts s = refl

-- So while it runs it has counted them all, and never more. In any run by cycles that does, and that stands still once it
-- has ended:
pub record RunsOnce {M : Type 0} (at : ℕ → M) (machine : M → Machine) (limit c : ℕ) : Type 0 where
  pub first : IsFirst (λ k. has_ended (machine (at k)).end) c
  pub only : (k : ℕ) → IsFirst (λ k. has_ended (machine (at k)).end) k → k ≡ c
  pub within : c ≤ limit
  pub counted : (k : ℕ) → k ≤ c → (machine (at k)).cycle ≡ k
  pub still : (k : ℕ) → c ≤ k → at k ≡ at c
  pub last : at limit ≡ at c

module _ {M : Type 0} (at : ℕ → M) (machine : M → Machine) (none : (machine (at zero)).cycle ≡ 0)
    (counts : (c : ℕ) → has_ended (machine (at c)).end ≡ false → (machine (at (suc c))).cycle ≡ (machine (at c)).cycle + 1)
    (stays : (c : ℕ) → has_ended (machine (at c)).end ≡ true → at (suc c) ≡ at c) where
  abbrev Over : ℕ → Bool
  Over c = has_ended (machine (at c)).end

  counts_all : (c : ℕ) → ((k : ℕ) → k < c → Over k ≡ false) → (machine (at c)).cycle ≡ c
  counts_all zero on = none
  counts_all (suc c) on =
      let before = counts_all c (λ k below. on k (omega arith)) in
      omega (arith, counts c (on c (omega arith)), before)

  counts_at_most : (c : ℕ) → (machine (at c)).cycle ≤ c
  counts_at_most zero = omega (arith, none)
  counts_at_most (suc c) = by_test (Over c) refl (counts_at_most c)
    where
      by_test : (b : Bool) → Over c ≡ b → (machine (at c)).cycle ≤ c → (machine (at (suc c))).cycle ≤ suc c
      by_test true ended most =
          subst (λ (m : M). (machine m).cycle ≤ suc c) (sym (stays c ended)) (omega arith)
      by_test false on most = omega (arith, counts c on)

  still_on : (c more : ℕ) → Over c ≡ true → at (c + more) ≡ at c
  still_on c zero ended = let e : c + zero ≡ c = omega arith in ap at e
  still_on c (suc more) ended =
      let e : c + suc more ≡ suc (c + more) = omega arith in
      let same = still_on c more ended in
      let over = ap (λ (m : M). has_ended (machine m).end) same ∙ ended in
      ap at e ∙ stays (c + more) over ∙ same

  pub still_from : (c : ℕ) → Over c ≡ true → (k : ℕ) → c ≤ k → at k ≡ at c
  still_from c ended k later =
      let e : k ≡ c + (k - c) = omega arith in ap at e ∙ still_on c (k - c) ended

  -- two first ends are the same
  same_first : (c k : ℕ) → IsFirst (λ k. Over k) c → IsFirst (λ k. Over k) k → k ≡ c
  same_first c k here there =
      ⊎_elim (λ same. same)
      (λ other. ⊎_elim (λ less. absurd (false≢true (sym (here.before k less) ∙ there.ended)))
      (λ more. absurd (false≢true (sym (there.before c more) ∙ here.ended))) other) (cases_order k c)

  -- where the machine at the limit has ended, and is the one behind as many cycles as it counts
  module _ (limit : ℕ) (over : Over limit ≡ true) (back : at limit ≡ at (machine (at limit)).cycle) where
    -- before that cycle it had not ended, since it would have counted fewer
    not_before : (k : ℕ) → k < (machine (at limit)).cycle → Over k ≡ false
    not_before k below = by_test (Over k) refl
      where
        by_test : (b : Bool) → Over k ≡ b → b ≡ false
        by_test true ended =
            let same = still_from k ended limit (omega (arith, counts_at_most limit)) in
            absurd (omega (arith, ap (λ (m : M). (machine m).cycle) same, counts_at_most k))
        by_test false on = refl

    pub runs_once : RunsOnce at machine limit (machine (at limit)).cycle
    runs_once =
        let c = (machine (at limit)).cycle in
        let ended : Over c ≡ true = ap (λ (m : M). has_ended (machine m).end) (sym back) ∙ over in
        let first : IsFirst (λ k. Over k) c = record { ended = ended; before = not_before } in
        record {
          first = first;
          only = λ k there. same_first c k first there;
          within = counts_at_most limit;
          counted = λ k most. counts_all k (λ j below. not_before j (omega arith));
          still = still_from c ended;
          last = back;
        }

-- the machine at the limit has ended, and is the one behind as many cycles as it counts
record AtLimit (s : Setup) : Type 0 where
  ended : has_ended (mono s s.cycles).end ≡ true
  back : mono s s.cycles ≡ mono s (mono s s.cycles).cycle

at_limit : (s : Setup) → 1 ≤ s.cycles → AtLimit s
at_limit s some =
    let halts = run_halts s some in
    let is = is_mono s (step_bound s) (ap is_cycle_start halts.at) in
    record {
      ended = ap (λ (m : Machine). has_ended m.end) (sym halts.machine ∙ is.machine)
          ∙ is.over ∙ ap is_over halts.at;
      back = sym halts.machine ∙ is.machine ∙ ap (λ (m : Machine). mono s m.cycle) halts.machine;
    }

ends_once : (s : Setup) → 1 ≤ s.cycles → EndsOnce s (mono s s.cycles).cycle
unfolding text
ends_once s some =
    let at = at_limit s some in
    let once = runs_once (mono s) (λ m. m) (first_counts s) (next_counts s) (ended_stays s) s.cycles at.ended at.back in
    let written_of : Machine → List ℕ = λ m.
    closed_output m.arch.output ++ report_text (machine_final s m) in
    record {
      first = once.first;
      only = once.only;
      within = once.within;
      counted = once.counted;
      still = once.still;
      reported = ap (machine_final s) once.last;
      written = ap written_of once.last;
    }

pub run_ends_once : (s : Setup) → 1 ≤ s.cycles → EndsOnce s (final s s.cycles).stats.cycles
unfolding machine_final
run_ends_once s some = ends_once s some
