-- What each turn of the timing side keeps: no more instructions retire than are committed, no miss is waited for longer than
-- the caches take, and the slots stand in the order of their fetch.
use Rattle.std.proofs.Common.{ℕ, zero, suc, ◌+◌, ◌≤◌, ◌&&◌, ◌==◌, not, nat_lt, false, Option, Some, None, List, [], ◌∷◌, refl, ap, sym, subst, arith}
use Rattle.std.proofs.lemmas.Bool.{cond_both}
use Rattle.rollback_cmds.specs.declared.order.Order.{Order}
use Rattle.rollback_cmds.specs.declared.order.Order.TheVariants.{Interrupt, Time}
use Rattle.fsim_base.specs.Number.{wrap_sum}
use Rattle.cache_timing.specs.declared.cache.Touch.{Touch}
use Rattle.cache_timing.specs.declared.cache.Touch.TheVariants as touch
use Rattle.cache_timing.specs.Cache.{touched}
use Rattle.cache_timing.specs.Caches.{CachesState, Served, miss_cycles, followed, icache_touched, fetched}
use Rattle.trace_entry.specs.declared.Entry.{Entry}
use Rattle.reorder_buffer.specs.declared.slot.Slot.{Slot}
use Rattle.mono_model.specs.declared.setup.Setup.{Setup}
use Rattle.mono_model.specs.Setup.{caches_params}
use Rattle.mono_model.specs.Sound.{IsSetup}
use Rattle.mono_model.specs.Issue.{none_used}
use Rattle.mono_model.specs.Demand.{At, interrupting, committing, completing, issuing, trying, ending, stopping, halted, place, needed_entry}
use Rattle.timing_side.specs.Timing.{Timing, timing_start, cut_to, quiet, ordering}
use Rattle.timing_side.specs.Interrupt.{is_pending, take_interrupt, timing_interrupt}
use Rattle.timing_side.specs.Commit.{leaving, commits, timing_commit}
use Rattle.timing_side.specs.Complete.{completes, completed_by, timing_complete}
use Rattle.timing_side.specs.Issue.{busy_divisions, wants_time, replayed, issued, timing_issue}
use Rattle.timing_side.specs.Fetch.{is_fetchable, cache_read, new_slot, missed, appended, path_orders, predicted_next, Tried, tried, timing_try}
use Rattle.timing_side.specs.Turn.{timing_turn, timing_end_of_cycle}
use Rattle.timing_side.specs.Step.{TimingPlace, Stepped, timing_place_start, step_by, telling, timing_step}
use Rattle.timing_laws.specs.Seen.{seen_at}
use Rattle.timing_side.proofs.Commits.{IsDone, GoesOn, leaving_case, every_commit}
use Rattle.timing_core.specs.Small.{IsInOrder}
use Rattle.timing_core.proofs.Ordered.{longer, behind_oldest, with_youngest, walk_kept, completes_kept}
use Rattle.timing_laws.proofs.Stepping.{starts, place_step}

pub record IsBounded (t : Timing) : Type 0 where
  pub retired : t.retired ≤ t.to_commit
  pub resume : t.resume ≤ t.cycle + 1000
  pub order : IsInOrder 0 t.cycle t.slots

pub interrupt_bounded : (t : Timing) → IsBounded t → IsBounded (timing_interrupt t).timing
unfolding timing_interrupt cut_to
interrupt_bounded t is =
    cond_both (is_pending t) (ordering (Interrupt t.to_commit) (take_interrupt t)) (quiet t) (λ p. IsBounded p.timing)
    (λ e. record { retired = is.retired; resume = omega arith; order = omega arith }) (λ e. is)

-- the slots that leave
abbrev IsOn : ℕ → Timing → Type 0
IsOn left t = IsBounded t

one_bounded : (s : Setup) (t : Timing) (left : ℕ) → IsBounded t → GoesOn IsOn (λ c. IsBounded c.timing) left t (leaving s t)
unfolding cut_to
one_bounded s t left is =
    leaving_case s t (GoesOn IsOn (λ c. IsBounded c.timing) left t) is (λ slot rest done. record {
      if_faults = λ cause why. record { retired = omega (arith, is.retired); resume = omega arith; order = omega arith };
      if_full = λ none room. record { retired = is.retired; resume = is.resume; order = is.order };
      if_ends = λ halt passes. record { retired = omega (arith, is.retired); resume = is.resume; order = behind slot rest done };
      if_syncs = λ passes fence. record { retired = omega (arith, is.retired); resume = omega arith; order = omega arith };
      if_leaves = λ passes fence. record { retired = omega (arith, is.retired); resume = is.resume; order = behind slot rest done };
    })
  where
    behind : (slot : Slot) (rest : List Slot) → IsDone t slot rest → IsInOrder 0 t.cycle rest
    behind slot rest done = behind_oldest t.cycle t.slots slot rest done.slots is.order

pub commits_bounded : (s : Setup) (most : ℕ) (t : Timing) → IsBounded t → IsBounded (commits s most 0 t).timing
commits_bounded s most t is =
    every_commit s (λ more. IsOn) (λ c. IsBounded c.timing) (λ left t is. is) (λ more left t is. one_bounded s t left is) most 0 t is

commit_bounded : (s : Setup) (t : Timing) → IsBounded t → IsBounded (timing_commit s t).timing
unfolding timing_commit
commit_bounded s t is = commits_bounded s s.params.core_commit t is

pub completed_bounded : (redirect : Option ℕ) (slots : List Slot) (t : Timing) → IsInOrder 0 t.cycle slots → IsBounded t → IsBounded (completed_by redirect slots t)
unfolding cut_to
completed_bounded None slots t ordered is = record { retired = is.retired; resume = is.resume; order = ordered }
completed_bounded (Some addr) slots t ordered is = record { retired = is.retired; resume = omega arith; order = ordered }

complete_bounded : (t : Timing) → IsBounded t → IsBounded (timing_complete t).timing
unfolding timing_complete
complete_bounded t is = let c = completes t.cycle t.slots in completed_bounded c.redirect c.slots t (completes_kept t.cycle 0 t.cycle t.slots is.order) is

pub replayed_bounded : (t : Timing) → IsBounded t → IsBounded (replayed t)
unfolding cut_to
replayed_bounded t is = record { retired = is.retired; resume = omega arith; order = omega arith }

issue_bounded : (s : Setup) (t : Timing) → IsBounded t → IsBounded (timing_issue s t).timing
unfolding timing_issue
issue_bounded s t is =
    cond_both (wants_time s t) (ordering (Time t.to_commit t.cycle) (replayed t)) (quiet (issued s t)) (λ p. IsBounded p.timing)
    (λ e. replayed_bounded t is) (λ e. record {
      retired = is.retired;
      resume = is.resume;
      order = walk_kept s t.cycle (busy_divisions t.slots) 0 t.cycle t.slots [] none_used t.caches is.order;
    })

-- the cycles of a miss
module _ (s : Setup) (facts : IsSetup s) where
  answered_most : (t : Touch) → miss_cycles (caches_params s.params) s.params.icache_miss t ≤ 1000
  answered_most touch.None = facts.caches.icache.miss_most
  answered_most touch.Hit = facts.caches.l2_hit_most
  answered_most (touch.Miss dropped) = facts.caches.l2.miss_most

  followed_most : (addr : ℕ) (t : Touch) (c : CachesState) → (followed (caches_params s.params) s.params.icache_miss addr t c).cycles ≤ 1000
  followed_most addr touch.None c = omega arith
  followed_most addr touch.Hit c = omega arith
  followed_most addr (touch.Miss dropped) c = answered_most (touched (caches_params s.params).l2 false c.l2 addr false).touch

  fetched_most : (c : CachesState) (addr : ℕ) → (fetched (caches_params s.params) c addr).cycles ≤ 1000
  unfolding fetched
  fetched_most c addr =
      let t = touched (caches_params s.params).icache false c.icache addr false in
      followed_most addr t.touch (icache_touched c t)

  read_most : (e : Entry) (t : Timing) → (cache_read s e t).cycles ≤ 1000
  read_most e t =
      let nothing : Served = record { state = t.caches; cycles = 0 } in
      cond_both (is_fetchable e && not t.paid) (fetched (caches_params s.params) t.caches e.addr) nothing (λ d. d.cycles ≤ 1000)
      (λ is. fetched_most t.caches e.addr) (λ is. omega arith)

  pub try_bounded : (e : Entry) (t : Timing) → IsBounded t → IsBounded (timing_try s e t).phase.timing
  unfolding timing_try
  try_bounded e t is = by_served (cache_read s e t) (read_most e t)
    where
      by_served : (d : Served) → d.cycles ≤ 1000 → IsBounded (tried s e d t).phase.timing
      by_served d most =
          cond_both {A = Tried} (nat_lt 0 d.cycles) (record { phase = quiet (missed d.cycles d.state t); goes_on = false })
          (record { phase = record { timing = appended s e d.state t; orders = path_orders s e t }; goes_on = predicted_next s e t == wrap_sum e.addr 4 })
          (λ f. IsBounded f.phase.timing)
          (λ waits. record { retired = is.retired; resume = omega arith; order = is.order })
          (λ none. record { retired = is.retired; resume = is.resume; order = with_youngest 0 t.cycle t.slots (new_slot s e t) refl is.order })

  turn_bounded : (e : Entry) (at : At) (t : Timing) → IsBounded t → IsBounded (timing_turn s e at t).timing
  unfolding timing_turn timing_end_of_cycle
  turn_bounded e interrupting t is = interrupt_bounded t is
  turn_bounded e committing t is = commit_bounded s t is
  turn_bounded e completing t is = complete_bounded t is
  turn_bounded e issuing t is = issue_bounded s t is
  turn_bounded e (trying more) t is = try_bounded e t is
  turn_bounded e ending t is = record {
    retired = is.retired;
    resume = omega (arith, is.resume);
    order = longer 0 t.cycle (t.cycle + 1) t.slots (omega arith) is.order;
  }
  turn_bounded e stopping t is = is
  turn_bounded e halted t is = is

  telling_bounded : (t : Timing) (at : At) (epoch : ℕ) (os : List Order) → IsBounded t → IsBounded (telling t at epoch os).place.timing
  telling_bounded t at epoch [] is = is
  telling_bounded t at epoch (o ∷ os) is = is

  step_bounded : (e : Entry) (p : TimingPlace) (owed : List Order) → IsBounded p.timing → IsBounded (step_by s e p owed).place.timing
  step_bounded e p [] is =
      let behind = timing_turn s e p.at p.timing in
      telling_bounded behind.timing behind.at p.epoch behind.orders (turn_bounded e p.at p.timing is)
  step_bounded e p (o ∷ os) is = is

  start_bounded : IsBounded (seen_at s (place s 0)).timing
  unfolding place timing_place_start timing_start
  start_bounded = subst (λ (p : TimingPlace). IsBounded p.timing) (sym (starts s)) (record { retired = omega arith; resume = omega arith; order = omega arith })

  pub seen_bounded : (k : ℕ) → IsBounded (seen_at s (place s k)).timing
  unfolding timing_step
  seen_bounded zero = start_bounded
  seen_bounded (suc k) =
      let p = seen_at s (place s k) in
      let e = needed_entry s (place s k) in
      subst (λ (q : TimingPlace). IsBounded q.timing) (ap (λ (x : Stepped). x.place) (place_step s k)) (step_bounded e p p.owed (seen_bounded k))
