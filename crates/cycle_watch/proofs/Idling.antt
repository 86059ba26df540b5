-- Cycles in which nothing happens and nothing turns are charged alike, of the machine around a window.
use Rattle.std.proofs.Common.{◌≡◌, ◌∙◌, ℕ, zero, suc, ◌+◌, ◌-◌, ◌≤◌, ◌<◌, ◌⊎◌, ◌==◌, Bool, true, false, if◌then◌else◌, is_some, nat_lt, Option, Some, None, List, [], ◌∷◌, ◌++◌, drop, length, take, refl, inl, inr, min, subst, sym, ap, arith, ⊎_elim}
use Rattle.std.specs.Prelude.{slice_get, slice_index, slice_index_or, unwrap_or}
use Rattle.std.proofs.lemmas.Bool.{le-ltb, lt-ltb, ne_eqb}
use Rattle.std.proofs.lemmas.List.{drop_all}
use Rattle.mono_model.specs.declared.params.Params.{Params}
use Rattle.insight_model.specs.declared.pipeline.Pipeline.TheVariants.{Window}
use Rattle.insight_model.specs.declared.cycle_cause.CycleCause.TheVariants.{Commit, Dcache, Icache, Start}
use Rattle.insight_model.specs.Cause.{Charge, charge}
use Rattle.insight_model.specs.Sight.{Outcome, Progress, Shown, Sight, waiting, executing, accessing, done, access_shown, class_shown, is_done_at}
use Rattle.insight_model.specs.Facts.{Facts, facts as cycle_facts, has_stopped, window_before}
use Rattle.insight_model.specs.Fetch.{fetch_end}
use Rattle.insight_model.specs.Hole.{class_cause}
use Rattle.insight_model.specs.Head.{Known, head, is_missing_at, is_young, latest, window_head}
use Rattle.cycle_watch.specs.Facts.{at_cycle, idle}
use Rattle.cycle_watch.specs.Passing.{IsApart}
use Rattle.cycle_watch.proofs.Alike.{idle_seen}
use Rattle.cycle_watch.proofs.Idle.{idle_is_told}
use Rattle.cycle_watch.proofs.Windows.{window_whole}

-- what is told of such a cycle
pub idle_facts_are : (s : Sight) → has_stopped s.end ≡ false → cycle_facts s (idle s) ≡ idle_seen s
idle_facts_are s goes = sym (idle_is_told s goes).facts

pub idle_before : (s : Sight) → window_before (idle_seen s) ≡ s.window
idle_before s = window_whole s.window s.window 0 (length s.window) (omega arith)

head_idle : (p : Params) (s : Sight) (known : Known) → head Window p (idle_seen s) known ≡ window_head p (idle_seen s) known s.window
unfolding head
head_idle p s known = ap (window_head p (idle_seen s) known) (idle_before s)

-- a test by the cycle is the same in all of them, if it doesn't turn
module _ (from end c : ℕ) (since : from ≤ c) (below : c < end) where
  before_same : (turn : ℕ) → IsApart from turn end → nat_lt c turn ≡ nat_lt from turn
  before_same turn apart =
      ⊎_elim (λ early. le-ltb c turn (omega (arith, early, since)) ∙ sym (le-ltb from turn early))
      (λ late. lt-ltb c turn (omega (arith, late, below)) ∙ sym (lt-ltb from turn (omega (arith, late, below, since)))) apart

  after_same : (turn : ℕ) → IsApart from (turn + 1) end → nat_lt turn c ≡ nat_lt turn from
  after_same turn apart =
      ⊎_elim (λ early. lt-ltb turn c (omega (arith, early, since)) ∙ sym (lt-ltb turn from (omega (arith, early))))
      (λ late. le-ltb turn c (omega (arith, late, below)) ∙ sym (le-ltb turn from (omega (arith, late, below, since)))) apart

  missing_same : (m : ℕ) (q : Progress) → ((e : ℕ) (o : Outcome) → q ≡ executing e o → IsApart from (e - m + 1) end) → is_missing_at c m q ≡ is_missing_at from m q
  missing_same m waiting apart = refl
  missing_same m (executing e o) apart = after_same (e - m) (apart e o refl)
  missing_same m (accessing e o) apart = refl
  missing_same m (done o) apart = refl

-- nothing turns
pub record NoTurns (p : Params) (b : Sight) (known : Known) (from end : ℕ) : Type 0 where
  pub started : 0 < from
  pub goes : has_stopped b.end ≡ false
  pub resume : IsApart from b.resume end
  pub young : (o : Shown) → slice_get b.window 0 ≡ Some o → IsApart from (o.since + p.core_front + 2) end
  pub missing : (o : Shown) (e : ℕ) (out : Outcome) → slice_get b.window 0 ≡ Some o → o.progress ≡ executing e out
      → IsApart from (e - slice_index known.misses 0 + 1) end

module _ (p : Params) (b : Sight) (first known : Known) (from end c : ℕ) (since : from ≤ c) (below : c < end) (still : NoTurns p b first from end)
    (misses : known.misses ≡ first.misses) (origins : known.origins ≡ first.origins) where
  charged_same : (w : List Shown) → b.window ≡ w →
      window_head p (idle_seen (at_cycle c b)) known w ≡ window_head p (idle_seen (at_cycle from b)) first w
  charged_same [] is =
      let now : (c == 0) ≡ false = ne_eqb c 0 (λ e. omega (arith, e, since, still.started)) in
      let early : (from == 0) ≡ false = ne_eqb from 0 (λ e. omega (arith, e, still.started)) in
      ap (λ (z : Bool). charge (if z then Start else Icache) (unwrap_or b.missing 0)) (now ∙ sym early)
  charged_same (o ∷ rest) is =
      let oldest : slice_get b.window 0 ≡ Some o = ap (λ (w : List Shown). slice_get w 0) is in
      let young : is_young p c o ≡ is_young p from o = before_same from end c since below (o.since + p.core_front + 2) (still.young o oldest) in
      let miss : slice_index known.misses 0 ≡ slice_index first.misses 0 = ap (λ (ms : List ℕ). slice_index ms 0) misses in
      let missing : is_missing_at c (slice_index known.misses 0) o.progress ≡ is_missing_at from (slice_index first.misses 0) o.progress =
      ap (λ (m : ℕ). is_missing_at c m o.progress) miss
      ∙ missing_same from end c since below (slice_index first.misses 0) o.progress (λ e out at. still.missing o e out oldest at) in
      λ i. if is_done_at o.progress then charge Commit o.addr
      else (if young i then slice_index_or (origins i) 0 (charge Start o.addr)
      else charge (if missing i then Dcache else class_cause (class_shown o) (access_shown (latest (idle_seen (at_cycle from b)) o))) o.addr)

  pub head_same : head Window p (cycle_facts (at_cycle c b) (idle (at_cycle c b))) known ≡ head Window p (cycle_facts (at_cycle from b) (idle (at_cycle from b))) first
  head_same =
      ap (λ (f : Facts). head Window p f known) (idle_facts_are (at_cycle c b) still.goes)
      ∙ head_idle p (at_cycle c b) known
      ∙ charged_same b.window refl
      ∙ sym (head_idle p (at_cycle from b) first)
      ∙ ap (λ (f : Facts). head Window p f first) (sym (idle_facts_are (at_cycle from b) still.goes))

  fetch_same : fetch_end Window p (idle_seen (at_cycle c b)) ≡ fetch_end Window p (idle_seen (at_cycle from b))
  unfolding fetch_end
  fetch_same =
      ap (λ (w : Bool). fetch_end Window p (record (idle_seen (at_cycle from b)) { waited = w })) (before_same from end c since below b.resume still.resume)

  pub end_same : fetch_end Window p (cycle_facts (at_cycle c b) (idle (at_cycle c b))) ≡ fetch_end Window p (cycle_facts (at_cycle from b) (idle (at_cycle from b)))
  end_same =
      ap (fetch_end Window p) (idle_facts_are (at_cycle c b) still.goes) ∙ fetch_same ∙ ap (fetch_end Window p) (sym (idle_facts_are (at_cycle from b) still.goes))

-- a turn that doesn't come in some cycles doesn't in fewer, and may be capped at a number that the cycles don't reach
pub apart_less : (from turn end less : ℕ) → less ≤ end → IsApart from turn end → IsApart from turn less
apart_less from turn end less order apart = ⊎_elim (λ early. inl early) (λ late. inr (omega (arith, late, order))) apart

pub apart_capped : (from turn end most : ℕ) → from < most → IsApart from (min turn most) end → IsApart from turn end
apart_capped from turn end most below apart = ⊎_elim (λ early. inl (omega (arith, early, below))) (λ late. inr (omega (arith, late))) apart
