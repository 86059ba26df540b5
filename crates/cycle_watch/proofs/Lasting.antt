-- So many cycles in which nothing happens and nothing turns, one after another.
use Rattle.std.proofs.Common.{◌≡◌, ◌∙◌, ℕ, zero, suc, ◌+◌, ◌≤◌, ◌<◌, false, List, [], ◌∷◌, ◌++◌, length, refl, subst, sym, ap, arith}
use Rattle.mono_model.specs.declared.params.Params.{Params}
use Rattle.insight_model.specs.declared.pipeline.Pipeline.TheVariants.{Window}
use Rattle.insight_model.specs.declared.cycle_cause.CycleCause.{CycleCause}
use Rattle.insight_model.specs.declared.fetch_end.FetchEnd.{FetchEnd}
use Rattle.insight_model.specs.Cause.{Charge}
use Rattle.insight_model.specs.Sight.{Shown, Sight}
use Rattle.insight_model.specs.Facts.{Facts, facts as cycle_facts, has_stopped, window_before}
use Rattle.insight_model.specs.Fetch.{fetch_end}
use Rattle.insight_model.specs.Stack.{waiting_in}
use Rattle.insight_model.specs.Accesses.{misses_after}
use Rattle.insight_model.specs.Origin.{origins_after, refill_after}
use Rattle.insight_model.specs.Head.{Known, head}
use Rattle.insight_model.specs.Cycles.{Cycle, cycles_from, known_after}
use Rattle.cycle_watch.specs.declared.facts.Facts.{Facts as FactsInCode}
use Rattle.cycle_watch.specs.Facts.{at_cycle, idle}
use Rattle.cycle_watch.specs.Passing.{idle_facts, known_later}
use Rattle.cycle_watch.proofs.Alike.{idle_misses, idle_origins, idle_refill, idle_seen}
use Rattle.cycle_watch.proofs.Idling.{NoTurns, end_same, head_same, idle_before, idle_facts_are}
use Rattle.cycle_watch.proofs.Stacked.{AreSpent, IsSpent}

-- what is known in a window, but for what holes are
pub record SameKnown (a b : Known) : Type 0 where
  pub misses : a.misses ≡ b.misses
  pub origins : a.origins ≡ b.origins
  pub refill : a.refill ≡ b.refill

pub same_known : (a b c : Known) → SameKnown a b → SameKnown b c → SameKnown a c
same_known a b c first second = record { misses = first.misses ∙ second.misses; origins = first.origins ∙ second.origins; refill = first.refill ∙ second.refill }

-- as many as there are instructions
pub record Fits (s : Sight) (known : Known) : Type 0 where
  pub misses : length known.misses ≡ length s.window
  pub origins : length known.origins ≡ length s.window

module _ (p : Params) where
  pub known_idle : (s : Sight) (known : Known) → has_stopped s.end ≡ false → Fits s known → SameKnown (known_after Window p (cycle_facts s (idle s)) known) known
  unfolding known_after
  known_idle s known goes fits = record {
    misses = ap (λ (f : Facts). misses_after Window p f known.misses) (idle_facts_are s goes) ∙ idle_misses p s known.misses fits.misses;
    origins = ap (λ (f : Facts). origins_after p f known.refill known.origins) (idle_facts_are s goes) ∙ idle_origins p s known.refill known.origins fits.origins;
    refill = ap (λ (f : Facts). refill_after f known.refill) (idle_facts_are s goes) ∙ idle_refill p s known.refill;
  }

  fits_same : (s : Sight) (a b : Known) → SameKnown a b → Fits s b → Fits s a
  fits_same s a b same fits = record { misses = ap (length {A = ℕ}) same.misses ∙ fits.misses; origins = ap (length {A = Charge}) same.origins ∙ fits.origins }

  -- after so many
  pub known_idle_later : (more : ℕ) (s : Sight) (known : Known) → has_stopped s.end ≡ false → Fits s known → SameKnown (known_later Window p known (idle_facts more s)) known
  known_idle_later zero s known goes fits = record { misses = refl; origins = refl; refill = refl }
  known_idle_later (suc more) s known goes fits =
      let next = known_after Window p (cycle_facts s (idle s)) known in
      let same = known_idle s known goes fits in
      let there = fits_same s next known same fits in
      same_known (known_later Window p next (idle_facts more (idle s))) next known
      (known_idle_later more (idle s) next goes (record { misses = there.misses; origins = there.origins })) same

  -- each of them is spent as the first one
  pub spent_alike : (b : Sight) (first : Known) (from end : ℕ) (f : FactsInCode) (cause : CycleCause) (why : FetchEnd) (waiting : ℕ) → NoTurns p b first from end → Fits b first →
      (head Window p (cycle_facts (at_cycle from b) (idle (at_cycle from b))) first).cause ≡ cause →
      fetch_end Window p (cycle_facts (at_cycle from b) (idle (at_cycle from b))) ≡ why → f.left ≡ 0 → f.before ≡ length b.window → waiting_in b.window ≡ waiting →
      (more c : ℕ) (known : Known) → from ≤ c → c + more ≤ end → SameKnown known first →
      AreSpent Window p f cause why waiting (cycles_from Window p known (idle_facts more (at_cycle c b)))
  unfolding cycles_from
  spent_alike b first from end f cause why waiting still fits charged ended none all waits zero c known since fit same = tt
  spent_alike b first from end f cause why waiting still fits charged ended none all waits (suc more) c known since fit same =
      let below : c < end = omega (arith, fit) in
      let s : Sight = at_cycle c b in
      let are : cycle_facts s (idle s) ≡ idle_seen s = idle_facts_are s still.goes in
      let window : window_before (cycle_facts s (idle s)) ≡ b.window = ap window_before are ∙ idle_before s in
      let own : IsSpent Window p f cause why waiting (record { facts = cycle_facts s (idle s); head = head Window p (cycle_facts s (idle s)) known }) = record {
        head = ap (λ (h : Charge). h.cause) (head_same p b first known from end c since below still same.misses same.origins) ∙ charged;
        ends = end_same p b first known from end c since below still same.misses same.origins ∙ ended;
        left = ap (λ (x : Facts). length x.left) are ∙ sym none;
        before = ap (length {A = Shown}) window ∙ sym all;
        waiting = ap waiting_in window ∙ waits;
      } in
      let next = known_after Window p (cycle_facts s (idle s)) known in
      let later : SameKnown next first = same_known next known first (known_idle s known still.goes (record {
        misses = ap (length {A = ℕ}) same.misses ∙ fits.misses;
        origins = ap (length {A = Charge}) same.origins ∙ fits.origins;
      })) same in
      let one : c + 1 + more ≤ end = omega (arith, fit) in
      (own, spent_alike b first from end f cause why waiting still fits charged ended none all waits more (c + 1) next (omega (arith, since)) one later)
