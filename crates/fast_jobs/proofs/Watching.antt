-- An observer that looks at each cycle of a run as it begins has counted all of them at the end.
use Rattle.std.proofs.Common.{◌≡◌, ◌∙◌, ℕ, zero, suc, ◌+◌, ◌<◌, ◌≤◌, true, false, List, [], ◌∷◌, ◌++◌, length, refl, sym, ap, subst, arith}
use borrow.Author.Count.{below_more}
use Rattle.mono_model.specs.declared.params.Params.{Params}
use Rattle.mono_model.specs.declared.setup.Setup.{Setup}
use Rattle.mono_model.specs.Setup.{is_setup}
use Rattle.mono_model.specs.Final.{has_ended}
use Rattle.mono_model.specs.Machine.{machine_start}
use Rattle.mono_model.specs.Cycle.{mono}
use Rattle.inorder_machine.specs.InorderMachine.{inorder_start}
use Rattle.inorder_machine.specs.Cycle.{inorder}
use Rattle.insight_model.specs.declared.pipeline.Pipeline.{Pipeline}
use Rattle.insight_model.specs.declared.pipeline.Pipeline.TheVariants.{Window, Inorder}
use Rattle.insight_model.specs.Sight.{Sight}
use Rattle.insight_model.specs.Facts.{Facts, facts}
use Rattle.insight_model.specs.OfState.{inorder_sight, sight}
use Rattle.insight_model.specs.Head.{Known}
use Rattle.insight_model.specs.Cycles.{Cycle, cycles, cycles_from, known_start}
use Rattle.mono_model.proofs.Sound.{setup_facts}
use Rattle.insight_laws.proofs.Sights.{EndsInorder, inorder_cycles, inorder_follows, inorder_sight_next, window_cycles, window_follows, window_next}
use Rattle.insight_laws.proofs.Growing.{Lasts, facts_from, inorder_told, one_more, window_told}
use Rattle.cycle_watch.specs.declared.heads.Heads.{Heads}
use Rattle.cycle_watch.specs.Known.{StandsAt}
use Rattle.cycle_watch.specs.Passing.{WentBy, facts_since, known_later}
use Rattle.cycle_watch.proofs.Between.{cycles_count, cycles_more, later_more}
use Rattle.fast_jobs.specs.Job.{CanWatch}
use Rattle.fast_jobs.specs.Played.{sight_at}
use Rattle.fast_jobs.proofs.PlayedWindow.{window_end}
use Rattle.fast_jobs.proofs.PlayedInorder.{inorder_end}

-- the setup is sound, whichever machine runs it
pub can_sound : (pipeline : Pipeline) (s : Setup) → CanWatch pipeline s → is_setup s ≡ true
can_sound Window s can = can
can_sound Inorder s can = can.sound

-- what so many cycles did, from the start of a run; what is known after them; and the cycles
abbrev pub facts_of : Pipeline → Setup → ℕ → List Facts
facts_of pipeline s count = facts_from (sight_at pipeline s) 0 count

abbrev pub known_of : Pipeline → Setup → ℕ → Known
known_of pipeline s count = known_later pipeline s.params (known_start s.image.entry) (facts_of pipeline s count)

abbrev pub cycles_of : Pipeline → Setup → ℕ → List Cycle
cycles_of pipeline s count = cycles_from pipeline s.params (known_start s.image.entry) (facts_of pipeline s count)

module _ (pipeline : Pipeline) (s : Setup) (count : ℕ) where
  abbrev pub next_facts : List Facts
  next_facts = facts (sight_at pipeline s count) (sight_at pipeline s (suc count)) ∷ []

  facts_grow : facts_of pipeline s (suc count) ≡ facts_of pipeline s count ++ next_facts
  facts_grow = one_more (sight_at pipeline s) count 0 count (omega arith)

  pub known_grows : known_of pipeline s (suc count) ≡ known_later pipeline s.params (known_of pipeline s count) next_facts
  known_grows =
      ap (known_later pipeline s.params (known_start s.image.entry)) facts_grow
      ∙ later_more pipeline s.params (known_start s.image.entry) (facts_of pipeline s count) next_facts

  pub cycles_grow : cycles_of pipeline s (suc count) ≡ cycles_of pipeline s count ++ cycles_from pipeline s.params (known_of pipeline s count) next_facts
  cycles_grow =
      ap (cycles_from pipeline s.params (known_start s.image.entry)) facts_grow
      ∙ cycles_more pipeline s.params (known_start s.image.entry) (facts_of pipeline s count) next_facts

-- where the run has ended, or no more cycles are told, these are all
abbrev pub IsAll : Pipeline → Setup → ℕ → Type 0
IsAll pipeline s count = Lasts (λ k. has_ended (sight_at pipeline s k).end) 0 count s.cycles

pub all_cycles : (pipeline : Pipeline) (s : Setup) (count : ℕ) → IsAll pipeline s count → cycles pipeline s s.cycles ≡ cycles_of pipeline s count
unfolding cycles
all_cycles Window s count all =
    ap (cycles_from Window s.params (known_start s.image.entry)) (window_told s s.cycles count (record {
      before = λ k from below. ap has_ended (sym (window_end (mono s k))) ∙ all.before k from below;
      within = all.within;
      last = λ less. ap has_ended (sym (window_end (mono s (0 + count)))) ∙ all.last less;
    }))
all_cycles Inorder s count all =
    ap (cycles_from Inorder s.params (known_start s.image.entry)) (inorder_told s s.cycles count (record {
      before = λ k from below. ap has_ended (sym (inorder_end (inorder s k))) ∙ all.before k from below;
      within = all.within;
      last = λ less. ap has_ended (sym (inorder_end (inorder s (0 + count)))) ∙ all.last less;
    }))

-- One cycle goes by, where the run goes on.
pub went_by : (pipeline : Pipeline) (s : Setup) (n : ℕ) → CanWatch pipeline s → EndsInorder s → has_ended (sight_at pipeline s n).end ≡ false → WentBy pipeline 0 (sight_at pipeline s n) (sight_at pipeline s (n + 1))
went_by Window s n can once goes =
    let sound = setup_facts s can in
    record {
      cycle = omega (arith, window_next s n sound.some_cycle goes);
      follows = window_follows s n can;
      small = omega (arith, window_cycles s (n + 1) sound.some_cycle, sound.cycles);
      each = λ is. refl;
      stopped = λ more. absurd (omega (arith, more));
    }
went_by Inorder s n can once goes =
    let sound = setup_facts s can.sound in
    record {
      cycle = omega (arith, inorder_sight_next s n once goes);
      follows = inorder_follows s n can once;
      small = omega (arith, inorder_cycles s (n + 1) once, sound.cycles);
      each = λ is. refl;
      stopped = λ more. absurd (omega (arith, more));
    }

-- Before the first cycle nothing is seen.
pub first_cycle : (pipeline : Pipeline) (s : Setup) → (sight_at pipeline s 0).cycle ≡ 0
unfolding sight inorder_sight mono inorder machine_start inorder_start
first_cycle Window s = refl
first_cycle Inorder s = refl

pub first_window : (pipeline : Pipeline) (s : Setup) → (sight_at pipeline s 0).window ≡ []
unfolding sight inorder_sight mono inorder machine_start inorder_start
first_window Window s = refl
first_window Inorder s = refl

-- The observer looked at so many cycles of a run, before each of which it went on.
pub record HasLooked (pipeline : Pipeline) (s : Setup) (count : ℕ) (heads : Heads) : Type 0 where
  pub stands : StandsAt pipeline s.params (sight_at pipeline s count) (known_of pipeline s count) heads
  pub cycle : (sight_at pipeline s count).cycle ≡ count
  pub went : (k : ℕ) → k < count → has_ended (sight_at pipeline s k).end ≡ false

pub none_looked : (pipeline : Pipeline) (s : Setup) (heads : Heads) → StandsAt pipeline s.params (sight_at pipeline s 0) (known_start s.image.entry) heads → HasLooked pipeline s 0 heads
none_looked pipeline s heads stands = record {
  stands = stands;
  cycle = first_cycle pipeline s;
  went = λ k less. absurd (omega (arith, less));
}

facts_length : (seen : ℕ → Sight) (n count : ℕ) → length (facts_from seen n count) ≡ count
facts_length seen n zero = refl
facts_length seen n (suc count) = ap suc (facts_length seen (suc n) count)

pub cycles_length : (pipeline : Pipeline) (s : Setup) (count : ℕ) → length (cycles_of pipeline s count) ≡ count
cycles_length pipeline s count =
    cycles_count pipeline s.params (known_start s.image.entry) (facts_of pipeline s count) ∙ facts_length (sight_at pipeline s) 0 count

-- It looks at the next one, as it is shown.
module _ (pipeline : Pipeline) (s : Setup) (n : ℕ) (shown : Sight) (is : shown ≡ sight_at pipeline s (n + 1)) where
  abbrev pub before : Sight
  before = sight_at pipeline s n

  next : suc n ≡ n + 1
  next = omega arith

  at : shown ≡ sight_at pipeline s (suc n)
  at = is ∙ ap (sight_at pipeline s) (sym next)

  pub went_there : CanWatch pipeline s → EndsInorder s → has_ended before.end ≡ false → WentBy pipeline 0 before shown
  went_there can once goes = let W : Sight → Type 0 = λ x. WentBy pipeline 0 before x in subst W (sym is) (went_by pipeline s n can once goes)

  pub one_looked : (heads new : Heads) → HasLooked pipeline s n heads → WentBy pipeline 0 before shown → has_ended before.end ≡ false →
      StandsAt pipeline s.params shown (known_later pipeline s.params (known_of pipeline s n) (facts_since 0 before shown)) new → HasLooked pipeline s (n + 1) new
  one_looked heads new has went goes stands =
      let S : Sight → Type 0 = λ x. StandsAt pipeline s.params x (known_later pipeline s.params (known_of pipeline s n) (facts before x ∷ [])) new in
      let K : Known → Type 0 = λ k. StandsAt pipeline s.params (sight_at pipeline s (suc n)) k new in
      let H : ℕ → Type 0 = λ k. HasLooked pipeline s k new in
      let same : shown.cycle ≡ (sight_at pipeline s (suc n)).cycle = ap (λ (x : Sight). x.cycle) at in
      let goes_on : (k : ℕ) → k < n + 1 → has_ended (sight_at pipeline s k).end ≡ false =
      below_more (λ (k : ℕ). has_ended (sight_at pipeline s k).end ≡ false) n has.went goes in
      subst H next (record {
        stands = subst K (sym (known_grows pipeline s n)) (subst S at stands);
        cycle = omega (arith, same, went.cycle, has.cycle);
        went = λ k less. goes_on k (omega (arith, less));
      })

  -- what holds of the cycles so far and of one more
  pub one_told : (T : List Cycle → Type 0) → T (cycles_of pipeline s n ++ cycles_from pipeline s.params (known_of pipeline s n) (facts_since 0 before shown)) → T (cycles_of pipeline s (n + 1))
  one_told T told =
      let C : Sight → Type 0 = λ x. T (cycles_of pipeline s n ++ cycles_from pipeline s.params (known_of pipeline s n) (facts before x ∷ [])) in
      subst (λ (k : ℕ). T (cycles_of pipeline s k)) next (subst T (sym (cycles_grow pipeline s n)) (subst C at told))

-- Where the run has ended, or its limit is reached, these are all its cycles.
pub all_told : (pipeline : Pipeline) (s : Setup) (n : ℕ) (heads : Heads) (T : List Cycle → Type 0) → HasLooked pipeline s n heads → n ≤ s.cycles →
    (n < s.cycles → has_ended (sight_at pipeline s n).end ≡ true) → T (cycles_of pipeline s n) → T (cycles pipeline s s.cycles)
all_told pipeline s n heads T has within ended told =
    let none : 0 + n ≡ n = omega arith in
    let all : IsAll pipeline s n = record {
      before = λ k from below. has.went k (omega (arith, below));
      within = within;
      last = λ less. ap (λ (k : ℕ). has_ended (sight_at pipeline s k).end) none ∙ ended less;
    } in
    subst T (sym (all_cycles pipeline s n all)) told
