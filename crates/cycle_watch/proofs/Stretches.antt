-- The cycles in which nothing happens are counted, one stretch after another, by whatever counts them; and a look is one cycle
-- and those after it.
use Rattle.std.proofs.Common.{◌≡◌, ◌∙◌, ℕ, ◌+◌, ◌-◌, ◌≤◌, ◌<◌, List, [], ◌∷◌, ◌++◌, refl, sym, ap, subst, arith}
use Rattle.std.proofs.lemmas.List.{append-nil}
use Rattle.mono_model.specs.declared.params.Params.{Params}
use Rattle.insight_model.specs.declared.pipeline.Pipeline.{Pipeline}
use Rattle.insight_model.specs.declared.pipeline.Pipeline.TheVariants.{Inorder, Window}
use Rattle.insight_model.specs.Sight.{Sight}
use Rattle.insight_model.specs.Facts.{Facts, facts as cycle_facts}
use Rattle.insight_model.specs.Head.{Known}
use Rattle.insight_model.specs.Cycles.{Cycle, cycles_from, known_after}
use Rattle.cycle_watch.specs.declared.heads.Heads.{Heads}
use Rattle.cycle_watch.specs.Facts.{at_cycle}
use Rattle.cycle_watch.specs.Known.{StandsAt}
use Rattle.cycle_watch.specs.Passing.{StandsBetween, WentBy, facts_since, idle_between, idle_facts, known_later}
use Rattle.cycle_watch.proofs.Between.{between_more, later_more, run_more}

-- What a stretch of cycles does to what counts them: where its heads stand, and what it has counted.
pub record PassesIdle {T I : Type 0} (heads : T → Heads) (Has : I → Pipeline → Params → List Cycle → T → Type 0) (after : Sight) (old new : T) : Type 0 where
  pub stands : (p : Params) (known : Known) → StandsAt Window p (at_cycle (heads old).last.cycle after) known (heads old)
      → StandsAt Window p (at_cycle (heads new).last.cycle after) (known_later Window p known (idle_between (heads old).last.cycle (heads new).last.cycle after)) (heads new)
  pub counted : (it : I) (p : Params) (known : Known) (run : List Cycle) → StandsAt Window p (at_cycle (heads old).last.cycle after) known (heads old) → Has it Window p run old
      → Has it Window p (run ++ cycles_from Window p known (idle_between (heads old).last.cycle (heads new).last.cycle after)) new

-- some stretches were counted since
pub record HasPassedIdle {T I : Type 0} (heads : T → Heads) (Has : I → Pipeline → Params → List Cycle → T → Type 0) (Stands : T → Type 0) (after : Sight) (old now : T) : Type 0 where
  pub on : (heads old).last.cycle ≤ (heads now).last.cycle
  pub within : (heads now).last.cycle ≤ after.cycle
  pub standing : (heads now).last.cycle < after.cycle → Stands now
  pub idle : PassesIdle heads Has after old now
  pub none : (heads old).last.cycle ≡ after.cycle → now ≡ old

none_between : (cycle : ℕ) (after : Sight) → idle_between cycle cycle after ≡ []
none_between cycle after = let none : cycle - cycle ≡ 0 = omega arith in ap (λ (n : ℕ). idle_facts n (at_cycle cycle after)) none

module _ {T I : Type 0} (heads : T → Heads) (Has : I → Pipeline → Params → List Cycle → T → Type 0) (Stands : T → Type 0) (after : Sight) where
  -- before the first
  pub none_passed : (old : T) → (heads old).last.cycle ≤ after.cycle → ((heads old).last.cycle < after.cycle → Stands old) → HasPassedIdle heads Has Stands after old old
  unfolding cycles_from
  none_passed old within standing = record {
    on = omega arith;
    within = within;
    standing = standing;
    idle = record {
      stands = λ p known stands.
          let K : List Facts → Type 0 = λ fs. StandsAt Window p (at_cycle (heads old).last.cycle after) (known_later Window p known fs) (heads old) in
          subst K (sym (none_between (heads old).last.cycle after)) stands;
      counted = λ it p known run stands counted.
          let K : List Facts → Type 0 = λ fs. Has it Window p (run ++ cycles_from Window p known fs) old in
          let R : List Cycle → Type 0 = λ r. Has it Window p r old in
          subst K (sym (none_between (heads old).last.cycle after)) (subst R (sym (append-nil run)) counted);
    };
    none = λ ended. refl;
  }

  -- and one more
  module _ (old now next : T) (has : HasPassedIdle heads Has Stands after old now) (below : (heads now).last.cycle < after.cycle) (more : PassesIdle heads Has after now next)
      (on : (heads now).last.cycle < (heads next).last.cycle) (within : (heads next).last.cycle ≤ after.cycle) where
    joined : idle_between (heads old).last.cycle (heads next).last.cycle after
        ≡ idle_between (heads old).last.cycle (heads now).last.cycle after ++ idle_between (heads now).last.cycle (heads next).last.cycle after
    joined = between_more (heads old).last.cycle (heads now).last.cycle (heads next).last.cycle after has.on (omega (arith, on))

    both : PassesIdle heads Has after old next
    both = record {
      stands = λ p known stands.
          let K : Known → Type 0 = λ k. StandsAt Window p (at_cycle (heads next).last.cycle after) k (heads next) in
          let some = idle_between (heads old).last.cycle (heads now).last.cycle after in
          let others = idle_between (heads now).last.cycle (heads next).last.cycle after in
          subst K (sym (ap (known_later Window p known) joined ∙ later_more Window p known some others))
          (more.stands p (known_later Window p known some) (has.idle.stands p known stands));
      counted = λ it p known run stands counted.
          let R : List Cycle → Type 0 = λ r. Has it Window p r next in
          let some = idle_between (heads old).last.cycle (heads now).last.cycle after in
          let others = idle_between (heads now).last.cycle (heads next).last.cycle after in
          subst R (run_more Window p known run some others ∙ ap (λ (fs : List Facts). run ++ cycles_from Window p known fs) (sym joined))
          (more.counted it p (known_later Window p known some) (run ++ cycles_from Window p known some) (has.idle.stands p known stands) (has.idle.counted it p known run stands counted));
    }

    pub more_passed : ((heads next).last.cycle < after.cycle → Stands next) → HasPassedIdle heads Has Stands after old next
    more_passed standing = record {
      on = omega (arith, has.on, on);
      within = within;
      standing = standing;
      idle = both;
      none = λ ended. absurd (omega (arith, ended, has.on, below));
    }

  -- all were counted
  module _ (old now : T) (has : HasPassedIdle heads Has Stands after old now) (ended : (heads now).last.cycle ≡ after.cycle) where
    pub all_stand : (p : Params) (known : Known) → StandsAt Window p (at_cycle (heads old).last.cycle after) known (heads old) →
        StandsAt Window p after (known_later Window p known (idle_between (heads old).last.cycle after.cycle after)) (heads now)
    all_stand p known stands =
        let C : ℕ → Type 0 = λ c. StandsAt Window p (at_cycle c after) (known_later Window p known (idle_between (heads old).last.cycle c after)) (heads now) in
        subst C ended (has.idle.stands p known stands)

    pub all_counted : (it : I) (p : Params) (known : Known) (run : List Cycle) → StandsAt Window p (at_cycle (heads old).last.cycle after) known (heads old) → Has it Window p run old →
        Has it Window p (run ++ cycles_from Window p known (idle_between (heads old).last.cycle after.cycle after)) now
    all_counted it p known run stands counted =
        let C : ℕ → Type 0 = λ c. Has it Window p (run ++ cycles_from Window p known (idle_between (heads old).last.cycle c after)) now in
        subst C ended (has.idle.counted it p known run stands counted)

-- the observer stands between two cycles still
abbrev pub between_later : (after : Sight) (old new : Heads) → StandsBetween old after → old.last.cycle < new.last.cycle →
    ((p : Params) (known : Known) → StandsAt Window p (at_cycle old.last.cycle after) known old →
    StandsAt Window p (at_cycle new.last.cycle after) (known_later Window p known (idle_between old.last.cycle new.last.cycle after)) new) → StandsBetween new after
between_later after old new st on stands = record {
  params = st.params;
  known = known_later Window st.params st.known (idle_between old.last.cycle new.last.cycle after);
  stands = stands st.params st.known st.stands;
  started = omega (arith, on);
  small = st.small;
  goes = st.goes;
  within = st.within;
  few = st.few;
}

-- A look: the first cycle, and the others.
module _ (p : Params) (before after : Sight) (known : Known) (more : ℕ) where
  abbrev first : Facts
  first = cycle_facts before after

  -- where the observer stands after the first
  abbrev then : Sight
  then = at_cycle (before.cycle + 1) after

  -- others go by of the machine around a window alone
  abbrev pub window_between : (heads : Heads) → WentBy Window more before after → StandsAt Window p then (known_after Window p first known) heads → heads.last.cycle < after.cycle → StandsBetween heads after
  window_between heads went stands less =
      let S : ℕ → Type 0 = λ c. StandsAt Window p (at_cycle c after) (known_after Window p first known) heads in
      record {
        params = p;
        known = known_after Window p first known;
        stands = subst S (sym stands.keeps.cycle) stands;
        started = omega (arith, stands.keeps.cycle);
        small = went.small;
        goes = went.stopped (omega (arith, less, stands.keeps.cycle, went.cycle));
        within = went.follows.within;
        few = went.follows.small;
      }

  pub stands_between : (kind : Pipeline) (heads : Heads) → WentBy kind more before after → StandsAt kind p then (known_after kind p first known) heads → heads.last.cycle < after.cycle → StandsBetween heads after
  stands_between Inorder heads went stands less =
      absurd (omega (arith, less, stands.keeps.cycle, went.cycle, went.each refl))
  stands_between Window heads went stands less = window_between heads went stands less

  -- by how many the run has gone on since
  pub others_are : (kind : Pipeline) (heads : Heads) → WentBy kind more before after → heads.last.cycle ≡ before.cycle + 1 → idle_between heads.last.cycle after.cycle after ≡ idle_facts more then
  others_are kind heads went at =
      let count : after.cycle - heads.last.cycle ≡ more = omega (arith, at, went.cycle) in
      λ i. idle_facts (count i) (at_cycle (at i) after)

  pub counted_last : {T I : Type 0} (heads : T → Heads) (Has : I → Pipeline → Params → List Cycle → T → Type 0) (it : I) (kind : Pipeline) (run : List Cycle) (mid new : T) → WentBy kind more before after →
      StandsAt kind p then (known_after kind p first known) (heads mid) → Has it kind p (run ++ cycles_from kind p known (first ∷ [])) mid →
      ((q : Params) (k : Known) (r : List Cycle) → StandsAt Window q (at_cycle (heads mid).last.cycle after) k (heads mid) → Has it Window q r mid →
      Has it Window q (r ++ cycles_from Window q k (idle_between (heads mid).last.cycle after.cycle after)) new) →
      ((heads mid).last.cycle ≡ after.cycle → new ≡ mid) → Has it kind p (run ++ cycles_from kind p known (facts_since more before after)) new
  counted_last {T = T} heads Has it Inorder run mid new went stands counted idle none =
      let ended : (heads mid).last.cycle ≡ after.cycle = omega (arith, stands.keeps.cycle, went.cycle, went.each refl) in
      let N : T → Type 0 = λ x. Has it Inorder p (run ++ cycles_from Inorder p known (facts_since more before after)) x in
      let K : ℕ → Type 0 = λ m. Has it Inorder p (run ++ cycles_from Inorder p known (facts_since m before after)) mid in
      subst N (sym (none ended)) (subst K (sym (went.each refl)) counted)
  counted_last heads Has it Window run mid new went stands counted idle none =
      let S : ℕ → Type 0 = λ c. StandsAt Window p (at_cycle c after) (known_after Window p first known) (heads mid) in
      let F : List Facts → Type 0 =
      λ fs. Has it Window p ((run ++ cycles_from Window p known (first ∷ [])) ++ cycles_from Window p (known_after Window p first known) fs) new in
      let R : List Cycle → Type 0 = λ r. Has it Window p r new in
      subst R (run_more Window p known run (first ∷ []) (idle_facts more then))
      (subst F (others_are Window (heads mid) went stands.keeps.cycle)
      (idle p (known_after Window p first known) (run ++ cycles_from Window p known (first ∷ [])) (subst S (sym stands.keeps.cycle) stands) counted))
