-- A look at a machine: one cycle that did something, and then others in which nothing happened.
use Rattle.std.proofs.Common.{◌≡◌, ◌∙◌, ℕ, suc, ◌+◌, ◌≤◌, ◌<◌, List, [], ◌∷◌, ◌++◌, length, length-append, refl, sym, ap, subst, arith}
use Rattle.std.specs.Prelude.{sum}
use Rattle.std.proofs.lemmas.List.{length-take-le}
use Rattle.std.proofs.lemmas.List.Sums.{sum-map}
use Rattle.mono_model.specs.declared.params.Params.{Params}
use Rattle.insight_model.specs.declared.pipeline.Pipeline.{Pipeline}
use Rattle.insight_model.specs.declared.pipeline.Pipeline.TheVariants.{Inorder, Window}
use Rattle.insight_model.specs.declared.cycle_cause.CycleCause.{CycleCause}
use Rattle.insight_model.specs.declared.fetch_end.FetchEnd.{FetchEnd}
use Rattle.insight_model.specs.Sight.{Shown, Sight}
use Rattle.insight_model.specs.Facts.{Facts, facts as cycle_facts}
use Rattle.insight_model.specs.Fetch.{fetch_end}
use Rattle.insight_model.specs.Head.{Known, head}
use Rattle.insight_model.specs.Cause.{causes}
use Rattle.insight_model.specs.Stack.{head_count, waiting_in}
use Rattle.insight_laws.proofs.Counting.{heads_add_up}
use Rattle.insight_model.specs.Cycles.{Cycle, cycles_from, known_after}
use Rattle.report_text.specs.declared.stack.StackCounts.{StackCounts}
use Rattle.cycle_watch.specs.declared.facts.Facts.{Facts as FactsInCode}
use Rattle.cycle_watch.specs.declared.heads.Heads.{Heads}
use Rattle.cycle_watch.specs.Facts.{Follows, IsTold, at_cycle}
use Rattle.cycle_watch.specs.Known.{MayPass, StandsAt}
use Rattle.cycle_watch.specs.Passing.{WentBy, facts_since, idle_between, idle_facts, known_later}
use Rattle.cycle_watch.specs.Counted.{IsStackOf, IsStackingBetween, counted}
use Rattle.cycle_watch.proofs.Between.{cycles_count, facts_count}
use Rattle.cycle_watch.proofs.Heading.{told_before}
use Rattle.cycle_watch.proofs.Stacked.{IsSpent, stack_more}
use Rattle.cycle_watch.proofs.Stretches.{others_are, window_between}

pub may_look : (kind : Pipeline) (p : Params) (before after : Sight) (known : Known) (more : ℕ) (heads : Heads) (f : FactsInCode) → StandsAt kind p before known heads →
    WentBy kind more before after → IsTold before after f → MayPass heads after f
may_look kind p before after known more heads f stands went told = record {
  pipeline = kind;
  params = p;
  before = before;
  known = known;
  stands = stands;
  follows = went.follows;
  told = told;
  small = omega (arith, went.small, went.cycle);
}

-- the cycles after the first
abbrev pub rest_of : ℕ → Sight → Sight → List Facts
rest_of more before after = idle_facts more (at_cycle (before.cycle + 1) after)

-- where the observer stands after the first
abbrev pub after_first : Sight → Sight → Sight
after_first before after = at_cycle (before.cycle + 1) after

module _ (p : Params) (before after : Sight) (known : Known) (more : ℕ) where
  abbrev first : Facts
  first = cycle_facts before after

  -- others may be counted of the machine around a window alone
  pub stacks_between : (kind : Pipeline) (run : List Cycle) (heads : Heads) (counts : StackCounts) → WentBy kind more before after → length run ≡ before.cycle →
      StandsAt kind p (after_first before after) (known_after kind p first known) heads → IsStackOf kind p (run ++ cycles_from kind p known (first ∷ [])) counts →
      heads.last.cycle < after.cycle → IsStackingBetween (record { heads = heads; counts = counts }) after
  stacks_between Inorder run heads counts went short stands counted less =
      absurd (omega (arith, less, stands.keeps.cycle, went.cycle, went.each refl))
  stacks_between Window run heads counts went short stands counted less =
      let one : length (cycles_from Window p known (first ∷ [])) ≡ 1 = cycles_count Window p known (first ∷ []) in
      record {
        between = window_between p before after known more heads went stands less;
        run = run ++ cycles_from Window p known (first ∷ []);
        counted = counted;
        short = omega (arith, short, one, length-append run (cycles_from Window p known (first ∷ [])), stands.keeps.cycle);
      }

  module _ (heads new : Heads) where
    here_is : WentBy Inorder more before after → after_first before after ≡ after
    here_is went = let at : before.cycle + 1 ≡ after.cycle = omega (arith, went.cycle, went.each refl) in λ i. at_cycle (at i) after

    pub stands_last : (kind : Pipeline) → WentBy kind more before after → StandsAt kind p (after_first before after) (known_after kind p first known) heads →
        ((q : Params) (k : Known) → StandsAt Window q (at_cycle heads.last.cycle after) k heads → StandsAt Window q after (known_later Window q k (idle_between heads.last.cycle after.cycle after)) new) →
        (heads.last.cycle ≡ after.cycle → new ≡ heads) → StandsAt kind p after (known_later kind p known (facts_since more before after)) new
    stands_last Inorder went stands idle none =
        let ended : heads.last.cycle ≡ after.cycle = omega (arith, stands.keeps.cycle, went.cycle, went.each refl) in
        let N : Heads → Type 0 = λ h. StandsAt Inorder p after (known_later Inorder p known (facts_since more before after)) h in
        let K : ℕ → Type 0 = λ m. StandsAt Inorder p after (known_later Inorder p known (facts_since m before after)) heads in
        let A : Sight → Type 0 = λ s. StandsAt Inorder p s (known_after Inorder p first known) heads in
        subst N (sym (none ended)) (subst K (sym (went.each refl)) (subst A (here_is went) stands))
    stands_last Window went stands idle none =
        let S : ℕ → Type 0 = λ c. StandsAt Window p (at_cycle c after) (known_after Window p first known) heads in
        let F : List Facts → Type 0 = λ fs. StandsAt Window p after (known_later Window p (known_after Window p first known) fs) new in
        subst F (others_are p before after known more Window heads went stands.keeps.cycle) (idle p (known_after Window p first known) (subst S (sym stands.keeps.cycle) stands))

-- one cycle is counted
pub stacked_one : (kind : Pipeline) (p : Params) (before after : Sight) (known : Known) (heads : Heads) (f : FactsInCode) (charged : CycleCause) (why : FetchEnd) →
    StandsAt kind p before known heads → Follows before after → IsTold before after f → f.left ≤ 8 → f.before ≤ 256 →
    charged ≡ (head kind p (cycle_facts before after) known).cause → why ≡ fetch_end kind p (cycle_facts before after) →
    (run : List Cycle) (counts : StackCounts) → IsStackOf kind p run counts →
    IsStackOf kind p (run ++ cycles_from kind p known (cycle_facts before after ∷ [])) (counted f charged why heads.last.waiting 1 counts)
unfolding cycles_from
stacked_one kind p before after known heads f charged why stands follows told left few charge ends run counts is =
    let F : Facts = cycle_facts before after in
    let window = told_before before after f told follows in
    let cycle : Cycle = record { facts = F; head = head kind p F known } in
    let spent : IsSpent kind p f charged why heads.last.waiting cycle = record {
      head = sym charge;
      ends = sym ends;
      left = ap (λ (x : Facts). length x.left) (sym told.facts) ∙ length-take-le f.left before.window (omega (arith, told.left, told.kept, follows.kept));
      before = ap (length {A = Shown}) window ∙ sym told.all;
      waiting = ap waiting_in window ∙ sym stands.keeps.noted.waiting;
    } in
    stack_more kind p f charged why heads.last.waiting run (cycle ∷ []) counts left few is (spent, tt)

-- the counts of all causes add up to the cycles
pub heads_sum : (kind : Pipeline) (p : Params) (run : List Cycle) (counts : StackCounts) → IsStackOf kind p run counts → sum counts.heads ≡ length run
heads_sum kind p run counts is = ap sum is.heads ∙ sum-map (head_count run) causes ∙ heads_add_up run

-- how many went by
pub since_count : (kind : Pipeline) (p : Params) (known : Known) (before after : Sight) (more : ℕ) → length (cycles_from kind p known (facts_since more before after)) ≡ suc more
since_count kind p known before after more =
    cycles_count kind p known (facts_since more before after) ∙ ap suc (facts_count more (after_first before after))
