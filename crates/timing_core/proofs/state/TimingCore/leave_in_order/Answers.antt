use Rattle.std.proofs.Common.{◌≡◌, ℕ, ◌+◌, ◌-◌, ◌<◌, ◌^◌, Option, Some, None, ap, sym, ◌∙◌, subst, arith}
use Rattle.mono_model.specs.declared.setup.Setup.{Setup}
use Rattle.timing_side.specs.Timing.{Timing}
use Rattle.timing_side.specs.Commit.{Committed, plain, ended_with, leaving, commits}
use Rattle.timing_core.specs.declared.commit.Committed.{Committed as Ended}
use Rattle.timing_core.specs.declared.commit.Leaving.{Leaving}
use Rattle.timing_core.specs.CoreStandsFor.{CoreStandsFor}
use Rattle.timing_core.specs.Small.{IsBelow, IsSmall}
use Rattle.timing_core.specs.Leaving.{kind_of, behind_of, ended_by, ending_in}
use Rattle.timing_core.proofs.Leaving.{IsUnderWay, go_on_by, commits_next, commits_over, below_more, leaves_below}
use Rattle.timing_core.proofs.state.TimingCore.leave_in_order.Goals as goal

-- the next slot, and how the phase goes on behind it
module _ (s : Setup) (most : ℕ) (t : Timing) (left : ℕ) (behind : Timing) (way : IsUnderWay s most t left behind) where
  small_still : left < 2 ^ 32 → IsBelow (2 ^ 63 + 2 ^ 32) behind
  small_still below = below_more (2 ^ 63 + left) (2 ^ 63 + 2 ^ 32) behind (omega arith) way.below

  goes_on : (kind : Leaving) (ended : Option Ended) → left < most → kind ≡ kind_of (leaving s behind) → ended ≡ ended_by kind left →
      commits s most 0 t ≡ go_on_by ended (behind_of behind (leaving s behind)) (λ later. commits s (most - (left + 1)) (left + 1) later)
  goes_on kind ended below is ends = way.same ∙ commits_next s behind most left kind ended below is ends

-- the phase has ended
ended_is : (c : goal.In-Some) (s : Setup) (t : Timing) → (k : CoreStandsFor s t c.args.self.now) → IsSmall t →
    (behind : Timing) × (CoreStandsFor s behind c.leave-leaving.new.self)
    × (commits s c.args.most 0 t ≡ record { timing = behind; left = c.in-Some.committed.left; ending = ending_in c.in-Some.committed.ending })
ended_is c s t k small =
    let (behind, kept, way) = c.loop-left.invariant s t k small in
    let still = small_still s c.args.most t c.loop-left.left behind way (omega arith) in (
      behind_of behind (leaving s behind),
      c.leave-leaving.ensures.kept s behind kept still,
      goes_on s c.args.most t c.loop-left.left behind way c.leave-leaving.result (Some c.in-Some.committed) (omega arith)
          (c.leave-leaving.ensures.kind s behind kept still) c.in-Some.ensures.ended,
    )

pub returns-in-Some-clause-kept : goal.returns-in-Some-clause-kept
returns-in-Some-clause-kept c = λ s t k small.
    let (behind, kept, is) = ended_is c s t k small in
    let P : Committed → Type 0 = λ x. CoreStandsFor s x.timing c.leave-leaving.new.self in
    subst P (sym is) kept

pub returns-in-Some-clause-left : goal.returns-in-Some-clause-left
returns-in-Some-clause-left c = λ s t k small. ap (λ (x : Committed). x.left) (sym (ended_is c s t k small).2)

pub returns-in-Some-clause-ending : goal.returns-in-Some-clause-ending
returns-in-Some-clause-ending c = λ s t k small. ap (λ (x : Committed). x.ending) (sym (ended_is c s t k small).2)

pub loop-left-preserved : goal.loop-left-preserved
loop-left-preserved c = λ s t k small.
    let (behind, kept, way) = c.loop-left.invariant s t k small in
    let left : ℕ = c.loop-left.left in
    let still = small_still s c.args.most t left behind way (omega arith) in
    let kind = c.leave-leaving.ensures.kind s behind kept still in
    let none : None ≡ ended_by c.leave-leaving.result left = sym c.in_default.is ∙ c.ended_by.ensures.ended in (
      behind_of behind (leaving s behind),
      c.leave-leaving.ensures.kept s behind kept still,
      record {
        below =
            below_more (2 ^ 63 + left + 1) (2 ^ 63 + (left + 1)) (behind_of behind (leaving s behind)) (omega arith)
            (leaves_below s behind left (2 ^ 63 + left) c.leave-leaving.result kind none way.below);
        same = goes_on s c.args.most t left behind way c.leave-leaving.result None (omega arith) kind none;
      },
    )

-- all left that may
over_is : (c : goal.After-loop-left) (s : Setup) (t : Timing) → (k : CoreStandsFor s t c.args.self.now) → IsSmall t →
    (behind : Timing) × (CoreStandsFor s behind c.loop-left.self)
    × (commits s c.args.most 0 t ≡ ended_with behind c.args.most plain)
over_is c s t k small =
    let (behind, kept, way) = c.loop-left.invariant s t k small in
    let all : c.loop-left.left ≡ c.args.most = omega arith in
    let rest : c.args.most - c.loop-left.left ≡ 0 = omega arith in (
      behind,
      kept,
      way.same ∙ ap (λ (n : ℕ). commits s n c.loop-left.left behind) rest ∙ commits_over s behind c.loop-left.left ∙ ap (λ (n : ℕ). ended_with behind n plain) all,
    )

pub returns-clause-kept : goal.returns-clause-kept
returns-clause-kept c = λ s t k small.
    let (behind, kept, is) = over_is c s t k small in
    let P : Committed → Type 0 = λ x. CoreStandsFor s x.timing c.loop-left.self in
    subst P (sym is) kept

pub returns-clause-left : goal.returns-clause-left
returns-clause-left c = λ s t k small. ap (λ (x : Committed). x.left) (sym (over_is c s t k small).2)

pub returns-clause-ending : goal.returns-clause-ending
returns-clause-ending c = λ s t k small. ap (λ (x : Committed). x.ending) (sym (over_is c s t k small).2)
