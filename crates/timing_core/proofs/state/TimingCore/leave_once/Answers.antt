use Rattle.std.proofs.Common.{◌≡◌, ◌+◌, ◌^◌, Some, None, ap, sym, ◌∙◌, subst, arith}
use Rattle.mono_model.specs.declared.setup.Setup.{Setup}
use Rattle.timing_side.specs.Timing.{Timing}
use Rattle.timing_side.specs.Commit.{Committed, plain, ended_with, leaving, commits}
use Rattle.timing_core.specs.declared.commit.Committed.{Committed as Ended}
use Rattle.timing_core.specs.declared.commit.Leaving.{Leaving}
use Rattle.timing_core.specs.CoreStandsFor.{CoreStandsFor}
use Rattle.timing_core.specs.Small.{IsBelow, IsSmall}
use Rattle.timing_core.specs.Leaving.{kind_of, behind_of, ended_by, ending_in}
use Rattle.timing_core.proofs.Leaving.{commits_next, commits_over, below_more}
use Rattle.timing_core.proofs.state.TimingCore.leave_once.Goals as goal

-- the numbers that the call asks for
almost : (t : Timing) → IsSmall t → IsBelow (2 ^ 63 + 2 ^ 32) t
almost t small = below_more (2 ^ 63) (2 ^ 63 + 2 ^ 32) t (omega arith) small

-- where the phase ends at the oldest slot, and where the next might follow
ended_is : (s : Setup) (t : Timing) (kind : Leaving) (committed : Ended) → kind ≡ kind_of (leaving s t) → Some committed ≡ ended_by kind 0 →
    commits s 1 0 t ≡ record { timing = behind_of t (leaving s t); left = committed.left; ending = ending_in committed.ending }
ended_is s t kind committed is ends = commits_next s t 1 0 kind (Some committed) (omega arith) is ends

over_is : (s : Setup) (t : Timing) (kind : Leaving) → kind ≡ kind_of (leaving s t) → None ≡ ended_by kind 0 →
    commits s 1 0 t ≡ ended_with (behind_of t (leaving s t)) 1 plain
over_is s t kind is ends = commits_next s t 1 0 kind None (omega arith) is ends ∙ commits_over s (behind_of t (leaving s t)) 1

pub returns-in-Some-clause-kept : goal.returns-in-Some-clause-kept
returns-in-Some-clause-kept c = λ s t k small.
    let is = ended_is s t c.leave-leaving.result c.in-Some.committed (c.leave-leaving.ensures.kind s t k (almost t small)) (sym c.in-Some.is ∙ c.ended_by.ensures.ended) in
    subst (λ (x : Committed). CoreStandsFor s x.timing c.leave-leaving.new.self) (sym is) (c.leave-leaving.ensures.kept s t k (almost t small))

pub returns-in-Some-clause-left : goal.returns-in-Some-clause-left
returns-in-Some-clause-left c = λ s t k small.
    ap (λ (x : Committed). x.left) (sym (ended_is s t c.leave-leaving.result c.in-Some.committed (c.leave-leaving.ensures.kind s t k (almost t small)) (sym c.in-Some.is ∙ c.ended_by.ensures.ended)))

pub returns-in-Some-clause-ending : goal.returns-in-Some-clause-ending
returns-in-Some-clause-ending c = λ s t k small.
    ap (λ (x : Committed). x.ending) (sym (ended_is s t c.leave-leaving.result c.in-Some.committed (c.leave-leaving.ensures.kind s t k (almost t small)) (sym c.in-Some.is ∙ c.ended_by.ensures.ended)))

pub returns-in-None-clause-kept : goal.returns-in-None-clause-kept
returns-in-None-clause-kept c = λ s t k small.
    let is = over_is s t c.leave-leaving.result (c.leave-leaving.ensures.kind s t k (almost t small)) (sym c.in-None.is ∙ c.ended_by.ensures.ended) in
    subst (λ (x : Committed). CoreStandsFor s x.timing c.leave-leaving.new.self) (sym is) (c.leave-leaving.ensures.kept s t k (almost t small))

pub returns-in-None-clause-left : goal.returns-in-None-clause-left
returns-in-None-clause-left c = λ s t k small.
    ap (λ (x : Committed). x.left) (sym (over_is s t c.leave-leaving.result (c.leave-leaving.ensures.kind s t k (almost t small)) (sym c.in-None.is ∙ c.ended_by.ensures.ended)))

pub returns-in-None-clause-ending : goal.returns-in-None-clause-ending
returns-in-None-clause-ending c = λ s t k small.
    ap (λ (x : Committed). x.ending) (sym (over_is s t c.leave-leaving.result (c.leave-leaving.ensures.kind s t k (almost t small)) (sym c.in-None.is ∙ c.ended_by.ensures.ended)))
