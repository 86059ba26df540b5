use Rattle.std.proofs.Common.{sym, subst}
use Rattle.func_model.specs.declared.walk.Walk.{Walk}
use Rattle.func_model.specs.Walk.{WalkStandsFor}
use Rattle.func_model.proofs.Bending.{MayCommit, committed_stands, committed_able}
use Rattle.func_model.proofs.side.FuncSide.obey.Given as given
use Rattle.func_model.proofs.side.FuncSide.obey.Goals as goal

-- the walk inside is the one that clauses see
may_inside : (g : given.Over) (c : goal.After-commit g) → MayCommit c.args.order c.self.inside.walk
may_inside g c =
    let P : Walk g.row.D.Denot → Type 0 = λ w. MayCommit c.args.order w in
    subst P (sym c.self.view_is) (record { from = c.requires.from; reach = c.requires.reach; within = c.requires.within })

pub invariant_of-self-in-Commit : goal.invariant_of-self-in-Commit
invariant_of-self-in-Commit g c =
    committed_able c.args.order c.in-Commit.n c.self.inside.walk c.commit.new.self c.in-Commit.is (may_inside g c) c.self.invariant c.commit.ensures.holds c.commit.ensures.others

pub returns-in-Commit-clause-stands : goal.returns-in-Commit-clause-stands
returns-in-Commit-clause-stands g c = λ s os h.
    let P : Walk g.row.D.Denot → Type 0 = λ w. WalkStandsFor s os w in
    let inside = subst P (sym c.self.view_is) h in
    committed_stands s os c.args.order c.in-Commit.n c.self.inside.walk c.commit.new.self c.in-Commit.is (may_inside g c) inside (c.commit.ensures.holds s os inside.holds) c.commit.ensures.others
