use Rattle.std.proofs.Common.{ap, sym, ◌∙◌, subst, drop}
use Rattle.timing_side.specs.Commit.{Leaving}
use Rattle.timing_core.specs.CoreStandsFor.{CoreStandsFor}
use Rattle.timing_core.specs.Leaving.{kind_of, behind_of}
use Rattle.timing_core.proofs.Leaving.{leaves_done}
use Rattle.timing_core.proofs.Retiring.{quiet_leaves}
use Rattle.timing_core.proofs.state.TimingCore.leave.Goals as goal

pub returns-in-Some-clause-kept : goal.returns-in-Some-clause-kept
returns-in-Some-clause-kept c = λ s t k below.
    let P : Leaving → Type 0 = λ l. CoreStandsFor s (behind_of t l) c.retire_quiet.new.self in
    let quiet = c.is_quiet.ensures.quiet c.if-is_quiet.true in
    subst P (sym (leaves_done s t c.args.self.now.flight.slots c.in-Some.slot c.in-Some.ensures.oldest c.in-Some.ensures.done k.slots ∙ quiet_leaves s c.in-Some.slot (drop 1 t.slots) t quiet))
    (c.retire_quiet.ensures.kept s t k below)

pub returns-in-Some-clause-kind : goal.returns-in-Some-clause-kind
returns-in-Some-clause-kind c = λ s t k below.
    let quiet = c.is_quiet.ensures.quiet c.if-is_quiet.true in
    ap kind_of (sym (leaves_done s t c.args.self.now.flight.slots c.in-Some.slot c.in-Some.ensures.oldest c.in-Some.ensures.done k.slots ∙ quiet_leaves s c.in-Some.slot (drop 1 t.slots) t quiet))

pub returns-in-Some-2-clause-kept : goal.returns-in-Some-2-clause-kept
returns-in-Some-2-clause-kept c = λ s t k below.
    let P : Leaving → Type 0 = λ l. CoreStandsFor s (behind_of t l) c.leave_done.new.self in
    subst P (sym (leaves_done s t c.args.self.now.flight.slots c.in-Some.slot c.in-Some.ensures.oldest c.in-Some.ensures.done k.slots))
    (c.leave_done.ensures.kept s t c.in-Some.slot c.in-Some.ensures.oldest k below)

pub returns-in-Some-2-clause-kind : goal.returns-in-Some-2-clause-kind
returns-in-Some-2-clause-kind c = λ s t k below.
    c.leave_done.ensures.kind s t c.in-Some.slot c.in-Some.ensures.oldest k below
    ∙ ap kind_of (sym (leaves_done s t c.args.self.now.flight.slots c.in-Some.slot c.in-Some.ensures.oldest c.in-Some.ensures.done k.slots))
