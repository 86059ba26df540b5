use Rattle.std.proofs.Common.{Some, is_none, is_some, if◌then◌else◌, ap, ◌∙◌, subst}
use Rattle.fsim_base.specs.declared.access.Access.TheVariants as access
use Rattle.trace_entry.specs.declared.Entry.{Entry}
use Rattle.mono_model.specs.Arch.{Arch}
use Rattle.mono_model.specs.Sequence.{entry_at, seq}
use Rattle.func_model.specs.Contents.{ContentsStandFor, before}
use Rattle.func_model.specs.History.{resumed}
use Rattle.func_model.proofs.Fetching.{still_stands}
use Rattle.func_model.proofs.contents.Contents.probe.Goals as goal

pub returns-clause-stands : goal.returns-clause-stands
returns-clause-stands g c = λ s a h.
    let ready = c.take_interrupt-interrupted.ensures.stands s a h in
    let still = still_stands s (before c.args.number a) c.take_interrupt-interrupted.new.self c.fetch-fetched.new.self c.fetch-fetched.ensures.others ready in
    let step = c.carry_out.ensures.step s (before c.args.number a) still in
    let P : Arch → Type 0 = λ x. ContentsStandFor {D = g.row.D.Denot} s x c.unmake.new.self in
    subst P (ap (resumed c.take_interrupt-interrupted.result) step.back ∙ c.take_interrupt-interrupted.ensures.back s a h)
    (c.unmake.ensures.stands s (seq s (Some c.args.number) (before c.args.number a)) step.stands)

pub returns-clause-access : goal.returns-clause-access
unfolding entry_at
returns-clause-access g c = λ s a h.
    let ready = c.take_interrupt-interrupted.ensures.stands s a h in
    let still = still_stands s (before c.args.number a) c.take_interrupt-interrupted.new.self c.fetch-fetched.new.self c.fetch-fetched.ensures.others ready in
    let step = c.carry_out.ensures.step s (before c.args.number a) still in
    c.retired_access.ensures.access ∙ ap (λ (e : Entry). if is_none e.cause then e.access else access.Nothing) step.entry

pub returns-clause-sent : goal.returns-clause-sent
unfolding entry_at
returns-clause-sent g c = λ s a h.
    let ready = c.take_interrupt-interrupted.ensures.stands s a h in
    let still = still_stands s (before c.args.number a) c.take_interrupt-interrupted.new.self c.fetch-fetched.new.self c.fetch-fetched.ensures.others ready in
    let step = c.carry_out.ensures.step s (before c.args.number a) still in
    c.is_some.ensures ∙ ap (λ (e : Entry). is_some e.out) step.entry
