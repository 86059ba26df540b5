use Rattle.std.proofs.Common.{ap, ◌∙◌}
use Rattle.mono_model.specs.Found.{is_fence_i}
use Rattle.phys_mem.specs.Ram.{exec_of}
use Rattle.func_model.specs.Hart.{arch_of, found_in}
use Rattle.func_model.specs.Contents.{before}
use Rattle.func_model.proofs.Advance.{met_found}
use Rattle.func_model.proofs.Fetching.{still_stands}
use Rattle.func_model.proofs.contents.Contents.tell.Goals as goal

pub returns-clause-stands : goal.returns-clause-stands
returns-clause-stands g c = λ s a h.
    (c.carry_out.ensures.step s (before c.args.number a)
    (still_stands s (before c.args.number a) c.take_interrupt.new.self c.fetch-fetched.new.self c.fetch-fetched.ensures.others (c.take_interrupt.ensures.stands s a h))).stands

pub returns-clause-entry : goal.returns-clause-entry
returns-clause-entry g c = λ s a h.
    (c.carry_out.ensures.step s (before c.args.number a)
    (still_stands s (before c.args.number a) c.take_interrupt.new.self c.fetch-fetched.new.self c.fetch-fetched.ensures.others (c.take_interrupt.ensures.stands s a h))).entry

pub returns-clause-fence : goal.returns-clause-fence
unfolding arch_of
returns-clause-fence g c = λ s a h.
    let ready = c.take_interrupt.ensures.stands s a h in
    let side = c.take_interrupt.new.self in
    c.is_fence_i-is_fence.ensures.fence
    ∙ ap is_fence_i (met_found s (exec_of side.hart.memory) (found_in c.fetch-fetched.result) (arch_of side.hart side.bus) (before c.args.number a) ready.exec ready.arch c.fetch-fetched.ensures.found)
