use Rattle.std.proofs.Common.{refl, ap, ◌∙◌}
use Rattle.mono_model.specs.Found.{is_fence_i}
use Rattle.phys_mem.specs.Ram.{exec_of}
use Rattle.func_model.specs.Hart.{arch_of, found_in}
use Rattle.func_model.specs.Contents.{before}
use Rattle.func_model.proofs.Advance.{met_found}
use Rattle.func_model.proofs.Fetching.{still_stands}
use Rattle.func_model.proofs.Unmaking.{made_is}
use Rattle.func_model.proofs.contents.Contents.make.Goals as goal

pub returns-clause-stands : goal.returns-clause-stands
returns-clause-stands g c = λ s a h.
    (c.carry_out.ensures.step s (before c.args.number a)
    (still_stands s (before c.args.number a) c.take_interrupt-interrupted.new.self c.fetch-fetched.new.self c.fetch-fetched.ensures.others (c.take_interrupt-interrupted.ensures.stands s a h))).stands

pub returns-clause-made : goal.returns-clause-made
unfolding arch_of
returns-clause-made g c = λ s a h.
    let ready = c.take_interrupt-interrupted.ensures.stands s a h in
    let side = c.take_interrupt-interrupted.new.self in
    let still = still_stands s (before c.args.number a) side c.fetch-fetched.new.self c.fetch-fetched.ensures.others ready in
    let step = c.carry_out.ensures.step s (before c.args.number a) still in
    made_is s c.args.number a c.carry_out.result.0 _
    step.entry
    c.is_some.ensures
    refl
    (c.is_fence_i-is_fence.ensures.fence
    ∙ ap is_fence_i
    (met_found s (exec_of side.hart.memory) (found_in c.fetch-fetched.result) (arch_of side.hart side.bus) (before c.args.number a) ready.exec ready.arch c.fetch-fetched.ensures.found))
    step.back
    (c.take_interrupt-interrupted.ensures.back s a h)
