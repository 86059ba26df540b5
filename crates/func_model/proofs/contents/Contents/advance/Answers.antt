use Rattle.std.proofs.Common.{◌≡◌, true, Some, None, ap, sym, ◌∙◌, arith}
use Rattle.machine_csr.specs.declared.csrs.Csrs.{Csrs}
use Rattle.device_bus.specs.declared.undo.Note.TheVariants as note
use Rattle.mono_model.specs.Setup.{ram_range}
use Rattle.mono_model.specs.Arch.{Arch}
use Rattle.mono_model.specs.Found.{is_fence_i}
use Rattle.mono_model.specs.Effect.{note_of}
use Rattle.mono_model.specs.Result.{Result}
use Rattle.mono_model.specs.Sequence.{found_next, result_at}
use Rattle.phys_mem.specs.Ram.{exec_of, range_of}
use Rattle.func_model.specs.declared.hart.Hart.{Hart}
use Rattle.func_model.specs.Hart.{arch_of, found_in}
use Rattle.func_model.specs.Steps.{result_of}
use Rattle.func_model.proofs.Compared.{compare_kept, compare_in, compare_for}
use Rattle.func_model.proofs.Advance.{met_found, met_behind, met_stepped, after_plain, after_fence, fence_plain, fence_silent, result_same}
use Rattle.func_model.proofs.Counts.{behind_retired}
use Rattle.func_model.proofs.Fetching.{still_stands}
use Rattle.func_model.proofs.contents.Contents.advance.Goals as goal

pub returns-then-is_fence_i-clause-stepped : goal.returns-then-is_fence_i-clause-stepped
unfolding arch_of
returns-then-is_fence_i-clause-stepped g c = λ s a is h.
    let still = still_stands s a c.args.self.now c.fetch-fetched.new.self c.fetch-fetched.ensures.others h in
    met_stepped s (Some c.args.time) c.args.limit (range_of c.fetch-fetched.new.self.memory) (found_in c.fetch-fetched.result) (arch_of c.fetch-fetched.new.self c.args.self.now.bus) a c.execute-done.result.stepped
    (sym is) still.range still.arch (met_found s (exec_of c.args.self.now.hart.memory) (found_in c.fetch-fetched.result) (arch_of c.args.self.now.hart c.args.self.now.bus) a h.exec h.arch c.fetch-fetched.ensures.found) c.execute-done.ensures.told.stepped

pub returns-else-is_fence_i-clause-stepped : goal.returns-else-is_fence_i-clause-stepped
unfolding arch_of
returns-else-is_fence_i-clause-stepped g c = λ s a is h.
    let still = still_stands s a c.args.self.now c.fetch-fetched.new.self c.fetch-fetched.ensures.others h in
    met_stepped s (Some c.args.time) c.args.limit (range_of c.fetch-fetched.new.self.memory) (found_in c.fetch-fetched.result) (arch_of c.fetch-fetched.new.self c.args.self.now.bus) a c.execute-done.result.stepped
    (sym is) still.range still.arch (met_found s (exec_of c.args.self.now.hart.memory) (found_in c.fetch-fetched.result) (arch_of c.args.self.now.hart c.args.self.now.bus) a h.exec h.arch c.fetch-fetched.ensures.found) c.execute-done.ensures.told.stepped

pub returns-else-is_fence_i-clause-stands : goal.returns-else-is_fence_i-clause-stands
unfolding arch_of
returns-else-is_fence_i-clause-stands g c = λ s a is h.
    let still = still_stands s a c.args.self.now c.fetch-fetched.new.self c.fetch-fetched.ensures.others h in
    let found = met_found s (exec_of c.args.self.now.hart.memory) (found_in c.fetch-fetched.result) (arch_of c.args.self.now.hart c.args.self.now.bus) a h.exec h.arch c.fetch-fetched.ensures.found in
    let made = after_plain s (found_next s a) (result_at s (Some c.args.time) a) c.args.time a _
    (sym (ap is_fence_i found) ∙ sym c.is_fence_i.ensures.fence ∙ c.if-is_fence_i.false)
    (met_behind s (Some c.args.time) c.args.limit (range_of c.fetch-fetched.new.self.memory) (found_in c.fetch-fetched.result) (arch_of c.fetch-fetched.new.self c.args.self.now.bus) a _ (sym is) still.range still.arch found c.execute-done.ensures.arch) in
    record {
      arch = made;
      exec = c.execute-done.ensures.exec ∙ still.exec;
      range = c.execute-done.ensures.range ∙ still.range;
      compare = compare_for c.compare_behind-self.result (arch_of c.execute-done.new.self c.execute-done.new.bus) _ made
          (compare_kept c.execute-done.result.change c.args.self.now.cmp c.compare_behind-self.result c.args.self.now.bus c.execute-done.new.bus c.execute-done.ensures.back.devices
          (compare_in c.args.self.now.cmp (arch_of c.fetch-fetched.new.self c.args.self.now.bus) a still.arch still.compare) c.compare_behind-self.ensures.compare);
    }

pub returns-then-is_fence_i-clause-stands : goal.returns-then-is_fence_i-clause-stands
unfolding arch_of
returns-then-is_fence_i-clause-stands g c = λ s a is h.
    let still = still_stands s a c.args.self.now c.fetch-fetched.new.self c.fetch-fetched.ensures.others h in
    let found = met_found s (exec_of c.args.self.now.hart.memory) (found_in c.fetch-fetched.result) (arch_of c.args.self.now.hart c.args.self.now.bus) a h.exec h.arch c.fetch-fetched.ensures.found in
    let fence : is_fence_i (found_next s a) ≡ true = sym (ap is_fence_i found) ∙ sym c.is_fence_i.ensures.fence ∙ c.if-is_fence_i.true in
    let plain : (result_at s (Some c.args.time) a).cause ≡ None = sym (ap (λ (r : Result). r.cause) (result_same s (Some c.args.time) a)) ∙ fence_plain (ram_range s.params) (found_next s a) (Some c.args.time) a fence in
    let silent : note_of (result_at s (Some c.args.time) a) a ≡ note.Nothing = sym (ap (λ (r : Result). note_of r a) (result_same s (Some c.args.time) a)) ∙ fence_silent (ram_range s.params) (found_next s a) (Some c.args.time) a fence in
    let made = after_fence s (found_next s a) (result_at s (Some c.args.time) a) c.args.time a (arch_of c.execute-done.new.self c.execute-done.new.bus) _ (exec_of c.execute-done.new.self.memory) fence plain silent
    (c.execute-done.ensures.exec ∙ still.exec)
    (met_behind s (Some c.args.time) c.args.limit (range_of c.fetch-fetched.new.self.memory) (found_in c.fetch-fetched.result) (arch_of c.fetch-fetched.new.self c.args.self.now.bus) a _ (sym is) still.range still.arch found c.execute-done.ensures.arch)
    (c.sync.ensures.arch c.execute-done.new.bus) in
    record {
      arch = made;
      exec = c.sync.ensures.exec ∙ c.execute-done.ensures.exec ∙ still.exec;
      range = c.sync.ensures.range ∙ c.execute-done.ensures.range ∙ still.range;
      compare = compare_for c.compare_behind-self.result (arch_of c.sync.new.self c.execute-done.new.bus) _ made
          (compare_kept c.execute-done.result.change c.args.self.now.cmp c.compare_behind-self.result c.args.self.now.bus c.execute-done.new.bus c.execute-done.ensures.back.devices
          (compare_in c.args.self.now.cmp (arch_of c.fetch-fetched.new.self c.args.self.now.bus) a still.arch still.compare) c.compare_behind-self.ensures.compare);
    }

pub returns-then-is_fence_i-clause-bound : goal.returns-then-is_fence_i-clause-bound
unfolding arch_of
returns-then-is_fence_i-clause-bound g c =
    omega (arith, ap (λ (x : Csrs). x.retired) c.sync.ensures.csrs, ap (λ (x : Arch). x.csrs.retired) c.execute-done.ensures.arch, ap (λ (x : Hart). x.csrs.retired) c.fetch-fetched.ensures.others, behind_retired c.args.limit (found_in c.fetch-fetched.result) (result_of (range_of c.fetch-fetched.new.self.memory) (found_in c.fetch-fetched.result) (Some c.args.time) (arch_of c.fetch-fetched.new.self c.args.self.now.bus)) (Some c.args.time) (arch_of c.fetch-fetched.new.self c.args.self.now.bus))

pub returns-else-is_fence_i-clause-bound : goal.returns-else-is_fence_i-clause-bound
unfolding arch_of
returns-else-is_fence_i-clause-bound g c =
    omega (arith, ap (λ (x : Arch). x.csrs.retired) c.execute-done.ensures.arch, ap (λ (x : Hart). x.csrs.retired) c.fetch-fetched.ensures.others, behind_retired c.args.limit (found_in c.fetch-fetched.result) (result_of (range_of c.fetch-fetched.new.self.memory) (found_in c.fetch-fetched.result) (Some c.args.time) (arch_of c.fetch-fetched.new.self c.args.self.now.bus)) (Some c.args.time) (arch_of c.fetch-fetched.new.self c.args.self.now.bus))
