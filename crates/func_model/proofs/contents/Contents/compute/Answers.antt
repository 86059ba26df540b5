use Rattle.std.proofs.Common.{◌≡◌, ◌+◌, ℕ, Option, None, false, slice_index, length, refl, ap, sym, ◌∙◌, arith}
use Rattle.trace_entry.specs.declared.Entry.{Entry}
use Rattle.undo_journal.specs.declared.past.Change.TheVariants.{Nothing}
use Rattle.mono_model.specs.Arch.{Arch}
use Rattle.mono_model.specs.Found.{known, is_fence_i}
use Rattle.phys_mem.specs.Ram.{exec_of, range_of}
use Rattle.func_model.specs.declared.contents.Named.{Named}
use Rattle.func_model.specs.declared.performed.Performed.{Performed}
use Rattle.func_model.specs.Hart.{arch_of}
use Rattle.func_model.specs.Steps.{behind, result_of, finished, plain_with}
use Rattle.func_model.specs.Undo.{ended_in}
use Rattle.func_model.specs.Telling.{entry_by, past_by}
use Rattle.func_model.proofs.Advance.{met_found}
use Rattle.func_model.proofs.Computed.{IsPlain, is_plain, computed_told, computed_behind, never_unserved}
use Rattle.func_model.proofs.TakenBack.{plain_back}
use Rattle.func_model.proofs.Telling.{named_written, step_is, step_bound}
use Rattle.func_model.proofs.contents.Contents.compute.Given as given
use Rattle.func_model.proofs.contents.Contents.compute.Goals as goal

-- what was evaluated
plain : (g : given.Over) (c : goal.After-told g) → IsPlain c.in_ok-decoded.decoded.now.insn c.args.self.now.hart.pc (λ r. slice_index c.args.self.now.hart.regs r) c.in_ok-outcome.outcome
plain g c = is_plain c.in_ok-decoded.decoded.now.insn c.args.self.now.hart.pc (λ r. slice_index c.args.self.now.hart.regs r) c.in_ok-outcome.outcome c.in_ok-outcome.ensures.outcome

-- the state behind it
finishes : (g : given.Over) (c : goal.After-told g) → arch_of c.finish_kept.new.self c.args.self.now.bus
    ≡ finished c.in_ok-decoded.decoded.now.destination c.in_ok-outcome.outcome.value c.in_ok-outcome.outcome.next (arch_of c.args.self.now.hart c.args.self.now.bus)
finishes g c = c.finish_kept.ensures.arch c.in_ok-decoded.decoded.now.destination c.args.self.now.bus c.in_ok-decoded.ensures.fits.written

made : (g : given.Over) (c : goal.After-told g) (limit : ℕ) (time : Option ℕ) → arch_of c.finish_kept.new.self c.args.self.now.bus
    ≡ behind limit (known c.in_ok-decoded.decoded.now.word c.in_ok-decoded.decoded.now.insn)
    (result_of (range_of c.args.self.now.hart.memory) (known c.in_ok-decoded.decoded.now.word c.in_ok-decoded.decoded.now.insn) time (arch_of c.args.self.now.hart c.args.self.now.bus))
    time (arch_of c.args.self.now.hart c.args.self.now.bus)
unfolding arch_of
made g c limit time =
    computed_behind limit time (range_of c.args.self.now.hart.memory) c.in_ok-decoded.decoded.now.word c.in_ok-decoded.decoded.now.insn c.in_ok-outcome.outcome c.in_ok-decoded.decoded.now.destination
    (arch_of c.args.self.now.hart c.args.self.now.bus) (arch_of c.finish_kept.new.self c.args.self.now.bus) (plain g c) c.in_ok-decoded.ensures.fits.destination (finishes g c)

-- what it is named by
abbrev name : (g : given.Over) (c : goal.After-told g) → Named
name g c = record {
  number = c.args.number;
  epoch = c.args.epoch.now;
  addr = c.args.self.now.hart.pc;
  word = c.in_ok-decoded.decoded.now.word;
  class = c.in_ok-decoded.decoded.now.class;
  value = c.register-value.result;
  register = c.in_ok-decoded.decoded.now.written;
}

pub returns-clause-step : goal.returns-clause-step
unfolding arch_of
returns-clause-step g c = λ s time a h.
    let decoded = c.in_ok-decoded.decoded.now in
    let hart = c.args.self.now.hart in
    let limit = length hart.output.items + 1 in
    step_is s time limit c.args.number c.args.epoch.now c.args.self.now c.finish_kept.new.self c.args.self.now.bus c.args.self.now.cmp a (known decoded.word decoded.insn) (plain_with Nothing) (name g c) false c.told.result h
    c.in_ok-decoded.ensures.found
    (computed_told limit time (range_of hart.memory) decoded.word decoded.insn c.in_ok-outcome.outcome (arch_of hart c.args.self.now.bus) (plain g c))
    (made g c limit time)
    (plain_back (range_of hart.memory) (plain_with Nothing) (arch_of hart c.args.self.now.bus) (arch_of c.finish_kept.new.self c.args.self.now.bus) refl
    (ap (λ (x : Arch). x.ram) (finishes g c)) (ap (λ (x : Arch). x.devices) (finishes g c)) (ap (λ (x : Arch). x.csrs) (finishes g c)))
    (ap exec_of c.finish_kept.ensures.memory) (ap range_of c.finish_kept.ensures.memory) (omega arith) refl
    (named_written hart decoded c.args.number c.args.epoch.now c.register-value.result c.register-value.ensures.value c.in_ok-decoded.ensures.fits)
    (never_unserved decoded.word decoded.insn time (plain g c).timeless)
    (c.told.ensures.entry ∙ ap (λ (p : Performed). entry_by (name g c) p false c.finish_kept.new.self c.args.self.now.cmp) c.plain.ensures.done)
    (c.told.ensures.past ∙ ap (past_by (name g c)) c.plain.ensures.done)

pub returns-clause-quiet : goal.returns-clause-quiet
unfolding arch_of
returns-clause-quiet g c =
    let decoded = c.in_ok-decoded.decoded.now in
    let hart = c.args.self.now.hart in
    record {
      silent = ap (λ (e : Entry). e.out) c.told.ensures.entry ∙ ap (λ (p : Performed). p.sent) c.plain.ensures.done;
      going = ap (λ (e : Entry). e.halt) c.told.ensures.entry ∙ ap (λ (p : Performed). ended_in p.stepped) c.plain.ensures.done;
      no_fence = λ s a h.
          sym (ap is_fence_i (met_found s (exec_of hart.memory) (known decoded.word decoded.insn) (arch_of hart c.args.self.now.bus) a h.exec h.arch c.in_ok-decoded.ensures.found)) ∙ c.in_ok-outcome.ensures.no_fence;
      bound = step_bound 0 None (known decoded.word decoded.insn) (range_of hart.memory) hart c.finish_kept.new.self c.args.self.now.bus c.args.self.now.bus (made g c 0 None);
    }
