use Rattle.std.proofs.Common.{◌≡◌, ◌+◌, ℕ, length, refl, ap, sym, ◌∙◌, arith}
use Rattle.trace_entry.specs.declared.Entry.{Entry}
use Rattle.mono_model.specs.Arch.{Arch}
use Rattle.mono_model.specs.Found.{known, is_fence_i}
use Rattle.phys_mem.specs.Ram.{exec_of, range_of}
use Rattle.func_model.specs.declared.performed.Performed.{Performed}
use Rattle.func_model.specs.Hart.{arch_of}
use Rattle.func_model.specs.Steps.{behind, result_of, load_with}
use Rattle.func_model.specs.Undo.{ended_in}
use Rattle.func_model.specs.Telling.{entry_by, past_by}
use Rattle.func_model.proofs.Advance.{met_found}
use Rattle.func_model.proofs.Evaluated.{load_no_fence}
use Rattle.func_model.proofs.TakenBack.{plain_back}
use Rattle.func_model.proofs.Telling.{named_known, step_is, step_bound}
use Rattle.func_model.proofs.contents.Contents.load.Given as given
use Rattle.func_model.proofs.contents.Contents.load.Goals as goal

-- the state behind it
made : (g : given.Over) (c : goal.After-told g) (limit : ℕ) → arch_of c.finish.new.self c.args.self.now.bus
    ≡ behind limit (known c.in_ok-decoded.decoded.now.word c.in_ok-decoded.decoded.now.insn)
    (result_of (range_of c.args.self.now.hart.memory) (known c.in_ok-decoded.decoded.now.word c.in_ok-decoded.decoded.now.insn) c.args.time (arch_of c.args.self.now.hart c.args.self.now.bus))
    c.args.time (arch_of c.args.self.now.hart c.args.self.now.bus)
made g c limit = c.finish.ensures.arch c.args.self.now.bus ∙ c.in_ok-load.ensures.made limit c.args.time c.args.self.now.bus

pub returns-clause-step : goal.returns-clause-step
unfolding arch_of
returns-clause-step g c = λ s a h.
    let decoded = c.in_ok-decoded.decoded.now in
    let hart = c.args.self.now.hart in
    let bus = c.args.self.now.bus in
    let limit = length hart.output.items + 1 in
    let did = load_with c.in_ok-load.load.access in
    let finishes = c.finish.ensures.arch bus in
    step_is s c.args.time limit c.args.number c.args.epoch c.args.self.now c.finish.new.self bus c.args.self.now.cmp a (known decoded.word decoded.insn) did c.named-named.result c.is_unserved-unserved.result c.told.result h
    c.in_ok-decoded.ensures.found
    (c.in_ok-load.ensures.told limit c.args.time bus)
    (made g c limit)
    (plain_back (range_of hart.memory) did (arch_of hart bus) (arch_of c.finish.new.self bus) refl
    (ap (λ (x : Arch). x.ram) finishes) (ap (λ (x : Arch). x.devices) finishes) (ap (λ (x : Arch). x.csrs) finishes))
    (ap exec_of c.finish.ensures.memory) (ap range_of c.finish.ensures.memory) (omega arith) refl
    (named_known hart decoded c.args.number c.args.epoch c.named-named.result c.named-named.ensures.named c.in_ok-decoded.ensures.fits)
    c.is_unserved-unserved.ensures.unserved
    (c.told.ensures.entry ∙ ap (λ (p : Performed). entry_by c.named-named.result (record p { access = c.in_ok-load.load.access }) c.is_unserved-unserved.result c.finish.new.self c.args.self.now.cmp) c.plain.ensures.done)
    (c.told.ensures.past ∙ ap (λ (p : Performed). past_by c.named-named.result (record p { access = c.in_ok-load.load.access })) c.plain.ensures.done)

pub returns-clause-quiet : goal.returns-clause-quiet
unfolding arch_of
returns-clause-quiet g c =
    let decoded = c.in_ok-decoded.decoded.now in
    let hart = c.args.self.now.hart in
    record {
      silent = ap (λ (e : Entry). e.out) c.told.ensures.entry ∙ ap (λ (p : Performed). p.sent) c.plain.ensures.done;
      going = ap (λ (e : Entry). e.halt) c.told.ensures.entry ∙ ap (λ (p : Performed). ended_in p.stepped) c.plain.ensures.done;
      no_fence = λ s a h.
          sym (ap is_fence_i (met_found s (exec_of hart.memory) (known decoded.word decoded.insn) (arch_of hart c.args.self.now.bus) a h.exec h.arch c.in_ok-decoded.ensures.found))
          ∙ load_no_fence decoded.word decoded.insn c.in_ok-load.ensures.load;
      bound = step_bound 0 c.args.time (known decoded.word decoded.insn) (range_of hart.memory) hart c.finish.new.self c.args.self.now.bus c.args.self.now.bus (made g c 0);
    }
