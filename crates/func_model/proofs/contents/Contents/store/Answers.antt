use Rattle.std.proofs.Common.{rules, ◌≡◌, ◌+◌, ℕ, Option, None, false, length, refl, ap, sym, ◌∙◌, arith}
use Rattle.fsim_base.specs.declared.access.Access.TheVariants as access
use Rattle.fsim_base.specs.declared.access.Spot.TheVariants.{Ram}
use Rattle.trace_entry.specs.declared.Entry.{Entry}
use Rattle.mono_model.specs.Found.{known, is_fence_i}
use Rattle.phys_mem.specs.Ram.{exec_of, range_of}
use Rattle.func_model.specs.declared.performed.Performed.{Performed}
use Rattle.func_model.specs.Hart.{arch_of}
use Rattle.func_model.specs.Steps.{Told, behind, result_of, store_with}
use Rattle.func_model.specs.Undo.{IsRestorableChange, ended_in}
use Rattle.func_model.specs.Telling.{named_at, named_by, entry_by, past_by}
use Rattle.func_model.proofs.Advance.{met_found}
use Rattle.func_model.proofs.Computed.{store_unserved}
use Rattle.func_model.proofs.Concluded.{told_same}
use Rattle.func_model.proofs.Evaluated.{store_no_register, store_no_time, store_no_fence}
use Rattle.func_model.proofs.Telling.{named_known, step_is, step_bound}
use Rattle.func_model.proofs.contents.Contents.store.Given as given
use Rattle.func_model.proofs.contents.Contents.store.Goals as goal

-- what it did
abbrev did : (g : given.Over) (c : goal.After-told g) → Performed
did g c = store_with c.in_ok-store.store.addr c.in_ok-store.store.width c.in_ok-old.old

-- what is told of it, and the state behind it
told : (g : given.Over) (c : goal.After-told g) (limit : ℕ) (time : Option ℕ) →
    Told limit (result_of (range_of c.args.self.now.hart.memory) (known c.in_ok-decoded.decoded.now.word c.in_ok-decoded.decoded.now.insn) time (arch_of c.args.self.now.hart c.args.self.now.bus))
    (arch_of c.args.self.now.hart c.args.self.now.bus) (did g c)
told g c limit time =
    told_same limit _ _ (arch_of c.args.self.now.hart c.args.self.now.bus) (did g c) (c.in_ok-store.ensures.comes_to time c.args.self.now.bus) (c.in_ok-old.ensures.told limit c.args.self.now.bus)

made : (g : given.Over) (c : goal.After-told g) (limit : ℕ) (time : Option ℕ) → arch_of c.store_ram.new.self c.args.self.now.bus
    ≡ behind limit (known c.in_ok-decoded.decoded.now.word c.in_ok-decoded.decoded.now.insn)
    (result_of (range_of c.args.self.now.hart.memory) (known c.in_ok-decoded.decoded.now.word c.in_ok-decoded.decoded.now.insn) time (arch_of c.args.self.now.hart c.args.self.now.bus))
    time (arch_of c.args.self.now.hart c.args.self.now.bus)
made g c limit time = c.in_ok-old.ensures.arch limit c.args.self.now.bus ∙ c.in_ok-store.ensures.made limit time c.args.self.now.bus

-- what it is named by
named : (g : given.Over) (c : goal.After-told g) → c.named-named.result ≡ named_at c.args.self.now.hart (known c.in_ok-decoded.decoded.now.word c.in_ok-decoded.decoded.now.insn) c.args.number c.args.epoch
named g c =
    let decoded = c.in_ok-decoded.decoded.now in
    let register : None ≡ decoded.destination = sym (store_no_register decoded.insn c.in_ok-store.ensures.store) ∙ sym c.in_ok-decoded.ensures.fits.destination in
    named_known c.args.self.now.hart decoded c.args.number c.args.epoch c.named-named.result
    (c.named-named.ensures.named ∙ ap (λ d. named_by c.args.self.now.hart decoded.word decoded.class d c.args.number c.args.epoch) register) c.in_ok-decoded.ensures.fits

-- its undo step
past : (g : given.Over) (c : goal.After-told g) → c.told.result.1 ≡ past_by c.named-named.result (did g c)
past g c =
    c.told.ensures.past
    ∙ ap (λ (p : Performed). past_by c.named-named.result (record p { access = access.Store c.in_ok-store.store.addr c.in_ok-store.store.width Ram })) c.plain.ensures.done

pub returns-clause-step : goal.returns-clause-step
unfolding arch_of
returns-clause-step g c = λ s time a h.
    let decoded = c.in_ok-decoded.decoded.now in
    let store = c.in_ok-store.store in
    let hart = c.args.self.now.hart in
    let limit = length hart.output.items + 1 in
    step_is s time limit c.args.number c.args.epoch c.args.self.now c.store_ram.new.self c.args.self.now.bus c.args.self.now.cmp a (known decoded.word decoded.insn) (did g c) c.named-named.result false c.told.result h
    c.in_ok-decoded.ensures.found
    (told g c limit time) (made g c limit time) (c.in_ok-old.ensures.back c.args.self.now.bus)
    c.in_ok-old.ensures.exec c.in_ok-old.ensures.range (omega arith) refl (named g c)
    (store_unserved decoded.word decoded.insn store.addr store.width time (store_no_time decoded.insn c.in_ok-store.ensures.store))
    (c.told.ensures.entry ∙ ap (λ (p : Performed). entry_by c.named-named.result (record p { access = access.Store store.addr store.width Ram }) false c.store_ram.new.self c.args.self.now.cmp) c.plain.ensures.done)
    (past g c)

pub returns-clause-quiet : goal.returns-clause-quiet
unfolding arch_of
returns-clause-quiet g c =
    let decoded = c.in_ok-decoded.decoded.now in
    let hart = c.args.self.now.hart in
    record {
      silent = ap (λ (e : Entry). e.out) c.told.ensures.entry ∙ ap (λ (p : Performed). p.sent) c.plain.ensures.done;
      going = ap (λ (e : Entry). e.halt) c.told.ensures.entry ∙ ap (λ (p : Performed). ended_in p.stepped) c.plain.ensures.done;
      no_fence = λ s a h.
          sym (ap is_fence_i (met_found s (exec_of hart.memory) (known decoded.word decoded.insn) (arch_of hart c.args.self.now.bus) a h.exec h.arch c.in_ok-decoded.ensures.found))
          ∙ store_no_fence decoded.word decoded.insn c.in_ok-store.ensures.store;
      bound = step_bound 0 None (known decoded.word decoded.insn) (range_of hart.memory) hart c.store_ram.new.self c.args.self.now.bus c.args.self.now.bus (made g c 0 None);
    }

pub returns-clause-restorable : goal.returns-clause-restorable
returns-clause-restorable g c =
    let exists : IsRestorableChange (did g c).change = (c.in_ok-old.ensures.back c.args.self.now.bus).exists in
    let kept : c.told.result.1 ≡ past_by c.named-named.result (did g c) = past g c in
    search (rules, exists, kept)
