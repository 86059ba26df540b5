use Rattle.std.proofs.Common.{◌≡◌, ℕ, true, None, slice_index, refl, sym, ◌∙◌}
use Rattle.mono_model.specs.Arch.{register_value}
use Rattle.mono_model.specs.Sequence.{seen_in}
use Rattle.rv_decode.specs.Class.{sources_of}
use Rattle.rv_exec.specs.Eval.{eval_of}
use Rattle.phys_mem.specs.Ram.{range_of}
use Rattle.func_model.specs.Steps.{is_store, outcome_at}
use Rattle.func_model.specs.Hart.{arch_of}
use Rattle.func_model.proofs.Concluded.{store_result, store_behind, none_caused}
use Rattle.func_model.proofs.Effects.{evaluated_behind, evaluated_result}
use Rattle.func_model.proofs.Evaluated.{aligned_by, read_outcome, store_aligned, store_no_csr, store_no_mret}
use Rattle.func_model.proofs.hart.Hart.storing.Goals as goal

-- its outcome has no cause
none : (c : goal.In-Store) → c.eval-outcome.result.cause ≡ None
none c = none_caused c.eval-outcome.result.cause (sym c.is_some.ensures ∙ c.if-is_some.false)

-- it is a store, and what its outcome is
stores : (c : goal.In-Store) → is_store c.args.decoded.now.insn ≡ true
stores c = sym c.is_store.ensures.store ∙ c.if-not-is_store.false

outcome : (c : goal.In-Store) → c.eval-outcome.result ≡ outcome_at c.args.decoded.now.insn c.args.self.now.pc (λ r. slice_index c.args.self.now.regs r)
outcome c =
    let i = c.args.decoded.now.insn in
    read_outcome c.eval-outcome.result i c.args.self.now.pc c.args.decoded.now.first c.args.decoded.now.second (λ r. slice_index c.args.self.now.regs r) c.requires.fits.first c.requires.fits.second
    (c.eval-outcome.ensures.outcome ∙ (λ j. eval_of i c.args.self.now.pc (c.register.ensures.value j) (c.register-2.ensures.value j)))

-- the values of its operands
abbrev first : (c : goal.In-Store) → ℕ
first c = register_value (λ r. slice_index c.args.self.now.regs r) (sources_of c.args.decoded.now.insn).0

abbrev second : (c : goal.In-Store) → ℕ
second c = register_value (λ r. slice_index c.args.self.now.regs r) (sources_of c.args.decoded.now.insn).1

pub returns-in-Store-clause-aligned : goal.returns-in-Store-clause-aligned
returns-in-Store-clause-aligned c =
    store_aligned c.eval-outcome.result c.in-Store.addr c.in-Store.width c.in-Store.value (none c) c.in-Store.is
    (aligned_by c.eval-outcome.result c.args.decoded.now.insn c.args.self.now.pc c.register.result c.register-2.result c.eval-outcome.ensures.outcome)

pub returns-in-Store-clause-comes_to : goal.returns-in-Store-clause-comes_to
unfolding arch_of
returns-in-Store-clause-comes_to c = λ time d.
    let i = c.args.decoded.now.insn in
    let range = range_of c.args.self.now.memory in
    store_result range (seen_in time (arch_of c.args.self.now d)) c.eval-outcome.result c.in-Store.addr c.in-Store.width c.in-Store.value (none c) c.in-Store.is
    ∙ evaluated_result range c.args.decoded.now.word i (first c) (second c) time c.eval-outcome.result (arch_of c.args.self.now d)
    (store_no_csr i (stores c)) (store_no_mret i (stores c)) (outcome c) refl refl

pub returns-in-Store-clause-made : goal.returns-in-Store-clause-made
unfolding arch_of
returns-in-Store-clause-made c = λ limit time d.
    let i = c.args.decoded.now.insn in
    let range = range_of c.args.self.now.memory in
    evaluated_behind range limit c.args.decoded.now.word i (first c) (second c) time c.eval-outcome.result c.args.decoded.now.destination (arch_of c.args.self.now d) _
    (store_no_csr i (stores c)) (store_no_mret i (stores c)) (outcome c) c.requires.fits.destination refl refl
    (store_behind range limit c.args.decoded.now.destination c.eval-outcome.result time (arch_of c.args.self.now d) _ c.in-Store.addr c.in-Store.width c.in-Store.value (none c) c.in-Store.is refl)
