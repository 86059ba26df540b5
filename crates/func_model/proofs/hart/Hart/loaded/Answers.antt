use Rattle.std.proofs.Common.{◌≡◌, ℕ, true, None, slice_index, refl, sym, ◌∙◌}
use Rattle.std.proofs.lemmas.Option.{IfSome_then}
use Rattle.mono_model.specs.Arch.{register_value}
use Rattle.mono_model.specs.Sequence.{seen_in}
use Rattle.rv_decode.specs.Class.{sources_of}
use Rattle.rv_exec.specs.Eval.{eval_of}
use Rattle.phys_mem.specs.Ram.{range_of}
use Rattle.func_model.specs.Steps.{is_load, load_with, outcome_at}
use Rattle.func_model.specs.Hart.{arch_of}
use Rattle.func_model.proofs.Concluded.{load_result, load_behind, none_caused, told_same}
use Rattle.func_model.proofs.Effects.{evaluated_behind, evaluated_result}
use Rattle.func_model.proofs.Evaluated.{aligned_by, read_outcome, load_aligned, load_no_csr, load_no_mret}
use Rattle.func_model.proofs.hart.Hart.loaded.Goals as goal

pub read_ram-requires : goal.read_ram-requires
read_ram-requires c = record {
  aligned = load_aligned c.eval-outcome.result c.in-Load.addr c.in-Load.width c.in-Load.signed
      (none_caused c.eval-outcome.result.cause (sym c.is_some.ensures ∙ c.if-is_some.false)) c.in-Load.is
      (aligned_by c.eval-outcome.result c.args.decoded.now.insn c.args.self.now.pc c.register.result c.register-2.result c.eval-outcome.ensures.outcome);
}

-- its outcome has no cause
none : (c : goal.After-read_ram) → c.eval-outcome.result.cause ≡ None
none c = none_caused c.eval-outcome.result.cause (sym c.is_some.ensures ∙ c.if-is_some.false)

-- it is a load, and what its outcome is
loads : (c : goal.After-read_ram) → is_load c.args.decoded.now.insn ≡ true
loads c = sym c.is_load.ensures.load ∙ c.if-not-is_load.false

outcome : (c : goal.After-read_ram) → c.eval-outcome.result ≡ outcome_at c.args.decoded.now.insn c.args.self.now.pc (λ r. slice_index c.args.self.now.regs r)
outcome c =
    let i = c.args.decoded.now.insn in
    read_outcome c.eval-outcome.result i c.args.self.now.pc c.args.decoded.now.first c.args.decoded.now.second (λ r. slice_index c.args.self.now.regs r) c.requires.fits.first c.requires.fits.second
    (c.eval-outcome.ensures.outcome ∙ (λ j. eval_of i c.args.self.now.pc (c.register.ensures.value j) (c.register-2.ensures.value j)))

-- the values of its operands
abbrev first : (c : goal.After-read_ram) → ℕ
first c = register_value (λ r. slice_index c.args.self.now.regs r) (sources_of c.args.decoded.now.insn).0

abbrev second : (c : goal.After-read_ram) → ℕ
second c = register_value (λ r. slice_index c.args.self.now.regs r) (sources_of c.args.decoded.now.insn).1

pub returns-in-Load-clause-told : goal.returns-in-Load-clause-told
unfolding arch_of
returns-in-Load-clause-told c =
    let i = c.args.decoded.now.insn in
    let range = range_of c.args.self.now.memory in
    IfSome_then c.read_ram.result c.read_ram.ensures.told (λ load told limit time d.
    told_same limit _ _ (arch_of c.args.self.now d) (load_with load.access)
    (load_result range (seen_in time (arch_of c.args.self.now d)) c.eval-outcome.result c.in-Load.addr c.in-Load.width c.in-Load.signed (none c) c.in-Load.is
    ∙ evaluated_result range c.args.decoded.now.word i (first c) (second c) time c.eval-outcome.result (arch_of c.args.self.now d)
    (load_no_csr i (loads c)) (load_no_mret i (loads c)) (outcome c) refl refl)
    (told limit time d))

pub returns-in-Load-clause-made : goal.returns-in-Load-clause-made
unfolding arch_of
returns-in-Load-clause-made c =
    let i = c.args.decoded.now.insn in
    let range = range_of c.args.self.now.memory in
    IfSome_then c.read_ram.result c.read_ram.ensures.made (λ load made limit time d.
    evaluated_behind range limit c.args.decoded.now.word i (first c) (second c) time c.eval-outcome.result c.args.decoded.now.destination (arch_of c.args.self.now d) _
    (load_no_csr i (loads c)) (load_no_mret i (loads c)) (outcome c) c.requires.fits.destination refl refl
    (load_behind range limit c.args.decoded.now.destination c.eval-outcome.result time (arch_of c.args.self.now d) _ c.in-Load.addr c.in-Load.width c.in-Load.signed (none c) c.in-Load.is
    (made c.args.decoded.now.destination time d)))
