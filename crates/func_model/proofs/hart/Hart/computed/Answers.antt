use Rattle.std.proofs.Common.{ℕ, Option, Some, None, IfNone, slice_index, option_map, ap, ◌∙◌}
use Rattle.rv_exec.specs.declared.outcome.Outcome.{Outcome}
use Rattle.rv_exec.specs.Eval.{eval_of}
use Rattle.func_model.proofs.Bare.{OnlyComputes, only_computes, plain_is, none_quiet, caused_quiet}
use Rattle.func_model.proofs.Evaluated.{read_outcome}
use Rattle.func_model.proofs.hart.Hart.computed.Goals as goal

-- what was evaluated
computes : (c : goal.In-None) → OnlyComputes c.args.decoded.now.word c.args.decoded.now.insn c.args.self.now.pc c.register.result c.register-2.result c.in_ok-outcome.outcome
computes c =
    only_computes c.args.decoded.now.word c.args.decoded.now.insn c.args.self.now.pc c.register.result c.register-2.result c.in_ok-outcome.outcome
    (c.in_ok-outcome.ensures.outcome ∙ ap (option_map (λ bare. eval_of bare c.args.self.now.pc c.register.result c.register-2.result)) c.requires.fits.bare)

pub returns-in-None-clause-outcome : goal.returns-in-None-clause-outcome
returns-in-None-clause-outcome c =
    let i = c.args.decoded.now.insn in
    let regs : ℕ → ℕ = λ r. slice_index c.args.self.now.regs r in
    plain_is i c.args.self.now.pc regs c.in_ok-outcome.outcome
    (read_outcome c.in_ok-outcome.outcome i c.args.self.now.pc c.args.decoded.now.first c.args.decoded.now.second regs c.requires.fits.first c.requires.fits.second
    ((computes c).outcome ∙ (λ j. eval_of i c.args.self.now.pc (c.register.ensures.value j) (c.register-2.ensures.value j))))
    (computes c).inside c.in-None.is

pub returns-in-None-clause-no_fence : goal.returns-in-None-clause-no_fence
returns-in-None-clause-no_fence c = (computes c).no_fence

-- the same where it traps
traps : (c : goal.In-Some) → OnlyComputes c.args.decoded.now.word c.args.decoded.now.insn c.args.self.now.pc c.register.result c.register-2.result c.in_ok-outcome.outcome
traps c =
    only_computes c.args.decoded.now.word c.args.decoded.now.insn c.args.self.now.pc c.register.result c.register-2.result c.in_ok-outcome.outcome
    (c.in_ok-outcome.ensures.outcome ∙ ap (option_map (λ bare. eval_of bare c.args.self.now.pc c.register.result c.register-2.result)) c.requires.fits.bare)

pub returns-in-Some-clause-none : goal.returns-in-Some-clause-none
returns-in-Some-clause-none c =
    let i = c.args.decoded.now.insn in
    let regs : ℕ → ℕ = λ r. slice_index c.args.self.now.regs r in
    caused_quiet c.args.decoded.now.word i c.args.self.now.pc regs c.in_ok-outcome.outcome c.in-Some.field-0
    (read_outcome c.in_ok-outcome.outcome i c.args.self.now.pc c.args.decoded.now.first c.args.decoded.now.second regs c.requires.fits.first c.requires.fits.second
    ((traps c).outcome ∙ (λ j. eval_of i c.args.self.now.pc (c.register.ensures.value j) (c.register-2.ensures.value j))))
    (traps c).inside (traps c).no_fence c.in-Some.is

where_none : (r : Option Outcome) (P : Type 0) → P → IfNone r P
where_none None P holds = holds
where_none (Some o) P holds = tt

pub returns-in_err-outcome-clause-none : goal.returns-in_err-outcome-clause-none
returns-in_err-outcome-clause-none c =
    where_none c.from_residual.result _
    (none_quiet c.args.decoded.now.word c.args.decoded.now.insn c.args.self.now.pc c.register.result c.register-2.result (λ r. slice_index c.args.self.now.regs r)
    (c.in_err-outcome.ensures.outcome ∙ ap (option_map (λ bare. eval_of bare c.args.self.now.pc c.register.result c.register-2.result)) c.requires.fits.bare))
