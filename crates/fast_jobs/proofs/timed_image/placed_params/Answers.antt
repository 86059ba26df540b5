use Rattle.std.proofs.Common.{◌≡◌, true, refl, ap, sym, subst}
use Rattle.mono_model.specs.declared.params.Params.{Params}
use Rattle.mono_model.specs.Setup.{are_params}
use Rattle.fast_jobs.specs.Stages.{placed_params}
use Rattle.fast_jobs.proofs.Setups.{placed_in_range}
use Rattle.fast_jobs.proofs.timed_image.placed_params.Goals as goal

-- parameters with the RAM of others
abbrev placed : Params → Params → Params
placed others p = record p { ram_base = others.ram_base; ram_size = others.ram_size }

pub returns-clause-params : goal.returns-clause-params
unfolding placed_params
returns-clause-params c = ap (placed c.args.params.now) c.plain.ensures.plain

pub returns-clause-ram : goal.returns-clause-ram
returns-clause-ram c = refl

pub returns-clause-in_range : goal.returns-clause-in_range
unfolding placed_params
returns-clause-in_range c =
    subst (λ p. are_params (placed c.args.params.now p) ≡ true) (sym c.plain.ensures.plain) (placed_in_range c.args.params.now c.requires.in_range)
