use Rattle.std.proofs.Common.{◌∙◌, sym}
use Rattle.device_bus.proofs.Places.{find_of-outside}
use Rattle.device_bus.proofs.bus.Bus.find.Goals as goal

pub returns-in_err-kind-clause-place : goal.returns-in_err-kind-clause-place
returns-in_err-kind-clause-place g c =
    c.from_residual.ensures ∙ sym (find_of-outside c.args.addr c.args.width c.in_err-kind.ensures.outside)
