use Rattle.std.proofs.Common.{◌≡◌, None, sym, arith}
use Rattle.timing_core.proofs.Leaving.{stays_none, stays_not_done}
use Rattle.timing_core.proofs.state.TimingCore.oldest_done.Goals as goal

pub returns-in_err-slot-clause-stays : goal.returns-in_err-slot-clause-stays
returns-in_err-slot-clause-stays c =
    let none : c.from_residual.result ≡ None = grind arith in
    rw none (λ s t is. stays_none s t c.args.self.now.flight.slots (sym c.in_err-slot.ensures.oldest) is)

pub returns-in_default-clause-stays : goal.returns-in_default-clause-stays
returns-in_default-clause-stays c = λ s t is.
    stays_not_done s t c.args.self.now.flight.slots c.in_ok-slot.slot (sym c.in_ok-slot.ensures.oldest) c.in_default.not-Done is
