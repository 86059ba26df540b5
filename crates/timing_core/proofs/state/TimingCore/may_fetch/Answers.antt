use Rattle.std.proofs.Common.{◌&&◌, nat_lt, length, sym, ◌∙◌}
use Rattle.timing_side.specs.Fetch.{may_fetch}
use Rattle.timing_side.specs.Slots.{waiting_count}
use Rattle.timing_core.proofs.state.TimingCore.may_fetch.Goals as goal

pub returns-then-has_resumed-clause-may : goal.returns-then-has_resumed-clause-may
unfolding may_fetch
returns-then-has_resumed-clause-may c = λ s t k.
    let resumed = sym c.if-has_resumed.true ∙ c.has_resumed.ensures.resumed s t k in
    c.has_room.ensures.both s t k ∙ (λ i. resumed i && nat_lt (length t.slots) s.params.core_window && nat_lt (waiting_count t.slots) s.params.core_stations)

pub returns-else-has_resumed-clause-may : goal.returns-else-has_resumed-clause-may
unfolding may_fetch
returns-else-has_resumed-clause-may c = λ s t k.
    let resumed = sym c.if-has_resumed.false ∙ c.has_resumed.ensures.resumed s t k in
    c.if-has_resumed.false ∙ (λ i. resumed i && nat_lt (length t.slots) s.params.core_window && nat_lt (waiting_count t.slots) s.params.core_stations)
