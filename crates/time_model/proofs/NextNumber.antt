-- The number of the next instruction to fetch, as a side that stands at a place has it.
use Rattle.std.proofs.Common.{◌≡◌, ◌<◌, ◌+◌, ◌^◌, length, refl, arith}
use Rattle.mono_model.specs.declared.setup.Setup.{Setup}
use Rattle.mono_model.specs.Machine.{stats_of}
use Rattle.mono_model.specs.Demand.{Demand, next}
use Rattle.timing_side.specs.Timing.{timing_stats}
use Rattle.timing_laws.specs.Seen.{seen}
use Rattle.timing_laws.proofs.Entries.{slots_length}
use Rattle.time_model.specs.declared.state.TimingState.{TimingState}
use Rattle.time_model.specs.Piped.{Piped, IsPiped}
use Rattle.time_model.specs.Standing.{IsStanding}

-- behind the next to commit, the slots are the records of the window
pub next_seen : (s : Setup) (d : Demand) → (seen s d).to_commit + length (seen s d).slots ≡ next d
unfolding seen
next_seen s d = omega (arith, slots_length s d.orders d.to_commit d.machine.window)

-- what else is seen of the machine
pub cycle_seen : (s : Setup) (d : Demand) → (seen s d).cycle ≡ d.machine.cycle
unfolding seen
cycle_seen s d = refl

pub done_seen : (s : Setup) (d : Demand) → (seen s d).to_commit ≡ d.to_commit
unfolding seen
done_seen s d = refl

pub end_seen : (s : Setup) (d : Demand) → (seen s d).end ≡ d.machine.end
unfolding seen
end_seen s d = refl

pub stats_seen : (s : Setup) (d : Demand) → timing_stats s (seen s d) ≡ stats_of s d.machine
unfolding seen
stats_seen s d = refl

pub done_small : {P A : Type 0} (piped : Piped P A) → IsPiped piped → (side : TimingState P A) → IsStanding piped side → (piped.core side.pipeline).to_commit < 2 ^ 63
done_small piped laws side is =
    let core = laws.core is.setup is.steps side.pipeline side.at is.stands.pipeline in
    omega (arith, core.to_commit, (laws.small is.setup is.steps is.sound).to_commit)
