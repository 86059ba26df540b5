-- Why a record wasn't fetched earlier: its origin. A record that is young as the oldest one came late for this reason.
use Rattle.std.specs.Prelude.{◌==◌, if◌then◌else◌, Option, Some, None, List, [], ◌∷◌, ◌++◌, map, take, drop, length}
use Rattle.mono_model.specs.declared.params.Params.{Params}
use Rattle.insight_model.specs.declared.cycle_cause.CycleCause.TheVariants.{Start, Icache, Window, Stations}
use Rattle.insight_model.specs.Cause.{Charge, charge}
use Rattle.insight_model.specs.Sight.{Shown}
use Rattle.insight_model.specs.Facts.{Facts, window_before, or_else}

-- the newest flush, up to and including this cycle, if no record was appended after it before
abbrev pub newest : Facts → Option Charge → Option Charge
newest f refill = or_else f.flush refill

-- the window had no room as the cycle began, or else the stations had none
abbrev pub room_origin : Params → Facts → Shown → Charge
room_origin p f shown = charge (if length (window_before f) == p.core_window then Window else Stations) shown.addr

-- without a flush: the first record of a run, one that waited for its miss, or one for which there was no room
abbrev pub unflushed_origin : Params → Facts → Shown → Charge
unflushed_origin p f shown =
    if f.fetched == 0 then charge Start shown.addr
    else (if f.paid then charge Icache shown.addr else room_origin p f shown)

abbrev pub first_origin : Params → Facts → Option Charge → Shown → Charge
first_origin p f None shown = unflushed_origin p f shown
first_origin p f (Some flush) shown = flush

abbrev pub new_origins : Params → Facts → Option Charge → List Shown → List Charge
new_origins p f flush [] = []
new_origins p f flush (first ∷ rest) = first_origin p f flush first ∷ map (room_origin p f) rest

-- the origins of the records in the window, by those before the cycle
unfoldable pub origins_after : Params → Facts → Option Charge → List Charge → List Charge
origins_after p f refill origins =
    take (length f.kept) (drop (length f.left) origins) ++ new_origins p f (newest f refill) f.appended

-- the newest flush, if nothing was appended after it yet
abbrev pub unfilled : Option Charge → List Shown → Option Charge
unfilled flush [] = flush
unfilled flush (first ∷ rest) = None

unfoldable pub refill_after : Facts → Option Charge → Option Charge
refill_after f refill = unfilled (newest f refill) f.appended
