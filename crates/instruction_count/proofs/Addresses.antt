-- The rows of the events of a run are among all addresses.
use Rattle.std.proofs.Common.{ℕ, Bool, true, false, List, [], ◌∷◌, ◌++◌}
use Rattle.elf_image.specs.declared.image.Image.{Image}
use Rattle.text_rows.specs.Rows.{AreRowsOf}
use Rattle.insight_model.specs.Count.{Executed}
use Rattle.insight_model.specs.Profile.{Event, goes_on, row_of}
use Rattle.insight_laws.proofs.Listed.{AllStandIn, StandsIn}
use Rattle.insight_laws.proofs.TextRows.{addresses, row_stands}
use Rattle.instruction_count.specs.Counted.{run_events}
use Rattle.instruction_count.proofs.Amounts.{events_by}

events_stand : (trap on : Bool) (row : ℕ) (rows : List ℕ) (rest : List Event) → StandsIn row rows → AllStandIn rows rest → AllStandIn rows (events_by trap on row ++ rest)
events_stand true on row rows rest there others = (there, others)
events_stand false true row rows rest there others = (there, others)
events_stand false false row rows rest there others = (there, (there, others))

pub all_stand : (image : Image) (rows : List ℕ) → AreRowsOf image rows → (run : List Executed) → AllStandIn (addresses rows) (run_events image run)
all_stand image rows are [] = tt
all_stand image rows are (x ∷ run) =
    events_stand x.has_trapped (goes_on x.addr x.next) (row_of image x.addr) (addresses rows) (run_events image run) (row_stands image rows are x.addr) (all_stand image rows are run)
