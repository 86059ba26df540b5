-- The lines of a sweep: one of each machine file, behind its name.
use Rattle.std.specs.Prelude.{ℕ, Bool, false, List, [], ◌++◌, codes, decimal}
use Rattle.mono_model.specs.declared.final_state.Final.{Final}
use Rattle.mono_model.specs.Report.{line, line_feed, status_text}
use Rattle.report_text.specs.declared.status.Status.{Status}
use Rattle.report_text.specs.declared.status.Status.TheVariants.{Image, Machine}
use Rattle.report_text.specs.FaultText.{has_image_line, has_machine_line}
use Rattle.report_text.specs.FaultText.{image_fault_text, machine_fault_text}

-- how a run ended, and how long it took
abbrev pub sweep_progress : Final → List ℕ
sweep_progress f =
    codes ": " ++ status_text f.end
    ++ codes " cycles " ++ decimal f.stats.cycles
    ++ codes " instructions " ++ decimal f.stats.instructions

-- what cost it cycles: wrong predictions, and the misses of the caches
abbrev pub sweep_costs : Final → List ℕ
sweep_costs f =
    codes " mispredicted " ++ decimal f.stats.mispredicted
    ++ codes " icache " ++ decimal f.stats.icache_misses
    ++ codes " dcache " ++ decimal f.stats.dcache_misses

-- the line of a run on the machine of this name
unfoldable pub sweep_text : List ℕ → Final → List ℕ
sweep_text name f = name ++ sweep_progress f ++ (sweep_costs f ++ line_feed)

-- the answer refuses a machine of a sweep: its file, or the image for its RAM
abbrev pub is_sweep_refusal : Status → Bool
is_sweep_refusal (Image fault) = has_image_line fault
is_sweep_refusal (Machine fault) = has_machine_line fault
is_sweep_refusal status = false

-- the line of a machine that is refused: its name, and what that answer's own line has behind
-- `fast: `
unfoldable pub sweep_refusal_text : List ℕ → Status → List ℕ
sweep_refusal_text name (Image fault) =
    name ++ line (codes ": image: ") (image_fault_text fault)
sweep_refusal_text name (Machine fault) =
    name ++ line (codes ": machine: ") (machine_fault_text fault)
sweep_refusal_text name status = []
