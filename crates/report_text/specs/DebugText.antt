-- What a debugger writes: a line of each position that a command comes to, and the machine there.
use Rattle.std.specs.Prelude.{ℕ, List, ◌++◌, codes, decimal}
use Rattle.machine_csr.specs.declared.csrs.Csrs.{Csrs}
use Rattle.mono_model.specs.Report.{hex, line_feed, status_text}
use Rattle.report_text.specs.Lines.{output_line, values_text}
use Rattle.report_text.specs.declared.debugging.Arrival.{Arrival}
use Rattle.report_text.specs.declared.debugging.Arrival.TheVariants.{Moved, Oldest, Reached, Ended}

abbrev pub arrival_text : Arrival → List ℕ
arrival_text Moved = codes "moved"
arrival_text Oldest = codes "oldest"
arrival_text Reached = codes "reached"
arrival_text (Ended end) = status_text end

-- how many steps are made, the address of the next instruction, and how a command came there
unfoldable pub position_text : ℕ → ℕ → Arrival → List ℕ
position_text at pc arrival =
    decimal at ++ codes " " ++ hex 8 pc ++ codes " " ++ arrival_text arrival ++ line_feed

-- how many bytes of output there are, the registers, and the CSRs
unfoldable pub machine_text : ℕ → List ℕ → Csrs → ℕ → List ℕ
machine_text output regs csrs cmp = output_line output ++ values_text regs csrs cmp
