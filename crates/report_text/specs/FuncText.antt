-- What is written of a run without a machine file.
use Rattle.std.specs.Prelude.{ℕ, List, ◌++◌}
use Rattle.mono_model.specs.declared.setup.Setup.{Setup}
use Rattle.mono_model.specs.Alone.{alone, alone_final}
use Rattle.mono_model.specs.Report.{closed_output, func_report_text}

-- the output of the run to its end, closed by a line feed where it ends open, and the report
unfoldable pub func_text : Setup → List ℕ
func_text s =
    let run = alone s s.cycles in closed_output run.arch.output
    ++ func_report_text (alone_final run)
