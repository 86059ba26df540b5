-- The line that says where a session stands.
use Rattle.std.specs.Prelude.{ℕ, ◌++◌, codes, decimal}
use Rattle.mono_model.specs.declared.final_state.End.{End}
use Rattle.mono_model.specs.Report.{Text, line_feed, status_text}

abbrev pub where_text : ℕ → ℕ → ℕ → End → Text
where_text at oldest output end =
    codes "step " ++ decimal at ++ codes ", oldest " ++ decimal oldest
    ++ codes ", output " ++ decimal output ++ codes " bytes, " ++ status_text end ++ line_feed
