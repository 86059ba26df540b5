-- What a proof unfolds to compute `line` at words that are written out.
use Rattle.std.specs.Prelude.{⊤}
use Rattle.fast_cli.specs.Number.{number_in}
use Rattle.fast_cli.specs.Words.{values_from, values_in}
use Rattle.fast_cli.specs.Values.{default_options, given_number_at, last_cycle_at, name_at, name_if_given, names_at, names_in, number_at, options_at, pipeline_at}
use Rattle.fast_cli.specs.Line.{back_at, count_at, func_at, gdb_at, inorder_at, line, profile_at, run_at, sched_at, soak_at, stack_at, sweep_at, trace_at}

unfoldable pub line_on_words : ⊤
unfolding number_in values_from values_in given_number_at last_cycle_at name_at name_if_given names_at names_in number_at options_at pipeline_at default_options
    line func_at run_at sched_at soak_at back_at inorder_at sweep_at trace_at stack_at profile_at count_at gdb_at
line_on_words = tt
