-- Options as the code has them before it owns their name.
use Rattle.std.specs.Prelude.{option_map}
use Rattle.fast_cli.specs.declared.line.Options.{Options}
use Rattle.fast_cli.specs.declared.values.GivenOptions.{GivenOptions}

abbrev pub options_in : GivenOptions → Options
options_in given = record {
  ring = given.ring;
  cycles = given.cycles;
  output = given.output;
  input = option_map (λ name. name.now) given.input;
  exit_code = given.exit_code;
}
