-- The form of a command as the code has it.
use Rattle.std.specs.Prelude.{map, option_map}
use Rattle.fast_cli.specs.Words.{Form}
use Rattle.fast_cli.specs.declared.form.Form.{Form as FormInCode}

abbrev pub form_of : FormInCode → Form
form_of f = record {
  word = f.word.now;
  names = map (λ name. name.now) f.names.now;
  optional = map (λ name. name.now) f.optional.now;
  rest = option_map (λ name. name.now) f.rest;
  options = map (λ option. option.now) f.options.now;
  flags = map (λ flag. flag.now) f.flags.now;
}
