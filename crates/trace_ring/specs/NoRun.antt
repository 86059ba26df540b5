-- The setup of no run.
use Rattle.std.specs.Prelude.{[]}
use Rattle.mono_model.specs.declared.setup.Setup.{Setup}
use Rattle.mono_model.specs.Plain.{plain_params}

-- what `Brand` names where a call picks no setup
abbrev pub no_setup : Setup
no_setup =
    record {
      image = record { entry = 0; segments = [] };
      params = plain_params;
      input = [];
      cycles = 0;
      output = 0;
      ring = 0;
    }
