use Rattle.std.proofs.Common.{◌≡◌, true, unwrap_or, refl, ap, sym, subst}
use lib.Count.{ones}
use Rattle.toml.specs.Data.{no_members}
use Rattle.branch_predictor.specs.declared.params.PredKind.TheVariants.{Gshare}
use Rattle.machine_file.specs.Table.{first_rows, second_rows, rows, key_text}
use Rattle.machine_file.specs.File.{IsMachine, held, given, params_of, params_by, value_at}
use Rattle.mono_model.specs.declared.params.Params.{Params}
use Rattle.mono_model.specs.Plain.{plain_params}
use Rattle.mono_model.specs.Setup.{are_params, ram_range}
use Rattle.gen_image.specs.Machine.{soak_machine}
use Rattle.gen_image.specs.Soak.{plain_ram}
use Rattle.gen_image.proofs.MachineText.{soak_table, soak_document, soak_faultless}
use Rattle.gen_image.proofs.machine.soak_params.Goals as goal

-- what the soak program's machine changes of another one
abbrev changed : Params → Params
changed p = record p {
  core_fetch = 4;
  core_commit = 4;
  core_front = 5;
  core_window = 64;
  core_stations = 32;
  alu_count = 3;
  mul_latency = 3;
  div_latency = 20;
  mem_count = 2;
  mem_latency = 2;
  predictor_kind = Gshare;
  predictor_counters = 4096;
  predictor_history = 12;
  predictor_targets = 512;
  icache_ways = 4;
  dcache_ways = 4;
}

soak_is_machine : IsMachine soak_machine (changed plain_params)
unfolding soak_table first_rows second_rows rows key_text held given params_of params_by
soak_is_machine = record {
  clear = soak_faultless;
  same = ap (λ file. params_by (value_at (unwrap_or file no_members))) (sym soak_document);
}

soak_in_range : are_params (changed plain_params) ≡ true
unfolding ones are_params
soak_in_range = refl

pub returns-clause-machine : goal.returns-clause-machine
returns-clause-machine c =
    subst (λ p. IsMachine soak_machine (changed p)) (sym c.plain.ensures.plain) soak_is_machine

pub returns-clause-in_range : goal.returns-clause-in_range
returns-clause-in_range c =
    subst (λ p. are_params (changed p) ≡ true) (sym c.plain.ensures.plain) soak_in_range

pub returns-clause-ram : goal.returns-clause-ram
returns-clause-ram c =
    subst (λ p. ram_range (changed p) ≡ plain_ram) (sym c.plain.ensures.plain) refl
