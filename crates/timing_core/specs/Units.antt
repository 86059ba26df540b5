-- The units in use in a cycle, as those of the machine.
use Rattle.std.specs.Prelude.{ℕ}
use Rattle.fsim_base.specs.declared.instruction.Class.{Class}
use Rattle.fsim_base.specs.declared.instruction.Class.TheVariants as class
use Rattle.mono_model.specs.Issue as machine
use Rattle.timing_core.specs.declared.units.Used.{Used}

abbrev pub used_in : Used → machine.Used
used_in used = record { alu = used.alu; mul = used.mul; div = used.div; mem = used.mem }

-- how many of a class's kind have begun
abbrev pub kind_count : Class → Used → ℕ
kind_count class.Alu used = used.alu
kind_count class.Serial used = used.alu
kind_count class.Mul used = used.mul
kind_count class.Div used = used.div
kind_count class.Load used = used.mem
kind_count class.Store used = used.mem
