-- Runs with room for a few more steps than they make.
use Rattle.std.specs.Prelude.{ℕ}
use Rattle.mono_model.specs.declared.setup.Setup.{Setup}
use Rattle.worked_examples.specs.Pipeline.{smallest_pass}
use Rattle.worked_examples.specs.Setups.{code_image, plain_machine, setup_of}
use Rattle.worked_examples.specs.Time.{vectored_interrupt_reads_time}

-- passes in four instructions
abbrev pub short_run : Setup
short_run = record (setup_of (code_image smallest_pass) plain_machine) { cycles = 6 }

-- takes a timer interrupt before its eleventh instruction
abbrev pub interrupted_run : Setup
interrupted_run =
    record (setup_of (code_image vectored_interrupt_reads_time) plain_machine) { cycles = 16 }

-- steps that can be gone back
abbrev pub history : ℕ
history = 65536
