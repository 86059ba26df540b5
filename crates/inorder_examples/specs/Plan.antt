-- Setups for the orders of the in-order machine.
use Rattle.mono_model.specs.declared.setup.Setup.{Setup}
use Rattle.worked_examples.specs.Setups.{code_image, setup_of}
use Rattle.worked_examples.specs.Pipeline.{backward_branch_loop, smallest_pass}
use Rattle.worked_examples.specs.Time.{vectored_interrupt_reads_time}
use Rattle.worked_examples.specs.Traps.{environment_call}
use Rattle.worked_examples.specs.Fences.{patched_instruction_with_fence}
use Rattle.inorder_examples.specs.Machines.{in_order_machine}

abbrev pub looping : Setup
looping = record (setup_of (code_image backward_branch_loop) in_order_machine) { ring = 16 }

abbrev pub reading : Setup
reading = setup_of (code_image vectored_interrupt_reads_time) in_order_machine

abbrev pub calling : Setup
calling = setup_of (code_image environment_call) in_order_machine

abbrev pub patching : Setup
patching = setup_of (code_image patched_instruction_with_fence) in_order_machine

abbrev pub passing : Setup
passing = setup_of (code_image smallest_pass) in_order_machine
