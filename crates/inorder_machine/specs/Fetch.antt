-- The sixth phase of a cycle: fetch, where Decode is empty. It is one try of the monolithic machine.
use Rattle.std.specs.Prelude.{◌==◌, ◌&&◌, nat_le, if◌then◌else◌, Bool}
use Rattle.mono_model.specs.declared.setup.Setup.{Setup}
use Rattle.mono_model.specs.Window.{waiting_count}
use Rattle.mono_model.specs.Machine.{Machine}
use Rattle.mono_model.specs.Fetch.{fetch_try, after_try}
use Rattle.inorder_machine.specs.InorderMachine.{InorderMachine}

-- fetch isn't waiting for a miss, and Decode is empty
unfoldable pub inorder_may_fetch : Machine → Bool
inorder_may_fetch m = nat_le m.resume m.cycle && waiting_count m.window == 0

abbrev pub fetch_machine : Setup → Machine → Machine
fetch_machine s m = if inorder_may_fetch m then after_try (fetch_try s m) (λ behind. behind) else m

unfoldable pub inorder_fetch : Setup → InorderMachine → InorderMachine
inorder_fetch s l = record l { machine = fetch_machine s l.machine }
