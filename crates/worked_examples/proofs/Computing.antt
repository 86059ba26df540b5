-- One name that opens the definitions of the machines: whatever unfolds `computing` unfolds all that it lists.
use Rattle.std.proofs.Common.{ℕ}
use Rattle.mono_model.specs.Cycle.{mono, cycled, end_of_cycle}
use Rattle.mono_model.specs.Machine.{machine_final, machine_start, flushed}
use Rattle.mono_model.specs.Interrupt.{interrupt_phase}
use Rattle.mono_model.specs.Commit.{commit_phase, commits, leaving}
use Rattle.mono_model.specs.Complete.{complete_phase, completes}
use Rattle.mono_model.specs.Issue.{issue_phase, wants_time, walk, turn_of, ready_result}
use Rattle.mono_model.specs.Fetch.{fetch_phase, fetches, fetch_try, may_fetch}
use Rattle.mono_model.specs.Arch.{start, trapped, synced}
use Rattle.mono_model.specs.Found.{found_at}
use Rattle.mono_model.specs.Result.{executed}
use Rattle.mono_model.specs.Effect.{effect, retired}
use Rattle.mono_model.specs.Alone.{alone, alone_start, alone_step, alone_final}
use Rattle.mono_model.specs.Sequence.{result_at, seq, entry_at}
use Rattle.mono_model.specs.Path.{path, entry}
use Rattle.mono_model.specs.Demand.{turn, step, place, orders, first, entry_in}
use Rattle.mono_model.specs.Split.{split_start, event_at, committed, rounds_to_boundary}
use Rattle.rv_decode.specs.Decode.{decode_of}
use Rattle.rv_decode.specs.Table.{table}
use Rattle.elf_image.specs.Load.{image_byte, is_executable}
use Rattle.machine_csr.specs.Csr.{csr_access, reads_time_of, csr_written, row_at}
use Rattle.device_bus.specs.Bus.{find_of}
use Rattle.device_bus.specs.Device.{dev}
use Rattle.device_bus.specs.Range.{accepts_of}
use Rattle.cache_timing.specs.Caches.{fetched, loaded, stored}
use Rattle.cache_timing.specs.Cache.{touched}
use Rattle.branch_predictor.specs.Predictor.{predicted, trained}
use Rattle.rv_exec.specs.Eval.{eval_of}

unfoldable pub computing : ℕ
unfolding mono cycled end_of_cycle machine_final machine_start flushed interrupt_phase commit_phase commits leaving complete_phase completes issue_phase wants_time walk turn_of ready_result fetch_phase fetches fetch_try may_fetch start trapped synced found_at executed effect retired decode_of table image_byte is_executable csr_access reads_time_of csr_written row_at find_of dev accepts_of fetched loaded stored alone alone_start alone_step alone_final result_at seq entry_at path entry turn step place orders first entry_in split_start event_at committed rounds_to_boundary touched predicted trained eval_of
computing = 0
