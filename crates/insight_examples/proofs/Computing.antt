-- One name that opens the definitions of what is told of a run beside those of both machines.
use Rattle.std.proofs.Common.{ℕ}
use Rattle.std.specs.Fmt.{digits}
use Rattle.inorder_examples.proofs.Computing.{inorder_computing}
use Rattle.disassembly.specs.Number.{hex}
use Rattle.disassembly.specs.Mnemonic.{mnemonic, branches, loads, stores, immediate_forms, register_forms, products, csr_forms}
use Rattle.disassembly.specs.CsrName.{name_at}
use Rattle.disassembly.specs.Text.{accesses as fence_accesses, operands, word_text}
use Rattle.insight_model.specs.OfState.{sight, inorder_sight, sights_from, inorder_sights_from, sights}
use Rattle.insight_model.specs.Facts.{facts, facts_between}
use Rattle.insight_model.specs.Accesses.{accesses, changes, misses_after}
use Rattle.insight_model.specs.Origin.{origins_after, refill_after}
use Rattle.insight_model.specs.Hole.{holes_start, holes_after}
use Rattle.insight_model.specs.Head.{head}
use Rattle.insight_model.specs.Cycles.{known_start, known_after, cycles_from, cycles}
use Rattle.insight_model.specs.Fetch.{fetch_end}
use Rattle.insight_model.specs.Stack.{stack_lines, stack_text}
use Rattle.insight_model.specs.Profile.{cycle_events, events, profile_header, profile_text}
use Rattle.insight_model.specs.Count.{executed_from, count_header, count_text}
use Rattle.insight_model.specs.Cell.{cell}
use Rattle.insight_model.specs.Trace.{lines_in, traced, trace_lines, trace_text}
use Rattle.insight_examples.specs.Reading.{reading}

unfoldable pub insight_computing : ℕ
unfolding inorder_computing digits hex mnemonic branches loads stores immediate_forms register_forms products csr_forms name_at fence_accesses operands word_text sight inorder_sight sights_from inorder_sights_from sights facts facts_between accesses changes misses_after origins_after refill_after holes_start holes_after head known_start known_after cycles_from cycles fetch_end stack_lines stack_text cycle_events events profile_header profile_text executed_from count_header count_text cell lines_in traced trace_lines trace_text reading
insight_computing = inorder_computing
