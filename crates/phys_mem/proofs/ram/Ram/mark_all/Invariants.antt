use Rattle.std.proofs.Common.{◌≡◌}
use Rattle.phys_mem.specs.Ram.{range_of, ram_of, exec_of}
use Rattle.phys_mem.specs.Segment.{with_text}
use Rattle.phys_mem.proofs.ram.Ram.mark_all.Given as goal

-- the addresses so far were made text
abbrev pub invariant-loop-i : goal.invariant-loop-i
invariant-loop-i l = record {
  range : range_of l.self ≡ range_of l.fn.self;
  ram : ram_of l.self ≡ ram_of l.fn.self;
  exec : exec_of l.self ≡ with_text l.addr l.i (exec_of l.fn.self);
}
