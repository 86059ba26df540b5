use Rattle.std.proofs.Common.{◌≡◌, take}
use Rattle.phys_mem.specs.Ram.{range_of, ram_of, exec_of}
use Rattle.phys_mem.specs.Segment.{with_bytes}
use Rattle.phys_mem.proofs.ram.Ram.put_all.Given as goal

-- the bytes so far were put
abbrev pub invariant-loop-i : goal.invariant-loop-i
invariant-loop-i l = record {
  range : range_of l.self ≡ range_of l.fn.self;
  ram : ram_of l.self ≡ with_bytes l.addr (take l.i l.bytes) (ram_of l.fn.self);
  exec : exec_of l.self ≡ exec_of l.fn.self;
}
