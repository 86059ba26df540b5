use Rattle.std.proofs.Common.{◌≡◌, drop}
use Rattle.elf_image.specs.Load.{segments_byte, in_executable}
use Rattle.phys_mem.specs.Ram.{range_of, ram_of, exec_of}
use Rattle.phys_mem.proofs.ram.Ram.load_all.Given as goal

-- the segments from here on were loaded
abbrev pub invariant-loop-i : goal.invariant-loop-i
invariant-loop-i l = record {
  range : range_of l.self ≡ range_of l.fn.self;
  ram : ram_of l.self ≡ segments_byte (drop l.i l.segments);
  exec : exec_of l.self ≡ in_executable (drop l.i l.segments);
}
