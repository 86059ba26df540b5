use Rattle.std.proofs.Common.{◌≡◌, ◌≤◌, take}
use Rattle.fast_jobs.specs.Reading.{AreRead}
use Rattle.fast_jobs.proofs.read.read_files.Given as goal

-- the files so far were read, and each read left what is told of them
abbrev pub invariant-loop-file : goal.invariant-loop-file
invariant-loop-file g l = record {
  told : g.F.Files.told l.files ≡ g.F.Files.told l.fn.files;
  count : g.F.Files.faults l.fn.files ≤ g.F.Files.faults l.files;
  unread : l.file-index ≡ 0 → g.F.Files.faults l.files ≡ g.F.Files.faults l.fn.files;
  read : AreRead (g.F.Files.told l.fn.files) (take l.file-index l.named) l.contents.items;
}
