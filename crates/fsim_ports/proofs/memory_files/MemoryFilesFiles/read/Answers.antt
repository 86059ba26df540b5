use Rattle.fsim_ports.proofs.memory_files.MemoryFilesFiles.read.Goals as goal

-- the part is of the bytes that were found
pub returns-clause-part : goal.returns-clause-part
returns-clause-part c = rw (← c.self.view_is, c.in-Some.ensures.found) (c.part_of.ensures.part _ _)
