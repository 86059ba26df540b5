use Rattle.trace_ring.proofs.ends.rings.Given as goal

abbrev pub ghosts-opened : goal.ghosts-opened
ghosts-opened a = record { setup = a.setup.now }
