use Rattle.std.proofs.Common.{◌≡◌, ◌++◌, drop, take}
use Rattle.cycle_watch.specs.Profiled.{added}
use Rattle.cycle_watch.proofs.profile_row.ProfileRow.add_caches.Given as goal

-- the counts so far have risen
abbrev pub invariant-loop-place : goal.invariant-loop-place
invariant-loop-place l = record {
  caches : l.self.caches ≡ added (take l.place l.initial.self.caches) (take l.place l.rise) ++ drop l.place l.initial.self.caches;
  rest : l.self ≡ record l.initial.self { caches = l.self.caches };
}
