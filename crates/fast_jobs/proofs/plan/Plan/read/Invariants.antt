use Rattle.std.proofs.Common.{◌≡◌, ◌++◌, drop}
use Rattle.std.specs.List.{filter_map, position_from}
use Rattle.fast_jobs.specs.Plan.{event_of, is_bad}
use Rattle.fast_jobs.proofs.plan.Plan.read.Given as goal

-- the events so far with those of the bytes that are left are all, and the first bad byte is the first of those
abbrev pub invariant-loop-place : goal.invariant-loop-place
invariant-loop-place l = record {
  events : l.events.items ++ filter_map event_of (drop l.place l.bytes) ≡ filter_map event_of l.bytes;
  bad : position_from is_bad l.place (drop l.place l.bytes) ≡ position_from is_bad 0 l.bytes;
}
