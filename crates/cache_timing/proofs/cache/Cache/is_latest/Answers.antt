use Rattle.std.proofs.Common.{false}
use Rattle.cache_timing.proofs.Latest.{read_only, access-latest}
use Rattle.cache_timing.proofs.cache.Cache.is_latest.Goals as goal

pub returns-clause-hit : goal.returns-clause-hit
returns-clause-hit c = λ same p back sets keeps.
    (access-latest c.args.self.now p back sets c.args.addr false keeps (read_only c.args.self.now.back) (c.is_latest_line.ensures.0 same)).0

pub returns-clause-kept : goal.returns-clause-kept
returns-clause-kept c = λ same p back sets keeps.
    (access-latest c.args.self.now p back sets c.args.addr false keeps (read_only c.args.self.now.back) (c.is_latest_line.ensures.0 same)).1
