use Rattle.reservation_stations.specs.TurnSet.{holds}
use Rattle.reservation_stations.proofs.Missing.{put_in, put_out}
use Rattle.reservation_stations.proofs.sets.Sets.begin.Goals as goal

pub returns : goal.returns
returns c = record {
  began = λ n w e m sets.
      let turn = c.args.turn in
      let old = c.args.self.now in
      let bit = c.bit_of-at.ensures.bit in
      record {
        every_index = sets.every_index;
        waiting = λ other within. put_out turn other w (holds old.waiting other) (holds c.remove.new.self other) (c.remove.ensures.removed turn bit other) (sets.waiting other within);
        executing = λ other within. put_in turn other e (holds old.executing other) (holds c.insert.new.self other) (c.insert.ensures.inserted turn bit other) (sets.executing other within);
        short = sets.short;
        both = sets.both;
        dependents = sets.dependents;
      };
}
