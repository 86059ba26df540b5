use Rattle.reservation_stations.specs.TurnSet.{holds}
use Rattle.reservation_stations.proofs.Missing.{put_out}
use Rattle.reservation_stations.proofs.sets.Sets.retire.Goals as goal

pub returns : goal.returns
returns c = record {
  retired = λ n w e m sets.
      let told = c.tell.ensures.told n w e m sets in
      let turn = c.args.turn in
      let bit = c.bit_of-at.ensures.bit in
      record {
        every_index = told.every_index;
        waiting = λ other within. put_out turn other w (holds c.tell.new.self.waiting other) (holds c.remove.new.self other) (c.remove.ensures.removed turn bit other) (told.waiting other within);
        executing = λ other within. put_out turn other e (holds c.tell.new.self.executing other) (holds c.remove-2.new.self other)
            (c.remove-2.ensures.removed turn bit other) (told.executing other within);
        short = told.short;
        both = told.both;
        dependents = told.dependents;
      };
}
