use Rattle.reservation_stations.proofs.Words.{bit_of_word, bit_of_next}
use Rattle.reservation_stations.proofs.turn_set.joined.Goals as goal

pub returns : goal.returns
returns c = record {
  word = λ k low. bit_of_word c.args.word c.args.next c.args.from k c.requires.within low;
  next = λ k low high. bit_of_next c.args.word c.args.next c.args.from k c.ranges.word.fits c.requires.within low high;
}
