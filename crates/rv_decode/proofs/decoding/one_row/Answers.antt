use Rattle.rv_decode.proofs.decoding.one_row.Goals as goal
use Rattle.rv_decode.proofs.Apart.{one_at_most_of_table, decode_of-row, decode_of_none}

pub returns : goal.returns
returns c = record { at_most = one_at_most_of_table; row = decode_of-row; none = decode_of_none }
