-- The registers that an instruction reads and writes, by number.
use Rattle.std.specs.Prelude.{ℕ}
use Rattle.rv_decode.specs.Decode.{decode_of}
use Rattle.mono_model.specs.Found.{Found, found_word, first_source, second_source, destination_in}
use Rattle.reservation_stations.specs.declared.station.Registers.{Registers}

abbrev pub registers_in : Found → Registers
registers_in found = record { sources = (first_source found, second_source found); destination = destination_in found }

-- those of the instruction that a word spells
abbrev pub registers_of : ℕ → Registers
registers_of word = registers_in (found_word word (decode_of word))
