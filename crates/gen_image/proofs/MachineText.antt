-- The table that the machine's text writes, and its parameters.
use Rattle.std.proofs.Common.{◌≡◌, ◌<◌, List, [], ◌∷◌, ℕ, zero, suc, true, nat_lt, codes, pos, refl, ◌∙◌, lit<, arith}
use Rattle.std.specs.Prelude.{Some, None, slice_index}
use Rattle.std.specs.List.{list_all}
use Rattle.std.proofs.lemmas.Bool.{and_parts}
use Rattle.std.proofs.lemmas.Bool.Decides.{nat_tests}
use Rattle.std.proofs.lemmas.Str.{IsUtf8-from_ascii}
use lib.Count.{ones}
use Rattle.toml.specs.Data.{Members, no_members, member, integer, string, table}
use Rattle.toml.specs.Parse.{parse_document}
use Rattle.toml.proofs.OnLiterals.{toml_on_literals}
use Rattle.machine_file.specs.Table.{first_rows, second_rows, rows, key_text}
use Rattle.machine_file.proofs.Documents.{document-text}
use Rattle.machine_file.specs.File.{document, machine_fault, file_fault, held, given, ram_base, number_fault, row_fault}
use Rattle.gen_image.specs.Machine.{soak_machine}

unfoldable pub soak_table : Members
soak_table =
    member (codes "alu") (table (member (codes "count") (integer (pos 3)) (no_members)))
    (member (codes "core") (table (member (codes "commit") (integer (pos 4)) (member (codes "fetch") (integer (pos 4)) (member (codes "front") (integer (pos 5)) (member (codes "stations") (integer (pos 32)) (member (codes "window") (integer (pos 64)) (no_members)))))))
    (member (codes "dcache") (table (member (codes "ways") (integer (pos 4)) (no_members)))
    (member (codes "div") (table (member (codes "latency") (integer (pos 20)) (no_members)))
    (member (codes "icache") (table (member (codes "ways") (integer (pos 4)) (no_members)))
    (member (codes "mem") (table (member (codes "count") (integer (pos 2)) (member (codes "latency") (integer (pos 2)) (no_members))))
    (member (codes "mul") (table (member (codes "latency") (integer (pos 3)) (no_members)))
    (member (codes "predictor") (table (member (codes "counters") (integer (pos 4096)) (member (codes "history") (integer (pos 12)) (member (codes "kind") (string (codes "gshare")) (member (codes "targets") (integer (pos 512)) (no_members))))))
    (member (codes "version") (integer (pos 1))
    no_members))))))))

pub soak_parsed : parse_document soak_machine ≡ Some soak_table
unfolding toml_on_literals soak_machine soak_table
soak_parsed = refl

pub soak_clear : file_fault soak_table ≡ None
unfolding ones soak_table file_fault first_rows second_rows rows key_text held given ram_base number_fault row_fault
soak_clear = refl

below_128 : (byte : ℕ) → nat_lt byte 128 ≡ true → byte < 128
below_128 byte test = grind (arith, nat_tests)

ascii_from : (bytes : List ℕ) → list_all (λ byte. nat_lt byte 128) bytes ≡ true → (i : ℕ) → slice_index bytes i < 128
ascii_from [] test i = lit< tt
ascii_from (byte ∷ bytes) test zero = below_128 byte (and_parts (nat_lt byte 128) (list_all (λ b. nat_lt b 128) bytes) test).0
ascii_from (byte ∷ bytes) test (suc i) = ascii_from bytes (and_parts (nat_lt byte 128) (list_all (λ b. nat_lt b 128) bytes) test).1 i

ascii_text : list_all (λ byte. nat_lt byte 128) soak_machine ≡ true
unfolding soak_machine
ascii_text = refl

pub soak_document : document soak_machine ≡ Some soak_table
soak_document = document-text soak_machine (IsUtf8-from_ascii soak_machine (ascii_from soak_machine ascii_text)) ∙ soak_parsed

pub soak_faultless : machine_fault soak_machine ≡ None
unfolding machine_fault
soak_faultless = rw soak_document soak_clear
