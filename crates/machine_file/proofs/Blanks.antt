-- A file without keys.
use Rattle.std.proofs.Common.{◌≡◌, List, ℕ, refl, inl, inr}
use Rattle.std.specs.Prelude.{Some, None}
use Rattle.std.specs.Str.{is_utf8}
use Rattle.std.proofs.lemmas.Bool.{cases_Bool}
use lib.Count.{ones}
use Rattle.toml.specs.Data.{Members, no_members}
use Rattle.toml.specs.Errors.{IsBlank}
use Rattle.toml.specs.Parse.{lines, parse_document}
use Rattle.machine_file.specs.Table.{first_rows, second_rows, rows, key_text}
use Rattle.machine_file.specs.File.{document, file_fault, held, given, ram_base, number_fault, row_fault}

parsed-blank : (text : List ℕ) → IsBlank text → parse_document text ≡ Some no_members
unfolding parse_document lines
parsed-blank text blank = rw blank refl

-- it has no fault
clear-without_keys : file_fault no_members ≡ None
unfolding ones file_fault first_rows second_rows rows key_text held given ram_base number_fault row_fault
clear-without_keys = refl

document-parsed : (bytes : List ℕ) (file : Members) → document bytes ≡ Some file → parse_document bytes ≡ Some file
unfolding document
document-parsed bytes file same = elim (cases_Bool (is_utf8 bytes)) [
  | inl text ↦ let opened = rw text at same in opened
  | inr other ↦ let none = rw other at same in cc
]

-- nor has what white space and comments write
pub blank_clear : (bytes : List ℕ) (file : Members) → document bytes ≡ Some file → IsBlank bytes → file_fault file ≡ None
blank_clear bytes file same blank =
    let parsed = document-parsed bytes file same in
    let empty = parsed-blank bytes blank in
    let alike : no_members ≡ file = cc in
    rw (← alike) clear-without_keys
