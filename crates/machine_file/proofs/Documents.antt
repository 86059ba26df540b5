-- The table that bytes write.
use Rattle.std.proofs.Common.{◌≡◌, ℕ, List, refl, inl, inr}
use Rattle.std.specs.Prelude.{None, IsUtf8}
use Rattle.std.specs.Str.{is_utf8}
use Rattle.std.proofs.lemmas.Bool.{cases_Bool}
use Rattle.std.proofs.lemmas.Str.{is_utf8-from_IsUtf8, IsUtf8-from_is_utf8}
use Rattle.toml.specs.Parse.{parse_document}
use Rattle.machine_file.specs.File.{document}

pub document-text : (bytes : List ℕ) → IsUtf8 bytes → document bytes ≡ parse_document bytes
unfolding document
document-text bytes text = rw (is_utf8-from_IsUtf8 bytes text) refl

pub document-refused : (bytes : List ℕ) → (IsUtf8 bytes → parse_document bytes ≡ None) → document bytes ≡ None
unfolding document
document-refused bytes refused = elim (cases_Bool (is_utf8 bytes)) [
  | inl text ↦ rw text (refused (IsUtf8-from_is_utf8 bytes text))
  | inr other ↦ rw other refl
]
