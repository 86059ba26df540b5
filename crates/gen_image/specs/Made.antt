-- What has been made of code while its words are added to others.
use Rattle.std.specs.Prelude.{◌≡◌, ℕ, List, ◌++◌, map}
use Rattle.elf_image.specs.Write.{words}
use Rattle.rand_pcg.specs.Lcg.{Lcg}
use Rattle.rv_decode.specs.Encode.{encode_of}
use Rattle.gen_image.specs.Draws.{Code}

-- the code's bytes
abbrev pub bytes_of : Code → Lcg → List ℕ
bytes_of code g = words (map encode_of (code g).0)

-- the code's bytes stand behind those that were there, and its draws were made
pub record Adds (code : Code) (before after : Lcg) (old new : List ℕ) : Type 0 where
  pub bytes : new ≡ old ++ bytes_of code before
  pub drawn : after ≡ (code before).1
