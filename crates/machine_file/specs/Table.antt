-- The keys of a machine file, in the order of the table in docs/MACHINE-FILE.md.
use Rattle.std.specs.Prelude.{ℕ, List, [], ◌∷◌, ◌++◌, Option, Some, None, codes}

-- what the value of a key has to be
pub data Wanted : Type 0 where
  number : ℕ → ℕ → Wanted  -- a whole number from the first to the second
  power : ℕ → ℕ → Wanted  -- such a number that is 0 or a power of two
  pages : ℕ → ℕ → Wanted  -- such a number that is a multiple of 4,096
  pages_of_ram : ℕ → ℕ → Wanted  -- such a multiple that makes at most 2^32 with the base of RAM
  text : List (List ℕ) → Wanted  -- one of these texts, which stands for its place among them

-- a top-level name, and perhaps a name inside the section of that name
pub record Key : Type 0 where
  pub top : List ℕ
  pub inside : Option (List ℕ)

-- a key, what its value has to be, and the value that it has where a file leaves it out
pub record Row : Type 0 where
  pub key : Key
  pub wanted : Wanted
  pub default : ℕ

abbrev pub row : List ℕ → List ℕ → Wanted → ℕ → Row
row section name wanted default =
    record {
      key = record { top = section; inside = Some name };
      wanted = wanted;
      default = default;
    }

abbrev pub version_row : Row
version_row =
    record {
      key = record { top = codes "version"; inside = None };
      wanted = number 1 2;
      default = 1;
    }

-- the keys of both versions
unfoldable pub first_rows : List Row
first_rows =
    version_row
    ∷ row (codes "ram") (codes "base") (pages 0x20000000 0xFFFFF000) 0x80000000
    ∷ row (codes "ram") (codes "size") (pages_of_ram 4096 67108864) 16777216
    ∷ row (codes "core") (codes "fetch") (number 1 8) 1
    ∷ row (codes "core") (codes "commit") (number 1 8) 1
    ∷ row (codes "core") (codes "front") (number 1 32) 1
    ∷ row (codes "core") (codes "window") (number 1 256) 1
    ∷ row (codes "core") (codes "stations") (number 1 256) 256
    ∷ row (codes "alu") (codes "count") (number 1 8) 1
    ∷ row (codes "alu") (codes "latency") (number 1 64) 1
    ∷ row (codes "mul") (codes "count") (number 1 8) 1
    ∷ row (codes "mul") (codes "latency") (number 1 64) 1
    ∷ row (codes "div") (codes "count") (number 1 8) 1
    ∷ row (codes "div") (codes "latency") (number 1 64) 1
    ∷ row (codes "mem") (codes "count") (number 1 8) 1
    ∷ row (codes "mem") (codes "latency") (number 1 64) 1
    ∷ row (codes "predictor") (codes "kind")
    (text (codes "static" ∷ codes "bimodal" ∷ codes "gshare" ∷ [])) 0
    ∷ row (codes "predictor") (codes "counters") (power 1 65536) 1024
    ∷ row (codes "predictor") (codes "history") (number 0 16) 8
    ∷ row (codes "predictor") (codes "targets") (power 0 65536) 0
    ∷ row (codes "icache") (codes "line") (power 4 256) 64
    ∷ row (codes "dcache") (codes "line") (power 4 256) 64
    ∷ row (codes "icache") (codes "sets") (power 1 4096) 64
    ∷ row (codes "dcache") (codes "sets") (power 1 4096) 64
    ∷ row (codes "icache") (codes "ways") (number 0 16) 0
    ∷ row (codes "dcache") (codes "ways") (number 0 16) 0
    ∷ row (codes "icache") (codes "miss") (number 0 1000) 20
    ∷ row (codes "dcache") (codes "miss") (number 0 1000) 20
    ∷ []

-- the keys of version 2 alone
unfoldable pub second_rows : List Row
second_rows =
    row (codes "dcache") (codes "policy") (text (codes "through" ∷ codes "back" ∷ [])) 0
    ∷ row (codes "l2") (codes "line") (power 4 256) 64
    ∷ row (codes "l2") (codes "sets") (power 1 65536) 512
    ∷ row (codes "l2") (codes "ways") (number 0 16) 0
    ∷ row (codes "l2") (codes "hit") (number 0 1000) 10
    ∷ row (codes "l2") (codes "miss") (number 0 1000) 100
    ∷ []

unfoldable pub rows : List Row
rows = first_rows ++ second_rows

-- a key as it is written, with a dot between its names
abbrev pub dotted : List ℕ → Option (List ℕ) → List ℕ
dotted top None = top
dotted top (Some name) = top ++ codes "." ++ name

unfoldable pub key_text : Key → List ℕ
key_text key = dotted key.top key.inside
