-- A set-associative cache that drops the line used longest ago (Hennessy and Patterson, Computer Architecture, appendix B.1).
-- It holds no bytes: what it holds of a line is the line's number, its first address over its length, and whether the line
-- was written since it came.
use Rattle.std.specs.Prelude.{ℕ, ◌*◌, ◌/◌, ◌%◌, ◌==◌, not, Bool, ◌&&◌, ◌||◌, if◌then◌else◌, List, [], ◌∷◌, take, filter, slice_get, Option, Some, None}
use Rattle.std.specs.List.{list_any}
use Rattle.cache_timing.specs.declared.params.CacheParams.{CacheParams}
use Rattle.cache_timing.specs.declared.cache.Line.{Line}
use Rattle.cache_timing.specs.declared.cache.Touch.{Touch}
use Rattle.cache_timing.specs.declared.cache.Touch.TheVariants as touch

-- a map with the value at one index replaced
abbrev pub put_at : {A : Type 0} → ℕ → A → (ℕ → A) → (ℕ → A)
put_at index value map = λ i. if i == index then value else map i

-- a cache that holds nothing
abbrev pub no_lines : ℕ → List Line
no_lines = λ _. []

-- whether a set, the line used last first, holds the line of this number
abbrev pub holds : ℕ → List Line → Bool
holds number set = list_any (λ line. line.number == number) set

-- whether it holds that line dirty
abbrev pub holds_dirty : ℕ → List Line → Bool
holds_dirty number set = list_any (λ line. line.number == number && line.dirty) set

-- the other lines of the set
abbrev pub without : ℕ → List Line → List Line
without number set = filter (λ line. not (line.number == number)) set

-- the line in front of the others: it is dirty where it was, or where this access makes it dirty
abbrev pub fronted : ℕ → Bool → List Line → List Line
fronted number writes set = record { number = number; dirty = writes || holds_dirty number set } ∷ without number set

-- the first address of a line that leaves dirty
abbrev pub written_back : ℕ → Option Line → Option ℕ
written_back size None = None
written_back size (Some line) = if line.dirty then Some (line.number * size) else None

-- the lists of the sets after an access, and what it met
pub record Touched : Type 0 where
  pub sets : ℕ → List Line
  pub touch : Touch

-- an access to the line of this number: its set is cut to as many lines as there are ways, and a miss may drop the line
-- behind the cut
abbrev pub touched_line : CacheParams → ℕ → Bool → (ℕ → List Line) → Touched
touched_line p number writes sets =
    let index : ℕ = number % p.sets in
    let lines : List Line = fronted number writes (sets index) in
    record {
      sets = put_at index (take p.ways lines) sets;
      touch =
          if holds number (sets index) then touch.Hit else touch.Miss (written_back p.line (slice_get lines p.ways));
    }

-- an access to an address. Only a write under write-back makes its line dirty, and without ways there is no cache
unfoldable pub touched : CacheParams → Bool → (ℕ → List Line) → ℕ → Bool → Touched
touched p back sets addr write =
    if p.ways == 0 then record { sets = sets; touch = touch.None } else touched_line p (addr / p.line) (back && write) sets
