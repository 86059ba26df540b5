-- What the lines and the ages that a cache keeps stand for.
use Rattle.std.specs.Prelude.{◌≡◌, ◌≢◌, ℕ, ◌+◌, ◌*◌, ◌<◌, ◌≤◌, ◌^◌, Bool, List, [], ◌∷◌, length, Option, None, IfSome, IsSomeAnd, slice_get, slice_index, slice_index_or, slice_set, Some, All}
use Rattle.cache_timing.specs.declared.params.CacheParams.{CacheParams}
use Rattle.cache_timing.specs.declared.cache.Line.{Line}
use Rattle.cache_timing.specs.declared.cache.Cache.{Cache}
use Rattle.cache_timing.specs.Ages.{IsOrder, age_of, age_after}

-- no line of the list has this number
abbrev pub Absent : ℕ → List Line → Type 0
Absent number lines = All (λ line. line.number ≢ number) lines

-- no two lines of the list have one number
abbrev pub Distinct : List Line → Type 0
Distinct [] = Unit {0}
Distinct (line ∷ lines) = Absent line.number lines × Distinct lines

-- what a set keeps by its ways stands for a list: the age of each way is the place of its line in the list
pub record IsSet (p : CacheParams) (line : ℕ → Option Line) (age : ℕ → ℕ) (set : List Line) : Type 0 where
  pub order : IsOrder p.ways age
  pub within : length set ≤ p.ways
  pub lines : (way : ℕ) → way < p.ways → line way ≡ slice_get set (age way)
  pub distinct : Distinct set
  pub fit : All (λ l. l.number * p.line < 2 ^ 32) set

-- what a way of a set holds
abbrev pub line_at : Cache → ℕ → ℕ → Option Line
line_at it set way = slice_index_or it.lines.items (set * it.params.ways + way) None

-- the age of a way of a set
abbrev pub age_at : Cache → ℕ → ℕ → ℕ
age_at it set way = age_of (slice_index it.ages.items set) way

-- the number of the line that was used last in a set
abbrev pub latest_at : Cache → ℕ → Option ℕ
latest_at it set = slice_index_or it.latest.items set None

-- the first line of the list has this number: it is the one that was used last
abbrev pub IsFirst : List Line → ℕ → Type 0
IsFirst set number = IsSomeAnd (slice_get set 0) (λ line. line.number ≡ number)

-- the cache has these sizes and this policy, its sets stand for these lists, and the latest line of each set is the first of its list
pub record CacheStandsFor (it : Cache) (p : CacheParams) (back : Bool) (sets : ℕ → List Line) : Type 0 where
  pub sizes : it.params ≡ p
  pub policy : it.back ≡ back
  pub lists : (i : ℕ) → i < p.sets → IsSet p (line_at it i) (age_at it i) (sets i)
  pub latest : (i : ℕ) → i < p.sets → IfSome (latest_at it i) (IsFirst (sets i))

-- one way of one set was used for a line, which is now the set's latest, and nothing else changed
pub record IsPut (old new : Cache) (set way : ℕ) (line : Line) : Type 0 where
  pub sizes : new.params ≡ old.params
  pub policy : new.back ≡ old.back
  pub lines : new.lines.items ≡ slice_set old.lines.items (set * old.params.ways + way) (Some line)
  pub latest : new.latest.items ≡ slice_set old.latest.items set (Some line.number)
  pub ages : (w : ℕ) → w < old.params.ways → age_at new set w ≡ age_after (age_at old set) way w
  pub others : (i : ℕ) → i ≢ set → slice_index new.ages.items i ≡ slice_index old.ages.items i
