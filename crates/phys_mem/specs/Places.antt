-- Pages of which only those that were changed have been made; the others are one page of zeros.
use Rattle.std.specs.Prelude.{◌≡◌, ℕ, zero, suc, ◌<◌, ◌^◌, ◌≢◌, List, [], ◌∷◌, ◌++◌, map, length, replicate, slice_index, slice_index_or}

-- the pages, by their places among those that were made
abbrev pub pages_at : List (List ℕ) → List ℕ → List (List ℕ)
pages_at made places = map (λ place. slice_index_or made place []) places

-- how many pages have a place of their own
abbrev pub count_made : List ℕ → ℕ
count_made [] = 0
count_made (zero ∷ places) = count_made places
count_made (suc place ∷ places) = suc (count_made places)

-- the page of zeros comes first, each other one that was made is one page, and all have room
pub record ArePlaces (made : List (List ℕ)) (places : List ℕ) (room : ℕ) : Type 0 where
  pub blank : slice_index_or made 0 [] ≡ replicate 4096 0
  pub within : (i : ℕ) → slice_index places i < length made
  pub apart : (i j : ℕ) → slice_index places i ≡ slice_index places j → slice_index places i ≢ 0 → i ≡ j
  pub count : length made ≡ suc (count_made places)
  pub enough : length places < room
  pub few : length places < 2 ^ 32

-- the pages that are made, and the place of one, once it is made
abbrev pub made_for : ℕ → List (List ℕ) → List (List ℕ)
made_for zero made = made ++ replicate 4096 0 ∷ []
made_for (suc place) made = made

abbrev pub place_for : ℕ → List (List ℕ) → ℕ
place_for zero made = length made
place_for (suc place) made = suc place
