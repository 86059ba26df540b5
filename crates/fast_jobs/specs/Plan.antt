-- A plan: the letters of events, and blanks, which do nothing.
use Rattle.std.specs.Prelude.{◌≡◌, ℕ, ◌==◌, ◌||◌, not, Bool, true, false, List, [], ◌∷◌, ◌++◌}
use Rattle.std.specs.Prelude.{Option, option_map, is_some, find}
use Rattle.std.specs.List.{filter_map, list_any, position_from}
use Rattle.std.specs.Option.{option_to_list}
use Rattle.split_core.specs.declared.event.Event.{Event}
use Rattle.split_core.specs.declared.event.Event.TheVariants.{Compute, Push, Obey, Tick, Take, Send}
use Rattle.report_text.specs.declared.status.Status.{Status}
use Rattle.report_text.specs.declared.status.Status.TheVariants.{Memory, BadPlan}

-- the ASCII letters C, P, O, T, K and S
abbrev pub letters : List (ℕ × Event)
letters = (67, Compute) ∷ (80, Push) ∷ (79, Obey) ∷ (84, Tick) ∷ (75, Take) ∷ (83, Send) ∷ []

-- space, carriage return and line feed
abbrev pub blanks : List ℕ
blanks = 32 ∷ 13 ∷ 10 ∷ []

-- the event of a letter; none of another byte
abbrev pub event_of : ℕ → Option Event
event_of byte = option_map (λ row. row.1) (find (λ row. row.0 == byte) letters)

abbrev pub is_blank : ℕ → Bool
is_blank byte = list_any (λ blank. blank == byte) blanks

-- neither a letter nor a blank
abbrev pub is_bad : ℕ → Bool
is_bad byte = not (is_some (event_of byte) || is_blank byte)

-- the events that the bytes name, in their order
unfoldable pub plan_events : List ℕ → List Event
plan_events bytes = filter_map event_of bytes

-- the place of the first bad byte, counted from 0
unfoldable pub first_bad : List ℕ → Option ℕ
first_bad bytes = position_from is_bad 0 bytes

-- the byte is a letter or a blank, and its event, if it has one, was added to the events
pub record IsAdded (byte : ℕ) (before after : List Event) : Type 0 where
  pub good : is_bad byte ≡ false
  pub same : after ≡ before ++ option_to_list (event_of byte)

-- the byte at a place is neither, and an answer says so, or is want of memory, which is free
abbrev pub IsBadAt : ℕ → ℕ → Status → Type 0
IsBadAt byte place (BadPlan first) = (is_bad byte ≡ true) × (first ≡ place)
IsBadAt byte place Memory = Unit {0}
IsBadAt byte place status = ⊥
