-- The address to fetch next, if its miss was counted: that of the entry that is held.
use Rattle.std.specs.Prelude.{◌≡◌, ℕ, Bool, true, false, is_some, Option, None, option_map}
use Rattle.trace_entry.specs.declared.Entry.{Entry}
use Rattle.time_model.specs.declared.state.TimingState.{TimingState}
use Rattle.time_model.specs.Piped.{Piped}

abbrev pub missing_in : Bool → Option Entry → Option ℕ
missing_in true held = option_map (λ entry. entry.addr) held
missing_in false held = None

-- where the miss was counted, the entry is held
abbrev pub HoldsPaid : {P A : Type 0} → Piped P A → TimingState P A → Type 0
HoldsPaid piped side = (piped.core side.pipeline).paid ≡ true → is_some side.telling.held ≡ true
