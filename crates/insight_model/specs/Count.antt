-- The rows of a run without a pipeline: one step is one instruction.
use Rattle.std.specs.Prelude.{ℕ, zero, suc, ◌==◌, not, is_none, if◌then◌else◌, Bool, true, false, Some, None, unwrap_or, List, [], ◌∷◌, ◌++◌, codes, filter, flat_map, map}
use Rattle.std.specs.List.{last_or}
use Rattle.elf_image.specs.declared.image.Image.{Image}
use Rattle.mono_model.specs.declared.setup.Setup.{Setup}
use Rattle.mono_model.specs.Arch.{Arch}
use Rattle.mono_model.specs.Found.{word_in}
use Rattle.mono_model.specs.Sequence.{found_next, result_at}
use Rattle.mono_model.specs.Result.{Result}
use Rattle.mono_model.specs.Effect.{note_of}
use Rattle.mono_model.specs.Alone.{Alone, alone_start, alone_step, after_interrupt, has_no_room}
use Rattle.mono_model.specs.Final.{has_ended}
use Rattle.mono_model.specs.Report.{Text, joined, line_feed}
use Rattle.insight_model.specs.Profile.{Event, retired, trapped, taken, once, goes_on, row_of, amount_in, own_events, rows_of, numbers_line}

-- An instruction that was executed: where it stands, its word, whether it trapped, and where it leads to.
pub record Executed : Type 0 where
  pub addr : ℕ
  pub word : ℕ
  pub has_trapped : Bool
  pub next : ℕ

abbrev pub executed_by : Setup → Arch → Result → Executed
executed_by s a r = record { addr = a.pc; word = word_in (found_next s a); has_trapped = not (is_none r.cause); next = r.next }

-- a byte for which the output has no room ends the run before its instruction, which isn't counted
abbrev pub executed_if : Setup → Arch → Result → List Executed
executed_if s a r = if has_no_room s (note_of r a) a then [] else executed_by s a r ∷ []

abbrev pub executed_in : Setup → Alone → List Executed
executed_in s m = let a = (after_interrupt m).arch in executed_if s a (result_at s (Some m.steps) a)

-- the instructions of a run from a state on, in at most so many steps
unfoldable pub executed_from : Setup → ℕ → Alone → List Executed
executed_from s zero m = []
executed_from s (suc more) m = elim (has_ended m.end) [ true ↦ [] | false ↦ executed_in s m ++ executed_from s more (alone_step s m) ]

abbrev pub executed_events : Image → Executed → List Event
executed_events image x =
    if x.has_trapped then once image trapped x.addr ∷ []
    else once image retired x.addr ∷ (if goes_on x.addr x.next then [] else once image taken x.addr ∷ [])

abbrev pub executed_word : Image → ℕ → List Executed → ℕ
executed_word image row run = unwrap_or (last_or None (map (λ x. x.word) (filter (λ x. row_of image x.addr == row) run))) 0

abbrev pub count_numbers : List Event → List ℕ
count_numbers own = amount_in retired own ∷ amount_in trapped own ∷ amount_in taken own ∷ []

abbrev pub count_row : Image → List Executed → List Event → ℕ → Text
count_row image run all row = numbers_line row (executed_word image row run) (count_numbers (own_events row all))

abbrev pub count_rows : Image → List Executed → List Event → List Text
count_rows image run all = map (count_row image run all) (rows_of all)

unfoldable pub count_header : Text
count_header = codes "address,word,retired,exceptions,taken" ++ line_feed

abbrev pub count_of_run : Image → List Executed → Text
count_of_run image run = count_header ++ joined (count_rows image run (flat_map (executed_events image) run))

-- what is written of a run of at most so many steps
unfoldable pub count_text : Setup → ℕ → Text
count_text s most = count_of_run s.image (executed_from s most (alone_start s))
