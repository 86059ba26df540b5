-- Why fetch ended in a cycle.
use Rattle.std.specs.Prelude.{ℕ, ◌==◌, ◌||◌, not, if◌then◌else◌, Bool, true, false, is_some, None, List, length, codes, ◌∷◌, []}
use Rattle.std.specs.List.{last_or}
use Rattle.std.specs.Option.{option_map_or}
use Rattle.fsim_base.specs.Number.{wrap_sum}
use Rattle.mono_model.specs.declared.params.Params.{Params}
use Rattle.mono_model.specs.Report.{Text}
use Rattle.insight_model.specs.declared.pipeline.Pipeline.{Pipeline}
use Rattle.insight_model.specs.declared.pipeline.Pipeline.TheVariants as pipeline
use Rattle.insight_model.specs.declared.fetch_end.FetchEnd.{FetchEnd}
use Rattle.insight_model.specs.declared.fetch_end.FetchEnd.TheVariants.{Width, Taken, Window, Stations, Icache, Ended}
use Rattle.insight_model.specs.Sight.{Shown}
use Rattle.insight_model.specs.Facts.{Facts, window_after}

-- how many are fetched in a cycle at most, and whether there is no room for more; in order, Decode has room for one
abbrev pub fetch_width : Pipeline → Params → ℕ
fetch_width pipeline.Window p = p.core_fetch
fetch_width pipeline.Inorder p = 1

abbrev pub is_full : Pipeline → Params → Facts → Bool
is_full pipeline.Window p f = length (window_after f) == p.core_window
is_full pipeline.Inorder p f = true

abbrev pub is_predicted_elsewhere : Shown → Bool
is_predicted_elsewhere shown = not (shown.predicted == wrap_sum shown.addr 4)

-- the first that applies
unfoldable pub fetch_end : Pipeline → Params → Facts → FetchEnd
fetch_end kind p f =
    if f.stopped then Ended
    else (if is_some f.missed || f.waited then Icache
    else (if length f.appended == fetch_width kind p then Width
    else (if option_map_or is_predicted_elsewhere (last_or None f.appended) false then Taken
    else (if is_full kind p f then Window else Stations))))

-- all of them, in the order in which they are written
abbrev pub fetch_ends : List FetchEnd
fetch_ends = Width ∷ Taken ∷ Window ∷ Stations ∷ Icache ∷ Ended ∷ []

abbrev pub fetch_end_place : FetchEnd → ℕ
fetch_end_place Width = 0
fetch_end_place Taken = 1
fetch_end_place Window = 2
fetch_end_place Stations = 3
fetch_end_place Icache = 4
fetch_end_place Ended = 5

abbrev pub is_fetch_end : FetchEnd → FetchEnd → Bool
is_fetch_end a b = fetch_end_place a == fetch_end_place b

abbrev pub fetch_end_name : FetchEnd → Text
fetch_end_name Width = codes "width"
fetch_end_name Taken = codes "taken"
fetch_end_name Window = codes "window"
fetch_end_name Stations = codes "stations"
fetch_end_name Icache = codes "icache"
fetch_end_name Ended = codes "ended"
