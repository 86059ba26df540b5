-- The fifth phase of a cycle: records are appended along the predicted path
-- (Hennessy and Patterson, Computer Architecture, sections 3.3 and 3.9).
use Rattle.std.specs.Prelude.{ℕ, zero, suc, ◌+◌, ◌==◌, ◌&&◌, not, nat_le, nat_lt, if◌then◌else◌, Bool, true, false, None, [], ◌∷◌, ◌++◌, length}
use Rattle.fsim_base.specs.Number.{wrap_sum}
use Rattle.branch_predictor.specs.Predictor.{predicted}
use Rattle.cache_timing.specs.Caches.{CachesState, Served, fetched}
use Rattle.mono_model.specs.declared.setup.Setup.{Setup}
use Rattle.mono_model.specs.Setup.{predictor_params, caches_params}
use Rattle.mono_model.specs.Found.{Found, found_at, is_fetchable}
use Rattle.mono_model.specs.Window.{Record, waiting, waiting_count}
use Rattle.mono_model.specs.Machine.{Machine}

-- fetch isn't waiting for a miss, and window and stations have room
unfoldable pub may_fetch : Setup → Machine → Bool
may_fetch s m =
    nat_le m.resume m.cycle && nat_lt (length m.window) s.params.core_window && nat_lt (waiting_count m.window) s.params.core_stations

abbrev pub found_there : Setup → Machine → Found
found_there s m = found_at s.image m.arch.text m.fetch_addr

-- the access of the instruction cache, unless the miss was waited for or nothing can be fetched
abbrev pub cache_read : Setup → Machine → Served
cache_read s m =
    if is_fetchable (found_there s m) && not m.paid
    then fetched (caches_params s.params) m.caches m.fetch_addr
    else record { state = m.caches; cycles = 0 }

abbrev pub predicted_next : Setup → Machine → ℕ
predicted_next s m = predicted (predictor_params s.params) m.predictor m.fetch_addr

abbrev pub new_record : Setup → Machine → Record
new_record s m = record {
  addr = m.fetch_addr;
  found = found_there s m;
  predicted = predicted_next s m;
  time = m.kept;
  since = m.cycle;
  stage = waiting;
}

-- What a try does, with the machine behind it.
pub data Try : Type 0 where
  -- the cache misses: fetch waits
  misses : Machine → Try
  -- a record was appended, and the next try may follow
  appends : Machine → Try
  -- a record was appended, and the path goes elsewhere than on: the phase ends
  turns : Machine → Try

abbrev pub missed : ℕ → CachesState → Machine → Machine
missed cycles caches m = record m { caches = caches; resume = m.cycle + cycles; paid = true }

abbrev pub appended : Setup → CachesState → Machine → Machine
appended s caches m = record m {
  caches = caches;
  window = m.window ++ new_record s m ∷ [];
  kept = None;
  paid = false;
  fetch_addr = predicted_next s m;
  counts = record m.counts { fetched = m.counts.fetched + 1 };
}

abbrev pub tried : Setup → Served → Machine → Try
tried s d m =
    if nat_lt 0 d.cycles then misses (missed d.cycles d.state m)
    else if predicted_next s m == wrap_sum m.fetch_addr 4 then appends (appended s d.state m)
    else turns (appended s d.state m)

unfoldable pub fetch_try : Setup → Machine → Try
fetch_try s m = tried s (cache_read s m) m

abbrev pub after_try : Try → (Machine → Machine) → Machine
after_try (misses behind) go_on = behind
after_try (appends behind) go_on = go_on behind
after_try (turns behind) go_on = behind

-- at most so many more tries
unfoldable pub fetches : Setup → ℕ → Machine → Machine
fetches s zero m = m
fetches s (suc more) m = if may_fetch s m then after_try (fetch_try s m) (λ behind. fetches s more behind) else m

unfoldable pub fetch_phase : Setup → Machine → Machine
fetch_phase s m = fetches s s.params.core_fetch m
