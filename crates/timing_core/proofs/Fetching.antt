-- A try of fetch, by whether the cache misses.
use Rattle.std.proofs.Common.{◌≡◌, ℕ, ◌+◌, ◌<◌, ◌≤◌, ◌==◌, nat_lt, not, if◌then◌else◌, Bool, true, false, refl, ap, sym, ◌∙◌, arith}
use Rattle.std.proofs.lemmas.Bool.{eq-eqb, ne_eqb}
use Rattle.fsim_base.specs.Number.{wrap_sum}
use Rattle.cache_timing.specs.Caches.{Served}
use Rattle.trace_entry.specs.declared.Entry.{Entry}
use Rattle.mono_model.specs.declared.setup.Setup.{Setup}
use Rattle.timing_side.specs.Timing.{Timing, quiet}
use Rattle.timing_side.specs.Fetch.{cache_read, predicted_next, missed, appended, path_orders, Tried, timing_try}

waits : Served → Timing → Tried
waits d t = record { phase = quiet (missed d.cycles d.state t); goes_on = false }

goes : Setup → Entry → Served → Timing → Tried
goes s e d t = record { phase = record { timing = appended s e d.state t; orders = path_orders s e t }; goes_on = predicted_next s e t == wrap_sum e.addr 4 }

-- the miss is waited for
pub try_waits : (s : Setup) (e : Entry) (t : Timing) (cycles : ℕ) → cycles ≡ (cache_read s e t).cycles → 0 < cycles →
    timing_try s e t ≡ record { phase = quiet (missed cycles (cache_read s e t).state t); goes_on = false }
unfolding timing_try waits goes
try_waits s e t cycles is some =
    let d : Served = cache_read s e t in
    let misses : nat_lt 0 d.cycles ≡ true = grind (arith, is, some) in
    ap (λ (b : Bool). if b then record { phase = quiet (missed d.cycles d.state t); goes_on = false } else goes s e d t) misses
    ∙ ap (λ (n : ℕ). record { phase = quiet (missed n d.state t); goes_on = false }) (sym is)

-- the instruction is appended
pub try_appends : (s : Setup) (e : Entry) (t : Timing) (cycles : ℕ) → cycles ≡ (cache_read s e t).cycles → cycles ≤ 0 →
    timing_try s e t ≡ record {
      phase = record { timing = appended s e (cache_read s e t).state t; orders = path_orders s e t };
      goes_on = predicted_next s e t == wrap_sum e.addr 4;
    }
unfolding timing_try waits goes
try_appends s e t cycles is none =
    let d : Served = cache_read s e t in
    let hits : nat_lt 0 d.cycles ≡ false = grind (arith, is, none) in
    ap (λ (b : Bool). if b then waits d t else record {
      phase = record { timing = appended s e d.state t; orders = path_orders s e t };
      goes_on = predicted_next s e t == wrap_sum e.addr 4;
    }) hits

-- a count tells whether it has risen
pub same_count : (n : ℕ) → false ≡ not (n == n)
same_count n = sym (ap not (eq-eqb n n refl))

pub more_count : (n : ℕ) → true ≡ not (n + 1 == n)
more_count n = sym (ap not (ne_eqb (n + 1) n (λ is. omega arith)))
