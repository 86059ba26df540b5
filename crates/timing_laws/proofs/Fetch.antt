-- A try of fetch, made of what was told of the instruction at which fetch stands, is that of the machine.
use Rattle.std.proofs.Common.{◌≡◌, ℕ, suc, ◌+◌, ◌<◌, ◌==◌, ◌&&◌, not, nat_le, nat_lt, Bool, true, false, if◌then◌else◌, Option, List, [], ◌∷◌, ◌++◌, length, length-append, refl, ap, sym, ◌∙◌, subst, arith}
use Rattle.fsim_base.specs.Number.{wrap_sum}
use Rattle.fsim_base.specs.declared.cause.Cause.{Cause}
use Rattle.rollback_cmds.specs.declared.order.Order.{Order}
use Rattle.rollback_cmds.specs.declared.order.Order.TheVariants.{Set}
use Rattle.branch_predictor.specs.Predictor.{predicted}
use Rattle.cache_timing.specs.Caches.{CachesState, Served, fetched}
use Rattle.trace_entry.specs.declared.Entry.{Entry}
use Rattle.reorder_buffer.specs.declared.slot.SlotState.TheVariants.{Waiting}
use Rattle.mono_model.specs.declared.setup.Setup.{Setup}
use Rattle.mono_model.specs.Setup.{ram_range, predictor_params, caches_params}
use Rattle.mono_model.specs.Arch.{Arch, register_value}
use Rattle.mono_model.specs.Found.{found_at, first_source, second_source, word_in, is_fetchable}
use Rattle.mono_model.specs.Sequence.{found_next, seen_in, result_at}
use Rattle.mono_model.specs.Path.{path, time_of, entry}
use Rattle.mono_model.specs.Window.{Record, is_waiting_stage, waiting_count}
use Rattle.mono_model.specs.Machine.{Machine}
use Rattle.mono_model.specs.Fetch as mono
use Rattle.mono_model.specs.Demand.{Demand, next, path_orders, demand_try}
use Rattle.machine_laws.specs.Relation.{Related}
use Rattle.mono_model.proofs.Path.{path_below}
use Rattle.machine_laws.proofs.Path.{path_text}
use Rattle.machine_laws.proofs.Tracks.{tracks_end}
use Rattle.timing_side.specs.Slots as slots
use Rattle.reorder_buffer.specs.Held.{slot_from}
use Rattle.timing_side.specs.Timing.{quiet}
use Rattle.timing_side.specs.Fetch as timing
use Rattle.timing_laws.specs.Seen.{slots_of, seen}
use Rattle.timing_laws.proofs.Words.{found_fetched, fetchable_is}
use Rattle.timing_laws.proofs.Entries.{waiting_same, entry_addr, entry_word, entry_cause, slots_length, slots_append, slots_same, IsPhase}

-- whether a try may be made
pub waits_same : (s : Setup) (os : List Order) (n : ℕ) (window : List Record) → slots.waiting_count (slots_of (entry s os) n window) ≡ waiting_count window
waits_same s os n [] = refl
waits_same s os n (rec ∷ rest) =
    ap (λ (b : Bool). (if b then 1 else 0) + slots.waiting_count (slots_of (entry s os) (suc n) rest)) (waiting_same rec.stage)
    ∙ ap (λ (k : ℕ). (if is_waiting_stage rec.stage then 1 else 0) + k) (waits_same s os (suc n) rest)

pub may_fetch_same : (s : Setup) (d : Demand) → timing.may_fetch s (seen s d) ≡ mono.may_fetch s d.machine
unfolding seen timing.may_fetch mono.may_fetch
may_fetch_same s d =
    let m = d.machine in
    let held = slots_of (entry s d.orders) d.to_commit m.window in
    ap (λ (k : ℕ). nat_le m.resume m.cycle && nat_lt k s.params.core_window && nat_lt (slots.waiting_count held) s.params.core_stations) (slots_length s d.orders d.to_commit m.window)
    ∙ ap (λ (k : ℕ). nat_le m.resume m.cycle && nat_lt (length m.window) s.params.core_window && nat_lt k s.params.core_stations) (waits_same s d.orders d.to_commit m.window)

result_fetchable : (s : Setup) (time : Option ℕ) (a : Arch) →
    not (word_in (found_next s a) == 0 && timing.is_fetch_cause (result_at s time a).cause) ≡ is_fetchable (found_next s a)
unfolding result_at
result_fetchable s time a =
    fetchable_is (ram_range s.params) (found_next s a) a.pc (register_value a.regs (first_source (found_next s a))) (register_value a.regs (second_source (found_next s a))) (seen_in time a)
    (found_fetched s.image a.text a.pc)

abbrev pub goes_on : mono.Try → Bool
goes_on (mono.misses behind) = false
goes_on (mono.appends behind) = true
goes_on (mono.turns behind) = false

-- A try of the timing side is that of the demand run, and so is whether the next may follow.
pub record IsTry (s : Setup) (d : Demand) (t : mono.Try) (f : timing.Tried) : Type 0 where
  pub phase : IsPhase s d (demand_try s t d) f.phase
  pub goes_on : f.goes_on ≡ goes_on t

-- the entry has the address where fetch stands
pub fetch_stands : (s : Setup) (d : Demand) → Related s d → (entry s d.orders (next d)).addr ≡ d.machine.fetch_addr
fetch_stands s d related =
    entry_addr s d.orders (next d) ∙ (tracks_end s (time_of d.orders) (path s d.orders) d.to_commit d.machine.window d.machine.fetch_addr d.machine.kept related.window).0

module _ (s : Setup) (d : Demand) (related : Related s d) where
  abbrev told : Entry
  told = entry s d.orders (next d)

  fetchable_same : timing.is_fetchable told ≡ is_fetchable (mono.found_there s d.machine)
  fetchable_same =
      let here : Arch = path s d.orders (next d) in
      let text : here.text ≡ d.machine.arch.text =
      path_text s d.orders d.to_commit (length d.machine.window) related.within ∙ ap (λ (a : Arch). a.text) (sym related.arch) in
      let addr : here.pc ≡ d.machine.fetch_addr = sym (entry_addr s d.orders (next d)) ∙ fetch_stands s d related in
      ap (λ (w : ℕ). not (w == 0 && timing.is_fetch_cause told.cause)) (entry_word s d.orders (next d))
      ∙ ap (λ (c : Option Cause). not (word_in (found_next s here) == 0 && timing.is_fetch_cause c)) (entry_cause s d.orders (next d))
      ∙ result_fetchable s (time_of d.orders (next d)) here
      ∙ ap (λ (t : ℕ → ℕ). is_fetchable (found_at s.image t here.pc)) text
      ∙ ap (λ (k : ℕ). is_fetchable (found_at s.image d.machine.arch.text k)) addr

  read_same : timing.cache_read s told (seen s d) ≡ mono.cache_read s d.machine
  unfolding seen
  read_same =
      let m = d.machine in
      let read : Bool → ℕ → Served = λ b addr. if b && not m.paid then fetched (caches_params s.params) m.caches addr else record { state = m.caches; cycles = 0 } in
      ap (λ (b : Bool). read b told.addr) fetchable_same ∙ ap (λ (k : ℕ). read (is_fetchable (mono.found_there s m)) k) (fetch_stands s d related)

  predicted_same : timing.predicted_next s told (seen s d) ≡ mono.predicted_next s d.machine
  unfolding seen
  predicted_same = ap (λ (k : ℕ). predicted (predictor_params s.params) d.machine.predictor k) (fetch_stands s d related)

  -- the slots with the new one, under the orders behind the try
  slots_new : (later : List Order) → ((m : ℕ) → time_of later m ≡ time_of d.orders m) → ((m : ℕ) → m < next d + 1 → path s later m ≡ path s d.orders m) →
      (slots_of (entry s d.orders) d.to_commit d.machine.window ++ slot_from told (timing.predicted_next s told (seen s d)) d.machine.cycle Waiting ∷ [])
      ≡ slots_of (entry s later) d.to_commit (d.machine.window ++ mono.new_record s d.machine ∷ [])
  slots_new later times same =
      let m = d.machine in
      let grown : List Record = m.window ++ mono.new_record s m ∷ [] in
      ap (λ (k : ℕ). slots_of (entry s d.orders) d.to_commit m.window ++ slot_from told k m.cycle Waiting ∷ []) predicted_same
      ∙ sym (slots_append s d.orders d.to_commit m.window (mono.new_record s m))
      ∙ sym (slots_same s d.orders later d.to_commit grown times (λ k under. same k (omega (arith, length-append m.window (mono.new_record s m ∷ [])))))

  orders_same : timing.path_orders s told (seen s d) ≡
      (if told.next == mono.predicted_next s d.machine then [] else Set (next d + 1) (mono.predicted_next s d.machine) ∷ [])
  unfolding seen
  orders_same =
      let orders : ℕ → ℕ → List Order = λ count addr. if told.next == addr then [] else Set (d.to_commit + count + 1) addr ∷ [] in
      ap (λ (k : ℕ). orders (length (slots_of (entry s d.orders) d.to_commit d.machine.window)) k) predicted_same
      ∙ ap (λ (k : ℕ). orders k (mono.predicted_next s d.machine)) (slots_length s d.orders d.to_commit d.machine.window)

  appended_seen : (caches : CachesState) → IsPhase s d
      (record d { machine = mono.appended s caches d.machine; orders = path_orders s d })
      (record { timing = timing.appended s told caches (seen s d); orders = timing.path_orders s told (seen s d) })
  unfolding seen
  appended_seen caches =
      let P : List Order → Type 0 = λ os. IsPhase s d
      (record d { machine = mono.appended s caches d.machine; orders = path_orders s d }) (record { timing = timing.appended s told caches (seen s d); orders = os }) in
      subst P (sym orders_same) (by_test (told.next == mono.predicted_next s d.machine))
    where
      m : Machine
      m = d.machine

      behind : (later : List Order) → ((k : ℕ) → time_of later k ≡ time_of d.orders k) → ((k : ℕ) → k < next d + 1 → path s later k ≡ path s d.orders k) →
          timing.appended s told caches (seen s d) ≡ seen s (record d { machine = mono.appended s caches d.machine; orders = later })
      behind later times same =
          let e = slots_new later times same in
          λ i. record (seen s d) { slots = e i; caches = caches; paid = false; counts = record d.machine.counts { fetched = d.machine.counts.fetched + 1 } }

      by_test : (b : Bool) → IsPhase s d
          (record d { machine = mono.appended s caches d.machine; orders = if b then d.orders else Set (next d + 1) (mono.predicted_next s d.machine) ∷ d.orders })
          (record { timing = timing.appended s told caches (seen s d); orders = if b then [] else Set (next d + 1) (mono.predicted_next s d.machine) ∷ [] })
      by_test true = record { timing = behind d.orders (λ k. refl) (λ k under. refl); orders = refl }
      by_test false = record {
        timing = behind (Set (next d + 1) (mono.predicted_next s d.machine) ∷ d.orders) (λ k. refl)
            (λ k under. path_below s (Set (next d + 1) (mono.predicted_next s d.machine)) d.orders k under);
        orders = refl;
      }

  tried_seen : (c : Served) → IsTry s d (mono.tried s c d.machine) (timing.tried s told c (seen s d))
  unfolding seen
  tried_seen c = by_miss (nat_lt 0 c.cycles)
    where
      straight_same : (timing.predicted_next s told (seen s d) == wrap_sum told.addr 4) ≡ (mono.predicted_next s d.machine == wrap_sum d.machine.fetch_addr 4)
      straight_same =
          ap (λ (k : ℕ). k == wrap_sum told.addr 4) predicted_same
          ∙ ap (λ (k : ℕ). mono.predicted_next s d.machine == wrap_sum k 4) (fetch_stands s d related)

      by_straight : (b : Bool) → IsTry s d
          (if b then mono.appends (mono.appended s c.state d.machine) else mono.turns (mono.appended s c.state d.machine))
          (record { phase = record { timing = timing.appended s told c.state (seen s d); orders = timing.path_orders s told (seen s d) }; goes_on = b })
      by_straight true = record { phase = appended_seen c.state; goes_on = refl }
      by_straight false = record { phase = appended_seen c.state; goes_on = refl }

      by_miss : (b : Bool) → IsTry s d
          (if b then mono.misses (mono.missed c.cycles c.state d.machine)
          else if mono.predicted_next s d.machine == wrap_sum d.machine.fetch_addr 4 then mono.appends (mono.appended s c.state d.machine)
          else mono.turns (mono.appended s c.state d.machine))
          (if b then record { phase = quiet (timing.missed c.cycles c.state (seen s d)); goes_on = false }
          else record {
            phase = record { timing = timing.appended s told c.state (seen s d); orders = timing.path_orders s told (seen s d) };
            goes_on = timing.predicted_next s told (seen s d) == wrap_sum told.addr 4;
          })
      by_miss true = record { phase = record { timing = refl; orders = refl }; goes_on = refl }
      by_miss false =
          let P : Bool → Type 0 = λ b. IsTry s d
          (if mono.predicted_next s d.machine == wrap_sum d.machine.fetch_addr 4 then mono.appends (mono.appended s c.state d.machine) else mono.turns (mono.appended s c.state d.machine))
          (record { phase = record { timing = timing.appended s told c.state (seen s d); orders = timing.path_orders s told (seen s d) }; goes_on = b }) in
          subst P (sym straight_same) (by_straight (mono.predicted_next s d.machine == wrap_sum d.machine.fetch_addr 4))

  pub try_seen : IsTry s d (mono.fetch_try s d.machine) (timing.timing_try s told (seen s d))
  unfolding mono.fetch_try timing.timing_try
  try_seen =
      let P : Served → Type 0 = λ c. IsTry s d (mono.tried s (mono.cache_read s d.machine) d.machine) (timing.tried s told c (seen s d)) in
      subst P (sym read_same) (tried_seen (mono.cache_read s d.machine))
