-- The issue of slots is that of the records.
use Rattle.std.proofs.Common.{◌≡◌, ℕ, zero, suc, ◌+◌, ◌≤◌, ◌&&◌, nat_le, Bool, true, false, if◌then◌else◌, is_none, is_some, Option, Some, None, List, [], ◌∷◌, ◌++◌, refl, ap, sym, ◌∙◌, subst, arith}
use Rattle.std.proofs.Math.Bool.{and_comm}
use Rattle.std.proofs.lemmas.Bool.{and_parts}
use Rattle.fsim_base.specs.declared.access.Access.{Access}
use Rattle.fsim_base.specs.declared.access.Access.TheVariants as access
use Rattle.fsim_base.specs.declared.access.Spot.TheVariants.{Ram, Device, Nowhere}
use Rattle.fsim_base.specs.declared.cause.Cause.{Cause}
use Rattle.fsim_base.specs.declared.instruction.Class.{Class}
use Rattle.fsim_base.specs.declared.instruction.Class.TheVariants as class
use Rattle.rollback_cmds.specs.declared.order.Order.{Order}
use Rattle.rollback_cmds.specs.declared.order.Order.TheVariants.{Time}
use Rattle.cache_timing.specs.Caches.{CachesState, Served}
use Rattle.reorder_buffer.specs.declared.slot.Slot.{Slot}
use Rattle.reorder_buffer.specs.declared.slot.SlotState.TheVariants.{Until}
use Rattle.mono_model.specs.declared.setup.Setup.{Setup}
use Rattle.mono_model.specs.Setup.{ram_range}
use Rattle.mono_model.specs.Arch.{Arch}
use Rattle.mono_model.specs.Found.{Found, first_source, second_source, destination_in}
use Rattle.mono_model.specs.Result.{Result, is_time_read}
use Rattle.mono_model.specs.Sequence.{seen_in, result_at}
use Rattle.mono_model.specs.Path.{path, time_of, entry}
use Rattle.mono_model.specs.Window as window
use Rattle.mono_model.specs.Window.{Record, Stage, waiting, until, done, class_at, is_waiting, is_register, value_at, value_if, written_value, operand, is_store_class}
use Rattle.mono_model.specs.Machine.{Machine, flushed}
use Rattle.mono_model.specs.Issue as mono
use Rattle.mono_model.specs.Issue.{Used, none_used, has_unit, with_used, latency_of, cached, seen_from}
use Rattle.mono_model.specs.Demand.{Demand, demand_issue}
use Rattle.machine_laws.specs.Relation.{Tracked, Tracks, HoldsResult, Related}
use Rattle.machine_laws.proofs.Path.{Follows, path_steps}
use Rattle.machine_laws.proofs.Operands.{Olders}
use Rattle.machine_laws.proofs.Issue.{same_result, value_is, ready_is, turn_tracked}
use Rattle.timing_side.specs.Slots.{found_in, is_done_state}
use Rattle.timing_side.specs.Timing.{Timing, quiet, ordering}
use Rattle.timing_side.specs.Issue as timing
use Rattle.timing_laws.specs.Seen.{state_of, slot_of, slots_of, seen}
use Rattle.timing_laws.proofs.Accesses.{executed_access}
use Rattle.timing_laws.proofs.Divisions.{dividing_is, dividing_on}
use Rattle.timing_laws.proofs.Entries.{waiting_same, entry_access, entry_cause, entry_unserved, slot_says, slot_class, cut_seen, IsPhase}

-- the states of a record and of its slot
pub done_same : (stage : Stage) → is_done_state (state_of stage) ≡ window.is_done_stage stage
done_same waiting = refl
done_same (until e r) = refl
done_same (done r) = refl

busy_same : (c : Class) (stage : Stage) → timing.is_busy_division c (state_of stage) ≡ window.is_busy_division c stage
busy_same class.Div waiting = refl
busy_same class.Div (until e r) = refl
busy_same class.Div (done r) = refl
busy_same class.Alu stage = refl
busy_same class.Mul stage = refl
busy_same class.Load stage = refl
busy_same class.Store stage = refl
busy_same class.Serial stage = refl

some_if : (b : Bool) (value : ℕ) → is_some (value_if b value) ≡ b
some_if true value = refl
some_if false value = refl

-- the oldest instruction may issue, whatever its class
first_allows : (c : Class) (made : Access) → mono.class_allows c made [] ≡ true
first_allows class.Alu made = refl
first_allows class.Mul made = refl
first_allows class.Div made = refl
first_allows class.Load access.Nothing = refl
first_allows class.Load (access.Load addr width Ram) = refl
first_allows class.Load (access.Load addr width Device) = refl
first_allows class.Load (access.Load addr width Nowhere) = refl
first_allows class.Load (access.Store addr width spot) = refl
first_allows class.Store made = refl
first_allows class.Serial made = refl

-- with no older record each source has a value
first_value : (a : Arch) (source : Option ℕ) → is_some (operand a.regs [] source) ≡ true
first_value a None = refl
first_value a (Some register) = refl

first_ready : (a : Arch) (rec : Record) → mono.has_operands a [] rec ≡ true
first_ready a rec =
    ap (λ (b : Bool). b && is_some (operand a.regs [] (second_source rec.found))) (first_value a (first_source rec.found))
    ∙ first_value a (second_source rec.found)

-- the order that gives a time
pub ordered : (s : Setup) (d : Demand) → (Time (seen s d).to_commit (seen s d).cycle ∷ []) ++ d.orders ≡ Time d.to_commit d.machine.cycle ∷ d.orders
unfolding seen
ordered s d = refl

module _ (s : Setup) (os : List Order) where
  -- the slots of older records, the youngest first, of which that one has the number before `n`
  abbrev pub slots_down : ℕ → List Record → List Slot
  slots_down n [] = []
  slots_down zero (rec ∷ older) = []
  slots_down (suc n) (rec ∷ older) = slot_of (entry s os n) rec ∷ slots_down n older

  busy_seen : (n : ℕ) (records : List Record) (fetch_addr : ℕ) (kept : Option ℕ) → Tracks s (time_of os) (path s os) n records fetch_addr kept →
      timing.busy_divisions (slots_of (entry s os) n records) ≡ window.busy_divisions records
  busy_seen n [] fetch_addr kept tracks = refl
  busy_seen n (rec ∷ rest) fetch_addr kept tracks =
      ap (λ (c : Class). (if timing.is_busy_division c (state_of rec.stage) then 1 else 0) + timing.busy_divisions (slots_of (entry s os) (suc n) rest))
      (slot_class s os n (path s os (suc n)).pc rec tracks.0)
      ∙ ap (λ (b : Bool). (if b then 1 else 0) + timing.busy_divisions (slots_of (entry s os) (suc n) rest)) (busy_same (class_at rec) rec.stage)
      ∙ ap (λ (k : ℕ). (if window.is_busy_division (class_at rec) rec.stage then 1 else 0) + k) (busy_seen (suc n) rest fetch_addr kept tracks.1)

  gives_same : (n : ℕ) (stage : Stage) → HoldsResult stage (result_at s (time_of os n) (path s os n)) →
      timing.gives_value (state_of stage) (entry s os n).cause ≡ is_some (value_at stage)
  gives_same n waiting held = refl
  gives_same n (until e r) held = refl
  gives_same n (done r) held =
      ap is_none (entry_cause s os n) ∙ ap (λ (t : Result). is_none t.cause) (sym held) ∙ sym (some_if (is_none r.cause) r.value)

  unfinished_same : (n behind : ℕ) (rec : Record) → Tracked s (time_of os n) (path s os n) behind rec →
      timing.is_unfinished_store (slot_of (entry s os n) rec) ≡ window.is_unfinished_store rec
  unfinished_same n behind rec tracked =
      ap (λ (c : Class). if is_store_class c then (if is_done_state (state_of rec.stage) then false else true) else false) (slot_class s os n behind rec tracked)
      ∙ ap (λ (b : Bool). if is_store_class (class_at rec) then (if b then false else true) else false) (done_same rec.stage)

  module _ (a : Arch) where
    written_same : (n : ℕ) (older : List Record) (register : ℕ) → Olders s (time_of os) (path s os) a n older →
        timing.is_available (slots_down n older) register ≡ is_some (written_value a.regs older register)
    written_same n [] register olds = refl
    written_same zero (rec ∷ older) register olds = absurd olds
    written_same (suc n) (rec ∷ older) register olds =
        ap (λ (b : Bool). if b then timing.gives_value (state_of rec.stage) (entry s os n).cause else timing.is_available (slots_down n older) register)
        (slot_says s os n (λ (f : Found). is_register register (destination_in f)) (λ cause. refl) (path s os (suc n)).pc rec olds.0)
        ∙ by_test (is_register register (destination_in rec.found)) (written_same n older register olds.2)
      where
        by_test : (b : Bool) → timing.is_available (slots_down n older) register ≡ is_some (written_value a.regs older register) →
            (if b then timing.gives_value (state_of rec.stage) (entry s os n).cause else timing.is_available (slots_down n older) register)
            ≡ is_some (if b then value_at rec.stage else written_value a.regs older register)
        by_test true below = gives_same n rec.stage olds.0.result
        by_test false below = below

    value_same : (n : ℕ) (older : List Record) (source : Option ℕ) → Olders s (time_of os) (path s os) a n older →
        timing.has_value (slots_down n older) source ≡ is_some (operand a.regs older source)
    value_same n older None olds = refl
    value_same n older (Some register) olds = written_same n older register olds

    pub ready_same : (n : ℕ) (older : List Record) (rec : Record) (behind : ℕ) → Tracked s (time_of os n) (path s os n) behind rec → Olders s (time_of os) (path s os) a n older →
        timing.has_operands (slots_down n older) (slot_of (entry s os n) rec) ≡ mono.has_operands a older rec
    ready_same n older rec behind tracked olds =
        let slots : List Slot = slots_down n older in
        let slot : Slot = slot_of (entry s os n) rec in
        ap (λ (o : Option ℕ). timing.has_value slots o && timing.has_value slots (second_source (found_in slot))) (slot_says s os n first_source (λ cause. refl) behind rec tracked)
        ∙ ap (λ (o : Option ℕ). timing.has_value slots (first_source rec.found) && timing.has_value slots o) (slot_says s os n second_source (λ cause. refl) behind rec tracked)
        ∙ ap (λ (b : Bool). b && timing.has_value slots (second_source rec.found)) (value_same n older (first_source rec.found) olds)
        ∙ ap (λ (b : Bool). is_some (operand a.regs older (first_source rec.found)) && b) (value_same n older (second_source rec.found) olds)

    stores_same : (n : ℕ) (older : List Record) → Olders s (time_of os) (path s os) a n older → timing.are_stores_done (slots_down n older) ≡ window.are_stores_done older
    stores_same n [] olds = refl
    stores_same zero (rec ∷ older) olds = absurd olds
    stores_same (suc n) (rec ∷ older) olds =
        ap (λ (b : Bool). if b then false else timing.are_stores_done (slots_down n older)) (unfinished_same n (path s os (suc n)).pc rec olds.0)
        ∙ ap (λ (b : Bool). if window.is_unfinished_store rec then false else b) (stores_same n older olds.2)

    oldest_same : (n : ℕ) (older : List Record) → Olders s (time_of os) (path s os) a n older → timing.is_oldest (slots_down n older) ≡ mono.is_oldest older
    oldest_same n [] olds = refl
    oldest_same zero (rec ∷ older) olds = absurd olds
    oldest_same (suc n) (rec ∷ older) olds = refl

    load_same : (n : ℕ) (older : List Record) (made : Access) → Olders s (time_of os) (path s os) a n older → timing.load_allows made (slots_down n older) ≡ mono.load_allows made older
    load_same n older access.Nothing olds = stores_same n older olds
    load_same n older (access.Load addr width Ram) olds = stores_same n older olds
    load_same n older (access.Load addr width Device) olds = oldest_same n older olds
    load_same n older (access.Load addr width Nowhere) olds = stores_same n older olds
    load_same n older (access.Store addr width spot) olds = stores_same n older olds

    pub allows_same : (n : ℕ) (older : List Record) (c : Class) (made : Access) → Olders s (time_of os) (path s os) a n older →
        timing.class_allows c made (slots_down n older) ≡ mono.class_allows c made older
    allows_same n older class.Alu made olds = refl
    allows_same n older class.Mul made olds = refl
    allows_same n older class.Div made olds = refl
    allows_same n older class.Load made olds = load_same n older made olds
    allows_same n older class.Store made olds = refl
    allows_same n older class.Serial made olds = oldest_same n older olds

    -- the access of a record whose operands are there is the entry's, also where it may not issue yet
    pub access_same : (n : ℕ) (older : List Record) (rec : Record) (behind : ℕ) → Tracked s (time_of os n) (path s os n) behind rec →
        Olders s (time_of os) (path s os) a n older → mono.has_operands a older rec ≡ true → (entry s os n).access ≡ (mono.ready_result s a older rec).access
    unfolding mono.ready_result
    access_same n older rec behind tracked olds has =
        let range = ram_range s.params in
        let first = first_source rec.found in
        let second = second_source rec.found in
        let x : ℕ = mono.operand_value a older first in
        let y : ℕ = mono.operand_value a older second in
        let both = and_parts (is_some (operand a.regs older first)) (is_some (operand a.regs older second)) has in
        let whole = same_result s (time_of os) (path s os) a n rec behind x y tracked
        (value_is s (time_of os) (path s os) a n older first olds both.0)
        (value_is s (time_of os) (path s os) a n older second olds both.1) in
        entry_access s os n ∙ ap (λ (t : Result). t.access) (sym whole)
        ∙ executed_access range (seen_in rec.time (path s os n)) (seen_from a older rec.time) rec.found rec.addr x y

  module _ (m : Machine) where
    abbrev seen_turned : ℕ → mono.Turned → timing.Turned
    seen_turned n t = record { turned = slot_of (entry s os n) t.turned; used = t.used; caches = t.caches }

    -- a slot that begins, or not
    abbrev slot_turned : ℕ → Record → Bool → Class → Used → Served → CachesState → timing.Turned
    slot_turned n rec b c used d caches =
        if b
        then record {
          turned = record (slot_of (entry s os n) rec) { state = Until (m.cycle + latency_of s.params c + d.cycles) };
          used = with_used c used;
          caches = d.state;
        }
        else timing.unchanged (slot_of (entry s os n) rec) used caches

    -- one whose operands are there
    ready_seen : (n : ℕ) (w : mono.Passed) (rec : Record) (behind dividing : ℕ) → Tracked s (time_of os n) (path s os n) behind rec →
        Olders s (time_of os) (path s os) m.arch n w.older → mono.has_operands m.arch w.older rec ≡ true →
        (let r = mono.ready_result s m.arch w.older rec in
        slot_turned n rec (mono.class_allows (class_at rec) (entry s os n).access w.older && has_unit s.params dividing w.used (class_at rec))
        (class_at rec) w.used (cached s (entry s os n).cause (entry s os n).access w.caches) w.caches
        ≡ seen_turned n (if mono.class_allows (class_at rec) r.access w.older && has_unit s.params dividing w.used (class_at rec)
        then mono.begun s m.cycle w rec r else mono.unchanged w rec))
    ready_seen n w rec behind dividing tracked olds has =
        ap (λ (made : Access). turned_by made (entry s os n).cause) (access_same m.arch n w.older rec behind tracked olds has)
        ∙ by_test (mono.class_allows (class_at rec) r.access w.older && has_unit s.params dividing w.used (class_at rec)) refl
      where
        r : Result
        r = mono.ready_result s m.arch w.older rec

        turned_by : Access → Option Cause → timing.Turned
        turned_by made cause =
            slot_turned n rec (mono.class_allows (class_at rec) made w.older && has_unit s.params dividing w.used (class_at rec)) (class_at rec) w.used (cached s cause made w.caches) w.caches

        by_test : (b : Bool) → (mono.class_allows (class_at rec) r.access w.older && has_unit s.params dividing w.used (class_at rec)) ≡ b →
            slot_turned n rec b (class_at rec) w.used (cached s (entry s os n).cause r.access w.caches) w.caches
            ≡ seen_turned n (if b then mono.begun s m.cycle w rec r else mono.unchanged w rec)
        by_test true may =
            let allows = (and_parts (mono.class_allows (class_at rec) r.access w.older) (has_unit s.params dividing w.used (class_at rec)) may).0 in
            let held : r ≡ result_at s (time_of os n) (path s os n) = ready_is s (time_of os) (path s os) m.arch n w.older rec behind tracked olds has allows in
            ap (λ (c : Option Cause). slot_turned n rec true (class_at rec) w.used (cached s c r.access w.caches) w.caches) (entry_cause s os n ∙ ap (λ (t : Result). t.cause) (sym held))
        by_test false may = refl

    turn_seen : (busy n : ℕ) (w : mono.Passed) (rec : Record) (younger : List Record) (behind : ℕ) → Tracked s (time_of os n) (path s os n) behind rec →
        Olders s (time_of os) (path s os) m.arch n w.older → busy + w.used.div ≡ window.busy_divisions w.older + window.busy_divisions (rec ∷ younger) →
        timing.turn_of s m.cycle busy (slots_down n w.older) (slot_of (entry s os n) rec) w.used w.caches ≡ seen_turned n (mono.turn_of s m w rec younger)
    unfolding timing.turn_of mono.turn_of
    turn_seen busy n w rec younger behind tracked olds counted =
        let slots : List Slot = slots_down n w.older in
        let slot : Slot = slot_of (entry s os n) rec in
        let p = s.params in
        let e = entry s os n in
        let k : ℕ = busy + w.used.div in
        let late : Bool = nat_le (rec.since + p.core_front) m.cycle in
        let d : Served = cached s e.cause e.access w.caches in
        ap (λ (c : Class). slot_turned n rec (timing.is_past_front p m.cycle slot && timing.has_operands slots slot && timing.class_allows c e.access slots && has_unit p k w.used c) c w.used d w.caches)
        (slot_class s os n behind rec tracked)
        ∙ ap (λ (b : Bool). slot_turned n rec (b && late && timing.has_operands slots slot && timing.class_allows (class_at rec) e.access slots && has_unit p k w.used (class_at rec)) (class_at rec) w.used d w.caches)
        (waiting_same rec.stage)
        ∙ ap (λ (b : Bool). slot_turned n rec (mono.is_past_front p m.cycle rec && b && timing.class_allows (class_at rec) e.access slots && has_unit p k w.used (class_at rec)) (class_at rec) w.used d w.caches)
        (ready_same m.arch n w.older rec behind tracked olds)
        ∙ ap (λ (b : Bool). slot_turned n rec (mono.is_past_front p m.cycle rec && mono.has_operands m.arch w.older rec && b && has_unit p k w.used (class_at rec)) (class_at rec) w.used d w.caches)
        (allows_same m.arch n w.older (class_at rec) e.access olds)
        ∙ by_past (mono.is_past_front p m.cycle rec) refl
      where
        r : Result
        r = mono.ready_result s m.arch w.older rec

        dividing : ℕ
        dividing = window.busy_divisions w.older + window.busy_divisions younger

        seen_by : Bool → ℕ → timing.Turned
        seen_by b count =
            slot_turned n rec (b && mono.class_allows (class_at rec) (entry s os n).access w.older && has_unit s.params count w.used (class_at rec))
            (class_at rec) w.used (cached s (entry s os n).cause (entry s os n).access w.caches) w.caches

        made_by : Bool → mono.Turned
        made_by b =
            if b && mono.class_allows (class_at rec) r.access w.older && has_unit s.params dividing w.used (class_at rec)
            then mono.begun s m.cycle w rec r else mono.unchanged w rec

        by_has : (b : Bool) → mono.has_operands m.arch w.older rec ≡ b → seen_by b dividing ≡ seen_turned n (made_by b)
        by_has true has = ready_seen n w rec behind dividing tracked olds has
        by_has false has = refl

        by_past : (b : Bool) → mono.is_past_front s.params m.cycle rec ≡ b →
            seen_by (b && mono.has_operands m.arch w.older rec) (busy + w.used.div) ≡ seen_turned n (made_by (b && mono.has_operands m.arch w.older rec))
        by_past true past =
            let waits = (and_parts (is_waiting rec) (nat_le (rec.since + s.params.core_front) m.cycle) past).0 in
            ap (λ (count : ℕ). seen_by (mono.has_operands m.arch w.older rec) count) (dividing_is busy w.used w.older rec younger waits counted)
            ∙ by_has (mono.has_operands m.arch w.older rec) refl
        by_past false past = refl

    walk_seen : (busy n : ℕ) (w : mono.Passed) (rest : List Record) (fetch_addr : ℕ) (kept : Option ℕ) →
        ((k : ℕ) → n ≤ k → Follows s (time_of os k) (path s os k) (path s os (suc k))) → Tracks s (time_of os) (path s os) n rest fetch_addr kept →
        Olders s (time_of os) (path s os) m.arch n w.older → busy + w.used.div ≡ window.busy_divisions w.older + window.busy_divisions rest →
        timing.walk s m.cycle busy (slots_of (entry s os) n rest) (slots_down n w.older) w.used w.caches
        ≡ record { slots = slots_of (entry s os) n (mono.walk s m w rest).records; caches = (mono.walk s m w rest).caches }
    unfolding timing.walk mono.walk
    walk_seen busy n w [] fetch_addr kept steps tracks olds counted = refl
    walk_seen busy n w (rec ∷ rest) fetch_addr kept steps tracks olds counted =
        let t : mono.Turned = mono.turn_of s m w rec rest in
        let now : Tracked s (time_of os n) (path s os n) (path s os (suc n)).pc t.turned =
        turn_tracked s (time_of os) (path s os) m n w rec rest (path s os (suc n)).pc tracks.0 olds in
        ap (λ (x : timing.Turned). timing.walked_on x.turned (timing.walk s m.cycle busy (slots_of (entry s os) (suc n) rest) (x.turned ∷ slots_down n w.older) x.used x.caches))
        (turn_seen busy n w rec rest (path s os (suc n)).pc tracks.0 olds counted)
        ∙ ap (λ (v : timing.Walked). timing.walked_on (slot_of (entry s os n) t.turned) v)
        (walk_seen busy (suc n) (mono.passed t w.older) rest fetch_addr kept (λ k from. steps k (omega arith)) tracks.1 (now, steps n (omega arith), olds)
        (dividing_on s m busy w rec rest counted))

  -- the oldest record wants a time exactly where its entry was told without one
  pub wants_ready : (m : Machine) (n : ℕ) (rec : Record) (behind : ℕ) → m.arch ≡ path s os n → Tracked s (time_of os n) (path s os n) behind rec →
      (entry s os n).unserved ≡ (mono.has_operands m.arch [] rec && mono.wants_time_result rec (mono.ready_result s m.arch [] rec))
  wants_ready m n rec behind here tracked =
      let r : Result = mono.ready_result s m.arch [] rec in
      let held : r ≡ result_at s (time_of os n) (path s os n) =
      ready_is s (time_of os) (path s os) m.arch n [] rec behind tracked here (first_ready m.arch rec) (first_allows (class_at rec) r.access) in
      entry_unserved s os n
      ∙ ap (λ (f : Found). is_time_read f (result_at s (time_of os n) (path s os n)).access && is_none (time_of os n)) (sym tracked.found)
      ∙ ap (λ (t : Result). is_time_read rec.found t.access && is_none (time_of os n)) (sym held)
      ∙ ap (λ (t : Option ℕ). is_time_read rec.found r.access && is_none t) (sym tracked.time)
      ∙ and_comm (is_time_read rec.found r.access) (is_none rec.time)
      ∙ ap (λ (b : Bool). b && mono.wants_time_result rec r) (sym (first_ready m.arch rec))

  wants_first : (m : Machine) (n : ℕ) (records : List Record) (fetch_addr : ℕ) (kept : Option ℕ) → m.arch ≡ path s os n → Tracks s (time_of os) (path s os) n records fetch_addr kept →
      timing.wants_time_first s.params m.cycle (slots_of (entry s os) n records) ≡ mono.wants_time_first s m records
  wants_first m n [] fetch_addr kept here tracks = refl
  wants_first m n (rec ∷ rest) fetch_addr kept here tracks =
      ap (λ (b : Bool). b && nat_le (rec.since + s.params.core_front) m.cycle && (entry s os n).unserved) (waiting_same rec.stage)
      ∙ by_past (mono.is_past_front s.params m.cycle rec)
    where
      by_past : (b : Bool) → (b && (entry s os n).unserved)
          ≡ (b && mono.has_operands m.arch [] rec && mono.wants_time_result rec (mono.ready_result s m.arch [] rec))
      by_past true = wants_ready m n rec (path s os (suc n)).pc here tracks.0
      by_past false = refl

wants_seen : (s : Setup) (d : Demand) → Related s d → timing.wants_time s (seen s d) ≡ mono.wants_time s d.machine
unfolding seen mono.wants_time
wants_seen s d related = wants_first s d.orders d.machine d.to_commit d.machine.window d.machine.fetch_addr d.machine.kept related.arch related.window

issued_seen : (s : Setup) (d : Demand) → Related s d → timing.issued s (seen s d) ≡ seen s (record d { machine = mono.issued s d.machine })
unfolding seen
issued_seen s d related =
    let m = d.machine in
    let slots : List Slot = slots_of (entry s d.orders) d.to_commit m.window in
    let e =
    ap (λ (k : ℕ). timing.walk s m.cycle k slots [] none_used m.caches) (busy_seen s d.orders d.to_commit m.window m.fetch_addr m.kept related.window)
    ∙ walk_seen s d.orders m (window.busy_divisions m.window) d.to_commit (mono.none_passed m) m.window m.fetch_addr m.kept
    (λ n from. path_steps s d.orders d.to_commit n related.within from) related.window related.arch (omega arith) in
    λ i. record (seen s d) { slots = (e i).slots; caches = (e i).caches }

pub replayed_seen : (s : Setup) (d : Demand) → timing.replayed (seen s d) ≡ seen s (record d { machine = mono.replayed d.machine; orders = Time d.to_commit d.machine.cycle ∷ d.orders })
unfolding seen flushed
replayed_seen s d =
    ap (λ (f : Timing). record f { counts = record f.counts { replays = f.counts.replays + 1 } })
    (cut_seen s d [] (mono.oldest_address d.machine d.machine.window) (Time d.to_commit d.machine.cycle ∷ d.orders) [] refl)

pub issue_seen : (s : Setup) (d : Demand) → Related s d → IsPhase s d (demand_issue s d) (timing.timing_issue s (seen s d))
unfolding mono.issue_phase timing.timing_issue
issue_seen s d related =
    let P : Bool → Type 0 = λ b. IsPhase s d (demand_issue s d)
    (if b then ordering (Time (seen s d).to_commit (seen s d).cycle) (timing.replayed (seen s d)) else quiet (timing.issued s (seen s d))) in
    subst P (sym (wants_seen s d related)) (by_test (mono.wants_time s d.machine))
  where
    by_test : (b : Bool) → IsPhase s d
        (record d {
          machine = if b then mono.replayed d.machine else mono.issued s d.machine;
          orders = if b then Time d.to_commit d.machine.cycle ∷ d.orders else d.orders;
        })
        (if b then ordering (Time (seen s d).to_commit (seen s d).cycle) (timing.replayed (seen s d)) else quiet (timing.issued s (seen s d)))
    by_test true = record { timing = replayed_seen s d; orders = ordered s d }
    by_test false = record { timing = issued_seen s d related; orders = refl }
