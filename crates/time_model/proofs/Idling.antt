-- Cycles in which nothing happens, as the turns that they are.
use Rattle.std.proofs.Common.{◌≡◌, ◌<◌, ◌≤◌, ◌==◌, ℕ, zero, suc, ◌+◌, ◌-◌, if◌then◌else◌, Bool, false, true, None, refl, ap, sym, ◌∙◌, subst, arith}
use Rattle.std.proofs.lemmas.Bool.{ne_eqb}
use Rattle.trace_entry.specs.declared.Entry.{Entry}
use Rattle.mono_model.specs.declared.final_state.End.{End}
use Rattle.mono_model.specs.declared.final_state.End.TheVariants.{Limit}
use Rattle.mono_model.specs.declared.setup.Setup.{Setup}
use Rattle.mono_model.specs.Demand.{At, is_try, interrupting, committing, completing, issuing, trying, ending, stopping}
use Rattle.mono_model.specs.Final.{has_ended}
use Rattle.mono_model.specs.Split.{is_halted}
use Rattle.timing_side.specs.Timing.{Timing, Phase, quiet}
use Rattle.timing_side.specs.Fetch.{may_fetch}
use Rattle.timing_side.specs.Turn.{Turned, turned, timing_turn, timing_end_of_cycle, try_or_end, at_after_commit, at_after_cycle}
use Rattle.timing_core.specs.declared.orders.Orders.{Orders}
use Rattle.timing_core.specs.declared.state.TimingCore.{TimingCore}
use Rattle.timing_core.specs.CoreStandsFor.{CoreStandsFor}
use Rattle.timing_core.specs.Idle.{IsIdle}
use Rattle.time_model.specs.declared.at.At as declared
use Rattle.time_model.specs.declared.at.At.TheVariants as code
use Rattle.time_model.specs.At.{at_in}
use Rattle.time_model.specs.Turns.{is_ending}
use Rattle.time_model.specs.OutOfOrder.{core_piped}
use Rattle.time_model.specs.Piped.{IsPhase, IsQuiet, start, more}
use Rattle.time_model.proofs.Striding.{quiet_on}
use Rattle.time_model.proofs.Turns.{IsTurnOf, turned_by}

-- a core in a later cycle, in which nothing else changed
abbrev pub in_cycle : ℕ → TimingCore → TimingCore
in_cycle cycle core = record core { cycle = cycle }

-- every state that the core stands for is that of a cycle in which nothing happens
abbrev StandsIdle : TimingCore → Type 0
StandsIdle core = (s : Setup) (t : Timing) → CoreStandsFor s t core → IsIdle s t

-- the same in each of so many cycles behind the one in which the core stands
abbrev StandsIdleFor : ℕ → TimingCore → Type 0
StandsIdleFor count core = (cycle : ℕ) → core.cycle < cycle → cycle ≤ core.cycle + count → StandsIdle (in_cycle cycle core)

abbrev no_orders : Orders
no_orders = record { first = None; second = None }

abbrev Passes : TimingCore → declared.At → TimingCore → declared.At → Type 0
Passes old at new next = IsQuiet core_piped old at new next

-- a turn with no orders
passes : (old : TimingCore) (at : declared.At) (new : TimingCore) (next : declared.At) → is_try (at_in at) ≡ false → is_halted (at_in at) ≡ false →
    ((s : Setup) (t : Timing) (e : Entry) → CoreStandsFor s t old → IsTurnOf s (timing_turn s e (at_in at) t) new next no_orders) → Passes old at new next
passes old at new next plain on made =
    more old new at next no_orders start (record { plain = plain; goes = on; made = turned_by old at new next no_orders (λ s t e h small. made s t e h) }) refl

-- A turn of the timing machine that leaves a state and makes no order, where the core stands for that state.
calm : (s : Setup) (made : Turned) (t : Timing) (next : declared.At) (core : TimingCore) → made ≡ turned (quiet t) (at_in next) → CoreStandsFor s t core → IsTurnOf s made core next no_orders
calm s made t next core is h = subst (λ (x : Turned). IsTurnOf s x core next no_orders) (sym is) (record { core = h; at = refl; orders = refl })

-- The turns, where nothing happens.
module _ (s : Setup) (t : Timing) (e : Entry) where
  turned_interrupting : IsIdle s t → timing_turn s e interrupting t ≡ turned (quiet t) committing
  unfolding timing_turn
  turned_interrupting idle = ap (λ (p : Phase). turned p committing) idle.interrupt

  turned_committing : IsIdle s t → timing_turn s e committing t ≡ turned (quiet t) completing
  unfolding timing_turn
  turned_committing idle =
      ap (λ (p : Phase). turned p (at_after_commit p.timing)) idle.commit ∙ ap (λ (b : Bool). turned (quiet t) (if b then ending else completing)) idle.running

  turned_completing : IsIdle s t → timing_turn s e completing t ≡ turned (quiet t) issuing
  unfolding timing_turn
  turned_completing idle = ap (λ (p : Phase). turned p issuing) idle.complete

  no_tries : (allowed : ℕ) → may_fetch s t ≡ false → try_or_end s allowed t ≡ ending
  no_tries zero off = refl
  no_tries (suc left) off = ap (λ (b : Bool). if b then trying left else ending) off

  turned_issuing : IsIdle s t → timing_turn s e issuing t ≡ turned (quiet t) ending
  unfolding timing_turn
  turned_issuing idle =
      ap (λ (p : Phase). turned p (try_or_end s s.params.core_fetch p.timing)) idle.issue ∙ ap (λ (at : At). turned (quiet t) at) (no_tries s.params.core_fetch idle.fetch)

  -- the end of the cycle before
  turned_ending : IsIdle s (record t { cycle = t.cycle + 1 }) → timing_turn s e ending t ≡ turned (quiet (record t { cycle = t.cycle + 1 })) interrupting
  unfolding timing_turn timing_end_of_cycle
  turned_ending idle =
      let later : (t.cycle + 1 == s.cycles) ≡ false = ne_eqb (t.cycle + 1) s.cycles (λ is. omega (arith, is, idle.limit)) in
      let same : (if has_ended t.end then t.end else (if t.cycle + 1 == s.cycles then Limit else t.end)) ≡ t.end =
      ap (λ (b : Bool). if b then t.end else (if t.cycle + 1 == s.cycles then Limit else t.end)) idle.running ∙ ap (λ (b : Bool). if b then Limit else t.end) later in
      ap (λ (end : End). let behind : Timing = record t { cycle = t.cycle + 1; end = end } in turned (quiet behind) (at_after_cycle behind)) same
      ∙ ap (λ (b : Bool). turned (quiet (record t { cycle = t.cycle + 1 })) (if b then stopping else interrupting)) idle.running

-- a core in the next cycle stands for the state in the next cycle
next_stands : (s : Setup) (t : Timing) (core : TimingCore) → CoreStandsFor s t core → CoreStandsFor s (record t { cycle = t.cycle + 1 }) (in_cycle (core.cycle + 1) core)
next_stands s t core h = record {
  params = h.params;
  cycle_limit = h.cycle_limit;
  output_limit = h.output_limit;
  room = h.room;
  slots = h.slots;
  predictor = h.predictor;
  caches = h.caches;
  cycle = ap (λ (c : ℕ). c + 1) h.cycle;
  to_commit = h.to_commit;
  resume = h.resume;
  paid = h.paid;
  counts = h.counts;
  retired = h.retired;
  output = h.output;
  irq_on = h.irq_on;
  cmp = h.cmp;
  end = h.end;
}

-- a turn of a cycle in which nothing happens leaves the core
pass_turn : (core : TimingCore) (at next : declared.At) → is_try (at_in at) ≡ false → is_halted (at_in at) ≡ false → StandsIdle core →
    ((s : Setup) (t : Timing) (e : Entry) → IsIdle s t → timing_turn s e (at_in at) t ≡ turned (quiet t) (at_in next)) → Passes core at core next
pass_turn core at next plain on idle is =
    passes core at core next plain on (λ s t e h. calm s (timing_turn s e (at_in at) t) t next core (is s t e (idle s t h)) h)

-- from the end of a cycle to the end of the next one, in which nothing happens
pass_cycle : (core : TimingCore) → StandsIdle (in_cycle (core.cycle + 1) core) → Passes core code.Ending (in_cycle (core.cycle + 1) core) code.Ending
pass_cycle core idle =
    let new : TimingCore = in_cycle (core.cycle + 1) core in
    let one : Passes core code.Ending new code.Interrupting = passes core code.Ending new code.Interrupting refl refl
    (λ s t e h. let next : Timing = record t { cycle = t.cycle + 1 } in
    let stands = next_stands s t core h in
    calm s (timing_turn s e ending t) next code.Interrupting new (turned_ending s t e (idle s next stands)) stands) in
    let two = pass_turn new code.Interrupting code.Committing refl refl idle turned_interrupting in
    let three = pass_turn new code.Committing code.Completing refl refl idle turned_committing in
    let four = pass_turn new code.Completing code.Issuing refl refl idle turned_completing in
    let five = pass_turn new code.Issuing code.Ending refl refl idle turned_issuing in
    quiet_on (IsPhase core_piped) one (quiet_on (IsPhase core_piped) two (quiet_on (IsPhase core_piped) three (quiet_on (IsPhase core_piped) four five)))

-- so many cycles, in each of which nothing happens
pass_cycles : (count : ℕ) (core : TimingCore) → StandsIdleFor count core → Passes core code.Ending (in_cycle (core.cycle + count) core) code.Ending
pass_cycles zero core idle =
    subst (λ (c : ℕ). Passes core code.Ending (in_cycle c core) code.Ending) (sym (add_zero core.cycle)) start
  where
    add_zero : (n : ℕ) → n + 0 ≡ n
    add_zero n = omega arith
pass_cycles (suc before) core idle =
    let cycle = core.cycle in
    let mid : TimingCore = in_cycle (cycle + before) core in
    let first = pass_cycles before core (λ c after within. idle c after (omega (arith, within))) in
    let is : cycle + suc before ≡ cycle + before + 1 = omega arith in
    let last = pass_cycle mid (idle (cycle + before + 1) (omega arith) (omega arith)) in
    subst (λ (c : ℕ). Passes core code.Ending (in_cycle c core) code.Ending) (sym is) (quiet_on (IsPhase core_piped) first last)

-- the turn that ends a cycle
ends_by : (at : declared.At) → is_ending (at_in at) ≡ true → at ≡ code.Ending
ends_by code.Interrupting is = cc
ends_by code.Committing is = cc
ends_by code.Completing is = cc
ends_by code.Issuing is = cc
ends_by (code.Trying tries) is = cc
ends_by code.Ending is = refl
ends_by code.Stopping is = cc
ends_by code.Halted is = cc

-- up to a cycle, where the core in it is all that changed
pub passed : (old new : TimingCore) (at : declared.At) → is_ending (at_in at) ≡ true → new ≡ in_cycle new.cycle old → old.cycle ≤ new.cycle →
    ((s : Setup) (t : Timing) (cycle : ℕ) → old.cycle < cycle → cycle ≤ new.cycle → CoreStandsFor s t (in_cycle cycle old) → IsIdle s t) → IsQuiet core_piped old at new at
passed old new at ends same later idle =
    let count = new.cycle - old.cycle in
    let is : old.cycle + count ≡ new.cycle = omega (arith, later) in
    let all = pass_cycles count old (λ cycle after within s t h. idle s t cycle after (omega (arith, within, is)) h) in
    subst (λ (a : declared.At). Passes old a new a) (sym (ends_by at ends))
    (subst (λ (c : TimingCore). Passes old code.Ending c code.Ending) (sym same)
    (subst (λ (c : ℕ). Passes old code.Ending (in_cycle c old) code.Ending) is all))
