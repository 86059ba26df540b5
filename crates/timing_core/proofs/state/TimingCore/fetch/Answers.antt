use Rattle.std.proofs.Common.{◌≡◌, ℕ, ◌+◌, ◌==◌, ◌++◌, ◌∷◌, [], not, false, if◌then◌else◌, length, length-append, ap, sym, ◌∙◌, subst, arith}
use Rattle.fsim_base.specs.Number.{wrap_sum}
use Rattle.rollback_cmds.specs.declared.order.Order.TheVariants.{Set}
use Rattle.reorder_buffer.specs.declared.slot.Slot.{Slot}
use Rattle.mono_model.specs.Setup.{predictor_params}
use Rattle.timing_side.specs.Timing.{Timing, quiet}
use Rattle.timing_side.specs.Fetch.{Tried, cache_read, predicted_next, new_slot, missed, appended, path_orders, timing_try}
use Rattle.mono_model.specs.declared.setup.Setup.{Setup}
use Rattle.timing_core.specs.Small.{IsSmall}
use Rattle.timing_core.specs.CoreStandsFor.{CoreStandsFor}
use Rattle.timing_core.proofs.Fetching.{try_waits, try_appends, same_count, more_count}
use Rattle.timing_core.proofs.state.TimingCore.fetch.Goals as goal

-- the miss is waited for
waits : (c : goal.After-none) (s : Setup) (t : Timing) → CoreStandsFor s t c.args.self.now →
    timing_try s c.args.entry.now t
    ≡ record { phase = quiet (missed c.read_cache-cycles.result (cache_read s c.args.entry.now t).state t); goes_on = false }
waits c s t k = try_waits s c.args.entry.now t c.read_cache-cycles.result (c.read_cache-cycles.ensures.cycles s t k) c.if-cycles-gt0.true

pub returns-then-cycles-gt0-clause-kept : goal.returns-then-cycles-gt0-clause-kept
returns-then-cycles-gt0-clause-kept c = λ s t k small.
    let read = c.read_cache-cycles.ensures.kept s t k in
    let P : Tried → Type 0 = λ x. CoreStandsFor s x.phase.timing c.wait.new.self in
    subst P (sym (waits c s t k)) (c.wait.ensures.kept s (record t { caches = (cache_read s c.args.entry.now t).state }) read small.cycle)

pub returns-then-cycles-gt0-clause-orders : goal.returns-then-cycles-gt0-clause-orders
returns-then-cycles-gt0-clause-orders c = λ s t k small. c.none.ensures.none ∙ ap (λ (x : Tried). x.phase.orders) (sym (waits c s t k))

pub returns-then-cycles-gt0-clause-appended : goal.returns-then-cycles-gt0-clause-appended
returns-then-cycles-gt0-clause-appended c = λ s t k small.
    same_count t.counts.fetched ∙ ap (λ (x : Tried). not (x.phase.timing.counts.fetched == t.counts.fetched)) (sym (waits c s t k))

pub returns-then-cycles-gt0-clause-goes_on : goal.returns-then-cycles-gt0-clause-goes_on
returns-then-cycles-gt0-clause-goes_on c = λ s t k small. ap (λ (x : Tried). x.goes_on) (sym (waits c s t k))

-- the instruction is appended
goes : (c : goal.After-wrap_add) (s : Setup) (t : Timing) → CoreStandsFor s t c.args.self.now →
    timing_try s c.args.entry.now t
    ≡ record {
      phase = record { timing = appended s c.args.entry.now (cache_read s c.args.entry.now t).state t; orders = path_orders s c.args.entry.now t };
      goes_on = predicted_next s c.args.entry.now t == wrap_sum c.args.entry.now.addr 4;
    }
goes c s t k = try_appends s c.args.entry.now t c.read_cache-cycles.result (c.read_cache-cycles.ensures.cycles s t k) c.if-cycles-gt0.false

predicts : (c : goal.After-wrap_add) (s : Setup) (t : Timing) → CoreStandsFor s t c.args.self.now → c.predict-predicted.result ≡ predicted_next s c.args.entry.now t
predicts c s t k = c.predict-predicted.ensures.predicted (predictor_params s.params) t.predictor k.predictor

kept_behind : (c : goal.After-wrap_add) (s : Setup) (t : Timing) → CoreStandsFor s t c.args.self.now → IsSmall t →
    CoreStandsFor s (appended s c.args.entry.now (cache_read s c.args.entry.now t).state t) c.append.new.self
kept_behind c s t k small =
    c.append.ensures.kept s (record t { caches = (cache_read s c.args.entry.now t).state }) (c.read_cache-cycles.ensures.kept s t k) small.fetched (predicts c s t k)

pub returns-clause-kept : goal.returns-clause-kept
returns-clause-kept c = λ s t k small.
    let P : Tried → Type 0 = λ x. CoreStandsFor s x.phase.timing c.append.new.self in
    subst P (sym (goes c s t k)) (kept_behind c s t k small)

pub returns-clause-orders : goal.returns-clause-orders
returns-clause-orders c = λ s t k small.
    let e = c.args.entry.now in
    let slot : Slot = new_slot s e t in
    let behind : Timing = appended s e (cache_read s e t).state t in
    let number : t.to_commit + length (t.slots ++ slot ∷ []) ≡ t.to_commit + length t.slots + 1 = omega (arith, length-append t.slots (slot ∷ [])) in
    c.path_orders.ensures.path s behind (kept_behind c s t k small) small.to_commit
    ∙ ap (λ (n : ℕ). if e.next == c.predict-predicted.result then [] else Set n c.predict-predicted.result ∷ []) number
    ∙ ap (λ (addr : ℕ). if e.next == addr then [] else Set (t.to_commit + length t.slots + 1) addr ∷ []) (predicts c s t k)
    ∙ ap (λ (x : Tried). x.phase.orders) (sym (goes c s t k))

pub returns-clause-appended : goal.returns-clause-appended
returns-clause-appended c = λ s t k small.
    more_count t.counts.fetched ∙ ap (λ (x : Tried). not (x.phase.timing.counts.fetched == t.counts.fetched)) (sym (goes c s t k))

pub returns-clause-goes_on : goal.returns-clause-goes_on
returns-clause-goes_on c = λ s t k small.
    ap (λ (n : ℕ). n == c.wrap_add.result) (predicts c s t k)
    ∙ ap (λ (n : ℕ). predicted_next s c.args.entry.now t == n) c.wrap_add.ensures.sum
    ∙ ap (λ (x : Tried). x.goes_on) (sym (goes c s t k))
