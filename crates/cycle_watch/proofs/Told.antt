-- What the code tells of a cycle is what the definition says, field by field.
use Rattle.std.proofs.Common.{◌≡◌, ◌∙◌, ℕ, ◌+◌, ◌&&◌, nat_lt, Bool, false, is_none, is_some, Option, Some, None, List, drop, length, take, refl, sym, ap}
use Rattle.std.specs.Prelude.{option_and_then, option_map, slice_get}
use Rattle.std.specs.List.{last_or}
use Rattle.std.specs.Option.{option_map_or}
use Rattle.insight_model.specs.declared.cycle_cause.CycleCause.TheVariants as cause
use Rattle.insight_model.specs.Cause.{Charge, charge}
use Rattle.insight_model.specs.Sight.{Shown, Sight, is_fence_i_shown}
use Rattle.insight_model.specs.Facts.{Facts, addr_or, appended_count, charge_where, departed, facts, fetch_at_of, flush_of, has_stopped, kept_count, left_count, missed_of, or_else, pairs, wrong_place}
use Rattle.cycle_watch.specs.declared.facts.Facts.{Facts as FactsInCode}
use Rattle.cycle_watch.specs.Facts.{IsTold, charge_in, facts_in, leaving_flush, staying_flush}

-- the parts of the definition
abbrev pub left_of : Sight → Sight → List Shown
left_of before after = take (left_count before after) before.window

abbrev pub others_of : Sight → Sight → List Shown
others_of before after = drop (left_count before after) before.window

abbrev pub appended_of : Sight → Sight → List Shown
appended_of before after = drop (kept_count before after) after.window

abbrev pub wrong_of : Sight → Sight → Option ℕ
wrong_of before after = wrong_place before after (others_of before after)

abbrev pub fetch_of : Sight → Sight → ℕ
fetch_of before after = fetch_at_of after (appended_of before after)

abbrev pub flush_in : Sight → Sight → Option Charge
flush_in before after =
    flush_of before after (fetch_of before after) (last_or None (left_of before after)) (others_of before after)
    (option_and_then (slice_get (others_of before after)) (wrong_of before after))

abbrev pub paid_of : Sight → Sight → Bool
paid_of before after = is_some before.missing && is_none (flush_in before after)

-- each field of the code
pub record Told (before after : Sight) (f : FactsInCode) : Type 0 where
  pub cycle : f.cycle ≡ before.cycle
  pub number : f.number ≡ departed before
  pub fetched : f.fetched ≡ before.counts.fetched
  pub left : f.left ≡ left_count before after
  pub kept : f.kept ≡ kept_count before after
  pub trapped : f.trapped ≡ nat_lt before.counts.exceptions after.counts.exceptions
  pub mispredicted : f.mispredicted ≡ wrong_of before after
  pub interrupted : f.interrupted ≡ nat_lt before.counts.interrupts after.counts.interrupts
  pub replayed : f.replayed ≡ nat_lt before.counts.replays after.counts.replays
  pub flush : option_map charge_in f.flush ≡ flush_in before after
  pub fetch_at : f.fetch_at ≡ fetch_of before after
  pub paid : f.paid ≡ paid_of before after
  pub missed : f.missed ≡ missed_of after (appended_of before after) (paid_of before after)
  pub waited : f.waited ≡ (is_none (flush_in before after) && nat_lt before.cycle before.resume)
  pub stopped : f.stopped ≡ has_stopped after.end

pub facts_told : (before after : Sight) (f : FactsInCode) → Told before after f → facts_in before.window after.window f ≡ facts before after
unfolding facts
facts_told before after f is = λ i. record {
  cycle = is.cycle i;
  number = is.number i;
  fetched = is.fetched i;
  left = take (is.left i) before.window;
  trapped = is.trapped i;
  kept = pairs (drop (is.left i) before.window) (take (is.kept i) after.window);
  squashed = drop (is.kept i) (drop (is.left i) before.window);
  appended = drop (is.kept i) after.window;
  mispredicted = is.mispredicted i;
  interrupted = is.interrupted i;
  replayed = is.replayed i;
  flush = is.flush i;
  fetch_at = is.fetch_at i;
  paid = is.paid i;
  missed = is.missed i;
  waited = is.waited i;
  stopped = is.stopped i;
}

-- what flushed is what the interrupt did, or what left, or what stayed
flush_in_order : (interrupt trap fence replay wrong : Option Charge) →
    or_else interrupt (or_else trap (or_else fence (or_else replay wrong))) ≡ or_else interrupt (or_else (or_else trap fence) (or_else replay wrong))
flush_in_order (Some flush) trap fence replay wrong = refl
flush_in_order None (Some flush) fence replay wrong = refl
flush_in_order None None (Some flush) replay wrong = refl
flush_in_order None None None replay wrong = refl

pub flush_by : (before after : Sight) (fetch_at : ℕ) (leaver : Option Shown) (others : List Shown) (wrong : Option Shown) →
    flush_of before after fetch_at leaver others wrong
    ≡ or_else (charge_where (nat_lt before.counts.interrupts after.counts.interrupts) (charge cause.Interrupt fetch_at))
    (or_else (leaving_flush before after leaver) (staying_flush before after others wrong))
flush_by before after fetch_at leaver others wrong =
    flush_in_order (charge_where (nat_lt before.counts.interrupts after.counts.interrupts) (charge cause.Interrupt fetch_at))
    (charge_where (nat_lt before.counts.exceptions after.counts.exceptions) (charge cause.Trap (addr_or 0 leaver)))
    (charge_where (option_map_or is_fence_i_shown leaver false) (charge cause.Fence (addr_or 0 leaver)))
    (charge_where (nat_lt before.counts.replays after.counts.replays) (charge cause.Replay (addr_or 0 (slice_get others 0))))
    (charge_where (is_some wrong) (charge cause.Mispredict (addr_or 0 wrong)))

pub is_told : (before after : Sight) (f : FactsInCode) → Told before after f → f.before ≡ length before.window → f.appended ≡ appended_count before after → IsTold before after f
is_told before after f told was new = record { facts = facts_told before after f told; all = was; left = told.left; kept = told.kept; appended = new }
