-- What a cycle did, field by field, from what is kept of the sight before it.
use Rattle.std.proofs.Common.{◌≡◌, ◌∙◌, ℕ, ◌+◌, ◌-◌, ◌≤◌, ◌<◌, ◌^◌, ◌&&◌, Bool, Option, Some, None, List, drop, is_none, is_some, length, length-drop, nat_lt, option_and_then, option_map, slice_get, take, refl, ap, sym, arith}
use Rattle.std.specs.List.{last_or}
use Rattle.std.proofs.lemmas.List.{length-map}
use Rattle.timing_core.specs.declared.counts.Counts.{Counts}
use Rattle.timing_core.specs.Counts.{counts_in}
use Rattle.mono_model.specs.Machine as machine
use Rattle.insight_model.specs.Cause.{Charge}
use Rattle.insight_model.specs.Sight.{Shown, Sight}
use Rattle.insight_model.specs.Facts.{appended_count, departed, fetch_at_of, flush_of, has_stopped, kept_count, left_count, missed_of, wrong_place}
use Rattle.cycle_watch.specs.declared.charge.Charge.{Charge as ChargeInCode}
use Rattle.cycle_watch.specs.declared.facts.Facts.{Facts as FactsInCode}
use Rattle.cycle_watch.specs.declared.last.LastSight.{LastSight}
use Rattle.cycle_watch.specs.declared.mark.Mark.{Mark}
use Rattle.cycle_watch.specs.Shown.{shown_in}
use Rattle.cycle_watch.specs.Facts.{Follows, IsTold, Keeps, charge_in, window_in}
use Rattle.cycle_watch.proofs.Told.{Told, appended_of, fetch_of, flush_in, is_told, others_of, paid_of, wrong_of}

same_none : (o : Option ChargeInCode) → is_none o ≡ is_none (option_map charge_in o)
same_none None = refl
same_none (Some flush) = refl

-- what each part of the code gives
pub record Parts (before after : Sight) (last : LastSight) (counts : Counts) (f : FactsInCode) : Type 0 where
  pub seen : counts_in counts ≡ after.counts
  pub cycle : f.cycle ≡ last.cycle
  pub number : f.number ≡ departed before
  pub fetched : f.fetched ≡ last.counts.fetched
  pub all : f.before ≡ length last.marks.items
  pub left : f.left ≡ left_count before after
  pub appended : f.appended ≡ appended_count before after
  pub kept : f.kept ≡ length after.window - f.appended
  pub trapped : f.trapped ≡ nat_lt last.counts.exceptions counts.exceptions
  pub interrupted : f.interrupted ≡ nat_lt last.counts.interrupts counts.interrupts
  pub replayed : f.replayed ≡ nat_lt last.counts.replays counts.replays
  pub mispredicted : f.mispredicted ≡ wrong_place before after (drop f.left before.window)
  pub fetch_at : f.fetch_at ≡ fetch_at_of after (drop f.kept after.window)
  pub flush : option_map charge_in f.flush
      ≡ flush_of before after f.fetch_at (last_or None (take f.left before.window)) (drop f.left before.window) (option_and_then (slice_get (drop f.left before.window)) f.mispredicted)
  pub paid : f.paid ≡ (is_some last.missing && is_none f.flush)
  pub missed : (shown : List Shown) → f.appended ≡ length shown → f.missed ≡ missed_of after shown f.paid
  pub waited : f.waited ≡ (is_none f.flush && nat_lt last.cycle last.resume)
  pub stopped : f.stopped ≡ has_stopped after.end

module _ (before after : Sight) (last : LastSight) (counts : Counts) (f : FactsInCode) (keeps : Keeps before last) (follows : Follows before after)
    (is : Parts before after last counts f) where
  kept_same : f.kept ≡ kept_count before after
  kept_same = is.kept ∙ ap (λ (n : ℕ). length after.window - n) is.appended

  exceptions_same : nat_lt last.counts.exceptions counts.exceptions ≡ nat_lt before.counts.exceptions after.counts.exceptions
  exceptions_same = λ i. nat_lt (keeps.noted.counts i).exceptions (is.seen i).exceptions

  interrupts_same : nat_lt last.counts.interrupts counts.interrupts ≡ nat_lt before.counts.interrupts after.counts.interrupts
  interrupts_same = λ i. nat_lt (keeps.noted.counts i).interrupts (is.seen i).interrupts

  replays_same : nat_lt last.counts.replays counts.replays ≡ nat_lt before.counts.replays after.counts.replays
  replays_same = λ i. nat_lt (keeps.noted.counts i).replays (is.seen i).replays

  wrong_same : f.mispredicted ≡ wrong_of before after
  wrong_same = is.mispredicted ∙ ap (λ (n : ℕ). wrong_place before after (drop n before.window)) is.left

  fetch_same : f.fetch_at ≡ fetch_of before after
  fetch_same = is.fetch_at ∙ ap (λ (n : ℕ). fetch_at_of after (drop n after.window)) kept_same

  flush_same : option_map charge_in f.flush ≡ flush_in before after
  flush_same =
      is.flush
      ∙ (λ i. flush_of before after (fetch_same i) (last_or None (take (is.left i) before.window)) (drop (is.left i) before.window)
      (option_and_then (slice_get (drop (is.left i) before.window)) (wrong_same i)))

  none_same : is_none f.flush ≡ is_none (flush_in before after)
  none_same = same_none f.flush ∙ ap (λ (o : Option Charge). is_none o) flush_same

  paid_same : f.paid ≡ paid_of before after
  paid_same = is.paid ∙ (λ i. is_some (keeps.noted.missing i) && none_same i)

  new_length : f.appended ≡ length (appended_of before after)
  new_length = omega (arith, is.appended, length-drop (kept_count before after) after.window, follows.appended)

  pub all_told : IsTold before after f
  all_told =
      is_told before after f
      (record {
        cycle = is.cycle ∙ keeps.cycle;
        number = is.number;
        fetched = is.fetched ∙ ap (λ (c : machine.Counts). c.fetched) keeps.noted.counts;
        left = is.left;
        kept = kept_same;
        trapped = is.trapped ∙ exceptions_same;
        mispredicted = wrong_same;
        interrupted = is.interrupted ∙ interrupts_same;
        replayed = is.replayed ∙ replays_same;
        flush = flush_same;
        fetch_at = fetch_same;
        paid = paid_same;
        missed = is.missed (appended_of before after) new_length ∙ ap (missed_of after (appended_of before after)) paid_same;
        waited = is.waited ∙ (λ i. none_same i && nat_lt (keeps.cycle i) (keeps.noted.resume i));
        stopped = is.stopped;
      })
      (is.all ∙ sym (length-map last.marks.items (λ (m : Mark). shown_in m.shown)) ∙ ap (length {A = Shown}) keeps.window)
      is.appended
