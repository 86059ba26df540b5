-- What is told of a cycle in which nothing happens.
use Rattle.std.proofs.Common.{◌≡◌, ◌∙◌, ℕ, ◌-◌, ◌&&◌, nat_lt, Bool, true, false, is_none, is_some, Option, Some, None, List, [], drop, length, take, refl, sym, ap, arith}
use Rattle.std.specs.Prelude.{option_and_then, option_map, slice_get, unwrap_or}
use Rattle.std.specs.List.{last_or}
use Rattle.std.proofs.lemmas.Bool.{le-ltb}
use Rattle.std.proofs.lemmas.List.{drop_all, take_all}
use Rattle.insight_model.specs.Cause.{Charge}
use Rattle.insight_model.specs.Sight.{Shown, Sight}
use Rattle.insight_model.specs.Facts.{addr_or, departed, fetch_at_of, flush_of, has_stopped, kept_count, left_count, missed_of, wrong_place}
use Rattle.cycle_watch.specs.declared.facts.Facts.{Facts as FactsInCode}
use Rattle.cycle_watch.specs.Facts.{IsTold, charge_in, idle}
use Rattle.cycle_watch.proofs.Told.{Told, appended_of, facts_told, fetch_of, flush_in, left_of, others_of, paid_of, wrong_of}

never : (n : ℕ) → nat_lt n n ≡ false
never n = le-ltb n n (omega arith)

-- what the code tells of it
abbrev pub idle_code : Sight → FactsInCode
idle_code s = record {
  cycle = s.cycle;
  number = departed s;
  fetched = s.counts.fetched;
  before = length s.window;
  left = 0;
  kept = length s.window;
  appended = 0;
  trapped = false;
  mispredicted = None;
  interrupted = false;
  replayed = false;
  flush = None;
  fetch_at = unwrap_or s.missing 0;
  paid = is_some s.missing;
  missed = None;
  waited = nat_lt s.cycle s.resume;
  stopped = false;
}

module _ (s : Sight) where
  none_left : left_count s (idle s) ≡ 0
  none_left = omega arith

  all_kept : kept_count s (idle s) ≡ length s.window
  all_kept = omega arith

  none_appended : appended_of s (idle s) ≡ []
  none_appended = ap (λ (n : ℕ). drop n s.window) all_kept ∙ drop_all (length s.window) s.window (omega arith)

  none_wrong : wrong_of s (idle s) ≡ None
  none_wrong = rw (never s.counts.mispredicted) refl

  no_leaver : last_or None (left_of s (idle s)) ≡ None
  no_leaver = ap (λ (n : ℕ). last_or None (take n s.window)) none_left

  no_flush : (fetch_at : ℕ) (others : List Shown) → flush_of s (idle s) fetch_at None others None ≡ None
  no_flush fetch_at others = rw (never s.counts.interrupts, never s.counts.exceptions, never s.counts.replays) refl

  none_flushed : flush_in s (idle s) ≡ None
  none_flushed =
      ap (λ (leaver : Option Shown). flush_of s (idle s) (fetch_of s (idle s)) leaver (others_of s (idle s)) (option_and_then (slice_get (others_of s (idle s))) (wrong_of s (idle s)))) no_leaver
      ∙ ap (λ (wrong : Option ℕ). flush_of s (idle s) (fetch_of s (idle s)) None (others_of s (idle s)) (option_and_then (slice_get (others_of s (idle s))) wrong)) none_wrong
      ∙ no_flush (fetch_of s (idle s)) (others_of s (idle s))

  kept_true : (b : Bool) → (b && true) ≡ b
  kept_true true = refl
  kept_true false = refl

  paid_still : paid_of s (idle s) ≡ is_some s.missing
  paid_still = ap (λ (flush : Option Charge). is_some s.missing && is_none flush) none_flushed ∙ kept_true (is_some s.missing)

  missed_by : (o : Option ℕ) → s.missing ≡ o → missed_of (idle s) [] (is_some o) ≡ None
  missed_by None is = is
  missed_by (Some addr) is = refl

  none_missed : missed_of (idle s) (appended_of s (idle s)) (paid_of s (idle s)) ≡ None
  none_missed =
      ap (λ (shown : List Shown). missed_of (idle s) shown (paid_of s (idle s))) none_appended
      ∙ ap (missed_of (idle s) []) paid_still
      ∙ missed_by s.missing refl

  pub idle_told : has_stopped s.end ≡ false → Told s (idle s) (idle_code s)
  idle_told goes = record {
    cycle = refl;
    number = refl;
    fetched = refl;
    left = sym none_left;
    kept = sym all_kept;
    trapped = sym (never s.counts.exceptions);
    mispredicted = sym none_wrong;
    interrupted = sym (never s.counts.interrupts);
    replayed = sym (never s.counts.replays);
    flush = sym none_flushed;
    fetch_at = sym (ap (fetch_at_of (idle s)) none_appended);
    paid = sym paid_still;
    missed = sym none_missed;
    waited = sym (ap (λ (flush : Option Charge). is_none flush && nat_lt s.cycle s.resume) none_flushed);
    stopped = sym goes;
  }

  pub idle_is_told : has_stopped s.end ≡ false → IsTold s (idle s) (idle_code s)
  idle_is_told goes = record { facts = facts_told s (idle s) (idle_code s) (idle_told goes); all = refl; left = sym none_left; kept = sym all_kept; appended = omega arith }
