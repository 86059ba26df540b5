-- A plan read byte by byte.
use Rattle.std.proofs.Common.{◌≡◌, ◌≢◌, ℕ, suc, ◌+◌, ◌<◌, ◌≤◌, length, drop, get_or, option_map, drop-cons, length-drop, arith, true, if◌then◌else◌, List, [], ◌∷◌, ◌++◌, Some, None, Ok, Err, refl, ap, sym, ◌∙◌}
use Rattle.std.proofs.lemmas.List.{append-nil, nil_from_length}
use Rattle.std.specs.List.{filter_map, position_from}
use Rattle.split_core.specs.declared.event.Event.{Event}
use Rattle.fast_jobs.specs.Gives.{unless}
use Rattle.fast_jobs.specs.Job.{plan_in}
use Rattle.fast_jobs.specs.Plan.{IsBadAt, event_of, is_bad, plan_events, first_bad}
use Rattle.report_text.specs.declared.status.Status.{Status}
use Rattle.report_text.specs.declared.status.Status.TheVariants.{Pass, Fail, Limit, OutputFull, Running, Shown, Usage, Image, Machine, Missing, ReadFault, WriteFault, Memory, TooLong, BadPlan, BadScript, Sets, TooMuchText}

-- the first bad byte of what is left

pub bad-here : (byte at : ℕ) (rest : List ℕ) → is_bad byte ≡ true → position_from is_bad at (byte ∷ rest) ≡ Some at
bad-here byte at rest bad = ap (λ b. if b then Some at else position_from is_bad (at + 1) rest) bad

-- All bytes were read, and none was bad.
pub all-read : (bytes left : List ℕ) (events : List Event) (at : ℕ) → left ≡ [] → events ++ filter_map event_of left ≡ filter_map event_of bytes →
    position_from is_bad at left ≡ position_from is_bad 0 bytes → plan_in bytes ≡ Ok events
unfolding plan_in plan_events first_bad
all-read bytes left events at none all bad =
    let clear : position_from is_bad 0 bytes ≡ None = sym bad ∙ ap (position_from is_bad at) none in
    let same : events ≡ filter_map event_of bytes = sym (append-nil events) ∙ sym (ap (λ xs. events ++ filter_map event_of xs) none) ∙ all in
    λ i. unless (option_map BadPlan (clear i)) (sym same i)

pub none-left : (xs : List ℕ) (n : ℕ) → length xs ≤ n → drop n xs ≡ []
none-left xs n all = nil_from_length (drop n xs) (grind (arith, length-drop))

-- The first bad byte is told.
pub bad-told : (bytes : List ℕ) (place : ℕ) (status : Status) → place < length bytes → position_from is_bad place (drop place bytes) ≡ position_from is_bad 0 bytes →
    IsBadAt (get_or bytes place 0) place status → status ≢ Memory → plan_in bytes ≡ Err status
unfolding plan_in first_bad
bad-told bytes place (BadPlan first) within bad is other =
    let found : position_from is_bad 0 bytes ≡ Some first =
    sym bad ∙ ap (position_from is_bad place) (drop-cons bytes place 0 within)
    ∙ bad-here (get_or bytes place 0) place (drop (suc place) bytes) is.0 ∙ ap Some (sym is.1) in
    ap (λ o. unless (option_map BadPlan o) (plan_events bytes)) found
bad-told bytes place Memory within bad is other = absurd (other refl)
bad-told bytes place Pass within bad is other = absurd is
bad-told bytes place (Fail code) within bad is other = absurd is
bad-told bytes place Limit within bad is other = absurd is
bad-told bytes place OutputFull within bad is other = absurd is
bad-told bytes place Running within bad is other = absurd is
bad-told bytes place Shown within bad is other = absurd is
bad-told bytes place Usage within bad is other = absurd is
bad-told bytes place (Image fault) within bad is other = absurd is
bad-told bytes place (Machine fault) within bad is other = absurd is
bad-told bytes place (Missing role) within bad is other = absurd is
bad-told bytes place (ReadFault role) within bad is other = absurd is
bad-told bytes place WriteFault within bad is other = absurd is
bad-told bytes place (TooLong role limit) within bad is other = absurd is
bad-told bytes place (BadScript line) within bad is other = absurd is
bad-told bytes place (Sets machine) within bad is other = absurd is
bad-told bytes place (TooMuchText pages) within bad is other = absurd is
