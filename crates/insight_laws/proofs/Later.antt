-- Records that stay in the window: the same, seen later.
use Rattle.std.proofs.Common.{◌≡◌, ℕ, zero, suc, ◌+◌, ◌<◌, ◌≤◌, Option, Some, None, List, [], ◌∷◌, ◌++◌, length, map, drop, option_map, slice_get, refl, ap, sym, ◌∙◌, subst, arith}
use Rattle.mono_model.specs.Result.{Result}
use Rattle.mono_model.specs.Window.{Record, Stage, waiting, until, done}
use Rattle.inorder_machine.specs.InorderMachine.{done_count}
use Rattle.insight_model.specs.Sight.{Outcome, Progress, Shown, outcome_in, outcome_shown}
use Rattle.insight_model.specs.OfState.{inorder_progress, inorder_shown, outcome_of, progress_of, shown_as, shown_of, word_found}
use Rattle.insight_model.specs.Following.{IsStill}

-- what a record came to, once it has begun
abbrev pub result_in : Stage → Option Result
result_in waiting = None
result_in (until e r) = Some r
result_in (done r) = Some r

pub record IsLater (old new : Record) : Type 0 where
  pub addr : new.addr ≡ old.addr
  pub found : new.found ≡ old.found
  pub predicted : new.predicted ≡ old.predicted
  pub since : new.since ≡ old.since
  pub result : (r : Result) → result_in old.stage ≡ Some r → result_in new.stage ≡ Some r

-- some records are the first of others, later
abbrev pub AreLater : List Record → List Record → Type 0
AreLater [] olds = Unit {0}
AreLater (new ∷ news) [] = ⊥
AreLater (new ∷ news) (old ∷ olds) = IsLater old new × AreLater news olds

pub later_same : (rec : Record) → IsLater rec rec
later_same rec = record { addr = refl; found = refl; predicted = refl; since = refl; result = λ r is. is }

later_on : (x y z : Record) → IsLater x y → IsLater y z → IsLater x z
later_on x y z first second = record {
  addr = second.addr ∙ first.addr;
  found = second.found ∙ first.found;
  predicted = second.predicted ∙ first.predicted;
  since = second.since ∙ first.since;
  result = λ r is. second.result r (first.result r is);
}

pub all_same : (w : List Record) → AreLater w w
all_same [] = tt
all_same (rec ∷ rest) = (later_same rec, all_same rest)

pub all_on : (zs ys xs : List Record) → AreLater zs ys → AreLater ys xs → AreLater zs xs
all_on [] ys xs second first = tt
all_on (z ∷ zs) [] xs second first = absurd second
all_on (z ∷ zs) (y ∷ ys) [] second first = absurd first
all_on (z ∷ zs) (y ∷ ys) (x ∷ xs) second first = (later_on x y z first.0 second.0, all_on zs ys xs second.1 first.1)

pub no_more : (news olds : List Record) → AreLater news olds → length news ≤ length olds
no_more [] olds later = omega arith
no_more (new ∷ news) [] later = absurd later
no_more (new ∷ news) (old ∷ olds) later = omega (arith, no_more news olds later.1)

-- those after the oldest
pub rest_later : (left : ℕ) (w : List Record) (rec : Record) (rest : List Record) → AreLater (rec ∷ rest) (drop left w) → AreLater rest (drop (suc left) w)
rest_later zero [] rec rest later = absurd later
rest_later zero (old ∷ w) rec rest later = later.1
rest_later (suc left) [] rec rest later = absurd later
rest_later (suc left) (old ∷ w) rec rest later = rest_later left w rec rest later

-- What is seen of a record, and of some.
pub record IsViewed (rec : Record) (shown : Shown) : Type 0 where
  pub addr : shown.addr ≡ rec.addr
  pub word : shown.word ≡ word_found rec.found
  pub predicted : shown.predicted ≡ rec.predicted
  pub since : shown.since ≡ rec.since
  pub outcome : outcome_shown shown ≡ option_map outcome_of (result_in rec.stage)

abbrev pub AreViewed : List Record → List Shown → Type 0
AreViewed [] [] = Unit {0}
AreViewed [] (s ∷ shown) = ⊥
AreViewed (rec ∷ w) [] = ⊥
AreViewed (rec ∷ w) (s ∷ shown) = IsViewed rec s × AreViewed w shown

pub as_many : (w : List Record) (shown : List Shown) → AreViewed w shown → length shown ≡ length w
as_many [] [] viewed = refl
as_many [] (s ∷ shown) viewed = absurd viewed
as_many (rec ∷ w) [] viewed = absurd viewed
as_many (rec ∷ w) (s ∷ shown) viewed = ap suc (as_many w shown viewed.1)

outcome_stage : (stage : Stage) → outcome_in (progress_of stage) ≡ option_map outcome_of (result_in stage)
outcome_stage waiting = refl
outcome_stage (until e r) = refl
outcome_stage (done r) = refl

viewed_as : (rec : Record) (progress : Progress) → outcome_in progress ≡ option_map outcome_of (result_in rec.stage) → IsViewed rec (shown_as rec progress)
viewed_as rec progress is = record { addr = refl; word = refl; predicted = refl; since = refl; outcome = is }

pub window_viewed : (w : List Record) → AreViewed w (map shown_of w)
window_viewed [] = tt
window_viewed (rec ∷ w) = (viewed_as rec (progress_of rec.stage) (outcome_stage rec.stage), window_viewed w)

inorder_stage : (memory : Option ℕ) (younger : ℕ) (stage : Stage) → outcome_in (inorder_progress memory younger stage) ≡ option_map outcome_of (result_in stage)
inorder_stage None younger stage = outcome_stage stage
inorder_stage (Some e) zero waiting = refl
inorder_stage (Some e) zero (until from r) = refl
inorder_stage (Some e) zero (done r) = refl
inorder_stage (Some e) (suc younger) stage = outcome_stage stage

pub inorder_viewed : (memory : Option ℕ) (w : List Record) → AreViewed w (inorder_shown memory w)
inorder_viewed memory [] = tt
inorder_viewed memory (rec ∷ w) =
    (viewed_as rec (inorder_progress memory (done_count w) rec.stage) (inorder_stage memory (done_count w) rec.stage), inorder_viewed memory w)

-- What is seen of a record that stayed is seen still.
outcome_still : (old new : Option Result) → ((r : Result) → old ≡ Some r → new ≡ Some r) → (o : Outcome) → option_map outcome_of old ≡ Some o → option_map outcome_of new ≡ Some o
outcome_still None new on o is = cc
outcome_still (Some r) new on o is = ap (option_map outcome_of) (on r refl) ∙ is

still : (old new : Record) (was is : Shown) → IsViewed old was → IsViewed new is → IsLater old new → IsStill was is
still old new was is before after later = record {
  addr = after.addr ∙ later.addr ∙ sym before.addr;
  word = after.word ∙ ap word_found later.found ∙ sym before.word;
  predicted = after.predicted ∙ later.predicted ∙ sym before.predicted;
  since = after.since ∙ later.since ∙ sym before.since;
  outcome = λ o came. after.outcome ∙ outcome_still (result_in old.stage) (result_in new.stage) later.result o (sym before.outcome ∙ came);
}

same_still : (a b was is : Shown) → ◌≡◌ {A = Option Shown} (Some a) (Some was) → ◌≡◌ {A = Option Shown} (Some b) (Some is) → IsStill a b → IsStill was is
same_still a b was is here there kept =
    let first : a ≡ was = cc in
    let second : b ≡ is = cc in
    subst (λ (x : Shown). IsStill was x) second (subst (λ (x : Shown). IsStill x b) first kept)

each_still : (news fresh olds : List Record) (before after : List Shown) → AreViewed olds before → AreViewed (news ++ fresh) after → AreLater news olds → (place : ℕ) (was is : Shown) → place < length news →
    slice_get before place ≡ Some was → slice_get after place ≡ Some is → IsStill was is
each_still [] fresh olds before after v w later place was is within here there = absurd (omega (arith, within))
each_still (new ∷ news) fresh [] before after v w later place was is within here there = absurd later
each_still (new ∷ news) fresh (old ∷ olds) [] after v w later place was is within here there = absurd v
each_still (new ∷ news) fresh (old ∷ olds) (a ∷ before) [] v w later place was is within here there = absurd w
each_still (new ∷ news) fresh (old ∷ olds) (a ∷ before) (b ∷ after) v w later zero was is within here there = same_still a b was is here there (still old new a b v.0 w.0 later.0)
each_still (new ∷ news) fresh (old ∷ olds) (a ∷ before) (b ∷ after) v w later (suc place) was is within here there =
    each_still news fresh olds before after v.1 w.1 later.1 place was is (omega (arith, within)) here there

-- after so many have left
pub all_still : (left : ℕ) (olds news fresh : List Record) (before after : List Shown) → AreViewed olds before → AreViewed (news ++ fresh) after → AreLater news (drop left olds) →
    (at place : ℕ) (was is : Shown) → at ≡ left + place → place < length news → slice_get before at ≡ Some was → slice_get after place ≡ Some is → IsStill was is
all_still zero olds news fresh before after v w later at place was is same within here there =
    let as_at : at ≡ place = omega (arith, same) in
    each_still news fresh olds before after v w later place was is within (subst (λ (n : ℕ). slice_get before n ≡ Some was) as_at here) there
all_still (suc left) [] news fresh before after v w later at place was is same within here there = absurd (omega (arith, within, no_more news [] later))
all_still (suc left) (old ∷ olds) news fresh [] after v w later at place was is same within here there = absurd v
all_still (suc left) (old ∷ olds) news fresh (a ∷ before) after v w later zero place was is same within here there = absurd (omega (arith, same))
all_still (suc left) (old ∷ olds) news fresh (a ∷ before) after v w later (suc at) place was is same within here there =
    all_still left olds news fresh before after v.1 w later at place was is (omega (arith, same)) within here there
