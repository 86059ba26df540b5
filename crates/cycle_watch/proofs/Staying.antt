-- Which stage an instruction is in, and which one stays in a stage.
use Rattle.std.proofs.Common.{◌≡◌, ◌∙◌, ℕ, zero, suc, ◌+◌, ◌≤◌, ◌<◌, ◌||◌, Bool, true, false, if◌then◌else◌, Option, Some, None, List, [], ◌∷◌, drop, length, length-take, map, option_map, take, zip, refl, sym, ap, arith}
use Rattle.std.specs.Prelude.{slice_get}
use Rattle.std.proofs.lemmas.List.{drop_all}
use Rattle.std.proofs.lemmas.Option.{same_Some, slice_get-map}
use Rattle.fsim_base.specs.declared.access.Access.TheVariants as access
use Rattle.insight_model.specs.Sight.{Outcome, Progress, Shown, waiting, executing, accessing, done}
use Rattle.insight_model.specs.Facts.{Kept, pairs}
use Rattle.insight_model.specs.Hole.{has_in, stays_in}
use Rattle.cycle_watch.specs.declared.facts.Facts.{Facts as FactsInCode}
use Rattle.cycle_watch.specs.declared.holes.Stage.{Stage}
use Rattle.cycle_watch.specs.declared.holes.Stage.TheVariants.{Decode, Execute, Memory, Write}
use Rattle.cycle_watch.specs.declared.last.LastSight.{LastSight}
use Rattle.cycle_watch.specs.declared.mark.Mark.{Mark}
use Rattle.cycle_watch.specs.declared.shown.Progress.{Progress as ProgressInCode}
use Rattle.cycle_watch.specs.Shown.{place_of, progress_in, progress_of, shown_in}
use Rattle.cycle_watch.specs.Facts.{window_in}
use Rattle.cycle_watch.specs.Known.{kept_of, misses_in}
use Rattle.cycle_watch.specs.Stages.{is_in, kept_in}
use Rattle.cycle_watch.proofs.Finding.{drop_get}
use Rattle.cycle_watch.proofs.Passing.{got}
use Rattle.cycle_watch.proofs.Windows.{get_dropped, get_taken}

-- what it came to doesn't matter for the stage
pub same_stage : (stage : Stage) (q : Progress) (o : Outcome) → is_in stage (progress_in (place_of q) o) ≡ is_in stage q
same_stage Decode waiting o = refl
same_stage Decode (executing e p) o = refl
same_stage Decode (accessing e p) o = refl
same_stage Decode (done p) o = refl
same_stage Execute waiting o = refl
same_stage Execute (executing e p) o = refl
same_stage Execute (accessing e p) o = refl
same_stage Execute (done p) o = refl
same_stage Memory waiting o = refl
same_stage Memory (executing e p) o = refl
same_stage Memory (accessing e p) o = refl
same_stage Memory (done p) o = refl
same_stage Write waiting o = refl
same_stage Write (executing e p) o = refl
same_stage Write (accessing e p) o = refl
same_stage Write (done p) o = refl

-- whether a stage has one
pub has_here : (t : Progress → Bool) (w : List Shown) (place : ℕ) (x : Shown) → slice_get w place ≡ Some x → t x.progress ≡ true → has_in t (drop place w) ≡ true
has_here t w place x here is = ap (has_in t) (drop_get w place x here) ∙ ap (λ (b : Bool). b || has_in t (drop (suc place) w)) is

pub has_later : (t : Progress → Bool) (w : List Shown) (place : ℕ) (x : Shown) → slice_get w place ≡ Some x → t x.progress ≡ false →
    has_in t (drop place w) ≡ has_in t (drop (place + 1) w)
has_later t w place x here is =
    let next : suc place ≡ place + 1 = omega arith in
    ap (has_in t) (drop_get w place x here) ∙ ap (λ (b : Bool). b || has_in t (drop (suc place) w)) is ∙ ap (λ (n : ℕ). has_in t (drop n w)) next

-- which one stays
abbrev pub stays_by : Bool → Bool → Kept × ℕ → Option (Kept × ℕ) → Option (Kept × ℕ)
stays_by was is k later = if was then (if is then Some k else None) else later

pub stays_here : (t : Progress → Bool) (ks : List (Kept × ℕ)) (place : ℕ) (k : Kept × ℕ) (was is : Bool) → slice_get ks place ≡ Some k →
    t k.0.before.progress ≡ was → t k.0.after.progress ≡ is → stays_in t (drop place ks) ≡ stays_by was is k (stays_in t (drop (place + 1) ks))
stays_here t ks place k was is here before after =
    let next : suc place ≡ place + 1 = omega arith in
    ap (stays_in t) (drop_get ks place k here) ∙ (λ i. stays_by (before i) (after i) k (stays_in t (drop (next i) ks)))

zip_get : {A B : Type 0} (xs : List A) (ys : List B) (i : ℕ) (x : A) (y : B) → slice_get xs i ≡ Some x → slice_get ys i ≡ Some y → slice_get (zip xs ys) i ≡ Some (x, y)
zip_get [] ys i x y left right = cc
zip_get (a ∷ xs) [] i x y left right = cc
zip_get (a ∷ xs) (b ∷ ys) zero x y left right = let e : a ≡ x = cc in let f : b ≡ y = cc in λ j. Some (e j, f j)
zip_get (a ∷ xs) (b ∷ ys) (suc i) x y left right = zip_get xs ys i x y left right

pairs_get : (xs ys : List Shown) (i : ℕ) (x y : Shown) → slice_get xs i ≡ Some x → slice_get ys i ≡ Some y → slice_get (pairs xs ys) i ≡ Some (record { before = x; after = y })
pairs_get [] ys i x y left right = cc
pairs_get (a ∷ xs) [] i x y left right = cc
pairs_get (a ∷ xs) (b ∷ ys) zero x y left right =
    let e : a ≡ x = cc in let f : b ≡ y = cc in λ j. Some (record { before = e j; after = f j })
pairs_get (a ∷ xs) (b ∷ ys) (suc i) x y left right = pairs_get xs ys i x y left right

-- the one at a place that stayed
pub kept_at : (last : LastSight) (f : FactsInCode) (w : List Shown) (place : ℕ) (mark : Mark) (is : Shown) → slice_get last.marks.items (f.left + place) ≡ Some mark →
    slice_get w place ≡ Some is → place < f.kept → slice_get (kept_in last f w) place ≡ Some (kept_of mark is, mark.miss)
kept_at last f w place mark is was now within =
    zip_get (pairs (drop f.left (window_in last.marks.items)) (take f.kept w)) (drop f.left (misses_in last.marks.items)) place (kept_of mark is) mark.miss
    (pairs_get (drop f.left (window_in last.marks.items)) (take f.kept w) place (shown_in mark.shown) is
    (get_dropped (window_in last.marks.items) f.left place ∙ slice_get-map (λ (m : Mark). shown_in m.shown) last.marks.items (f.left + place) ∙ ap (option_map (λ (m : Mark). shown_in m.shown)) was)
    (get_taken w f.kept place within ∙ now))
    (get_dropped (misses_in last.marks.items) f.left place ∙ slice_get-map (λ (m : Mark). m.miss) last.marks.items (f.left + place) ∙ ap (option_map (λ (m : Mark). m.miss)) was)

-- the instruction at a place, by how far the code sees that it has come
any_outcome : Outcome
any_outcome = record { next = 0; access = access.Nothing; cause = None }

pub seen_stage : (stage : Stage) (w : List Shown) (place : ℕ) (p : ProgressInCode) (b : Bool) (x : Shown) → slice_get w place ≡ Some x → option_map progress_of (slice_get w place) ≡ Some p →
    ((o : Outcome) → b ≡ is_in stage (progress_in p o)) → b ≡ is_in stage x.progress
seen_stage stage w place p b x here seen at =
    let now : p ≡ place_of x.progress = same_Some p (place_of x.progress) (sym seen ∙ ap (option_map progress_of) here) in
    at any_outcome ∙ ap (λ (q : ProgressInCode). is_in stage (progress_in q any_outcome)) now ∙ same_stage stage x.progress any_outcome

-- a search among those that are seen
module _ (stage : Stage) (w : List Shown) (place : ℕ) (b : Bool) (within : place < length w) (at : (x : Shown) → slice_get w place ≡ Some x → b ≡ is_in stage x.progress) where
  pub has_now : b ≡ true → has_in (is_in stage) (drop place w) ≡ true
  has_now is = let x = got w place within in has_here (is_in stage) w place x.0 x.1 (sym (at x.0 x.1) ∙ is)

  pub has_next : b ≡ false → has_in (is_in stage) (drop place w) ≡ has_in (is_in stage) (drop (place + 1) w)
  has_next is = let x = got w place within in has_later (is_in stage) w place x.0 x.1 (sym (at x.0 x.1) ∙ is)

pub has_none : (stage : Stage) (w : List Shown) (place : ℕ) → length w ≤ place → has_in (is_in stage) (drop place w) ≡ false
has_none stage w place all = ap (has_in (is_in stage)) (drop_all place w all)

-- a search among those that stayed
module _ (last : LastSight) (f : FactsInCode) (w : List Shown) (stage : Stage) (place : ℕ) (were : f.left + place < length last.marks.items) (are : place < length w) (below : place < f.kept)
    (was : Bool) (was_at : (mark : Mark) → slice_get last.marks.items (f.left + place) ≡ Some mark → was ≡ is_in stage (shown_in mark.shown).progress) where
  -- by whether it was in the stage, and is
  stayed : (is : Bool) → ((x : Shown) → slice_get w place ≡ Some x → is ≡ is_in stage x.progress) →
      (k : Kept × ℕ) × (slice_get (kept_in last f w) place ≡ Some k)
      × (stays_in (is_in stage) (drop place (kept_in last f w)) ≡ stays_by was is k (stays_in (is_in stage) (drop (place + 1) (kept_in last f w))))
  stayed is is_at =
      let m = got last.marks.items (f.left + place) were in
      let x = got w place are in
      let k : Kept × ℕ = (kept_of m.0 x.0, m.0.miss) in
      let here : slice_get (kept_in last f w) place ≡ Some k = kept_at last f w place m.0 x.0 m.1 x.1 below in
      (k, here, stays_here (is_in stage) (kept_in last f w) place k was is here (sym (was_at m.0 m.1)) (sym (is_at x.0 x.1)))

  pub stays_now : (is : Bool) → ((x : Shown) → slice_get w place ≡ Some x → is ≡ is_in stage x.progress) → was ≡ true → is ≡ true →
      slice_get (kept_in last f w) place ≡ stays_in (is_in stage) (drop place (kept_in last f w))
  stays_now is is_at before after =
      let s = stayed is is_at in
      s.1 ∙ sym (s.2 ∙ (λ i. stays_by (before i) (after i) s.0 (stays_in (is_in stage) (drop (place + 1) (kept_in last f w)))))

  pub stays_not : (is : Bool) → ((x : Shown) → slice_get w place ≡ Some x → is ≡ is_in stage x.progress) → was ≡ true → is ≡ false →
      None ≡ stays_in (is_in stage) (drop place (kept_in last f w))
  stays_not is is_at before after =
      let s = stayed is is_at in
      sym (s.2 ∙ (λ i. stays_by (before i) (after i) s.0 (stays_in (is_in stage) (drop (place + 1) (kept_in last f w)))))

  pub stays_later : was ≡ false → stays_in (is_in stage) (drop place (kept_in last f w)) ≡ stays_in (is_in stage) (drop (place + 1) (kept_in last f w))
  stays_later before =
      let x = got w place are in
      let s = stayed (is_in stage x.0.progress) (λ y there. ap (λ (v : Shown). is_in stage v.progress) (same_Some x.0 y (sym x.1 ∙ there))) in
      s.2 ∙ ap (λ (b : Bool). stays_by b (is_in stage x.0.progress) s.0 (stays_in (is_in stage) (drop (place + 1) (kept_in last f w)))) before

pub none_stays : (last : LastSight) (f : FactsInCode) (w : List Shown) (stage : Stage) (place : ℕ) → f.kept ≤ place → None ≡ stays_in (is_in stage) (drop place (kept_in last f w))
none_stays last f w stage place all =
    let few : length (kept_in last f w) ≤ place =
    omega (
      arith,
      all,
      zip_few (pairs (drop f.left (window_in last.marks.items)) (take f.kept w)) (drop f.left (misses_in last.marks.items)),
      pairs_few (drop f.left (window_in last.marks.items)) (take f.kept w),
      length-take f.kept w,
    ) in
    sym (ap (stays_in (is_in stage)) (drop_all place (kept_in last f w) few))
  where
    zip_few : {A B : Type 0} (xs : List A) (ys : List B) → length (zip xs ys) ≤ length xs
    zip_few [] ys = omega arith
    zip_few (x ∷ xs) [] = omega arith
    zip_few (x ∷ xs) (y ∷ ys) = omega (arith, zip_few xs ys)

    pairs_few : (xs ys : List Shown) → length (pairs xs ys) ≤ length ys
    pairs_few [] ys = omega arith
    pairs_few (x ∷ xs) [] = omega arith
    pairs_few (x ∷ xs) (y ∷ ys) = omega (arith, pairs_few xs ys)
