-- Events are counted in a profile, one list after another.
use Rattle.std.proofs.Common.{◌≡◌, ◌∙◌, ℕ, suc, ◌+◌, ◌-◌, ◌≤◌, Some, List, [], ◌∷◌, ◌++◌, append_assoc, drop, take, sym, ap, subst, arith}
use Rattle.std.specs.Prelude.{flat_map, option_map, slice_get}
use Rattle.std.proofs.lemmas.Grind.{flat_map-append}
use Rattle.std.proofs.lemmas.List.{append-nil, map-append}
use Rattle.std.proofs.lemmas.Option.{slice_get-map}
use Rattle.elf_image.specs.declared.image.Image.{Image}
use Rattle.insight_model.specs.Sight.{Shown}
use Rattle.insight_model.specs.Profile.{Column, Event, events_at, fetched, once}
use Rattle.cycle_watch.specs.declared.heads.Heads.{Heads}
use Rattle.cycle_watch.specs.declared.mark.Mark.{Mark}
use Rattle.cycle_watch.specs.declared.profile.Profiling.{Profiling}
use Rattle.cycle_watch.specs.Facts.{window_in}
use Rattle.cycle_watch.specs.Shown.{shown_in}
use Rattle.cycle_watch.specs.Profiled.{HasCounted}
use Rattle.cycle_watch.proofs.Windows.{get_dropped, take_push}

-- these events
pub record Counts (events : Image → List Event) (old new : Profiling) : Type 0 where
  pub each : (image : Image) (all : List Event) (appended : List Shown) → HasCounted image all appended old → HasCounted image (all ++ events image) appended new

pub counts_none : (old : Profiling) → Counts (λ image. []) old old
counts_none old = record {
  each = λ image all appended has.
      let E : List Event → Type 0 = λ es. HasCounted image es appended old in
      subst E (sym (append-nil all)) has;
}

pub counts_more : (some more : Image → List Event) (old mid new : Profiling) → Counts some old mid → Counts more mid new → Counts (λ image. some image ++ more image) old new
counts_more some more old mid new first second = record {
  each = λ image all appended has.
      let E : List Event → Type 0 = λ es. HasCounted image es appended new in
      subst E (append_assoc all (some image) (more image)) (second.each image (all ++ some image) appended (first.each image all appended has));
}

counts_as : (some more : Image → List Event) (old new : Profiling) → ((image : Image) → some image ≡ more image) → Counts some old new → Counts more old new
counts_as some more old new same counts = record {
  each = λ image all appended has.
      let E : List Event → Type 0 = λ es. HasCounted image (all ++ es) appended new in
      subst E (same image) (counts.each image all appended has);
}

-- those of the first instructions of a list
abbrev pub CountsFirst : (Image → Shown → List Event) → ℕ → List Shown → Profiling → Profiling → Type 0
CountsFirst events place items old new = Counts (λ image. flat_map (events image) (take place items)) old new

pub counts_next : (events : Image → Shown → List Event) (place next : ℕ) (items : List Shown) (x : Shown) (old mid new : Profiling) → slice_get items place ≡ Some x → next ≡ place + 1 →
    CountsFirst events place items old mid → Counts (λ image. events image x) mid new → CountsFirst events next items old new
counts_next events place next items x old mid new there on first second =
    let step : next ≡ suc place = omega (arith, on) in
    counts_as (λ image. flat_map (events image) (take place items) ++ events image x) (λ image. flat_map (events image) (take next items)) old new
    (λ image. sym
    (ap (λ (n : ℕ). flat_map (events image) (take n items)) step ∙ ap (flat_map (events image)) (take_push items place x there)
    ∙ flat_map-append (events image) (take place items) (x ∷ [])
    ∙ ap (λ (es : List Event). flat_map (events image) (take place items) ++ es) (append-nil (events image x))))
    (counts_more (λ image. flat_map (events image) (take place items)) (λ image. events image x) old mid new first second)

-- one for each of those from a place on
abbrev pub CountsFrom : Column → ℕ → ℕ → List Shown → Profiling → Profiling → Type 0
CountsFrom column from place items old new = Counts (λ image. events_at image column (take (place - from) (drop from items))) old new

pub from_next : (items : List Shown) (from place : ℕ) (x : Shown) → from ≤ place → slice_get items place ≡ Some x → take (place + 1 - from) (drop from items) ≡ take (place - from) (drop from items) ++ x ∷ []
from_next items from place x since there =
    let step : place + 1 - from ≡ suc (place - from) = omega (arith, since) in
    let at : from + (place - from) ≡ place = omega (arith, since) in
    ap (λ (n : ℕ). take n (drop from items)) step
    ∙ take_push (drop from items) (place - from) x (get_dropped items from (place - from) ∙ ap (slice_get items) at ∙ there)

pub counts_one_next : (column : Column) (from place next : ℕ) (items : List Shown) (x : Shown) (old mid new : Profiling) → from ≤ place → slice_get items place ≡ Some x → next ≡ place + 1 →
    CountsFrom column from place items old mid → Counts (λ image. once image column x.addr ∷ []) mid new → CountsFrom column from next items old new
counts_one_next column from place next items x old mid new since there on first second =
    counts_as (λ image. events_at image column (take (place - from) (drop from items)) ++ once image column x.addr ∷ [])
    (λ image. events_at image column (take (next - from) (drop from items))) old new
    (λ image. sym
    (ap (λ (n : ℕ). events_at image column (take (n - from) (drop from items))) on ∙ ap (events_at image column) (from_next items from place x since there)
    ∙ map-append (λ (rec : Shown). once image column rec.addr) (take (place - from) (drop from items)) (x ∷ [])))
    (counts_more (λ image. events_at image column (take (place - from) (drop from items))) (λ image. once image column x.addr ∷ []) old mid new first second)

-- those that were appended are noted too
pub record Appends (events : Image → List Event) (shown : List Shown) (old new : Profiling) : Type 0 where
  pub each : (image : Image) (all : List Event) (appended : List Shown) → HasCounted image all appended old → HasCounted image (all ++ events image) (appended ++ shown) new

pub appends_none : (old : Profiling) → Appends (λ image. []) [] old old
appends_none old = record {
  each = λ image all appended has.
      let E : List Event → Type 0 = λ es. HasCounted image es (appended ++ []) old in
      let S : List Shown → Type 0 = λ shown. HasCounted image all shown old in
      subst E (sym (append-nil all)) (subst S (sym (append-nil appended)) has);
}

pub appends_more : (some more : Image → List Event) (xs ys : List Shown) (old mid new : Profiling) → Appends some xs old mid → Appends more ys mid new → Appends (λ image. some image ++ more image) (xs ++ ys) old new
appends_more some more xs ys old mid new first second = record {
  each = λ image all appended has.
      let E : List Event → Type 0 = λ es. HasCounted image es (appended ++ (xs ++ ys)) new in
      let S : List Shown → Type 0 = λ shown. HasCounted image ((all ++ some image) ++ more image) shown new in
      subst E (append_assoc all (some image) (more image))
      (subst S (append_assoc appended xs ys) (second.each image (all ++ some image) (appended ++ xs) (first.each image all appended has)));
}

abbrev pub AppendsFrom : ℕ → ℕ → List Shown → Profiling → Profiling → Type 0
AppendsFrom from place items old new = Appends (λ image. events_at image fetched (take (place - from) (drop from items))) (take (place - from) (drop from items)) old new

pub appends_next : (from place next : ℕ) (items : List Shown) (x : Shown) (old mid new : Profiling) → from ≤ place → slice_get items place ≡ Some x → next ≡ place + 1 →
    AppendsFrom from place items old mid → Appends (λ image. once image fetched x.addr ∷ []) (x ∷ []) mid new → AppendsFrom from next items old new
appends_next from place next items x old mid new since there on first second =
    let so_far : List Shown = take (place - from) (drop from items) in
    let all : take (next - from) (drop from items) ≡ so_far ++ x ∷ [] = ap (λ (n : ℕ). take (n - from) (drop from items)) on ∙ from_next items from place x since there in
    let P : (Image → List Event) → Type 0 = λ events. Appends events (take (next - from) (drop from items)) old new in
    let S : List Shown → Type 0 = λ shown. Appends (λ image. events_at image fetched so_far ++ once image fetched x.addr ∷ []) shown old new in
    let both = appends_more (λ image. events_at image fetched so_far) (λ image. once image fetched x.addr ∷ []) so_far (x ∷ []) old mid new first second in
    subst P (λ i image. sym (ap (events_at image fetched) all ∙ map-append (λ (rec : Shown). once image fetched rec.addr) so_far (x ∷ [])) i) (subst S (sym all) both)

-- the instruction at a place, while the heads stand still
pub shown_at : (old now : Profiling) (place : ℕ) (mark : Mark) → now.heads ≡ old.heads → slice_get now.heads.last.marks.items place ≡ Some mark →
    slice_get (window_in old.heads.last.marks.items) place ≡ Some (shown_in mark.shown)
shown_at old now place mark heads is =
    slice_get-map (λ (m : Mark). shown_in m.shown) old.heads.last.marks.items place
    ∙ ap (option_map (λ (m : Mark). shown_in m.shown)) (ap (λ (h : Heads). slice_get h.last.marks.items place) (sym heads) ∙ is)

-- nothing but the counts has changed, or the caches and the counts
pub rest_on : (old now new : Profiling) → now ≡ record old { counts = now.counts } → new ≡ record now { counts = new.counts } → new ≡ record old { counts = new.counts }
rest_on old now new first second = second ∙ ap (λ (x : Profiling). record x { counts = new.counts }) first

pub both_on : (old now new : Profiling) → now ≡ record old { caches = now.caches; counts = now.counts } → new ≡ record now { caches = new.caches; counts = new.counts } →
    new ≡ record old { caches = new.caches; counts = new.counts }
both_on old now new first second = second ∙ ap (λ (x : Profiling). record x { caches = new.caches; counts = new.counts }) first
