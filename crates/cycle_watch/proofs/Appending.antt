-- One more instruction that was appended.
use Rattle.std.proofs.Common.{◌≡◌, ◌∙◌, ℕ, suc, ◌+◌, ◌-◌, ◌≤◌, ◌<◌, ◌==◌, if◌then◌else◌, Bool, false, Option, Some, None, List, [], ◌∷◌, ◌++◌, append_assoc, drop, length, length-append, length-drop, length-take, map, replicate, take, refl, sym, ap, subst, arith}
use Rattle.std.proofs.lemmas.Bool.{ne_eqb}
use Rattle.std.proofs.lemmas.List.{append-nil, map_push, replicate_more, take_all}
use Rattle.std.proofs.lemmas.Option.{slice_get_within}
use Rattle.circular_buffer.specs.Buffer.{Buffer}
use Rattle.mono_model.specs.declared.params.Params.{Params}
use Rattle.insight_model.specs.declared.cycle_cause.CycleCause.TheVariants.{Icache, Start}
use Rattle.insight_model.specs.Cause.{Charge, charge}
use Rattle.insight_model.specs.Sight.{Shown}
use Rattle.insight_model.specs.Facts.{Facts}
use Rattle.insight_model.specs.Origin.{first_origin, new_origins, newest, room_origin}
use Rattle.std.specs.Prelude.{option_map, slice_get}
use Rattle.cycle_watch.specs.declared.heads.Heads.{Heads}
use Rattle.cycle_watch.specs.declared.last.LastSight.{LastSight}
use Rattle.cycle_watch.specs.declared.mark.Mark.{Mark}
use Rattle.cycle_watch.specs.Shown.{shown_in}
use Rattle.cycle_watch.specs.Facts.{charge_in, window_in}
use Rattle.cycle_watch.specs.Known.{HasAppended, misses_in, origin_of, origins_in}
use Rattle.cycle_watch.proofs.Windows.{get_dropped, take_push}

new_origins_push : (p : Params) (f : Facts) (flush : Option Charge) (xs : List Shown) (x : Shown) →
    new_origins p f flush (xs ++ x ∷ []) ≡ new_origins p f flush xs ++ origin_of p f flush (length xs) x ∷ []
new_origins_push p f flush [] x = refl
new_origins_push p f flush (a ∷ xs) x =
    ap (λ (rest : List Charge). first_origin p f flush a ∷ rest) (map_push (room_origin p f) xs x)
    ∙ ap (λ (b : Bool). new_origins p f flush (a ∷ xs) ++ (if b then first_origin p f flush x else room_origin p f x) ∷ [])
    (sym (ne_eqb (suc (length xs)) 0 (λ e. omega (arith, e))))

module _ (before : Heads) (f : Facts) (xs : List Shown) (now : Heads) (has : HasAppended before f xs now) (mark : Mark) (x : Shown) (next : Heads)
    (seen : shown_in mark.shown ≡ x) (miss : mark.miss ≡ 0)
    (origin : charge_in mark.origin ≡ origin_of before.last.params f (newest f (option_map charge_in before.refill)) (length xs) x)
    (pushed : next ≡ record now { last = record now.last { marks = record now.last.marks { items = now.last.marks.items ++ mark ∷ [] } } }) where
  items : next.last.marks.items ≡ now.last.marks.items ++ mark ∷ []
  items = ap (λ (h : Heads). h.last.marks.items) pushed

  joined : {A : Type 0} (ls rs : List A) (b : A) → (ls ++ rs) ++ b ∷ [] ≡ ls ++ (rs ++ b ∷ [])
  joined ls rs b = append_assoc ls rs (b ∷ [])

  pub appended_next : HasAppended before f (xs ++ x ∷ []) next
  appended_next = record {
    window =
        ap window_in items ∙ map_push (λ (m : Mark). shown_in m.shown) now.last.marks.items mark
        ∙ (λ i. has.window i ++ seen i ∷ [])
        ∙ joined (window_in before.last.marks.items) xs x;
    misses =
        ap misses_in items ∙ map_push (λ (m : Mark). m.miss) now.last.marks.items mark
        ∙ (λ i. has.misses i ++ miss i ∷ [])
        ∙ joined (misses_in before.last.marks.items) (replicate (length xs) 0) 0
        ∙ ap (λ (zeros : List ℕ). misses_in before.last.marks.items ++ zeros) (replicate_more (length xs) 0)
        ∙ ap (λ (n : ℕ). misses_in before.last.marks.items ++ replicate n 0) (sym (length-append xs (x ∷ [])));
    origins =
        ap origins_in items ∙ map_push (λ (m : Mark). charge_in m.origin) now.last.marks.items mark
        ∙ (λ i. has.origins i ++ origin i ∷ [])
        ∙ joined (origins_in before.last.marks.items) (new_origins before.last.params f (newest f (option_map charge_in before.refill)) xs)
        (origin_of before.last.params f (newest f (option_map charge_in before.refill)) (length xs) x)
        ∙ ap (λ (more : List Charge). origins_in before.last.marks.items ++ more)
        (sym (new_origins_push before.last.params f (newest f (option_map charge_in before.refill)) xs x));
    rest =
        pushed
        ∙ (λ i. record (has.rest i) { last = record (has.rest i).last { marks = record (has.rest i).last.marks { items = now.last.marks.items ++ mark ∷ [] } } })
        ∙ ap (λ (ms : List Mark). record before { last = record before.last { marks = record before.last.marks { items = ms } } }) (sym items);
  }

-- none so far
pub none_appended : (before : Heads) (f : Facts) (shown : List Shown) → shown ≡ [] → HasAppended before f shown before
none_appended before f shown none =
    let S : List Shown → Type 0 = λ xs. HasAppended before f xs before in
    subst S (sym none) (record {
      window = sym (append-nil (window_in before.last.marks.items));
      misses = sym (append-nil (misses_in before.last.marks.items));
      origins = sym (append-nil (origins_in before.last.marks.items));
      rest = refl;
    })

-- those of a window from a place on
pub window_step : (w : List Shown) (kept place : ℕ) (x : Shown) → kept ≤ place → slice_get w place ≡ Some x →
    take (place + 1 - kept) (drop kept w) ≡ take (place - kept) (drop kept w) ++ x ∷ []
window_step w kept place x order here =
    let next : place + 1 - kept ≡ suc (place - kept) = omega (arith, order) in
    let there : kept + (place - kept) ≡ place = omega (arith, order) in
    ap (λ (n : ℕ). take n (drop kept w)) next
    ∙ take_push (drop kept w) (place - kept) x (get_dropped w kept (place - kept) ∙ ap (slice_get w) there ∙ here)

pub appended_step : (before : Heads) (f : Facts) (w : List Shown) (kept place : ℕ) (now next : Heads) (mark : Mark) (x : Shown) → kept ≤ place → slice_get w place ≡ Some x →
    HasAppended before f (take (place - kept) (drop kept w)) now → shown_in mark.shown ≡ x → mark.miss ≡ 0 →
    charge_in mark.origin ≡ origin_of now.last.params f (newest f (option_map charge_in now.refill)) (place - kept) x →
    next ≡ record now { last = record now.last { marks = record now.last.marks { items = now.last.marks.items ++ mark ∷ [] } } } →
    HasAppended before f (take (place + 1 - kept) (drop kept w)) next
appended_step before f w kept place now next mark x order here has seen miss origin pushed =
    let xs = take (place - kept) (drop kept w) in
    let within : place < length w = slice_get_within w place x here in
    let count : place - kept ≡ length xs = omega (arith, order, within, length-take (place - kept) (drop kept w), length-drop kept w) in
    let params : now.last.params ≡ before.last.params = ap (λ (h : Heads). h.last.params) has.rest in
    let refill : now.refill ≡ before.refill = ap (λ (h : Heads). h.refill) has.rest in
    let S : List Shown → Type 0 = λ ys. HasAppended before f ys next in
    subst S (sym (window_step w kept place x order here))
    (appended_next before f xs now has mark x next seen miss
    (origin ∙ (λ i. origin_of (params i) f (newest f (option_map charge_in (refill i))) (count i) x)) pushed)

pub all_appended : (before now : Heads) (f : Facts) (w : List Shown) (kept place : ℕ) → length w ≤ place → HasAppended before f (take (place - kept) (drop kept w)) now → HasAppended before f (drop kept w) now
all_appended before now f w kept place all has =
    let S : List Shown → Type 0 = λ ys. HasAppended before f ys now in
    subst S (take_all (place - kept) (drop kept w) (omega (arith, all, length-drop kept w))) has

-- one for which there was no room: no flush was left, it isn't the first of a run, and it wasn't waited for
pub origin_of_room : (p : Params) (f : Facts) (flush : Option Charge) (shown : Shown) → flush ≡ None → (f.fetched == 0) ≡ false → f.paid ≡ false → first_origin p f flush shown ≡ room_origin p f shown
origin_of_room p f flush shown none some paid =
    ap (λ (o : Option Charge). first_origin p f o shown) none
    ∙ (λ i. if some i then charge Start shown.addr else (if paid i then charge Icache shown.addr else room_origin p f shown))
