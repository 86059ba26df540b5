-- What is remembered of an instruction that has advanced in a cycle, or stands still in it.
use Rattle.std.proofs.Common.{◌≡◌, ◌∙◌, ℕ, zero, suc, ◌-◌, ◌≤◌, ◌&&◌, Bool, true, false, if◌then◌else◌, is_some, Option, Some, None, List, [], ◌∷◌, ◌++◌, length, map, refl, sym, ap, subst, arith}
use Rattle.std.specs.Prelude.{option_to_list, slice_get, slice_set, vec_capacity}
use Rattle.std.specs.Option.{option_map_or}
use Rattle.std.proofs.lemmas.List.{append-nil}
use Rattle.std.proofs.lemmas.Option.{same_Some}
use Rattle.circular_buffer.specs.Buffer.{Buffer}
use Rattle.insight_model.specs.declared.pipeline.Pipeline.{Pipeline}
use Rattle.insight_model.specs.declared.pipeline.Pipeline.TheVariants.{Window, Inorder}
use Rattle.insight_model.specs.Sight.{Outcome, Progress, Shown, waiting, executing, accessing, done, is_accessing_at, is_executing_at, is_waiting_at, ram_load}
use Rattle.insight_model.specs.Facts.{Kept}
use Rattle.insight_model.specs.Accesses.{CacheAccess, comes_to_memory, load_access, load_made, loads, until_at}
use Rattle.cycle_watch.specs.declared.last.LastSight.{LastSight}
use Rattle.cycle_watch.specs.declared.mark.Mark.{Mark}
use Rattle.cycle_watch.specs.declared.shown.Shown.{Shown as ShownInCode}
use Rattle.cycle_watch.specs.Shown.{outcome_in, progress_in, shown_in}
use Rattle.cycle_watch.specs.Facts.{access_in, loads_made}
use Rattle.cycle_watch.specs.Known.{HasAdvanced, kept_of}

pub set_same : {A : Type 0} (xs : List A) (i : ℕ) (x : A) → slice_get xs i ≡ Some x → slice_set xs i x ≡ xs
set_same [] i x is = refl
set_same {A = A} (a ∷ xs) zero x is = let e : a ≡ x = cc in ap (λ (b : A). b ∷ xs) (sym e)
set_same {A = A} (a ∷ xs) (suc i) x is = ap (λ (rest : List A). a ∷ rest) (set_same xs i x is)

-- the load that it made, if it made one
abbrev access_at : Kept → ℕ → Option CacheAccess
access_at k addr = Some (record { by = k.after.addr; what = loads addr })

pub loads_listed : (pipeline : Pipeline) (k : Kept) (made : Option ℕ) → made ≡ load_made pipeline k → loads_made k.after.addr made ≡ option_to_list (load_access pipeline k)
loads_listed pipeline k made is = by made ∙ ap (λ (m : Option ℕ). option_to_list (option_map_or (access_at k) m None)) is
  where
    by : (m : Option ℕ) → loads_made k.after.addr m ≡ option_to_list (option_map_or (access_at k) m None)
    by None = refl
    by (Some addr) = refl

-- one that stands still makes none
pub never_comes : (pipeline : Pipeline) (x : Shown) → comes_to_memory pipeline (record { before = x; after = x }) ≡ false
never_comes Window x = by x.progress
  where
    by : (q : Progress) → (is_waiting_at q && is_executing_at q) ≡ false
    by waiting = refl
    by (executing e o) = refl
    by (accessing e o) = refl
    by (done o) = refl
never_comes Inorder x = by x.progress
  where
    by : (q : Progress) → (is_executing_at q && is_accessing_at q) ≡ false
    by waiting = refl
    by (executing e o) = refl
    by (accessing e o) = refl
    by (done o) = refl

pub none_made : (pipeline : Pipeline) (x : Shown) → load_made pipeline (record { before = x; after = x }) ≡ None
none_made pipeline x = ap (λ (b : Bool). if b then ram_load x else None) (never_comes pipeline x)

pub stands_still : (last : LastSight) (cycle place : ℕ) (mark : Mark) (is : Shown) → slice_get last.marks.items place ≡ Some mark → shown_in mark.shown ≡ is → HasAdvanced last cycle place mark is last
stands_still last cycle place mark is here same =
    let none : load_made last.pipeline (kept_of mark is) ≡ None =
    ap (λ (x : Shown). load_made last.pipeline (record { before = shown_in mark.shown; after = x })) (sym same) ∙ none_made last.pipeline (shown_in mark.shown) in
    record {
      now = mark;
      marks = ap (λ (ms : List Mark). record last.marks { items = ms }) (sym (set_same last.marks.items place mark here));
      seen = same;
      miss = sym (ap (λ (o : Option ℕ). if is_some o then until_at is.progress - cycle - last.params.mem_latency else mark.miss) none);
      same = refl;
      loads = sym (ap (λ (o : Option ℕ). map access_in last.loads.items ++ option_to_list (option_map_or (access_at (kept_of mark is)) o None)) none ∙ append-nil (map access_in last.loads.items));
      rest = refl;
      room = omega arith;
    }

-- one that has advanced
pub has_advanced : (old pushed new : LastSight) (cycle place : ℕ) (held mark : Mark) (shown : ShownInCode) (made : Option ℕ) (miss : ℕ) →
    slice_get old.marks.items place ≡ Some held → slice_get old.marks.items place ≡ Some mark →
    ((k : Kept) (o : Outcome) → k.before.progress ≡ progress_in held.shown.progress o → k.after ≡ shown_in shown → made ≡ load_made old.pipeline k) →
    ((o : Outcome) → miss ≡ (if is_some made then until_at (progress_in shown.progress o) - cycle - old.params.mem_latency else held.miss)) →
    map access_in pushed.loads.items ≡ map access_in old.loads.items ++ loads_made shown.addr made →
    vec_capacity old.loads ≤ vec_capacity pushed.loads → pushed ≡ record old { loads = pushed.loads } →
    new ≡ record pushed { marks = record pushed.marks { items = slice_set pushed.marks.items place (record held { shown = shown; miss = miss }) } } →
    HasAdvanced old cycle place mark (shown_in shown) new
has_advanced old pushed new cycle place held mark shown made miss held_at here is_made is_miss noted room rest put =
    let M : Mark → Type 0 = λ m. HasAdvanced old cycle place m (shown_in shown) new in
    subst M (same_Some held mark (sym held_at ∙ here)) (record {
      now = record held { shown = shown; miss = miss };
      marks = marks;
      seen = refl;
      miss = miss_now;
      same = refl;
      loads = loads_now;
      rest = rest_now;
      room = room_now;
    })
  where
    marks_were : pushed.marks ≡ old.marks
    marks_were = ap (λ (l : LastSight). l.marks) rest

    marks : new.marks ≡ record old.marks { items = slice_set old.marks.items place (record held { shown = shown; miss = miss }) }
    marks =
        ap (λ (l : LastSight). l.marks) put
        ∙ ap (λ (b : Buffer Mark). record b { items = slice_set b.items place (record held { shown = shown; miss = miss }) }) marks_were

    is_load : made ≡ load_made old.pipeline (kept_of held (shown_in shown))
    is_load = is_made (kept_of held (shown_in shown)) (outcome_in held.shown) refl refl

    miss_now : miss ≡ (if is_some (load_made old.pipeline (kept_of held (shown_in shown)))
        then until_at (shown_in shown).progress - cycle - old.params.mem_latency else held.miss)
    miss_now =
        is_miss (outcome_in shown)
        ∙ ap (λ (m : Option ℕ). if is_some m then until_at (shown_in shown).progress - cycle - old.params.mem_latency else held.miss) is_load

    new_loads : new.loads ≡ pushed.loads
    new_loads = ap (λ (l : LastSight). l.loads) put

    loads_now : map access_in new.loads.items ≡ map access_in old.loads.items ++ option_to_list (load_access old.pipeline (kept_of held (shown_in shown)))
    loads_now =
        (λ i. map access_in (new_loads i).items)
        ∙ noted
        ∙ ap (λ (more : List CacheAccess). map access_in old.loads.items ++ more) (loads_listed old.pipeline (kept_of held (shown_in shown)) made is_load)

    rest_now : new ≡ record old { marks = new.marks; loads = new.loads }
    rest_now =
        put
        ∙ (λ i. record (rest i) { marks = record (rest i).marks { items = slice_set (rest i).marks.items place (record held { shown = shown; miss = miss }) } })
        ∙ (λ i. record old { marks = sym marks i; loads = sym new_loads i })

    room_now : vec_capacity old.loads ≤ vec_capacity new.loads
    room_now = let e : vec_capacity new.loads ≡ vec_capacity pushed.loads = λ i. vec_capacity (new_loads i) in omega (arith, e, room)
