-- The observer stands after a cycle that it passed.
use Rattle.std.proofs.Common.{◌≡◌, ◌∙◌, ℕ, ◌+◌, ◌≤◌, Option, None, List, [], ◌∷◌, ◌++◌, drop, length, length-drop, length-take-le, map, replicate, take, take-append-drop, refl, subst, sym, ap, arith}
use Rattle.std.specs.Prelude.{option_map, vec_capacity}
use Rattle.timing_core.specs.Counts.{counts_in}
use Rattle.mono_model.specs.declared.params.Params.{Params}
use Rattle.insight_model.specs.declared.pipeline.Pipeline.{Pipeline}
use Rattle.insight_model.specs.declared.pipeline.Pipeline.TheVariants.{Inorder}
use Rattle.insight_model.specs.Cause.{Charge}
use Rattle.insight_model.specs.Sight.{Shown, Sight}
use Rattle.insight_model.specs.Facts.{Facts, Kept, facts as cycle_facts, pairs}
use Rattle.insight_model.specs.Accesses.{kept_misses, misses_after}
use Rattle.insight_model.specs.Origin.{new_origins, newest, origins_after, refill_after}
use Rattle.insight_model.specs.Hole.{holes_after, holes_start}
use Rattle.insight_model.specs.Head.{Known}
use Rattle.insight_model.specs.Cycles.{known_after, known_start}
use Rattle.cycle_watch.specs.declared.facts.Facts.{Facts as FactsInCode}
use Rattle.cycle_watch.specs.declared.heads.Heads.{Heads}
use Rattle.cycle_watch.specs.declared.holes.Holes.{Holes as HolesInCode}
use Rattle.cycle_watch.specs.declared.last.LastSight.{LastSight}
use Rattle.cycle_watch.specs.Facts.{Follows, IsTold, Keeps, MayPassTo, Notes, at_cycle, charge_in, window_in}
use Rattle.cycle_watch.specs.Known.{HasAppended, HasPassed, KnowsAs, MayPass, StandsAt, TellsOrigin, Watches, holes_in, misses_in, origins_in}
use Rattle.cycle_watch.specs.declared.mark.Mark.{Mark}
use Rattle.cycle_watch.specs.Shown.{shown_in}
use Rattle.cycle_watch.specs.Stages.{HasKept}
use Rattle.std.proofs.lemmas.List.{length-map}
use Rattle.cycle_watch.proofs.Heading.{told_before}
use Rattle.cycle_watch.proofs.Windows.{pairs_length}

-- what it may pass stands in the windows
pub may_keep : (heads : Heads) (after : Sight) (f : FactsInCode) → MayPass heads after f → HasKept heads.last f after.window
may_keep heads after f may = record {
  were =
      omega (
        arith,
        may.told.left,
        may.told.kept,
        may.follows.kept,
        ap (length {A = Shown}) may.stands.keeps.window,
        length-map heads.last.marks.items (λ (m : Mark). shown_in m.shown),
      );
  are = omega (arith, may.told.kept);
  few = omega (arith, may.told.left, may.told.kept, may.follows.leave, may.follows.within);
}

pub may_pass_to : (heads : Heads) (after : Sight) (f : FactsInCode) → MayPass heads after f → MayPassTo heads.last after f
may_pass_to heads after f may = record {
  before = may.before;
  keeps = may.stands.keeps;
  follows = may.follows;
  told = may.told;
  small = may.small;
}

-- before the first cycle
no_marks : (marks : List Mark) → window_in marks ≡ [] → marks ≡ []
no_marks [] none = refl
no_marks (mark ∷ marks) none = cc

pub stands_start : (kind : Pipeline) (p : Params) (s : Sight) (entry : ℕ) (last : LastSight) (holes : HolesInCode) → Keeps s last → Watches kind p last → s.window ≡ [] →
    holes_in holes ≡ holes_start entry → StandsAt kind p s (known_start entry) (record { last = last; refill = None; holes = holes })
unfolding known_start
stands_start kind p s entry last holes keeps watches empty start =
    let none : last.marks.items ≡ [] = no_marks last.marks.items (keeps.window ∙ empty) in
    record {
      watches = watches;
      keeps = keeps;
      knows = record { misses = ap misses_in none; origins = ap origins_in none; refill = refl; holes = λ inorder. start };
    }

-- what is told of a cycle is enough for the origins after it
pub tells_origin : (before after : Sight) (f : FactsInCode) → IsTold before after f → Follows before after → TellsOrigin f (cycle_facts before after)
tells_origin before after f told follows = record {
  before = told.all ∙ ap (length {A = Shown}) (sym (told_before before after f told follows));
  fetched = ap (λ (x : Facts). x.fetched) told.facts;
  paid = ap (λ (x : Facts). x.paid) told.facts;
  flush = ap (λ (x : Facts). x.flush) told.facts;
}

pub told_appended : (before after : Sight) (f : FactsInCode) → IsTold before after f → Follows before after → f.appended ≡ length (cycle_facts before after).appended
told_appended before after f told follows =
    let new : f.appended ≡ length (drop f.kept after.window) = omega (arith, told.appended, told.kept, follows.appended, length-drop f.kept after.window) in
    new ∙ ap (λ (x : Facts). length x.appended) told.facts

-- those that stayed are all that is remembered, and there is room for all that are seen
pub stayed_all : (before after : Sight) (f : FactsInCode) (last : LastSight) → IsTold before after f → HasPassed before (at_cycle (before.cycle + 1) after) last → length last.marks.items ≡ f.kept
stayed_all before after f last told passed =
    sym (length-map last.marks.items (λ (m : Mark). shown_in m.shown))
    ∙ ap (length {A = Shown}) (passed.window ∙ ap (λ (n : ℕ). take n after.window) (sym told.kept))
    ∙ length-take-le f.kept after.window (omega (arith, told.kept))

module _ (kind : Pipeline) (p : Params) (before after : Sight) (known : Known) (old mid new : Heads) (f : FactsInCode)
    (stands : StandsAt kind p before known old) (follows : Follows before after) (told : IsTold before after f)
    (passed : HasPassed before (at_cycle (before.cycle + 1) after) mid.last)
    (misses : misses_in mid.last.marks.items
    ≡ kept_misses old.last.pipeline old.last.params before.cycle (cycle_facts before after).kept (drop f.left (misses_in old.last.marks.items)))
    (origins : origins_in mid.last.marks.items ≡ take f.kept (drop f.left (origins_in old.last.marks.items)))
    (pipeline : mid.last.pipeline ≡ old.last.pipeline) (params : mid.last.params ≡ old.last.params) (refilled : mid.refill ≡ old.refill)
    (appended : HasAppended mid (cycle_facts before after) (drop f.kept after.window) new) where
  abbrev pub F : Facts
  F = cycle_facts before after

  seen_cycle : F.cycle ≡ before.cycle
  unfolding cycle_facts
  seen_cycle = refl

  seen_left : F.left ≡ take f.left before.window
  seen_left = ap (λ (x : Facts). x.left) (sym told.facts)

  seen_kept : F.kept ≡ pairs (drop f.left before.window) (take f.kept after.window)
  seen_kept = ap (λ (x : Facts). x.kept) (sym told.facts)

  seen_appended : F.appended ≡ drop f.kept after.window
  seen_appended = ap (λ (x : Facts). x.appended) (sym told.facts)

  kept_within : f.kept ≤ length after.window
  kept_within = omega (arith, told.kept)

  both_within : f.left + f.kept ≤ length before.window
  both_within = omega (arith, told.left, told.kept, follows.kept)

  left_length : length F.left ≡ f.left
  left_length = ap (length {A = Shown}) seen_left ∙ length-take-le f.left before.window (omega (arith, both_within))

  taken_length : length (take f.kept after.window) ≡ f.kept
  taken_length = length-take-le f.kept after.window kept_within

  kept_length : length F.kept ≡ f.kept
  kept_length =
      ap (length {A = Kept}) seen_kept
      ∙ pairs_length (drop f.left before.window) (take f.kept after.window) (omega (arith, taken_length, both_within, length-drop f.left before.window))
      ∙ taken_length

  last_is : new.last ≡ record mid.last { marks = record mid.last.marks { items = new.last.marks.items } }
  last_is = ap (λ (h : Heads). h.last) appended.rest

  same_pipeline : old.last.pipeline ≡ kind
  same_pipeline = stands.watches.pipeline

  same_params : old.last.params ≡ p
  same_params = stands.watches.params

  whole : window_in new.last.marks.items ≡ after.window
  whole =
      appended.window ∙ ap (λ (shown : List Shown). shown ++ drop f.kept after.window) (passed.window ∙ ap (λ (n : ℕ). take n after.window) (sym told.kept))
      ∙ take-append-drop f.kept after.window

  pub now_keeps : Keeps (at_cycle (before.cycle + 1) after) new.last
  now_keeps = record {
    cycle = ap (λ (l : LastSight). l.cycle) last_is ∙ passed.cycle;
    noted = record {
      retired = ap (λ (l : LastSight). l.retired) last_is ∙ passed.noted.retired;
      counts = ap (λ (l : LastSight). counts_in l.counts) last_is ∙ passed.noted.counts;
      resume = ap (λ (l : LastSight). l.resume) last_is ∙ passed.noted.resume;
      missing = ap (λ (l : LastSight). l.missing) last_is ∙ passed.noted.missing;
      waiting = ap (λ (l : LastSight). l.waiting) last_is ∙ passed.noted.waiting;
    };
    window = whole;
    room = record {
      marks = ap (λ (l : LastSight). l.marks.capacity) last_is ∙ passed.room.marks;
      loads = let e = ap (λ (l : LastSight). vec_capacity l.loads) last_is in omega (arith, e, passed.room.loads);
    };
  }

  now_watches : Watches kind p new.last
  now_watches = record {
    pipeline = ap (λ (l : LastSight). l.pipeline) last_is ∙ pipeline ∙ same_pipeline;
    params = ap (λ (l : LastSight). l.params) last_is ∙ params ∙ same_params;
  }

  now_misses : misses_in new.last.marks.items ≡ misses_after kind p F known.misses
  unfolding misses_after
  now_misses =
      appended.misses
      ∙ ap (λ (ms : List ℕ). ms ++ replicate (length (drop f.kept after.window)) 0) misses
      ∙ (λ i. kept_misses (same_pipeline i) (same_params i) (sym seen_cycle i) F.kept (drop (sym left_length i) (stands.knows.misses i))
      ++ replicate (length (sym seen_appended i)) 0)

  now_origins : origins_in new.last.marks.items ≡ origins_after p F known.refill known.origins
  unfolding origins_after
  now_origins =
      appended.origins
      ∙ ap (λ (os : List Charge). os ++ new_origins mid.last.params F (newest F (option_map charge_in mid.refill)) (drop f.kept after.window)) origins
      ∙ (λ i. take (sym kept_length i) (drop (sym left_length i) (stands.knows.origins i))
      ++ new_origins ((params ∙ same_params) i) F (newest F ((ap (option_map charge_in) refilled ∙ stands.knows.refill) i)) (sym seen_appended i))

  pub now_stands : (end : Heads) → end ≡ record new { refill = end.refill; holes = end.holes } → option_map charge_in end.refill ≡ refill_after F known.refill →
      (kind ≡ Inorder → holes_in end.holes ≡ holes_after F known.misses known.holes) →
      StandsAt kind p (at_cycle (before.cycle + 1) after) (known_after kind p F known) end
  unfolding known_after
  now_stands end is refill holes =
      let last : end.last ≡ new.last = ap (λ (h : Heads). h.last) is in
      record {
        watches = subst (λ (l : LastSight). Watches kind p l) (sym last) now_watches;
        keeps = subst (λ (l : LastSight). Keeps (at_cycle (before.cycle + 1) after) l) (sym last) now_keeps;
        knows = record {
          misses = ap (λ (l : LastSight). misses_in l.marks.items) last ∙ now_misses;
          origins = ap (λ (l : LastSight). origins_in l.marks.items) last ∙ now_origins;
          refill = refill;
          holes = λ inorder. holes (sym (now_watches.pipeline) ∙ ap (λ (l : LastSight). l.pipeline) (sym last) ∙ inorder);
        };
      }
