-- What a cycle is charged to, by what the code keeps of the instructions under way.
use Rattle.std.proofs.Common.{◌≡◌, ◌∙◌, ℕ, ◌+◌, ◌-◌, ◌≤◌, ◌==◌, ◌||◌, Bool, true, false, is_some, if◌then◌else◌, Option, Some, None, List, [], ◌∷◌, ◌++◌, drop, length, length-drop, length-take, map, take, refl, sym, ap, arith}
use Rattle.std.specs.Prelude.{option_map, slice_get, slice_index, slice_index_or, unwrap_or}
use Rattle.std.proofs.lemmas.Option.{same_Some, slice_get-map}
use Rattle.mono_model.specs.declared.params.Params.{Params}
use Rattle.std.specs.List.{last_or}
use Rattle.std.specs.Option.{option_map_or}
use Rattle.insight_model.specs.declared.pipeline.Pipeline.{Pipeline}
use Rattle.insight_model.specs.declared.cycle_cause.CycleCause.TheVariants as cause
use Rattle.insight_model.specs.declared.fetch_end.FetchEnd.{FetchEnd}
use Rattle.insight_model.specs.declared.fetch_end.FetchEnd.TheVariants.{Width, Taken, Window, Stations, Icache, Ended}
use Rattle.insight_model.specs.Fetch.{fetch_end, fetch_width, is_full, is_predicted_elsewhere}
use Rattle.insight_model.specs.Cause.{Charge, charge}
use Rattle.insight_model.specs.Sight.{Shown, Sight, access_shown, class_shown, is_done_at}
use Rattle.insight_model.specs.Facts.{Facts, facts as cycle_facts, window_after, window_before}
use Rattle.insight_model.specs.Hole.{class_cause}
use Rattle.insight_model.specs.Head.{Known, head, inorder_head, is_missing_at, is_young, latest, oldest_head, undone_head, uninterrupted_head, window_head}
use Rattle.cycle_watch.specs.declared.facts.Facts.{Facts as FactsInCode}
use Rattle.cycle_watch.specs.declared.mark.Mark.{Mark}
use Rattle.cycle_watch.specs.Shown.{shown_in}
use Rattle.cycle_watch.specs.Facts.{Follows, IsTold, charge_in, window_in}
use Rattle.cycle_watch.specs.Known.{misses_in, oldest_head_by, origins_in, undone_head_by}
use Rattle.cycle_watch.proofs.Windows.{latest_pair, window_after_whole, window_whole}

module _ (before after : Sight) (f : FactsInCode) (told : IsTold before after f) (follows : Follows before after) where
  kept_within : f.kept ≤ length after.window
  kept_within = omega (arith, told.kept)

  both_within : f.left + f.kept ≤ length before.window
  both_within = omega (arith, told.left, told.kept, follows.kept)

  pub told_before : window_before (cycle_facts before after) ≡ before.window
  told_before = ap window_before (sym told.facts) ∙ window_whole before.window after.window f.left f.kept kept_within

  pub told_after : window_after (cycle_facts before after) ≡ after.window
  told_after = ap window_after (sym told.facts) ∙ window_after_whole before.window after.window f.left f.kept both_within

  pub told_latest : (oldest : Shown) → latest (cycle_facts before after) oldest ≡ unwrap_or (slice_get (take f.kept after.window) 0) oldest
  told_latest oldest =
      ap (λ (x : Facts). latest x oldest) (sym told.facts)
      ∙ latest_pair (drop f.left before.window) (take f.kept after.window) oldest
      (omega (arith, both_within, kept_within, length-take f.kept after.window, length-drop f.left before.window))

-- the first of them
pub first_of_map : {A : Type 0} (f : A → ℕ) (xs : List A) (x : A) → slice_get xs 0 ≡ Some x → slice_index (map f xs) 0 ≡ f x
first_of_map f [] x is = cc
first_of_map f (a ∷ xs) x is = cc

pub first_or_of_map : {A B : Type 0} (f : A → B) (xs : List A) (x : A) (d : B) → slice_get xs 0 ≡ Some x → slice_index_or (map f xs) 0 d ≡ f x
first_or_of_map f [] x d is = cc
first_or_of_map f (a ∷ xs) x d is = cc

pub none_first : {A : Type 0} (xs : List A) → slice_get xs 0 ≡ None → xs ≡ []
none_first [] is = refl
none_first (x ∷ xs) is = cc

pub head_of_none : (p : Params) (f : Facts) (known : Known) (w : List Shown) → w ≡ [] → window_head p f known w ≡ charge (if f.cycle == 0 then cause.Start else cause.Icache) f.fetch_at
head_of_none p f known w is = ap (window_head p f known) is

pub head_of_oldest : (p : Params) (f : Facts) (known : Known) (w : List Shown) (oldest : Shown) → slice_get w 0 ≡ Some oldest → window_head p f known w ≡ oldest_head p f known oldest
head_of_oldest p f known [] oldest is = cc
head_of_oldest p f known (o ∷ rest) oldest is = let e : o ≡ oldest = cc in ap (oldest_head p f known) e

-- one that isn't done
pub undone_is : (p : Params) (f : Facts) (known : Known) (marks : List Mark) (mark : Mark) (seen : Shown) → slice_get marks 0 ≡ Some mark →
    misses_in marks ≡ known.misses → origins_in marks ≡ known.origins → latest f (shown_in mark.shown) ≡ seen →
    undone_head p f known (shown_in mark.shown) ≡ undone_head_by p f.cycle mark seen
undone_is p f known marks mark seen first misses origins at =
    let oldest = shown_in mark.shown in
    let miss : slice_index known.misses 0 ≡ mark.miss = ap (λ (ms : List ℕ). slice_index ms 0) (sym misses) ∙ first_of_map (λ (m : Mark). m.miss) marks mark first in
    let origin : slice_index_or known.origins 0 (charge cause.Start oldest.addr) ≡ charge_in mark.origin =
    ap (λ (os : List Charge). slice_index_or os 0 (charge cause.Start oldest.addr)) (sym origins)
    ∙ first_or_of_map (λ (m : Mark). charge_in m.origin) marks mark (charge cause.Start oldest.addr) first in
    λ i. if is_young p f.cycle oldest then origin i
    else charge (if is_missing_at f.cycle (miss i) oldest.progress then cause.Dcache else class_cause (class_shown oldest) (access_shown (at i))) oldest.addr

pub oldest_is : (p : Params) (f : Facts) (known : Known) (code : FactsInCode) (marks : List Mark) (mark : Mark) (seen : Shown) → slice_get marks 0 ≡ Some mark →
    misses_in marks ≡ known.misses → origins_in marks ≡ known.origins → latest f (shown_in mark.shown) ≡ seen → code.cycle ≡ f.cycle → code.replayed ≡ f.replayed →
    oldest_head p f known (shown_in mark.shown) ≡ oldest_head_by p code mark seen
oldest_is p f known code marks mark seen first misses origins at cycle replayed =
    λ i. if is_done_at (shown_in mark.shown).progress then charge cause.Commit mark.shown.addr
    else (if sym replayed i then charge cause.Replay mark.shown.addr
    else (undone_is p f known marks mark seen first misses origins at ∙ ap (λ (c : ℕ). undone_head_by p c mark seen) (sym cycle)) i)

-- why fetch ended: the first test that holds
abbrev pub end_by : Bool → Bool → Bool → Bool → Bool → FetchEnd
end_by stopped waits wide taken full =
    if stopped then Ended else (if waits then Icache else (if wide then Width else (if taken then Taken else (if full then Window else Stations))))

pub end_is : (kind : Pipeline) (p : Params) (f : Facts) (stopped waits wide taken full : Bool) → f.stopped ≡ stopped → (is_some f.missed || f.waited) ≡ waits →
    (length f.appended == fetch_width kind p) ≡ wide → option_map_or is_predicted_elsewhere (last_or None f.appended) false ≡ taken → is_full kind p f ≡ full →
    fetch_end kind p f ≡ end_by stopped waits wide taken full
unfolding fetch_end
end_is kind p f stopped waits wide taken full s w l t u = λ i. end_by (s i) (w i) (l i) (t i) (u i)

-- what a cycle is charged to
pub head_interrupted : (kind : Pipeline) (p : Params) (f : Facts) (known : Known) → f.interrupted ≡ true → head kind p f known ≡ charge cause.Interrupt f.fetch_at
unfolding head
head_interrupted kind p f known is = ap (λ (b : Bool). if b then charge cause.Interrupt f.fetch_at else uninterrupted_head kind p f known) is

pub head_going : (kind : Pipeline) (p : Params) (f : Facts) (known : Known) → f.interrupted ≡ false → head kind p f known ≡ uninterrupted_head kind p f known
unfolding head
head_going kind p f known is = ap (λ (b : Bool). if b then charge cause.Interrupt f.fetch_at else uninterrupted_head kind p f known) is

-- the oldest, as it was seen
pub oldest_seen : (marks : List Mark) (w : List Shown) (mark : Mark) → window_in marks ≡ w → slice_get marks 0 ≡ Some mark → slice_get w 0 ≡ Some (shown_in mark.shown)
oldest_seen marks w mark are first =
    ap (λ (v : List Shown). slice_get v 0) (sym are) ∙ slice_get-map (λ (m : Mark). shown_in m.shown) marks 0 ∙ ap (option_map (λ (m : Mark). shown_in m.shown)) first

-- why fetch ended, by what the code tells
pub end_of : (kind : Pipeline) (p : Params) (before after : Sight) (f : FactsInCode) (stopped waits wide taken full : Bool) → IsTold before after f → Follows before after →
    f.stopped ≡ stopped → (is_some f.missed || f.waited) ≡ waits → (f.appended == fetch_width kind p) ≡ wide →
    option_map_or is_predicted_elsewhere (last_or None (drop (length after.window - f.appended) after.window)) false ≡ taken → is_full kind p (cycle_facts before after) ≡ full →
    fetch_end kind p (cycle_facts before after) ≡ end_by stopped waits wide taken full
end_of kind p before after f stopped waits wide taken full told follows s w l t u =
    let count : length (drop f.kept after.window) ≡ f.appended = omega (arith, told.appended, told.kept, follows.appended, length-drop f.kept after.window) in
    let place : f.kept ≡ length after.window - f.appended = omega (arith, told.appended, told.kept) in
    end_is kind p (cycle_facts before after) stopped waits wide taken full
    (ap (λ (x : Facts). x.stopped) (sym told.facts) ∙ s)
    (ap (λ (x : Facts). is_some x.missed || x.waited) (sym told.facts) ∙ w)
    (ap (λ (x : Facts). length x.appended == fetch_width kind p) (sym told.facts) ∙ ap (λ (n : ℕ). n == fetch_width kind p) count ∙ l)
    (ap (λ (x : Facts). option_map_or is_predicted_elsewhere (last_or None x.appended) false) (sym told.facts)
    ∙ ap (λ (n : ℕ). option_map_or is_predicted_elsewhere (last_or None (drop n after.window)) false) place ∙ t)
    u

-- in order
pub inorder_done : (known : Known) (marks : List Mark) (mark : Mark) → slice_get marks 0 ≡ Some mark → is_done_at (shown_in mark.shown).progress ≡ true →
    inorder_head known (window_in marks) ≡ charge cause.Commit mark.shown.addr
inorder_done known [] mark first is = cc
inorder_done known (m ∷ marks) mark first is =
    let same : m ≡ mark = same_Some m mark first in
    (λ i. if is_done_at (shown_in (same i).shown).progress then charge cause.Commit (same i).shown.addr else known.holes.write)
    ∙ ap (λ (b : Bool). if b then charge cause.Commit mark.shown.addr else known.holes.write) is

pub inorder_held : (known : Known) (marks : List Mark) (mark : Mark) → slice_get marks 0 ≡ Some mark → is_done_at (shown_in mark.shown).progress ≡ false →
    inorder_head known (window_in marks) ≡ known.holes.write
inorder_held known [] mark first is = cc
inorder_held known (m ∷ marks) mark first is =
    let same : m ≡ mark = same_Some m mark first in
    (λ i. if is_done_at (shown_in (same i).shown).progress then charge cause.Commit (same i).shown.addr else known.holes.write)
    ∙ ap (λ (b : Bool). if b then charge cause.Commit mark.shown.addr else known.holes.write) is
