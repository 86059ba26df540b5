-- Cycles in which nothing happens count nothing but themselves.
use Rattle.std.proofs.Common.{◌≡◌, ◌∙◌, ℕ, zero, suc, ◌+◌, ◌-◌, ◌≤◌, ◌<◌, ◌==◌, Bool, true, false, is_some, if◌then◌else◌, Some, None, List, [], ◌∷◌, ◌++◌, drop, length, take, refl, sym, ap, subst, arith, rules}
use Rattle.std.specs.Prelude.{All, filter_map, flat_map}
use Rattle.std.specs.List.{cons_option}
use Rattle.std.specs.Option.{option_map_or}
use Rattle.std.proofs.lemmas.List.{drop_all, take_all}
use Rattle.elf_image.specs.declared.image.Image.{Image}
use Rattle.mono_model.specs.declared.params.Params.{Params}
use Rattle.mono_model.specs.Setup.{caches_params}
use Rattle.insight_model.specs.declared.pipeline.Pipeline.TheVariants.{Window}
use Rattle.insight_model.specs.Cause.{Charge}
use Rattle.insight_model.specs.Sight.{Shown, Sight, ram_load}
use Rattle.insight_model.specs.Facts.{Facts, facts as cycle_facts, has_stopped, pairs, window_before}
use Rattle.insight_model.specs.Accesses.{CacheAccess, accesses, fetch_access, load_access, loads as loads_from}
use Rattle.insight_model.specs.Head.{Known, head}
use Rattle.insight_model.specs.Cycles.{Cycle, cycles_from, known_after}
use Rattle.insight_model.specs.Profile.{Column, Event, amount_in, column_place, cycle_events, events_at, fetched, own_events, row_of, spent, squashed}
use Rattle.cycle_watch.specs.declared.charge.Charge.{Charge as ChargeInCode}
use Rattle.cycle_watch.specs.declared.heads.Heads.{Heads}
use Rattle.cycle_watch.specs.declared.profile.Profiling.{Profiling}
use Rattle.cycle_watch.specs.Facts.{at_cycle, charge_in, idle}
use Rattle.cycle_watch.specs.Known.{StandsAt}
use Rattle.cycle_watch.specs.Passing.{HasNoTurn, idle_between, idle_facts}
use Rattle.cycle_watch.specs.Profiled.{IsProfileOf, Passes, run_accesses, run_appended, spent_event}
use Rattle.cycle_watch.proofs.Alike.{idle_seen, not_begun}
use Rattle.cycle_watch.proofs.Between.{as_many, cycles_count, facts_count, later_facts, no_turns}
use Rattle.cycle_watch.proofs.Idling.{NoTurns, head_same, idle_before, idle_facts_are}
use Rattle.cycle_watch.proofs.Lasting.{Fits, SameKnown, known_idle, same_known}
use Rattle.cycle_watch.proofs.ProfileMore.{profile_more}
use Rattle.cycle_watch.proofs.RowEvents.{CountSame, both}

-- in such a cycle nothing is accessed, nothing is appended, and it is counted alone
pub record IsQuiet (head : ChargeInCode) (cycle : Cycle) : Type 0 where
  pub events : (image : Image) → cycle_events image cycle ≡ spent_event image head 1 ∷ []
  pub accesses : accesses Window cycle.facts ≡ []
  pub appended : cycle.facts.appended ≡ []
  pub few : length (window_before cycle.facts) ≤ 256

abbrev pub AreQuiet : ChargeInCode → List Cycle → Type 0
AreQuiet head [] = Unit {0}
AreQuiet head (cycle ∷ rest) = IsQuiet head cycle × AreQuiet head rest

no_loads : (xs : List Shown) → filter_map (load_access Window) (pairs xs xs) ≡ []
no_loads [] = refl
no_loads (x ∷ xs) =
    ap (λ (b : Bool). cons_option (option_map_or (λ addr. Some (record { by = x.addr; what = loads_from addr })) (if b then ram_load x else None) None) (filter_map (load_access Window) (pairs xs xs))) (not_begun x.progress)
    ∙ no_loads xs

none_fetched : (b : Bool) → filter_map fetch_access (if b then drop 1 [] else []) ≡ []
none_fetched true = refl
none_fetched false = refl

module _ (s : Sight) where
  none_new : drop (length s.window) s.window ≡ []
  none_new = drop_all (length s.window) s.window (omega arith)

  all_still : take (length s.window) s.window ≡ s.window
  all_still = take_all (length s.window) s.window (omega arith)

  idle_accesses : accesses Window (idle_seen s) ≡ []
  unfolding accesses
  idle_accesses =
      (λ i. filter_map (load_access Window) (pairs s.window (all_still i)) ++ filter_map fetch_access (if is_some s.missing then drop 1 (none_new i) else none_new i) ++ [])
      ∙ (λ i. no_loads s.window i ++ none_fetched (is_some s.missing) i ++ [])

  idle_events : (image : Image) (head : ChargeInCode) → cycle_events image (record { facts = idle_seen s; head = charge_in head }) ≡ spent_event image head 1 ∷ []
  unfolding cycle_events
  idle_events image charge =
      let none : List Event → List Event → List Event = λ xs ys. spent_event image charge 1 ∷ [] ++ [] ++ xs ++ [] ++ ys in
      (λ i. none (events_at image squashed (none_new i)) (events_at image fetched (none_new i)))

  pub is_quiet : (head : ChargeInCode) (f : Facts) (charge : Charge) → f ≡ idle_seen s → charge_in head ≡ charge → length s.window ≤ 256 → IsQuiet head (record { facts = f; head = charge })
  is_quiet head f charge are charged within =
      let Q : Facts → Charge → Type 0 = λ g c. IsQuiet head (record { facts = g; head = c }) in
      let window : length (window_before (idle_seen s)) ≡ length s.window = ap (length {A = Shown}) (idle_before s) in
      let quiet : Q (idle_seen s) (charge_in head) = record {
        events = λ image. idle_events image head;
        accesses = idle_accesses;
        appended = none_new;
        few = omega (arith, window, within);
      } in
      subst (λ (g : Facts). Q g charge) (sym are) (subst (λ (c : Charge). Q (idle_seen s) c) charged quiet)

-- so many cycles, one after another
module _ (p : Params) (b : Sight) (first : Known) (from end : ℕ) (head_in : ChargeInCode) (still : NoTurns p b first from end) (fits : Fits b first) (within : length b.window ≤ 256)
    (charged : charge_in head_in ≡ head Window p (cycle_facts (at_cycle from b) (idle (at_cycle from b))) first) where
  pub quiet_alike : (more c : ℕ) (known : Known) → from ≤ c → c + more ≤ end → SameKnown known first → AreQuiet head_in (cycles_from Window p known (idle_facts more (at_cycle c b)))
  unfolding cycles_from
  quiet_alike zero c known since fit same = tt
  quiet_alike (suc more) c known since fit same =
      let below : c < end = omega (arith, fit) in
      let s : Sight = at_cycle c b in
      let own : IsQuiet head_in (record { facts = cycle_facts s (idle s); head = head Window p (cycle_facts s (idle s)) known }) =
      is_quiet s head_in (cycle_facts s (idle s)) (head Window p (cycle_facts s (idle s)) known) (idle_facts_are s still.goes)
      (charged ∙ sym (head_same p b first known from end c since below still same.misses same.origins)) within in
      let next = known_after Window p (cycle_facts s (idle s)) known in
      let later : SameKnown next first = same_known next known first (known_idle p s known still.goes (record {
        misses = ap (length {A = ℕ}) same.misses ∙ fits.misses;
        origins = ap (length {A = Charge}) same.origins ∙ fits.origins;
      })) same in
      let one : c + 1 + more ≤ end = omega (arith, fit) in
      (own, quiet_alike more (c + 1) next (omega (arith, since)) one later)

-- What they count, as one event.
module _ (image : Image) (head_in : ChargeInCode) where
  abbrev many : ℕ → Event
  many n = spent_event image head_in n

  amount_many : (row : ℕ) (column : Column) (m n k : ℕ) → k ≡ m + n →
      amount_in column (own_events row (many k ∷ [])) ≡ amount_in column (own_events row (many m ∷ [])) + amount_in column (own_events row (many n ∷ []))
  amount_many row column m n k is = by (row_of image head_in.addr == row)
    where
      on : (d : Bool) → 0 + (if d then k else 0) ≡ 0 + (if d then m else 0) + (0 + (if d then n else 0))
      on true = omega (arith, is)
      on false = refl

      by : (b : Bool) → amount_in column (if b then many k ∷ [] else []) ≡ amount_in column (if b then many m ∷ [] else []) + amount_in column (if b then many n ∷ [] else [])
      by true = on (column_place (spent head_in.cause) == column_place column)
      by false = refl

  none_many : (row : ℕ) (column : Column) → amount_in column (own_events row (many 0 ∷ [])) ≡ 0
  none_many row column = by (row_of image head_in.addr == row)
    where
      zeros : (d : Bool) → 0 + (if d then 0 else 0) ≡ 0
      zeros true = refl
      zeros false = refl

      by : (b : Bool) → amount_in column (if b then many 0 ∷ [] else []) ≡ 0
      by true = zeros (column_place (spent head_in.cause) == column_place column)
      by false = refl

  counted_as_one : (more : List Cycle) → AreQuiet head_in more → CountSame (many (length more) ∷ []) (flat_map (cycle_events image) more)
  counted_as_one [] all = record { each = λ row column. none_many row column }
  counted_as_one (cycle ∷ rest) all =
      let others = counted_as_one rest all.1 in
      record {
        each = λ row column.
            let own : amount_in column (own_events row (cycle_events image cycle)) ≡ amount_in column (own_events row (many 1 ∷ [])) = ap (λ (es : List Event). amount_in column (own_events row es)) (all.0.events image) in
            omega (arith, both row column (cycle_events image cycle) (flat_map (cycle_events image) rest), own, others.each row column, amount_many row column 1 (length rest) (suc (length rest)) (omega arith));
      }

quiet_accesses : (head_in : ChargeInCode) (more : List Cycle) → AreQuiet head_in more → [] ≡ run_accesses Window more
quiet_accesses head_in [] all = refl
quiet_accesses head_in (cycle ∷ rest) all = quiet_accesses head_in rest all.1 ∙ ap (λ (xs : List CacheAccess). xs ++ run_accesses Window rest) (sym all.0.accesses)

quiet_appended : (head_in : ChargeInCode) (more : List Cycle) → AreQuiet head_in more → [] ≡ run_appended more
quiet_appended head_in [] all = refl
quiet_appended head_in (cycle ∷ rest) all = quiet_appended head_in rest all.1 ∙ ap (λ (xs : List Shown). xs ++ run_appended rest) (sym all.0.appended)

quiet_few : (head_in : ChargeInCode) (more : List Cycle) → AreQuiet head_in more → All (λ cycle. length (window_before cycle.facts) ≤ 256) more
quiet_few head_in [] all = search rules
quiet_few head_in (cycle ∷ rest) all = let own = all.0.few in let others = quiet_few head_in rest all.1 in search rules

quiet_new : (head_in : ChargeInCode) (more : List Cycle) → AreQuiet head_in more → All (λ cycle. length cycle.facts.appended ≤ 256) more
quiet_new head_in [] all = search rules
quiet_new head_in (cycle ∷ rest) all =
    let none : length cycle.facts.appended ≡ 0 = ap (length {A = Shown}) all.0.appended in
    let own : length cycle.facts.appended ≤ 256 = omega (arith, none) in
    let others = quiet_new head_in rest all.1 in search rules

-- a profile of some cycles, and of those that are alike
pub profiled_alike : (image : Image) (p : Params) (cycle to : ℕ) (after : Sight) (known : Known) (heads : Heads) (head_in : ChargeInCode) (old new : Profiling) →
    StandsAt Window p (at_cycle cycle after) known heads → cycle < to → 0 < cycle → has_stopped after.end ≡ false → length after.window ≤ 256 → HasNoTurn heads.last to →
    charge_in head_in ≡ head Window p (cycle_facts (at_cycle cycle after) after) known → (run : List Cycle) → IsProfileOf image (caches_params p) Window run old →
    Passes (λ image. spent_event image head_in (to - cycle) ∷ []) [] [] old new →
    IsProfileOf image (caches_params p) Window (run ++ cycles_from Window p known (idle_between cycle to after)) new
profiled_alike image p cycle to after known heads head_in old new stands order started goes within none charged run is passes =
    let more = cycles_from Window p known (idle_between cycle to after) in
    let fits = as_many p cycle after known heads stands in
    let quiet : AreQuiet head_in more =
    quiet_alike p after known cycle to head_in (no_turns p cycle after known heads stands to started goes none) fits within
    (charged ∙ ap (λ (x : Facts). head Window p x known) (sym (later_facts cycle after)))
    (to - cycle) cycle known (omega arith) (omega (arith, order)) (record { misses = refl; origins = refl; refill = refl }) in
    let count : length more ≡ to - cycle = cycles_count Window p known (idle_between cycle to after) ∙ facts_count (to - cycle) (at_cycle cycle after) in
    let C : ℕ → Type 0 = λ n. CountSame (spent_event image head_in n ∷ []) (flat_map (cycle_events image) more) in
    profile_more image (caches_params p) Window run more old new (λ image. spent_event image head_in (to - cycle) ∷ []) [] [] is passes (subst C count (counted_as_one image head_in more quiet))
    (quiet_accesses head_in more quiet) (quiet_appended head_in more quiet) (quiet_few head_in more quiet) (quiet_new head_in more quiet)
