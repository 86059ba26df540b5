-- The table of producers: what is read of it, and how it changes.
use Rattle.std.proofs.Common.{◌≡◌, ℕ, ◌<◌, Bool, true, false, if◌then◌else◌, Option, Some, None, IfSome, List, [], ◌∷◌, length, get_or, is_some, refl, ap, sym, ◌∙◌, inl, inr, eq-eqb, subst, arith}
use Rattle.std.specs.Option.{ForSome}
use Rattle.std.proofs.lemmas.Bool.{cases_eq, ne_eqb, eqb-true, both_ways}
use Rattle.std.proofs.lemmas.List.{get_or-set_same, get_or-set_other, length-set}
use Rattle.std.proofs.lemmas.Option.{same_Some}
use Rattle.reservation_stations.specs.declared.row.Row.{Row}
use Rattle.reservation_stations.specs.Readiness.{is_done, is_register}
use Rattle.reservation_stations.specs.AreTables.{AreProducers, Each, stations_at, unfinished, awaited}
use Rattle.reservation_stations.specs.Changes.{without, with_producer, producer_at}
use Rattle.reservation_stations.specs.Places.{is_index}
use Rattle.reservation_stations.specs.Numbers.{number_of}

-- with another one of a register
register_is : (register : ℕ) (destination : Option ℕ) → is_register register destination ≡ true → destination ≡ Some register
register_is register None is = absurd cc
register_is register (Some other) is = ap Some (eqb-true other register is)

pub get_or-with_producer : (destination value : Option ℕ) (producers : List (Option ℕ)) (register : ℕ) → length producers ≡ 258 → register < 256 →
    get_or (with_producer destination value producers) register None ≡ (if is_register register destination then value else get_or producers register None)
get_or-with_producer None value producers register long within =
    get_or-set_other producers 257 register value None (λ (e : register ≡ 257). absurd (omega (arith, e, within)))
get_or-with_producer (Some other) value producers register long within = elim (cases_eq other register) [
  | inl same ↦ rw (eq-eqb other register same, same) (get_or-set_same producers register value None (omega (arith, long, within)))
  | inr differ ↦ rw (ne_eqb other register differ) (get_or-set_other producers other register value None (λ e. differ (sym e)))
]

pub length-with_producer : (destination value : Option ℕ) (producers : List (Option ℕ)) → length (with_producer destination value producers) ≡ length producers
length-with_producer destination value producers = length-set producers (number_of 257 destination) value

-- what holds of each index holds of one that is awaited
held_by : (P : ℕ → Type 0) (index : ℕ) (is done : Bool) (o : Option ℕ) → P index → IfSome o P → IfSome (if is then (if done then None else Some index) else o) P
held_by P index true true o here rest = tt
held_by P index true false o here rest = here
held_by P index false done o here rest = rest

unfinished-held : (at : ℕ → Row) (P : ℕ → Type 0) (indices : List ℕ) (register : ℕ) → Each P indices → IfSome (unfinished (stations_at at indices) register) P
unfinished-held at P [] register each = tt
unfinished-held at P (index ∷ indices) register each =
    held_by P index (is_register register (at index).registers.destination) (is_done (at index).mark) (unfinished (stations_at at indices) register) each.0 (unfinished-held at P indices register each.1)

for_some : (o : Option ℕ) (P : ℕ → Type 0) → IfSome o P → ForSome o P
for_some None P holds index is = absurd cc
for_some (Some other) P holds index is = subst P (same_Some other index is) holds

pub awaited-held : (at : ℕ → Row) (P : ℕ → Type 0) (indices : List ℕ) (source : Option ℕ) → Each P indices → ForSome (awaited (stations_at at indices) source) P
awaited-held at P indices None each = for_some None P tt
awaited-held at P indices (Some register) each = for_some (unfinished (stations_at at indices) register) P (unfinished-held at P indices register each)

-- a producer writes its register
writes_by : (at : ℕ → Row) (register index other : ℕ) (is done : Bool) (rest : Option ℕ) → is_register register (at other).registers.destination ≡ is →
    (if is then (if done then None else Some other) else rest) ≡ Some index → (rest ≡ Some index → is_register register (at index).registers.destination ≡ true) →
    is_register register (at index).registers.destination ≡ true
writes_by at register index other true true rest writes found behind = absurd cc
writes_by at register index other true false rest writes found behind = subst (λ s. is_register register (at s).registers.destination ≡ true) (same_Some other index found) writes
writes_by at register index other false done rest writes found behind = behind found

unfinished-writes : (at : ℕ → Row) (indices : List ℕ) (register index : ℕ) → unfinished (stations_at at indices) register ≡ Some index →
    is_register register (at index).registers.destination ≡ true
unfinished-writes at [] register index is = absurd cc
unfinished-writes at (other ∷ indices) register index is =
    writes_by at register index other (is_register register (at other).registers.destination) (is_done (at other).mark) (unfinished (stations_at at indices) register) refl is (unfinished-writes at indices register index)

-- without an index, at the place of its register
without-other : (index : ℕ) (table : Option ℕ) → (table ≡ Some index → ⊥) → table ≡ without index table
without-other index None other = refl
without-other index (Some producer) other = elim (cases_eq producer index) [
  | inl is ↦ absurd (other (ap Some is))
  | inr differ ↦ rw (ne_eqb producer index differ) refl
]

module _ (at : ℕ → Row) (indices : List ℕ) (producers : List (Option ℕ)) (long : length producers ≡ 258) (are : AreProducers producers (stations_at at indices)) (index : ℕ) where
  table_by : (register : ℕ) → register < 256 → (b : Bool) → is_register register (at index).registers.destination ≡ b →
      (if b then without index (producer_at producers (at index).registers.destination) else get_or producers register None) ≡ without index (get_or producers register None)
  table_by register within true is = ap (λ d. without index (producer_at producers d)) (register_is register (at index).registers.destination is)
  table_by register within false is =
      without-other index (get_or producers register None)
      (λ here. both_ways (is_register register (at index).registers.destination) is (unfinished-writes at indices register index (sym (are register within) ∙ here)))

  pub get_or-dropped : (register : ℕ) → register < 256 →
      get_or (with_producer (at index).registers.destination (without index (producer_at producers (at index).registers.destination)) producers) register None ≡ without index (get_or producers register None)
  get_or-dropped register within =
      get_or-with_producer (at index).registers.destination (without index (producer_at producers (at index).registers.destination)) producers register long within
      ∙ table_by register within (is_register register (at index).registers.destination) refl

-- none awaits one that is done
still_other : (index other : ℕ) (at : ℕ → Row) (is done : Bool) (rest : Option ℕ) → is_done (at other).mark ≡ done → is_done (at index).mark ≡ true → is_index index rest ≡ false →
    is_index index (if is then (if done then None else Some other) else rest) ≡ false
still_other index other at true true rest is mine behind = refl
still_other index other at true false rest is mine behind = ne_eqb index other (λ same. let e : true ≡ false = sym mine ∙ ap (λ s. is_done (at s).mark) same ∙ is in cc)
still_other index other at false done rest is mine behind = behind

pub not_unfinished : (index : ℕ) (at : ℕ → Row) (older : List ℕ) (register : ℕ) → is_done (at index).mark ≡ true → is_index index (unfinished (stations_at at older) register) ≡ false
not_unfinished index at [] register done = refl
not_unfinished index at (other ∷ older) register done =
    still_other index other at (is_register register (at other).registers.destination) (is_done (at other).mark) (unfinished (stations_at at older) register) refl done (not_unfinished index at older register done)

pub not_awaited : (index : ℕ) (at : ℕ → Row) (older : List ℕ) (source : Option ℕ) → is_done (at index).mark ≡ true → is_index index (awaited (stations_at at older) source) ≡ false
not_awaited index at older None done = refl
not_awaited index at older (Some register) done = not_unfinished index at older register done

-- none awaits one that writes no register
writes : (register : ℕ) (destination : Option ℕ) → is_register register destination ≡ true → is_some destination ≡ true
writes register None is = is
writes register (Some other) is = refl

never_other : (index other : ℕ) (at : ℕ → Row) (register : ℕ) (is done : Bool) (rest : Option ℕ) → is_register register (at other).registers.destination ≡ is →
    is_some (at index).registers.destination ≡ false → is_index index rest ≡ false → is_index index (if is then (if done then None else Some other) else rest) ≡ false
never_other index other at register true true rest is mine behind = refl
never_other index other at register true false rest is mine behind =
    ne_eqb index other (λ same. let e : true ≡ false = sym (writes register (at other).registers.destination is) ∙ ap (λ s. is_some (at s).registers.destination) (sym same) ∙ mine in cc)
never_other index other at register false done rest is mine behind = behind

pub never_unfinished : (index : ℕ) (at : ℕ → Row) (older : List ℕ) (register : ℕ) → is_some (at index).registers.destination ≡ false →
    is_index index (unfinished (stations_at at older) register) ≡ false
never_unfinished index at [] register mine = refl
never_unfinished index at (other ∷ older) register mine =
    never_other index other at register (is_register register (at other).registers.destination) (is_done (at other).mark) (unfinished (stations_at at older) register) refl mine
    (never_unfinished index at older register mine)

pub never_awaited : (index : ℕ) (at : ℕ → Row) (older : List ℕ) (source : Option ℕ) → is_some (at index).registers.destination ≡ false →
    is_index index (awaited (stations_at at older) source) ≡ false
never_awaited index at older None mine = refl
never_awaited index at older (Some register) mine = never_unfinished index at older register mine
