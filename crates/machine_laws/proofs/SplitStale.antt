-- Where no order waits and the place lacks its entry, a round drops an entry of an older epoch, or it finds the one.
use Rattle.std.proofs.Common.{◌≡◌, ℕ, ◌+◌, ◌≤◌, ◌<◌, nat_lt, ◌==◌, ◌&&◌, not, if◌then◌else◌, is_none, Bool, true, false, Option, Some, None, IfSome, List, [], ◌∷◌, ◌++◌, length, refl, ap, sym, ◌∙◌, subst, arith, length-append}
use Rattle.std.proofs.lemmas.Bool.{cond_both, cond-true, cond-false, lt-ltb, and_from, eq-eqb, not_from_false}
use Rattle.trace_entry.specs.declared.Entry.{Entry}
use Rattle.mono_model.specs.declared.setup.Setup.{Setup}
use Rattle.mono_model.specs.Path.{entry, openings}
use Rattle.mono_model.specs.Demand.{told}
use Rattle.mono_model.specs.Split.{Split, room, may_compute, on_compute, pushed, may_take, taken, on_take}

-- how many entries aren't of an epoch
abbrev pub stale : ℕ → List Entry → ℕ
stale epoch [] = 0
stale epoch (e ∷ es) = (if e.epoch == epoch then 0 else 1) + stale epoch es

one_most : (b : Bool) → (if b then 0 else 1) ≤ 1
one_most true = omega arith
one_most false = omega arith

pub stale_most : (epoch : ℕ) (es : List Entry) → stale epoch es ≤ length es
stale_most epoch [] = omega arith
stale_most epoch (e ∷ es) = omega (arith, one_most (e.epoch == epoch), stale_most epoch es)

stale_last : (epoch : ℕ) (es : List Entry) (c : Entry) → c.epoch ≡ epoch → stale epoch (es ++ c ∷ []) ≡ stale epoch es
stale_last epoch [] c at =
    let one : (if c.epoch == epoch then 0 else 1) ≡ 0 = cond-true {A = ℕ} (c.epoch == epoch) 0 1 (eq-eqb c.epoch epoch at) in
    omega (arith, one)
stale_last epoch (e ∷ es) c at = omega (arith, stale_last epoch es c at)

pub push_stale : (s : Setup) (epoch : ℕ) (c : Option Entry) (y : Split) → IfSome c (λ e. e.epoch ≡ epoch) → stale epoch (pushed s c y).entries ≤ stale epoch y.entries
push_stale s epoch None y at = omega arith
push_stale s epoch (Some e) y at =
    cond_both (nat_lt (length y.entries) s.ring) (record y { computed = None; entries = y.entries ++ e ∷ [] }) y (λ z. stale epoch z.entries ≤ stale epoch y.entries)
    (λ may. omega (arith, stale_last epoch y.entries e at)) (λ may. omega arith)

-- with an entry computed, the list has one behind a push
pub push_some : (s : Setup) (e : Entry) (y : Split) → 1 ≤ s.ring → 1 ≤ length (pushed s (Some e) y).entries
push_some s e y ring =
    cond_both (nat_lt (length y.entries) s.ring) (record y { computed = None; entries = y.entries ++ e ∷ [] }) y (λ z. 1 ≤ length z.entries)
    (λ may. omega (arith, length-append y.entries (e ∷ []))) (λ may. by_length y.entries may)
  where
    by_length : (l : List Entry) → nat_lt (length l) s.ring ≡ false → 1 ≤ length l
    by_length [] full = let less = lt-ltb 0 s.ring (omega arith) in cc
    by_length (a ∷ l) full = omega arith

-- and so it has where one may be computed
pub compute_some : (s : Setup) (c : Option Entry) (y : Split) → y.computed ≡ c → 1 ≤ s.ring → (c ≡ None → y.entries ≡ [] → (y.is_stopped ≡ false) × (y.position < y.committed_number + room s)) → 1 ≤ length (pushed s (on_compute s y).computed (on_compute s y)).entries
compute_some s (Some e) y is ring may =
    let same : on_compute s y ≡ y =
    cond-false (may_compute s y) (record y { computed = Some (entry s y.obeyed y.position); position = y.position + 1 }) y (ap (λ (c : Option Entry). is_none c && not y.is_stopped && nat_lt y.position (y.committed_number + room s)) is) in
    subst (λ (z : Split). 1 ≤ length (pushed s z.computed z).entries) (sym same) (subst (λ (c : Option Entry). 1 ≤ length (pushed s c y).entries) (sym is) (push_some s e y ring))
compute_some s None y is ring may = by_entries y.entries refl
  where
    by_entries : (l : List Entry) → y.entries ≡ l → 1 ≤ length (pushed s (on_compute s y).computed (on_compute s y)).entries
    by_entries [] none =
        let able = may refl none in
        let yes : may_compute s y ≡ true =
        and_from (is_none y.computed && not y.is_stopped) (nat_lt y.position (y.committed_number + room s))
        (and_from (is_none y.computed) (not y.is_stopped) (ap (λ (c : Option Entry). is_none c) is) (not_from_false y.is_stopped able.0)) (lt-ltb y.position (y.committed_number + room s) able.1) in
        let z = record y { computed = Some (entry s y.obeyed y.position); position = y.position + 1 } in
        subst (λ (z : Split). 1 ≤ length (pushed s z.computed z).entries) (sym (cond-true (may_compute s y) z y yes)) (push_some s (entry s y.obeyed y.position) z ring)
    by_entries (a ∷ l) some =
        cond_both (may_compute s y) (record y { computed = Some (entry s y.obeyed y.position); position = y.position + 1 }) y (λ z. 1 ≤ length (pushed s z.computed z).entries)
        (λ yes. push_some s (entry s y.obeyed y.position) (record y { computed = Some (entry s y.obeyed y.position); position = y.position + 1 }) ring)
        (λ no. subst (λ (c : Option Entry). 1 ≤ length (pushed s c y).entries) (sym is) (omega (arith, ap (λ (l : List Entry). length l) some)))

-- taking an entry of another epoch drops it
pub take_stale : (l : List Entry) (z : Split) → z.entries ≡ l → 1 ≤ length l → may_take z ≡ true → (on_take l z).held ≡ None → stale (openings (told z.place)) (on_take l z).entries < stale (openings (told z.place)) l
take_stale [] z e some may none = absurd (omega arith)
take_stale (a ∷ rest) z e some may none = by_epoch (a.epoch == openings (told z.place)) refl
  where
    E : ℕ
    E = openings (told z.place)

    takes : on_take (a ∷ rest) z ≡ taken a rest z
    takes = cond-true (may_take z) (taken a rest z) z may

    entries : stale E (on_take (a ∷ rest) z).entries ≡ stale E rest
    entries = ap (λ (y : Split). stale E y.entries) takes

    by_epoch : (b : Bool) → (a.epoch == E) ≡ b → stale E (on_take (a ∷ rest) z).entries < stale E (a ∷ rest)
    by_epoch true same =
        let held : (on_take (a ∷ rest) z).held ≡ Some a = ap (λ (y : Split). y.held) takes ∙ cond-true (a.epoch == E) (Some a) z.held same in
        absurd (cc)
    by_epoch false other =
        let one : (if a.epoch == E then 0 else 1) ≡ 1 = cond-false {A = ℕ} (a.epoch == E) 0 1 other in
        omega (arith, entries, one)
