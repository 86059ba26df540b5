-- Each step at a count keeps its rule.
use Rattle.std.proofs.Common.{◌≡◌, ◌⊎◌, ℕ, ◌≤◌, List, [], ◌∷◌, ◌++◌, length, set, get_or, refl, sym, ap, subst, ◌∙◌, arith, inl, inr, length-set, get_or-set_same, le_refl, le_trans}
use mathlib.Core.Option.{some}
use lib.ListN.{get_elem?}
use Rattle.atomic_table.specs.Table.{State, Me, Act, keeps, Valid, stepped, Allows, Splits}
use Rattle.trace_ring.specs.declared.role.Role.TheVariants.{Alone, Pushes, Takes}
use Rattle.trace_ring.specs.declared.count.CountView.{CountView}
use Rattle.trace_ring.specs.Count.{count_view, count_fresh, CountBetween, Counted}
use Rattle.trace_ring.proofs.Two.{one_of, lone}

abbrev Known : Type 0
Known = Me (Unit {0}) CountView

-- a number is told
pub tells : (slots id : ℕ) (me : Known) (n : ℕ) → me.0.role ≡ Takes → me.0.count ≤ n
    → Allows Counted slots id me 8 (λ _. n) (λ _ m. m.0 ≡ count_view Takes n)
tells slots id me n role up s r many at word =
    (count_view Takes n, keeps, tt, record { wide = length-set s.words 8 n ∙ r.wide; told = by r.told }, refl)
  where
    here : get_or (set s.words 8 n) 8 0 ≡ n
    here = let wide = r.wide in get_or-set_same s.words 8 n 0 (omega arith)

    by : ((s.views ≡ count_fresh ∷ []) × (get_or s.words 8 0 ≡ 0)) ⊎ CountBetween (get_or s.words 8 0) s.views
        → ((set s.views id (count_view Takes n) ≡ count_fresh ∷ []) × (get_or (set s.words 8 n) 8 0 ≡ 0)) ⊎ CountBetween (get_or (set s.words 8 n) 8 0) (set s.views id (count_view Takes n))
    by (inl fresh) = let is : count_fresh ≡ me.0 = (lone count_fresh me.0 s.views id fresh.0 at).0 in cc
    by (inr b) = elim (one_of (count_view Takes (get_or s.words 8 0)) (count_view Pushes b.known) me.0 s.views id b.seats at) [
      | inl mine ↦ inr (record {
        known = b.known;
        seats = mine.1 (count_view Takes n) ∙ ap (λ (z : ℕ). count_view Takes z ∷ count_view Pushes b.known ∷ []) (sym here);
        within =
            let was : get_or s.words 8 0 ≡ me.0.count = ap (λ (v : CountView). v.count) mine.0 in
            let before = b.within in
            omega (arith, here);
      })
      | inr theirs ↦ let is : count_view Pushes b.known ≡ me.0 = theirs.0 in cc
    ]

-- the number is read
pub reads : (slots id : ℕ) (me : Known) → me.0.role ≡ Pushes
    → Allows Counted slots id me 8 (λ n. n) (λ found m. (m.0 ≡ count_view Pushes found) × (me.0.count ≤ found))
reads slots id me role s r many at word = by r.told
  where
    w : ℕ
    w = get_or s.words 8 0

    here : get_or (set s.words 8 w) 8 0 ≡ w
    here = let wide = r.wide in get_or-set_same s.words 8 w 0 (omega arith)

    by : ((s.views ≡ count_fresh ∷ []) × (w ≡ 0)) ⊎ CountBetween w s.views
        → (v : CountView) × (a : Act (Unit {0})) × Valid s.homes me.1 a × Counted (stepped s 8 w id me.1 v a) × ((v ≡ count_view Pushes w) × (me.0.count ≤ w))
    by (inl fresh) = let is : count_fresh ≡ me.0 = (lone count_fresh me.0 s.views id fresh.0 at).0 in cc
    by (inr b) = elim (one_of (count_view Takes w) (count_view Pushes b.known) me.0 s.views id b.seats at) [
      | inl theirs ↦ let is : count_view Takes w ≡ me.0 = theirs.0 in cc
      | inr mine ↦ (
        count_view Pushes w,
        keeps,
        tt,
        record {
          wide = length-set s.words 8 w ∙ r.wide;
          told = inr (record {
            known = w;
            seats = mine.1 (count_view Pushes w) ∙ ap (λ (z : ℕ). count_view Takes z ∷ count_view Pushes w ∷ []) (sym here);
            within = omega (arith, here);
          });
        },
        (refl, let was : b.known ≡ me.0.count = ap (λ (v : CountView). v.count) mine.0 in let before = b.within in omega arith),
      )
    ]

-- the other seat is given
pub splits : (id : ℕ) (v : CountView) → v ≡ count_fresh → Splits Counted id v (count_view Takes 0) (count_view Pushes 0)
splits id v is s r at = record { wide = r.wide; told = by r.told }
  where
    by : ((s.views ≡ count_fresh ∷ []) × (get_or s.words 8 0 ≡ 0)) ⊎ CountBetween (get_or s.words 8 0) s.views
        → ((set s.views id (count_view Takes 0) ++ count_view Pushes 0 ∷ [] ≡ count_fresh ∷ []) × (get_or s.words 8 0 ≡ 0)) ⊎ CountBetween (get_or s.words 8 0) (set s.views id (count_view Takes 0) ++ count_view Pushes 0 ∷ [])
    by (inl fresh) = inr (record {
      known = 0;
      seats = (lone count_fresh v s.views id fresh.0 at).1 (count_view Takes 0) (count_view Pushes 0) ∙ ap (λ (z : ℕ). count_view Takes z ∷ count_view Pushes 0 ∷ []) (sym fresh.1);
      within = omega arith;
    })
    by (inr b) = elim (one_of (count_view Takes (get_or s.words 8 0)) (count_view Pushes b.known) v s.views id b.seats at) [
      | inl mine ↦ let one : Takes ≡ v.role = ap (λ (u : CountView). u.role) mine.0 in let other : v.role ≡ Alone = ap (λ (u : CountView). u.role) is in cc
      | inr mine ↦ let one : Pushes ≡ v.role = ap (λ (u : CountView). u.role) mine.0 in let other : v.role ≡ Alone = ap (λ (u : CountView). u.role) is in cc
    ]
