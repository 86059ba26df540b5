-- Each step at a line keeps its rule.
use Rattle.std.proofs.Common.{◌≡◌, ℕ, List, [], ◌∷◌, ◌++◌, length, set, refl, sym, ap, subst, ◌∙◌, inl, inr, append_assoc, append-nil}
use Rattle.crossbeam_queue.specs.Fifo as fifo
use Rattle.mono_model.specs.declared.setup.Setup.{Setup}
use Rattle.trace_ring.specs.declared.role.Role.TheVariants.{Alone, Pushes, Takes}
use Rattle.trace_ring.specs.declared.line.View.{View}
use Rattle.trace_ring.specs.Line.{Allowed, all_of, view_of, fresh, with_group, Between, Lined}
use Rattle.trace_ring.proofs.Two.{one_of, lone}

module _ {T : Type 0} where
  -- the values of one more group at the back
  all_more : (groups : List (List T)) (group : List T) → all_of (groups ++ group ∷ []) ≡ all_of groups ++ group
  all_more [] group = append-nil group
  all_more (x ∷ xs) group = ap (λ (zs : List T). x ++ zs) (all_more xs group) ∙ sym (append_assoc x (all_of xs) group)

  module _ (may : List T → T → Type 0) where
    -- what was allowed, and what is allowed after it
    pub allowed_both : (xs ys before : List T) → Allowed may before xs → Allowed may (before ++ xs) ys → Allowed may before (xs ++ ys)
    allowed_both [] ys before first then = subst (λ (zs : List T). Allowed may zs ys) (append-nil before) then
    allowed_both (x ∷ xs) ys before first then =
        (first.0, allowed_both xs ys (before ++ x ∷ []) first.1 (subst (λ (zs : List T). Allowed may zs ys) (sym (append_assoc before (x ∷ []) xs)) then))

    -- the first of what was allowed
    pub allowed_first : (xs ys before : List T) → Allowed may before (xs ++ ys) → Allowed may before xs
    allowed_first [] ys before all = tt
    allowed_first (x ∷ xs) ys before all = (all.0, allowed_first xs ys (before ++ x ∷ []) all.1)

    -- each value was allowed after those before it
    pub allowed_there : (xs : List T) (x : T) (ys before : List T) → Allowed may before (xs ++ x ∷ ys) → may (before ++ xs) x
    allowed_there [] x ys before all = subst (λ (zs : List T). may zs x) (sym (append-nil before)) all.0
    allowed_there (y ∷ xs) x ys before all =
        subst (λ (zs : List T). may zs x) (append_assoc before (y ∷ []) xs) (allowed_there xs x ys (before ++ y ∷ []) all.1)

module _ {T : Type 0} (allows : Setup → List T → T → Type 0) where
  -- the views of the two ends
  abbrev pusher : {groups : List (List T)} {views : List (View T)} → Between allows groups views → View T
  pusher {groups} b = view_of Pushes b.setup (b.taken ++ all_of groups)

  abbrev taker : {groups : List (List T)} {views : List (View T)} → Between allows groups views → View T
  taker b = view_of Takes b.setup b.taken

  -- a group joins at the back
  joined : (groups : List (List T)) (views : List (View T)) (port : ℕ) (v : View T) (group : List T) (b : Between allows groups views)
      → pusher b ≡ v → ((w : View T) → set views port w ≡ w ∷ taker b ∷ []) → Allowed (allows v.setup) v.values group
      → Between allows (groups ++ group ∷ []) (set views port (with_group v group))
  joined groups views port v group b mine write may =
      let all : (b.taken ++ all_of groups) ++ group ≡ b.taken ++ all_of (groups ++ group ∷ []) =
      append_assoc b.taken (all_of groups) group ∙ ap (λ (zs : List T). b.taken ++ zs) (sym (all_more groups group)) in
      let here : Allowed (allows b.setup) (b.taken ++ all_of groups) group = subst (λ (u : View T). Allowed (allows u.setup) u.values group) (sym mine) may in
      record {
        setup = b.setup;
        taken = b.taken;
        passes =
            write (with_group v group) ∙ ap (λ (u : View T). with_group u group ∷ taker b ∷ []) (sym mine)
            ∙ ap (λ (zs : List T). view_of Pushes b.setup zs ∷ taker b ∷ []) all;
        allowed = subst (λ (zs : List T). Allowed (allows b.setup) [] zs) all (allowed_both (allows b.setup) (b.taken ++ all_of groups) group [] b.allowed here);
      }

  -- the group at the front leaves
  left : (groups : List (List T)) (views : List (View T)) (port : ℕ) (v : View T) (group : List T) (b : Between allows (group ∷ groups) views)
      → taker b ≡ v → ((w : View T) → set views port w ≡ pusher b ∷ w ∷ []) → Between allows groups (set views port (with_group v group))
  left groups views port v group b mine write =
      let all : b.taken ++ (group ++ all_of groups) ≡ (b.taken ++ group) ++ all_of groups = sym (append_assoc b.taken group (all_of groups)) in
      record {
        setup = b.setup;
        taken = b.taken ++ group;
        passes =
            write (with_group v group) ∙ ap (λ (u : View T). pusher b ∷ with_group u group ∷ []) (sym mine)
            ∙ ap (λ (zs : List T). view_of Pushes b.setup zs ∷ with_group (taker b) group ∷ []) all;
        allowed = subst (λ (zs : List T). Allowed (allows b.setup) [] zs) all b.allowed;
      }

  pub pushes : (room port : ℕ) (v : View T) (group : List T) → v.role ≡ Pushes → Allowed (allows v.setup) v.values group
      → fifo.Pushes (Lined allows) room port v group (λ w. w ≡ with_group v group)
  pushes room port v group role may groups views less (inl none) at =
      let is : fresh ≡ v = (lone fresh v views port none.0 at).0 in cc
  pushes room port v group role may groups views less (inr b) at = elim (one_of (pusher b) (taker b) v views port b.passes at) [
    | inl mine ↦ (with_group v group, inr (joined groups views port v group b mine.0 mine.1 may), refl)
    | inr theirs ↦ let is : taker b ≡ v = theirs.0 in cc
  ]

  pub takes : (port : ℕ) (v : View T) → v.role ≡ Takes
      → fifo.Pops (Lined allows) port v (λ group w. (w ≡ with_group v group) × Allowed (allows v.setup) [] (v.values ++ group))
  takes port v role group groups views (inl none) at = let empty : group ∷ groups ≡ [] = none.1 in cc
  takes port v role group groups views (inr b) at = elim (one_of (pusher b) (taker b) v views port b.passes at) [
    | inl theirs ↦ let is : pusher b ≡ v = theirs.0 in cc
    | inr mine ↦ (
      with_group v group,
      inr (left groups views port v group b mine.0 mine.1),
      (
        refl,
        subst (λ (u : View T). Allowed (allows u.setup) [] (u.values ++ group)) mine.0
            (allowed_first (allows b.setup) (b.taken ++ group) (all_of groups) []
            (subst (λ (zs : List T). Allowed (allows b.setup) [] zs) (sym (append_assoc b.taken group (all_of groups))) b.allowed)),
      ),
    )
  ]

  -- the second pass is given
  pub opens : (setup : Setup) (port : ℕ) (v : View T) → v ≡ fresh → fifo.Forks (Lined allows) port v (view_of Pushes setup []) (view_of Takes setup [])
  opens setup port v is groups views (inl none) at = inr (record {
    setup = setup;
    taken = [];
    passes = (lone fresh v views port none.0 at).1 (view_of Pushes setup []) (view_of Takes setup [])
        ∙ ap (λ (gs : List (List T)). view_of Pushes setup (all_of gs) ∷ view_of Takes setup [] ∷ []) (sym none.1);
    allowed = subst (λ (gs : List (List T)). Allowed (allows setup) [] (all_of gs)) (sym none.1) tt;
  })
  opens setup port v is groups views (inr b) at = elim (one_of (pusher b) (taker b) v views port b.passes at) [
    | inl mine ↦ let one : Pushes ≡ v.role = ap (λ (u : View T). u.role) mine.0 in let other : v.role ≡ Alone = ap (λ (u : View T). u.role) is in cc
    | inr mine ↦ let one : Takes ≡ v.role = ap (λ (u : View T). u.role) mine.0 in let other : v.role ≡ Alone = ap (λ (u : View T). u.role) is in cc
  ]
