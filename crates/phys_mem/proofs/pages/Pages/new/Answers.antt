use Rattle.std.proofs.Common.{◌≡◌, ◌∙◌, ◌∷◌, ◌++◌, List, ℕ, [], ap, arith, replicate}
use Rattle.std.specs.Prelude.{vec_capacity}
use Rattle.phys_mem.proofs.Places.{places_new, pages_zero}
use Rattle.phys_mem.proofs.pages.Pages.new.Goals as goal

-- the page of zeros was made, and no other has a place
blank : (c : goal.After-push_reserved) → c.push_reserved.new.self.items ≡ replicate 4096 0 ∷ []
blank c = c.push_reserved.ensures.items ∙ ap (λ (l : List (List ℕ)). l ++ replicate 4096 0 ∷ []) c.in_ok-made.ensures.items

none : (c : goal.After-push_reserved) → c.in_ok-places.places.items ≡ replicate c.args.count 0
none c = c.in_ok-places.ensures.items_if_clones_equal (λ y e. e)

pub invariant_of-result : goal.invariant_of-result
invariant_of-result c =
    places_new c.push_reserved.new.self.items c.in_ok-places.places.items c.args.count (blank c) (none c) (vec_capacity c.push_reserved.new.self)
    (omega (arith, c.push_reserved.ensures.capacity, c.in_ok-made.ensures.capacity)) c.requires.few

pub returns-clause-zero : goal.returns-clause-zero
returns-clause-zero c = λ i offset. pages_zero c.push_reserved.new.self.items c.in_ok-places.places.items c.args.count (blank c) (none c) i offset
