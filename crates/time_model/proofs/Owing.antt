-- Which orders are owed at a place of the demand run, and what a side that stands there wants.
use Rattle.std.proofs.Common.{◌≡◌, ℕ, ◌==◌, ◌&&◌, is_none, Bool, Option, Some, None, List, [], ◌∷◌, take, ap, sym, ◌∙◌, arith}
use Rattle.std.proofs.lemmas.Bool.{eq-eqb, ne_eqb}
use Rattle.rollback_cmds.specs.declared.order.Order.{Order}
use Rattle.mono_model.specs.declared.setup.Setup.{Setup}
use Rattle.mono_model.specs.Demand.{At, is_try, Place, needs_entry}
use Rattle.mono_model.specs.Split.{is_halted, is_cycle_start, is_place_boundary}
use Rattle.machine_laws.proofs.SplitSteps.{Owes, owes_none, owes_one}
use Rattle.time_model.specs.declared.state.TimingState.{TimingState}
use Rattle.time_model.specs.Piped.{Piped, IsPiped, place_of}
use Rattle.time_model.specs.Standing.{SideStandsFor, owed_in, wants_in, is_told_out, over_in, ends_in}
use Rattle.time_model.specs.Turns.{is_ending}
use Rattle.time_model.proofs.Bool.{and_if, and_swap}

pub owed_none : (p : Place) → Owes p → (o : Option Order) → owed_in o ≡ take p.owed p.run.demand.orders → is_none o ≡ (p.owed == 0)
owed_none p (owes_none is) None e = sym (eq-eqb p.owed 0 is)
owed_none p (owes_none is) (Some o) e = let none : take p.owed p.run.demand.orders ≡ [] = ap (λ (k : ℕ). take k p.run.demand.orders) is in cc
owed_none p (owes_one is m q os orders opens on) None e =
    let one : take p.owed p.run.demand.orders ≡ q ∷ [] = ap (λ (k : ℕ). take k p.run.demand.orders) is ∙ ap (λ (l : List Order). take 1 l) orders in cc
owed_none p (owes_one is m q os orders opens on) (Some o) e = sym (ne_eqb p.owed 0 (λ none. omega arith))

-- what a side owes, wants and has over is what the place has
module _ {P A : Type 0} (piped : Piped P A) (laws : IsPiped piped) (s : Setup) (k : ℕ) (side : TimingState P A) (h : SideStandsFor piped s k side) where
  pub stands_owed : is_none side.telling.owed ≡ ((place_of piped s k).owed == 0)
  stands_owed = owed_none (place_of piped s k) (laws.owes s k) side.telling.owed h.owed

  pub stands_at : piped.seen side.at ≡ (place_of piped s k).run.at
  stands_at = laws.at s k side.pipeline side.at h.pipeline

  pub stands_wants : wants_in piped side ≡ (needs_entry (place_of piped s k) && is_none side.telling.held)
  unfolding wants_in
  stands_wants =
      ap (λ (b : Bool). b && is_try (piped.seen side.at) && is_none side.telling.held) stands_owed
      ∙ ap (λ (at : At). ((place_of piped s k).owed == 0) && is_try at && is_none side.telling.held) stands_at
      ∙ ap (λ (b : Bool). b && is_none side.telling.held) (and_if ((place_of piped s k).owed == 0) (is_try (place_of piped s k).run.at))

  pub stands_over : over_in piped side ≡ is_told_out (place_of piped s k)
  stands_over =
      ap (λ (b : Bool). b && is_halted (piped.seen side.at)) stands_owed
      ∙ ap (λ (at : At). ((place_of piped s k).owed == 0) && is_halted at) stands_at
      ∙ and_swap ((place_of piped s k).owed == 0) (is_halted (place_of piped s k).run.at)

  -- the boundaries
  pub stands_boundary : (is_none side.telling.owed && is_cycle_start (piped.seen side.at)) ≡ is_place_boundary (place_of piped s k)
  stands_boundary =
      ap (λ (b : Bool). b && is_cycle_start (piped.seen side.at)) stands_owed ∙ ap (λ (at : At). ((place_of piped s k).owed == 0) && is_cycle_start at) stands_at

  -- the ends of cycles
  pub stands_ends : ends_in piped side ≡ ((place_of piped s k).owed == 0 && is_ending (place_of piped s k).run.at)
  stands_ends =
      ap (λ (b : Bool). b && is_ending (piped.seen side.at)) stands_owed ∙ ap (λ (at : At). ((place_of piped s k).owed == 0) && is_ending at) stands_at
