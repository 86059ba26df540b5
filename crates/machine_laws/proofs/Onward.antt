-- The path goes on by execution from what is committed on.
use Rattle.std.proofs.Common.{◌≡◌, ℕ, ◌≤◌, ◌<◌, List, [], ◌∷◌, arith}
use Rattle.std.specs.Prelude.{IfSome}
use Rattle.rollback_cmds.specs.declared.order.Order.{Order}
use Rattle.rollback_cmds.specs.declared.order.Order.TheVariants.{Set, Commit, Interrupt, Time, Stop, Sync}
use Rattle.mono_model.specs.declared.setup.Setup.{Setup}
use Rattle.mono_model.specs.Path.{GoesOn}
use Rattle.mono_model.specs.Demand.{Demand, next, number_of, place}
use Rattle.mono_model.proofs.Path.{path_next, goes_on_after}
use Rattle.machine_laws.specs.Numbers.{last_commit, AreAtCommit}
use Rattle.machine_laws.specs.Onward.{AreAtMostButSet, last_opening, GoesOnward}
use Rattle.machine_laws.specs.Relation.{Related}
use Rattle.machine_laws.proofs.Numbering.{place_within, done_is}
use Rattle.machine_laws.proofs.Path.{path_steps, time_none}
use Rattle.machine_laws.proofs.Places.{place_related}

up_to : (m : ℕ) (os : List Order) (n : ℕ) → m ≡ last_commit os → last_commit os ≤ n → m ≤ n
up_to m os n here most = omega arith

-- orders that are numbered by Commits are at most at the last one
at_most : (os : List Order) (n : ℕ) → AreAtCommit os → last_commit os ≤ n → AreAtMostButSet n os
at_most [] n are most = tt
at_most (Set m addr ∷ os) n are most = at_most os n are.1 most
at_most (Commit m ∷ os) n are most =
    let more : last_commit os < m = are.0 in (most, at_most os n are.1 (omega arith))
at_most (Interrupt m ∷ os) n are most = (up_to m os n are.0 most, at_most os n are.1 most)
at_most (Time m v ∷ os) n are most = (up_to m os n are.0 most, at_most os n are.1 most)
at_most (Stop m ∷ os) n are most = (up_to m os n are.0 most, at_most os n are.1 most)
at_most (Sync m ∷ os) n are most = (up_to m os n are.0 most, at_most os n are.1 most)

-- what bent the path last is the last order that opened an epoch, unless a Stop came behind it
opening_at_most : (os : List Order) (n : ℕ) → AreAtMostButSet n os → GoesOn os n
    → IfSome (last_opening os) (λ o. number_of o ≤ n)
opening_at_most [] n are on = tt
opening_at_most (Set m addr ∷ os) n are on = on
opening_at_most (Commit m ∷ os) n are on = opening_at_most os n are.1 on
opening_at_most (Interrupt m ∷ os) n are on = on
opening_at_most (Time m v ∷ os) n are on = on
opening_at_most (Stop m ∷ os) n are on = are.0
opening_at_most (Sync m ∷ os) n are on = on

-- a machine that is on the path, with orders that are numbered by Commits
pub demand_onward : (s : Setup) (d : Demand) → Related s d → AreAtCommit d.orders → d.to_commit ≡ last_commit d.orders → GoesOnward s d
demand_onward s d related kinds done =
    let fetched = at_most d.orders (next d) kinds (omega (arith, done)) in
    record {
      orders = at_most d.orders d.to_commit kinds (omega (arith, done));
      times = λ n beyond. time_none d.orders d.to_commit n related.within beyond;
      steps = λ n from. path_steps s d.orders d.to_commit n related.within from;
      opening = opening_at_most d.orders (next d) fetched related.on;
      onward = λ n from. path_next s d.orders n (goes_on_after d.orders (next d) n from related.on);
    }

pub place_onward : (s : Setup) (k : ℕ) → GoesOnward s (place s k).run.demand
place_onward s k = demand_onward s (place s k).run.demand (place_related s k) (place_within s k).orders.kinds (done_is s k)
