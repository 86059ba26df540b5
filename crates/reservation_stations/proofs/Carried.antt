-- How a change of single rows carries over to what younger stations see of them.
use Rattle.std.proofs.Common.{◌≡◌, ℕ, ◌||◌, Bool, true, false, if◌then◌else◌, Option, Some, None, List, [], ◌∷◌, ◌++◌, reverse, ap, refl, sym, ◌∙◌}
use Rattle.reservation_stations.specs.declared.row.Row.{Row}
use Rattle.reservation_stations.specs.Readiness.{is_done, is_register}
use Rattle.reservation_stations.specs.AreTables.{Each, stations_at, unfinished, awaited}
use Rattle.reservation_stations.proofs.Indices.{reverse_behind}

-- an index, unless it is one of these
abbrev pub dropped : (ℕ → Bool) → Option ℕ → Option ℕ
dropped lost None = None
dropped lost (Some index) = if lost index then None else Some index

module _ (at at' : ℕ → Row) (lost : ℕ → Bool) where
  -- the lost ones are done
  pub record Changes (index : ℕ) : Type 0 where
    pub destination : (at' index).registers.destination ≡ (at index).registers.destination
    pub done : is_done (at' index).mark ≡ (is_done (at index).mark || lost index)

  -- what the older ones are behind the change
  pub record Carries (older older' : List ℕ) : Type 0 where
    pub unfinished : (register : ℕ) → unfinished (stations_at at' older') register ≡ dropped lost (unfinished (stations_at at older) register)

  unfinished_cons : (index : ℕ) (is done lost_here : Bool) (mine theirs : Option ℕ) → lost index ≡ lost_here → theirs ≡ dropped lost mine →
      (if is then (if (done || lost_here) then None else Some index) else theirs) ≡
      dropped lost (if is then (if done then None else Some index) else mine)
  unfinished_cons index true true lost_here mine theirs is_lost carried = refl
  unfinished_cons index true false lost_here mine theirs is_lost carried = ap (λ b. if b then None else Some index) (sym is_lost)
  unfinished_cons index false done lost_here mine theirs is_lost carried = carried

  pub Carries-cons : (index : ℕ) (older older' : List ℕ) → Changes index → Carries older older' → Carries (index ∷ older) (index ∷ older')
  Carries-cons index older older' here carried = record {
    unfinished = λ register.
        ap (λ destination. if is_register register destination then (if is_done (at' index).mark then None else Some index) else unfinished (stations_at at' older') register) here.destination
        ∙ ap (λ done. if is_register register (at index).registers.destination then (if done then None else Some index) else unfinished (stations_at at' older') register) here.done
        ∙ unfinished_cons index (is_register register (at index).registers.destination) (is_done (at index).mark) (lost index) (unfinished (stations_at at older) register) (unfinished (stations_at at' older') register) refl (carried.unfinished register);
  }

  pub awaited_carried : (older older' : List ℕ) (source : Option ℕ) → Carries older older' →
      awaited (stations_at at' older') source ≡ dropped lost (awaited (stations_at at older) source)
  awaited_carried older older' None carried = refl
  awaited_carried older older' (Some register) carried = carried.unfinished register

  -- and behind all of them
  pub Carries-behind : (indices older older' : List ℕ) → Each Changes indices → Carries older older' → Carries (reverse indices ++ older) (reverse indices ++ older')
  Carries-behind [] older older' each carried = carried
  Carries-behind (index ∷ indices) older older' each carried =
      let rest : Carries (reverse indices ++ (index ∷ older)) (reverse indices ++ (index ∷ older')) =
      Carries-behind indices (index ∷ older) (index ∷ older') each.1 (Carries-cons index older older' each.0 carried) in
      rw (reverse_behind index indices older, reverse_behind index indices older') rest
