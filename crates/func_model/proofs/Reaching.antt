-- How far an order may take a walk.
use Rattle.std.proofs.Common.{◌≡◌, ℕ, ◌≤◌, ◌<◌, Bool, true, false, refl, subst, arith}
use Rattle.rollback_cmds.specs.declared.order.Order.{Order}
use Rattle.rollback_cmds.specs.declared.order.Order.TheVariants.{Commit}
use Rattle.mono_model.specs.Demand.{number_of}
use Rattle.func_model.specs.declared.walk.Walk.{Walk}

-- beyond the position only a walk that isn't stopped goes
pub runs_beyond : {D : Type 0} (n : ℕ) (walk : Walk D) → (walk.is_stopped ≡ true → n ≤ walk.position) → walk.position < n → walk.is_stopped ≡ false
runs_beyond n walk reach beyond = at walk.is_stopped refl
  where
    at : (b : Bool) → walk.is_stopped ≡ b → walk.is_stopped ≡ false
    at true is = absurd (omega (arith, reach is))
    at false is = is

pub commit_running : {D : Type 0} (order : Order) (n : ℕ) (walk : Walk D) → order ≡ Commit n → (walk.is_stopped ≡ true → number_of order ≤ walk.position) → walk.position < n → walk.is_stopped ≡ false
commit_running order n walk is reach =
    let P : Order → Type 0 = λ o. (walk.is_stopped ≡ true → number_of o ≤ walk.position) in
    runs_beyond n walk (subst P is reach)
