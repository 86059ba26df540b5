-- What is committed of a side that has sent nothing has room in the output.
use Rattle.std.proofs.Common.{◌≡◌, ℕ, ◌-◌, ◌≤◌, [], length, nat_le, sym, subst, arith}
use Rattle.std.proofs.lemmas.Bool.{le-leb, cond-true}
use Rattle.rollback_cmds.specs.declared.order.Order.TheVariants.{Commit}
use Rattle.undo_journal.specs.Journal.{from_number}
use Rattle.mono_model.specs.declared.setup.Setup.{Setup}
use Rattle.func_model.specs.declared.walk.Walk.{Walk}
use Rattle.func_model.specs.Contents.{output_in}
use Rattle.func_model.specs.Walk.{WalkStandsFor, HasRoom, bytes_sent, bytes_before}

pub quiet_has_room : {D : Type 0} (s : Setup) (walk : Walk D) → WalkStandsFor s [] walk → length walk.journal.steps ≡ 4 → length (output_in walk.contents) ≡ 0 → HasRoom (Commit 1) walk walk.limit
unfolding bytes_before
quiet_has_room s walk stands four quiet =
    let some : 1 ≤ walk.position = omega (arith, stands.holds.held, four) in
    let is : bytes_before walk 1 ≡ length (output_in walk.contents) - bytes_sent (from_number 1 walk.journal.steps) = cond-true (nat_le 1 walk.position) _ _ (le-leb 1 walk.position some) in
    subst (λ (n : ℕ). n ≤ walk.limit) (sym is) (omega (arith, quiet))
