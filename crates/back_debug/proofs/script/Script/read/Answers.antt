use Rattle.std.proofs.Common.{◌≡◌, ◌+◌, ◌++◌, ◌∷◌, ℕ, List, true, if◌then◌else◌, Some, Ok, Err, Result, sym, ap, ◌∙◌}
use Rattle.std.proofs.lemmas.List.{append-nil}
use Rattle.std.proofs.lemmas.Result.{err_from_is_err_and}
use Rattle.std.specs.List.{filter_map, position_from}
use Rattle.back_debug.specs.declared.script.ScriptFault.{ScriptFault}
use Rattle.back_debug.specs.Script.{command_in, commands_of, first_bad_line, is_bad}
use Rattle.back_debug.proofs.script.Script.read.Goals as goal

-- the first of some lines is bad
bad_here : (line : List ℕ) (number : ℕ) (rest : List (List ℕ)) → is_bad line ≡ true → position_from is_bad number (line ∷ rest) ≡ Some number
bad_here line number rest bad = ap (λ b. if b then Some number else position_from is_bad (number + 1) rest) bad

-- the fault of a result, or another one
abbrev fault_or : {A : Type 0} → ScriptFault → Result A ScriptFault → ScriptFault
fault_or other (Ok value) = other
fault_or other (Err fault) = fault

pub returns-in_err-add-clause-bad : goal.returns-in_err-add-clause-bad
unfolding first_bad_line
returns-in_err-add-clause-bad c = λ number is.
    let left = err_from_is_err_and c.from_residual.result c.from_residual.ensures.1 in
    let told = c.in_err-add.ensures.bad number (ap Err (sym left.2 ∙ ap (fault_or left.0) (sym left.1 ∙ is))) in
    let first = c.in-Some.ensures.steps in
    sym c.loop-place.invariant.bad ∙ ap (position_from is_bad (c.loop-place.place-iterator.count + 1)) first.0
    ∙ bad_here c.in-Some.line.now (c.loop-place.place-iterator.count + 1) c.next.new.self.iter told.0
    ∙ ap Some (ap (λ (n : ℕ). n + 1) (sym first.1) ∙ sym told.1)

pub returns-clause-good : goal.returns-clause-good
unfolding first_bad_line
returns-clause-good c =
    sym c.loop-place.invariant.bad ∙ ap (position_from is_bad (c.loop-place.place-iterator.count + 1)) c.in-None.ensures.steps.0.0

pub returns-clause-script : goal.returns-clause-script
unfolding commands_of
returns-clause-script c =
    sym (append-nil c.loop-place.commands.items) ∙ sym (ap (λ xs. c.loop-place.commands.items ++ filter_map command_in xs) c.in-None.ensures.steps.0.0)
    ∙ c.loop-place.invariant.commands
