-- The effect of an instruction that is none of CSRs or MRET, by its outcome.
use Rattle.std.proofs.Common.{◌≡◌, ℕ, Bool, true, false, Option, Some, None, refl, ap, sym, ◌∙◌}
use Rattle.fsim_base.specs.declared.access.RamRange.{RamRange}
use Rattle.fsim_base.specs.declared.access.Width.{Width}
use Rattle.fsim_base.specs.declared.access.Spot.{Spot}
use Rattle.fsim_base.specs.declared.access.Spot.TheVariants.{Ram, Device, Nowhere}
use Rattle.fsim_base.specs.declared.cause.Cause.{Cause}
use Rattle.rv_decode.specs.declared.insn.Insn.{Insn}
use Rattle.rv_decode.specs.Class.{dest_of, sources_of}
use Rattle.rv_exec.specs.declared.outcome.Outcome.{Outcome}
use Rattle.rv_exec.specs.declared.outcome.Reach.{Reach}
use Rattle.rv_exec.specs.declared.outcome.Reach.TheVariants as reach
use Rattle.rv_exec.specs.Eval.{eval_of}
use Rattle.mono_model.specs.Arch.{Arch, register_value}
use Rattle.mono_model.specs.Found.{known, is_csr_insn, is_mret_insn}
use Rattle.mono_model.specs.Result.{Seen, Result, executed, evaluated, by_cause, reached, loaded_raw, stored_at, raw_at, spot_of, can_store}
use Rattle.mono_model.specs.Effect.{effect, retired}
use Rattle.mono_model.specs.Sequence.{seen_in}
use Rattle.func_model.specs.Steps.{load_done, store_made, reached_made, caused_made, outcome_made, behind, result_of}
use Rattle.func_model.proofs.Evaluated.{NoDestination, stores_write_none}

loaded_behind : (range : RamRange) (limit word : ℕ) (time : Option ℕ) (i : Insn) (next addr : ℕ) (width : Width) (signed : Bool) (spot : Spot) (raw : Option ℕ) (a : Arch) → is_csr_insn i ≡ false → is_mret_insn i ≡ false → spot ≡ spot_of range addr width →
    behind limit (known word i) (loaded_raw next addr width signed spot raw) time a ≡ load_done range (dest_of i) next addr width signed raw a
unfolding effect retired
loaded_behind range limit word time i next addr width signed spot None a csr mret where_is = refl
loaded_behind range limit word time i next addr width signed Ram (Some raw) a csr mret where_is = rw (csr, mret, ← where_is) refl
loaded_behind range limit word time i next addr width signed Device (Some raw) a csr mret where_is = rw (csr, mret, ← where_is) refl
loaded_behind range limit word time i next addr width signed Nowhere (Some raw) a csr mret where_is = rw (csr, mret, ← where_is) refl

stored_behind : (range : RamRange) (limit word : ℕ) (time : Option ℕ) (i : Insn) (next addr : ℕ) (width : Width) (value : ℕ) (spot : Spot) (accepts : Bool) (a : Arch) → is_csr_insn i ≡ false → is_mret_insn i ≡ false → dest_of i ≡ None → accepts ≡ can_store addr width spot → spot ≡ spot_of range addr width →
    behind limit (known word i) (stored_at next addr width value spot) time a ≡ store_made range limit next addr width value a
unfolding effect retired
stored_behind range limit word time i next addr width value spot true a csr mret none accepts where_is = rw (← where_is, ← accepts, csr, mret, none) refl
stored_behind range limit word time i next addr width value spot false a csr mret none accepts where_is = rw (← where_is, ← accepts) refl

reached_behind : (range : RamRange) (limit word : ℕ) (i : Insn) (time : Option ℕ) (o : Outcome) (what : Reach) (a : Arch) → is_csr_insn i ≡ false → is_mret_insn i ≡ false → NoDestination (dest_of i) what →
    behind limit (known word i) (reached range (seen_in time a) o what) time a ≡ reached_made range limit (dest_of i) o time a what
unfolding effect retired
reached_behind range limit word i time o reach.Nothing a csr mret none = rw (csr, mret) refl
reached_behind range limit word i time o (reach.Load addr width signed) a csr mret none =
    loaded_behind range limit word time i o.next addr width signed (spot_of range addr width) (raw_at (seen_in time a) addr width (spot_of range addr width)) a csr mret refl
reached_behind range limit word i time o (reach.Store addr width value) a csr mret none =
    stored_behind range limit word time i o.next addr width value (spot_of range addr width) (can_store addr width (spot_of range addr width)) a csr mret none refl refl

caused_behind : (range : RamRange) (limit word : ℕ) (i : Insn) (time : Option ℕ) (o : Outcome) (why : Option (Cause × ℕ)) (a : Arch) → is_csr_insn i ≡ false → is_mret_insn i ≡ false → NoDestination (dest_of i) o.reach →
    behind limit (known word i) (by_cause range (seen_in time a) o why) time a ≡ caused_made range limit (dest_of i) o time a why
unfolding effect
caused_behind range limit word i time o None a csr mret none = reached_behind range limit word i time o o.reach a csr mret none
caused_behind range limit word i time o (Some why) a csr mret none = refl

-- an instruction that is none of CSRs or MRET comes to what its outcome does
pub instruction_is : (range : RamRange) (word : ℕ) (i : Insn) (addr x y : ℕ) (e : Seen) → is_csr_insn i ≡ false → is_mret_insn i ≡ false →
    executed range (known word i) addr x y e ≡ evaluated range e (eval_of i addr x y)
unfolding executed
instruction_is range word i addr x y e csr mret = rw (csr, mret) refl

pub instruction_behind : (range : RamRange) (limit word : ℕ) (i : Insn) (x y : ℕ) (time : Option ℕ) (a : Arch) → is_csr_insn i ≡ false → is_mret_insn i ≡ false →
    behind limit (known word i) (executed range (known word i) a.pc x y (seen_in time a)) time a ≡ outcome_made range limit (dest_of i) (eval_of i a.pc x y) time a
unfolding executed
instruction_behind range limit word i x y time a csr mret =
    let o : Outcome = eval_of i a.pc x y in
    let same : executed range (known word i) a.pc x y (seen_in time a) ≡ by_cause range (seen_in time a) o o.cause = rw (csr, mret) refl in
    ap (λ (r : Result). behind limit (known word i) r time a) same
    ∙ caused_behind range limit word i time o o.cause a csr mret (stores_write_none i a.pc x y)

-- the same of what the code computed
pub evaluated_result : (range : RamRange) (word : ℕ) (i : Insn) (x y : ℕ) (time : Option ℕ) (o : Outcome) (a : Arch) → is_csr_insn i ≡ false → is_mret_insn i ≡ false →
    o ≡ eval_of i a.pc x y → x ≡ register_value a.regs (sources_of i).0 → y ≡ register_value a.regs (sources_of i).1 →
    evaluated range (seen_in time a) o ≡ result_of range (known word i) time a
evaluated_result range word i x y time o a csr mret is first second =
    ap (λ (e : Outcome). evaluated range (seen_in time a) e) (is ∙ ap (λ v. eval_of i a.pc v y) first ∙ ap (λ w. eval_of i a.pc (register_value a.regs (sources_of i).0) w) second)
    ∙ sym (instruction_is range word i a.pc (register_value a.regs (sources_of i).0) (register_value a.regs (sources_of i).1) (seen_in time a) csr mret)

pub evaluated_behind : (range : RamRange) (limit word : ℕ) (i : Insn) (x y : ℕ) (time : Option ℕ) (o : Outcome) (destination : Option ℕ) (a b : Arch) → is_csr_insn i ≡ false → is_mret_insn i ≡ false →
    o ≡ eval_of i a.pc x y → destination ≡ dest_of i → x ≡ register_value a.regs (sources_of i).0 → y ≡ register_value a.regs (sources_of i).1 →
    b ≡ outcome_made range limit destination o time a → b ≡ behind limit (known word i) (result_of range (known word i) time a) time a
evaluated_behind range limit word i x y time o destination a b csr mret is register first second made =
    made
    ∙ ap (λ d. outcome_made range limit d o time a) register
    ∙ ap (λ (e : Outcome). outcome_made range limit (dest_of i) e time a) (is ∙ ap (λ v. eval_of i a.pc v y) first ∙ ap (λ w. eval_of i a.pc (register_value a.regs (sources_of i).0) w) second)
    ∙ sym (instruction_behind range limit word i (register_value a.regs (sources_of i).0) (register_value a.regs (sources_of i).1) time a csr mret)
