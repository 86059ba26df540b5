-- An instruction only adds to the output.
use Rattle.std.proofs.Common.{◌≡◌, ℕ, zero, suc, ◌+◌, ◌-◌, ◌≤◌, Option, Some, None, List, [], ◌∷◌, ◌++◌, refl, ap, sym, ◌∙◌, subst, arith, append_assoc, append-nil}
use Rattle.fsim_base.specs.declared.cause.Cause.{Cause}
use Rattle.device_bus.specs.declared.undo.Note.{Note}
use Rattle.device_bus.specs.declared.undo.Note.TheVariants as note
use Rattle.mono_model.specs.Arch.{Arch, trapped}
use Rattle.mono_model.specs.Found.{Found}
use Rattle.mono_model.specs.Result.{Result}
use Rattle.mono_model.specs.Effect.{effect, effect_by, retired, note_of, with_note}
use Rattle.machine_laws.specs.Output.{GrowsTo}

pub grows_none : (output : List ℕ) → GrowsTo output output
grows_none output = record { sent = []; output = sym (append-nil output) }

pub grows_by_none : (before after : List ℕ) → after ≡ before → GrowsTo before after
grows_by_none before after same = record { sent = []; output = same ∙ sym (append-nil before) }

pub grows_on : (a b c : List ℕ) → GrowsTo a b → GrowsTo b c → GrowsTo a c
grows_on a b c first then = record {
  sent = first.sent ++ then.sent;
  output = then.output ∙ ap (λ (l : List ℕ). l ++ then.sent) first.output
      ∙ append_assoc a first.sent then.sent;
}

-- In any run, each of whose steps adds to the output.
module _ {X : Type 0} (output : X → List ℕ) (at : ℕ → X)
    (adds : (n : ℕ) → GrowsTo (output (at n)) (output (at (suc n)))) where
  grows_by : (n more : ℕ) → GrowsTo (output (at n)) (output (at (n + more)))
  grows_by n zero =
      let e : n ≡ n + zero = omega arith in
      subst (λ (k : ℕ). GrowsTo (output (at n)) (output (at k))) e (grows_none (output (at n)))
  grows_by n (suc more) =
      let e : suc (n + more) ≡ n + suc more = omega arith in
      subst (λ (k : ℕ). GrowsTo (output (at n)) (output (at k))) e
      (grows_on (output (at n)) (output (at (n + more))) (output (at (suc (n + more))))
      (grows_by n more) (adds (n + more)))

  pub grows_to : (n m : ℕ) → n ≤ m → GrowsTo (output (at n)) (output (at m))
  grows_to n m later =
      let e : n + (m - n) ≡ m = omega arith in
      subst (λ (k : ℕ). GrowsTo (output (at n)) (output (at k))) e (grows_by n (m - n))

note_grows : (what : Note) (output : List ℕ) → GrowsTo output (with_note what output)
note_grows note.Nothing output = grows_none output
note_grows (note.Out byte) output = record { sent = byte ∷ []; output = refl }
note_grows (note.End halt) output = grows_none output

by_grows : (cause : Option Cause) (found : Found) (r : Result) (time : Option ℕ) (addr : ℕ) (a : Arch)
    → GrowsTo a.output (effect_by cause found r time addr a).output
unfolding retired trapped
by_grows None found r time addr a = note_grows (note_of r a) a.output
by_grows (Some cause) found r time addr a = grows_none a.output

pub effect_grows : (found : Found) (r : Result) (time : Option ℕ) (addr : ℕ) (a : Arch)
    → GrowsTo a.output (effect found r time addr a).output
unfolding effect
effect_grows found r time addr a = by_grows r.cause found r time addr a
