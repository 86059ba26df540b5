-- An instruction behind which a run alone goes on, by what is told of it.
use Rattle.std.proofs.Common.{◌≡◌, ℕ, if◌then◌else◌, Option, Some, None, refl, ap, sym, ◌∙◌, subst}
use Rattle.device_bus.specs.declared.undo.Note.{Note}
use Rattle.device_bus.specs.declared.undo.Note.TheVariants as note
use Rattle.trace_entry.specs.declared.Entry.{Entry}
use Rattle.undo_journal.specs.declared.past.Past.{Past}
use Rattle.mono_model.specs.declared.setup.Setup.{Setup}
use Rattle.mono_model.specs.Arch.{Arch}
use Rattle.mono_model.specs.Effect.{effect, note_of}
use Rattle.mono_model.specs.Sequence.{found_next, result_at, seq, entry_at, byte_in, halt_in}
use Rattle.func_model.specs.declared.contents.Contents.{Contents}
use Rattle.func_model.specs.Contents.{ContentsStandFor, GoesOn}
use Rattle.func_model.specs.Steps.{behind, is_full, stepped_by}
use Rattle.func_model.specs.Telling.{IsNextStep, IsQuiet}
use Rattle.func_model.proofs.Advance.{after_plain}

-- what neither sends a byte nor ends the run does nothing outside
nothing_told : (what : Note) → byte_in what ≡ None → halt_in what ≡ None → what ≡ note.Nothing
nothing_told note.Nothing silent going = refl
nothing_told (note.Out byte) silent going = cc
nothing_told (note.End halt) silent going = cc

entry_nothing : (s : Setup) (time : Option ℕ) (a : Arch) (number epoch : ℕ) (entry : Entry) → entry ≡ entry_at s time a number epoch → entry.out ≡ None → entry.halt ≡ None →
    note_of (result_at s time a) a ≡ note.Nothing
unfolding entry_at
entry_nothing s time a number epoch entry is silent going =
    nothing_told (note_of (result_at s time a) a) (sym (ap (λ (e : Entry). e.out) is) ∙ silent) (sym (ap (λ (e : Entry). e.halt) is) ∙ going)

seq_behind : (s : Setup) (time : Option ℕ) (a : Arch) → note_of (result_at s time a) a ≡ note.Nothing → seq s time a ≡ behind s.output (found_next s a) (result_at s time a) time a
unfolding seq
seq_behind s time a silent =
    ap (λ (what : Note). if is_full s.output a.output what then a else effect (found_next s a) (result_at s time a) time a.pc a) (sym silent)

pub goes_on : {D : Type 0} (time number epoch : ℕ) (old new : Contents D) (told : Entry × Past) → ((s : Setup) (a : Arch) → ContentsStandFor s a old → IsNextStep s (Some time) number epoch a new told) →
    IsQuiet old new told → GoesOn time old new
goes_on {D} time number epoch old new told step quiet = record {
  stepped = λ s a h.
      sym (ap (stepped_by s.output a.output) (entry_nothing s (Some time) a number epoch told.0 (step s a h).entry quiet.silent quiet.going));
  stands = λ s a h.
      let silent = entry_nothing s (Some time) a number epoch told.0 (step s a h).entry quiet.silent quiet.going in
      subst (λ (x : Arch). ContentsStandFor {D = D} s x new)
      (after_plain s (found_next s a) (result_at s (Some time) a) time a (seq s (Some time) a) (quiet.no_fence s a h) (seq_behind s (Some time) a silent)) (step s a h).stands;
  bound = quiet.bound;
}
