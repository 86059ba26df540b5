-- A run alone that tells of its instructions, from one step to the next.
use Rattle.std.proofs.Common.{◌≡◌, ℕ, ◌+◌, ◌≤◌, ◌<◌, ◌==◌, ◌&&◌, ◌^◌, nat_le, nat_lt, Bool, true, false, ◌∷◌, [], List, length, Some, None, is_some, refl, ap, sym, ◌∙◌, subst, arith, length-append}
use Rattle.std.proofs.lemmas.Grind.{common_steps}
use Rattle.device_bus.specs.declared.undo.Note.{Note}
use Rattle.device_bus.specs.declared.undo.Note.TheVariants as note
use Rattle.trace_entry.specs.declared.Entry.{Entry}
use Rattle.mono_model.specs.declared.setup.Setup.{Setup}
use Rattle.mono_model.specs.declared.final_state.End.{End}
use Rattle.mono_model.specs.declared.final_state.End.TheVariants as end
use Rattle.mono_model.specs.Arch.{Arch, start}
use Rattle.mono_model.specs.Effect.{with_note}
use Rattle.mono_model.specs.Final.{has_ended}
use Rattle.mono_model.specs.Sequence.{byte_in, entry_at}
use Rattle.mono_model.specs.Alone.{alone, alone_start, has_no_room, with_fence}
use Rattle.func_model.specs.declared.contents.Contents.{Contents}
use Rattle.func_model.specs.declared.told.Executed.{Executed}
use Rattle.func_model.specs.declared.told.Told.{Told}
use Rattle.func_model.specs.declared.told.ToldRun.{ToldRun}
use Rattle.func_model.specs.Contents.{ContentsStandFor, before, output_in, retired_in}
use Rattle.func_model.specs.History.{walk, fences, step_seq, end_by}
use Rattle.func_model.specs.Trail.{IsPlace}
use Rattle.func_model.specs.Told.{Ended, Full, IsToldStanding, IsToldStep, ToldStandsFor, executed_at, executed_by}
use Rattle.func_model.proofs.Running.{alone_adds, stands_retired}
use Rattle.func_model.proofs.Walking.{stands_output}
use Rattle.func_model.proofs.Trailing.{Next, goes_on, note_at, room_is, seq_output}

running : (e : End) → has_ended e ≡ false → e ≡ end.Running
running end.Pass is = cc
running (end.Fail code) is = cc
running end.Limit is = cc
running end.OutputFull is = cc
running end.Running is = refl

going_place : {D : Type 0} (s : Setup) (run : ToldRun D) → ToldStandsFor s run → has_ended run.end ≡ false → IsPlace s run.made end.Running
going_place s run h going = let P : End → Type 0 = λ e. IsPlace s run.made e in subst P (running run.end going) h.place

-- what a step needs
pub made_below : {D : Type 0} (run : ToldRun D) → IsToldStanding run → has_ended run.end ≡ false → run.made < 2 ^ 63
made_below run on going = omega (arith, on.stands.place.going (running run.end going), on.stands.bounded)

pub retired_below : {D : Type 0} (run : ToldRun D) → IsToldStanding run → has_ended run.end ≡ false → retired_in run.contents < 2 ^ 63
retired_below run on going =
    omega (arith, made_below run on going, stands_retired on.setup (walk on.setup run.made) run.contents on.stands.contents, alone_adds on.setup run.made, on.stands.place.reached)

pub room_ahead : {D : Type 0} (run : ToldRun D) → IsToldStanding run → length (output_in run.contents) < run.contents.hart.room
room_ahead run on =
    let same : length (output_in run.contents) ≡ length (walk on.setup run.made).output = ap (length {A = ℕ}) (stands_output on.setup (walk on.setup run.made) run.contents on.stands.contents) in
    omega (arith, same, on.stands.place.fits, on.stands.space)

-- a byte that was sent is the output's last one
one_more : (what : Note) (output : List ℕ) → is_some (byte_in what) ≡ true → length (with_note what output) ≡ length output + 1
one_more note.Nothing output sent = cc
one_more (note.Out byte) output sent = length-append output (byte ∷ [])
one_more (note.End halt) output sent = cc

sent_more : {D : Type 0} (s : Setup) (made : ℕ) (contents : Contents D) → ContentsStandFor s (step_seq s made (walk s made)) contents → is_some (byte_in (note_at s made (walk s made))) ≡ true →
    length (output_in contents) ≡ length (before made (walk s made)).output + 1
sent_more s made contents stands sent =
    ap (length {A = ℕ}) (stands_output s (step_seq s made (walk s made)) contents stands ∙ seq_output s made (before made (walk s made)))
    ∙ one_more (note_at s made (walk s made)) (before made (walk s made)).output sent

-- whether its byte has no room is seen after the step
beyond_by : (limit old new : ℕ) (sent : Bool) → (sent ≡ true → new ≡ old + 1) → (sent && nat_lt limit new) ≡ (nat_le limit old && sent)
beyond_by limit old new true more = let is : new ≡ old + 1 = more refl in grind (arith, common_steps, is)
beyond_by limit old new false more = grind (arith, common_steps)

pub beyond_is : {D : Type 0} (s : Setup) (made limit : ℕ) (contents : Contents D) (sent : Bool) → ContentsStandFor s (step_seq s made (walk s made)) contents →
    limit ≡ s.output → sent ≡ is_some (byte_in (note_at s made (walk s made))) →
    (sent && nat_lt limit (length (output_in contents))) ≡ has_no_room s (note_at s made (walk s made)) (before made (walk s made))
beyond_is s made limit contents sent stands is sent_is =
    ap (λ (l : ℕ). sent && nat_lt l (length (output_in contents))) is
    ∙ ap (λ (b : Bool). b && nat_lt s.output (length (output_in contents))) sent_is
    ∙ beyond_by s.output (length (before made (walk s made)).output) (length (output_in contents)) (is_some (byte_in (note_at s made (walk s made)))) (sent_more s made contents stands)
    ∙ sym (room_is s (note_at s made (walk s made)) (before made (walk s made)))

-- what an entry tells
pub entry_out : (s : Setup) (made : ℕ) (entry : Entry) → entry ≡ entry_at s (Some made) (before made (walk s made)) made 0 → entry.out ≡ byte_in (note_at s made (walk s made))
unfolding entry_at
entry_out s made entry is = ap (λ (e : Entry). e.out) is

executed_is : (s : Setup) (made : ℕ) (entry : Entry) → entry ≡ entry_at s (Some made) (before made (walk s made)) made 0 → executed_by entry ≡ executed_at s made
unfolding entry_at
executed_is s made entry is = ap executed_by is

-- no further step
pub over_step : {D : Type 0} (s : Setup) (run : ToldRun D) → ToldStandsFor s run → has_ended run.end ≡ true → IsToldStep s run run None
over_step s run h ended = record { reached = h.place.reached; on = tt; over = Ended (ap has_ended h.place.end_is ∙ ended) }

pub full_step : {D : Type 0} (s : Setup) (run new : ToldRun D) → ToldStandsFor s run → has_ended run.end ≡ false →
    has_no_room s (note_at s run.made (walk s run.made)) (before run.made (walk s run.made)) ≡ true → IsToldStep s run new None
full_step s run new h going full = record { reached = h.place.reached; on = tt; over = Full (ap has_ended h.place.end_is ∙ going) full }

-- a further step
record Steps {D : Type 0} (s : Setup) (run : ToldRun D) (told : Told) : Type 0 where
  stands : ToldStandsFor s run
  going : has_ended run.end ≡ false
  entry : told.entry ≡ entry_at s (Some run.made) (before run.made (walk s run.made)) run.made 0
  fence : told.is_fence ≡ fences s run.made
  room : has_no_room s (note_at s run.made (walk s run.made)) (before run.made (walk s run.made)) ≡ false

next_of : {D : Type 0} (s : Setup) (run : ToldRun D) (told : Told) → Steps s run told → Next s run.made (end_by told.entry.halt (run.made + 1 == s.cycles))
unfolding entry_at
next_of s run told steps =
    goes_on s run.made told.entry.halt (going_place s run steps.stands steps.going) (ap (λ (e : Entry). e.halt) steps.entry) steps.room

pub on_step : {D : Type 0} (s : Setup) (run : ToldRun D) (told : Told) (contents : Contents D) (how : End) (executed : Executed) → ToldStandsFor s run → has_ended run.end ≡ false →
    told.entry ≡ entry_at s (Some run.made) (before run.made (walk s run.made)) run.made 0 → told.is_fence ≡ fences s run.made →
    has_no_room s (note_at s run.made (walk s run.made)) (before run.made (walk s run.made)) ≡ false →
    ContentsStandFor s (with_fence s told.is_fence (step_seq s run.made (walk s run.made))) contents → contents.hart.room ≡ run.contents.hart.room →
    how ≡ end_by told.entry.halt (run.made + 1 == run.cycles) → executed ≡ executed_by told.entry →
    IsToldStep s run (record run { contents = contents; made = run.made + 1; end = how }) (Some executed)
on_step {D} s run told contents how executed h going entry fence room stands space how_is executed_as =
    let next = next_of s run told (record { stands = h; going = going; entry = entry; fence = fence; room = room }) in
    let P : Arch → Type 0 = λ a. ContentsStandFor {D = D} s a contents in
    let E : End → Type 0 = λ e. IsPlace s (run.made + 1) e in
    let same : how ≡ end_by told.entry.halt (run.made + 1 == s.cycles) = how_is ∙ ap (λ (c : ℕ). end_by told.entry.halt (run.made + 1 == c)) h.cycles in
    record {
      reached = h.place.reached;
      on = record {
        stands = record {
          contents = subst P (ap (λ (b : Bool). with_fence s b (step_seq s run.made (walk s run.made))) fence ∙ sym next.state) stands;
          place = subst E (sym same) next.place;
          limit = h.limit;
          cycles = h.cycles;
          space = space ∙ h.space;
          bounded = h.bounded;
        };
        made = refl;
        going = ap has_ended h.place.end_is ∙ going;
        room = room;
        told = executed_as ∙ executed_is s run.made told.entry entry;
      };
      over = tt;
    }

-- the start of a run
pub start_stands : {D : Type 0} (s : Setup) (contents : Contents D) → 1 ≤ s.cycles → s.cycles < 2 ^ 63 → ContentsStandFor s (start s) contents → contents.hart.room ≡ s.output + 1 →
    ToldStandsFor s (record { contents = contents; made = 0; end = end.Running; cycles = s.cycles; limit = s.output })
unfolding alone alone_start start
start_stands s contents some bounded stands room = record {
  contents = stands;
  place = record { reached = refl; end_is = refl; fits = omega arith; within = omega arith; going = λ is. omega (arith, some) };
  limit = refl;
  cycles = refl;
  space = room;
  bounded = bounded;
}
