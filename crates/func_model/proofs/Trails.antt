-- A trail that makes a step, ends, and goes back.
use Rattle.std.proofs.Common.{◌≡◌, ℕ, suc, ◌+◌, ◌-◌, ◌≤◌, ◌<◌, ◌==◌, ◌&&◌, max, ◌^◌, nat_le, Bool, true, false, if◌then◌else◌, List, [], ◌∷◌, ◌++◌, length, take, Option, Some, None, IfSome, is_some, refl, ap, sym, ◌∙◌, subst, add-one, arith, length-append, length-drop}
use Rattle.circular_buffer.specs.Buffer.{Buffer, buffer, keep_last, last_item}
use Rattle.circular_buffer.proofs.Items.{pops_last}
use Rattle.device_bus.specs.declared.undo.Note.{Note}
use Rattle.device_bus.specs.declared.undo.Note.TheVariants as note
use Rattle.mono_model.specs.Effect.{with_note}
use Rattle.mono_model.specs.declared.final_state.End.{End}
use Rattle.mono_model.specs.declared.final_state.End.TheVariants as end
use Rattle.mono_model.specs.declared.setup.Setup.{Setup}
use Rattle.mono_model.specs.Setup.{ram_range}
use Rattle.mono_model.specs.Arch.{Arch, start, synced}
use Rattle.mono_model.specs.Sequence.{byte_in}
use Rattle.mono_model.specs.Final.{has_ended}
use Rattle.mono_model.specs.Alone.{alone, alone_start, has_no_room, with_fence}
use Rattle.func_model.specs.declared.performed.PastStep.{PastStep}
use Rattle.func_model.specs.declared.performed.Made.{Made}
use Rattle.func_model.specs.declared.contents.Contents.{Contents}
use Rattle.func_model.specs.declared.trail.Trail.{Trail}
use Rattle.func_model.specs.Contents.{ContentsStandFor, output_in, retired_in, before}
use Rattle.func_model.specs.Undo.{IsRestorable}
use Rattle.func_model.specs.History.{walk, floor, step_seq, step_undone, end_by, going_on, IsMade, IsPlainStep}
use Rattle.func_model.specs.Trail.{IsPlace, IsBackOver, StepsLeadBack, TrailStandsFor, IsOnTrail, IsTold, IsBack, gone_on}
use Rattle.func_model.proofs.Running.{alone_adds, stands_retired}
use Rattle.func_model.proofs.Walking.{stands_output}
use Rattle.func_model.proofs.Trailing.{steps_more, steps_less, steps_later, room_is, before_output, seq_output, note_at, full_ends, ended_ends, Next, goes_on}

pub both_on : (b c : Bool) → b ≡ true → c ≡ true → (b && c) ≡ true
both_on b c on also = rw (on, also) refl

pub left_off : (b c : Bool) → b ≡ false → (b && c) ≡ false
left_off b c off = rw off refl

pub right_off : (b c : Bool) → c ≡ false → (b && c) ≡ false
right_off true c off = off
right_off false c off = refl

pub running : (e : End) → has_ended e ≡ false → e ≡ end.Running
running end.Pass is = cc
running (end.Fail code) is = cc
running end.Limit is = cc
running end.OutputFull is = cc
running end.Running is = refl

pub place_running : (s : Setup) (made : ℕ) (e : End) → IsPlace s made e → has_ended e ≡ false → IsPlace s made end.Running
place_running s made e place going = let P : End → Type 0 = λ x. IsPlace s made x in subst P (running e going) place

-- what a step needs
pub below_limit : {D : Type 0} (trail : Trail D) → IsOnTrail trail → has_ended trail.end ≡ false → trail.at < 2 ^ 63
below_limit trail on going = omega (arith, on.stands.place.going (running trail.end going), on.stands.bounded)

pub retired_below : {D : Type 0} (trail : Trail D) → IsOnTrail trail → has_ended trail.end ≡ false → retired_in trail.contents < 2 ^ 64 - 1
retired_below trail on going =
    omega (arith, below_limit trail on going, stands_retired on.setup (walk on.setup trail.at) trail.contents on.stands.contents, alone_adds on.setup trail.at, on.stands.place.reached)

pub room_ahead : {D : Type 0} (trail : Trail D) → IsOnTrail trail → length (output_in trail.contents) < trail.contents.hart.room
room_ahead trail on =
    let same : length (output_in trail.contents) ≡ length (walk on.setup trail.at).output = ap (length {A = ℕ}) (stands_output on.setup (walk on.setup trail.at) trail.contents on.stands.contents) in
    omega (arith, same, on.stands.place.fits, on.stands.space)

-- a run that has ended
pub over : {D : Type 0} (s : Setup) (trail : Trail D) → TrailStandsFor s trail → has_ended trail.end ≡ true → IsTold s trail trail (Some trail.end)
over s trail h ended = record {
  stands = h;
  answer = sym (ended_ends s trail.at trail.end h.place ended);
  moved = tt;
  stays = record { at = refl; floor_is = refl };
  history_is = refl;
}

-- what was made of a trail that goes on
pub record Going {D : Type 0} (s : Setup) (trail : Trail D) (is_full : Bool) (made : Made) : Type 0 where
  pub stands : TrailStandsFor s trail
  pub going : has_ended trail.end ≡ false
  pub full : is_full ≡ nat_le trail.limit (length (output_in trail.contents))
  pub made_is : IsMade s trail.at (walk s trail.at) made

no_room_is : {D : Type 0} (s : Setup) (trail : Trail D) (is_full : Bool) (made : Made) → Going s trail is_full made →
    has_no_room s (note_at s trail.at (walk s trail.at)) (before trail.at (walk s trail.at)) ≡ (is_full && made.has_sent)
no_room_is {D} s trail is_full made g =
    let a : Arch = walk s trail.at in
    let output : (before trail.at a).output ≡ output_in trail.contents = before_output trail.at a ∙ sym (stands_output s a trail.contents g.stands.contents) in
    room_is s (note_at s trail.at a) (before trail.at a)
    ∙ ap (λ (o : List ℕ). nat_le s.output (length o) && is_some (byte_in (note_at s trail.at a))) output
    ∙ ap (λ (l : ℕ). nat_le l (length (output_in trail.contents)) && is_some (byte_in (note_at s trail.at a))) (sym g.stands.limit)
    ∙ ap (λ (b : Bool). b && is_some (byte_in (note_at s trail.at a))) (sym g.full)
    ∙ ap (λ (b : Bool). is_full && b) (sym g.made_is.sent)

-- a byte that was sent is the output's last one
one_more : (what : Note) (output : List ℕ) → is_some (byte_in what) ≡ true → length (with_note what output) ≡ length output + 1
one_more note.Nothing output sent = cc
one_more (note.Out byte) output sent = length-append output (byte ∷ [])
one_more (note.End halt) output sent = cc

pub sent_one : {D : Type 0} (s : Setup) (trail : Trail D) (made : Made) (contents : Contents D) → TrailStandsFor s trail → IsMade s trail.at (walk s trail.at) made →
    ContentsStandFor s (step_seq s trail.at (walk s trail.at)) contents → made.has_sent ≡ true → length (output_in contents) ≡ length (output_in trail.contents) + 1
sent_one {D} s trail made contents h is_made stands sent =
    let a : Arch = walk s trail.at in
    let behind : output_in contents ≡ with_note (note_at s trail.at a) (before trail.at a).output =
    stands_output s (step_seq s trail.at a) contents stands ∙ seq_output s trail.at (before trail.at a) in
    let output : (before trail.at a).output ≡ output_in trail.contents = before_output trail.at a ∙ sym (stands_output s a trail.contents h.contents) in
    ap (length {A = ℕ}) behind
    ∙ one_more (note_at s trail.at a) (before trail.at a).output (sym is_made.sent ∙ sent)
    ∙ ap (λ (o : List ℕ). length o + 1) output

-- the output is full: the step is taken back
pub stopped_full : {D : Type 0} (s : Setup) (trail : Trail D) (is_full : Bool) (made : Made) (contents : Contents D) → Going s trail is_full made → (is_full && made.has_sent) ≡ true →
    ContentsStandFor s (step_undone (ram_range s.params) made.past (step_seq s trail.at (walk s trail.at))) contents → contents.hart.room ≡ trail.contents.hart.room →
    IsTold s trail (record trail { contents = contents }) (Some end.OutputFull)
stopped_full {D} s trail is_full made contents g full stands room =
    let h = g.stands in
    let P : Arch → Type 0 = λ a. ContentsStandFor {D = D} s a contents in
    record {
      stands = record { contents = subst P g.made_is.back stands; place = h.place; back = h.back; held = h.held; limit = h.limit; cycles = h.cycles; space = room ∙ h.space; bounded = h.bounded };
      answer = sym (full_ends s trail.at (place_running s trail.at trail.end h.place g.going) (no_room_is s trail is_full made g ∙ full));
      moved = tt;
      stays = record { at = refl; floor_is = refl };
      history_is = refl;
    }

-- a further step
next_of : {D : Type 0} (s : Setup) (trail : Trail D) (is_full : Bool) (made : Made) → Going s trail is_full made → (is_full && made.has_sent) ≡ false →
    Next s trail.at (end_by made.halt (trail.at + 1 == s.cycles))
next_of s trail is_full made g room =
    goes_on s trail.at made.halt (place_running s trail.at trail.end g.stands.place g.going) g.made_is.halt (no_room_is s trail is_full made g ∙ room)

next_place : {D : Type 0} (s : Setup) (trail : Trail D) (is_full : Bool) (made : Made) (how : End) → Going s trail is_full made → (is_full && made.has_sent) ≡ false →
    how ≡ end_by made.halt (trail.at + 1 == trail.cycles) → IsPlace s (trail.at + 1) how
next_place s trail is_full made how g room is =
    let same : how ≡ end_by made.halt (trail.at + 1 == s.cycles) = is ∙ ap (λ (c : ℕ). end_by made.halt (trail.at + 1 == c)) g.stands.cycles in
    let P : End → Type 0 = λ e. IsPlace s (trail.at + 1) e in
    subst P (sym same) (next_of s trail is_full made g room).place

next_state : {D : Type 0} (s : Setup) (trail : Trail D) (is_full : Bool) (made : Made) (fence : Bool) → Going s trail is_full made → (is_full && made.has_sent) ≡ false →
    made.is_fence ≡ fence → walk s (trail.at + 1) ≡ with_fence s fence (step_seq s trail.at (walk s trail.at))
next_state s trail is_full made fence g room is =
    (next_of s trail is_full made g room).state
    ∙ ap (λ (f : Bool). with_fence s f (step_seq s trail.at (walk s trail.at))) (sym g.made_is.fence ∙ is)

next_floor : {D : Type 0} (s : Setup) (trail : Trail D) (is_full : Bool) (made : Made) (fence : Bool) → Going s trail is_full made → made.is_fence ≡ fence →
    (if fence then trail.at + 1 else max trail.floor (trail.at + 1 - trail.steps.capacity)) ≡ floor trail.steps.capacity s trail.at trail.floor
next_floor s trail is_full made fence g is =
    ap (λ (f : Bool). if f then trail.at + 1 else max trail.floor (trail.at + 1 - trail.steps.capacity)) (sym is ∙ g.made_is.fence)

-- behind a FENCE.I nothing is remembered
pub fenced : {D : Type 0} (s : Setup) (trail : Trail D) (is_full : Bool) (made : Made) (how : End) (contents : Contents D) → Going s trail is_full made → (is_full && made.has_sent) ≡ false →
    how ≡ end_by made.halt (trail.at + 1 == trail.cycles) → made.is_fence ≡ true → ContentsStandFor s (synced s (step_seq s trail.at (walk s trail.at))) contents →
    contents.hart.room ≡ trail.contents.hart.room →
    IsTold s trail (record trail { contents = contents; steps = buffer [] trail.steps.capacity; at = trail.at + 1; floor = trail.at + 1; end = how }) None
fenced {D} s trail is_full made how contents g room is fence stands space =
    let h = g.stands in
    let P : Arch → Type 0 = λ a. ContentsStandFor {D = D} s a contents in
    record {
      stands = record {
        contents = subst P (sym (next_state s trail is_full made true g room fence)) stands;
        place = next_place s trail is_full made how g room is;
        back = tt;
        held = omega arith;
        limit = h.limit;
        cycles = h.cycles;
        space = space ∙ h.space;
        bounded = h.bounded;
      };
      answer = sym (next_of s trail is_full made g room).none;
      moved = record { at = refl; floor_is = next_floor s trail is_full made true g fence };
      stays = tt;
      history_is = refl;
    }

-- a step that is remembered, and the oldest forgotten where there is no room
later_floor : (old at cap count whole : ℕ) → old + count ≡ at → whole ≡ count + 1 → old + (whole - cap) ≡ max old (at + 1 - cap)
later_floor old at cap count whole held is = omega arith

later_held : (old at cap count whole rest : ℕ) → old + count ≡ at → whole ≡ count + 1 → rest ≡ whole - (whole - cap) → max old (at + 1 - cap) + rest ≡ at + 1
later_held old at cap count whole rest held is left = omega arith

one_longer : (xs : List PastStep) (x : PastStep) → length (xs ++ x ∷ []) ≡ length xs + 1
one_longer xs x = length-append xs (x ∷ [])

pub noted : {D : Type 0} (s : Setup) (trail : Trail D) (is_full : Bool) (made : Made) (how : End) (contents : Contents D) → Going s trail is_full made → (is_full && made.has_sent) ≡ false →
    how ≡ end_by made.halt (trail.at + 1 == trail.cycles) → made.is_fence ≡ false → IsRestorable made.past.past → ContentsStandFor s (step_seq s trail.at (walk s trail.at)) contents →
    contents.hart.room ≡ trail.contents.hart.room →
    IsTold s trail (record trail {
      contents = contents;
      steps = buffer (keep_last trail.steps.capacity (trail.steps.items ++ made.past ∷ [])) trail.steps.capacity;
      at = trail.at + 1;
      floor = max trail.floor (trail.at + 1 - trail.steps.capacity);
      end = how;
    }) None
noted {D} s trail is_full made how contents g room is fence restorable stands space =
    let h = g.stands in
    let all = trail.steps.items ++ made.past ∷ [] in
    let P : Arch → Type 0 = λ a. ContentsStandFor {D = D} s a contents in
    let state : walk s (trail.at + 1) ≡ step_seq s trail.at (walk s trail.at) = next_state s trail is_full made false g room fence in
    let last : IsBackOver s trail.at made.past = record {
      place = place_running s trail.at trail.end h.place g.going;
      back = ap (step_undone (ram_range s.params) made.past) (ap (walk s) (sym (add-one trail.at)) ∙ state) ∙ g.made_is.back;
      restorable = restorable;
    } in
    let B : ℕ → Type 0 = λ n. IsBackOver s n made.past in
    let leads : StepsLeadBack s trail.floor all = steps_more s trail.floor trail.steps.items made.past h.back (subst B (sym h.held) last) in
    let F : ℕ → Type 0 = λ n. StepsLeadBack s n (keep_last trail.steps.capacity all) in
    let whole : length all ≡ length trail.steps.items + 1 = one_longer trail.steps.items made.past in
    record {
      stands = record {
        contents = subst P (sym state) stands;
        place = next_place s trail is_full made how g room is;
        back = subst F (later_floor trail.floor trail.at trail.steps.capacity (length trail.steps.items) (length all) h.held whole)
            (steps_later s trail.floor (length all - trail.steps.capacity) all (omega arith) leads);
        held = later_held trail.floor trail.at trail.steps.capacity (length trail.steps.items) (length all) (length (keep_last trail.steps.capacity all)) h.held whole
            (length-drop (length all - trail.steps.capacity) all);
        limit = h.limit;
        cycles = h.cycles;
        space = space ∙ h.space;
        bounded = h.bounded;
      };
      answer = sym (next_of s trail is_full made g room).none;
      moved = record { at = refl; floor_is = next_floor s trail is_full made false g fence };
      stays = tt;
      history_is = refl;
    }

-- a step that goes on is remembered
pub passed : {D : Type 0} (s : Setup) (trail : Trail D) (past : PastStep) (contents : Contents D) → TrailStandsFor s trail → has_ended trail.end ≡ false → IsPlainStep trail.at trail.contents contents past →
    contents.hart.room ≡ trail.contents.hart.room → IsTold s trail (gone_on past (record trail { contents = contents })) None
passed {D} s trail past contents h going step room =
    let g : Going s trail (nat_le trail.limit (length (output_in trail.contents))) (going_on past) = record {
      stands = h;
      going = going;
      full = refl;
      made_is = step.made s (walk s trail.at) h.contents;
    } in
    noted s trail _ (going_on past) (end_by None (trail.at + 1 == trail.cycles)) contents g (right_off _ false refl) refl refl step.restorable (step.stands s (walk s trail.at) h.contents) room

-- the newest step that is remembered
pub newest_is : (steps : List PastStep) (newest : Option PastStep) → newest ≡ last_item steps → IfSome newest (λ past. steps ≡ take (length steps - 1) steps ++ past ∷ [])
newest_is steps None is = tt
newest_is steps (Some past) is = rw (← is) at (pops_last steps)

pub none_left : (steps : List PastStep) → None ≡ last_item steps → steps ≡ []
none_left steps is =
    let empty : (steps ≡ []) × (take (length steps - 1) steps ≡ []) = rw (← is) at (pops_last steps) in
    empty.0

last_over : {D : Type 0} (s : Setup) (trail : Trail D) (rest : List PastStep) (past : PastStep) → TrailStandsFor s trail → trail.steps.items ≡ rest ++ past ∷ [] →
    StepsLeadBack s trail.floor rest × IsBackOver s (trail.at - 1) past
last_over s trail rest past h is =
    let L : List PastStep → Type 0 = λ xs. StepsLeadBack s trail.floor xs in
    let less = steps_less s trail.floor rest past (subst L is h.back) in
    let B : ℕ → Type 0 = λ n. IsBackOver s n past in
    let count : length trail.steps.items ≡ length rest + 1 = ap (length {A = PastStep}) is ∙ one_longer rest past in
    let end : trail.floor + length rest ≡ trail.at - 1 = omega (arith, count, h.held) in
    (less.0, subst B end less.1)

pub newest_restorable : {D : Type 0} (trail : Trail D) (rest : List PastStep) (past : PastStep) → IsOnTrail trail → trail.steps.items ≡ rest ++ past ∷ [] → IsRestorable past.past
newest_restorable trail rest past on is = (last_over on.setup trail rest past on.stands is).1.restorable

pub some_made : {D : Type 0} (trail : Trail D) (rest : List PastStep) (past : PastStep) → IsOnTrail trail → trail.steps.items ≡ rest ++ past ∷ [] → trail.floor < trail.at
some_made trail rest past on is =
    let count : length trail.steps.items ≡ length rest + 1 = ap (length {A = PastStep}) is ∙ one_longer rest past in
    omega (arith, count, on.stands.held)

pub none_made : {D : Type 0} (trail : Trail D) → IsOnTrail trail → trail.steps.items ≡ [] → trail.at ≡ trail.floor
none_made trail on is =
    let count : length trail.steps.items ≡ 0 = ap (length {A = PastStep}) is in
    omega (arith, count, on.stands.held)

pub gone_back : {D : Type 0} (s : Setup) (trail : Trail D) (rest : List PastStep) (past : PastStep) (contents : Contents D) → TrailStandsFor s trail → trail.steps.items ≡ rest ++ past ∷ [] →
    ContentsStandFor s (step_undone (ram_range s.params) past (walk s trail.at)) contents → contents.hart.room ≡ trail.contents.hart.room →
    TrailStandsFor s (record trail { contents = contents; steps = buffer rest trail.steps.capacity; at = trail.at - 1; end = end.Running })
gone_back {D} s trail rest past contents h is stands room =
    let last = last_over s trail rest past h is in
    let P : Arch → Type 0 = λ a. ContentsStandFor {D = D} s a contents in
    let count : length trail.steps.items ≡ length rest + 1 = ap (length {A = PastStep}) is ∙ one_longer rest past in
    let next : trail.at ≡ suc (trail.at - 1) = omega (arith, count, h.held) in
    record {
      contents = subst P (ap (λ (n : ℕ). step_undone (ram_range s.params) past (walk s n)) next ∙ last.1.back) stands;
      place = last.1.place;
      back = last.0;
      held = omega (arith, count, h.held);
      limit = h.limit;
      cycles = h.cycles;
      space = room ∙ h.space;
      bounded = h.bounded;
    }

-- a trail at the start of a run
pub opening_stands : {D : Type 0} (s : Setup) (contents : Contents D) (capacity : ℕ) → 1 ≤ s.cycles → s.cycles < 2 ^ 63 → ContentsStandFor s (start s) contents → contents.hart.room ≡ s.output + 1 →
    TrailStandsFor s (record { contents = contents; steps = buffer [] capacity; at = 0; floor = 0; end = end.Running; cycles = s.cycles; limit = s.output })
unfolding alone alone_start start
opening_stands s contents capacity some bounded stands room = record {
  contents = stands;
  place = record { reached = refl; end_is = refl; fits = omega arith; within = omega arith; going = λ is. omega (arith, some) };
  back = tt;
  held = refl;
  limit = refl;
  cycles = refl;
  space = room;
  bounded = bounded;
}

-- where none is remembered, going back changes nothing
pub none_back : {D : Type 0} (s : Setup) (trail : Trail D) (steps : Buffer PastStep) → TrailStandsFor s trail → trail.steps.items ≡ [] →
    steps ≡ buffer (take (length trail.steps.items - 1) trail.steps.items) trail.steps.capacity → TrailStandsFor s (record trail { steps = steps })
none_back s trail steps h empty is =
    let same : steps.items ≡ trail.steps.items =
    ap (λ (b : Buffer PastStep). b.items) is ∙ ap (λ (xs : List PastStep). take (length xs - 1) xs) empty ∙ sym empty in
    let L : List PastStep → Type 0 = λ xs. StepsLeadBack s trail.floor xs in
    record {
      contents = h.contents;
      place = h.place;
      back = subst L (sym same) h.back;
      held = ap (λ (xs : List PastStep). trail.floor + length xs) same ∙ h.held;
      limit = h.limit;
      cycles = h.cycles;
      space = h.space;
      bounded = h.bounded;
    }

pub stays_back : {D : Type 0} (trail : Trail D) (steps : Buffer PastStep) → trail.at ≡ trail.floor → steps.capacity ≡ trail.steps.capacity → IsBack trail (record trail { steps = steps }) false
stays_back trail steps here capacity = record { oldest = (λ is. here, λ is. refl); at = omega arith; floor_is = refl; history_is = capacity }

pub moves_back : {D : Type 0} (trail : Trail D) (contents : Contents D) (steps : Buffer PastStep) → trail.floor < trail.at → steps.capacity ≡ trail.steps.capacity →
    IsBack trail (record trail { contents = contents; steps = steps; at = trail.at - 1; end = end.Running }) true
moves_back trail contents steps above capacity = record { oldest = (λ is. cc, λ is. absurd (omega (arith, is, above))); at = omega arith; floor_is = refl; history_is = capacity }
