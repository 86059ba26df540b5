-- A walk that steps, goes back, commits, and obeys.
use Rattle.std.proofs.Common.{◌≡◌, nat_le, ℕ, zero, suc, ◌+◌, ◌-◌, ◌≤◌, ◌<◌, Bool, true, false, if◌then◌else◌, List, [], ◌∷◌, ◌++◌, length, slice_get, Option, Some, None, IfSome, refl, ap, sym, ◌∙◌, subst, add-one, arith}
use Rattle.std.proofs.lemmas.Grind.{common_steps}
use Rattle.fsim_base.specs.declared.access.RamRange.{RamRange}
use Rattle.rollback_cmds.specs.declared.order.Order.{Order}
use Rattle.trace_entry.specs.declared.Entry.{Entry}
use Rattle.undo_journal.specs.declared.past.Past.{Past}
use Rattle.undo_journal.specs.Journal.{Log, newest}
use Rattle.mono_model.specs.declared.setup.Setup.{Setup}
use Rattle.mono_model.specs.Setup.{ram_range}
use Rattle.mono_model.specs.Arch.{Arch, start}
use Rattle.mono_model.specs.Sequence.{seq, entry_at}
use Rattle.mono_model.specs.Path.{path, entry, time_of}
use Rattle.mono_model.specs.Split.{room}
use Rattle.func_model.specs.declared.contents.Contents.{Contents}
use Rattle.func_model.specs.declared.walk.Walk.{Walk}
use Rattle.func_model.specs.Hart.{arch_of}
use Rattle.func_model.specs.Undo.{undone, IsRestorable}
use Rattle.func_model.specs.Telling.{IsNextStep}
use Rattle.func_model.specs.Contents.{ContentsStandFor, output_in, retired_in}
use Rattle.func_model.specs.Walk.{IsStep, LeadsBack, IsOnPath, WalkStandsFor, IsProduced, noted_in}
use Rattle.mono_model.proofs.Path.{path_next, goes_on_more}
use Rattle.func_model.proofs.Path.{retired_within}
use Rattle.func_model.proofs.Leading.{leads_more}
use Rattle.func_model.proofs.Outputs.{outputs_on, outputs_within}

-- what a side holds is seen on the path
pub stands_retired : {D : Type 0} (s : Setup) (a : Arch) (contents : Contents D) → ContentsStandFor s a contents → retired_in contents ≡ a.csrs.retired
unfolding arch_of
stands_retired s a contents h = ap (λ (x : Arch). x.csrs.retired) h.arch

pub stands_output : {D : Type 0} (s : Setup) (a : Arch) (contents : Contents D) → ContentsStandFor s a contents → output_in contents ≡ a.output
unfolding arch_of
stands_output s a contents h = ap (λ (x : Arch). x.output) h.arch

pub walk_retired : {D : Type 0} (s : Setup) (os : List Order) (walk : Walk D) → IsOnPath s os walk → retired_in walk.contents ≤ walk.position
walk_retired s os walk h = omega (arith, stands_retired s (path s os walk.position) walk.contents h.contents, retired_within s os walk.position)

-- the path's output where the journal leads back from
pub one_longer : (xs : List Past) (x : Past) → length (xs ++ x ∷ []) ≡ length xs + 1
one_longer [] x = refl
one_longer (y ∷ xs) x = omega (arith, one_longer xs x)

pub ends_at : (m n : ℕ) (steps : List Past) → m ≤ n → length steps ≡ n - m → m + length steps ≡ n
ends_at m n steps below held = omega arith

ahead_output : {D : Type 0} (s : Setup) (os : List Order) (walk : Walk D) → IsOnPath s os walk → walk.committed ≤ walk.position →
    length (path s os walk.position).output ≤ s.output + (walk.position - walk.committed)
ahead_output s os walk h below =
    let end : walk.committed + length walk.journal.steps ≡ walk.position = ends_at walk.committed walk.position walk.journal.steps below h.held in
    let P : ℕ → Type 0 = λ n. length (path s os n).output ≤ length (path s os walk.committed).output + length walk.journal.steps in
    let most : P walk.position = subst P end (outputs_within (ram_range s.params) (path s os) walk.committed walk.journal.steps h.back) in
    omega (arith, most, h.within, h.held)

-- the output has room for what the next instruction sends
room_ahead : (most output bound position committed capacity : ℕ) → output ≤ most + (position - committed) → committed ≤ position → position < committed + capacity → bound ≡ most + capacity → output < bound
room_ahead most output bound position committed capacity within below room is = omega arith

room_behind : (most output later bound position committed capacity : ℕ) → output ≤ later → later ≤ most → position < committed + capacity → 2 ≤ capacity → bound ≡ most + capacity → output < bound
room_behind most output later bound position committed capacity within fits room some is = omega arith

some_room : (s : Setup) → 2 ≤ room s
some_room s = omega arith

pub by_side : {A : Type 0} (m n : ℕ) → (m ≤ n → A) → (n < m → A) → A
by_side {A} m n above below = at (nat_le m n) refl
  where
    at : (b : Bool) → nat_le m n ≡ b → A
    at true is = above (grind (arith, common_steps))
    at false is = below (grind (arith, common_steps))

pub step_room : {D : Type 0} (s : Setup) (os : List Order) (walk : Walk D) → WalkStandsFor s os walk → walk.is_stopped ≡ false → walk.position < walk.committed + walk.journal.room →
    length (output_in walk.contents) < walk.contents.hart.room
step_room s os walk h running room_is =
    let same : length (output_in walk.contents) ≡ length (path s os walk.position).output = ap (length {A = ℕ}) (stands_output s (path s os walk.position) walk.contents h.holds.contents) in
    let within : walk.position < walk.committed + room s = omega (arith, h.holds.capacity, room_is) in
    by_side walk.committed walk.position
    (λ below. room_ahead s.output _ _ walk.position walk.committed (room s) (omega (arith, same, ahead_output s os walk h.holds below)) below within h.holds.space)
    (λ above. room_behind s.output _ (length (path s os walk.committed).output) _ walk.position walk.committed (room s)
    (omega (arith, same, outputs_on s os walk.position walk.committed (h.on running) (omega arith))) h.holds.within within (some_room s) h.holds.space)

-- the numbers of undo steps
place_number : (range : RamRange) (at : ℕ → Arch) (m : ℕ) (steps : List Past) (i : ℕ) (past : Past) → LeadsBack range at m steps → slice_get steps i ≡ Some past → past.number ≡ m + i
place_number range at m [] i past leads there = cc
place_number range at m (first ∷ later) zero past leads there =
    let same : first ≡ past = some_same first past there in
    ap (λ (p : Past). p.number) (sym same) ∙ leads.0.number ∙ omega arith
  where
    some_same : (x y : Past) → Some x ≡ Some y → x ≡ y
    some_same x y e = cc
place_number range at m (first ∷ later) (suc i) past leads there = place_number range at (suc m) later i past leads.1 there ∙ omega arith

below_end : (range : RamRange) (at : ℕ → Arch) (m : ℕ) (steps : List Past) (i : ℕ) (found : Option Past) → LeadsBack range at m steps → slice_get steps i ≡ found → i < length steps →
    IfSome found (λ past. past.number < m + length steps)
below_end range at m steps i None leads there inside = tt
below_end range at m steps i (Some past) leads there inside = omega (arith, place_number range at m steps i past leads there)

newest_below : (range : RamRange) (at : ℕ → Arch) (m : ℕ) (steps : List Past) → LeadsBack range at m steps → IfSome (newest steps) (λ past. past.number < m + length steps)
newest_below range at m [] leads = tt
newest_below range at m (first ∷ later) leads = below_end range at m (first ∷ later) (length (first ∷ later) - 1) _ leads refl (omega arith)

pub note_above : {D : Type 0} (s : Setup) (os : List Order) (walk : Walk D) (n : ℕ) → IsOnPath s os walk → walk.committed ≤ walk.position → n ≡ walk.position →
    IfSome (newest walk.journal.steps) (λ past. past.number < n)
note_above s os walk n h below is =
    let P : ℕ → Type 0 = λ k. IfSome (newest walk.journal.steps) (λ past. past.number < k) in
    subst P (ends_at walk.committed walk.position walk.journal.steps below h.held ∙ sym is) (newest_below (ram_range s.params) (path s os) walk.committed walk.journal.steps h.back)

-- what one step makes of a walk, with what its contents ensure
pub record Stepping {D : Type 0} (s : Setup) (os : List Order) (old : Walk D) (contents : Contents D) : Type 0 where
  pub stands : ContentsStandFor s (seq s (time_of os old.position) (path s os old.position)) contents
  pub space : contents.hart.room ≡ old.contents.hart.room

next_state : {D : Type 0} (s : Setup) (os : List Order) (old : Walk D) (contents : Contents D) → WalkStandsFor s os old → old.is_stopped ≡ false → Stepping s os old contents →
    ContentsStandFor s (path s os (old.position + 1)) contents
next_state {D} s os old contents h running made =
    let P : Arch → Type 0 = λ a. ContentsStandFor {D = D} s a contents in
    subst P (sym (ap (path s os) (add-one old.position) ∙ path_next s os old.position (h.on running))) made.stands

pub noted_stands : {D : Type 0} (s : Setup) (os : List Order) (old : Walk D) (contents : Contents D) (journal : Log) (past : Past) → WalkStandsFor s os old → old.is_stopped ≡ false →
    Stepping s os old contents → old.committed ≤ old.position → journal ≡ record old.journal { steps = old.journal.steps ++ past ∷ [] } →
    past.number ≡ old.position → undone (ram_range s.params) past (seq s (time_of os old.position) (path s os old.position)) ≡ path s os old.position → IsRestorable past →
    WalkStandsFor s os (record old { contents = contents; journal = journal; position = old.position + 1 })
noted_stands {D} s os old contents journal past h running made below noted number back restorable =
    let end : old.committed + length old.journal.steps ≡ old.position = ends_at old.committed old.position old.journal.steps below h.holds.held in
    let step : IsStep (ram_range s.params) (path s os) old.position past = record {
      number = number;
      back = ap (undone (ram_range s.params) past) (path_next s os old.position (h.on running)) ∙ back;
      restorable = restorable;
    } in
    let S : ℕ → Type 0 = λ n. IsStep (ram_range s.params) (path s os) n past in
    let steps : journal.steps ≡ old.journal.steps ++ past ∷ [] = ap (λ (j : Log). j.steps) noted in
    let L : List Past → Type 0 = λ xs. LeadsBack (ram_range s.params) (path s os) old.committed xs in
    record {
      holds = record {
        contents = next_state s os old contents h running made;
        back = subst L (sym steps) (leads_more (ram_range s.params) (path s os) old.committed old.journal.steps past h.holds.back (subst S (sym end) step));
        held = ap (length {A = Past}) steps ∙ one_longer old.journal.steps past ∙ grown old.position old.committed (length old.journal.steps) below h.holds.held;
        capacity = ap (λ (j : Log). j.room) noted ∙ h.holds.capacity;
        limit = h.holds.limit;
        space = made.space ∙ h.holds.space;
        given = h.holds.given;
        epoch = h.holds.epoch;
        within = h.holds.within;
      };
      done = h.done;
      stopped = h.stopped;
      on = λ still. goes_on_more os old.position (h.on running);
    }
  where
    grown : (position committed count : ℕ) → committed ≤ position → count ≡ position - committed → count + 1 ≡ position + 1 - committed
    grown position committed count below is = omega arith

pub unnoted_stands : {D : Type 0} (s : Setup) (os : List Order) (old : Walk D) (contents : Contents D) → WalkStandsFor s os old → old.is_stopped ≡ false → Stepping s os old contents →
    old.position < old.committed → WalkStandsFor s os (record old { contents = contents; position = old.position + 1 })
unnoted_stands {D} s os old contents h running made above = record {
  holds = record {
    contents = next_state s os old contents h running made;
    back = h.holds.back;
    held = h.holds.held ∙ none old.position old.committed above;
    capacity = h.holds.capacity;
    limit = h.holds.limit;
    space = made.space ∙ h.holds.space;
    given = h.holds.given;
    epoch = h.holds.epoch;
    within = h.holds.within;
  };
  done = h.done;
  stopped = h.stopped;
  on = λ still. goes_on_more os old.position (h.on running);
}
  where
    none : (position committed : ℕ) → position < committed → position - committed ≡ position + 1 - committed
    none position committed above = omega arith

-- a walk behind an instruction that was executed, with what takes that back noted unless it is committed
noted_on : {D : Type 0} (s : Setup) (os : List Order) (old : Walk D) (contents : Contents D) (past : Past) → WalkStandsFor s os old → old.is_stopped ≡ false → Stepping s os old contents →
    past.number ≡ old.position → undone (ram_range s.params) past (seq s (time_of os old.position) (path s os old.position)) ≡ path s os old.position → IsRestorable past →
    WalkStandsFor s os (noted_in past (record old { contents = contents }))
noted_on {D} s os old contents past h running made number back restorable = at (nat_le old.committed old.position) refl
  where
    at : (below : Bool) → nat_le old.committed old.position ≡ below → WalkStandsFor s os (record old {
      contents = contents;
      journal = if below then record old.journal { steps = old.journal.steps ++ past ∷ [] } else old.journal;
      position = old.position + 1;
    })
    at true is = noted_stands s os old contents (record old.journal { steps = old.journal.steps ++ past ∷ [] }) past h running made (grind (arith, common_steps)) refl number back restorable
    at false is = unnoted_stands s os old contents h running made (grind (arith, common_steps))

-- what a step makes of a walk and tells of it, by what its contents ensure at its time
pub produced_on : {D : Type 0} (s : Setup) (os : List Order) (old : Walk D) (contents : Contents D) (time : Option ℕ) (told : Entry × Past) (new : Walk D) → WalkStandsFor s os old →
    old.is_stopped ≡ false → time ≡ time_of os old.position → IsNextStep s time old.position old.epoch (path s os old.position) contents told → contents.hart.room ≡ old.contents.hart.room →
    told.1.number ≡ old.position → IsRestorable told.1 → new ≡ noted_in told.1 (record old { contents = contents }) → IsProduced s os old new (Some told.0)
unfolding entry
produced_on {D} s os old contents time told new h running time_is step space number restorable new_is =
    let a : Arch = path s os old.position in
    let S : Option ℕ → Type 0 = λ t. IsNextStep {D = D} s t old.position old.epoch a contents told in
    let W : Walk D → Type 0 = λ walk. WalkStandsFor s os walk in
    let at : S (time_of os old.position) = subst S time_is step in
    let made : Stepping s os old contents = record { stands = at.stands; space = space } in
    record {
      entry_is = at.entry ∙ ap (λ (e : ℕ). entry_at s (time_of os old.position) a old.position e) h.holds.epoch;
      stands = subst W (sym new_is) (noted_on s os old contents told.1 h running made number at.back restorable);
    }

-- a walk at the start of a run
path_start : (s : Setup) → path s [] 0 ≡ start s
unfolding path
path_start s = refl

pub opening_stands : {D : Type 0} (s : Setup) (contents : Contents D) (journal : Log) → ContentsStandFor s (start s) contents → contents.hart.room ≡ s.output + room s → journal ≡ record { room = room s; steps = [] } →
    WalkStandsFor s [] (record { contents = contents; journal = journal; position = 0; committed = 0; epoch = 0; given = None; is_stopped = false; limit = s.output })
unfolding start
opening_stands {D} s contents journal stands space empty =
    let P : Arch → Type 0 = λ a. ContentsStandFor {D = D} s a contents in
    let L : List Past → Type 0 = λ xs. LeadsBack (ram_range s.params) (path s []) 0 xs in
    let W : Arch → Type 0 = λ a. length a.output ≤ s.output in
    record {
      holds = record {
        contents = subst P (sym (path_start s)) stands;
        back = subst L (sym (ap (λ (j : Log). j.steps) empty)) tt;
        held = ap (λ (j : Log). length j.steps) empty;
        capacity = ap (λ (j : Log). j.room) empty;
        limit = refl;
        space = space;
        given = λ n. refl;
        epoch = refl;
        within = subst W (sym (path_start s)) (omega arith);
      };
      done = refl;
      stopped = refl;
      on = λ still. tt;
    }
