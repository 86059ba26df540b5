-- A run backwards, position by position.
use Rattle.std.proofs.Common.{◌≡◌, ℕ, zero, suc, ◌+◌, ◌-◌, ◌≤◌, ◌<◌, ◌==◌, nat_lt, ◌&&◌, max, Bool, true, false, Option, Some, None, option_map, if◌then◌else◌, refl, ap, sym, ◌∙◌, subst, arith}
use Rattle.std.proofs.lemmas.Grind.{common_steps}
use Rattle.std.specs.Option.{option_or}
use Rattle.mono_model.specs.declared.final_state.End.{End}
use Rattle.mono_model.specs.declared.setup.Setup.{Setup}
use Rattle.func_model.specs.declared.trail.Trail.{Trail}
use Rattle.func_model.specs.History.{end_at}
use Rattle.func_model.specs.Trail.{IsBack, IsTold, TrailStandsFor}
use Rattle.gdb_model.specs.Session.{Session, watched}
use Rattle.gdb_model.specs.Stops.{Range, Reason, Stopped, back, back_reason, begin, is_stop, last_stop, stop, stop_if, stopped_or, watch}
use Rattle.gdb_session.specs.declared.runs.Reason.{Reason as CodeReason}
use Rattle.gdb_session.specs.declared.runs.Reason.TheVariants as reason
use Rattle.gdb_session.specs.Runs.{HasGoneBack}
use Rattle.gdb_session.specs.Standing.{reason_in}
use Rattle.gdb_session.proofs.Looking.{IsLooked, watched_no_fence, watched_steps}

-- the first reason, by its parts
abbrev first_of : Bool → Bool → Option ℕ → Option Reason
first_of stops begins byte = option_or (stop_if stops stop) (option_or (stop_if begins begin) (option_map watch byte))

first_stops : (stops begins : Bool) (byte : Option ℕ) → stops ≡ true → first_of stops begins byte ≡ Some stop
first_stops stops begins byte is = rw is refl

first_begins : (stops begins : Bool) (byte : Option ℕ) → stops ≡ false → begins ≡ true → first_of stops begins byte ≡ Some begin
first_begins stops begins byte is oldest = rw (is, oldest) refl

first_watches : (stops begins : Bool) (byte : Option ℕ) (it : ℕ) → stops ≡ false → begins ≡ false → byte ≡ Some it → first_of stops begins byte ≡ Some (watch it)
first_watches stops begins byte it is not_oldest told = rw (is, not_oldest, told) refl

first_none : (stops begins : Bool) (byte : Option ℕ) → stops ≡ false → begins ≡ false → byte ≡ None → first_of stops begins byte ≡ None
first_none stops begins byte is not_oldest none = rw (is, not_oldest, none) refl

-- one position of the search
here_at : (s : Setup) (o : Session) (range : Range) (at : ℕ) (why : Reason) → back_reason s o range at ≡ Some why → last_stop s o range at ≡ record { at = at; reason = why }
unfolding last_stop
here_at s o range zero why is = ap (λ (r : Option Reason). stopped_or r zero (record { at = zero; reason = begin })) is
here_at s o range (suc at) why is = ap (λ (r : Option Reason). stopped_or r (suc at) (last_stop s o range at)) is

on_from : (s : Setup) (o : Session) (range : Range) (at : ℕ) → back_reason s o range (suc at) ≡ None → last_stop s o range (suc at) ≡ last_stop s o range at
unfolding last_stop
on_from s o range at is = ap (λ (r : Option Reason). stopped_or r (suc at) (last_stop s o range at)) is

-- what holds of a run backwards that went so many steps
pub record GoingBack {D : Type 0} (s : Setup) (o : Session) (range : Range) (opened now : Trail D) (count : ℕ) : Type 0 where
  pub stands : TrailStandsFor s now
  pub made : now.at + count ≡ opened.at
  pub floor_is : now.floor ≡ opened.floor
  pub history_is : now.steps.capacity ≡ opened.steps.capacity
  pub here : (nat_lt now.at o.at && is_stop s o range now.at) ≡ false
  pub same : last_stop s o range now.at ≡ back s range o

not_below : (n : ℕ) → nat_lt n n ≡ false
not_below n = grind (arith, common_steps)

pub back_start : {D : Type 0} (s : Setup) (o : Session) (range : Range) (opened : Trail D) → o.at ≡ opened.at → TrailStandsFor s opened → GoingBack s o range opened opened 0
back_start s o range opened at h = record {
  stands = h;
  made = omega arith;
  floor_is = refl;
  history_is = refl;
  here = ap (λ (n : ℕ). nat_lt opened.at n && is_stop s o range opened.at) at ∙ ap (λ (b : Bool). b && is_stop s o range opened.at) (not_below opened.at);
  same = ap (last_stop s o range) (sym at);
}

stopped_by : {D : Type 0} (s : Setup) (o : Session) (range : Range) (opened now new : Trail D) (count : ℕ) (why : Reason) (told : CodeReason) → GoingBack s o range opened now count → back_reason s o range now.at ≡ Some why →
    reason_in told ≡ why → TrailStandsFor s new → new.at ≡ now.at → new.floor ≡ now.floor → new.steps.capacity ≡ now.steps.capacity → HasGoneBack s (back s range o) opened new told
stopped_by s o range opened now new count why told going is tells stands at floor_is history_is =
    let stops : back s range o ≡ record { at = now.at; reason = why } = sym going.same ∙ here_at s o range now.at why is in
    record {
      stopped_is = record {
        stands = stands;
        at = at ∙ sym (ap (λ (x : Stopped). x.at) stops);
        reason_is = tells ∙ sym (ap (λ (x : Stopped). x.reason) stops);
        history_is = history_is ∙ going.history_is;
      };
      floor_is = floor_is ∙ going.floor_is;
    }

is_at : (n m : ℕ) → n ≡ m → (n == m) ≡ true
is_at n m same = grind (arith, common_steps, same)

not_at : (n m : ℕ) → m < n → (n == m) ≡ false
not_at n m above = grind (arith, common_steps, above)

-- at the oldest position
pub back_begins : {D : Type 0} (s : Setup) (o : Session) (range : Range) (opened now : Trail D) (count steps : ℕ) → o.floor ≡ opened.floor → GoingBack s o range opened now count → steps ≡ opened.at - opened.floor → steps ≤ count →
    HasGoneBack s (back s range o) opened now reason.Begin
back_begins s o range opened now count steps oldest going all done =
    let here : now.at ≡ now.floor = omega (arith, going.made, going.floor_is, going.stands.held, all, done) in
    let at_floor : (now.at == o.floor) ≡ true = is_at now.at o.floor (here ∙ going.floor_is ∙ sym oldest) in
    stopped_by s o range opened now now count begin reason.Begin going
    (first_begins (nat_lt now.at o.at && is_stop s o range now.at) (now.at == o.floor) (watched s o (now.at - 1)) going.here at_floor)
    refl going.stands refl refl refl

-- one step back, and a look at it
pub record IsLess {D : Type 0} (s : Setup) (now seen : Trail D) : Type 0 where
  pub stands : TrailStandsFor s seen
  pub above : now.floor < now.at
  pub most : now.at - now.floor ≤ now.steps.capacity
  pub at : now.at ≡ seen.at + 1
  pub floor_is : seen.floor ≡ now.floor
  pub history_is : seen.steps.capacity ≡ now.steps.capacity

pub one_less : {D : Type 0} (s : Setup) (o : Session) (range : Range) (opened now less seen : Trail D) (count steps : ℕ) (moved : Bool) → GoingBack s o range opened now count → steps ≡ opened.at - opened.floor → steps ≤ opened.steps.capacity → count < steps →
    IsBack now less moved → IsLooked s less seen → IsLess s now seen
one_less s o range opened now less seen count steps true going all most within back look = let down : now.at ≡ less.at + 1 = back.at in record {
  stands = look.stands;
  above = omega (arith, going.made, going.floor_is, all, within);
  most = omega (arith, going.made, going.floor_is, going.history_is, all, most);
  at = omega (arith, down, look.at);
  floor_is = look.floor_is ∙ back.floor_is;
  history_is = look.history_is ∙ back.history_is;
}
one_less s o range opened now less seen count steps false going all most within back look =
    let here : now.at ≡ now.floor = back.oldest.0 refl in
    absurd (omega (arith, here, going.made, going.floor_is, all, within))

-- the position before, where the step from there is watched: it is made again
told_none : {D : Type 0} (s : Setup) (old new : Trail D) (result : Option End) → IsTold s old new result → end_at s old.at ≡ None → IsTold s old new None
told_none {D} s old new result told none = subst (λ (r : Option End). IsTold {D = D} s old new r) (told.answer ∙ none) told

pub back_watched : {D : Type 0} (s : Setup) (o : Session) (range : Range) (opened now seen new : Trail D) (count byte : ℕ) (result : Option End) → o.floor ≡ opened.floor → GoingBack s o range opened now count → IsLess s now seen →
    watched s o seen.at ≡ Some byte → IsTold s seen new result → HasGoneBack s (back s range o) opened new (reason.Watch byte)
back_watched s o range opened now seen new count byte result oldest going less is told =
    let again = told_none s seen new result told (watched_steps s o seen.at byte is) in
    let before : now.at - 1 ≡ seen.at = omega (arith, less.at) in
    let at : new.at ≡ now.at = omega (arith, less.at, again.moved.at) in
    let not_oldest : (now.at == o.floor) ≡ false = not_at now.at o.floor (omega (arith, less.above, going.floor_is, oldest)) in
    let kept : max seen.floor (seen.at + 1 - seen.steps.capacity) ≡ now.floor = omega (arith, less.at, less.floor_is, less.history_is, less.most, less.above) in
    let floor_is : new.floor ≡ now.floor =
    again.moved.floor_is ∙ ap (λ (f : Bool). if f then seen.at + 1 else max seen.floor (seen.at + 1 - seen.steps.capacity)) (watched_no_fence s o seen byte less.stands is) ∙ kept in
    stopped_by s o range opened now new count (watch byte) (reason.Watch byte) going
    (first_watches (nat_lt now.at o.at && is_stop s o range now.at) (now.at == o.floor) (watched s o (now.at - 1)) byte going.here not_oldest (ap (watched s o) before ∙ is))
    refl again.stands at floor_is (again.history_is ∙ less.history_is)

-- where it isn't
same_less : {D : Type 0} (s : Setup) (o : Session) (range : Range) (opened now seen : Trail D) (count : ℕ) → o.floor ≡ opened.floor → GoingBack s o range opened now count → IsLess s now seen →
    watched s o seen.at ≡ None → last_stop s o range seen.at ≡ back s range o
same_less s o range opened now seen count oldest going less none =
    let next : now.at ≡ suc seen.at = omega (arith, less.at) in
    let not_oldest : (now.at == o.floor) ≡ false = not_at now.at o.floor (omega (arith, less.above, going.floor_is, oldest)) in
    let before : now.at - 1 ≡ seen.at = omega (arith, less.at) in
    let reason_none : back_reason s o range now.at ≡ None =
    first_none (nat_lt now.at o.at && is_stop s o range now.at) (now.at == o.floor) (watched s o (now.at - 1)) going.here not_oldest (ap (watched s o) before ∙ none) in
    sym (on_from s o range seen.at (ap (back_reason s o range) (sym next) ∙ reason_none))
    ∙ ap (last_stop s o range) (sym next) ∙ going.same

below : (o now less count : ℕ) → now + count ≡ o → now ≡ less + 1 → nat_lt less o ≡ true
below o now less count to is = grind (arith, common_steps)

pub back_stops : {D : Type 0} (s : Setup) (o : Session) (range : Range) (opened now seen : Trail D) (count : ℕ) → o.at ≡ opened.at → o.floor ≡ opened.floor → GoingBack s o range opened now count → IsLess s now seen →
    watched s o seen.at ≡ None → is_stop s o range seen.at ≡ true → HasGoneBack s (back s range o) opened seen reason.Stop
back_stops s o range opened now seen count at oldest going less none stops =
    let further : (nat_lt seen.at o.at && is_stop s o range seen.at) ≡ true = rw (below o.at now.at seen.at count (going.made ∙ sym at) less.at, stops) refl in
    let is : back_reason s o range seen.at ≡ Some stop = first_stops (nat_lt seen.at o.at && is_stop s o range seen.at) (seen.at == o.floor) (watched s o (seen.at - 1)) further in
    let found : back s range o ≡ record { at = seen.at; reason = stop } = sym (same_less s o range opened now seen count oldest going less none) ∙ here_at s o range seen.at stop is in
    record {
      stopped_is = record {
        stands = less.stands;
        at = sym (ap (λ (x : Stopped). x.at) found);
        reason_is = sym (ap (λ (x : Stopped). x.reason) found);
        history_is = less.history_is ∙ going.history_is;
      };
      floor_is = less.floor_is ∙ going.floor_is;
    }

pub back_more : {D : Type 0} (s : Setup) (o : Session) (range : Range) (opened now seen : Trail D) (count : ℕ) → o.floor ≡ opened.floor → GoingBack s o range opened now count → IsLess s now seen →
    watched s o seen.at ≡ None → is_stop s o range seen.at ≡ false → GoingBack s o range opened seen (count + 1)
back_more s o range opened now seen count oldest going less none stops = record {
  stands = less.stands;
  made = omega (arith, less.at, going.made);
  floor_is = less.floor_is ∙ going.floor_is;
  history_is = less.history_is ∙ going.history_is;
  here = ap (λ (b : Bool). nat_lt seen.at o.at && b) stops ∙ and_false (nat_lt seen.at o.at);
  same = same_less s o range opened now seen count oldest going less none;
}
  where
    and_false : (b : Bool) → (b && false) ≡ false
    and_false true = refl
    and_false false = refl
