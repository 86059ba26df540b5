-- A run forwards, position by position.
use Rattle.std.proofs.Common.{◌≡◌, ℕ, suc, ◌+◌, ◌-◌, ◌≤◌, ◌<◌, nat_lt, ◌&&◌, Bool, true, false, Option, Some, None, option_map, refl, ap, sym, ◌∙◌, arith}
use Rattle.std.proofs.lemmas.Grind.{common_steps}
use Rattle.std.specs.Option.{option_or}
use Rattle.mono_model.specs.declared.final_state.End.{End}
use Rattle.mono_model.specs.declared.setup.Setup.{Setup}
use Rattle.func_model.specs.declared.trail.Trail.{Trail}
use Rattle.func_model.specs.History.{end_at, floor}
use Rattle.func_model.specs.Trail.{IsOnTrail, IsTold, TrailStandsFor}
use Rattle.back_debug.specs.Debugger.{floors}
use Rattle.gdb_model.specs.Session.{Session, watched}
use Rattle.gdb_model.specs.Stops.{Range, Reason, Stopped, ended, first_stop, forth, forth_reason, is_stop, stop, stop_if, stopped_or, watch}
use Rattle.gdb_session.specs.declared.runs.Reason.{Reason as CodeReason}
use Rattle.gdb_session.specs.declared.runs.Reason.TheVariants as reason
use Rattle.gdb_session.specs.Runs.{HasGoneForth}
use Rattle.gdb_session.specs.Standing.{reason_in}
use Rattle.gdb_session.proofs.Looking.{IsLooked, watched_steps}

-- the first reason, by its parts
abbrev first_of : Bool → Option End → Option ℕ → Option Reason
first_of stops end byte = option_or (stop_if stops stop) (option_or (option_map ended end) (option_map watch byte))

first_stops : (stops : Bool) (end : Option End) (byte : Option ℕ) → stops ≡ true → first_of stops end byte ≡ Some stop
first_stops stops end byte is = rw is refl

first_ends : (stops : Bool) (end : Option End) (byte : Option ℕ) (how : End) → stops ≡ false → end ≡ Some how → first_of stops end byte ≡ Some (ended how)
first_ends stops end byte how is told = rw (is, told) refl

first_watches : (stops : Bool) (end : Option End) (byte : Option ℕ) (it : ℕ) → stops ≡ false → end ≡ None → byte ≡ Some it → first_of stops end byte ≡ Some (watch it)
first_watches stops end byte it is none told = rw (is, none, told) refl

first_none : (stops : Bool) (end : Option End) (byte : Option ℕ) → stops ≡ false → end ≡ None → byte ≡ None → first_of stops end byte ≡ None
first_none stops end byte is none off = rw (is, none, off) refl

-- one position of the search
here_at : (s : Setup) (o : Session) (range : Range) (more at : ℕ) (why : Reason) → forth_reason s o range at ≡ Some why →
    first_stop s o range (suc more) at ≡ record { at = at; reason = why }
unfolding first_stop
here_at s o range more at why is = ap (λ (r : Option Reason). stopped_or r at (first_stop s o range more (at + 1))) is

on_from : (s : Setup) (o : Session) (range : Range) (more at : ℕ) → forth_reason s o range at ≡ None →
    first_stop s o range (suc more) at ≡ first_stop s o range more (at + 1)
unfolding first_stop
on_from s o range more at is = ap (λ (r : Option Reason). stopped_or r at (first_stop s o range more (at + 1))) is

-- what holds before each step of a run forwards
pub record GoingForth {D : Type 0} (s : Setup) (o : Session) (range : Range) (opened now : Trail D) : Type 0 where
  pub stands : TrailStandsFor s now
  pub from : opened.at ≤ now.at
  pub floor_is : now.floor ≡ floors opened.steps.capacity s opened.at opened.floor (now.at - opened.at)
  pub history_is : now.steps.capacity ≡ opened.steps.capacity
  pub here : (nat_lt o.at now.at && is_stop s o range now.at) ≡ false
  pub same : first_stop s o range (s.cycles + 1 - now.at) now.at ≡ forth s range o

left_of : {D : Type 0} (s : Setup) (now : Trail D) → TrailStandsFor s now → s.cycles + 1 - now.at ≡ suc (s.cycles - now.at)
left_of s now h = omega (arith, h.place.within)

not_below : (n : ℕ) → nat_lt n n ≡ false
not_below n = grind (arith, common_steps)

pub forth_start : {D : Type 0} (s : Setup) (o : Session) (range : Range) (opened : Trail D) → o.at ≡ opened.at → TrailStandsFor s opened → GoingForth s o range opened opened
unfolding floors
forth_start s o range opened at h = record {
  stands = h;
  from = omega arith;
  floor_is =
      let none : opened.at - opened.at ≡ 0 = omega arith in
      sym (ap (floors opened.steps.capacity s opened.at opened.floor) none);
  history_is = refl;
  here = ap (λ (n : ℕ). nat_lt n opened.at && is_stop s o range opened.at) at ∙ ap (λ (b : Bool). b && is_stop s o range opened.at) (not_below opened.at);
  same = ap (λ (n : ℕ). first_stop s o range (s.cycles + 1 - n) n) (sym at);
}

-- looking ahead changes nothing of it
pub forth_looked : {D : Type 0} (s : Setup) (o : Session) (range : Range) (opened now seen : Trail D) → GoingForth s o range opened now → IsLooked s now seen → GoingForth s o range opened seen
forth_looked s o range opened now seen going look = record {
  stands = look.stands;
  from = omega (arith, look.at, going.from);
  floor_is = look.floor_is ∙ going.floor_is ∙ ap (λ (n : ℕ). floors opened.steps.capacity s opened.at opened.floor (n - opened.at)) (sym look.at);
  history_is = look.history_is ∙ going.history_is;
  here = ap (λ (n : ℕ). nat_lt o.at n && is_stop s o range n) look.at ∙ going.here;
  same = ap (λ (n : ℕ). first_stop s o range (s.cycles + 1 - n) n) look.at ∙ going.same;
}

-- it stops at a position
there : {D : Type 0} (s : Setup) (o : Session) (range : Range) (opened now : Trail D) (why : Reason) → GoingForth s o range opened now → forth_reason s o range now.at ≡ Some why →
    forth s range o ≡ record { at = now.at; reason = why }
there s o range opened now why going is =
    sym going.same ∙ ap (λ (n : ℕ). first_stop s o range n now.at) (left_of s now going.stands)
    ∙ here_at s o range (s.cycles - now.at) now.at why is

stopped_by : {D : Type 0} (s : Setup) (o : Session) (range : Range) (opened now new : Trail D) (why : Reason) (told : CodeReason) → GoingForth s o range opened now → forth_reason s o range now.at ≡ Some why →
    reason_in told ≡ why → TrailStandsFor s new → new.at ≡ now.at → new.floor ≡ now.floor → new.steps.capacity ≡ now.steps.capacity → HasGoneForth s (forth s range o) opened new told
stopped_by s o range opened now new why told going is tells stands at floor_is history_is =
    let stops = there s o range opened now why going is in
    record {
      stopped_is = record {
        stands = stands;
        at = at ∙ sym (ap (λ (x : Stopped). x.at) stops);
        reason_is = tells ∙ sym (ap (λ (x : Stopped). x.reason) stops);
        history_is = history_is ∙ going.history_is;
      };
      floor_is = floor_is ∙ going.floor_is ∙ ap (λ (n : ℕ). floors opened.steps.capacity s opened.at opened.floor (n - opened.at)) (sym at);
    }

-- at a watched access
pub forth_watched : {D : Type 0} (s : Setup) (o : Session) (range : Range) (opened now seen : Trail D) (byte : ℕ) → GoingForth s o range opened now → IsLooked s now seen → watched s o now.at ≡ Some byte →
    HasGoneForth s (forth s range o) opened seen (reason.Watch byte)
forth_watched s o range opened now seen byte going look is =
    stopped_by s o range opened now seen (watch byte) (reason.Watch byte) going
    (first_watches (nat_lt o.at now.at && is_stop s o range now.at) (end_at s now.at) (watched s o now.at) byte going.here (watched_steps s o now.at byte is) is)
    refl look.stands look.at look.floor_is look.history_is

-- at the end
pub forth_ended : {D : Type 0} (s : Setup) (o : Session) (range : Range) (opened now new : Trail D) (how : End) → GoingForth s o range opened now → IsTold s now new (Some how) →
    HasGoneForth s (forth s range o) opened new (reason.Ended how)
forth_ended s o range opened now new how going told =
    stopped_by s o range opened now new (ended how) (reason.Ended how) going
    (first_ends (nat_lt o.at now.at && is_stop s o range now.at) (end_at s now.at) (watched s o now.at) how going.here (sym told.answer))
    refl told.stands told.stays.at told.stays.floor_is told.history_is

-- one step further, where nothing is watched
floors_more : {D : Type 0} (s : Setup) (o : Session) (range : Range) (opened now next : Trail D) → GoingForth s o range opened now → IsTold s now next None →
    next.floor ≡ floors opened.steps.capacity s opened.at opened.floor (next.at - opened.at)
unfolding floors
floors_more s o range opened now next going told =
    let count : next.at - opened.at ≡ suc (now.at - opened.at) = omega (arith, told.moved.at, going.from) in
    let place : opened.at + (now.at - opened.at) ≡ now.at = omega (arith, going.from) in
    told.moved.floor_is
    ∙ ap (λ (cap : ℕ). floor cap s now.at now.floor) going.history_is
    ∙ ap (λ (old : ℕ). floor opened.steps.capacity s now.at old) going.floor_is
    ∙ ap (λ (n : ℕ). floor opened.steps.capacity s n (floors opened.steps.capacity s opened.at opened.floor (now.at - opened.at))) (sym place)
    ∙ sym (ap (floors opened.steps.capacity s opened.at opened.floor) count)

same_more : {D : Type 0} (s : Setup) (o : Session) (range : Range) (opened now next : Trail D) → GoingForth s o range opened now → IsTold s now next None → watched s o now.at ≡ None →
    first_stop s o range (s.cycles + 1 - next.at) next.at ≡ forth s range o
same_more s o range opened now next going told none =
    let left : s.cycles + 1 - next.at ≡ s.cycles - now.at = omega (arith, told.moved.at) in
    ap (λ (n : ℕ). first_stop s o range n next.at) left
    ∙ ap (first_stop s o range (s.cycles - now.at)) told.moved.at
    ∙ sym (on_from s o range (s.cycles - now.at) now.at
    (first_none (nat_lt o.at now.at && is_stop s o range now.at) (end_at s now.at) (watched s o now.at) going.here (sym told.answer) none))
    ∙ sym (ap (λ (n : ℕ). first_stop s o range n now.at) (left_of s now going.stands))
    ∙ going.same

above : (o now next : ℕ) → o ≤ now → next ≡ now + 1 → nat_lt o next ≡ true
above o now next from is = grind (arith, common_steps)

-- a step to where it stops
pub forth_stops : {D : Type 0} (s : Setup) (o : Session) (range : Range) (opened now next : Trail D) → o.at ≡ opened.at → GoingForth s o range opened now → IsTold s now next None → watched s o now.at ≡ None →
    is_stop s o range next.at ≡ true → HasGoneForth s (forth s range o) opened next reason.Stop
forth_stops s o range opened now next at going told none stops =
    let further : (nat_lt o.at next.at && is_stop s o range next.at) ≡ true = rw (above o.at now.at next.at (omega (arith, at, going.from)) told.moved.at, stops) refl in
    let is : forth_reason s o range next.at ≡ Some stop = first_stops (nat_lt o.at next.at && is_stop s o range next.at) (end_at s next.at) (watched s o next.at) further in
    let found : forth s range o ≡ record { at = next.at; reason = stop } =
    sym (same_more s o range opened now next going told none) ∙ ap (λ (n : ℕ). first_stop s o range n next.at) (left_of s next told.stands)
    ∙ here_at s o range (s.cycles - next.at) next.at stop is in
    record {
      stopped_is = record {
        stands = told.stands;
        at = sym (ap (λ (x : Stopped). x.at) found);
        reason_is = sym (ap (λ (x : Stopped). x.reason) found);
        history_is = told.history_is ∙ going.history_is;
      };
      floor_is = floors_more s o range opened now next going told;
    }

-- and a step to where it doesn't
pub forth_more : {D : Type 0} (s : Setup) (o : Session) (range : Range) (opened now next : Trail D) → o.at ≡ opened.at → GoingForth s o range opened now → IsTold s now next None → watched s o now.at ≡ None →
    is_stop s o range next.at ≡ false → GoingForth s o range opened next
forth_more s o range opened now next at going told none stops = record {
  stands = told.stands;
  from = omega (arith, told.moved.at, going.from);
  floor_is = floors_more s o range opened now next going told;
  history_is = told.history_is ∙ going.history_is;
  here = ap (λ (b : Bool). nat_lt o.at next.at && b) stops ∙ and_false (nat_lt o.at next.at);
  same = same_more s o range opened now next going told none;
}
  where
    and_false : (b : Bool) → (b && false) ≡ false
    and_false true = refl
    and_false false = refl

-- each step leaves fewer
pub forth_fewer : {D : Type 0} (now seen next : Trail D) → seen ≡ record now { contents = seen.contents } → IsOnTrail seen → ((s : Setup) → TrailStandsFor s seen → IsTold s seen next None) →
    next.cycles - next.at < now.cycles - now.at
forth_fewer {D} now seen next same on told =
    let step = told on.setup on.stands in
    let at : seen.at ≡ now.at = ap (λ (t : Trail D). t.at) same in
    let cycles : seen.cycles ≡ now.cycles = ap (λ (t : Trail D). t.cycles) same in
    omega (arith, at, cycles, step.moved.at, step.stands.place.within, step.stands.cycles, on.stands.cycles)
