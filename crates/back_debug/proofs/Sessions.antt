-- A script played on a debugger, move by move.
use Rattle.std.proofs.Common.{◌≡◌, ◌≢◌, ℕ, zero, suc, ◌+◌, ◌-◌, ◌<◌, ◌≤◌, ◌==◌, Bool, false, true, if◌then◌else◌, List, [], ◌∷◌, ◌++◌, length, drop, drop-cons, get_or, append_assoc, Option, Some, None, refl, ap, sym, ◌∙◌, subst, arith}
use Rattle.std.proofs.Math.ListN.{drop_of_length-le}
use Rattle.std.proofs.lemmas.List.{append-nil}
use Rattle.std.proofs.lemmas.Grind.{common_steps}
use Rattle.fsim_ports.specs.Sink.{grown, Breaks}
use Rattle.fsim_ports.proofs.Writing.{grown_twice, breaks_first, breaks_second}
use Rattle.mono_model.specs.declared.final_state.End.{End}
use Rattle.mono_model.specs.declared.setup.Setup.{Setup}
use Rattle.func_model.specs.declared.trail.Trail.{Trail}
use Rattle.func_model.specs.History.{walk, end_at, floor}
use Rattle.func_model.specs.Trail.{TrailStandsFor, IsTold, IsBack}
use Rattle.report_text.specs.declared.debugging.Arrival.{Arrival}
use Rattle.report_text.specs.declared.debugging.Arrival.TheVariants.{Moved, Oldest, Reached, Ended}
use Rattle.back_debug.specs.Debugger.{Misses, floors, IsFirst, IsLast}
use Rattle.back_debug.specs.declared.script.Command.{Command}
use Rattle.back_debug.specs.Session.{Position, Arrived, next, unless_ended, forth, back, to, arrived, command_text, session_text, position_of, IsAt, Comes}

-- a position by its parts
position_by : (p q : Position) → p.at ≡ q.at → p.floor ≡ q.floor → p ≡ q
position_by p q at floor = λ i. record { at = at i; floor = floor i }

not_at : (n m : ℕ) → n ≢ m → (n == m) ≡ false
not_at n m other = grind (arith, common_steps, other)

is_at : (n m : ℕ) → n ≡ m → (n == m) ≡ true
is_at n m same = grind (arith, common_steps, same)

-- one step further

position_next : {D : Type 0} (s : Setup) (history : ℕ) (now more : Trail D) → now.steps.capacity ≡ history → IsTold s now more None → position_of more ≡ next history s (position_of now)
position_next s history now more same told =
    position_by (position_of more) (next history s (position_of now)) told.moved.at (told.moved.floor_is ∙ ap (λ (cap : ℕ). floor cap s now.at now.floor) same)

-- what holds before each of the steps that are left of so many
pub record Going {D : Type 0} (opened now : Trail D) (steps left : ℕ) (s : Setup) : Type 0 where
  pub stands : TrailStandsFor s now
  pub history_is : now.steps.capacity ≡ opened.steps.capacity
  pub same : forth opened.steps.capacity s left (position_of now) ≡ forth opened.steps.capacity s steps (position_of opened)

pub going_start : {D : Type 0} (opened : Trail D) (steps : ℕ) (s : Setup) → TrailStandsFor s opened → Going opened opened steps steps s
going_start opened steps s h = record { stands = h; history_is = refl; same = refl }

forth_on : (history : ℕ) (s : Setup) (left : ℕ) (p : Position) (e : Option End) → end_at s p.at ≡ e → forth history s (suc left) p ≡ unless_ended e p (forth history s left (next history s p))
unfolding forth
forth_on history s left p e is = ap (λ (x : Option End). unless_ended x p (forth history s left (next history s p))) is

pub going_more : {D : Type 0} (opened now more : Trail D) (steps left : ℕ) (s : Setup) → Going opened now steps (suc left) s → IsTold s now more None → Going opened more steps left s
going_more opened now more steps left s at told = record {
  stands = told.stands;
  history_is = told.history_is ∙ at.history_is;
  same =
      let history : ℕ = opened.steps.capacity in
      ap (forth history s left) (position_next s history now more at.history_is told)
      ∙ sym (forth_on history s left (position_of now) None (sym told.answer)) ∙ at.same;
}

stays_at : {D : Type 0} (s : Setup) (now more : Trail D) (end : End) → IsTold s now more (Some end) → position_of more ≡ position_of now
stays_at s now more end told = position_by (position_of more) (position_of now) told.stays.at told.stays.floor_is

pub going_ended : {D : Type 0} (opened now more : Trail D) (steps left : ℕ) (s : Setup) (end : End) → Going opened now steps (suc left) s → IsTold s now more (Some end) →
    Comes s (forth opened.steps.capacity s steps (position_of opened)) opened more (Ended end)
going_ended opened now more steps left s end at told =
    let history : ℕ = opened.steps.capacity in
    let is : forth history s steps (position_of opened) ≡ record { position = position_of now; arrival = Ended end } =
    sym at.same ∙ forth_on history s left (position_of now) (Some end) (sym told.answer) in
    record {
      position = record {
        stands = told.stands;
        position_is = stays_at s now more end told ∙ sym (ap (λ (a : Arrived). a.position) is);
        history_is = told.history_is ∙ at.history_is;
      };
      arrival_is = sym (ap (λ (a : Arrived). a.arrival) is);
    }

pub going_done : {D : Type 0} (opened now : Trail D) (steps : ℕ) (s : Setup) → Going opened now steps 0 s → Comes s (forth opened.steps.capacity s steps (position_of opened)) opened now Moved
unfolding forth
going_done opened now steps s at = record {
  position = record {
    stands = at.stands;
    position_is = ap (λ (a : Arrived). a.position) at.same;
    history_is = at.history_is;
  };
  arrival_is = ap (λ (a : Arrived). a.arrival) at.same;
}

-- one step back

-- what holds before each of the steps back that are left of so many
pub record Returning {D : Type 0} (opened now : Trail D) (steps left : ℕ) (s : Setup) : Type 0 where
  pub stands : TrailStandsFor s now
  pub history_is : now.steps.capacity ≡ opened.steps.capacity
  pub same : back left (position_of now) ≡ back steps (position_of opened)

pub returning_start : {D : Type 0} (opened : Trail D) (steps : ℕ) (s : Setup) → TrailStandsFor s opened → Returning opened opened steps steps s
returning_start opened steps s h = record { stands = h; history_is = refl; same = refl }

back_by : (left : ℕ) (p : Position) (b : Bool) → (p.at == p.floor) ≡ b → back (suc left) p ≡ (if b then record { position = p; arrival = Oldest } else back left (record p { at = p.at - 1 }))
unfolding back
back_by left p b is = ap (λ (x : Bool). if x then record { position = p; arrival = Oldest } else back left (record p { at = p.at - 1 })) is

never : true ≡ false → ⊥
never is = cc

pub returning_more : {D : Type 0} (opened now less : Trail D) (steps left : ℕ) (s : Setup) → Returning opened now steps (suc left) s → TrailStandsFor s less → IsBack now less true →
    Returning opened less steps left s
returning_more opened now less steps left s at stands told =
    let above : now.at ≢ now.floor = λ is. never (told.oldest.1 is) in
    let one : less.at ≡ now.at - 1 = omega (arith, told.at) in
    record {
      stands = stands;
      history_is = told.history_is ∙ at.history_is;
      same = ap (back left) (position_by (position_of less) (record { at = now.at - 1; floor = now.floor }) one told.floor_is)
          ∙ sym (back_by left (position_of now) false (not_at now.at now.floor above)) ∙ at.same;
    }

pub returning_oldest : {D : Type 0} (opened now less : Trail D) (steps left : ℕ) (s : Setup) → Returning opened now steps (suc left) s → TrailStandsFor s less → IsBack now less false →
    Comes s (back steps (position_of opened)) opened less Oldest
returning_oldest opened now less steps left s at stands told =
    let here : now.at ≡ now.floor = told.oldest.0 refl in
    let is : back steps (position_of opened) ≡ record { position = position_of now; arrival = Oldest } =
    sym at.same ∙ back_by left (position_of now) true (is_at now.at now.floor here) in
    let same : less.at ≡ now.at = omega (arith, told.at) in
    record {
      position = record {
        stands = stands;
        position_is = position_by (position_of less) (position_of now) same told.floor_is ∙ sym (ap (λ (a : Arrived). a.position) is);
        history_is = told.history_is ∙ at.history_is;
      };
      arrival_is = sym (ap (λ (a : Arrived). a.arrival) is);
    }

pub returning_done : {D : Type 0} (opened now : Trail D) (steps : ℕ) (s : Setup) → Returning opened now steps 0 s → Comes s (back steps (position_of opened)) opened now Moved
unfolding back
returning_done opened now steps s at = record {
  position = record {
    stands = at.stands;
    position_is = ap (λ (a : Arrived). a.position) at.same;
    history_is = at.history_is;
  };
  arrival_is = ap (λ (a : Arrived). a.arrival) at.same;
}

-- runs to an address

floors_front : (history : ℕ) (s : Setup) (from old count : ℕ) → floors history s from old (suc count) ≡ floors history s (from + 1) (floor history s from old) count
unfolding floors
floors_front history s from old zero = let here : from + 0 ≡ from = omega arith in ap (λ (n : ℕ). floor history s n old) here
floors_front history s from old (suc count) =
    let place : from + suc count ≡ from + 1 + count = omega arith in
    ap (floor history s (from + suc count)) (floors_front history s from old count)
    ∙ ap (λ (n : ℕ). floor history s n (floors history s (from + 1) (floor history s from old) count)) place

abbrev came : ℕ → ℕ → Arrival → Arrived
came at floor arrival = record { position = record { at = at; floor = floor }; arrival = arrival }

to_by : (history : ℕ) (s : Setup) (addr steps : ℕ) (p : Position) (b : Bool) → end_at s p.at ≡ None → ((walk s (p.at + 1)).pc == addr) ≡ b →
    to history s addr (suc steps) p ≡ (if b then record { position = next history s p; arrival = Reached } else to history s addr steps (next history s p))
unfolding to
to_by history s addr steps p b on is =
    ap (λ (x : Option End). unless_ended x p (if (walk s (p.at + 1)).pc == addr then record { position = next history s p; arrival = Reached } else to history s addr steps (next history s p))) on
    ∙ ap (λ (x : Bool). if x then record { position = next history s p; arrival = Reached } else to history s addr steps (next history s p)) is

to_end : (history : ℕ) (s : Setup) (addr steps : ℕ) (p : Position) (end : End) → end_at s p.at ≡ Some end → to history s addr (suc steps) p ≡ record { position = p; arrival = Ended end }
unfolding to
to_end history s addr steps p end is =
    ap (λ (x : Option End). unless_ended x p (if (walk s (p.at + 1)).pc == addr then record { position = next history s p; arrival = Reached } else to history s addr steps (next history s p))) is

to_reaches : (history : ℕ) (s : Setup) (addr count steps : ℕ) (p : Position) → count < steps → ((made : ℕ) → p.at ≤ made → made ≤ p.at + count → end_at s made ≡ None) →
    Misses s addr p.at (p.at + count) → (walk s (p.at + count + 1)).pc ≡ addr → to history s addr steps p ≡ came (p.at + count + 1) (floors history s p.at p.floor (suc count)) Reached
unfolding floors
to_reaches history s addr count zero p few on missed there = absurd (omega (arith, few))
to_reaches history s addr zero (suc steps) p few on missed there =
    let here : p.at + 0 ≡ p.at = omega arith in
    let pc : (walk s (p.at + 1)).pc ≡ addr = subst (λ (n : ℕ). (walk s (n + 1)).pc ≡ addr) here there in
    to_by history s addr steps p true (on p.at (omega arith) (omega arith)) (is_at (walk s (p.at + 1)).pc addr pc)
    ∙ sym (ap (λ (n : ℕ). came (n + 1) (floor history s n p.floor) Reached) here)
to_reaches history s addr (suc count) (suc steps) p few on missed there =
    let place : p.at + 1 + count ≡ p.at + suc count = omega arith in
    let more = to_reaches history s addr count steps (next history s p) (omega (arith, few))
    (λ made above within. on made (omega (arith, above)) (omega (arith, within)))
    (λ made above within. missed made (omega (arith, above)) (omega (arith, within)))
    (subst (λ (n : ℕ). (walk s (n + 1)).pc ≡ addr) (sym place) there) in
    to_by history s addr steps p false (on p.at (omega arith) (omega arith)) (not_at (walk s (p.at + 1)).pc addr (missed (p.at + 1) (omega arith) (omega arith)))
    ∙ more ∙ ap (λ (n : ℕ). came (n + 1) (floors history s (p.at + 1) (floor history s p.at p.floor) (suc count)) Reached) place
    ∙ sym (ap (λ (n : ℕ). came (p.at + suc count + 1) n Reached) (floors_front history s p.at p.floor (suc count)))

to_ends : (history : ℕ) (s : Setup) (addr count steps : ℕ) (p : Position) (end : End) → count < steps → ((made : ℕ) → p.at ≤ made → made < p.at + count → end_at s made ≡ None) →
    Misses s addr p.at (p.at + count) → end_at s (p.at + count) ≡ Some end → to history s addr steps p ≡ came (p.at + count) (floors history s p.at p.floor count) (Ended end)
unfolding floors
to_ends history s addr count zero p end few on missed is = absurd (omega (arith, few))
to_ends history s addr zero (suc steps) p end few on missed is =
    let here : p.at + 0 ≡ p.at = omega arith in
    to_end history s addr steps p end (subst (λ (n : ℕ). end_at s n ≡ Some end) here is) ∙ sym (ap (λ (n : ℕ). came n p.floor (Ended end)) here)
to_ends history s addr (suc count) (suc steps) p end few on missed is =
    let place : p.at + 1 + count ≡ p.at + suc count = omega arith in
    let more = to_ends history s addr count steps (next history s p) end (omega (arith, few))
    (λ made above within. on made (omega (arith, above)) (omega (arith, within)))
    (λ made above within. missed made (omega (arith, above)) (omega (arith, within)))
    (subst (λ (n : ℕ). end_at s n ≡ Some end) (sym place) is) in
    to_by history s addr steps p false (on p.at (omega arith) (omega arith)) (not_at (walk s (p.at + 1)).pc addr (missed (p.at + 1) (omega arith) (omega arith)))
    ∙ more ∙ ap (λ (n : ℕ). came n (floors history s (p.at + 1) (floor history s p.at p.floor) count) (Ended end)) place
    ∙ sym (ap (λ (n : ℕ). came (p.at + suc count) n (Ended end)) (floors_front history s p.at p.floor count))

pub to_first : {D : Type 0} (s : Setup) (addr : ℕ) (old new : Trail D) → IsFirst s addr old new → Comes s (to old.steps.capacity s addr (s.cycles + 1) (position_of old)) old new Reached
to_first s addr old new first =
    let history : ℕ = old.steps.capacity in
    let count : ℕ = new.at - old.at - 1 in
    let last : old.at + count + 1 ≡ new.at = omega (arith, first.further) in
    let before : old.at + count ≡ new.at - 1 = omega (arith, first.further) in
    let many : suc count ≡ new.at - old.at = omega (arith, first.further) in
    let is = to_reaches history s addr count (s.cycles + 1) (position_of old) (omega (arith, first.further, first.ahead.stands.place.within))
    (λ made above within. first.ahead.goes_on made above (omega (arith, within, first.further)))
    (subst (λ (n : ℕ). Misses s addr old.at n) (sym before) first.missed)
    (subst (λ (n : ℕ). (walk s n).pc ≡ addr) (sym last) first.there) in
    record {
      position = record {
        stands = first.ahead.stands;
        position_is = position_by (position_of new) (record { at = old.at + count + 1; floor = floors history s old.at old.floor (suc count) }) (sym last)
            (first.ahead.floor_is ∙ ap (floors history s old.at old.floor) (sym many))
            ∙ sym (ap (λ (a : Arrived). a.position) is);
        history_is = first.ahead.history_is;
      };
      arrival_is = sym (ap (λ (a : Arrived). a.arrival) is);
    }

pub to_last : {D : Type 0} (s : Setup) (addr : ℕ) (old new : Trail D) (end : End) → IsLast s addr old new end → Comes s (to old.steps.capacity s addr (s.cycles + 1) (position_of old)) old new (Ended end)
to_last s addr old new end last =
    let history : ℕ = old.steps.capacity in
    let count : ℕ = new.at - old.at in
    let there : old.at + count ≡ new.at = omega (arith, last.ahead.from) in
    let is = to_ends history s addr count (s.cycles + 1) (position_of old) end (omega (arith, last.ahead.from, last.ahead.stands.place.within))
    (λ made above below. last.ahead.goes_on made above (omega (arith, below, last.ahead.from)))
    (subst (λ (n : ℕ). Misses s addr old.at n) (sym there) last.missed)
    (subst (λ (n : ℕ). end_at s n ≡ Some end) (sym there) last.answer) in
    record {
      position = record {
        stands = last.ahead.stands;
        position_is = position_by (position_of new) (record { at = old.at + count; floor = floors history s old.at old.floor count }) (sym there) last.ahead.floor_is
            ∙ sym (ap (λ (a : Arrived). a.position) is);
        history_is = last.ahead.history_is;
      };
      arrival_is = sym (ap (λ (a : Arrived). a.arrival) is);
    }

-- commands, one after the other

-- the first so many commands are played, and what they write is written
pub record Played {D : Type 0} (s : Setup) (script : List Command) (opened now : Trail D) (index : ℕ) (before after : Option (List ℕ)) : Type 0 where
  pub stands : TrailStandsFor s now
  pub history_is : now.steps.capacity ≡ opened.steps.capacity
  pub front : List ℕ
  pub written : after ≡ grown before front
  pub whole : front ++ session_text opened.steps.capacity s (drop index script) (position_of now) ≡ session_text opened.steps.capacity s script (position_of opened)

grown_nothing : (before : Option (List ℕ)) → before ≡ grown before []
grown_nothing None = refl
grown_nothing (Some written) = ap Some (sym (append-nil written))

pub played_start : {D : Type 0} (s : Setup) (script : List Command) (opened : Trail D) (before : Option (List ℕ)) → TrailStandsFor s opened → Played s script opened opened 0 before before
played_start s script opened before h = record { stands = h; history_is = refl; front = []; written = grown_nothing before; whole = refl }

-- the text from a command on
text_from : (history : ℕ) (s : Setup) (script : List Command) (index : ℕ) (command d : Command) (p : Position) → index < length script → command ≡ get_or script index d →
    session_text history s (drop index script) p
    ≡ command_text s command (arrived history s command p) ++ session_text history s (drop (index + 1) script) (arrived history s command p).position
unfolding session_text
text_from history s script index command d p within is =
    let one : suc index ≡ index + 1 = omega arith in
    let rest : drop (suc index) script ≡ drop (index + 1) script = ap (λ (n : ℕ). drop n script) one in
    let there : drop index script ≡ command ∷ drop (index + 1) script =
    drop-cons script index d within ∙ ap (λ (c : Command). c ∷ drop (suc index) script) (sym is) ∙ ap (λ (cs : List Command). command ∷ cs) rest in
    ap (λ (cs : List Command). session_text history s cs p) there

pub played_more : {D : Type 0} (s : Setup) (script : List Command) (opened now more : Trail D) (index : ℕ) (command d : Command) (before middle after : Option (List ℕ)) →
    Played s script opened now index before middle → index < length script → command ≡ get_or script index d →
    IsAt s (arrived now.steps.capacity s command (position_of now)).position now more →
    after ≡ grown middle (command_text s command (arrived now.steps.capacity s command (position_of now))) →
    Played s script opened more (index + 1) before after
played_more s script opened now more index command d before middle after at within is comes written =
    let history : ℕ = opened.steps.capacity in
    let text : List ℕ = command_text s command (arrived history s command (position_of now)) in
    let place : position_of more ≡ (arrived history s command (position_of now)).position =
    comes.position_is ∙ ap (λ (n : ℕ). (arrived n s command (position_of now)).position) at.history_is in
    record {
      stands = comes.stands;
      history_is = comes.history_is ∙ at.history_is;
      front = at.front ++ text;
      written = written ∙ ap (λ (n : ℕ). grown middle (command_text s command (arrived n s command (position_of now)))) at.history_is
          ∙ ap (λ w. grown w text) at.written ∙ grown_twice before at.front text;
      whole = append_assoc at.front text (session_text history s (drop (index + 1) script) (position_of more))
          ∙ ap (λ (p : Position). at.front ++ (text ++ session_text history s (drop (index + 1) script) p)) place
          ∙ sym (ap (λ (t : List ℕ). at.front ++ t) (text_from history s script index command d (position_of now) within is)) ∙ at.whole;
    }

pub played_breaks : {D : Type 0} (s : Setup) (script : List Command) (opened now : Trail D) (index : ℕ) (command d : Command) {first between last : ℕ} {before middle after : Option (List ℕ)} →
    Played s script opened now index before middle → index < length script → command ≡ get_or script index d → first ≤ between →
    Breaks (command_text s command (arrived now.steps.capacity s command (position_of now))) between last middle after →
    Breaks (session_text opened.steps.capacity s script (position_of opened)) first last before after
played_breaks s script opened now index command d {first} {between} {last} {before} {middle} {after} at within is later broken =
    let history : ℕ = opened.steps.capacity in
    let text : List ℕ = command_text s command (arrived history s command (position_of now)) in
    let rest : List ℕ = session_text history s (drop (index + 1) script) (arrived history s command (position_of now)).position in
    let here : Breaks text between last middle after = subst (λ (n : ℕ). Breaks (command_text s command (arrived n s command (position_of now))) between last middle after) at.history_is broken in
    let whole : Breaks (at.front ++ (text ++ rest)) first last before after = breaks_second at.front at.written later (breaks_first rest (omega arith) here) in
    subst (λ (t : List ℕ). Breaks t first last before after)
    (sym (ap (λ (t : List ℕ). at.front ++ t) (text_from history s script index command d (position_of now) within is)) ∙ at.whole) whole

pub played_all : {D : Type 0} (s : Setup) (script : List Command) (opened now : Trail D) (index : ℕ) (before after : Option (List ℕ)) → Played s script opened now index before after → length script ≤ index →
    after ≡ grown before (session_text opened.steps.capacity s script (position_of opened))
unfolding session_text
played_all s script opened now index before after at all =
    let none : drop index script ≡ [] = drop_of_length-le script all in
    at.written ∙ ap (grown before)
    (sym (append-nil at.front) ∙ sym (ap (λ (cs : List Command). at.front ++ session_text opened.steps.capacity s cs (position_of now)) none) ∙ at.whole)
