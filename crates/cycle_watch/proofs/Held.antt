-- A timing side that holds the entry where its miss was counted holds it after every step.
use Rattle.std.proofs.Common.{◌≡◌, ◌∙◌, ℕ, suc, ◌+◌, ◌≤◌, ◌==◌, ◌&&◌, Bool, true, false, is_none, Option, Some, None, refl, sym, ap, subst, arith}
use Rattle.trace_entry.specs.declared.Entry.{Entry}
use Rattle.mono_model.specs.declared.setup.Setup.{Setup}
use Rattle.mono_model.specs.Demand.{needs_entry}
use Rattle.mono_model.specs.Split.{held_after, told_by}
use Rattle.time_model.specs.declared.state.TimingState.{TimingState}
use Rattle.time_model.specs.declared.turn.Turn.{Turn}
use Rattle.time_model.specs.Piped.{Piped, place_of}
use Rattle.time_model.specs.Running.{IsRun, IsSilent, Steps, more, start}
use Rattle.time_model.specs.Standing.{IsStep, SideStandsFor, is_told_out}
use Rattle.time_model.specs.OutOfOrder.{core_piped}
use Rattle.cycle_watch.proofs.Paid.{HeldAt, holds_on}

-- each step of its demand run keeps it
abbrev pub Holds : {P A : Type 0} → Piped P A → Setup → Type 0
Holds piped s = (k : ℕ) (held : Option Entry) → HeldAt (place_of piped s k) held → (needs_entry (place_of piped s k) && is_none held) ≡ false →
    HeldAt (place_of piped s (suc k)) (held_after (told_by (place_of piped s k) (place_of piped s (suc k))) (place_of piped s k) (place_of piped s (suc k)) held)

pub time_holds : (s : Setup) → Holds core_piped s
time_holds s = holds_on s

-- it stands after so many steps or more, and holds the entry
pub record StandsHeld {P A : Type 0} (piped : Piped P A) (s : Setup) (least : ℕ) (side : TimingState P A) : Type 0 where
  pub steps : ℕ
  pub later : least ≤ steps
  pub stands : SideStandsFor piped s steps side
  pub held : HeldAt (place_of piped s steps) side.telling.held

both : (a b : Bool) → (a && b) ≡ true → (a ≡ true) × (b ≡ true)
both true b is = (refl, is)
both false b is = let e : false ≡ true = is in cc

none_held : (held : Option Entry) → is_none held ≡ true → held ≡ None
none_held None is = refl
none_held (Some e) is = let no : false ≡ true = is in cc

module _ {P A : Type 0} (piped : Piped P A) (s : Setup) (law : Holds piped s) where
  step_held : (least : ℕ) (old new : TimingState P A) (turn : Turn) (here : StandsHeld piped s least old) → IsStep piped s here.steps old new turn → StandsHeld piped s least new
  step_held least old new turn here step = by_wait (needs_entry (place_of piped s here.steps) && is_none old.telling.held) refl
    where
      stays : new ≡ old → StandsHeld piped s least new
      stays is = let T : TimingState P A → Type 0 = λ side. StandsHeld piped s least side in subst T (sym is) here

      by_rest : (b : Bool) → is_told_out (place_of piped s here.steps) ≡ b → (needs_entry (place_of piped s here.steps) && is_none old.telling.held) ≡ false → StandsHeld piped s least new
      by_rest true over handed = stays (step.rests over).1
      by_rest false over handed =
          let made = step.goes handed over in
          let H : Option Entry → Type 0 = λ held. HeldAt (place_of piped s (suc here.steps)) held in
          record {
            steps = suc here.steps;
            later = omega (arith, here.later);
            stands = made.stands;
            held = subst H (sym made.held) (law here.steps old.telling.held here.held handed);
          }

      by_wait : (b : Bool) → (needs_entry (place_of piped s here.steps) && is_none old.telling.held) ≡ b → StandsHeld piped s least new
      by_wait true wants =
          let parts = both (needs_entry (place_of piped s here.steps)) (is_none old.telling.held) wants in
          stays (step.waits parts.0 (none_held old.telling.held parts.1)).1
      by_wait false handed = by_rest (is_told_out (place_of piped s here.steps)) refl handed

  silent_held : (least : ℕ) {old new : TimingState P A} → piped.allows s → StandsHeld piped s least old → IsSilent (Steps piped) old new → StandsHeld piped s least new
  silent_held least allowed here start = here
  silent_held least allowed here (more mid new turn silent step is) =
      let there = silent_held least allowed here silent in
      step_held least mid new turn there (step s there.steps allowed there.stands)

  -- and after several
  pub run_held : (least : ℕ) (old new : TimingState P A) (turn : Turn) → piped.allows s → StandsHeld piped s least old → IsRun (Steps piped) old new turn → StandsHeld piped s least new
  run_held least old new turn allowed here run =
      let there = silent_held least allowed here run.silent in
      step_held least run.behind new turn there (run.last s there.steps allowed there.stands)
