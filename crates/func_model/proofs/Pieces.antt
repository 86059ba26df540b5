-- A run alone that is made by pieces.
use Rattle.std.proofs.Common.{◌≡◌, ◌≢◌, ℕ, ◌+◌, ◌-◌, ◌≤◌, ◌<◌, ◌==◌, ◌^◌, min, Bool, true, false, if◌then◌else◌, refl, ap, sym, ◌∙◌, subst, arith}
use Rattle.std.proofs.lemmas.Grind.{common_steps}
use Rattle.fsim_base.specs.declared.instruction.Halt.TheVariants as halt
use Rattle.mono_model.specs.declared.final_state.End.{End}
use Rattle.mono_model.specs.declared.final_state.End.TheVariants as end
use Rattle.mono_model.specs.declared.setup.Setup.{Setup}
use Rattle.mono_model.specs.Arch.{start}
use Rattle.mono_model.specs.Final.{has_ended}
use Rattle.mono_model.specs.Alone.{Alone, alone, alone_start}
use Rattle.func_model.specs.declared.performed.Piece.{Piece}
use Rattle.func_model.specs.declared.performed.Stepped.{Stepped}
use Rattle.func_model.specs.declared.performed.Stepped.TheVariants as code
use Rattle.func_model.specs.declared.contents.Contents.{Contents}
use Rattle.func_model.specs.declared.alone.AloneRun.{AloneRun}
use Rattle.func_model.specs.Contents.{ContentsStandFor, retired_in}
use Rattle.func_model.specs.Alone.{IsAt, IsOnAt, end_left, AloneStandsFor, IsAlone}
use Rattle.func_model.proofs.Running.{alone_adds, alone_stays, stands_retired}
use Rattle.func_model.proofs.Trails.{running}

pub opening_alone : {D : Type 0} (s : Setup) (contents : Contents D) → 1 ≤ s.cycles → s.cycles < 2 ^ 63 → ContentsStandFor s (start s) contents → contents.hart.room ≡ s.output →
    AloneStandsFor s 0 (record { contents = contents; made = 0; taken = 0; end = end.Running; cycles = s.cycles; limit = s.output })
unfolding alone alone_start start
opening_alone s contents some bounded stands room = record {
  at = record { stands = stands; steps = refl; taken = refl; end = refl };
  number = λ on. refl;
  going = λ on. omega (arith, some);
  few = λ on. omega arith;
  cycles = refl;
  limit = refl;
  space = room;
  bounded = bounded;
}

not_running : (e : End) → has_ended e ≡ true → e ≢ end.Running
not_running e ended on = let wrong : has_ended end.Running ≡ true = ap has_ended (sym on) ∙ ended in cc

-- a run that has ended stays, however many steps are made of it
pub ended_stays : {D : Type 0} (s : Setup) (n steps : ℕ) (run : AloneRun D) → has_ended run.end ≡ true → AloneStandsFor s n run → AloneStandsFor s (n + steps) run
ended_stays {D} s n steps run ended h =
    let P : Alone → Type 0 = λ m. IsAt {D = D} s m run.made run.taken run.end run.contents in
    let e : n + steps ≡ steps + n = omega arith in
    let same : alone s (n + steps) ≡ alone s n = ap (alone s) e ∙ alone_stays s n steps (ap has_ended h.at.end ∙ ended) in
    record {
      at = subst P (sym same) h.at;
      number = λ on. absurd (not_running run.end ended on);
      going = h.going;
      few = h.few;
      cycles = h.cycles;
      limit = h.limit;
      space = h.space;
      bounded = h.bounded;
    }

-- a run that goes on made all steps of its piece, and has more
left_on : (stepped : Stepped) (last : Bool) → end_left stepped last ≡ end.Running → (stepped ≡ code.On) × (last ≡ false)
left_on code.On true on = cc
left_on code.On false on = (refl, refl)
left_on code.Full last on = cc
left_on (code.Ended halt.Pass) last on = cc
left_on (code.Ended (halt.Fail number)) last on = cc

not_last : (made cycles : ℕ) → (made == cycles) ≡ false → made ≢ cycles
not_last made cycles is same = let wrong : (made == cycles) ≡ true = grind (arith, same) in cc

module _ {D : Type 0} (s : Setup) (n steps to : ℕ) (old : AloneRun D) (side : Contents D) (piece : Piece) (h : AloneStandsFor s n old) (on : old.end ≡ end.Running)
    (to_is : to ≡ old.made + min steps (old.cycles - old.made)) (whole : piece.stepped ≡ code.On → piece.made ≡ to) (few : piece.stepped ≡ code.On → piece.taken ≤ piece.made)
    (at : IsAt s (alone s to) piece.made piece.taken (end_left piece.stepped (piece.made == s.cycles)) side) (room : side.hart.room ≡ old.contents.hart.room) where
  abbrev how : End
  how = end_left piece.stepped (piece.made == s.cycles)

  -- where it goes on, as many steps were made as were asked for
  made_is : how ≡ end.Running → piece.made ≡ to
  made_is still = whole (left_on piece.stepped (piece.made == s.cycles) still).0

  below : how ≡ end.Running → piece.made < s.cycles
  below still =
      let other = not_last piece.made s.cycles (left_on piece.stepped (piece.made == s.cycles) still).1 in
      least piece.made s.cycles other (omega (arith, made_is still, to_is, h.cycles, h.going on))
    where
      least : (made cycles : ℕ) → made ≢ cycles → made ≤ cycles → made < cycles
      least made cycles other most = omega (arith, other)

  all : how ≡ end.Running → to ≡ n + steps
  all still = omega (arith, made_is still, below still, to_is, h.cycles, h.number on, h.going on)

  there : (b : Bool) → has_ended how ≡ b → alone s (n + steps) ≡ alone s to
  there true ended =
      let e : n + steps ≡ ((n + steps) - to) + to = omega (arith, to_is, h.number on) in
      ap (alone s) e ∙ alone_stays s to ((n + steps) - to) (ap has_ended at.end ∙ ended)
  there false going = ap (alone s) (sym (all (running how going)))

  piece_stands : AloneStandsFor s (n + steps) (record old { contents = side; made = piece.made; taken = piece.taken; end = end_left piece.stepped (piece.made == s.cycles) })
  piece_stands =
      let P : Alone → Type 0 = λ m. IsAt {D = D} s m piece.made piece.taken how side in
      record {
        at = subst P (sym (there (has_ended how) refl)) at;
        number = λ still. made_is still ∙ all still;
        going = below;
        few = λ still. few (left_on piece.stepped (piece.made == s.cycles) still).0;
        cycles = h.cycles;
        limit = h.limit;
        space = room ∙ h.space;
        bounded = h.bounded;
      }

  -- with its end told by the run's own limit of steps
  pub piece_ends : (e : End) → e ≡ end_left piece.stepped (piece.made == old.cycles)
      → AloneStandsFor s (n + steps) (record old { contents = side; made = piece.made; taken = piece.taken; end = e })
  piece_ends e is =
      let same : e ≡ how = is ∙ ap (λ (k : ℕ). end_left piece.stepped (piece.made == k)) h.cycles in
      let P : End → Type 0 = λ x. AloneStandsFor {D = D} s (n + steps) (record old { contents = side; made = piece.made; taken = piece.taken; end = x }) in
      subst P (sym same) piece_stands

-- what a piece needs of the run
pub run_on_at : {D : Type 0} (s : Setup) (n : ℕ) (run : AloneRun D) → AloneStandsFor s n run → run.end ≡ end.Running → IsOnAt s (alone s run.made) run.made run.taken run.contents
run_on_at {D} s n run h on =
    let other : (run.made == s.cycles) ≡ false = grind (arith, common_steps, h.going on) in
    let going : run.end ≡ (if run.made == s.cycles then end.Limit else end.Running) = on ∙ sym (ap (λ (b : Bool). if b then end.Limit else end.Running) other) in
    let P : ℕ → Type 0 = λ k. IsAt {D = D} s (alone s k) run.made run.taken run.end run.contents in
    let here : IsAt s (alone s run.made) run.made run.taken run.end run.contents = subst P (sym (h.number on)) h.at in
    record { stands = here.stands; steps = here.steps; taken = here.taken; end = here.end ∙ going }

pub retired_made : {D : Type 0} (run : AloneRun D) → IsAlone run → retired_in run.contents ≤ run.made
retired_made run is =
    omega (arith, alone_adds is.setup is.number, stands_retired is.setup (alone is.setup is.number).arch run.contents is.stands.at.stands, is.stands.at.steps)
