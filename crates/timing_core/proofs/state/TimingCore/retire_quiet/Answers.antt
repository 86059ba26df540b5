use Rattle.std.proofs.Common.{sym, ◌∙◌, subst}
use Rattle.reorder_buffer.specs.declared.slot.Slot.{Slot}
use Rattle.timing_side.specs.Timing.{Timing}
use Rattle.timing_core.specs.CoreStandsFor.{CoreStandsFor}
use Rattle.timing_core.specs.Retiring.{noted, gone}
use Rattle.timing_core.proofs.Retiring.{notes_nothing, tells_nothing}
use Rattle.timing_core.proofs.state.TimingCore.retire_quiet.Goals as goal

pub returns-then-not-stores : goal.returns-then-not-stores
returns-then-not-stores c = record {
  kept = λ s t k below.
      let slot : Slot = c.args.slot.now in
      let taught = c.has_low_opcode.ensures.flow c.if-has_low_opcode.true in
      let touched = c.stores.ensures.touches c.if-not-stores.true in
      let nothing = tells_nothing slot (noted s slot t) c.requires.quiet.sends ∙ notes_nothing s slot t taught touched in
      subst (λ (u : Timing). CoreStandsFor s (gone slot u) c.go.new.self) (sym nothing) (c.go.ensures.kept s t k below.retired below.to_commit);
}
