use Rattle.std.proofs.Common.{◌≡◌, drop, ap, sym, ◌∙◌, subst}
use Rattle.reorder_buffer.specs.declared.slot.Slot.{Slot}
use Rattle.timing_side.specs.Timing.{Timing}
use Rattle.timing_side.specs.Commit.{committed}
use Rattle.timing_core.specs.CoreStandsFor.{CoreStandsFor}
use Rattle.timing_core.specs.Retiring.{noted, gone}
use Rattle.timing_core.proofs.Leaving.{same_oldest}
use Rattle.timing_core.proofs.Retiring.{tells_nothing}
use Rattle.timing_core.proofs.state.TimingCore.retire_noted.Goals as goal

pub returns-in-Some : goal.returns-in-Some
returns-in-Some c = record {
  kept = λ s t slot there quiet k below.
      let found : Slot = c.in-Some.slot in
      let same : found ≡ slot = same_oldest _ found slot (sym c.in-Some.ensures.oldest) there in
      let unsent = tells_nothing found (noted s found t) (ap (λ (x : Slot). x.sends) same ∙ quiet.sends) in
      let behind = c.go.ensures.kept s (noted s found t) (c.note.ensures.kept s t k below.branches) below.retired below.to_commit in
      subst (λ (x : Slot). CoreStandsFor s (committed s x (drop 1 t.slots) t) c.go.new.self) same
      (subst (λ (u : Timing). CoreStandsFor s (gone found u) c.go.new.self) (sym unsent) behind);
}
