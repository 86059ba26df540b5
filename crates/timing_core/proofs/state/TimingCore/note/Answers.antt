use Rattle.std.proofs.Common.{◌≡◌, ℕ, ◌+◌, ap, ◌∙◌, subst}
use Rattle.fsim_base.specs.declared.instruction.Flow.{Flow}
use Rattle.branch_predictor.specs.Predictor.{trained}
use Rattle.branch_predictor.specs.PredictorStandsFor.{PredictorStandsFor}
use Rattle.reorder_buffer.specs.declared.slot.Slot.{Slot}
use Rattle.mono_model.specs.Commit.{branch_count}
use Rattle.mono_model.specs.Found.{flow_in}
use Rattle.mono_model.specs.Machine as machine
use Rattle.mono_model.specs.Setup.{predictor_params, caches_params}
use Rattle.timing_side.specs.Slots.{found_in}
use Rattle.timing_core.proofs.Sums.{counted}
use Rattle.timing_core.proofs.state.TimingCore.note.Goals as goal

pub returns-clause-kept : goal.returns-clause-kept
returns-clause-kept c = λ s t k below.
    let slot : Slot = c.args.slot.now in
    let flow : Flow = flow_in (found_in slot) in
    let branches : c.count_if.new.count ≡ t.counts.branches + branch_count flow =
    counted _ _ t.counts.branches c.is_counted.result c.count_if.ensures.counted (ap (λ (n : machine.Counts). n.branches) k.counts) below
    ∙ ap (λ (n : ℕ). t.counts.branches + n) (c.is_counted.ensures.counted ∙ ap branch_count c.flow_of-flow.ensures.flow) in
    let Learnt : Flow → Type 0 = λ f. PredictorStandsFor c.train.new.self (predictor_params s.params) (trained (predictor_params s.params) t.predictor slot.addr f slot.next) in
    record {
      params = k.params;
      cycle_limit = k.cycle_limit;
      output_limit = k.output_limit;
      room = k.room;
      slots = k.slots;
      predictor = subst Learnt c.flow_of-flow.ensures.flow (c.train.ensures.trained (predictor_params s.params) t.predictor k.predictor);
      caches = c.store.ensures.kept (caches_params s.params) t.caches k.caches;
      cycle = k.cycle;
      to_commit = k.to_commit;
      resume = k.resume;
      paid = k.paid;
      counts = λ i. record (k.counts i) { branches = branches i };
      retired = k.retired;
      output = k.output;
      irq_on = k.irq_on;
      cmp = k.cmp;
      end = k.end;
    }
