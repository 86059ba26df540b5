use Rattle.std.proofs.Common.{subst}
use Rattle.insight_model.specs.declared.pipeline.Pipeline.{Pipeline}
use Rattle.fast_jobs.specs.Job.{CanWatch}
use Rattle.fast_jobs.proofs.PlayedWindow.{starts_window}
use Rattle.fast_jobs.proofs.PlayedInorder.{starts_inorder}
use Rattle.fast_jobs.proofs.tracing.run_trace.Goals as goal

pub trace_of-requires : goal.trace_of-requires
trace_of-requires g c =
    let can = subst (λ (k : Pipeline). CanWatch k c.args.setup.now) c.in-Window.is c.requires.can in
    record {
      kind = c.in-Window.is;
      can = c.requires.can;
      starts = starts_window c.args.setup.now c.in-Ok.core can c.in-Ok.ensures.stands;
    }

pub trace_of-requires-in-Ok-new : goal.trace_of-requires-in-Ok-new
trace_of-requires-in-Ok-new g c =
    let can = subst (λ (k : Pipeline). CanWatch k c.args.setup.now) c.in-Inorder.is c.requires.can in
    record {
      kind = c.in-Inorder.is;
      can = c.requires.can;
      starts = starts_inorder c.args.setup.now c.in-Ok-new.core can c.in-Ok-new.ensures.stands;
    }
