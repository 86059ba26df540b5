use Rattle.inorder_laws.proofs.Stages.{is_pipeline}
use Rattle.inorder_laws.proofs.pipeline.each_stage_has_at_most_one_record.Goals as goal

pub returns : goal.returns
returns c = record { stages = is_pipeline }
