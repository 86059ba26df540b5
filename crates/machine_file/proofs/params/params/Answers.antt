use Rattle.std.proofs.Common.{refl}
use Rattle.machine_file.specs.Table.{first_rows, second_rows, rows, key_text}
use Rattle.machine_file.specs.File.{params_by}
use Rattle.machine_file.proofs.params.params.Goals as goal

pub returns : goal.returns
unfolding first_rows second_rows rows key_text params_by
returns c = λ file same. rw (c.predictor_kind.ensures, same) refl
