-- The text of a count.
use Rattle.std.proofs.Common.{◌≡◌, refl}
use Rattle.mono_model.specs.declared.setup.Setup.{Setup}
use Rattle.mono_model.specs.Alone.{alone_start}
use Rattle.insight_model.specs.Count.{count_of_run, count_text, executed_from}

pub count-text : (s : Setup) → count_text s s.cycles ≡ count_of_run s.image (executed_from s s.cycles (alone_start s))
unfolding count_text
count-text s = refl
