-- A profile of the cycles in which nothing happens.
use Rattle.std.proofs.Common.{◌≡◌, ◌+◌, List, length}
use Rattle.elf_image.specs.declared.image.Image.{Image}
use Rattle.mono_model.specs.declared.params.Params.{Params}
use Rattle.mono_model.specs.Setup.{caches_params}
use Rattle.insight_model.specs.declared.pipeline.Pipeline.{Pipeline}
use Rattle.insight_model.specs.Sight.{Sight}
use Rattle.insight_model.specs.Cycles.{Cycle}
use Rattle.cycle_watch.specs.declared.heads.Heads.{Heads}
use Rattle.cycle_watch.specs.declared.profile.Profiling.{Profiling}
use Rattle.cycle_watch.specs.Passing.{StandsBetween}
use Rattle.cycle_watch.specs.Profiled.{IsProfileOf}
use Rattle.cycle_watch.proofs.Stretches.{HasPassedIdle}

abbrev pub heads_of : Profiling → Heads
heads_of profiling = profiling.heads

abbrev pub HasProfiled : Image → Pipeline → Params → List Cycle → Profiling → Type 0
HasProfiled image kind p run profiling = IsProfileOf image (caches_params p) kind run profiling

-- it may count further cycles up to this sight
pub record MayProfile (after : Sight) (profiling : Profiling) : Type 0 where
  pub between : StandsBetween profiling.heads after
  pub each : length profiling.counts.items ≡ length profiling.rows + 1

-- some stretches were profiled since
abbrev pub HasProfiledIdle : Sight → Profiling → Profiling → Type 0
HasProfiledIdle after old now = HasPassedIdle heads_of HasProfiled (MayProfile after) after old now
