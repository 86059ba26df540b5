-- What is reported of a run that has ended.
use Rattle.std.proofs.Common.{◌≡◌, ap}
use Rattle.mono_model.specs.declared.setup.Setup.{Setup}
use Rattle.mono_model.specs.Arch.{Arch}
use Rattle.mono_model.specs.Cycle.{mono}
use Rattle.func_model.specs.declared.contents.Contents.{Contents}
use Rattle.func_model.specs.Hart.{arch_of}
use Rattle.func_model.specs.Contents.{output_in}
use Rattle.fast_threads.specs.Session.{HoldsEnd}

-- the output of a side that holds the end
pub end_output : {D : Type 0} (s : Setup) (contents : Contents D) → HoldsEnd s contents → output_in contents ≡ (mono s s.cycles).arch.output
unfolding arch_of
end_output s contents holds = ap (λ (a : Arch). a.output) holds.arch
