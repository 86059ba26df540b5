-- The hart is as before once it has fetched.
use Rattle.std.proofs.Common.{◌≡◌, subst, sym}
use Rattle.mono_model.specs.declared.setup.Setup.{Setup}
use Rattle.mono_model.specs.Arch.{Arch}
use Rattle.func_model.specs.declared.hart.Hart.{Hart}
use Rattle.func_model.specs.declared.contents.Contents.{Contents}
use Rattle.func_model.specs.Contents.{ContentsStandFor}

pub still_stands : {D : Type 0} (s : Setup) (a : Arch) (side : Contents D) (hart : Hart) → hart ≡ side.hart → ContentsStandFor s a side → ContentsStandFor s a (record side { hart = hart })
still_stands {D} s a side hart same h = subst (λ (x : Hart). ContentsStandFor {D = D} s a (record side { hart = x })) (sym same) h
