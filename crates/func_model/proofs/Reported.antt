-- What is reported of a run, and the registers of a new side.
use Rattle.std.proofs.Common.{◌≡◌, ℕ, zero, suc, ◌-◌, ◌≤◌, ◌<◌, List, ◌∷◌, length, slice_index, replicate, drop, refl, ap, sym, ◌∙◌, arith}
use Rattle.std.proofs.Math.Seq.{drop-cons}
use Rattle.std.proofs.lemmas.List.{drop_all}
use Rattle.mono_model.specs.declared.final_state.End.{End}
use Rattle.mono_model.specs.declared.final_state.Final.{Final}
use Rattle.mono_model.specs.declared.setup.Setup.{Setup}
use Rattle.mono_model.specs.Arch.{Arch, compare_of}
use Rattle.mono_model.specs.Final.{registers_from, final_of}
use Rattle.mono_model.specs.Alone.{Alone, alone_final}
use Rattle.func_model.specs.declared.contents.Contents.{Contents}
use Rattle.func_model.specs.Hart.{arch_of}
use Rattle.func_model.specs.Contents.{ContentsStandFor}
use Rattle.func_model.specs.Side.{registers_in, registers_at}

-- the registers of an array, one by one, are the array
from_place : (xs : List ℕ) (count : ℕ) → length xs ≡ 32 → count ≤ 32 → registers_from count (λ r. slice_index xs r) ≡ drop (32 - count) xs
from_place xs zero whole within = sym (drop_all 32 xs (omega arith))
from_place xs (suc count) whole within =
    let e : 32 - suc count ≡ 31 - count = omega arith in
    let f : suc (31 - count) ≡ 32 - count = omega arith in
    let inside : 31 - count < length xs = omega arith in
    ap (λ t. slice_index xs (31 - count) ∷ t) (from_place xs count whole (omega arith))
    ∙ ap (λ (n : ℕ). slice_index xs (31 - count) ∷ drop n xs) (sym f)
    ∙ sym (drop-cons xs (31 - count) 0 inside)
    ∙ ap (λ (n : ℕ). drop n xs) (sym e)

pub registers_are : (xs : List ℕ) → length xs ≡ 32 → registers_from 32 (λ r. slice_index xs r) ≡ xs
registers_are xs whole = from_place xs 32 whole (omega arith)

-- the counts and the state of a run, put together
abbrev pub counted_final : End → ℕ → ℕ → Arch → Final
counted_final end exceptions interrupts a = final_of end (record {
  version = 0;
  cycles = 0;
  instructions = a.csrs.retired;
  exceptions = exceptions;
  interrupts = interrupts;
  replays = 0;
  fetched = 0;
  squashed = 0;
  branches = 0;
  mispredicted = 0;
  icache_accesses = 0;
  icache_misses = 0;
  dcache_accesses = 0;
  dcache_misses = 0;
  l2_accesses = 0;
  l2_misses = 0;
  writebacks = 0;
  output = length a.output;
}) a

pub final_made : (end : End) (exceptions interrupts : ℕ) (b : Arch) (m : Alone) → b ≡ m.arch → m.end ≡ end → m.interrupts ≡ interrupts → m.exceptions ≡ exceptions →
    counted_final end exceptions interrupts b ≡ alone_final m
unfolding alone_final
final_made end exceptions interrupts b m arch ended counted excepted =
    ap (counted_final end exceptions interrupts) arch
    ∙ ap (λ (n : ℕ). counted_final end exceptions n m.arch) (sym counted)
    ∙ ap (λ (n : ℕ). counted_final end n m.interrupts m.arch) (sym excepted)
    ∙ ap (λ (e : End). counted_final e m.exceptions m.interrupts m.arch) (sym ended)

-- registers of zeros
pub zeros_at : (n r : ℕ) → slice_index (replicate n 0) r ≡ 0
zeros_at zero r = refl
zeros_at (suc n) zero = refl
zeros_at (suc n) (suc r) = zeros_at n r

-- the registers of a hart that stands for a state
pub registers_same : {D : Type 0} (s : Setup) (a : Arch) (contents : Contents D) → ContentsStandFor s a contents → length contents.hart.regs ≡ 32 → registers_in contents ≡ registers_at a
unfolding arch_of
registers_same s a contents h whole =
    let same : registers_in contents ≡ registers_at (arch_of contents.hart contents.bus) = λ i. record {
      pc = contents.hart.pc;
      regs = sym (registers_are contents.hart.regs whole) i;
      csrs = contents.hart.csrs;
      cmp = compare_of contents.bus;
    } in
    same ∙ ap registers_at h.arch
