-- What proofs take from the test of a setup, fact by fact. The test says more: the ranges of the other parameters.
use Rattle.std.specs.Prelude.{◌≤◌, length}
use Rattle.elf_image.specs.Sound.{IsSound}
use Rattle.branch_predictor.specs.Params as predictor
use Rattle.cache_timing.specs.Params as caches
use Rattle.mono_model.specs.declared.setup.Setup.{Setup}
use Rattle.mono_model.specs.Setup.{ram_range, predictor_params, caches_params, input_limit, output_limit, cycle_limit, ring_limit}

-- Of a setup that a run may have:
pub record IsSetup (s : Setup) : Type 0 where
  -- the image can be loaded into RAM, which begins above the devices
  pub image : IsSound s.image (ram_range s.params)
  pub ram : 0x20000000 ≤ s.params.ram_base
  -- what a cycle may do, and how many instructions are under way
  pub fetch : s.params.core_fetch ≤ 8
  pub commit : s.params.core_commit ≤ 8
  pub window : s.params.core_window ≤ 256
  pub predictor : predictor.IsInRange (predictor_params s.params)
  pub caches : caches.AreInRange (caches_params s.params)
  -- the input, and the bounds of the run
  pub input : length s.input ≤ input_limit
  pub some_cycle : 1 ≤ s.cycles
  pub cycles : s.cycles ≤ cycle_limit
  pub output : s.output ≤ output_limit
  pub some_ring : 1 ≤ s.ring
  pub ring : s.ring ≤ ring_limit
