-- A run may have the setup of an image that was read.
use Rattle.std.proofs.Common.{◌≡◌, ℕ, ◌≤◌, ◌&&◌, nat_le, Bool, List, length, true, refl, ap, ◌∙◌, arith}
use Rattle.std.proofs.lemmas.Bool.{and_parts}
use lib.Count.{ones}
use Rattle.mono_model.specs.declared.params.Params.{Params}
use Rattle.elf_image.specs.declared.image.Image.{Image}
use Rattle.elf_image.specs.Sound.{IsSound, is_sound}
use Rattle.mono_model.proofs.Sound.{is_setup-from}
use Rattle.mono_model.specs.Ranges.{is_between, is_ram}
use Rattle.mono_model.specs.Setup.{is_setup, is_version, are_core, are_units, is_predictor, are_caches, are_params, ram_range, cycle_limit, input_limit, output_limit, ring_limit}
use Rattle.mono_model.specs.declared.setup.Setup.{Setup}
use Rattle.mono_model.specs.Plain.{plain_params}
use Rattle.fast_cli.specs.declared.line.Options.{Options}
use Rattle.fast_cli.specs.Ranges.{HasRanges}
use Rattle.inorder_machine.specs.Setup.{IsInorder}
use Rattle.fast_jobs.specs.Stages.{inorder_params, inorder_setup, placed_params, setup_for}

pub is_setup-setup_for : (params : Params) (options : Options) (image : Image) (input : List ℕ) → are_params params ≡ true → IsSound image (ram_range params) → HasRanges options → length input ≤ input_limit → is_setup (setup_for params options image input) ≡ true
is_setup-setup_for params options image input in_range sound ranges short =
    is_setup-from (setup_for params options image input) sound in_range short ranges.cycles ranges.output ranges.ring

-- a test of two parts, of which one became another
first_other : (a b c : Bool) → (a ≡ true → b ≡ true) → (a && c) ≡ true → (b && c) ≡ true
first_other a b c leads both = let (first, second) = and_parts a c both in ap (λ x. x && c) (leads first) ∙ second

second_other : (a b c : Bool) → (b ≡ true → c ≡ true) → (a && b) ≡ true → (a && c) ≡ true
second_other a b c leads both = let (first, second) = and_parts a b both in ap (λ x. x && c) first ∙ leads second

-- The parameters of the in-order machine are in their ranges where those of the machine file are.
core-inorder : (p : Params) → are_core p ≡ true → are_core (inorder_params p) ≡ true
unfolding inorder_params
core-inorder p =
    let three : Bool = is_between 1 8 p.core_fetch && is_between 1 8 p.core_commit && is_between 1 32 p.core_front in
    let window : Bool = is_between 1 256 p.core_window in
    first_other (three && window) (three && true) (is_between 1 256 p.core_stations) (second_other three window true (λ is. refl))

params-inorder : (p : Params) → are_params p ≡ true → are_params (inorder_params p) ≡ true
unfolding are_params inorder_params
params-inorder p =
    let before : Bool = is_version p && is_ram p.ram_base p.ram_size in
    let core : Bool = are_core p in
    let next : Bool = are_core (inorder_params p) in
    let units : Bool = are_units p in
    let predictor : Bool = is_predictor p in
    first_other (before && core && units && predictor) (before && next && units && predictor) (are_caches p)
    (first_other (before && core && units) (before && next && units) predictor
    (first_other (before && core) (before && next) units (second_other before core next (core-inorder p))))

pub IsInorder-inorder_setup : (s : Setup) → is_setup s ≡ true → IsInorder (inorder_setup s)
unfolding is_setup inorder_params
IsInorder-inorder_setup s sound =
    let image : Bool = is_sound s.image (ram_range s.params) in
    let params : Bool = are_params s.params in
    let next : Bool = are_params (inorder_params s.params) in
    let input : Bool = nat_le (length s.input) input_limit in
    let cycles : Bool = is_between 1 cycle_limit s.cycles in
    let output : Bool = nat_le s.output output_limit in
    record {
      sound = first_other (image && params && input && cycles && output) (image && next && input && cycles && output) (is_between 1 ring_limit s.ring)
          (first_other (image && params && input && cycles) (image && next && input && cycles) output
          (first_other (image && params && input) (image && next && input) cycles
          (first_other (image && params) (image && next) input (second_other image params next (params-inorder s.params))))) sound;
      window = omega arith;
    }

-- The plain machine's parameters are in their ranges with the RAM of a machine file.
ram-placed : (p : Params) → are_params p ≡ true → is_ram p.ram_base p.ram_size ≡ true
unfolding are_params
ram-placed p sound =
    let version : Bool = is_version p in
    let ram : Bool = is_ram p.ram_base p.ram_size in
    let core : Bool = are_core p in
    let units : Bool = are_units p in
    let predictor : Bool = is_predictor p in
    let (four, caches) = and_parts (version && ram && core && units && predictor) (are_caches p) sound in
    let (three, predicts) = and_parts (version && ram && core && units) predictor four in
    let (two, has_units) = and_parts (version && ram && core) units three in
    let (one, has_core) = and_parts (version && ram) core two in
    let (is_first, is_placed) = and_parts version ram one in
    is_placed

pub placed_in_range : (p : Params) → are_params p ≡ true → are_params (placed_params p) ≡ true
unfolding ones are_params placed_params
placed_in_range p sound =
    let test : Bool → Bool = λ ram. is_version plain_params && ram && are_core plain_params && are_units plain_params && is_predictor plain_params && are_caches plain_params in
    ap test (ram-placed p sound)
