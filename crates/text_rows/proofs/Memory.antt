-- Where a setup's RAM lies, and that its text lies in it.
use Rattle.std.proofs.Common.{◌≡◌, ℕ, suc, ◌+◌, ◌*◌, ◌/◌, ◌%◌, ◌^◌, ◌≤◌, ◌<◌, ◌&&◌, ◌||◌, ◌==◌, nat_le, nat_lt, Bool, true, false, List, [], ◌∷◌, length, refl, arith, eqb-true}
use Rattle.std.specs.List.{All}
use Rattle.std.proofs.lemmas.Bool.{and_parts, leb-true}
use Rattle.std.proofs.lemmas.Grind.{common_steps}
use Rattle.fsim_base.specs.declared.access.RamRange.{RamRange}
use Rattle.elf_image.specs.declared.segment.Segment.{Segment}
use Rattle.elf_image.specs.declared.image.Image.{Image}
use Rattle.elf_image.specs.Load.{holds, in_executable, is_executable}
use Rattle.elf_image.specs.Sound.{IsPlaced, IsSound, is_sound}
use Rattle.mono_model.specs.Ranges.{is_between, is_ram}
use Rattle.mono_model.specs.Setup.{are_caches, are_core, are_params, are_units, input_limit, is_predictor, is_setup, is_version, output_limit, cycle_limit, ring_limit, ram_range}
use Rattle.mono_model.specs.declared.params.Params.{Params}
use Rattle.mono_model.specs.declared.setup.Setup.{Setup}
use Rattle.mono_model.proofs.Sound.{setup_facts}
use Rattle.text_rows.specs.Rows.{AreRowsOf, AreRowsWithin, is_word_of_text}

-- RAM has whole pages, and ends at 2^32 at most
pub record HasPages (from count : ℕ) : Type 0 where
  pub base : from % 4096 ≡ 0
  pub size : count % 4096 ≡ 0
  pub end : from + count ≤ 2 ^ 32

ram_pages : (base size : ℕ) → is_ram base size ≡ true → HasPages base size
ram_pages base size is =
    let low : Bool = is_between 0x20000000 0xfffff000 base in
    let even : Bool = base % 4096 == 0 in
    let pages : Bool = is_between 4096 67108864 size in
    let whole : Bool = size % 4096 == 0 in
    let (four, below) = and_parts (low && even && pages && whole) (nat_le (base + size) (2 ^ 32)) is in
    let (three, fourth) = and_parts (low && even && pages) whole four in
    let (two, third) = and_parts (low && even) pages three in
    let (one, second) = and_parts low even two in
    record { base = eqb-true (base % 4096) 0 second; size = eqb-true (size % 4096) 0 fourth; end = leb-true (base + size) (2 ^ 32) below }

params_ram : (p : Params) → are_params p ≡ true → is_ram p.ram_base p.ram_size ≡ true
unfolding are_params
params_ram p is =
    let version : Bool = is_version p in
    let ram : Bool = is_ram p.ram_base p.ram_size in
    let (five, caches) = and_parts (version && ram && are_core p && are_units p && is_predictor p) (are_caches p) is in
    let (four, predictor) = and_parts (version && ram && are_core p && are_units p) (is_predictor p) five in
    let (three, units) = and_parts (version && ram && are_core p) (are_units p) four in
    let (two, core) = and_parts (version && ram) (are_core p) three in
    let (one, second) = and_parts version ram two in
    second

setup_params : (s : Setup) → is_setup s ≡ true → are_params s.params ≡ true
unfolding is_setup
setup_params s is =
    let sound : Bool = is_sound s.image (ram_range s.params) in
    let params : Bool = are_params s.params in
    let input : Bool = nat_le (length s.input) input_limit in
    let cycles : Bool = is_between 1 cycle_limit s.cycles in
    let output : Bool = nat_le s.output output_limit in
    let (five, ring) = and_parts (sound && params && input && cycles && output) (is_between 1 ring_limit s.ring) is in
    let (four, sent) = and_parts (sound && params && input && cycles) output five in
    let (three, limit) = and_parts (sound && params && input) cycles four in
    let (two, given) = and_parts (sound && params) input three in
    (and_parts sound params two).1

pub has_pages : (s : Setup) → is_setup s ≡ true → HasPages s.params.ram_base s.params.ram_size
has_pages s is = ram_pages s.params.ram_base s.params.ram_size (params_ram s.params (setup_params s is))

-- a page of it
pub page_fits : (from count page : ℕ) → HasPages from count → page < count / 4096 → from + 4096 * page + 4096 ≤ 4294967296
page_fits from count page pages below = let end : from + count ≤ 2 ^ 32 = pages.end in omega (arith, end, below)

pub page_aligned : (from count page : ℕ) → HasPages from count → (from + 4096 * page) % 4 ≡ 0
page_aligned from count page pages = let base : from % 4096 ≡ 0 = pages.base in omega (arith, base)

pub pages_end : (from count page : ℕ) → HasPages from count → page ≡ count / 4096 → from + 4096 * page ≡ from + count
pages_end from count page pages all = let whole : count % 4096 ≡ 0 = pages.size in omega (arith, whole, all)

-- an address in an executable segment lies in RAM
or_cases : {A : Type 0} (a b : Bool) → (a || b) ≡ true → (a ≡ true → A) → (b ≡ true → A) → A
or_cases true b is first second = first refl
or_cases false b is first second = second is

abbrev LiesIn : RamRange → ℕ → Type 0
LiesIn ram addr = (ram.base ≤ addr) × (addr < ram.base + ram.size)

held_in : (ram : RamRange) (s : Segment) (addr : ℕ) → IsPlaced ram s → (s.exec && holds s addr) ≡ true → LiesIn ram addr
held_in ram s addr placed is =
    let held = (and_parts s.exec (holds s addr) is).1 in
    let ends = and_parts (nat_le s.addr addr) (nat_lt addr (s.addr + s.size)) held in
    let below : addr < s.addr + s.size = grind (arith, common_steps, ends.1) in
    (omega (arith, leb-true s.addr addr ends.0, placed.inside.0), omega (arith, below, placed.inside.1))

lies_in : (ram : RamRange) (segments : List Segment) (addr : ℕ) → All (IsPlaced ram) segments → in_executable segments addr ≡ true → LiesIn ram addr
lies_in ram [] addr placed is = let e : false ≡ true = is in cc
lies_in ram (s ∷ rest) addr placed is =
    or_cases (s.exec && holds s addr) (in_executable rest addr) is
    (held_in ram s addr (placed 0 s (omega arith)))
    (lies_in ram rest addr (λ k d below. placed (suc k) d (omega arith)))

executable_in : (image : Image) (ram : RamRange) (addr : ℕ) → IsSound image ram → is_executable image addr ≡ true → LiesIn ram addr
unfolding is_executable
executable_in image ram addr sound is = lies_in ram image.segments addr sound.placed is

word_in : (image : Image) (ram : RamRange) (addr : ℕ) → IsSound image ram → is_word_of_text image addr ≡ true → LiesIn ram addr
word_in image ram addr sound is =
    let text = (and_parts (addr % 4 == 0) _ is).1 in
    let three = (and_parts (is_executable image addr && is_executable image (addr + 1) && is_executable image (addr + 2)) (is_executable image (addr + 3)) text).0 in
    let two = (and_parts (is_executable image addr && is_executable image (addr + 1)) (is_executable image (addr + 2)) three).0 in
    executable_in image ram addr sound (and_parts (is_executable image addr) (is_executable image (addr + 1)) two).0

-- all words of text are among those in RAM
pub all_rows : (s : Setup) (rows : List ℕ) → is_setup s ≡ true → AreRowsWithin s.image s.params.ram_base (s.params.ram_base + s.params.ram_size) rows → AreRowsOf s.image rows
all_rows s rows sound within = record {
  rising = within.rising;
  words = within.words;
  all = λ addr is. let there = word_in s.image (ram_range s.params) addr (setup_facts s sound).image is in within.all addr there.0 there.1 is;
  fit = λ addr there. omega (arith, within.below addr there, (has_pages s sound).end);
}
