-- The facts of a setup that a run may have, from its test.
use Rattle.std.proofs.Common.{◌≡◌, ℕ, ◌+◌, ◌%◌, ◌^◌, ◌≤◌, ◌&&◌, ◌||◌, ◌==◌, nat_le, Bool, true, false, IsTrue, length, refl, ap, ◌∙◌, arith, eqb-true}
use Rattle.std.proofs.lemmas.Bool.{and_parts, leb-true}
use Rattle.std.specs.Int.{is_power_of_two}
use Rattle.elf_image.specs.Sound.{IsSound, is_sound}
use Rattle.elf_image.proofs.Ordered.{IsSound-from_test, test-from_IsSound}
use Rattle.branch_predictor.specs.Params as predictor
use Rattle.cache_timing.specs.Params as caches
use Rattle.cache_timing.specs.declared.params.CacheParams.{CacheParams}
use Rattle.mono_model.specs.Ranges.{is_between, is_power_between, is_ram, is_cache}
use Rattle.mono_model.specs.Setup.{ram_range, predictor_params, icache_params, dcache_params, l2_params, caches_params, is_version, are_core, are_units, is_predictor, are_caches, are_params, input_limit, output_limit, cycle_limit, ring_limit, is_setup}
use Rattle.mono_model.specs.Sound.{IsSetup}
use Rattle.mono_model.specs.declared.params.Params.{Params}
use Rattle.mono_model.specs.declared.setup.Setup.{Setup}

between : (low high n : ℕ) → is_between low high n ≡ true → (low ≤ n) × (n ≤ high)
between low high n is = let (least, most) = and_parts (nat_le low n) (nat_le n high) is in (leb-true low n least, leb-true n high most)

record IsPower (low high n : ℕ) : Type 0 where
  least : low ≤ n
  most : n ≤ high
  power : IsTrue (is_power_of_two n)

power : (low high n : ℕ) → is_power_between low high n ≡ true → IsPower low high n
power low high n is =
    let (ends, power) = and_parts (is_between low high n) (is_power_of_two n) is in
    record { least = (between low high n ends).0; most = (between low high n ends).1; power = power }

core_is : (p : Params) → are_core p ≡ true → (p.core_fetch ≤ 8) × ((p.core_commit ≤ 8) × (p.core_window ≤ 256))
core_is p is =
    let fetch : Bool = is_between 1 8 p.core_fetch in
    let commit : Bool = is_between 1 8 p.core_commit in
    let front : Bool = is_between 1 32 p.core_front in
    let window : Bool = is_between 1 256 p.core_window in
    let (four, stations) = and_parts (fetch && commit && front && window) (is_between 1 256 p.core_stations) is in
    let (three, last) = and_parts (fetch && commit && front) window four in
    let (two, third) = and_parts (fetch && commit) front three in
    let (one, second) = and_parts fetch commit two in
    ((between 1 8 p.core_fetch one).1, ((between 1 8 p.core_commit second).1, (between 1 256 p.core_window last).1))

-- the places of the target buffer: none, or a power of two
targets_in : (n : ℕ) → (n == 0 || is_power_between 1 65536 n) ≡ true → IsTrue (n == 0 || is_power_of_two n) × (n ≤ 65536)
targets_in n is = by_test (n == 0) refl is
  where
    by_test : (b : Bool) → (n == 0) ≡ b → (b || is_power_between 1 65536 n) ≡ true → IsTrue (b || is_power_of_two n) × (n ≤ 65536)
    by_test true none is = (refl, omega (arith, eqb-true n 0 none))
    by_test false some is = let it = power 1 65536 n is in (it.power, it.most)

predictor_is : (p : Params) → is_predictor p ≡ true → predictor.IsInRange (predictor_params p)
predictor_is p is =
    let counters : Bool = is_power_between 1 65536 p.predictor_counters in
    let targets : Bool = p.predictor_targets == 0 || is_power_between 1 65536 p.predictor_targets in
    let (two, places) = and_parts (counters && nat_le p.predictor_history 16) targets is in
    let (one, history) = and_parts counters (nat_le p.predictor_history 16) two in
    let counted = power 1 65536 p.predictor_counters one in
    record {
      counters = counted.power;
      counters_limit = counted.most;
      history_limit = leb-true p.predictor_history 16 history;
      targets = (targets_in p.predictor_targets places).0;
      targets_limit = (targets_in p.predictor_targets places).1;
    }

record IsCache (most_sets : ℕ) (p : CacheParams) : Type 0 where
  in_range : caches.IsInRange p
  sets : p.sets ≤ most_sets

cache_is : (most_sets : ℕ) (p : CacheParams) → most_sets ≤ 65536 → is_cache most_sets p.line p.sets p.ways p.miss ≡ true → IsCache most_sets p
cache_is most_sets p most is =
    let line : Bool = is_power_between 4 256 p.line in
    let sets : Bool = is_power_between 1 most_sets p.sets in
    let (three, miss) = and_parts (line && sets && nat_le p.ways 16) (nat_le p.miss 1000) is in
    let (two, ways) = and_parts (line && sets) (nat_le p.ways 16) three in
    let (one, second) = and_parts line sets two in
    let l = power 4 256 p.line one in
    let n = power 1 most_sets p.sets second in
    let limit : p.sets ≤ 65536 = omega (arith, n.most, most) in
    record {
      in_range = record {
        line_least = l.least;
        line_most = l.most;
        line = l.power;
        sets_most = limit;
        sets = n.power;
        ways_most = leb-true p.ways 16 ways;
        miss_most = leb-true p.miss 1000 miss;
      };
      sets = n.most;
    }

caches_are : (p : Params) → are_caches p ≡ true → caches.AreInRange (caches_params p)
caches_are p is =
    let icache : Bool = is_cache 4096 p.icache_line p.icache_sets p.icache_ways p.icache_miss in
    let dcache : Bool = is_cache 4096 p.dcache_line p.dcache_sets p.dcache_ways p.dcache_miss in
    let l2 : Bool = is_cache 65536 p.l2_line p.l2_sets p.l2_ways p.l2_miss in
    let (three, hit) = and_parts (icache && dcache && l2) (nat_le p.l2_hit 1000) is in
    let (two, third) = and_parts (icache && dcache) l2 three in
    let (one, second) = and_parts icache dcache two in
    let small : 4096 ≤ 65536 = omega arith in
    let large : 65536 ≤ 65536 = omega arith in
    let i = cache_is 4096 (icache_params p) small one in
    let d = cache_is 4096 (dcache_params p) small second in
    record {
      icache = i.in_range;
      icache_sets_most = i.sets;
      dcache = d.in_range;
      dcache_sets_most = d.sets;
      l2 = (cache_is 65536 (l2_params p) large third).in_range;
      l2_hit_most = leb-true p.l2_hit 1000 hit;
    }

ram_is : (base size : ℕ) → is_ram base size ≡ true → 0x20000000 ≤ base
ram_is base size is =
    let low : Bool = is_between 0x20000000 0xfffff000 base in
    let even : Bool = base % 4096 == 0 in
    let pages : Bool = is_between 4096 67108864 size in
    let (four, below) = and_parts (low && even && pages && size % 4096 == 0) (nat_le (base + size) (2 ^ 32)) is in
    let (three, fourth) = and_parts (low && even && pages) (size % 4096 == 0) four in
    let (two, third) = and_parts (low && even) pages three in
    let (one, second) = and_parts low even two in
    (between 0x20000000 0xfffff000 base one).0

record HasParts (p : Params) : Type 0 where
  ram : is_ram p.ram_base p.ram_size ≡ true
  core : are_core p ≡ true
  predictor : is_predictor p ≡ true
  caches : are_caches p ≡ true

parts_are : (p : Params) → are_params p ≡ true → HasParts p
unfolding are_params
parts_are p is =
    let version : Bool = is_version p in
    let ram : Bool = is_ram p.ram_base p.ram_size in
    let (five, caches) = and_parts (version && ram && are_core p && are_units p && is_predictor p) (are_caches p) is in
    let (four, predictor) = and_parts (version && ram && are_core p && are_units p) (is_predictor p) five in
    let (three, units) = and_parts (version && ram && are_core p) (are_units p) four in
    let (two, core) = and_parts (version && ram) (are_core p) three in
    let (one, second) = and_parts version ram two in
    record { ram = second; core = core; predictor = predictor; caches = caches }

pub setup_facts : (s : Setup) → is_setup s ≡ true → IsSetup s
unfolding is_setup
setup_facts s is =
    let p = s.params in
    let sound : Bool = is_sound s.image (ram_range p) in
    let input : Bool = nat_le (length s.input) input_limit in
    let cycles : Bool = is_between 1 cycle_limit s.cycles in
    let output : Bool = nat_le s.output output_limit in
    let (five, ring) = and_parts (sound && are_params p && input && cycles && output) (is_between 1 ring_limit s.ring) is in
    let (four, sent) = and_parts (sound && are_params p && input && cycles) output five in
    let (three, limit) = and_parts (sound && are_params p && input) cycles four in
    let (two, given) = and_parts (sound && are_params p) input three in
    let (one, params) = and_parts sound (are_params p) two in
    let parts = parts_are p params in
    let core = core_is p parts.core in
    record {
      image = IsSound-from_test s.image (ram_range p) one;
      ram = ram_is p.ram_base p.ram_size parts.ram;
      fetch = core.0;
      commit = core.1.0;
      window = core.1.1;
      predictor = predictor_is p parts.predictor;
      caches = caches_are p parts.caches;
      input = leb-true (length s.input) input_limit given;
      some_cycle = (between 1 cycle_limit s.cycles limit).0;
      cycles = (between 1 cycle_limit s.cycles limit).1;
      output = leb-true s.output output_limit sent;
      some_ring = (between 1 ring_limit s.ring ring).0;
      ring = (between 1 ring_limit s.ring ring).1;
    }

-- the test of a setup, from that of its parameters and the other facts
at_most : (a b : ℕ) → a ≤ b → nat_le a b ≡ true
at_most a b below = grind (arith, below)

all_true : (a b : Bool) → a ≡ true → b ≡ true → (a && b) ≡ true
all_true a b first second = ap (λ x. x && b) first ∙ second

is_from : (low high n : ℕ) → (low ≤ n) × (n ≤ high) → is_between low high n ≡ true
is_from low high n inside = all_true (nat_le low n) (nat_le n high) (at_most low n inside.0) (at_most n high inside.1)

pub is_setup-from : (s : Setup) → IsSound s.image (ram_range s.params) → are_params s.params ≡ true → length s.input ≤ input_limit → (1 ≤ s.cycles) × (s.cycles ≤ cycle_limit) →
    s.output ≤ output_limit → (1 ≤ s.ring) × (s.ring ≤ ring_limit) → is_setup s ≡ true
unfolding is_setup
is_setup-from s image params input cycles output ring =
    all_true _ _ (all_true _ _ (all_true _ _ (all_true _ _ (all_true _ _ (test-from_IsSound s.image (ram_range s.params) image) params) (at_most (length s.input) input_limit input)) (is_from 1 cycle_limit s.cycles cycles)) (at_most s.output output_limit output)) (is_from 1 ring_limit s.ring ring)
