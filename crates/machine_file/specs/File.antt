-- Which bytes are a machine file, and the parameters that it gives: a document of TOML 1.1 whose
-- keys have the values of the table in docs/MACHINE-FILE.md (`Table`).
use Rattle.std.specs.Prelude.{◌≡◌, ℕ, ◌+◌, ◌^◌, ◌%◌, ◌==◌, Bool, true, false, not, ◌&&◌, ◌||◌}
use Rattle.std.specs.Prelude.{if◌then◌else◌, nat_le, int_le, ◌-◌, ℤ, pos, negsuc, List, [], ◌∷◌}
use Rattle.std.specs.Prelude.{length, Option, Some, None, is_some, option_map, option_and_then}
use Rattle.std.specs.Prelude.{unwrap_or, codes, find, slice_index_or}
use Rattle.std.specs.Int.{is_power_of_two}
use Rattle.std.specs.List.{list_any, position_from}
use Rattle.std.specs.Option.{option_or, option_map_or}
use Rattle.std.specs.Str.{bytes_eq, is_utf8}
use Rattle.branch_predictor.specs.declared.params.PredKind.{PredKind}
use Rattle.branch_predictor.specs.declared.params.PredKind.TheVariants.{Static, Bimodal, Gshare}
use Rattle.mono_model.specs.declared.params.Params.{Params}
use Rattle.toml.specs.Data.{Data, Members, no_members, member, get_member, as_integer, as_str}
use Rattle.toml.specs.Data.{as_table}
use Rattle.toml.specs.Parse.{parse_document}
use Rattle.machine_file.specs.declared.fault.MachineFault.{MachineFault}
use Rattle.machine_file.specs.declared.fault.MachineFault.TheVariants.{NotToml, Unknown, Kind}
use Rattle.machine_file.specs.declared.fault.MachineFault.TheVariants.{Range, Power}
use Rattle.machine_file.specs.Table.{Wanted, number, power, pages, pages_of_ram, text, Key, Row}
use Rattle.machine_file.specs.Table.{first_rows, rows, key_text}

-- the table that the bytes write, if they are TOML
unfoldable pub document : List ℕ → Option Members
document bytes = if is_utf8 bytes then parse_document bytes else None

-- the file is of version 2: its `version` is this whole number
abbrev pub is_two : Option ℤ → Bool
is_two (Some (pos n)) = n == 2
is_two _ = false

abbrev pub is_second : Members → Bool
is_second file = is_two (option_and_then as_integer (get_member (codes "version") file))

-- the rows of the names that may stand in a file
abbrev pub known_rows : Members → List Row
known_rows file = if is_second file then rows else first_rows

-- a row has this top-level name; has it as the name of a section; has this name inside the section
abbrev pub has_top : List ℕ → Row → Bool
has_top top r = bytes_eq r.key.top top

abbrev pub has_section : List ℕ → Row → Bool
has_section section r = bytes_eq r.key.top section && is_some r.key.inside

abbrev pub is_named : List ℕ → Option (List ℕ) → Bool
is_named name None = false
is_named name (Some inside) = bytes_eq inside name

abbrev pub has_inside : List ℕ → List ℕ → Row → Bool
has_inside section name r = bytes_eq r.key.top section && is_named name r.key.inside

-- the first name inside a section that no row has; members stand in the order of their bytes
abbrev pub unknown_inside : List Row → List ℕ → Members → Option Key
unknown_inside known section no_members = None
unknown_inside known section (member name value others) =
    if list_any (has_inside section name) known then unknown_inside known section others
    else Some (record { top = section; inside = Some name })

-- the first unknown name below a known top-level name: only a table of a section's name has names
-- inside
abbrev pub unknown_in : List Row → List ℕ → Option Members → Option Key
unknown_in known top None = None
unknown_in known top (Some inside) =
    if list_any (has_section top) known then unknown_inside known top inside else None

-- the first name that no row has, each name with those inside before the next
abbrev pub unknown_key : List Row → Members → Option Key
unknown_key known no_members = None
unknown_key known (member top value others) =
    if list_any (has_top top) known then option_or (unknown_in known top (as_table value))
    (unknown_key known others)
    else Some (record { top = top; inside = None })

-- what a file holds for a key: nothing, a value, or no table where the section is to be
pub data Held : Type 0 where
  left_out : Held
  held_value : Data → Held
  no_section : Held

abbrev pub held_or : Option Data → Held
held_or None = left_out
held_or (Some value) = held_value value

abbrev pub held_inside : List ℕ → Option Members → Held
held_inside name None = no_section
held_inside name (Some section) = held_or (get_member name section)

abbrev pub held_below : Option (List ℕ) → Data → Held
held_below None value = held_value value
held_below (Some name) value = held_inside name (as_table value)

abbrev pub held_at : Option (List ℕ) → Option Data → Held
held_at inside None = left_out
held_at inside (Some value) = held_below inside value

unfoldable pub held : Members → Key → Held
held file key = held_at key.inside (get_member key.top file)

-- the number that a value stands for, if it is of the kind that is wanted: a whole number, or one
-- of the texts
abbrev pub place_of : List (List ℕ) → List ℕ → Option ℤ
place_of texts s = option_map (λ k. pos k) (position_from (λ t. bytes_eq t s) 0 texts)

abbrev pub number_of : Wanted → Data → Option ℤ
number_of (text texts) value = option_and_then (place_of texts) (as_str value)
number_of (number low high) value = as_integer value
number_of (power low high) value = as_integer value
number_of (pages low high) value = as_integer value
number_of (pages_of_ram low high) value = as_integer value

-- the number that a key has in a file
abbrev pub given_by : Row → Held → Option ℤ
given_by r left_out = Some (pos r.default)
given_by r (held_value value) = number_of r.wanted value
given_by r no_section = None

unfoldable pub given : Members → Row → Option ℤ
given file r = given_by r (held file r.key)

abbrev pub natural : ℤ → ℕ
natural (pos n) = n
natural (negsuc n) = 0

abbrev pub whole : Option ℤ → ℕ
whole None = 0
whole (Some z) = natural z

-- the same where it is in range, and so never below 0
abbrev pub value_of : Members → Row → ℕ
value_of file r = whole (given file r)

abbrev pub value_at : Members → List ℕ → ℕ
value_at file key = option_map_or (value_of file) (find (λ r. bytes_eq (key_text r.key) key) rows) 0

unfoldable pub ram_base : Members → ℕ
ram_base file = value_at file (codes "ram.base")

-- the number is in the range, a text's place among the texts; is a power of two where one is asked
abbrev pub lies_between : ℕ → ℕ → ℤ → Bool
lies_between low high z = int_le (pos low) z && int_le z (pos high)

abbrev pub is_in_range : ℕ → Wanted → ℤ → Bool
is_in_range base (number low high) z = lies_between low high z
is_in_range base (power low high) z = lies_between low high z
is_in_range base (pages low high) z = lies_between low high z && natural z % 4096 == 0
is_in_range base (pages_of_ram low high) z =
    (lies_between low high z && natural z % 4096 == 0) && nat_le (base + natural z) (2 ^ 32)
is_in_range base (text texts) z = lies_between 0 (length texts - 1) z

abbrev pub is_power : Wanted → ℤ → Bool
is_power (power low high) z = natural z == 0 || is_power_of_two (natural z)
is_power (number low high) z = true
is_power (pages low high) z = true
is_power (pages_of_ram low high) z = true
is_power (text texts) z = true

unfoldable pub number_fault : ℕ → Row → ℤ → Option MachineFault
number_fault base r z =
    if not (is_in_range base r.wanted z) then Some (Range (key_text r.key) z)
    else if not (is_power r.wanted z) then Some (Power (key_text r.key) z)
    else None

-- the key that has no value of its kind: the section's name where that is no table
abbrev pub kind_key : Key → Held → List ℕ
kind_key key no_section = key.top
kind_key key _ = key_text key

abbrev pub given_fault : ℕ → Row → Held → Option ℤ → Option MachineFault
given_fault base r h None = Some (Kind (kind_key r.key h))
given_fault base r h (Some z) = number_fault base r z

unfoldable pub row_fault : Members → Row → Option MachineFault
row_fault file r = given_fault (ram_base file) r (held file r.key) (given file r)

-- the fault of the first row that has one
abbrev pub first_failing : Members → List Row → Option MachineFault
first_failing file [] = None
first_failing file (r ∷ rs) = option_or (row_fault file r) (first_failing file rs)

-- the first fault of a file, if there is one. All rows are tested: a file of version 1 without an
-- unknown name leaves out the keys of version 2, and their defaults have no fault
abbrev pub fault_by : Members → Option Key → Option MachineFault
fault_by file (Some key) = Some (Unknown (key_text key))
fault_by file None = first_failing file rows

unfoldable pub file_fault : Members → Option MachineFault
file_fault file = fault_by file (unknown_key (known_rows file) file)

abbrev pub document_fault : Option Members → Option MachineFault
document_fault None = Some NotToml
document_fault (Some file) = file_fault file

-- the first fault of the bytes, none where they are a machine file
unfoldable pub machine_fault : List ℕ → Option MachineFault
machine_fault bytes = document_fault (document bytes)

-- the kinds of predictor in the order of their texts
abbrev pub kind_at : ℕ → PredKind
kind_at place = slice_index_or (Static ∷ Bimodal ∷ Gshare ∷ []) place Static

-- the parameters, each the value of its key; only the policy "back" writes back
unfoldable pub params_by : (List ℕ → ℕ) → Params
params_by value = record {
  version = value (codes "version");
  ram_base = value (codes "ram.base");
  ram_size = value (codes "ram.size");
  core_fetch = value (codes "core.fetch");
  core_commit = value (codes "core.commit");
  core_front = value (codes "core.front");
  core_window = value (codes "core.window");
  core_stations = value (codes "core.stations");
  alu_count = value (codes "alu.count");
  alu_latency = value (codes "alu.latency");
  mul_count = value (codes "mul.count");
  mul_latency = value (codes "mul.latency");
  div_count = value (codes "div.count");
  div_latency = value (codes "div.latency");
  mem_count = value (codes "mem.count");
  mem_latency = value (codes "mem.latency");
  predictor_kind = kind_at (value (codes "predictor.kind"));
  predictor_counters = value (codes "predictor.counters");
  predictor_history = value (codes "predictor.history");
  predictor_targets = value (codes "predictor.targets");
  icache_line = value (codes "icache.line");
  icache_sets = value (codes "icache.sets");
  icache_ways = value (codes "icache.ways");
  icache_miss = value (codes "icache.miss");
  dcache_line = value (codes "dcache.line");
  dcache_sets = value (codes "dcache.sets");
  dcache_ways = value (codes "dcache.ways");
  dcache_miss = value (codes "dcache.miss");
  dcache_back = value (codes "dcache.policy") == 1;
  l2_line = value (codes "l2.line");
  l2_sets = value (codes "l2.sets");
  l2_ways = value (codes "l2.ways");
  l2_hit = value (codes "l2.hit");
  l2_miss = value (codes "l2.miss");
}

unfoldable pub params_of : List ℕ → Params
params_of bytes = params_by (value_at (unwrap_or (document bytes) no_members))

-- the bytes are a machine file, and give these parameters
pub record IsMachine (bytes : List ℕ) (params : Params) : Type 0 where
  pub clear : machine_fault bytes ≡ None
  pub same : params ≡ params_of bytes
