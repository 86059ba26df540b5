-- The parameters of a file without a fault are in range.
use Rattle.std.proofs.Common.{◌≡◌, ℕ, ◌+◌, ◌-◌, ◌^◌, ◌%◌, ◌==◌, ◌&&◌, ◌||◌, Bool, true, false, not, ◌<◌, nat_le, zero, suc, get_or, ℤ, pos, negsuc, List, [], ◌∷◌, length, refl, lit<, arith}
use Rattle.std.specs.Prelude.{Option, Some, None, if◌then◌else◌}
use Rattle.std.specs.Int.{is_power_of_two}
use Rattle.std.specs.Option.{option_or}
use Rattle.std.proofs.lemmas.Bool.{and_parts, false≢true}
use Rattle.std.proofs.lemmas.Bool.Decides.{nat_tests}
use Rattle.mono_model.specs.Ranges.{is_between, is_power_between, is_ram, is_cache}
use Rattle.mono_model.specs.Setup.{are_params}
use Rattle.machine_file.specs.declared.fault.MachineFault.{MachineFault}
use Rattle.toml.specs.Data.{Members}
use Rattle.machine_file.specs.Table.{Wanted, number, power, pages, pages_of_ram, text, Key, Row, version_row, first_rows, second_rows, rows, key_text}
use Rattle.machine_file.specs.File.{Held, held, given, whole, natural, value_of, value_at, ram_base, is_in_range, is_power, number_fault, given_fault, row_fault, first_failing, file_fault, fault_by, unknown_key, known_rows, params_by}
use Rattle.machine_file.proofs.Versions.{version_fits}

-- a number that passes the tests of its row, as a natural number
abbrev fits : ℕ → Wanted → ℕ → Bool
fits base (number low high) n = is_between low high n
fits base (power low high) n = is_between low high n && (n == 0 || is_power_of_two n)
fits base (pages low high) n = is_between low high n && n % 4096 == 0
fits base (pages_of_ram low high) n = (is_between low high n && n % 4096 == 0) && nat_le (base + n) (2 ^ 32)
fits base (text texts) n = is_between 0 (length texts - 1) n

-- a number that passes is not below 0
number_fits : (base : ℕ) (wanted : Wanted) (z : ℤ) → is_in_range base wanted z ≡ true → is_power wanted z ≡ true → fits base wanted (natural z) ≡ true
number_fits base (number low high) (pos n) h p = h
number_fits base (number low high) (negsuc n) h p = absurd (false≢true h)
number_fits base (power low high) (pos n) h p = rw (h, p) refl
number_fits base (power low high) (negsuc n) h p = absurd (false≢true h)
number_fits base (pages low high) (pos n) h p = h
number_fits base (pages low high) (negsuc n) h p = absurd (false≢true h)
number_fits base (pages_of_ram low high) (pos n) h p = h
number_fits base (pages_of_ram low high) (negsuc n) h p = absurd (false≢true h)
number_fits base (text texts) (pos n) h p = h
number_fits base (text texts) (negsuc n) h p = absurd (false≢true h)

-- neither test fails where there is no fault
tests_pass : (a b : Bool) (f g : MachineFault) → (if not a then Some f else if not b then Some g else None) ≡ None → (a ≡ true) × (b ≡ true)
tests_pass true true f g e = (refl, refl)
tests_pass true false f g e = absurd (cc)
tests_pass false b f g e = absurd (cc)

given_fits : (base : ℕ) (r : Row) (h : Held) (o : Option ℤ) → given_fault base r h o ≡ None → fits base r.wanted (whole o) ≡ true
unfolding number_fault
given_fits base r h None e = absurd (cc)
given_fits base r h (Some z) e = let (range, powers) = tests_pass _ _ _ _ e in number_fits base r.wanted z range powers

row_fits : (file : Members) (r : Row) → row_fault file r ≡ None → fits (ram_base file) r.wanted (value_of file r) ≡ true
unfolding row_fault
row_fits file r e = given_fits (ram_base file) r (held file r.key) (given file r) e

none_both : (f g : Option MachineFault) → option_or f g ≡ None → (f ≡ None) × (g ≡ None)
none_both None g e = (refl, e)
none_both (Some x) g e = absurd (cc)

-- the number of the k-th row of a table without a fault
fits_at : (file : Members) (rs : List Row) → first_failing file rs ≡ None → (k : ℕ) (d : Row) → k < length rs → fits (ram_base file) (get_or rs k d).wanted (value_of file (get_or rs k d)) ≡ true
fits_at file [] e k d within = absurd (omega arith)
fits_at file (r ∷ rs) e zero d within = row_fits file r (none_both _ _ e).0
fits_at file (r ∷ rs) e (suc k) d within = fits_at file rs (none_both (row_fault file r) (first_failing file rs) e).1 k d (omega arith)

both : {a b : Bool} → a ≡ true → b ≡ true → (a && b) ≡ true
both p q = rw (p, q) refl

power_fits : (low high n : ℕ) → 0 < low → (is_between low high n && (n == 0 || is_power_of_two n)) ≡ true → is_power_between low high n ≡ true
power_fits low high n some h = grind (arith, nat_tests)

targets_fit : (n : ℕ) → (is_between 0 65536 n && (n == 0 || is_power_of_two n)) ≡ true → (n == 0 || is_power_between 1 65536 n) ≡ true
targets_fit n h = grind (arith, nat_tests)

ram_fits : (base size : ℕ) → (is_between 0x20000000 0xFFFFF000 base && base % 4096 == 0) ≡ true → ((is_between 4096 67108864 size && size % 4096 == 0) && nat_le (base + size) (2 ^ 32)) ≡ true → is_ram base size ≡ true
ram_fits base size h k =
    let (whole_pages, room) = and_parts (is_between 4096 67108864 size && size % 4096 == 0) (nat_le (base + size) (2 ^ 32)) k in
    let (range, multiple) = and_parts (is_between 4096 67108864 size) (size % 4096 == 0) whole_pages in
    both (both (both h range) multiple) room

most : (low high n : ℕ) → is_between low high n ≡ true → nat_le n high ≡ true
most low high n h = (and_parts (nat_le low n) (nat_le n high) h).1

cache_fits : (sets line set ways miss : ℕ) → is_power_between 4 256 line ≡ true → is_power_between 1 sets set ≡ true → is_between 0 16 ways ≡ true → is_between 0 1000 miss ≡ true → is_cache sets line set ways miss ≡ true
cache_fits sets line set ways miss a b c d = both (both (both a b) (most 0 16 ways c)) (most 0 1000 miss d)

-- the parameters of a file without a failing row are in range, row by row
are_params-clear : (file : Members) → unknown_key (known_rows file) file ≡ None → first_failing file rows ≡ None → are_params (params_by (value_at file)) ≡ true
unfolding are_params params_by ram_base first_rows second_rows rows key_text
are_params-clear file known clear =
    let n : ℕ → ℕ = λ k. value_of file (get_or rows k version_row) in
    let at = λ (k : ℕ) (within : k < 34). fits_at file rows clear k version_row within in
    let core = both (both (both (both (at 3 (lit< tt)) (at 4 (lit< tt))) (at 5 (lit< tt))) (at 6 (lit< tt))) (at 7 (lit< tt)) in
    let alu = both (at 8 (lit< tt)) (at 9 (lit< tt)) in
    let mul = both (at 10 (lit< tt)) (at 11 (lit< tt)) in
    let div = both (at 12 (lit< tt)) (at 13 (lit< tt)) in
    let mem = both (at 14 (lit< tt)) (at 15 (lit< tt)) in
    let counters = power_fits 1 65536 (n 17) (lit< tt) (at 17 (lit< tt)) in
    let predictor = both (both counters (most 0 16 (n 18) (at 18 (lit< tt)))) (targets_fit (n 19) (at 19 (lit< tt))) in
    let icache = cache_fits 4096 (n 20) (n 22) (n 24) (n 26) (power_fits 4 256 (n 20) (lit< tt) (at 20 (lit< tt))) (power_fits 1 4096 (n 22) (lit< tt) (at 22 (lit< tt))) (at 24 (lit< tt)) (at 26 (lit< tt)) in
    let dcache = cache_fits 4096 (n 21) (n 23) (n 25) (n 27) (power_fits 4 256 (n 21) (lit< tt) (at 21 (lit< tt))) (power_fits 1 4096 (n 23) (lit< tt) (at 23 (lit< tt))) (at 25 (lit< tt)) (at 27 (lit< tt)) in
    let second = cache_fits 65536 (n 29) (n 30) (n 31) (n 33) (power_fits 4 256 (n 29) (lit< tt) (at 29 (lit< tt))) (power_fits 1 65536 (n 30) (lit< tt) (at 30 (lit< tt))) (at 31 (lit< tt)) (at 33 (lit< tt)) in
    let caches = both (both (both icache dcache) second) (most 0 1000 (n 32) (at 32 (lit< tt))) in
    both (both (both (both (both (version_fits file known (at 0 (lit< tt))) (ram_fits (n 1) (n 2) (at 1 (lit< tt)) (at 2 (lit< tt)))) core) (both (both (both alu mul) div) mem)) predictor) caches

fault_clear : (file : Members) (unknown : Option Key) → fault_by file unknown ≡ None
    → (unknown ≡ None) × (first_failing file rows ≡ None)
fault_clear file None clear = (refl, clear)
fault_clear file (Some key) clear = absurd (cc)

pub are_params-file : (file : Members) → file_fault file ≡ None → are_params (params_by (value_at file)) ≡ true
unfolding file_fault
are_params-file file clear =
    let (known, passing) = fault_clear file (unknown_key (known_rows file) file) clear in
    are_params-clear file known passing

-- for the reader
pub ruleset ranges = (are_params-file)
