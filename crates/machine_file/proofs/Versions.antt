-- A file of version 1 gives no second level and no policy, so its parameters have the defaults.
use Rattle.std.proofs.Common.{◌≡◌, ℕ, ◌==◌, ◌&&◌, ◌||◌, Bool, true, false, not, List, [], ◌∷◌, Ordering, Less, Equal, Greater, refl, ap, sym, ◌∙◌, ◌⊎◌, inl, inr, arith}
use Rattle.std.specs.Prelude.{Option, Some, None, if◌then◌else◌, ℤ, pos, negsuc, codes, option_and_then}
use Rattle.std.specs.Ordering.{nat_cmp, is_eq, match_ordering}
use Rattle.std.specs.Cmp.Lexicographic.{slice_cmp}
use Rattle.std.specs.List.{list_any}
use Rattle.std.specs.Option.{option_or}
use Rattle.std.proofs.lemmas.Bool.{false≢true}
use Rattle.std.proofs.lemmas.Bool.Decides.{nat_tests}
use Rattle.std.proofs.lemmas.Map.Text.{is_eq-slice_cmp}
use Rattle.std.proofs.lemmas.Slice.Eq.{bytes_eq-Decides}
use Rattle.mono_model.specs.Ranges.{is_between}
use Rattle.toml.specs.Data.{Data, Members, no_members, member, get_member, as_integer, as_table}
use Rattle.machine_file.specs.Table.{Row, row, text, number, version_row, first_rows, rows}
use Rattle.machine_file.specs.File.{held, held_at, held_inside, given, given_by, whole, value_of, is_second, is_two, known_rows, has_top, has_section, has_inside, unknown_inside, unknown_in, unknown_key}

none_both : {A : Type 0} (f g : Option A) → option_or f g ≡ None → (f ≡ None) × (g ≡ None)
none_both None g e = (refl, e)
none_both (Some x) g e = absurd (cc)

-- a name that is no fault is known, and nothing behind it is a fault
passes : {A : Type 0} (known : Bool) (others : Option A) (fault : A)
    → (if known then others else Some fault) ≡ None → (known ≡ true) × (others ≡ None)
passes true others fault clear = (refl, clear)
passes false others fault clear = absurd (cc)

same_name : (a b : List ℕ) → slice_cmp nat_cmp a b ≡ Equal → a ≡ b
same_name a b is = (bytes_eq-Decides a b).0 (sym (is_eq-slice_cmp a b) ∙ ap is_eq is)

-- a member of another name is passed over
passed : (o : Ordering) (a b : List ℕ) (value : Data) (below : Option Data) → slice_cmp nat_cmp a b ≡ o
    → (a ≡ b → ⊥) → below ≡ None → match_ordering o below (Some value) below ≡ None
passed Less a b value below is other none = none
passed Equal a b value below is other none = absurd (other (same_name a b is))
passed Greater a b value below is other none = none

-- a name that no row has stands nowhere in a file without unknown names
absent : (known : List Row) (top : List ℕ) → list_any (has_top top) known ≡ false
    → (file : Members) → unknown_key known file ≡ None → get_member top file ≡ None
absent known top strange no_members clear = refl
absent known top strange (member name value others) clear =
    let inside = unknown_in known name (as_table value) in
    let behind = unknown_key known others in
    let (stands, rest) = passes (list_any (has_top name) known) (option_or inside behind)
    (record { top = name; inside = None }) clear in
    let below = absent known top strange others (none_both inside behind rest).1 in
    passed (slice_cmp nat_cmp top name) top name value (get_member top others) refl
    (λ same. false≢true (sym strange ∙ ap (λ n. list_any (has_top n) known) same ∙ stands)) below

-- likewise inside a section
absent_inside : (known : List Row) (section name : List ℕ) → list_any (has_inside section name) known ≡ false
    → (inside : Members) → unknown_inside known section inside ≡ None → get_member name inside ≡ None
absent_inside known section name strange no_members clear = refl
absent_inside known section name strange (member other value others) clear =
    let (stands, rest) =
    passes (list_any (has_inside section other) known) (unknown_inside known section others)
    (record { top = section; inside = Some other }) clear in
    passed (slice_cmp nat_cmp name other) name other value (get_member name others) refl
    (λ same. false≢true (sym strange ∙ ap (λ n. list_any (has_inside section n) known) same ∙ stands))
    (absent_inside known section name strange others rest)

-- a name that no row has in a section counts as 0, whatever the section is
in_section : (known : List Row) (top name : List ℕ) → list_any (has_section top) known ≡ true
    → list_any (has_inside top name) known ≡ false
    → (r : Row) → r.default ≡ 0 → (section : Option Members) → unknown_in known top section ≡ None
    → whole (given_by r (held_inside name section)) ≡ 0
in_section known top name stands strange r zero_default None clear = refl
in_section known top name stands strange r zero_default (Some inside) clear =
    let clear_inside : unknown_inside known top inside ≡ None = rw stands at clear in
    rw (absent_inside known top name strange inside clear_inside) zero_default

-- and so in the file
in_file : (known : List Row) (top name : List ℕ) → list_any (has_section top) known ≡ true
    → list_any (has_inside top name) known ≡ false
    → (r : Row) → r.default ≡ 0 → (file : Members) → unknown_key known file ≡ None
    → whole (given_by r (held_at (Some name) (get_member top file))) ≡ 0
in_file known top name stands strange r zero_default no_members clear = zero_default
in_file known top name stands strange r zero_default (member other value others) clear =
    let inside = unknown_in known other (as_table value) in
    let behind = unknown_key known others in
    let (_, rest) = passes (list_any (has_top other) known) (option_or inside behind)
    (record { top = other; inside = None }) clear in
    let (here, there) = none_both inside behind rest in
    by_order (slice_cmp nat_cmp top other) refl here
    (in_file known top name stands strange r zero_default others there)
  where
    by_order : (o : Ordering) → slice_cmp nat_cmp top other ≡ o → unknown_in known other (as_table value) ≡ None
        → whole (given_by r (held_at (Some name) (get_member top others))) ≡ 0
        → whole (given_by r (held_at (Some name) (match_ordering o (get_member top others) (Some value) (get_member top others)))) ≡ 0
    by_order Less order here below = below
    by_order Equal order here below =
        in_section known top name stands strange r zero_default (as_table value)
        (ap (λ n. unknown_in known n (as_table value)) (same_name top other order) ∙ here)
    by_order Greater order here below = below

-- the rows of the second level's ways and of the policy
abbrev pub ways_row : Row
ways_row = row (codes "l2") (codes "ways") (number 0 16) 0

abbrev pub policy_row : Row
policy_row = row (codes "dcache") (codes "policy") (text (codes "through" ∷ codes "back" ∷ [])) 0

no_ways : (file : Members) → unknown_key first_rows file ≡ None → value_of file ways_row ≡ 0
unfolding first_rows given held
no_ways file clear = rw (absent first_rows (codes "l2") refl file clear) refl

no_policy : (file : Members) → unknown_key first_rows file ≡ None → value_of file policy_row ≡ 0
unfolding first_rows given held
no_policy file clear = in_file first_rows (codes "dcache") (codes "policy") refl refl policy_row refl file clear

-- the version of a file of version 2
second_is : (file : Members) → is_second file ≡ true → value_of file version_row ≡ 2
unfolding given held
second_is file second = by_value (get_member (codes "version") file) second
  where
    by_number : (o : Option ℤ) → is_two o ≡ true → whole o ≡ 2
    by_number None two = absurd (false≢true two)
    by_number (Some (pos n)) two = grind (arith, nat_tests)
    by_number (Some (negsuc n)) two = absurd (false≢true two)

    by_value : (o : Option Data) → is_two (option_and_then as_integer o) ≡ true → whole (given_by version_row (held_at None o)) ≡ 2
    by_value None two = absurd (false≢true two)
    by_value (Some value) two = by_number (as_integer value) two

by_test : (version ways policy : ℕ) → is_between 1 2 version ≡ true → (version ≡ 2) ⊎ ((ways ≡ 0) × (policy ≡ 0))
    → ((version == 1 && ways == 0 && not (policy == 1)) || version == 2) ≡ true
by_test version ways policy range (inl second) = grind (arith, nat_tests)
by_test version ways policy range (inr none) = grind (arith, nat_tests)

-- the version beside what came with version 2
abbrev fits_version : Members → Bool
fits_version file =
    (value_of file version_row == 1 && value_of file ways_row == 0 && not (value_of file policy_row == 1))
    || value_of file version_row == 2

-- in a file without a fault they fit
pub version_fits : (file : Members) → unknown_key (known_rows file) file ≡ None
    → is_between 1 2 (value_of file version_row) ≡ true → fits_version file ≡ true
version_fits file clear range = by_version (is_second file) refl clear
  where
    by_version : (second : Bool) → is_second file ≡ second
        → unknown_key (if second then rows else first_rows) file ≡ None → fits_version file ≡ true
    by_version true is clear =
        by_test (value_of file version_row) (value_of file ways_row) (value_of file policy_row) range
        (inl (second_is file is))
    by_version false is clear =
        by_test (value_of file version_row) (value_of file ways_row) (value_of file policy_row) range
        (inr (no_ways file clear, no_policy file clear))
