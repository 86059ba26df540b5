-- The values among the rows of a parse, and what one more use of a name or an option adds to them.
use Rattle.std.proofs.Common.{◌≡◌, ◌∙◌, Bool, cond, true, false, true≢false, List, [], ◌∷◌, ◌++◌, refl, sym, ap}
use Rattle.std.specs.Prelude.{◌&&◌, ◌||◌, Option, Some, None, find, is_some, unwrap_or, option_and_then, option_map, slice_get}
use Rattle.std.specs.Option.{option_map_or}
use Rattle.std.specs.List.{list_all}
use Rattle.std.specs.Str.{bytes_eq}
use Rattle.std.proofs.lemmas.Slice.Eq.{bytes_eq-Decides}
use Rattle.clap.specs.Facts.{explicit_source}
use Rattle.clap.specs.Takes.{is_given}
use Rattle.clap.specs.Walk.{Row, first_of, has_row, stronger, with_values, without}
use Rattle.clap.specs.declared.builder.value_parser.Reading.{Reading}
use Rattle.clap.specs.declared.parser.matches.ValueSource.{ValueSource}
use Rattle.clap.specs.declared.parser.matches.ValueSource.TheVariants.{CommandLine, DefaultValue}
use Rattle.fast_cli.specs.Words.{◌>>=◌, Text, with_value}
use Rattle.fast_cli.specs.Command.{values_among}
use Rattle.fast_cli.specs.Values.{first_at}

-- ---- texts

pub bytes_eq_refl : (text : Text) → bytes_eq text text ≡ true
bytes_eq_refl text = (bytes_eq-Decides text text).1 refl

pub same_text : (a b : Text) → bytes_eq a b ≡ true → a ≡ b
same_text a b e = (bytes_eq-Decides a b).0 e

pub differs : (a b q : Text) → bytes_eq a b ≡ false → bytes_eq a q ≡ true → bytes_eq b q ≡ false
differs a b q other same = go (bytes_eq b q) refl
  where
    go : (t : Bool) → bytes_eq b q ≡ t → t ≡ false
    go true t = absurd (true≢false (sym (bytes_eq_refl b) ∙ ap (λ x. bytes_eq x b) (same_text b q t ∙ sym (same_text a q same)) ∙ other))
    go false t = refl

neither : (a b : Bool) → (a || b) ≡ false → (a ≡ false) × (b ≡ false)
neither true b e = absurd (true≢false e)
neither false b e = (refl, e)

-- ---- rows and values

pub has_row-values : (id : Text) (rows : List Row) → has_row id rows ≡ is_some (values_among rows id)
has_row-values id [] = refl
has_row-values id (r ∷ rs) = go (bytes_eq r.id id) (has_row-values id rs)
  where
    go : (b : Bool) → has_row id rs ≡ is_some (values_among rs id)
        → (b || has_row id rs) ≡ is_some (option_map (λ (x : Row). x.values) (cond b (Some r) (find (λ x. bytes_eq x.id id) rs)))
    go true e = refl
    go false e = e

pub without-none : (id : Text) (rows : List Row) → has_row id rows ≡ false → without id rows ≡ rows
without-none id [] none = refl
without-none id (r ∷ rs) none =
    let parts = neither (bytes_eq r.id id) (has_row id rs) none in
    rw parts.0 (ap (λ xs. r ∷ xs) (without-none id rs parts.1))

values-hit : (q : Text) (r : Row) (rs : List Row) → bytes_eq r.id q ≡ true → values_among (r ∷ rs) q ≡ Some r.values
values-hit q r rs hit = rw hit refl

values-miss : (q : Text) (r : Row) (rs : List Row) → bytes_eq r.id q ≡ false → values_among (r ∷ rs) q ≡ values_among rs q
values-miss q r rs miss = rw miss refl

-- one value more in the row of its name, or in a row of its own
pub values-with_values : (id : Text) (how : Reading) (v : Text) (rows : List Row) (q : Text)
    → values_among (with_values id how CommandLine (v ∷ []) rows) q ≡ with_value id v (values_among rows) q
values-with_values id how v [] q = go (bytes_eq id q)
  where
    go : (b : Bool) → option_map (λ (x : Row). x.values) (cond b (Some (record { id = id; values = v ∷ []; count = None; source = Some CommandLine; reading = how })) None)
        ≡ cond b (Some (v ∷ [])) None
    go true = refl
    go false = refl
values-with_values id how v (r ∷ rs) q = go (bytes_eq r.id id) refl (values-with_values id how v rs q)
  where
    here : Row
    here = record r { values = r.values ++ v ∷ []; source = Some (stronger r.source CommandLine) }

    hit : bytes_eq r.id id ≡ true → (t : Bool) → bytes_eq id q ≡ t → values_among (here ∷ rs) q ≡ cond t (Some (r.values ++ v ∷ [])) (values_among (r ∷ rs) q)
    hit e true t =
        let named : bytes_eq r.id q ≡ true = rw (same_text r.id id e) t in
        values-hit q here rs named
    hit e false t =
        let other : bytes_eq r.id q ≡ false = rw (same_text r.id id e) t in
        values-miss q here rs other ∙ sym (values-miss q r rs other)

    miss : bytes_eq r.id id ≡ false → values_among (with_values id how CommandLine (v ∷ []) rs) q ≡ with_value id v (values_among rs) q
        → (t : Bool) → bytes_eq r.id q ≡ t
        → values_among (r ∷ with_values id how CommandLine (v ∷ []) rs) q
        ≡ cond (bytes_eq id q) (Some (unwrap_or (values_among rs id) [] ++ v ∷ [])) (values_among (r ∷ rs) q)
    miss e ih true t = values-hit q r _ t ∙ rw (differs r.id id q e t) (sym (values-hit q r rs t))
    miss e ih false t = values-miss q r _ t ∙ ih ∙ rw (values-miss q r rs t) refl

    go : (b : Bool) → bytes_eq r.id id ≡ b → values_among (with_values id how CommandLine (v ∷ []) rs) q ≡ with_value id v (values_among rs) q
        → values_among (with_values id how CommandLine (v ∷ []) (r ∷ rs)) q ≡ with_value id v (values_among (r ∷ rs)) q
    go true e ih = rw e (hit e (bytes_eq id q) refl)
    go false e ih = rw e (miss e ih (bytes_eq r.id q) refl)

-- a row without values, where there was none of its name
pub values-without : (id : Text) (how : Reading) (rows : List Row) → has_row id rows ≡ false → (q : Text)
    → values_among (with_values id how CommandLine [] rows) q ≡ cond (bytes_eq id q) (Some []) (values_among rows q)
values-without id how [] none q = go (bytes_eq id q)
  where
    go : (b : Bool) → option_map (λ (x : Row). x.values) (cond b (Some (record { id = id; values = []; count = None; source = Some CommandLine; reading = how })) None)
        ≡ cond b (Some []) None
    go true = refl
    go false = refl
values-without id how (r ∷ rs) none q =
    let parts = neither (bytes_eq r.id id) (has_row id rs) none in
    rw parts.0 (go parts.0 (values-without id how rs parts.1 q) (bytes_eq r.id q) refl)
  where
    go : bytes_eq r.id id ≡ false → values_among (with_values id how CommandLine [] rs) q ≡ cond (bytes_eq id q) (Some []) (values_among rs q)
        → (t : Bool) → bytes_eq r.id q ≡ t
        → values_among (r ∷ with_values id how CommandLine [] rs) q ≡ cond (bytes_eq id q) (Some []) (values_among (r ∷ rs) q)
    go e ih true t = values-hit q r _ t ∙ rw (differs r.id id q e t) (sym (values-hit q r rs t))
    go e ih false t = values-miss q r _ t ∙ ih ∙ rw (values-miss q r rs t) refl

-- ---- the words themselves gave each row

abbrev pub AreGiven : List Row → Type 0
AreGiven rows = list_all (λ r. explicit_source r.source) rows ≡ true

both : (a b : Bool) → (a && b) ≡ true → (a ≡ true) × (b ≡ true)
both true b e = (refl, e)
both false b e = absurd (true≢false (sym e))

pub is_given-values : (id : Text) (rows : List Row) → AreGiven rows → is_given id rows ≡ is_some (values_among rows id)
is_given-values id [] given = refl
is_given-values id (r ∷ rs) given = go (bytes_eq r.id id) (both _ _ given).0 (is_given-values id rs (both _ _ given).1)
  where
    go : (b : Bool) → explicit_source r.source ≡ true → is_given id rs ≡ is_some (values_among rs id)
        → option_map_or (λ (x : Row). explicit_source x.source) (cond b (Some r) (find (λ x. bytes_eq x.id id) rs)) false
        ≡ is_some (option_map (λ (x : Row). x.values) (cond b (Some r) (find (λ x. bytes_eq x.id id) rs)))
    go true here rest = here
    go false here rest = rest

stronger-given : (s : Option ValueSource) → explicit_source (Some (stronger s CommandLine)) ≡ true
stronger-given None = refl
stronger-given (Some DefaultValue) = refl
stronger-given (Some CommandLine) = refl

pub with_values-given : (id : Text) (how : Reading) (vs : List Text) (rows : List Row) → AreGiven rows → AreGiven (with_values id how CommandLine vs rows)
with_values-given id how vs [] given = refl
with_values-given id how vs (r ∷ rs) given = go (bytes_eq r.id id) (both _ _ given).0 (both _ _ given).1 (with_values-given id how vs rs (both _ _ given).1)
  where
    go : (b : Bool) → explicit_source r.source ≡ true → AreGiven rs → AreGiven (with_values id how CommandLine vs rs)
        → AreGiven (cond b (record r { values = r.values ++ vs; source = Some (stronger r.source CommandLine) } ∷ rs) (r ∷ with_values id how CommandLine vs rs))
    go true here rest more = rw (stronger-given r.source) rest
    go false here rest more = rw here more

pub without-given : (id : Text) (rows : List Row) → AreGiven rows → AreGiven (without id rows)
without-given id [] given = refl
without-given id (r ∷ rs) given = go (bytes_eq r.id id) (both _ _ given).0 (both _ _ given).1 (without-given id rs (both _ _ given).1)
  where
    go : (b : Bool) → explicit_source r.source ≡ true → AreGiven rs → AreGiven (without id rs) → AreGiven (cond b rs (r ∷ without id rs))
    go true here rest more = rest
    go false here rest more = rw here more

pub first_of-values : (id : Text) (rows : List Row) → first_of id rows ≡ first_at id (values_among rows)
first_of-values id rows = go (find (λ r. bytes_eq r.id id) rows)
  where
    go : (o : Option Row) → option_and_then (λ (r : Row). slice_get r.values 0) o ≡ (option_map (λ (r : Row). r.values) o >>= (λ texts. slice_get texts 0))
    go None = refl
    go (Some r) = refl
