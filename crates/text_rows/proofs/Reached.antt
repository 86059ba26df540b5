-- Which addresses lie in executable segments.
use Rattle.std.proofs.Common.{◌≡◌, ℕ, ◌+◌, ◌≤◌, ◌<◌, nat_lt, Bool, true, false, List, [], ◌∷◌, length, take, get_or, refl, sym, ap, ◌∙◌, arith}
use Rattle.std.specs.Prelude.{◌&&◌, ◌||◌}
use Rattle.std.specs.List.{list_any}
use Rattle.std.proofs.lemmas.Grind.{common_steps}
use Rattle.std.proofs.lemmas.List.{take_all}
use Rattle.std.proofs.lemmas.List.Folds.{list_any_at, list_any_more}
use Rattle.elf_image.specs.declared.segment.Segment.{Segment}
use Rattle.elf_image.specs.declared.image.Image.{Image}
use Rattle.elf_image.specs.Load.{holds, in_executable, is_executable}

any_in : (addr : ℕ) (segments : List Segment) → list_any (λ s. s.exec && holds s addr) segments ≡ in_executable segments addr
any_in addr [] = refl
any_in addr (s ∷ rest) = ap (λ (b : Bool). (s.exec && holds s addr) || b) (any_in addr rest)

pub executable_any : (image : Image) (addr : ℕ) → list_any (λ s. s.exec && holds s addr) image.segments ≡ is_executable image addr
unfolding is_executable
executable_any image addr = any_in addr image.segments

abbrev pub reaches : ℕ → Segment → Bool
reaches page s = nat_lt s.addr (page + 4096) && nat_lt page (s.addr + s.size)

pub and_off : (a b : Bool) → b ≡ false → (a && b) ≡ false
and_off true b is = is
and_off false b is = refl

pub and_none : (a b : Bool) → a ≡ false → (a && b) ≡ false
and_none a b is = ap (λ (x : Bool). x && b) is

pub and_both : (a b : Bool) → a ≡ true → b ≡ true → (a && b) ≡ true
and_both a b first second = ap (λ (x : Bool). x && b) first ∙ second

or_left : (a b : Bool) → (a || b) ≡ false → a ≡ false
or_left true b is = is
or_left false b is = refl

or_right : (a b : Bool) → (a || b) ≡ false → b ≡ false
or_right true b is = let e : true ≡ false = is in cc
or_right false b is = is

or_both : (a b : Bool) → a ≡ false → b ≡ false → (a || b) ≡ false
or_both a b first second = ap (λ (x : Bool). x || b) first ∙ second

holds_none : (s : Segment) (page addr : ℕ) → page ≤ addr → addr < page + 4096 → reaches page s ≡ false → holds s addr ≡ false
holds_none s page addr from to none = grind (arith, common_steps)

exec_none : (exec : Bool) (s : Segment) (page addr : ℕ) → page ≤ addr → addr < page + 4096 → (exec && reaches page s) ≡ false → (exec && holds s addr) ≡ false
exec_none true s page addr from to none = holds_none s page addr from to none
exec_none false s page addr from to none = refl

none_in : (page addr : ℕ) (segments : List Segment) → page ≤ addr → addr < page + 4096 → list_any (λ s. s.exec && reaches page s) segments ≡ false → in_executable segments addr ≡ false
none_in page addr [] from to none = refl
none_in page addr (s ∷ rest) from to none =
    or_both (s.exec && holds s addr) (in_executable rest addr)
    (exec_none s.exec s page addr from to (or_left (s.exec && reaches page s) (list_any (λ x. x.exec && reaches page x) rest) none))
    (none_in page addr rest from to (or_right (s.exec && reaches page s) (list_any (λ x. x.exec && reaches page x) rest) none))

pub none_reached : (image : Image) (page : ℕ) → list_any (λ s. s.exec && reaches page s) image.segments ≡ false → (addr : ℕ) → page ≤ addr → addr < page + 4096 → is_executable image addr ≡ false
unfolding is_executable
none_reached image page none addr from to = none_in page addr image.segments from to none

-- the first segments, one after the other
abbrev pub has_exec : ℕ → Segment → Bool
has_exec addr s = s.exec && holds s addr

abbrev pub reaches_exec : ℕ → Segment → Bool
reaches_exec page s = s.exec && reaches page s

pub none_more : (p : Segment → Bool) (segments : List Segment) (i : ℕ) (s : Segment) → i < length segments → s ≡ get_or segments i s → list_any p (take i segments) ≡ false → p s ≡ false → list_any p (take (i + 1) segments) ≡ false
none_more p segments i s below is before none =
    list_any_more p segments i s below ∙ or_both (list_any p (take i segments)) (p (get_or segments i s)) before (ap p (sym is) ∙ none)

pub none_all : (p : Segment → Bool) (segments : List Segment) (i : ℕ) → length segments ≤ i → list_any p (take i segments) ≡ false → list_any p segments ≡ false
none_all p segments i all none = ap (list_any p) (sym (take_all i segments all)) ∙ none

pub one_here : (p : Segment → Bool) (segments : List Segment) (i : ℕ) (s : Segment) → i < length segments → s ≡ get_or segments i s → p s ≡ true → list_any p segments ≡ true
one_here p segments i s below is one = list_any_at p segments i s below (ap p (sym is) ∙ one)
