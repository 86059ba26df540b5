-- The byte that a list of points watches.
use Rattle.std.proofs.Common.{◌≡◌, ℕ, ◌+◌, ◌-◌, ◌<◌, ◌≤◌, cond, suc, not, max, Bool, true, false, List, [], ◌∷◌, ◌++◌, length, take, get_or, Option, Some, None, refl, ap, sym, ◌∙◌, arith}
use Rattle.std.specs.Prelude.{find}
use Rattle.std.specs.List.{cons_option, filter_map, list_any, range_with_len}
use Rattle.std.proofs.lemmas.List.{take_all, take_more}
use Rattle.fsim_base.specs.Width.{width_bytes}
use Rattle.fsim_base.specs.declared.access.Access.{Access}
use Rattle.fsim_base.specs.declared.access.Access.TheVariants as access
use Rattle.gdb_packets.specs.declared.packet.Point.{Point}
use Rattle.gdb_packets.specs.declared.packet.PointKind.{PointKind}
use Rattle.gdb_packets.specs.declared.packet.PointKind.TheVariants as kind
use Rattle.gdb_model.specs.Session.{greatest, is_break, watched_access, watches_loads, watches_stores}
use Rattle.gdb_session.specs.Points.{greater, watched_by, watched_if}

-- where a number doesn't pass, the first that does is among those after it
pub find_on : (p : ℕ → Bool) (addr place count byte : ℕ) → place < count → byte ≡ addr + place → p byte ≡ false →
    find p (range_with_len (addr + (place + 1)) (count - (place + 1))) ≡ find p (range_with_len (addr + place) (count - place))
find_on p addr place count byte within is fails =
    let left : count - place ≡ suc (count - (place + 1)) = omega (arith, within) in
    let further : addr + (place + 1) ≡ addr + place + 1 = omega arith in
    let behind : Option ℕ = find p (range_with_len (addr + place + 1) (count - (place + 1))) in
    ap (λ (n : ℕ). find p (range_with_len n (count - (place + 1)))) further
    ∙ sym (ap (λ (n : ℕ). find p (range_with_len (addr + place) n)) left ∙ ap (λ (b : Bool). cond b (Some (addr + place)) behind) (ap p (sym is) ∙ fails))

-- one more number
greatest_more : (n : ℕ) (ns : List ℕ) (m : ℕ) → greatest (n ∷ (ns ++ m ∷ [])) ≡ greater (greatest (n ∷ ns)) (Some m)
greatest_more n [] m = refl
greatest_more n (k ∷ ks) m = greatest_more (max n k) ks m

greatest_behind : (ns : List ℕ) (m : Option ℕ) → greatest (ns ++ cons_option m []) ≡ greater (greatest ns) m
greatest_behind [] None = refl
greatest_behind [] (Some m) = refl
greatest_behind (n ∷ ns) None = ap greatest (nothing_behind (n ∷ ns)) ∙ sym (greater_none (n ∷ ns))
  where
    nothing_behind : (xs : List ℕ) → xs ++ [] ≡ xs
    nothing_behind [] = refl
    nothing_behind (x ∷ xs) = ap (λ (rest : List ℕ). x ∷ rest) (nothing_behind xs)

    none_greater : (most : Option ℕ) → greater most None ≡ most
    none_greater None = refl
    none_greater (Some k) = refl

    greater_none : (xs : List ℕ) → greater (greatest xs) None ≡ greatest xs
    greater_none xs = none_greater (greatest xs)
greatest_behind (n ∷ ns) (Some m) = greatest_more n ns m

-- one more point
cons_more : (first last : Option ℕ) (rest more : List ℕ) → more ≡ rest ++ cons_option last [] → cons_option first more ≡ cons_option first rest ++ cons_option last []
cons_more None last rest more is = is
cons_more (Some n) last rest more is = ap (λ (ns : List ℕ). n ∷ ns) is

filter_more : (f : Point → Option ℕ) (ps : List Point) (p : Point) → filter_map f (ps ++ p ∷ []) ≡ filter_map f ps ++ cons_option (f p) []
filter_more f [] p = refl
filter_more f (q ∷ qs) p = cons_more (f q) (f p) (filter_map f qs) (filter_map f (qs ++ p ∷ [])) (filter_more f qs p)

-- the byte that the first of some points watch
abbrev pub watched_so_far : Access → ℕ → List Point → Option ℕ
watched_so_far made count points = greatest (filter_map (λ p. watched_by p made) (take count points))

pub watched_more : (made : Access) (count : ℕ) (points : List Point) (d : Point) (byte : Option ℕ) → count < length points → byte ≡ watched_by (get_or points count d) made →
    watched_so_far made (count + 1) points ≡ greater (watched_so_far made count points) byte
watched_more made count points d byte inside told =
    let f : Point → Option ℕ = λ q. watched_by q made in
    ap (λ (ps : List Point). greatest (filter_map f ps)) (take_more points count d inside)
    ∙ ap greatest (filter_more f (take count points) (get_or points count d))
    ∙ greatest_behind (filter_map f (take count points)) (watched_by (get_or points count d) made)
    ∙ ap (greater (watched_so_far made count points)) (sym told)

-- the byte that all of them watch
none_watch : (points : List Point) → filter_map (λ p. watched_by p access.Nothing) points ≡ []
none_watch [] = refl
none_watch (p ∷ ps) = none_watch ps

pub watched_all : (points : List Point) (made : Access) → greatest (filter_map (λ p. watched_by p made) points) ≡ watched_access points made
watched_all points access.Nothing = ap greatest (none_watch points)
watched_all points (access.Load addr width spot) = refl
watched_all points (access.Store addr width spot) = refl

pub watched_done : (made : Access) (count : ℕ) (points all : List Point) → points ≡ all → length points ≤ count → watched_so_far made count points ≡ watched_access all made
watched_done made count points all same past =
    ap (λ (ps : List Point). greatest (filter_map (λ p. watched_by p made) ps)) (take_all count points past) ∙ watched_all points made ∙ ap (λ (ps : List Point). watched_access ps made) same

-- breakpoints watch nothing
apart : true ≡ false → ⊥
apart e = cc

quiet_more : (watches : PointKind → Bool) → ((k : PointKind) → is_break k ≡ true → watches k ≡ false) → (p : Point) (ps : List Point) → list_any (λ q. not (is_break q.kind)) (p ∷ ps) ≡ false → (addr count : ℕ) →
    (list_any (λ q. not (is_break q.kind)) ps ≡ false → filter_map (λ q. watched_if (watches q.kind) q addr count) ps ≡ []) → filter_map (λ q. watched_if (watches q.kind) q addr count) (p ∷ ps) ≡ []
quiet_more watches off p ps none addr count behind = by (is_break p.kind) refl
  where
    by : (b : Bool) → is_break p.kind ≡ b → filter_map (λ q. watched_if (watches q.kind) q addr count) (p ∷ ps) ≡ []
    by true is =
        let rest : list_any (λ q. not (is_break q.kind)) ps ≡ false = rw is at none in
        ap (λ (w : Bool). cons_option (watched_if w p addr count) (filter_map (λ q. watched_if (watches q.kind) q addr count) ps)) (off p.kind is) ∙ behind rest
    by false is =
        let never : true ≡ false = rw is at none in
        absurd (apart never)

quiet : (watches : PointKind → Bool) → ((k : PointKind) → is_break k ≡ true → watches k ≡ false) → (points : List Point) → list_any (λ p. not (is_break p.kind)) points ≡ false →
    (addr count : ℕ) → filter_map (λ p. watched_if (watches p.kind) p addr count) points ≡ []
quiet watches off [] none addr count = refl
quiet watches off (p ∷ ps) none addr count = quiet_more watches off p ps none addr count (λ rest. quiet watches off ps rest addr count)

no_loads : (k : PointKind) → is_break k ≡ true → watches_loads k ≡ false
no_loads kind.Software is = refl
no_loads kind.Hardware is = refl
no_loads kind.Written is = refl
no_loads kind.Read is = cc
no_loads kind.Accessed is = cc

no_stores : (k : PointKind) → is_break k ≡ true → watches_stores k ≡ false
no_stores kind.Software is = refl
no_stores kind.Hardware is = refl
no_stores kind.Written is = cc
no_stores kind.Read is = refl
no_stores kind.Accessed is = cc

pub unwatched : (points : List Point) → list_any (λ p. not (is_break p.kind)) points ≡ false → (made : Access) → watched_access points made ≡ None
unwatched points none access.Nothing = refl
unwatched points none (access.Load addr width spot) = ap greatest (quiet watches_loads no_loads points none addr (width_bytes width))
unwatched points none (access.Store addr width spot) = ap greatest (quiet watches_stores no_stores points none addr (width_bytes width))
