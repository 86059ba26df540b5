-- The list of indices that the turns give, as stations enter and leave.
use Rattle.std.proofs.Common.{◌≡◌, ◌≢◌, ℕ, zero, suc, ◌+◌, ◌-◌, ◌%◌, ◌<◌, ◌≤◌, List, [], ◌∷◌, ◌++◌, length, take, drop, get_or, refl, ap, sym, ◌∙◌, arith}
use Rattle.std.specs.Prelude.{slice_set}
use Rattle.std.proofs.lemmas.List.{get_or-set_same, get_or-set_other}
use Rattle.reservation_stations.specs.Turns.{indices_from}

pub length-indices : (at_turn : List ℕ) (turn count : ℕ) → length (indices_from at_turn turn count) ≡ count
length-indices at_turn turn zero = refl
length-indices at_turn turn (suc count) = ap suc (length-indices at_turn (turn + 1) count)

-- turns are told modulo 256
indices_same : (at_turn : List ℕ) (turn turn' count : ℕ) → turn % 256 ≡ turn' % 256 → indices_from at_turn turn count ≡ indices_from at_turn turn' count
indices_same at_turn turn turn' zero same = refl
indices_same at_turn turn turn' (suc count) same =
    let next : (turn + 1) % 256 ≡ (turn' + 1) % 256 = omega (arith, same) in
    λ i. get_or at_turn (same i) 0 ∷ indices_same at_turn (turn + 1) (turn' + 1) count next i

-- one more stands behind the others, at the turn behind theirs
pub indices_more : (at_turn : List ℕ) (turn count : ℕ) → indices_from at_turn turn (suc count) ≡ indices_from at_turn turn count ++ get_or at_turn ((turn + count) % 256) 0 ∷ []
indices_more at_turn turn zero =
    let e : turn ≡ turn + 0 = omega arith in ap (λ n. get_or at_turn (n % 256) 0 ∷ []) e
indices_more at_turn turn (suc count) =
    let e : turn + 1 + count ≡ turn + suc count = omega arith in
    ap (λ xs. get_or at_turn (turn % 256) 0 ∷ xs) (indices_more at_turn (turn + 1) count
    ∙ ap (λ n. indices_from at_turn (turn + 1) count ++ get_or at_turn (n % 256) 0 ∷ []) e)

-- an entry at none of their turns
indices_kept : (at_turn : List ℕ) (place index turn count : ℕ) → ((k : ℕ) → k < count → (turn + k) % 256 ≢ place) →
    indices_from (slice_set at_turn place index) turn count ≡ indices_from at_turn turn count
indices_kept at_turn place index turn zero apart = refl
indices_kept at_turn place index turn (suc count) apart =
    let here : turn % 256 ≢ place = λ e. apart 0 (omega arith) (omega (arith, e)) in
    let rest : (k : ℕ) → k < count → (turn + 1 + k) % 256 ≢ place = λ k before e. apart (suc k) (omega (arith, before)) (omega (arith, e)) in
    λ i. get_or-set_other at_turn place (turn % 256) index 0 here i ∷ indices_kept at_turn place index (turn + 1) count rest i

-- a station enters
pub indices_entered : (at_turn : List ℕ) (retired count turn index : ℕ) → length at_turn ≡ 256 → count < 256 → turn ≡ (retired + count) % 256 →
    indices_from (slice_set at_turn turn index) retired (count + 1) ≡ indices_from at_turn retired count ++ index ∷ []
indices_entered at_turn retired count turn index all few is =
    let e : count + 1 ≡ suc count = omega arith in
    let apart : (k : ℕ) → k < count → (retired + k) % 256 ≢ turn = λ k before same. omega (arith, before, same, few, is) in
    let here : get_or (slice_set at_turn turn index) ((retired + count) % 256) 0 ≡ index =
    ap (λ n. get_or (slice_set at_turn turn index) n 0) (sym is) ∙ get_or-set_same at_turn turn index 0 (omega (arith, all, is))
    in
    ap (indices_from (slice_set at_turn turn index) retired) e ∙ indices_more (slice_set at_turn turn index) retired count
    ∙ λ i. indices_kept at_turn turn index retired count apart i ++ here i ∷ []

-- the oldest leaves
pub indices_retired : (at_turn : List ℕ) (retired count : ℕ) → 0 < count → indices_from at_turn ((retired + 1) % 256) (count - 1) ≡ drop 1 (indices_from at_turn retired count)
indices_retired at_turn retired zero some = absurd (omega (arith, some))
indices_retired at_turn retired (suc count) some =
    let e : suc count - 1 ≡ count = omega arith in
    ap (indices_from at_turn ((retired + 1) % 256)) e ∙ indices_same at_turn ((retired + 1) % 256) (retired + 1) count (omega arith)

-- those from a place on leave
pub indices_front : (at_turn : List ℕ) (turn kept count : ℕ) → kept ≤ count → indices_from at_turn turn kept ≡ take kept (indices_from at_turn turn count)
indices_front at_turn turn zero count few = refl
indices_front at_turn turn (suc kept) zero few = absurd (omega (arith, few))
indices_front at_turn turn (suc kept) (suc count) few =
    ap (λ xs. get_or at_turn (turn % 256) 0 ∷ xs) (indices_front at_turn (turn + 1) kept count (omega (arith, few)))
