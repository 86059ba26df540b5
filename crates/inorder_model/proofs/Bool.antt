-- Tests.
use Rattle.std.proofs.Common.{◌≡◌, Bool, true, false, ◌&&◌, ◌||◌, not, refl}

pub and_true : (b : Bool) → (b && true) ≡ b
and_true true = refl
and_true false = refl

pub and_false : (b : Bool) → (b && false) ≡ false
and_false true = refl
and_false false = refl

pub and_assoc : (a b c : Bool) → (a && b && c) ≡ (a && (b && c))
and_assoc true b c = refl
and_assoc false b c = refl

-- two tests, each without what it must not be
pub both_without : (a b p q : Bool) → ((a && not p) && (b && not q)) ≡ ((a && b) && not (p || q))
both_without true true true q = refl
both_without true true false q = refl
both_without true false true q = refl
both_without true false false q = refl
both_without false b p q = refl
