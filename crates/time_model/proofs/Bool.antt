-- Tests.
use Rattle.std.proofs.Common.{◌≡◌, Bool, true, false, ◌&&◌, not, if◌then◌else◌, refl}

pub and_if : (a b : Bool) → (a && b) ≡ (if a then b else false)
and_if true b = refl
and_if false b = refl

pub and_swap : (a b : Bool) → (a && b) ≡ (b && a)
and_swap true true = refl
and_swap true false = refl
and_swap false true = refl
and_swap false false = refl

pub if_not : {A : Type 0} (b : Bool) (x y : A) → (if b then x else y) ≡ (if not b then y else x)
if_not true x y = refl
if_not false x y = refl
