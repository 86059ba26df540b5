-- What a driver sees of the devices.
use Rattle.std.proofs.Common.{◌≡◌, ℕ, zero, suc, ◌+◌, ◌/◌, ◌%◌, ◌<◌, List, [], ◌∷◌, length, drop, slice_index, refl, sym, ap, ◌∙◌, add-one, arith}
use Rattle.std.proofs.Math.Seq.{drop-cons}
use Rattle.std.proofs.lemmas.List.{drop_all}
use Rattle.std.proofs.lemmas.Grind.{common_steps}
use Rattle.fsim_base.specs.declared.access.Width.TheVariants.{Byte}
use Rattle.device_bus.specs.declared.kind.DeviceKind.TheVariants.{Console}
use Rattle.device_bus.specs.Device.{loading, dev, receive_answer, received, compare_stored}

-- a load with the latch off, and with input left, receives a byte
dev-receive : (input : List ℕ) (line_control place : ℕ) → line_control / 128 % 2 ≡ 0 → place < length input
    → dev Console input (line_control ∷ place ∷ []) (loading 0 Byte 0) ≡ receive_answer input (line_control ∷ place ∷ [])
unfolding dev
dev-receive input line_control place latch_off within = grind (arith, common_steps)

-- loads give the input from the place on
received-from : (count place line_control : ℕ) (input : List ℕ) → line_control / 128 % 2 ≡ 0 → place + count ≡ length input
    → received count input (line_control ∷ place ∷ []) ≡ drop place input
unfolding received
received-from zero place line_control input latch_off all = sym (drop_all place input (omega arith))
received-from (suc count) place line_control input latch_off all =
    let within : place < length input = omega arith in
    let next : drop place input ≡ slice_index input place ∷ drop (place + 1) input = rw (add-one, drop-cons input place 0) refl in
    rw (dev-receive input line_control place latch_off within)
    (ap (λ rest. slice_index input place ∷ rest) (received-from count (place + 1) line_control input latch_off (omega arith))
    ∙ sym next)

-- all loads give the whole input
pub received-all : (input : List ℕ) (line_control : ℕ) → line_control / 128 % 2 ≡ 0
    → received (length input) input (line_control ∷ 0 ∷ []) ≡ input
received-all input line_control latch_off = received-from (length input) 0 line_control input latch_off (omega arith)

-- two stores to mtimecmp leave its two halves
pub compare_stored-both : (numbers : List ℕ) (low high : ℕ) → length numbers ≡ 2
    → compare_stored low high numbers ≡ low ∷ high ∷ []
unfolding compare_stored dev
compare_stored-both [] low high two = absurd (omega arith)
compare_stored-both (a ∷ []) low high two = absurd (omega arith)
compare_stored-both (a ∷ b ∷ []) low high two = refl
compare_stored-both (a ∷ b ∷ c ∷ rest) low high two = absurd (omega arith)
