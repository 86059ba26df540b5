-- What the words of a command are.
use Rattle.std.proofs.Common.{◌≡◌, ℕ, ◌^◌, ◌<◌, ◌≤◌, ◌≢◌, ◌&&◌, nat_le, nat_lt, Bool, true, false, List, length, Some, None, Result, Ok, Err, if◌then◌else◌, refl, ap, sym, ◌∙◌, arith, drop, take, inl, inr}
use Rattle.std.specs.Prelude.{codes}
use Rattle.std.proofs.lemmas.Bool.{cases_lt}
use Rattle.std.proofs.lemmas.Grind.{common_steps}
use Rattle.std.proofs.lemmas.List.{length-drop}
use Rattle.std.proofs.lemmas.Slice.Eq.{bytes_eq-Decides}
use Rattle.std.specs.Char.{is_digit}
use Rattle.std.specs.List.{list_all}
use Rattle.std.specs.Result.{OkIff, result_ok}
use Rattle.std.specs.Str.{bytes_eq}
use Rattle.std.specs.Str.Parse.{AllDigits, digits_value}
use Rattle.back_debug.proofs.Values.{value-some}
use Rattle.gdb_packets.specs.Packet.{after_text}
use Rattle.gdb_model.specs.Talk.{position_in}
use Rattle.gdb_session.specs.Commands.{command_of, stop_at, stop_by}
use Rattle.gdb_session.specs.declared.monitor.Command.TheVariants.{Unknown}

-- digits
some_is : (word : List ℕ) (all : Bool) → Some (digits_value 10 word) ≡ (if all then Some (digits_value 10 word) else None) → all ≡ true
some_is word true is = refl
some_is word false is = cc

position_is : (word : List ℕ) → length word ≢ 0 → length word ≤ 20 → AllDigits 10 word → position_in word ≡ (if nat_lt (digits_value 10 word) (2 ^ 64) then Some (digits_value 10 word) else None)
position_is word some most digits =
    let first : nat_le 1 (length word) ≡ true = grind (arith, common_steps, some) in
    let second : nat_le (length word) 20 ≡ true = grind (arith, common_steps, most) in
    let third : list_all (λ byte. is_digit byte 10) word ≡ true = some_is word (list_all (λ byte. is_digit byte 10) word) (value-some 10 word digits) in
    rw (first, second, third) refl

-- a number that has to fit 64 bits
fits : (n : ℕ) → n < 2 ^ 64 → nat_lt n (2 ^ 64) ≡ true
fits n below = grind (arith, common_steps, below)

too_large : (n : ℕ) → 2 ^ 64 ≤ n → nat_lt n (2 ^ 64) ≡ false
too_large n above = grind (arith, common_steps, above)

not_below : (n : ℕ) → (n < 2 ^ 64 → ⊥) → 2 ^ 64 ≤ n
not_below n never = elim (cases_lt n (2 ^ 64)) [
  | inl below ↦ absurd (never below)
  | inr above ↦ omega (arith, above)
]

pub tried : {E : Type 0} (r : Result ℕ E) (n : ℕ) → OkIff r (n < 2 ^ 64) n → result_ok r ≡ (if nat_lt n (2 ^ 64) then Some n else None)
tried (Ok x) n told = ap Some told.1 ∙ sym (ap (λ (b : Bool). if b then Some n else None) (fits n told.0))
tried (Err e) n told = sym (ap (λ (b : Bool). if b then Some n else None) (too_large n (not_below n told)))

pub position_read : {E : Type 0} (word : List ℕ) (r : Result ℕ E) (n : ℕ) → length word ≢ 0 → length word ≤ 20 → AllDigits 10 word → n ≡ digits_value 10 word → OkIff r (n < 2 ^ 64) n → result_ok r ≡ position_in word
position_read word r n some most digits is told =
    tried r n told ∙ ap (λ (m : ℕ). if nat_lt m (2 ^ 64) then Some m else None) is ∙ sym (position_is word some most digits)

-- no command has more bytes than `stop ` and twenty digits
other_text : (word text : List ℕ) → length text ≤ 25 → 25 < length word → bytes_eq word text ≡ false
other_text word text short long = by (bytes_eq word text) refl
  where
    by : (same : Bool) → bytes_eq word text ≡ same → same ≡ false
    by false is = refl
    by true is =
        let equal : word ≡ text = (bytes_eq-Decides word text).0 is in
        absurd (omega (arith, short, long, ap length equal))

long_by : (some digits fits : Bool) (value : ℕ) → (if some && false && digits && fits then Some value else None) ≡ None
long_by true digits fits value = refl
long_by false digits fits value = refl

long_position : (word : List ℕ) → 20 < length word → position_in word ≡ None
long_position word long =
    let second : nat_le (length word) 20 ≡ false = grind (arith, common_steps, long) in
    rw second (long_by (nat_le 1 (length word)) (list_all (λ byte. is_digit byte 10) word) (nat_lt (digits_value 10 word) (2 ^ 64)) (digits_value 10 word))

-- `stop ` and what follows it
pub stop_none : (word : List ℕ) → bytes_eq (take 5 word) (codes "stop ") ≡ false → stop_at (after_text (codes "stop ") word) ≡ Unknown
unfolding after_text
stop_none word other = ap (λ (b : Bool). stop_at (if b then Some (drop 5 word) else None)) other

pub stop_some : (word rest : List ℕ) → bytes_eq (take 5 word) (codes "stop ") ≡ true → rest ≡ drop 5 word → stop_at (after_text (codes "stop ") word) ≡ stop_by (position_in rest)
unfolding after_text
stop_some word rest same is =
    ap (λ (b : Bool). stop_at (if b then Some (drop 5 word) else None)) same
    ∙ ap (λ (w : List ℕ). stop_by (position_in w)) (sym is)

long_stop : (word : List ℕ) → 25 < length word → stop_at (after_text (codes "stop ") word) ≡ Unknown
long_stop word long = by (bytes_eq (take 5 word) (codes "stop ")) refl
  where
    by : (b : Bool) → bytes_eq (take 5 word) (codes "stop ") ≡ b → stop_at (after_text (codes "stop ") word) ≡ Unknown
    by true same =
        let rest : 20 < length (drop 5 word) = omega (arith, long, length-drop 5 word) in
        stop_some word (drop 5 word) same refl ∙ ap stop_by (long_position (drop 5 word) rest)
    by false other = stop_none word other

pub command_long : (word : List ℕ) → 25 < length word → Unknown ≡ command_of word
command_long word long =
    let first : bytes_eq word (codes "where") ≡ false = other_text word (codes "where") (omega arith) long in
    let second : bytes_eq word (codes "output") ≡ false = other_text word (codes "output") (omega arith) long in
    let third : bytes_eq word (codes "stop") ≡ false = other_text word (codes "stop") (omega arith) long in
    rw (first, second, third) (sym (long_stop word long))
