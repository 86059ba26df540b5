-- What several puts write together.
use Rattle.std.proofs.Common.{◌≡◌, ℕ, ◌+◌, ◌-◌, ◌≤◌, List, ◌++◌, length, take, drop, Option, Some, None, Result, Ok, Err, refl, ap, sym, ◌∙◌, append_assoc, length-append, arith}
use Rattle.std.proofs.Math.Seq.{take-add, take-append-add}
use Rattle.std.proofs.lemmas.List.{take-append-le, take_rest}
use Rattle.fsim_ports.specs.Sink.{grown, Breaks, Puts}

-- one text behind another
pub grown_twice : (old : Option (List ℕ)) (a b : List ℕ) → grown (grown old a) b ≡ grown old (a ++ b)
grown_twice None a b = refl
grown_twice (Some written) a b = ap Some (append_assoc written a b)

-- some more bytes of a text, put from its rest
pub grown_more : (old : Option (List ℕ)) (text : List ℕ) (done count : ℕ) → grown (grown old (take done text)) (take count (take (length text - done) (drop done text))) ≡ grown old (take (done + count) text)
grown_more old text done count = rw (take_rest text done) (grown_twice old (take done text) (take count (drop done text)) ∙ ap (grown old) (sym (take-add done count text)))

-- where the first of two texts breaks off, so do both together
pub breaks_first : {a : List ℕ} {before middle after : ℕ} {old new : Option (List ℕ)} (b : List ℕ) → middle ≤ after → Breaks a before middle old new → Breaks (a ++ b) before after old new
breaks_first {a} {before} {middle} {after} {old} {new} b later broken = record {
  count = broken.count;
  short = omega (arith, length-append a b);
  written = rw (take-append-le broken.count a b (omega arith)) broken.written;
  rose = omega arith;
}

-- where the second breaks off behind the whole first, so do both together
pub breaks_second : (a : List ℕ) {b : List ℕ} {before middle after : ℕ} {old mid new : Option (List ℕ)} → mid ≡ grown old a → before ≤ middle → Breaks b middle after mid new → Breaks (a ++ b) before after old new
breaks_second a {b} {before} {middle} {after} {old} {mid} {new} first later broken = record {
  count = length a + broken.count;
  short = omega (arith, length-append a b);
  written = broken.written ∙ ap (λ w. grown w (take broken.count b)) first ∙ grown_twice old a (take broken.count b) ∙ ap (grown old) (sym (take-append-add a b broken.count));
  rose = omega arith;
}

-- a text behind one that was written whole
pub puts_second : {E : Type 0} (a b : List ℕ) {before middle : ℕ} (after : ℕ) (old : Option (List ℕ)) {mid : Option (List ℕ)} (new : Option (List ℕ)) (r : Result (Unit {0}) E) → mid ≡ grown old a → before ≤ middle → Puts b middle after mid new r → Puts (a ++ b) before after old new r
puts_second a b {before} {middle} after old {mid} new (Ok done) first later puts = puts ∙ ap (λ w. grown w b) first ∙ grown_twice old a b
puts_second a b after old new (Err fault) first later puts = breaks_second a first later puts
