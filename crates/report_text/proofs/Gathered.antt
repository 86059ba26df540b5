-- Text that is written in large pieces.
use Rattle.std.proofs.Common.{◌≡◌, ◌∙◌, ◌≤◌, ℕ, List, [], ◌++◌, Option, Result, Ok, Err, ap}
use Rattle.std.proofs.lemmas.List.{append-nil}
use Rattle.fsim_ports.specs.Sink.{grown, Puts}
use Rattle.fsim_ports.proofs.Writing.{breaks_second, grown_twice}
use Rattle.report_text.specs.Buffered.{PutsLater}

-- a piece that is written after all that was held
pub put_after : {E : Type 0} (piece before held : List ℕ) {was middle : ℕ} (is : ℕ) (old : Option (List ℕ)) {mid : Option (List ℕ)} (new : Option (List ℕ)) (r : Result (Unit {0}) E) → held ≡ [] → mid ≡ grown old before → was ≤ middle → Puts piece middle is mid new r
    → PutsLater piece before held was is old new r
put_after piece before held is old new (Ok done) empty first later puts = record {
  part = before ++ piece;
  written = puts ∙ ap (λ w. grown w piece) first ∙ grown_twice old before piece;
  whole = ap (λ (h : List ℕ). before ++ piece ++ h) empty ∙ append-nil (before ++ piece);
}
put_after piece before held is old new (Err fault) empty first later puts = breaks_second before first later puts
