-- Output that is put as it comes: what is written of it together.
use Rattle.std.proofs.Common.{◌≡◌, ℕ, zero, ◌+◌, ◌≤◌, List, [], ◌++◌, length, take, drop, Bool, true, false, if◌then◌else◌, Option, Some, None, refl, ap, sym, ◌∙◌, subst, arith, append_assoc, append-nil}
use Rattle.std.proofs.lemmas.List.{take-append-drop, take-append-le, take_all, take-take, drop-append-le, drop_all, length-take}
use Rattle.fsim_ports.specs.Sink.{grown, Breaks}
use Rattle.fsim_ports.proofs.Writing.{grown_twice, breaks_first, breaks_second}
use Rattle.mono_model.specs.Report.{Text, ends_open, line_feed, closed_output}
use Rattle.machine_laws.specs.Output.{GrowsTo}
use Rattle.report_text.specs.Rest.{output_rest}
use Rattle.fast_jobs.specs.Early.{HasPut}

-- the line feed that closes an output, where it is wanted
abbrev closing : List ℕ → Text
closing output = if ends_open output then line_feed else []

closed_is : (output : List ℕ) → closed_output output ≡ output ++ closing output
closed_is output = by_test (ends_open output)
  where
    by_test : (b : Bool) → (if b then output ++ line_feed else output) ≡ output ++ (if b then line_feed else [])
    by_test true = refl
    by_test false = sym (append-nil output)

-- What was put before and what is left are the whole text.
whole_is : (put : ℕ) (output report : List ℕ) → take put output ++ (output_rest put output ++ report) ≡ closed_output output ++ report
whole_is put output report =
    let front = take put output in
    let back = drop put output in
    ap (λ (l : List ℕ). front ++ l) (append_assoc back (closing output) report)
    ∙ sym (append_assoc front back (closing output ++ report))
    ∙ ap (λ (l : List ℕ). l ++ (closing output ++ report)) (take-append-drop put output)
    ∙ sym (append_assoc output (closing output) report)
    ∙ ap (λ (l : List ℕ). l ++ report) (sym (closed_is output))

-- So the rest, put after it, writes the whole text, or breaks it off.
module _ (put : ℕ) (output report : List ℕ) (begun : Option (List ℕ)) (faults : ℕ) (mid : Option (List ℕ)) (middle after : ℕ) (new : Option (List ℕ))
    (has : HasPut output put begun faults mid middle) where
  abbrev rest : List ℕ
  rest = output_rest put output ++ report

  pub rest_written : new ≡ grown mid rest → new ≡ grown begun (closed_output output ++ report)
  rest_written written =
      written ∙ ap (λ (w : Option (List ℕ)). grown w rest) has.written ∙ grown_twice begun (take put output) rest
      ∙ ap (grown begun) (whole_is put output report)

  pub rest_breaks : Breaks rest middle after mid new → Breaks (closed_output output ++ report) faults after begun new
  rest_breaks broken =
      subst (λ (text : List ℕ). Breaks text faults after begun new) (whole_is put output report)
      (breaks_second (take put output) has.written has.kept broken)

-- Where the output breaks off, so does the whole text.
pub first_breaks : (output report : List ℕ) (before after : ℕ) (old new : Option (List ℕ)) → Breaks output before after old new
    → Breaks (closed_output output ++ report) before after old new
first_breaks output report before after old new broken =
    let same : output ++ (closing output ++ report) ≡ closed_output output ++ report =
    sym (append_assoc output (closing output) report) ∙ ap (λ (l : List ℕ). l ++ report) (sym (closed_is output)) in
    subst (λ (text : List ℕ). Breaks text before after old new) same (breaks_first (closing output ++ report) (omega arith) broken)

-- where nothing was put yet
pub grown_none : (written : Option (List ℕ)) → written ≡ grown written []
grown_none None = refl
grown_none (Some bytes) = ap Some (sym (append-nil bytes))

pub none_put : (output : List ℕ) (written : Option (List ℕ)) (count : ℕ) → HasPut output zero written count written count
none_put output written count = record { written = grown_none written; kept = omega arith }

-- where there is nothing new
pub none_new : (whole : List ℕ) (put : ℕ) (old : Option (List ℕ)) → old ≡ grown old (drop put (take put whole))
none_new whole put old =
    grown_none old ∙ ap (grown old) (sym (drop_all put (take put whole) (omega (arith, length-take put whole))))

-- a piece of the beginning of an output, put whole
pub piece_put : (whole output : List ℕ) (put : ℕ) (old new : Option (List ℕ)) → put ≤ length output → GrowsTo output whole → new ≡ grown old (drop put output)
    → new ≡ grown old (drop put (take (length output) whole))
piece_put whole output put old new within grows written =
    let front : take (length output) whole ≡ output =
    ap (λ (l : List ℕ). take (length output) l) grows.output
    ∙ take-append-le (length output) output grows.sent (omega arith) ∙ take_all (length output) output (omega arith) in
    written ∙ ap (λ (l : List ℕ). grown old (drop put l)) (sym front)

-- one that breaks off
pub piece_breaks : (whole output : List ℕ) (put : ℕ) (before after : ℕ) (old new : Option (List ℕ)) → put ≤ length output → GrowsTo output whole
    → Breaks (drop put output) before after old new → Breaks (drop put whole) before after old new
piece_breaks whole output put before after old new within grows broken =
    let same : drop put output ++ grows.sent ≡ drop put whole =
    sym (drop-append-le put output grows.sent within) ∙ ap (λ (l : List ℕ). drop put l) (sym grows.output) in
    subst (λ (text : List ℕ). Breaks text before after old new) same (breaks_first grows.sent (omega arith) broken)

-- One piece after another.
pub puts_more : (whole : List ℕ) (a b : ℕ) (old mid new : Option (List ℕ)) → a ≤ b → mid ≡ grown old (take a whole) → new ≡ grown mid (drop a (take b whole))
    → new ≡ grown old (take b whole)
puts_more whole a b old mid new less first second =
    let piece = drop a (take b whole) in
    let same : take a whole ++ piece ≡ take b whole =
    ap (λ (l : List ℕ). l ++ piece) (sym (take-take a b whole less)) ∙ take-append-drop a (take b whole) in
    second ∙ ap (λ (w : Option (List ℕ)). grown w piece) first ∙ grown_twice old (take a whole) piece ∙ ap (grown old) same

pub breaks_more : (whole : List ℕ) (a : ℕ) (before middle after : ℕ) (old mid new : Option (List ℕ)) → mid ≡ grown old (take a whole) → before ≤ middle
    → Breaks (drop a whole) middle after mid new → Breaks whole before after old new
breaks_more whole a before middle after old mid new first later broken =
    subst (λ (text : List ℕ). Breaks text before after old new) (take-append-drop a whole) (breaks_second (take a whole) first later broken)

-- What was put of a run is what was put of the output that is reported of it.
pub has_put : (whole output : List ℕ) (put : ℕ) (begun written : Option (List ℕ)) (faults count : ℕ) → output ≡ whole → faults ≤ count → written ≡ grown begun (take put whole)
    → HasPut output put begun faults written count
has_put whole output put begun written faults count same kept is = record {
  written = is ∙ ap (λ (l : List ℕ). grown begun (take put l)) (sym same);
  kept = kept;
}
