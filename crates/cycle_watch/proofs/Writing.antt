-- Lines of a trace that are written one after another.
use Rattle.std.proofs.Common.{◌≡◌, ◌∙◌, ℕ, ◌-◌, ◌==◌, Bool, true, if◌then◌else◌, List, [], ◌∷◌, ◌++◌, append_assoc, Option, Result, Ok, Err, refl, sym, ap, subst, arith}
use Rattle.std.proofs.lemmas.List.{append-nil}
use Rattle.std.specs.Prelude.{IsErrAnd}
use Rattle.fsim_ports.specs.Sink.{Breaks, Puts, grown}
use Rattle.fsim_ports.proofs.Writing.{breaks_first, breaks_second, grown_twice}
use Rattle.report_text.proofs.Lines.{joined-append}
use Rattle.mono_model.specs.Report.{Text, joined}
use Rattle.insight_model.specs.Trace.{cycles_line, dated, newest_time, time_lines}
use Rattle.cycle_watch.specs.Writing.{Stand, HasPut, HasBroken, PutsText, HasTold, Tells}

-- nothing was written
pub put_none : (s : Stand) → HasPut [] s s
put_none s = record {
  count = omega arith;
  gathered = record { part = []; written = none s.written; whole = sym (append-nil s.held) };
}
  where
    none : (o : Option Text) → o ≡ grown o []
    none Option.None = refl
    none (Option.Some w) = ap Option.Some (sym (append-nil w))

-- one text after another
pub put_both : (a b : Text) (s m e : Stand) → HasPut a s m → HasPut b m e → HasPut (a ++ b) s e
put_both a b s m e first second =
    let f = first.gathered in
    let g = second.gathered in
    record {
      count = omega (arith, first.count, second.count);
      gathered = record {
        part = f.part ++ g.part;
        written = g.written ∙ ap (λ (w : Option Text). grown w g.part) f.written ∙ grown_twice s.written f.part g.part;
        whole =
            append_assoc f.part g.part e.held ∙ ap (λ (t : Text). f.part ++ t) g.whole ∙ sym (append_assoc f.part m.held b)
            ∙ ap (λ (t : Text). t ++ b) f.whole ∙ append_assoc s.held a b;
      };
    }

pub put_then_broken : (a b : Text) (s m e : Stand) → HasPut a s m → HasBroken b m e → HasBroken (a ++ b) s e
put_then_broken a b s m e first second =
    let f = first.gathered in
    let same : f.part ++ (m.held ++ b) ≡ s.held ++ (a ++ b) =
    sym (append_assoc f.part m.held b) ∙ ap (λ (t : Text). t ++ b) f.whole ∙ append_assoc s.held a b in
    let B : Text → Type 0 = λ t. Breaks t s.faults e.faults s.written e.written in
    record {
      count = omega (arith, first.count, second.count);
      broke = subst B same (breaks_second f.part f.written first.count second.broke);
    }

pub broken_first : (a b : Text) (s m : Stand) → HasBroken a s m → HasBroken (a ++ b) s m
broken_first a b s m broken =
    let B : Text → Type 0 = λ t. Breaks t s.faults m.faults s.written m.written in
    record {
      count = broken.count;
      broke = subst B (append_assoc s.held a b) (breaks_first b (omega arith) broken.broke);
    }

pub puts_both : {E : Type 0} (a b : Text) (s m e : Stand) (r : Result (Unit {0}) E) → HasPut a s m → PutsText b m e r → PutsText (a ++ b) s e r
puts_both a b s m e (Ok done) first second = put_both a b s m e first second
puts_both a b s m e (Err fault) first second = put_then_broken a b s m e first second

-- the time of the lines of a cycle
same_time : (n : ℕ) → (n == n) ≡ true
same_time n = grind arith

time_at : (b : Bool) (before now : ℕ) → (now == before) ≡ b → time_lines before now ≡ (if b then [] else cycles_line (now - before) ∷ [])
time_at b before now is = ap (λ (x : Bool). if x then [] else cycles_line (now - before) ∷ []) is

pub no_time : (now : ℕ) → time_lines now now ≡ []
no_time now = time_at true now now (same_time now)

pub dated_now : (now : ℕ) (lines : List Text) → dated now now lines ≡ lines
dated_now now [] = refl
dated_now now (x ∷ xs) = ap (λ (t : List Text). t ++ x ∷ xs) (no_time now)

pub dated_more : (at now : ℕ) (a b : List Text) → dated at now (a ++ b) ≡ dated at now a ++ dated (newest_time at now a) now b
dated_more at now [] b = refl
dated_more at now (x ∷ xs) b =
    sym (append_assoc (time_lines at now) (x ∷ xs) b) ∙ ap (λ (t : List Text). (time_lines at now ++ x ∷ xs) ++ t) (sym (dated_now now b))

pub newest_more : (at now : ℕ) (a b : List Text) → newest_time at now (a ++ b) ≡ newest_time (newest_time at now a) now b
newest_more at now [] b = refl
newest_more at now (x ∷ xs) [] = refl
newest_more at now (x ∷ xs) (y ∷ ys) = refl

joined_more : (at now : ℕ) (a b : List Text) → joined (dated at now a) ++ joined (dated (newest_time at now a) now b) ≡ joined (dated at now (a ++ b))
joined_more at now a b =
    sym (joined-append (dated at now a) (dated (newest_time at now a) now b)) ∙ ap joined (sym (dated_more at now a b))

-- lines of a cycle after others of the same
pub told_none : (cycle : ℕ) (s : Stand) → HasTold cycle [] s s
told_none cycle s = record { put = put_none s; at = refl }

pub told_both : (cycle : ℕ) (a b : List Text) (s m e : Stand) → HasTold cycle a s m → HasTold cycle b m e → HasTold cycle (a ++ b) s e
told_both cycle a b s m e first second =
    let P : Text → Type 0 = λ t. HasPut t s e in
    let Q : ℕ → Type 0 = λ n. HasPut (joined (dated n cycle b)) m e in
    record {
      put = subst P (joined_more s.at cycle a b)
          (put_both (joined (dated s.at cycle a)) (joined (dated (newest_time s.at cycle a) cycle b)) s m e first.put (subst Q first.at second.put));
      at = second.at ∙ ap (λ (n : ℕ). newest_time n cycle b) first.at ∙ sym (newest_more s.at cycle a b);
    }

pub told_then_broken : (cycle : ℕ) (a b : List Text) (s m e : Stand) → HasTold cycle a s m → HasBroken (joined (dated m.at cycle b)) m e → HasBroken (joined (dated s.at cycle (a ++ b))) s e
told_then_broken cycle a b s m e first second =
    let P : Text → Type 0 = λ t. HasBroken t s e in
    let Q : ℕ → Type 0 = λ n. HasBroken (joined (dated n cycle b)) m e in
    subst P (joined_more s.at cycle a b)
    (put_then_broken (joined (dated s.at cycle a)) (joined (dated (newest_time s.at cycle a) cycle b)) s m e first.put (subst Q first.at second))

pub tells_both : {E : Type 0} (cycle : ℕ) (a b : List Text) (s m e : Stand) (r : Result (Unit {0}) E) → HasTold cycle a s m → Tells cycle b m e r → Tells cycle (a ++ b) s e r
tells_both cycle a b s m e (Ok done) first second = told_both cycle a b s m e first second
tells_both cycle a b s m e (Err fault) first second = told_then_broken cycle a b s m e first second

pub tells_broken : (cycle : ℕ) (a b : List Text) (s m : Stand) → HasBroken (joined (dated s.at cycle a)) s m → HasBroken (joined (dated s.at cycle (a ++ b))) s m
tells_broken cycle a b s m broken =
    let P : Text → Type 0 = λ t. HasBroken t s m in
    subst P (joined_more s.at cycle a b) (broken_first (joined (dated s.at cycle a)) (joined (dated (newest_time s.at cycle a) cycle b)) s m broken)

-- Some of the lines of a cycle were written, and these are left.
pub record SoFar (cycle : ℕ) (whole rest : List Text) (before now : Stand) : Type 0 where
  pub done : List Text
  pub told : HasTold cycle done before now
  pub all : done ++ rest ≡ whole

pub far_start : (cycle : ℕ) (whole rest : List Text) (s : Stand) → rest ≡ whole → SoFar cycle whole rest s s
far_start cycle whole rest s all = record { done = []; told = told_none cycle s; all = all }

pub far_step : (cycle : ℕ) (whole some rest left : List Text) (s now next : Stand) → SoFar cycle whole rest s now → rest ≡ some ++ left → HasTold cycle some now next → SoFar cycle whole left s next
far_step cycle whole some rest left s now next far is told = record {
  done = far.done ++ some;
  told = told_both cycle far.done some s now next far.told told;
  all = append_assoc far.done some left ∙ ap (λ (l : List Text). far.done ++ l) (sym is) ∙ far.all;
}

pub far_end : (cycle : ℕ) (whole rest : List Text) (s now : Stand) → SoFar cycle whole rest s now → rest ≡ [] → HasTold cycle whole s now
far_end cycle whole rest s now far none =
    let T : List Text → Type 0 = λ l. HasTold cycle l s now in
    subst T (sym (append-nil far.done) ∙ ap (λ (l : List Text). far.done ++ l) (sym none) ∙ far.all) far.told

pub far_broken : (cycle : ℕ) (whole some rest left : List Text) (s now next : Stand) → SoFar cycle whole rest s now → rest ≡ some ++ left → HasBroken (joined (dated now.at cycle some)) now next →
    HasBroken (joined (dated s.at cycle whole)) s next
far_broken cycle whole some rest left s now next far is broken =
    let B : List Text → Type 0 = λ l. HasBroken (joined (dated s.at cycle l)) s next in
    let same : (far.done ++ some) ++ left ≡ whole =
    append_assoc far.done some left ∙ ap (λ (l : List Text). far.done ++ l) (sym is) ∙ far.all in
    subst B same (tells_broken cycle (far.done ++ some) left s next (told_then_broken cycle far.done some s now next far.told broken))

-- a line with the time before it
joined_line : (at cycle : ℕ) (line : Text) → joined (time_lines at cycle) ++ line ≡ joined (dated at cycle (line ∷ []))
joined_line at cycle line =
    ap (λ (t : Text). joined (time_lines at cycle) ++ t) (sym (append-nil line)) ∙ sym (joined-append (time_lines at cycle) (line ∷ []))

pub line_broken : (cycle : ℕ) (line : Text) (s m : Stand) → HasBroken (joined (time_lines s.at cycle)) s m → HasBroken (joined (dated s.at cycle (line ∷ []))) s m
line_broken cycle line s m broken =
    let B : Text → Type 0 = λ t. HasBroken t s m in
    subst B (joined_line s.at cycle line) (broken_first (joined (time_lines s.at cycle)) line s m broken)

pub tells_line : {E : Type 0} (cycle : ℕ) (line : Text) (s m e : Stand) (r : Result (Unit {0}) E) → HasPut (joined (time_lines s.at cycle)) s m → PutsText line m e r → m.at ≡ cycle → e.at ≡ m.at →
    Tells cycle (line ∷ []) s e r
tells_line cycle line s m e (Ok done) first second there same =
    let P : Text → Type 0 = λ t. HasPut t s e in
    record {
      put = subst P (joined_line s.at cycle line) (put_both (joined (time_lines s.at cycle)) line s m e first second);
      at = same ∙ there;
    }
tells_line cycle line s m e (Err fault) first second there same =
    let B : Text → Type 0 = λ t. HasBroken t s e in
    subst B (joined_line s.at cycle line) (put_then_broken (joined (time_lines s.at cycle)) line s m e first second)

-- the same lines, told otherwise
pub told_as : (cycle : ℕ) (a b : List Text) (s m : Stand) → a ≡ b → HasTold cycle a s m → HasTold cycle b s m
told_as cycle a b s m same told = let T : List Text → Type 0 = λ l. HasTold cycle l s m in subst T same told

pub broken_as : (cycle : ℕ) (a b : List Text) (s m : Stand) → a ≡ b → HasBroken (joined (dated s.at cycle a)) s m → HasBroken (joined (dated s.at cycle b)) s m
broken_as cycle a b s m same broken = let T : List Text → Type 0 = λ l. HasBroken (joined (dated s.at cycle l)) s m in subst T same broken

pub tells_as : {E : Type 0} (cycle : ℕ) (a b : List Text) (s m : Stand) (r : Result (Unit {0}) E) → a ≡ b → Tells cycle a s m r → Tells cycle b s m r
tells_as {E = E} cycle a b s m r same told = let T : List Text → Type 0 = λ l. Tells {E = E} cycle l s m r in subst T same told

-- what a `?` returns
pub tells_err : {E : Type 0} (Q : E → Type 0) (cycle : ℕ) (lines : List Text) (s e : Stand) (r : Result (Unit {0}) E) → IsErrAnd r Q → HasBroken (joined (dated s.at cycle lines)) s e → Tells cycle lines s e r
tells_err Q cycle lines s e (Ok done) failed broken = absurd failed
tells_err Q cycle lines s e (Err fault) failed broken = broken

pub puts_err : {E : Type 0} (Q : E → Type 0) (text : Text) (s e : Stand) (r : Result (Unit {0}) E) → IsErrAnd r Q → HasBroken text s e → PutsText text s e r
puts_err Q text s e (Ok done) failed broken = absurd failed
puts_err Q text s e (Err fault) failed broken = broken

-- lines in some parts
module _ (cycle : ℕ) (whole : List Text) where
  pub tells_two : {E : Type 0} (a b : List Text) (s m e : Stand) (r : Result (Unit {0}) E) → a ++ b ≡ whole → HasTold cycle a s m → Tells cycle b m e r → Tells cycle whole s e r
  tells_two a b s m e r is first second = tells_as cycle (a ++ b) whole s e r is (tells_both cycle a b s m e r first second)

  pub tells_three : {E : Type 0} (a b c : List Text) (s m n e : Stand) (r : Result (Unit {0}) E) → a ++ b ++ c ≡ whole → HasTold cycle a s m → HasTold cycle b m n → Tells cycle c n e r → Tells cycle whole s e r
  tells_three a b c s m n e r is first second third = tells_two (a ++ b) c s n e r is (told_both cycle a b s m n first second) third

  pub tells_four : {E : Type 0} (a b c d : List Text) (s m n o e : Stand) (r : Result (Unit {0}) E) → a ++ b ++ c ++ d ≡ whole → HasTold cycle a s m → HasTold cycle b m n → HasTold cycle c n o → Tells cycle d o e r →
      Tells cycle whole s e r
  tells_four a b c d s m n o e r is first second third fourth =
      tells_two (a ++ b ++ c) d s o e r is (told_both cycle (a ++ b) c s n o (told_both cycle a b s m n first second) third) fourth

  pub broken_one : (a rest : List Text) (s e : Stand) → a ++ rest ≡ whole → HasBroken (joined (dated s.at cycle a)) s e → HasBroken (joined (dated s.at cycle whole)) s e
  broken_one a rest s e is broken = broken_as cycle (a ++ rest) whole s e is (tells_broken cycle a rest s e broken)

  pub broken_two : (a b rest : List Text) (s m e : Stand) → a ++ b ++ rest ≡ whole → HasTold cycle a s m → HasBroken (joined (dated m.at cycle b)) m e → HasBroken (joined (dated s.at cycle whole)) s e
  broken_two a b rest s m e is first broken = broken_one (a ++ b) rest s e is (told_then_broken cycle a b s m e first broken)

  pub broken_three : (a b c rest : List Text) (s m n e : Stand) → a ++ b ++ c ++ rest ≡ whole → HasTold cycle a s m → HasTold cycle b m n → HasBroken (joined (dated n.at cycle c)) n e →
      HasBroken (joined (dated s.at cycle whole)) s e
  broken_three a b c rest s m n e is first second broken = broken_two (a ++ b) c rest s n e is (told_both cycle a b s m n first second) broken

-- a text that is put after the time was set anew
pub puts_from : {E : Type 0} (text : Text) (at : ℕ) (s e : Stand) (r : Result (Unit {0}) E) → PutsText text (record s { at = at }) e r → PutsText text s e r
puts_from text at s e (Ok done) put = record { count = put.count; gathered = record { part = put.gathered.part; written = put.gathered.written; whole = put.gathered.whole } }
puts_from text at s e (Err fault) put = record { count = put.count; broke = put.broke }

pub puts_as : {E : Type 0} (a b : Text) (s e : Stand) (r : Result (Unit {0}) E) → a ≡ b → PutsText a s e r → PutsText b s e r
puts_as {E = E} a b s e r same put = let P : Text → Type 0 = λ t. PutsText {E = E} t s e r in subst P same put

-- all that is held is written
pub flushed : {E : Type 0} (text : Text) (s m : Stand) (faults : ℕ) (written : Option Text) (r : Result (Unit {0}) E) → HasPut text s m → Puts m.held m.faults faults m.written written r →
    Puts (s.held ++ text) s.faults faults s.written written r
flushed text s m faults written (Ok done) put flush =
    flush ∙ ap (λ (w : Option Text). grown w m.held) put.gathered.written ∙ grown_twice s.written put.gathered.part m.held ∙ ap (grown s.written) put.gathered.whole
flushed text s m faults written (Err fault) put flush =
    let B : Text → Type 0 = λ t. Breaks t s.faults faults s.written written in
    subst B put.gathered.whole (breaks_second put.gathered.part put.gathered.written put.count flush)

-- the first lines of a trace, and those that follow
pub first_put : {E : Type 0} (cycle : ℕ) (a b : List Text) (s m e : Stand) (r : Result (Unit {0}) E) → HasPut (joined a) s m → m.at ≡ cycle → Tells cycle b m e r → PutsText (joined (a ++ b)) s e r
first_put cycle a b s m e r first at second = by r second
  where
    now : joined (dated m.at cycle b) ≡ joined b
    now = ap (λ (n : ℕ). joined (dated n cycle b)) at ∙ ap joined (dated_now cycle b)

    by : {E : Type 0} (x : Result (Unit {0}) E) → Tells cycle b m e x → PutsText (joined (a ++ b)) s e x
    by (Ok done) told =
        let P : Text → Type 0 = λ t. HasPut t s e in
        subst P (ap (λ (t : Text). joined a ++ t) now ∙ sym (joined-append a b)) (put_both (joined a) (joined (dated m.at cycle b)) s m e first told.put)
    by (Err fault) broken =
        let P : Text → Type 0 = λ t. HasBroken t s e in
        subst P (ap (λ (t : Text). joined a ++ t) now ∙ sym (joined-append a b)) (put_then_broken (joined a) (joined (dated m.at cycle b)) s m e first broken)

pub first_lines_broken : (a b : List Text) (s m : Stand) → HasBroken (joined a) s m → HasBroken (joined (a ++ b)) s m
first_lines_broken a b s m broken =
    let P : Text → Type 0 = λ t. HasBroken t s m in
    subst P (sym (joined-append a b)) (broken_first (joined a) (joined b) s m broken)

pub broken_text : (a b : Text) (s e : Stand) → a ≡ b → HasBroken a s e → HasBroken b s e
broken_text a b s e same broken = let P : Text → Type 0 = λ t. HasBroken t s e in subst P same broken
