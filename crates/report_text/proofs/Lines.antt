-- Lines that are joined, and the pieces of one line.
use Rattle.std.proofs.Common.{slice_index_or, not, nat_eq, codes, if◌then◌else◌, ◌==◌, true, false, ◌≡◌, ℕ, ◌+◌, ◌-◌, ◌≤◌, ◌<◌, List, [], ◌∷◌, ◌++◌, length, take, drop, get_or, Option, refl, ap, sym, ◌∙◌, subst, append_assoc, add-one, arith}
use Rattle.std.proofs.Math.Seq.{take-suc}
use Rattle.std.proofs.lemmas.List.{take-append-drop, take_all, append-nil}
use Rattle.fsim_ports.specs.Sink.{grown, Breaks}
use Rattle.fsim_ports.proofs.Writing.{breaks_first, breaks_second, grown_twice}
use Rattle.mono_model.specs.declared.final_state.Final.{Final}
use Rattle.mono_model.specs.Report.{line, line_feed, joined, status_text, retired_lines, register_lines, csr_lines, ends_open, func_lines, func_report_text, pipeline_lines, first_level_lines, second_level_lines, state_lines, count_line, misses_line, report_lines, report_text}
use Rattle.report_text.specs.Lines.{output_line, pc_line, counts_text, progress_text, costs_text, second_level_text, place_text, registers_text, csrs_text}

-- four texts with spaces between them, as they are appended
pub four_texts : {l0 l1 l2 l3 l4 l5 l6 l7 l8 : List ℕ} (a b c d s : List ℕ) → l0 ≡ [] → l1 ≡ l0 ++ a → l2 ≡ l1 ++ s → l3 ≡ l2 ++ b → l4 ≡ l3 ++ s → l5 ≡ l4 ++ c → l6 ≡ l5 ++ s → l7 ≡ l6 ++ d → l8 ≡ l7 ++ line_feed → l8 ≡ line (a ++ s ++ b ++ s) (c ++ s ++ d)
four_texts a b c d s e0 e1 e2 e3 e4 e5 e6 e7 e8 =
    e8 ∙ ap (λ x. x ++ line_feed) (e7 ∙ ap (λ x. x ++ d) (e6 ∙ ap (λ x. x ++ s) (e5 ∙ ap (λ x. x ++ c) (e4 ∙ ap (λ x. x ++ s) (e3 ∙ ap (λ x. x ++ b) (e2 ∙ ap (λ x. x ++ s) (e1 ∙ ap (λ x. x ++ a) e0)))))))
    ∙ simp append_assoc

pub joined-append : (a b : List (List ℕ)) → joined (a ++ b) ≡ joined a ++ joined b
joined-append [] b = refl
joined-append (text ∷ a) b = ap (λ t. text ++ t) (joined-append a b) ∙ sym (append_assoc text (joined a) (joined b))

pub joined-take : (lines : List (List ℕ)) (i : ℕ) (text : List ℕ) → i < length lines → text ≡ get_or lines i text → joined (take (i + 1) lines) ≡ joined (take i lines) ++ text
joined-take lines i text inside is =
    rw add-one (ap joined (take-suc lines i text inside) ∙ joined-append (take i lines) (get_or lines i text ∷ []) ∙ ap (λ t. joined (take i lines) ++ t) (append-nil (get_or lines i text) ∙ sym is))

pub joined-split : (lines : List (List ℕ)) (i : ℕ) → joined (take i lines) ++ joined (drop i lines) ≡ joined lines
joined-split lines i = sym (joined-append (take i lines) (drop i lines)) ∙ ap joined (take-append-drop i lines)

-- where one of several lines breaks off behind those before it, so do all together
pub line_breaks : (lines : List (List ℕ)) (i : ℕ) (text : List ℕ) {before middle after : ℕ} {old mid new : Option (List ℕ)} → i < length lines → text ≡ get_or lines i text → before ≤ middle → mid ≡ grown old (joined (take i lines)) → Breaks text middle after mid new → Breaks (joined lines) before after old new
line_breaks lines i text {before} {middle} {after} {old} {mid} {new} inside is later written broken =
    let P : List ℕ → Type 0 = λ t. Breaks t before after old new in
    let here : Breaks (joined (take i lines) ++ text) before after old new = breaks_second (joined (take i lines)) written later broken in
    let front : Breaks (joined (take (i + 1) lines)) before after old new = subst P (sym (joined-take lines i text inside is)) here in
    subst P (joined-split lines (i + 1)) (breaks_first (joined (drop (i + 1) lines)) (omega arith) front)

-- the first `done` lines were written
pub record WritesLines (lines : List (List ℕ)) (done before now : ℕ) (old new : Option (List ℕ)) : Type 0 where
  pub count : before ≤ now
  pub written : new ≡ grown old (joined (take done lines))

pub line_written : (lines : List (List ℕ)) (i : ℕ) (text : List ℕ) {before middle after : ℕ} {old mid new : Option (List ℕ)} → i < length lines → text ≡ get_or lines i text → WritesLines lines i before middle old mid → middle ≤ after → new ≡ grown mid text
    → WritesLines lines (i + 1) before after old new
line_written lines i text {old = old} inside is done later written = record {
  count = omega (arith, done.count, later);
  written = written ∙ ap (λ w. grown w text) done.written ∙ grown_twice old (joined (take i lines)) text ∙ ap (grown old) (sym (joined-take lines i text inside is));
}

pub all_written : (lines : List (List ℕ)) (i : ℕ) {before now : ℕ} {old new : Option (List ℕ)} → length lines ≤ i → WritesLines lines i before now old new → new ≡ grown old (joined lines)
all_written lines i {old = old} all done = done.written ∙ ap (λ ls. grown old (joined ls)) (take_all i lines all)

-- whether a text ends open is seen at its last byte
open_at : (byte : ℕ) → not (nat_eq byte 10) ≡ (if byte == 10 then false else true)
open_at byte = elim (nat_eq byte 10) as (λ b. not b ≡ (if b then false else true)) [ true ↦ refl | false ↦ refl ]

ends_open-last : (byte : ℕ) (rest : List ℕ) → not (nat_eq (slice_index_or (byte ∷ rest) (length rest) 0) 10) ≡ ends_open (byte ∷ rest)
ends_open-last byte [] = open_at byte
ends_open-last byte (next ∷ rest) = ends_open-last next rest

pub ends_open_at : (text : List ℕ) → 0 < length text → not (nat_eq (slice_index_or text (length text - 1) 0) 10) ≡ ends_open text
ends_open_at [] some = absurd (omega arith)
ends_open_at (byte ∷ rest) some = let last : length (byte ∷ rest) - 1 ≡ length rest = omega arith in rw last (ends_open-last byte rest)

-- the report in its parts
pub func_report_text-parts : (f : Final) → func_report_text f ≡ counts_text f ++ (registers_text f.regs ++ csrs_text f.csrs f.cmp)
unfolding func_lines counts_text registers_text csrs_text
func_report_text-parts f =
    let counts = line (codes "status: ") (status_text f.end) ∷ retired_lines f ++ output_line f.stats.output ∷ pc_line f.pc ∷ [] in
    joined-append counts (register_lines f.regs ++ csr_lines f) ∙ ap (λ t. joined counts ++ t) (joined-append (register_lines f.regs) (csr_lines f))

-- the report of a run under a machine file in its parts
report_lines-parts : (f : Final) → report_lines f ≡ (line (codes "status: ") (status_text f.end) ∷ count_line (codes "cycles: ") f.stats.cycles ∷ retired_lines f ++ pipeline_lines f ++ first_level_lines f) ++ (second_level_lines f ++ state_lines f)
unfolding report_lines
report_lines-parts f = append_assoc (line (codes "status: ") (status_text f.end) ∷ count_line (codes "cycles: ") f.stats.cycles ∷ retired_lines f ++ pipeline_lines f ++ first_level_lines f) (second_level_lines f) (state_lines f)

pub report_text-parts : (f : Final) → report_text f ≡ progress_text f ++ (costs_text f ++ (second_level_text f ++ (place_text f ++ (registers_text f.regs ++ csrs_text f.csrs f.cmp))))
unfolding progress_text costs_text second_level_text place_text registers_text csrs_text
report_text-parts f =
    let progress = line (codes "status: ") (status_text f.end) ∷ count_line (codes "cycles: ") f.stats.cycles ∷ retired_lines f ++ (count_line (codes "replays: ") f.stats.replays ∷ count_line (codes "fetched: ") f.stats.fetched ∷ count_line (codes "squashed: ") f.stats.squashed ∷ []) in
    let costs = (count_line (codes "branches: ") f.stats.branches ∷ count_line (codes "mispredicted: ") f.stats.mispredicted ∷ []) ++ first_level_lines f in
    let place = output_line f.stats.output ∷ pc_line f.pc ∷ [] in
    let values = register_lines f.regs ++ csr_lines f in
    ap joined (report_lines-parts f)
    ∙ joined-append progress (costs ++ (second_level_lines f ++ (place ++ values)))
    ∙ ap (λ t. joined progress ++ t) (joined-append costs (second_level_lines f ++ (place ++ values))
    ∙ ap (λ t. joined costs ++ t) (joined-append (second_level_lines f) (place ++ values)
    ∙ ap (λ t. joined (second_level_lines f) ++ t) (joined-append place values
    ∙ ap (λ t. joined place ++ t) (joined-append (register_lines f.regs) (csr_lines f)))))

-- the second level has its two lines under version 2 alone
pub second_level_text-without : (f : Final) → (f.stats.version == 2) ≡ false → [] ≡ second_level_text f
unfolding second_level_text
second_level_text-without f other =
    sym (ap (λ b. joined (if b then misses_line (codes "l2: ") f.stats.l2_accesses f.stats.l2_misses ∷ count_line (codes "writebacks: ") f.stats.writebacks ∷ [] else [])) other)

pub second_level_text-with : (f : Final) → (f.stats.version == 2) ≡ true → joined (misses_line (codes "l2: ") f.stats.l2_accesses f.stats.l2_misses ∷ count_line (codes "writebacks: ") f.stats.writebacks ∷ []) ≡ second_level_text f
unfolding second_level_text
second_level_text-with f two =
    sym (ap (λ b. joined (if b then misses_line (codes "l2: ") f.stats.l2_accesses f.stats.l2_misses ∷ count_line (codes "writebacks: ") f.stats.writebacks ∷ [] else [])) two)

-- a line of a key, or of a key and its value, whose beginning is in two parts
pub keyed_line-parts : (head words begun key : List ℕ) → begun ≡ head ++ words → begun ++ key ++ line_feed ≡ line head (words ++ key)
keyed_line-parts head words begun key same =
    let regrouped : (head ++ words) ++ key ++ line_feed ≡ line head (words ++ key) = simp append_assoc in
    ap (λ t. t ++ key ++ line_feed) same ∙ regrouped

pub valued_line-parts : (head words begun key blank value : List ℕ) → begun ≡ head ++ words
    → begun ++ key ++ blank ++ value ++ line_feed ≡ line head (words ++ key ++ blank ++ value)
valued_line-parts head words begun key blank value same =
    let regrouped : (head ++ words) ++ key ++ blank ++ value ++ line_feed ≡ line head (words ++ key ++ blank ++ value) = simp append_assoc in
    ap (λ t. t ++ key ++ blank ++ value ++ line_feed) same ∙ regrouped
