use Rattle.std.proofs.Common.{rules, ◌≡◌, ◌∙◌, ℕ, List, Err, length, subst, sym}
use Rattle.std.specs.List.Sorted.{IsStrictlyIncreasing}
use Rattle.std.proofs.lemmas.List.Sorted.{searched}
use Rattle.text_rows.specs.Rows.{IsRowOf, Other}
use Rattle.text_rows.proofs.Rising.{absent, rises}
use Rattle.text_rows.proofs.rows.TextRows.search.Goals as goal

pub returns-in-Err : goal.returns-in-Err
returns-in-Err c =
    let rows = c.deref.result.now in
    let same : c.self.inside.addrs.items ≡ rows = search rules in
    let all : c.len.result ≡ length c.self.inside.addrs.items = search rules in
    let Q : List ℕ → Type 0 = λ xs. IsStrictlyIncreasing xs in
    let L : List ℕ → Type 0 = λ xs. c.len.result ≡ length xs in
    let found = searched rows c.args.addr (Err c.in-Err.field-0) c.in-Err.ensures.position (rises rows (subst Q same c.self.invariant)) in
    let P : List ℕ → Type 0 = λ xs. IsRowOf xs c.args.addr c.len.result in
    record { row = subst P (sym same ∙ c.self.view_is) (Other (subst L same all) (absent rows c.args.addr c.in-Err.field-0 found.1 found.2)) }
