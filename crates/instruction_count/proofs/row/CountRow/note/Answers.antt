use Rattle.std.proofs.Common.{◌≡◌, ◌∙◌, ◌+◌, false, refl, sym, arith}
use Rattle.instruction_count.proofs.Noted.{goes_off, goes_straight, noted_on, noted_taken, noted_trap}
use Rattle.instruction_count.proofs.row.CountRow.note.Goals as goal

pub returns-then-executed : goal.returns-then-executed
returns-then-executed c = record {
  noted = λ image run x few tells row.
      let old = c.args.self.now in
      let more : c.saturating_add-self.result ≡ old.trapped + 1 = omega (arith, c.saturating_add-self.ensures, row.few, few) in
      noted_trap image run x old _ row tells.word (sym tells.trap ∙ c.if-executed.true) refl more refl;
}

pub returns-else-is_taken : goal.returns-else-is_taken
returns-else-is_taken c = record {
  noted = λ image run x few tells row.
      let old = c.args.self.now in
      let trap : x.has_trapped ≡ false = sym tells.trap ∙ c.if-executed.false in
      let on = goes_straight c.args.executed.now x c.is_taken.result tells trap c.is_taken.ensures.taken c.if-is_taken.false in
      let more : c.saturating_add-self-2.result ≡ old.retired + 1 = omega (arith, c.saturating_add-self-2.ensures, row.few, few) in
      noted_on image run x old _ row tells.word trap on more refl refl;
}

pub returns-then-is_taken : goal.returns-then-is_taken
returns-then-is_taken c = record {
  noted = λ image run x few tells row.
      let old = c.args.self.now in
      let trap : x.has_trapped ≡ false = sym tells.trap ∙ c.if-executed.false in
      let off = goes_off c.args.executed.now x c.is_taken.result tells trap c.is_taken.ensures.taken c.if-is_taken.true in
      let more : c.saturating_add-self-2.result ≡ old.retired + 1 = omega (arith, c.saturating_add-self-2.ensures, row.few, few) in
      let once : c.saturating_add-self-then-is_taken.result ≡ old.taken + 1 = omega (arith, c.saturating_add-self-then-is_taken.ensures, row.few, row.fewer, few) in
      noted_taken image run x old _ row tells.word trap off more refl once;
}
