use Rattle.std.proofs.Common.{◌≡◌, ◌∙◌, ◌==◌, false, true, refl, sym}
use Rattle.insight_model.specs.Facts.{facts as cycle_facts}
use Rattle.insight_model.specs.Fetch.{fetch_width, is_full}
use Rattle.cycle_watch.proofs.Heading.{end_of, told_after}
use Rattle.cycle_watch.proofs.heads.Heads.fetch_end.Goals as goal

pub returns-then-facts : goal.returns-then-facts
returns-then-facts g c = record {
  end = λ kind p before known stands follows told.
      sym (end_of kind p before (g.S.Watched.sight c.args.side.now) c.args.facts.now true _ _ _ _ told follows c.if-facts.true refl refl refl refl);
}

pub returns-then-has_waited : goal.returns-then-has_waited
returns-then-has_waited g c = record {
  end = λ kind p before known stands follows told.
      sym (end_of kind p before (g.S.Watched.sight c.args.side.now) c.args.facts.now false true _ _ _ told follows c.if-facts.false
      (sym c.has_waited.ensures.waited ∙ c.if-has_waited.true) refl refl refl);
}

pub returns-then-is_wide : goal.returns-then-is_wide
returns-then-is_wide g c = record {
  end = λ kind p before known stands follows told.
      let f = c.args.facts.now in
      let wide : (f.appended == fetch_width kind p) ≡ true =
      (λ i. f.appended == fetch_width (sym stands.watches.pipeline i) (sym stands.watches.params i)) ∙ sym c.is_wide.ensures.wide ∙ c.if-is_wide.true in
      sym (end_of kind p before (g.S.Watched.sight c.args.side.now) f false false true _ _ told follows c.if-facts.false
      (sym c.has_waited.ensures.waited ∙ c.if-has_waited.false) wide refl refl);
}

pub returns-then-is_last_elsewhere : goal.returns-then-is_last_elsewhere
returns-then-is_last_elsewhere g c = record {
  end = λ kind p before known stands follows told.
      let f = c.args.facts.now in
      let wide : (f.appended == fetch_width kind p) ≡ false =
      (λ i. f.appended == fetch_width (sym stands.watches.pipeline i) (sym stands.watches.params i)) ∙ sym c.is_wide.ensures.wide ∙ c.if-is_wide.false in
      sym (end_of kind p before (g.S.Watched.sight c.args.side.now) f false false false true _ told follows c.if-facts.false
      (sym c.has_waited.ensures.waited ∙ c.if-has_waited.false) wide (sym c.is_last_elsewhere.ensures.elsewhere ∙ c.if-is_last_elsewhere.true) refl);
}

pub returns-then-is_full : goal.returns-then-is_full
returns-then-is_full g c = record {
  end = λ kind p before known stands follows told.
      let f = c.args.facts.now in
      let after = g.S.Watched.sight c.args.side.now in
      let F = cycle_facts before after in
      let wide : (f.appended == fetch_width kind p) ≡ false =
      (λ i. f.appended == fetch_width (sym stands.watches.pipeline i) (sym stands.watches.params i)) ∙ sym c.is_wide.ensures.wide ∙ c.if-is_wide.false in
      let full : is_full kind p F ≡ true =
      (λ i. is_full (sym stands.watches.pipeline i) (sym stands.watches.params i) F) ∙ sym (c.is_full.ensures.full F (told_after before after f told follows)) ∙ c.if-is_full.true in
      sym (end_of kind p before after f false false false false true told follows c.if-facts.false
      (sym c.has_waited.ensures.waited ∙ c.if-has_waited.false) wide (sym c.is_last_elsewhere.ensures.elsewhere ∙ c.if-is_last_elsewhere.false) full);
}

pub returns-else-is_full : goal.returns-else-is_full
returns-else-is_full g c = record {
  end = λ kind p before known stands follows told.
      let f = c.args.facts.now in
      let after = g.S.Watched.sight c.args.side.now in
      let F = cycle_facts before after in
      let wide : (f.appended == fetch_width kind p) ≡ false =
      (λ i. f.appended == fetch_width (sym stands.watches.pipeline i) (sym stands.watches.params i)) ∙ sym c.is_wide.ensures.wide ∙ c.if-is_wide.false in
      let full : is_full kind p F ≡ false =
      (λ i. is_full (sym stands.watches.pipeline i) (sym stands.watches.params i) F) ∙ sym (c.is_full.ensures.full F (told_after before after f told follows)) ∙ c.if-is_full.false in
      sym (end_of kind p before after f false false false false false told follows c.if-facts.false
      (sym c.has_waited.ensures.waited ∙ c.if-has_waited.false) wide (sym c.is_last_elsewhere.ensures.elsewhere ∙ c.if-is_last_elsewhere.false) full);
}
