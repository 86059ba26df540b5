use Rattle.std.proofs.Common.{◌≡◌, ◌∙◌, ◌==◌, if◌then◌else◌, Some, List, ap, refl, sym}
use Rattle.insight_model.specs.declared.cycle_cause.CycleCause.TheVariants.{Icache, Start}
use Rattle.std.specs.Prelude.{slice_get, take, unwrap_or}
use Rattle.insight_model.specs.Cause.{charge}
use Rattle.insight_model.specs.Sight.{Shown}
use Rattle.insight_model.specs.Facts.{Facts, facts as cycle_facts}
use Rattle.cycle_watch.specs.declared.mark.Mark.{Mark}
use Rattle.cycle_watch.specs.Shown.{shown_in}
use Rattle.cycle_watch.specs.Facts.{window_in}
use Rattle.cycle_watch.specs.Known.{oldest_head_by}
use Rattle.cycle_watch.proofs.Heading.{head_of_none, head_of_oldest, none_first, oldest_is, oldest_seen, told_latest}
use Rattle.cycle_watch.proofs.heads.Heads.window_head.Goals as goal

pub returns-in-Some : goal.returns-in-Some
returns-in-Some g c = record {
  head = λ kind p before known stands follows told.
      let after = g.S.Watched.sight c.args.side.now in
      let last = c.args.self.now.last in
      let f = c.args.facts.now in
      let mark = c.in-Some.mark.now in
      let F : Facts = cycle_facts before after in
      let seen : Shown = unwrap_or (slice_get (take f.kept after.window) 0) (shown_in mark.shown) in
      let first : slice_get last.marks.items 0 ≡ Some mark = sym c.in-Some.ensures.oldest in
      c.oldest_head.ensures.head
      ∙ (λ i. oldest_head_by (stands.watches.params i) f mark seen)
      ∙ sym (oldest_is p F known f last.marks.items mark seen first stands.knows.misses stands.knows.origins (told_latest before after f told follows (shown_in mark.shown))
      (ap (λ (x : Facts). x.cycle) told.facts) (ap (λ (x : Facts). x.replayed) told.facts))
      ∙ sym (head_of_oldest p F known before.window (shown_in mark.shown) (oldest_seen last.marks.items before.window mark stands.keeps.window first));
}

pub returns-in-None : goal.returns-in-None
returns-in-None g c = record {
  head = λ kind p before known stands follows told.
      let after = g.S.Watched.sight c.args.side.now in
      let last = c.args.self.now.last in
      let F : Facts = cycle_facts before after in
      let none = none_first last.marks.items (sym c.in-None.ensures.oldest) in
      let empty = sym stands.keeps.window ∙ ap window_in none in
      (λ i. charge ((c.new.ensures.cause ∙ c.empty_cause.ensures.cause) i) (c.new.ensures.addr i))
      ∙ (λ i. charge (if (told.facts i).cycle == 0 then Start else Icache) (told.facts i).fetch_at)
      ∙ sym (head_of_none p F known before.window empty);
}
