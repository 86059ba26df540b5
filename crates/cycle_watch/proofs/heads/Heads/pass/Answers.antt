use Rattle.std.proofs.Common.{◌≡◌, ◌∙◌, ap, refl, sym, arith}
use Rattle.std.specs.Prelude.{map, option_map}
use Rattle.insight_model.specs.Facts.{Facts, facts as cycle_facts}
use Rattle.insight_model.specs.Origin.{refill_after}
use Rattle.insight_model.specs.Hole.{holes_after}
use Rattle.cycle_watch.specs.declared.heads.Heads.{Heads}
use Rattle.cycle_watch.specs.Facts.{access_in}
use Rattle.cycle_watch.proofs.Standing.{may_keep, may_pass_to, now_stands, stayed_all, tells_origin, told_appended}
use Rattle.cycle_watch.proofs.heads.Heads.pass.Goals as goal

pub holes_after-holes-requires : goal.holes_after-holes-requires
holes_after-holes-requires g c = record { kept = may_keep c.args.self.now (g.S.Watched.sight c.args.side.now) c.args.facts.now c.requires.standing }

pub pass-requires : goal.pass-requires
pass-requires g c = record { follows = may_pass_to c.args.self.now (g.S.Watched.sight c.args.side.now) c.args.facts.now c.requires.standing }

pub append-requires : goal.append-requires
append-requires g c =
    let may = c.requires.standing in
    let after = g.S.Watched.sight c.args.side.now in
    let passed = c.pass.ensures.passed may.before may.stands.keeps may.follows may.told in
    record {
      kept = omega (arith, may.told.kept);
      all = stayed_all may.before after c.args.facts.now c.pass.new.self may.told passed;
      room = omega (arith, may.follows.within, passed.room.marks);
    }

pub returns : goal.returns
returns g c = record {
  stands = λ kind p before known stands follows told.
      let old = c.args.self.now in
      let after = g.S.Watched.sight c.args.side.now in
      let f = c.args.facts.now in
      let F : Facts = cycle_facts before after in
      let mid : Heads = record old { last = c.pass.new.self } in
      let tells = tells_origin before after f told follows in
      now_stands kind p before after known old mid c.append.new.self f stands follows told
      (c.pass.ensures.passed before stands.keeps follows told) (c.pass.ensures.misses before stands.keeps follows told) c.pass.ensures.origins c.pass.ensures.pipeline c.pass.ensures.params refl
      (c.append.ensures.appended F tells) _ refl
      (c.refill_after-refill.ensures.refill F tells.flush (told_appended before after f told follows) ∙ ap (refill_after F) stands.knows.refill)
      (λ inorder.
      c.holes_after-holes.ensures.holes before stands.keeps told (stands.watches.pipeline ∙ inorder)
      ∙ (λ i. holes_after F (stands.knows.misses i) (stands.knows.holes (stands.watches.pipeline ∙ inorder) i)));
  loads = λ before keeps follows told.
      let after = g.S.Watched.sight c.args.side.now in
      let tells = tells_origin before after c.args.facts.now told follows in
      ap (λ (h : Heads). map access_in h.last.loads.items) (c.append.ensures.appended (cycle_facts before after) tells).rest
      ∙ c.pass.ensures.loads before keeps follows told;
}
