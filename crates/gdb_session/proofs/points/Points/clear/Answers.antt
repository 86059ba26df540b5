use Rattle.std.proofs.Common.{filter, not, ap, ◌∙◌, rules, tests}
use Rattle.std.proofs.lemmas.Fn.{filter_same}
use Rattle.gdb_model.specs.Talk.{is_same}
use Rattle.gdb_session.proofs.points.Points.clear.Goals as goal

pub returns : goal.returns
returns c = record {
  cleared =
      filter_same _ (λ other. not (is_same c.args.point other)) _ (λ x b f k. search (rules, tests)) _ _ c.retain.ensures.filtered
      ∙ ap (filter (λ other. not (is_same c.args.point other))) c.self.view_is;
}
