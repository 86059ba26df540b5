use Rattle.std.proofs.Common.{◌≡◌, ◌∙◌, ◌+◌, ◌-◌, ◌≤◌, ◌<◌, ◌^◌, ℕ, min, ap, subst, sym, arith}
use Rattle.cycle_watch.specs.Passing.{HasNoTurn, IsApart}
use Rattle.cycle_watch.proofs.Idling.{apart_capped, apart_less}
use Rattle.cycle_watch.proofs.heads.Heads.pass_alike.Goals as goal

pub returns-clause-turns : goal.returns-clause-turns
returns-clause-turns c =
    let last = c.args.self.now.last in
    let from = last.cycle in
    let end = c.until-end-3.result in
    let young = c.until-end-2.result in
    let resumed = c.until-end.result in
    let some = c.until-end-3.ensures.some in
    let same : end ≡ from + (end - from) = omega (arith, some) in
    let less : end ≤ young = c.until-end-3.ensures.within in
    let least : end ≤ resumed = omega (arith, less, c.until-end-2.ensures.within) in
    let below : from < 2 ^ 64 - 1 = omega (arith, c.requires.before, c.ranges.to.fits) in
    let A : ℕ → Type 0 = λ turn. IsApart from turn end in
    let H : ℕ → Type 0 = λ n. HasNoTurn last n in
    subst H same (record {
      resume = subst A c.resume.ensures.resume (apart_less from c.resume.result resumed end least c.until-end.ensures.apart);
      young = λ mark first.
          let turn = mark.shown.since + (last.params.core_front + 2) in
          apart_capped from turn end (2 ^ 64 - 1) below
          (subst A (c.young_until.ensures.young mark first) (apart_less from c.young_until.result young end less c.until-end-2.ensures.apart));
      missing = λ mark until first executes.
          apart_capped from (until - mark.miss + 1) end (2 ^ 64 - 1) below
          (subst A (c.missing_from.ensures.missing mark until first executes) c.until-end-3.ensures.apart);
    })
