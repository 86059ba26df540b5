use Rattle.std.proofs.Common.{◌≡◌, ◌-◌, ◌+◌, ◌≤◌, min, take, drop, arith}
use Rattle.undo_journal.proofs.Ring.{run_newest}
use Rattle.undo_journal.proofs.journal.Journal.newest_run.Goals as goal

pub returns-clause-newest : goal.returns-clause-newest
returns-clause-newest c =
    let now = c.self.inside in
    let end = c.behind-end.result + 1 in
    let k = c.min-count.result in
    let few : k ≤ min now.count end = omega (arith, c.min-count.ensures, c.from.ensures, c.min.ensures) in
    let count : end - (end - k) ≡ k = omega arith in
    run_newest now.places.items now.mask now.room now.first now.count c.self.invariant c.args.self.now c.self.view_is end k
    (take (end - (end - k)) (drop (end - k) c.deref.result.now)) (omega (arith, c.if-self-eq0.false)) (omega (arith, c.behind-end.ensures.place)) (omega (arith, few)) (omega (arith, few))
    (λ i. take (count i) (drop (end - k) (c.deref.ensures.value i)))
