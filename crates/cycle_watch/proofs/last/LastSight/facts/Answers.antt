use Rattle.std.proofs.Common.{◌≡◌, ◌∙◌, ◌+◌, ◌-◌, ◌<◌, ◌^◌, ap, refl, sym, arith}
use Rattle.mono_model.specs.declared.final_state.End.{End}
use Rattle.mono_model.specs.Machine as machine
use Rattle.insight_model.specs.Facts.{has_stopped}
use Rattle.cycle_watch.proofs.Passing.{window_length}
use Rattle.cycle_watch.proofs.Telling.{all_told}
use Rattle.cycle_watch.proofs.last.LastSight.facts.Goals as goal

pub wrong_place-wrong-requires : goal.wrong_place-wrong-requires
wrong_place-wrong-requires g c =
    let h = c.requires.followed in
    let last = c.args.self.now in
    let was : last.counts.exceptions ≡ h.before.counts.exceptions = ap (λ (n : machine.Counts). n.exceptions) h.keeps.noted.counts in
    let new = ap (λ (n : machine.Counts). n.exceptions) c.counts-counts.ensures.counts in
    let small : h.before.retired + h.before.counts.exceptions < 2 ^ 64 = omega (arith, h.follows.small, h.follows.retired, h.follows.exceptions) in
    let number = c.number.ensures.number h.before h.keeps small in
    let all = window_length h.before last h.keeps in
    record { within = omega (arith, was, new, number, all, h.follows.kept, h.keeps.noted.retired) }

pub flush-flush-requires : goal.flush-flush-requires
flush-flush-requires g c =
    let h = c.requires.followed in
    let last = c.args.self.now in
    let was : last.counts.exceptions ≡ h.before.counts.exceptions = ap (λ (n : machine.Counts). n.exceptions) h.keeps.noted.counts in
    let new = ap (λ (n : machine.Counts). n.exceptions) c.counts-counts.ensures.counts in
    let small : h.before.retired + h.before.counts.exceptions < 2 ^ 64 = omega (arith, h.follows.small, h.follows.retired, h.follows.exceptions) in
    let number = c.number.ensures.number h.before h.keeps small in
    let all = window_length h.before last h.keeps in
    record { within = omega (arith, was, new, number, all, h.follows.kept, h.keeps.noted.retired) }

pub returns-clause-told : goal.returns-clause-told
returns-clause-told g c = λ before keeps follows.
    let after = g.S.Watched.sight c.args.side.now in
    let last = c.args.self.now in
    let counts = c.counts-counts.result in
    let cs = c.counts-counts.ensures.counts in
    let was : last.counts.exceptions ≡ before.counts.exceptions = ap (λ (n : machine.Counts). n.exceptions) keeps.noted.counts in
    let new : counts.exceptions ≡ after.counts.exceptions = ap (λ (n : machine.Counts). n.exceptions) cs in
    let was_fetched : last.counts.fetched ≡ before.counts.fetched = ap (λ (n : machine.Counts). n.fetched) keeps.noted.counts in
    let new_fetched : counts.fetched ≡ after.counts.fetched = ap (λ (n : machine.Counts). n.fetched) cs in
    let small : before.retired + before.counts.exceptions < 2 ^ 64 = omega (arith, follows.small, follows.retired, follows.exceptions) in
    let number = c.number.ensures.number before keeps small in
    all_told before after last counts _ keeps follows (record {
      seen = cs;
      cycle = refl;
      number = c.number-2.ensures.number before keeps small;
      fetched = refl;
      all = c.len-2.ensures.len;
      left = omega (arith, was, new, number, keeps.noted.retired, follows.small);
      appended = omega (arith, was_fetched, new_fetched);
      kept = omega arith;
      trapped = refl;
      interrupted = refl;
      replayed = refl;
      mispredicted = c.wrong_place-wrong.ensures.place before after keeps cs;
      fetch_at = c.fetch_address-fetch_at.ensures.at;
      flush = c.flush-flush.ensures.flush before after keeps cs;
      paid = c.was_paid-paid.ensures.paid;
      missed = c.missed.ensures.missed;
      waited = c.has_waited.ensures.waited;
      stopped = c.has_stopped.ensures.stops ∙ ap (λ (e : End). has_stopped e) c.end.ensures.end;
    })
