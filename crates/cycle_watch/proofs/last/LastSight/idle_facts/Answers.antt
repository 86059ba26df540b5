use Rattle.std.proofs.Common.{◌≡◌, ◌∙◌, ℕ, false, is_some, nat_lt, None, Option, ap, subst, sym}
use Rattle.std.specs.Prelude.{unwrap_or}
use Rattle.mono_model.specs.Machine as machine
use Rattle.cycle_watch.specs.declared.facts.Facts.{Facts as FactsInCode}
use Rattle.cycle_watch.specs.Facts.{IsTold, idle}
use Rattle.cycle_watch.proofs.Idle.{idle_is_told}
use Rattle.cycle_watch.proofs.Passing.{window_length}
use Rattle.cycle_watch.proofs.last.LastSight.idle_facts.Goals as goal

pub returns : goal.returns
returns c = record {
  told = λ s keeps small goes.
      let last = c.args.self.now in
      let T : FactsInCode → Type 0 = λ f. IsTold s (idle s) f in
      let number = c.number.ensures.number s keeps small in
      let fetched = ap (λ (n : machine.Counts). n.fetched) keeps.noted.counts in
      let before = c.len.ensures.len ∙ window_length s last keeps in
      let kept = c.len-2.ensures.len ∙ window_length s last keeps in
      let at = c.unwrap_or.ensures ∙ ap (λ (o : Option ℕ). unwrap_or o 0) keeps.noted.missing in
      let paid = c.is_some.ensures ∙ ap (λ (o : Option ℕ). is_some o) keeps.noted.missing in
      subst T (λ i. record {
        cycle = sym keeps.cycle i;
        number = sym number i;
        fetched = sym fetched i;
        before = sym before i;
        left = 0;
        kept = sym kept i;
        appended = 0;
        trapped = false;
        mispredicted = None;
        interrupted = false;
        replayed = false;
        flush = None;
        fetch_at = sym at i;
        paid = sym paid i;
        missed = None;
        waited = nat_lt (sym keeps.cycle i) (sym keeps.noted.resume i);
        stopped = false;
      }) (idle_is_told s goes);
}
