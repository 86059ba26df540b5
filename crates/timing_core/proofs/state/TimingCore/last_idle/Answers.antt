use Rattle.std.proofs.Common.{◌≡◌, ◌<◌, true, sym, ◌∙◌, arith}
use Rattle.timing_core.proofs.Idling.{in_cycle, idles}
use Rattle.timing_core.proofs.state.TimingCore.last_idle.Goals as goal

pub returns-clause-idle : goal.returns-clause-idle
returns-clause-idle c = λ s t cycle above below k.
    let core = c.args.self.now in
    let next = c.next_event.result in
    let none : c.none_could_begin.result ≡ true = let off = c.if-not-none_could_begin.false in cc in
    let before : cycle < next = omega (arith, above, below, c.max.ensures, c.saturating_sub.ensures) in
    idles s t core cycle next k before c.requires.held
    (sym (c.has_ended.ensures.ended s (record t { cycle = core.cycle }) (in_cycle s t core cycle k)) ∙ c.if-has_ended.false)
    (c.none_could_begin.ensures.none none) c.next_event.ensures.ends c.next_event.ensures.limit c.next_event.ensures.interrupt c.next_event.ensures.fetch
