use Rattle.std.proofs.Common.{◌-◌, ◌∙◌, ap, length, take, drop, arith, length-take, length-drop}
use Rattle.fsim_ports.specs.Sink.{grown}
use Rattle.fsim_ports.proofs.Writing.{grown_more}
use Rattle.fsim_ports.proofs.whole.put_all.Goals as goal

pub loop-done-preserved : goal.loop-done-preserved
loop-done-preserved g c =
    let bytes = c.args.bytes.now in
    let rest = take (length bytes - c.loop-done.done) (drop c.loop-done.done bytes) in
    let took = c.in-Ok.ensures.put in
    record {
      within = omega (arith, took.bound, length-take (length bytes - c.loop-done.done) (drop c.loop-done.done bytes), length-drop c.loop-done.done bytes);
      count = omega (arith, c.in-Ok.ensures.count);
      written = took.written ∙ ap (λ w. grown w (take c.in-Ok.count rest)) c.loop-done.invariant.written ∙ grown_more (g.K.Sink.written c.args.sink.now) bytes c.loop-done.done c.in-Ok.count;
    }
