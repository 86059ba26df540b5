use Rattle.std.proofs.Common.{◌≡◌, ◌+◌, ◌≤◌, Some, None, refl, ◌∙◌, arith}
use Rattle.gdb_session.proofs.Asked.{putting_done, putting_end, putting_more, putting_start, seen}
use Rattle.gdb_session.proofs.memory.put_bytes.Goals as goal

pub loop-place-init : goal.loop-place-init
loop-place-init g c = record {
  same = refl;
  put = λ s h. putting_start s c.args.debugger.now.at c.args.address c.args.reply.now;
  len = omega arith;
}

pub hex-requires : goal.hex-requires
hex-requires g c = record { room = omega (arith, c.loop-place.invariant.len, c.loop-place-test.true, c.requires.room) }

pub loop-place-preserved : goal.loop-place-preserved
loop-place-preserved g c =
    let so = c.loop-place.invariant in
    record {
      same = c.byte_after.ensures.same ∙ so.same;
      put = λ s h.
          putting_more s c.args.debugger.now.at c.args.address c.loop-place.place c.in-Some.byte c.args.reply.now c.loop-place.reply c.hex.new.self (so.put s h)
          (seen s c.args.debugger.now c.loop-place.debugger (Some c.in-Some.byte) (c.args.address + c.loop-place.place) so.same c.in-Some.ensures.byte h)
          c.hex.ensures.content;
      len = omega (arith, c.hex.ensures.len, so.len);
    }

pub returns-in-None : goal.returns-in-None
returns-in-None g c =
    let so = c.loop-place.invariant in
    let within : c.loop-place.place ≤ c.args.count = omega (arith, c.loop-place-test.true) in
    record {
      text = λ s h. (putting_end s c.args.debugger.now.at c.args.address c.loop-place.place c.args.count c.args.reply.now c.loop-place.reply (so.put s h)
          (seen s c.args.debugger.now c.loop-place.debugger None (c.args.address + c.loop-place.place) so.same c.in-None.ensures.byte h) within).0;
      count = λ s h. (putting_end s c.args.debugger.now.at c.args.address c.loop-place.place c.args.count c.args.reply.now c.loop-place.reply (so.put s h)
          (seen s c.args.debugger.now c.loop-place.debugger None (c.args.address + c.loop-place.place) so.same c.in-None.ensures.byte h) within).1;
      bound = omega (arith, so.len);
      same = c.byte_after.ensures.same ∙ so.same;
    }

pub returns : goal.returns
returns g c =
    let so = c.loop-place.invariant in
    let all : c.loop-place.place ≡ c.args.count = omega (arith, c.loop-place-test.false) in
    record {
      text = λ s h. (putting_done s c.args.debugger.now.at c.args.address c.loop-place.place c.args.count c.args.reply.now c.loop-place.reply (so.put s h) all).0;
      count = λ s h. (putting_done s c.args.debugger.now.at c.args.address c.loop-place.place c.args.count c.args.reply.now c.loop-place.reply (so.put s h) all).1;
      bound = omega (arith, so.len, all);
      same = so.same;
    }
