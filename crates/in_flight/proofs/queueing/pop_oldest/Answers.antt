use Rattle.std.proofs.Common.{◌≡◌, ◌∙◌, true, length, ap, sym, arith}
use Rattle.load_store_queue.specs.Queue.{Contents as Stores}
use Rattle.in_flight.specs.Step.{is_store}
use Rattle.in_flight.proofs.Stores.{leave_store}
use Rattle.in_flight.proofs.queueing.pop_oldest.Goals as goal

pub pop-requires : goal.pop-requires
pop-requires c =
    let does : is_store c.in-Some.slot ≡ true = sym c.is_store.ensures ∙ c.if-is_store.true in
    record {
      some = omega (
        arith,
        ap (λ (queue : Stores). length queue.stores) c.requires.queued,
        ap length (leave_store c.args.window.now.slots c.in-Some.slot (sym c.in-Some.ensures.oldest) does),
      );
    }
