use Rattle.std.proofs.Common.{◌≡◌, min, take, sym, ap, ◌∙◌}
use Rattle.circular_buffer.specs.Buffer.{Buffer}
use Rattle.load_store_queue.specs.declared.queued.Queued.{Queued}
use Rattle.load_store_queue.specs.Queue.{Contents, below_number}
use Rattle.load_store_queue.proofs.Rising.{count_below, take_below, below_rises}
use Rattle.load_store_queue.proofs.Settled.{row_of_first}
use Rattle.load_store_queue.proofs.queue.StoreQueue.cut_from.Goals as goal

-- what is kept are the stores below the number
pub invariant_of-self : goal.invariant_of-self
invariant_of-self c =
    let stores = c.self.inside.stores.items in
    let kept = c.count_below-kept.result in
    let same = ap (λ (q : Contents). q.stores) c.self.view_is in
    let count : kept ≡ count_below c.args.number stores = rw same c.count_below-kept.ensures.count in
    let below : take kept stores ≡ below_number c.args.number stores = rw count (take_below c.args.number stores c.self.invariant.rising) in
    rw c.truncate_back.ensures (record {
      room = c.self.invariant.room;
      rising = rw below (below_rises c.args.number stores c.self.invariant.rising);
      settled_is = c.min-self-inside.ensures ∙ ap (λ settled. min settled kept) c.self.invariant.settled_is ∙ sym (row_of_first kept stores);
    })

pub returns : goal.returns
returns c =
    let stores = c.self.inside.stores.items in
    let same = ap (λ (q : Contents). q.stores) c.self.view_is in
    let count : c.count_below-kept.result ≡ count_below c.args.number stores = rw same c.count_below-kept.ensures.count in
    let below : take c.count_below-kept.result stores ≡ below_number c.args.number stores = rw count (take_below c.args.number stores c.self.invariant.rising) in
    let left = ap (λ (ring : Buffer Queued). let queue : Contents = record { capacity = ring.capacity; stores = ring.items } in queue) c.truncate_back.ensures in
    record { kept = left ∙ (λ i. record { capacity = c.self.inside.stores.capacity; stores = below i }) ∙ λ i. record { capacity = (c.self.view_is i).capacity; stores = below_number c.args.number (c.self.view_is i).stores } }
