use Rattle.std.proofs.Common.{◌≡◌, ap, ◌∙◌, arith}
use Rattle.circular_buffer.specs.Buffer.{Buffer}
use Rattle.load_store_queue.specs.declared.queued.Queued.{Queued}
use Rattle.load_store_queue.specs.Queue.{Contents, marked}
use Rattle.load_store_queue.proofs.Rising.{count_below}
use Rattle.load_store_queue.proofs.Marked.{place_within, finish_marks, marked_rises, row_of_marked}
use Rattle.load_store_queue.proofs.queue.StoreQueue.done.Goals as goal

-- as many stores as are below the number stand before its store
pub finish-requires : goal.finish-requires
finish-requires c =
    let ring = c.self.inside.stores in
    let same = ap (λ (q : Contents). q.stores) c.self.view_is in
    let below : c.count_below-place.result ≡ count_below c.args.number ring.items = rw same c.count_below-place.ensures.count in
    record { within = rw below (place_within c.args.number ring.items c.self.invariant.rising (rw same c.requires.held)) }

-- what was done in a row still is
pub settled_from-self-inside-requires : goal.settled_from-self-inside-requires
settled_from-self-inside-requires c =
    let ring = c.self.inside.stores in
    let same = ap (λ (q : Contents). q.stores) c.self.view_is in
    let below : c.count_below-place.result ≡ count_below c.args.number ring.items = rw same c.count_below-place.ensures.count in
    let marks = finish_marks c.args.number c.count_below-place.result ring c.finish.new.stores below c.self.invariant.rising (rw same c.requires.held) c.finish.ensures.finished in
    record { known = rw marks (omega (arith, c.self.invariant.settled_is, row_of_marked c.args.number ring.items)) }

pub invariant_of-self : goal.invariant_of-self
invariant_of-self c =
    let ring = c.self.inside.stores in
    let same = ap (λ (q : Contents). q.stores) c.self.view_is in
    let below : c.count_below-place.result ≡ count_below c.args.number ring.items = rw same c.count_below-place.ensures.count in
    let marks = finish_marks c.args.number c.count_below-place.result ring c.finish.new.stores below c.self.invariant.rising (rw same c.requires.held) c.finish.ensures.finished in
    record {
      room = rw marks c.self.invariant.room;
      rising = rw marks (marked_rises c.args.number ring.items c.self.invariant.rising);
      settled_is = c.settled_from-self-inside.ensures.row;
    }

pub returns : goal.returns
returns c =
    let ring = c.self.inside.stores in
    let same = ap (λ (q : Contents). q.stores) c.self.view_is in
    let below : c.count_below-place.result ≡ count_below c.args.number ring.items = rw same c.count_below-place.ensures.count in
    let marks = finish_marks c.args.number c.count_below-place.result ring c.finish.new.stores below c.self.invariant.rising (rw same c.requires.held) c.finish.ensures.finished in
    let seen = ap (λ (buffer : Buffer Queued). let queue : Contents = record { capacity = buffer.capacity; stores = buffer.items } in queue) marks in
    record { marked = seen ∙ λ i. record { capacity = (c.self.view_is i).capacity; stores = marked c.args.number (c.self.view_is i).stores } }
