use Rattle.std.proofs.Common.{◌≡◌, true, false, [], ◌∷◌, refl, arith}
use Rattle.load_store_queue.specs.declared.queued.Queued.{Queued}
use Rattle.load_store_queue.proofs.tests.a_load_waits_for_the_oldest_store_that_is_not_done.Goals as goal

pub done-requires : goal.done-requires
done-requires g c =
    let store : Queued = record { number = 8; is_done = false } in
    let stores : c.put-3.new.self.stores ≡ record { number = 5; is_done = false } ∷ store ∷ record { number = 9; is_done = false } ∷ [] =
    rw (c.put-3.ensures.added, c.put-2.ensures.added, c.put.ensures.added, c.in_ok-queue.ensures.opening) refl
    in
    record { held = rw stores (1, store, omega arith, refl, refl) }

pub done-requires-2 : goal.done-requires-2
done-requires-2 g c =
    let store : Queued = record { number = 5; is_done = false } in
    let stores : c.done.new.self.stores ≡ store ∷ record { number = 8; is_done = true } ∷ record { number = 9; is_done = false } ∷ [] =
    rw (c.done.ensures.marked, c.put-3.ensures.added, c.put-2.ensures.added, c.put.ensures.added, c.in_ok-queue.ensures.opening) refl
    in
    record { held = rw stores (0, store, omega arith, refl, refl) }

pub done-requires-3 : goal.done-requires-3
done-requires-3 g c =
    let store : Queued = record { number = 9; is_done = false } in
    let stores : c.put-4.new.self.stores ≡ record { number = 8; is_done = true } ∷ store ∷ record { number = 11; is_done = false } ∷ [] =
    rw (c.put-4.ensures.added, c.pop.ensures.popped, c.done-2.ensures.marked, c.done.ensures.marked, c.put-3.ensures.added, c.put-2.ensures.added, c.put.ensures.added, c.in_ok-queue.ensures.opening) refl
    in
    record { held = rw stores (1, store, omega arith, refl, refl) }
