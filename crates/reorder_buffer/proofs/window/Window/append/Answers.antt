use Rattle.std.proofs.Common.{rules, ◌≡◌, ◌<◌, ◌+◌, inl, inr, ap, sym, refl, subst, ◌∙◌, IfSome}
use Rattle.reorder_buffer.specs.declared.held.Held.{Held}
use Rattle.reorder_buffer.specs.declared.slot.SlotState.TheVariants.{Waiting}
use Rattle.reorder_buffer.specs.Held.{slot_in}
use Rattle.reorder_buffer.specs.Window.{Contents, index_of, position_of, youngest}
use Rattle.reorder_buffer.proofs.Consecutive.{free_index}
use Rattle.reorder_buffer.proofs.Ring.{slots_of, appended, still_appended}
use Rattle.reorder_buffer.proofs.window.Window.append.Goals as goal
use Rattle.reorder_buffer.proofs.window.Window.append.Goals.{then-self-eq0, else-self-eq0}

pub invariant_of-self : goal.invariant_of-self
invariant_of-self c =
    let window = c.self.inside in
    let e = c.args.entry.now in
    let h : Held = record { entry = e; predicted = c.args.predicted; fetched = c.args.fetched; state = Waiting } in
    let position = c.position_in-position.result in
    let is : position ≡ position_of window.held.len e.number = search rules in
    let next : IfSome (youngest (slots_of window)) (λ last. e.number ≡ last.number + 1) =
    subst (λ (w : Contents). IfSome (youngest w.slots) (λ last. e.number ≡ last.number + 1)) (sym c.self.view_is) c.requires.next in
    let room : window.count < window.capacity = search rules in
    let below : position < window.held.len = search rules in
    let kept = c.self.invariant in
    rw c.put.ensures.put (elim c.if-self-eq0.branch [
      | then-self-eq0 w ↦ rw w.self-inside-is (still_appended window kept position position h room below (inl (search rules, is)) next is)
      | else-self-eq0 w ↦ rw w.self-inside-is (still_appended window kept position window.first h room (search rules) (inr (search rules, refl)) next is)
    ])

pub returns : goal.returns
returns c =
    let window = c.self.inside in
    let now = c.args.self.now in
    let e = c.args.entry.now in
    let h : Held = record { entry = e; predicted = c.args.predicted; fetched = c.args.fetched; state = Waiting } in
    let position = c.position_in-position.result in
    let is : position ≡ position_of window.held.len e.number = search rules in
    let next : IfSome (youngest (slots_of window)) (λ last. e.number ≡ last.number + 1) =
    subst (λ (w : Contents). IfSome (youngest w.slots) (λ last. e.number ≡ last.number + 1)) (sym c.self.view_is) c.requires.next in
    let room : window.count < window.held.len = search rules in
    let below : position < window.held.len = search rules in
    let kept = c.self.invariant in
    let same : slots_of window ≡ now.slots = ap (λ (w : Contents). w.slots) c.self.view_is in
    let free = free_index now.capacity now.slots (slot_in h) (rw same at kept.ring.consecutive) c.requires.next c.requires.room in
    let own : c.index_in-index.result ≡ index_of now.capacity e.number = rw (← c.self.view_is) c.index_in-index.ensures.index in
    record {
      appended = rw (← c.self.view_is, c.put.ensures.put) (elim c.if-self-eq0.branch [
        | then-self-eq0 w ↦ rw (w.self-inside-is, appended window kept position position h room below (inl (search rules, is)) next is) refl
        | else-self-eq0 w ↦ rw (w.self-inside-is, appended window kept position window.first h room (search rules) (inr (search rules, refl)) next is) refl
      ]);
      index = own;
      below = search rules;
      free = λ k d within taken. free k d within (taken ∙ own);
    }
