-- No event lowers the number of the first instruction that isn't committed.
use Rattle.std.proofs.Common.{◌≡◌, ◌≤◌, refl, sym, subst}
use Rattle.std.proofs.lemmas.Bool.{cond_both, cond-true, cond-false}
use Rattle.mono_model.specs.declared.setup.Setup.{Setup}
use Rattle.mono_model.specs.Demand.{Place}
use Rattle.mono_model.specs.Split.{Split, Event, compute, push, obey, tick, take, send, may_tick, ticked_to, event_at}
use Rattle.machine_laws.proofs.SplitEvents.{tick_to, event_to}
use Rattle.machine_laws.proofs.SplitRising.{rises_to}
use Rattle.inorder_machine.specs.Demand.{inorder_step, seen_of}
use Rattle.inorder_machine.specs.Split.{InorderSplit, inorder_ticked_to, inorder_event_at}
use Rattle.inorder_laws.specs.SplitLaw.{IsInorderReached}
use Rattle.inorder_laws.proofs.SplitRun.{reached_inorder_run}

-- the split state sees an event that leads to the next place
pub event_split : (s : Setup) (e : Event) (x : InorderSplit) → (inorder_event_at s e x).split ≡ event_to s (seen_of (inorder_step s x.place)) e x.split
unfolding inorder_event_at event_at event_to
event_split s compute x = refl
event_split s push x = refl
event_split s obey x = refl
event_split s tick x =
    let q : Place = seen_of (inorder_step s x.place) in
    cond_both (may_tick x.split) (inorder_ticked_to (inorder_step s x.place) x) x (λ y. y.split ≡ tick_to q x.split)
    (λ may. sym (cond-true (may_tick x.split) (ticked_to q x.split) x.split may)) (λ not. sym (cond-false (may_tick x.split) (ticked_to q x.split) x.split not))
event_split s take x = refl
event_split s send x = refl

pub inorder_event_rises : (s : Setup) (e : Event) (x : InorderSplit) → 4 ≤ s.params.core_window → IsInorderReached s x →
    x.split.committed_number ≤ (inorder_event_at s e x).split.committed_number
inorder_event_rises s e x room reached =
    subst (λ (y : Split). x.split.committed_number ≤ y.committed_number) (sym (event_split s e x))
    (rises_to s (seen_of (inorder_step s x.place)) e x.split (λ o os is. ((reached_inorder_run s x room reached).law.obeys o os is).least))
