-- What the functional side of a session has committed stays, whatever orders it obeys after that.
use Rattle.std.proofs.Common.{◌≡◌, List, [], ◌++◌, sym, subst, append_assoc}
use Rattle.rollback_cmds.specs.declared.order.Order.{Order}
use Rattle.mono_model.specs.declared.setup.Setup.{Setup}
use Rattle.machine_laws.specs.Stays.{KeepsAt}
use Rattle.side_laws.specs.Along.{IsAlong}
use Rattle.side_laws.proofs.Staying.{along_rises, along_below, along_at}
use Rattle.fast_threads.specs.Workers.{HasObeyed, HasGoneOn}
use Rattle.fast_threads.specs.Session.{SessionAt, Keeps}

-- it goes on from the orders that it has obeyed
abbrev GoesOnTo : {D : Type 0} → SessionAt D → SessionAt D → Type 0
GoesOnTo old new =
    (os : List Order) → HasGoneOn old.setup old.obeyed old.func os → HasGoneOn new.setup new.obeyed new.func os

module _ {D : Type 0} (old new : SessionAt D) where
  pub keeps : new.setup ≡ old.setup → GoesOnTo old new → Keeps old new
  keeps same on orders obeyed =
      let s : Setup = old.setup in
      let since : HasGoneOn new.setup new.obeyed new.func orders = on orders (record { later = []; obeyed = obeyed }) in
      let along : IsAlong s (since.later ++ orders) new.func = subst (λ (x : Setup). IsAlong x (since.later ++ orders) new.func) same since.obeyed.along in
      record {
        later = since.later;
        obeyed = since.obeyed;
        number = along_rises s orders since.later old.func new.func obeyed.along along;
        below = along_below s orders since.later old.func new.func obeyed.along along;
        at = λ k all is.
            subst (λ (os : List Order). KeepsAt s old.func.committed os since.later) is
            (along_at s k since.later old.func new.func all
            (subst (λ (os : List Order). IsAlong s os old.func) (sym is) obeyed.along)
            (subst (λ (os : List Order). IsAlong s (since.later ++ os) new.func) (sym is) along));
      }

  pub kept_goes_on : Keeps old new → GoesOnTo old new
  kept_goes_on kept os on =
      let held = kept (on.later ++ os) on.obeyed in
      record {
        later = held.later ++ on.later;
        obeyed = subst (λ (l : List Order). HasObeyed new.setup new.obeyed new.func l) (sym (append_assoc held.later on.later os)) held.obeyed;
      }
