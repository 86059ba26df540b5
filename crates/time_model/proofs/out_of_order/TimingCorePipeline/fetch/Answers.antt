use Rattle.std.proofs.Common.{◌≡◌, ◌-◌, not, if◌then◌else◌, Bool, true, Option, Some, None, refl, sym, ap, ◌∙◌, subst}
use Rattle.std.specs.Option.{is_some}
use Rattle.rollback_cmds.specs.declared.order.Order.{Order}
use Rattle.mono_model.specs.declared.setup.Setup.{Setup}
use Rattle.mono_model.specs.Demand.{ending}
use Rattle.timing_side.specs.Timing.{Timing}
use Rattle.timing_side.specs.Fetch.{timing_try}
use Rattle.timing_side.specs.Turn.{try_or_end}
use Rattle.timing_core.specs.declared.fetch.Tried.{Tried}
use Rattle.timing_core.specs.CoreStandsFor.{CoreStandsFor}
use Rattle.timing_core.specs.Orders.{newest_first}
use Rattle.timing_core.specs.Small.{IsSmall}
use Rattle.time_model.specs.declared.at.At.{At}
use Rattle.time_model.specs.declared.at.At.TheVariants.{Trying}
use Rattle.time_model.specs.At.{at_in}
use Rattle.time_model.specs.OutOfOrder.{core_piped}
use Rattle.time_model.specs.Piped.{IsFetched, IsGone}
use Rattle.time_model.proofs.Numbers.{try_has_room, try_follows}
use Rattle.time_model.proofs.Turns.{IsTried, fetched_by, gone_appended}
use Rattle.time_model.proofs.out_of_order.TimingCorePipeline.fetch.Goals as goal
use Rattle.time_model.proofs.out_of_order.TimingCorePipeline.fetch.Goals.{then-is_none+else-tries_again, else-is_none}

pub fetch-tried-requires-clause-room : goal.fetch-tried-requires-clause-room
fetch-tried-requires-clause-room c = try_has_room c.args.self.now c.args.next.now c.args.entry.now c.requires.tries

pub fetch-tried-requires-clause-next : goal.fetch-tried-requires-clause-next
fetch-tried-requires-clause-next c = try_follows c.args.self.now c.args.next.now c.args.entry.now c.requires.tries

-- the try, as one that made no order
abbrev untold : Tried → Tried
untold x = record x { orders = record { first = None; second = None } }

no_first : (o : Option Order) (b : Bool) → is_some o ≡ not b → b ≡ true → o ≡ None
no_first None b is none = refl
no_first (Some o) b is none = cc

pub returns-then-tries_again-clause-gone : goal.returns-then-tries_again-clause-gone
returns-then-tries_again-clause-gone c =
    let x = c.fetch-tried.result in
    let none : x.orders.first ≡ None = no_first x.orders.first c.is_none.result c.is_none.ensures c.if-is_none.true in
    let appended = gone_appended c.args.self.now c.args.next.now c.args.entry.now x c.requires.tries c.fetch-tried.ensures.goes_on c.fetch-tried.ensures.appended (c.if-tries_again.ensures.goes refl) in
    let tried : (s : Setup) (t : Timing) → CoreStandsFor s t c.args.self.now → IsSmall t → IsTried s t c.in-Trying.allowed c.args.entry.now (untold x) c.fetch-tried.new.self (Trying (c.in-Trying.allowed - 1)) =
    λ s t h small. let kept = c.fetch-tried.ensures.kept s t h small in record {
      core = kept;
      orders = sym (ap (λ (o : Option Order). newest_first o x.orders.second) none) ∙ c.fetch-tried.ensures.orders s t h small;
      goes_on = c.fetch-tried.ensures.goes_on s t h small;
      appended = c.fetch-tried.ensures.appended s t h small;
      at = c.if-tries_again.ensures.again refl s (timing_try s c.args.entry.now t).phase.timing kept;
    } in
    subst (λ (at : At). IsGone core_piped c.args.entry.now c.args.self.now at c.fetch-tried.new.self (Trying (c.in-Trying.allowed - 1))) (sym c.in-Trying.is)
    (record {
      fetched = fetched_by c.args.self.now c.fetch-tried.new.self c.in-Trying.allowed (Trying (c.in-Trying.allowed - 1)) c.args.entry.now (untold x) tried
          (record { orders = record { first = None; second = None }; appended = true }) refl appended;
      tries = refl;
    })

next_at : (c : goal.After-result-1) (s : Setup) (t : Timing) → CoreStandsFor s t c.fetch-tried.new.self →
    at_in c.if-is_none.next ≡ (if c.fetch-tried.result.goes_on then try_or_end s c.in-Trying.allowed t else ending)
next_at c s t kept = elim c.if-is_none.branch [
  | then-is_none+else-tries_again w ↦ ap at_in w.next-is ∙ w.if-tries_again.ensures.ends refl s t kept
  | else-is_none w ↦ ap at_in w.next-is ∙ w.at_after_try.ensures.at s t kept
]

pub returns-clause-fetched : goal.returns-clause-fetched
returns-clause-fetched c =
    let x = c.fetch-tried.result in
    let tried : (s : Setup) (t : Timing) → CoreStandsFor s t c.args.self.now → IsSmall t → IsTried s t c.in-Trying.allowed c.args.entry.now x c.fetch-tried.new.self c.if-is_none.next =
    λ s t h small. let kept = c.fetch-tried.ensures.kept s t h small in record {
      core = kept;
      orders = c.fetch-tried.ensures.orders s t h small;
      goes_on = c.fetch-tried.ensures.goes_on s t h small;
      appended = c.fetch-tried.ensures.appended s t h small;
      at = next_at c s (timing_try s c.args.entry.now t).phase.timing kept;
    } in
    subst (λ (at : At). IsFetched core_piped c.args.entry.now c.args.self.now at c.fetch-tried.new.self c.if-is_none.next (record { orders = x.orders; appended = x.appended })) (sym c.in-Trying.is)
    (fetched_by c.args.self.now c.fetch-tried.new.self c.in-Trying.allowed c.if-is_none.next c.args.entry.now x tried (record { orders = x.orders; appended = x.appended }) refl refl)
