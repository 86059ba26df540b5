use Rattle.std.proofs.Common.{◌≡◌, ℕ, true, unwrap_or, Option, Some, None, refl, ap, sym, ◌∙◌, subst}
use Rattle.rollback_cmds.specs.declared.order.Order.{Order}
use Rattle.mono_model.specs.declared.setup.Setup.{Setup}
use Rattle.timing_core.specs.declared.orders.Orders.{Orders}
use Rattle.time_model.specs.declared.turn.Turn.{Turn}
use Rattle.time_model.specs.declared.turn.Turn.TheVariants.{Moved, Ordered}
use Rattle.time_model.specs.Turns.{turn_told}
use Rattle.time_model.specs.Running.{Steps}
use Rattle.time_model.specs.Standing.{SideStandsFor, wants_in}
use Rattle.time_model.specs.Turning.{IsTold}
use Rattle.time_model.specs.Feeding.{holding}
use Rattle.time_model.proofs.Sides.{due_told, stands_after}
use Rattle.time_model.proofs.Striding.{nothing_told}
use Rattle.time_model.proofs.Feeding.{wanting, wants_by, holding_free, holding_goes, try_untold, run_once, run_wants}
use Rattle.time_model.proofs.state.TimingState.feed.Given as given
use Rattle.time_model.proofs.state.TimingState.feed.Goals as goal
use Rattle.time_model.proofs.state.TimingState.feed.Goals.{After-attempt_at_once, After-tell, In_default}

abbrev no_orders : Orders
no_orders = record { first = None; second = None }

told_all : (g : given.Over) (c : After-attempt_at_once g) → c.attempt_at_once.new.self.telling.owed ≡ None
told_all g c = ap (λ side. side.telling.owed) c.attempt_at_once.ensures.others ∙ (wanting g.P.Pipeline.piped g.met.P.Pipeline.laws c.args.self.now c.requires.wants).told

-- the orders that stand to be told
due_of : (g : given.Over) (c : After-attempt_at_once g) (made : Option Orders) → c.attempt_at_once.result ≡ made → (s : Setup) (k : ℕ) → g.P.Pipeline.piped.allows s →
    SideStandsFor g.P.Pipeline.piped s k (holding c.args.entry.now c.args.self.now) →
    IsTold g.P.Pipeline.piped s k (holding c.args.entry.now c.args.self.now) c.attempt_at_once.new.self (unwrap_or made no_orders)
due_of g c made is = λ s k allowed h.
    subst (λ (o : Option Orders). IsTold g.P.Pipeline.piped s k (holding c.args.entry.now c.args.self.now) c.attempt_at_once.new.self (unwrap_or o no_orders)) is (c.attempt_at_once.ensures.due s k allowed h)

same_epoch : (g : given.Over) (c : After-attempt_at_once g) → c.attempt_at_once.new.self.telling.epoch ≡ c.args.self.now.telling.epoch
same_epoch g c = ap (λ side. side.telling.epoch) c.attempt_at_once.ensures.others

-- where the next try comes after it, that wants an entry
again : (g : given.Over) (c : In_default g) → Steps g.P.Pipeline.piped (holding c.args.entry.now c.args.self.now) c.attempt_at_once.new.self Moved
again g c =
    let a = (goal.at.In_default g c).After-attempt_at_once in
    let e = c.args.entry.now in
    let mid = c.attempt_at_once.new.self in
    let w = wanting g.P.Pipeline.piped g.met.P.Pipeline.laws c.args.self.now c.requires.wants in
    subst (λ (t : Turn). Steps g.P.Pipeline.piped (holding e c.args.self.now) mid t) (try_untold (g.P.Pipeline.piped.seen c.args.self.now.at) w.try)
    (due_told g.P.Pipeline.piped g.met.P.Pipeline.laws (holding e c.args.self.now) mid no_orders None mid.telling (holding_free g.P.Pipeline.piped g.met.P.Pipeline.laws e c.args.self.now) (holding_goes g.P.Pipeline.piped g.met.P.Pipeline.laws e c.args.self.now w.try)
    (due_of g a None c.in_default.is) (same_epoch g a) refl (nothing_told mid.telling no_orders (told_all g a) refl))

wants_again : (g : given.Over) (c : In_default g) → wants_in g.P.Pipeline.piped c.attempt_at_once.new.self ≡ true
wants_again g c =
    wants_by g.P.Pipeline.piped g.met.P.Pipeline.laws c.attempt_at_once.new.self (told_all g (goal.at.In_default g c).After-attempt_at_once) c.in_default.ensures.again c.in_default.ensures.free

pub returns-in_default-clause-made : goal.returns-in_default-clause-made
returns-in_default-clause-made g c =
    let d = (goal.at.returns-in_default-clause-made g c).In_default in
    let w = wanting g.P.Pipeline.piped g.met.P.Pipeline.laws c.args.self.now c.requires.wants in
    run_wants g.P.Pipeline.piped g.met.P.Pipeline.laws (holding c.args.entry.now c.args.self.now) c.attempt_at_once.new.self Moved w.try (again g d) refl (wants_again g d)

pub returns-in_default-clause-waiting : goal.returns-in_default-clause-waiting
returns-in_default-clause-waiting g c = λ is. wants_again g (goal.at.returns-in_default-clause-waiting g c).In_default

pub returns-in_default-clause-standing : goal.returns-in_default-clause-standing
returns-in_default-clause-standing g c =
    stands_after g.P.Pipeline.piped g.met.P.Pipeline.laws (holding c.args.entry.now c.args.self.now) c.attempt_at_once.new.self Moved c.requires.standing (again g (goal.at.returns-in_default-clause-standing g c).In_default)

pub tell-requires : goal.tell-requires
tell-requires g c = record { none = told_all g (goal.at.tell-requires g c).After-attempt_at_once }

-- the try that was made, by the order that was told
stepped : (g : given.Over) (c : After-tell g) (told : Option Order) → told ≡ c.in-Some.orders.first →
    Steps g.P.Pipeline.piped (holding c.args.entry.now c.args.self.now) (record c.attempt_at_once.new.self { telling = c.tell.new.self }) (turn_told told (g.P.Pipeline.piped.seen c.args.self.now.at))
stepped g c told first =
    let a = (goal.at.After-tell g c).After-attempt_at_once in
    let e = c.args.entry.now in
    let w = wanting g.P.Pipeline.piped g.met.P.Pipeline.laws c.args.self.now c.requires.wants in
    due_told g.P.Pipeline.piped g.met.P.Pipeline.laws (holding e c.args.self.now) c.attempt_at_once.new.self c.in-Some.orders told c.tell.new.self (holding_free g.P.Pipeline.piped g.met.P.Pipeline.laws e c.args.self.now) (holding_goes g.P.Pipeline.piped g.met.P.Pipeline.laws e c.args.self.now w.try)
    (due_of g a (Some c.in-Some.orders) c.in-Some.is) (same_epoch g a) first c.tell.ensures.behind

pub returns-in-Some-tell-clause-made : goal.returns-in-Some-tell-clause-made
returns-in-Some-tell-clause-made g c =
    run_once g.P.Pipeline.piped g.met.P.Pipeline.laws (holding c.args.entry.now c.args.self.now) (record c.attempt_at_once.new.self { telling = c.tell.new.self }) (Ordered c.in-Some-tell.order)
    (stepped g (goal.at.returns-in-Some-tell-clause-made g c).After-tell (Some c.in-Some-tell.order) (sym c.in-Some-tell.is ∙ c.tell.ensures.told))

pub returns-in-Some-tell-clause-standing : goal.returns-in-Some-tell-clause-standing
returns-in-Some-tell-clause-standing g c =
    stands_after g.P.Pipeline.piped g.met.P.Pipeline.laws (holding c.args.entry.now c.args.self.now) (record c.attempt_at_once.new.self { telling = c.tell.new.self }) (Ordered c.in-Some-tell.order) c.requires.standing
    (stepped g (goal.at.returns-in-Some-tell-clause-standing g c).After-tell (Some c.in-Some-tell.order) (sym c.in-Some-tell.is ∙ c.tell.ensures.told))

-- where none was told
moved : (g : given.Over) (c : After-tell g) → c.tell.result ≡ None →
    Steps g.P.Pipeline.piped (holding c.args.entry.now c.args.self.now) (record c.attempt_at_once.new.self { telling = c.tell.new.self }) Moved
moved g c none =
    let w = wanting g.P.Pipeline.piped g.met.P.Pipeline.laws c.args.self.now c.requires.wants in
    subst (λ (t : Turn). Steps g.P.Pipeline.piped (holding c.args.entry.now c.args.self.now) (record c.attempt_at_once.new.self { telling = c.tell.new.self }) t)
    (try_untold (g.P.Pipeline.piped.seen c.args.self.now.at) w.try) (stepped g c None (sym none ∙ c.tell.ensures.told))

pub returns-in-None-clause-made : goal.returns-in-None-clause-made
returns-in-None-clause-made g c =
    run_once g.P.Pipeline.piped g.met.P.Pipeline.laws (holding c.args.entry.now c.args.self.now) (record c.attempt_at_once.new.self { telling = c.tell.new.self }) Moved
    (moved g (goal.at.returns-in-None-clause-made g c).After-tell c.in-None.is)

pub returns-in-None-clause-standing : goal.returns-in-None-clause-standing
returns-in-None-clause-standing g c =
    stands_after g.P.Pipeline.piped g.met.P.Pipeline.laws (holding c.args.entry.now c.args.self.now) (record c.attempt_at_once.new.self { telling = c.tell.new.self }) Moved c.requires.standing
    (moved g (goal.at.returns-in-None-clause-standing g c).After-tell c.in-None.is)
