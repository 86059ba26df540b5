-- What is reported at a boundary.
use Rattle.std.proofs.lemmas.Bool.{and_parts}
use Rattle.std.proofs.Common.{◌≡◌, ◌≤◌, ◌==◌, ◌&&◌, is_none, ℕ, true, List, ◌∷◌, length, ap, sym, ◌∙◌, subst, arith}
use Rattle.rollback_cmds.specs.declared.order.Order.{Order}
use Rattle.rollback_cmds.specs.declared.order.Order.TheVariants.{Stop}
use Rattle.mono_model.specs.declared.setup.Setup.{Setup}
use Rattle.mono_model.specs.declared.final_state.End.{End}
use Rattle.mono_model.specs.declared.final_state.Stats.{Stats}
use Rattle.mono_model.specs.declared.final_state.Final.{Final}
use Rattle.mono_model.specs.Arch.{Arch}
use Rattle.mono_model.specs.Machine.{Machine, stats_of, machine_final}
use Rattle.mono_model.specs.Demand.{Place}
use Rattle.mono_model.specs.Path.{path}
use Rattle.mono_model.specs.Split.{is_boundary, is_place_boundary}
use Rattle.mono_model.proofs.Path.{path-stop}
use Rattle.machine_laws.specs.SplitLaw.{IsRunIn, IsLevelIn, IsRanged}
use Rattle.func_model.specs.declared.walk.Walk.{Walk}
use Rattle.func_model.specs.Contents.{ContentsStandFor}
use Rattle.func_model.specs.Side.{arch_in}
use Rattle.func_model.specs.Walk.{WalkStandsFor, IsObeyed}
use Rattle.side_laws.specs.Along.{MayObey}
use Rattle.side_laws.proofs.Reporting.{reports as machine_reported}
use Rattle.split_core.specs.declared.state.SplitState.{SplitState}
use Rattle.split_core.specs.Along.{At, IsReachedOn}
use Rattle.split_core.specs.Timed.{Timed, IsTimed}
use Rattle.split_core.specs.Standing.{StandsOn, IsStandingOn}
use Rattle.split_core.proofs.Standing.{sees, Agrees, agrees, position_small, epoch_small}

-- the functional side may be stopped at what is committed
pub can_stop : {D T : Type 0} (timed : Timed T) (laws : IsTimed timed) (state : SplitState D T) → IsStandingOn timed state → MayObey (Stop state.func.committed) state.func
can_stop timed laws state st =
    let run : IsRunIn st.setup (timed.run st.setup) st.split.split = laws.law st.setup st.split st.sound st.reached in
    let same : Agrees st.split state = agrees timed laws st.setup st.split state st.sound st.reached st.stands in
    let small : IsRanged st.split.split = laws.ranged st.setup st.split st.sound st.reached in
    let within : state.func.committed ≤ state.func.position = omega (arith, same.committed, st.stands.position, run.counted.least) in
    record {
      reach = λ stopped. within;
      from = omega arith;
      room = omega arith;
      number = omega (arith, same.committed, small.committed);
      position = position_small timed laws state st;
      epoch = epoch_small timed laws state st;
      within = tt;
    }

pub holds_committed : {D T : Type 0} (timed : Timed T) (laws : IsTimed timed) (s : Setup) (x : At) (state : SplitState D T) (func : Walk D) (n : ℕ) → timed.allows s → IsReachedOn s (timed.run s) x → StandsOn timed s x state → is_boundary x.split ≡ true → n ≡ state.func.committed →
    ((s : Setup) (os : List Order) → WalkStandsFor s os state.func → WalkStandsFor s (Stop n ∷ os) func) → IsObeyed (Stop n) state.func func →
    ContentsStandFor s ((timed.run s).machines x.split.place.run.demand.machine.cycle).arch func.contents
holds_committed {D} {T} timed laws s x state func n sound reached h at is stands moved =
    let level : IsLevelIn s (timed.run s) x.split = (laws.law s x sound reached).level at in
    let same : Agrees x state = agrees timed laws s x state sound reached h in
    let there : path s (Stop n ∷ x.split.obeyed) func.position ≡ ((timed.run s).machines x.split.place.run.demand.machine.cycle).arch =
    path-stop s n x.split.obeyed func.position ∙ ap (path s x.split.obeyed) (moved.position ∙ is ∙ same.committed) ∙ level.state in
    let P : Arch → Type 0 = λ a. ContentsStandFor {D = D} s a func.contents in
    subst P there (stands s x.split.obeyed h.func).holds.contents

pub reports : {D T : Type 0} (timed : Timed T) (laws : IsTimed timed) (s : Setup) (x : At) (walk : Walk D) (end : End) (stats : Stats) → timed.allows s → IsReachedOn s (timed.run s) x →
    is_boundary x.split ≡ true → ContentsStandFor s ((timed.run s).machines x.split.place.run.demand.machine.cycle).arch walk.contents → length walk.contents.hart.regs ≡ 32 →
    end ≡ ((timed.run s).places x.steps).run.demand.machine.end → stats ≡ stats_of s ((timed.run s).places x.steps).run.demand.machine →
    (let it : Final = record { end = end; stats = stats; pc = (arch_in walk).pc; regs = (arch_in walk).regs; csrs = (arch_in walk).csrs; cmp = (arch_in walk).cmp } in it)
    ≡ machine_final s ((timed.run s).machines x.split.place.run.demand.machine.cycle)
reports timed laws s x walk end stats sound reached at holds whole end_is stats_is =
    let run : IsRunIn s (timed.run s) x.split = laws.law s x sound reached in
    let both = and_parts (is_place_boundary x.split.place && is_none x.split.hand) (length x.split.listed_orders == 0) at in
    let sides = and_parts (is_place_boundary x.split.place) (is_none x.split.hand) both.0 in
    let same : ((timed.run s).places x.steps).run.demand.machine ≡ (timed.run s).machines x.split.place.run.demand.machine.cycle =
    ap (λ (p : Place). p.run.demand.machine) (sym (sees timed laws s x reached)) ∙ (run.machine sides.0).machine in
    machine_reported s ((timed.run s).machines x.split.place.run.demand.machine.cycle) walk end stats holds whole
    (end_is ∙ ap (λ (n : Machine). n.end) same) (stats_is ∙ ap (stats_of s) same)
