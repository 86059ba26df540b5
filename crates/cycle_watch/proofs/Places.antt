-- What the timing side of each machine shows, where it stands at a place of the run and all is told, is what is seen there.
use Rattle.std.proofs.Common.{◌≡◌, ◌∙◌, ℕ, Bool, true, false, is_some, Option, Some, None, refl, sym, ap}
use Rattle.std.specs.Prelude.{IfSome}
use Rattle.trace_entry.specs.declared.Entry.{Entry}
use Rattle.mono_model.specs.declared.setup.Setup.{Setup}
use Rattle.mono_model.specs.Machine.{Machine}
use Rattle.mono_model.specs.Demand.{Demand, needed_entry, place}
use Rattle.machine_laws.proofs.Places.{place_related}
use Rattle.inorder_machine.specs.Demand.{inorder_place, seen as seen_place}
use Rattle.inorder_laws.proofs.Places.{place_related as inorder_related}
use Rattle.timing_laws.specs.Seen.{seen}
use Rattle.timing_laws.proofs.Fetch.{fetch_stands}
use Rattle.timing_core.specs.declared.state.TimingCore.{TimingCore}
use Rattle.timing_core.specs.CoreStandsFor.{CoreStandsFor}
use Rattle.time_model.specs.Missing.{HoldsPaid, missing_in}
use Rattle.time_model.specs.OutOfOrder.{TimeSideStandsFor, TimeState, core_piped}
use Rattle.time_model.specs.Standing.{SideStandsFor}
use Rattle.inorder_model.specs.Standing.{InorderState, inorder_piped}
use Rattle.insight_model.specs.OfState.{inorder_sight, missing_of, sight}
use Rattle.cycle_watch.specs.SeenIn.{core_sight, inorder_side_sight, inorder_slots_shown, time_sight}
use Rattle.cycle_watch.proofs.Sights.{core_shows, inorder_shows}

-- the address whose miss was counted
abbrev missing_at : Machine → Bool → Option ℕ
missing_at m paid = elim paid [ true ↦ Some m.fetch_addr | false ↦ None ]

missing_is : (m : Machine) (paid : Bool) (held : Option Entry) → paid ≡ m.paid → (paid ≡ true → is_some held ≡ true) → IfSome held (λ e. e.addr ≡ m.fetch_addr) →
    missing_in paid held ≡ missing_of m
missing_is m false held is some there = ap (missing_at m) is
missing_is m true None is some there = let e : false ≡ true = some refl in cc
missing_is m true (Some e) is some there = ap Some there ∙ ap (missing_at m) is

addr_of : (held : Option Entry) (needed : Entry) (addr : ℕ) → needed.addr ≡ addr → IfSome held (λ e. e ≡ needed) → IfSome held (λ e. e.addr ≡ addr)
addr_of None needed addr is there = tt
addr_of (Some e) needed addr is there = ap (λ (x : Entry). x.addr) there ∙ is

pub paid_is : (s : Setup) (d : Demand) (core : TimingCore) → CoreStandsFor s (seen s d) core → core.paid ≡ d.machine.paid
unfolding seen
paid_is s d core h = h.paid

pub time_shows : (s : Setup) (k : ℕ) (side : TimeState) → TimeSideStandsFor s k side → (place s k).owed ≡ 0 → HoldsPaid core_piped side → time_sight side ≡ sight (place s k).run.demand.machine
time_shows s k side h told holds =
    let d = (place s k).run.demand in
    core_shows s d side.pipeline side.telling.held (place_related s k) h.pipeline.core
    (missing_is d.machine side.pipeline.paid side.telling.held (paid_is s d side.pipeline h.pipeline.core) holds
    (addr_of side.telling.held (needed_entry s (place s k)) d.machine.fetch_addr (fetch_stands s d (place_related s k)) (h.held told)))

pub inorder_side_shows : (s : Setup) (k : ℕ) (side : InorderState) → SideStandsFor inorder_piped s k side → (seen_place s k).owed ≡ 0 → HoldsPaid inorder_piped side →
    inorder_side_sight side ≡ inorder_sight (record { machine = (inorder_place s k).run.demand.machine; memory = (inorder_place s k).run.memory })
inorder_side_shows s k side h told holds =
    let d = (inorder_place s k).run.demand in
    let core = side.pipeline.core in
    let inorder = h.pipeline.inorder in
    ap (λ (m : Option ℕ). core_sight (inorder_slots_shown m core.flight.slots) side.telling.held core) inorder.memory
    ∙ inorder_shows s d (inorder_place s k).run.memory core side.telling.held (inorder_related s k) inorder.core
    (missing_is d.machine core.paid side.telling.held (paid_is s d core inorder.core) holds
    (addr_of side.telling.held (needed_entry s (seen_place s k)) d.machine.fetch_addr (fetch_stands s d (inorder_related s k)) (h.held told)))
