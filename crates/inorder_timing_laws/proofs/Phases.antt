-- The phases that are the monolithic machine's, seen from the in-order machine's timing side: the timer interrupt, Write,
-- Memory and the try of fetch.
use Rattle.std.proofs.Common.{◌≡◌, ℕ, suc, ◌+◌, ◌==◌, ◌&&◌, nat_le, nat_lt, Bool, if◌then◌else◌, Option, List, [], ◌∷◌, ◌++◌, refl, ap, sym, ◌∙◌, subst}
use Rattle.rollback_cmds.specs.declared.order.Order.{Order}
use Rattle.mono_model.specs.declared.setup.Setup.{Setup}
use Rattle.mono_model.specs.Path.{entry}
use Rattle.mono_model.specs.Window.{Record, is_done_stage}
use Rattle.mono_model.specs.Commit.{commits}
use Rattle.mono_model.specs.Demand.{Demand, demand_interrupt, demand_committed}
use Rattle.machine_laws.specs.Relation.{Related}
use Rattle.timing_side.specs.Timing.{Timing, Phase}
use Rattle.timing_side.specs.Interrupt.{timing_interrupt}
use Rattle.timing_side.specs.Commit as timing
use Rattle.timing_laws.specs.Seen.{slots_of, seen}
use Rattle.timing_laws.proofs.Entries.{IsPhase}
use Rattle.timing_laws.proofs.Interrupt.{interrupt_seen}
use Rattle.timing_laws.proofs.Commit.{commits_phase_seen}
use Rattle.timing_laws.proofs.Issue.{done_same}
use Rattle.timing_laws.proofs.Fetch.{waits_same}
use Rattle.inorder_machine.specs.InorderMachine as inorder
use Rattle.inorder_machine.specs.InorderMachine.{memory_count, memory_behind}
use Rattle.inorder_machine.specs.Write as write
use Rattle.inorder_machine.specs.Write.{inorder_commit}
use Rattle.inorder_machine.specs.Memory.{went_on}
use Rattle.inorder_machine.specs.Fetch.{inorder_may_fetch}
use Rattle.inorder_machine.specs.Demand.{inorder_in}
use Rattle.inorder_side.specs.Timing as held
use Rattle.inorder_side.specs.Timing.{InorderPhase, flushing, keeping}
use Rattle.inorder_side.specs.Phases.{write_width, timing_inorder_interrupt, timing_inorder_write, timing_inorder_memory}
use Rattle.inorder_side.specs.Issue.{timing_inorder_may_fetch}
use Rattle.inorder_timing_laws.specs.Seen.{inorder_held}

-- A phase of the timing side is that of the demand run, with Memory behind it.
pub record IsInorderPhase (s : Setup) (before behind : Demand) (memory : Option ℕ) (p : InorderPhase) : Type 0 where
  pub inorder : p.inorder ≡ inorder_held s behind memory
  pub orders : p.orders ++ before.orders ≡ behind.orders

pub kept_phase : (s : Setup) (d behind : Demand) (memory : Option ℕ) (p : Phase) → IsPhase s d behind p → IsInorderPhase s d behind memory (keeping p memory)
kept_phase s d behind memory p is = record { inorder = λ i. record { timing = is.timing i; memory = memory }; orders = is.orders }

-- Memory is empty where nothing is under way
behind_same : (s : Setup) (os : List Order) (n : ℕ) (window : List Record) (memory : Option ℕ) → memory_behind (slots_of (entry s os) n window) memory ≡ memory_behind window memory
behind_same s os n [] memory = refl
behind_same s os n (rec ∷ rest) memory = refl

seen_behind : (s : Setup) (d : Demand) (memory : Option ℕ) → memory_behind (seen s d).slots memory ≡ memory_behind d.machine.window memory
unfolding seen
seen_behind s d memory = behind_same s d.orders d.to_commit d.machine.window memory

pub flushed_phase : (s : Setup) (d behind : Demand) (memory : Option ℕ) (p : Phase) → IsPhase s d behind p →
    IsInorderPhase s d behind (memory_behind behind.machine.window memory) (flushing p memory)
flushed_phase s d behind memory p is =
    let e : memory_behind p.timing.slots memory ≡ memory_behind behind.machine.window memory =
    ap (λ (t : Timing). memory_behind t.slots memory) is.timing ∙ seen_behind s behind memory in
    record { inorder = λ i. record { timing = is.timing i; memory = e i }; orders = is.orders }

-- the timer interrupt
pub inorder_interrupt_seen : (s : Setup) (d : Demand) (memory : Option ℕ) →
    IsInorderPhase s d (demand_interrupt d) (memory_behind (demand_interrupt d).machine.window memory) (timing_inorder_interrupt (inorder_held s d memory))
unfolding timing_inorder_interrupt
inorder_interrupt_seen s d memory = flushed_phase s d (demand_interrupt d) memory (timing_interrupt (seen s d)) (interrupt_seen s d)

-- Write: as many slots are done as records
pub done_count_same : (s : Setup) (os : List Order) (n : ℕ) (window : List Record) → held.done_count (slots_of (entry s os) n window) ≡ inorder.done_count window
done_count_same s os n [] = refl
done_count_same s os n (rec ∷ rest) =
    ap (λ (b : Bool). (if b then 1 else 0) + held.done_count (slots_of (entry s os) (suc n) rest)) (done_same rec.stage)
    ∙ ap (λ (k : ℕ). (if is_done_stage rec.stage then 1 else 0) + k) (done_count_same s os (suc n) rest)

width_same : (s : Setup) (d : Demand) (memory : Option ℕ) → write_width (inorder_held s d memory) ≡ write.write_width (inorder_in d memory)
unfolding seen
width_same s d memory = ap (λ (k : ℕ). if nat_lt (memory_count memory) k then 1 else 0) (done_count_same s d.orders d.to_commit d.machine.window)

pub inorder_write_seen : (s : Setup) (d : Demand) (memory : Option ℕ) → Related s d →
    (let behind = demand_committed (inorder_commit s (inorder_in d memory)) d in
    IsInorderPhase s d behind (memory_behind behind.machine.window memory) (timing_inorder_write s (inorder_held s d memory)))
unfolding timing_inorder_write inorder_commit
inorder_write_seen s d memory related =
    let most : ℕ = write.write_width (inorder_in d memory) in
    let behind : Demand = demand_committed (commits s most 0 d.machine) d in
    let P : ℕ → Type 0 = λ k. IsInorderPhase s d behind (memory_behind behind.machine.window memory) (flushing (timing.committed_phase (timing.commits s k 0 (seen s d))) memory) in
    subst P (sym (width_same s d memory))
    (flushed_phase s d behind memory (timing.committed_phase (timing.commits s most 0 (seen s d))) (commits_phase_seen s most d related))

-- Memory
pub inorder_memory_seen : (s : Setup) (d : Demand) (memory : Option ℕ) → timing_inorder_memory (inorder_held s d memory) ≡ inorder_held s d (went_on d.machine.cycle memory)
unfolding timing_inorder_memory seen
inorder_memory_seen s d memory = refl

-- whether fetch may try
pub inorder_may_fetch_same : (s : Setup) (d : Demand) → timing_inorder_may_fetch (seen s d) ≡ inorder_may_fetch d.machine
unfolding seen timing_inorder_may_fetch inorder_may_fetch
inorder_may_fetch_same s d = ap (λ (k : ℕ). nat_le d.machine.resume d.machine.cycle && k == 0) (waits_same s d.orders d.to_commit d.machine.window)
