-- What an instruction did to memory, devices, and control and status registers is taken back.
use Rattle.std.proofs.Common.{◌≡◌, ℕ, Bool, true, false, if◌then◌else◌, nat_le, length, None, ap, sym, ◌∙◌}
use Rattle.fsim_base.specs.declared.access.RamRange.{RamRange}
use Rattle.device_bus.specs.declared.undo.Note.{Note}
use Rattle.device_bus.specs.declared.undo.Note.TheVariants as note
use Rattle.undo_journal.specs.declared.past.Change.{Change}
use Rattle.undo_journal.specs.declared.past.Change.TheVariants.{Nothing, Memory, Device, Trap, Csr}
use Rattle.machine_csr.specs.declared.csrs.Csrs.{Csrs}
use Rattle.undo_journal.specs.declared.past.OldCsr.{OldCsr}
use Rattle.undo_journal.specs.declared.past.OldCsr.TheVariants.{Flags, Mtvec, Mscratch, Mepc, Mcause, Mtval}
use Rattle.mono_model.specs.Arch.{Arch, trapped}
use Rattle.mono_model.specs.Effect.{counted, with_note}
use Rattle.func_model.specs.declared.performed.Performed.{Performed}
use Rattle.func_model.specs.declared.performed.Stepped.{Stepped}
use Rattle.func_model.specs.declared.performed.Stepped.TheVariants as code
use Rattle.func_model.specs.Steps.{finished, stepped_by, concluded}
use Rattle.func_model.specs.Undo.{memory_back, devices_back, trap_before, trap_back, csr_back, csrs_back, uncounted, is_executed, IsRestorableChange, IsOfLoad, TakesBack}
use Rattle.func_model.proofs.Undone.{counted_back}

-- the count of retired instructions is none of what is put back
uncounted_later : (was : OldCsr) (written : Csrs) → uncounted (csr_back was (counted written)) ≡ csr_back was written
uncounted_later (Flags mie mpie mtie) written = counted_back (csr_back (Flags mie mpie mtie) written)
uncounted_later (Mtvec old) written = counted_back (csr_back (Mtvec old) written)
uncounted_later (Mscratch old) written = counted_back (csr_back (Mscratch old) written)
uncounted_later (Mepc old) written = counted_back (csr_back (Mepc old) written)
uncounted_later (Mcause old) written = counted_back (csr_back (Mcause old) written)
uncounted_later (Mtval old) written = counted_back (csr_back (Mtval old) written)

-- an instruction that changed nothing but a register
pub plain_back : (range : RamRange) (done : Performed) (a b : Arch) → done.change ≡ Nothing → b.ram ≡ a.ram → b.devices ≡ a.devices → b.csrs ≡ counted a.csrs → TakesBack range done a b
plain_back range done a b is memory devices counts = rw is record {
  memory = memory;
  devices = devices;
  csrs = λ executed. ap uncounted counts ∙ counted_back a.csrs;
  exists = tt;
}

-- a trap
pub trap_taken_back : (range : RamRange) (done : Performed) (cause mtval addr : ℕ) (a b : Arch) → done.change ≡ Trap (trap_before a.csrs) → b ≡ trapped cause mtval addr a → TakesBack range done a b
unfolding trapped
trap_taken_back range done cause mtval addr a b is made = rw is record {
  memory = ap (λ (x : Arch). x.ram) made;
  devices = ap (λ (x : Arch). x.devices) made;
  csrs = λ executed. ap (λ (x : Arch). trap_back (trap_before a.csrs) x.csrs) made;
  exists = tt;
}

-- an instruction for control and status registers, which wrote them and was counted
pub csr_taken_back : (range : RamRange) (was : OldCsr) (written : Csrs) (done : Performed) (a b : Arch) → done.change ≡ Csr was → b.ram ≡ a.ram → b.devices ≡ a.devices → b.csrs ≡ counted written →
    csr_back was written ≡ a.csrs → TakesBack range done a b
csr_taken_back range was written done a b is memory devices counts back = rw is record {
  memory = memory;
  devices = devices;
  csrs = λ executed. ap (λ (x : Csrs). uncounted (csr_back was x)) counts ∙ uncounted_later was written ∙ back;
  exists = tt;
}

-- a load
pub load_back : (range : RamRange) (change : Change) (done : Performed) (a b : Arch) → done.change ≡ change → IsOfLoad change → b.ram ≡ a.ram → devices_back change b.devices ≡ a.devices →
    b.csrs ≡ counted a.csrs → IsRestorableChange change → TakesBack range done a b
load_back range Nothing done a b is of_load memory devices counts exists = plain_back range done a b is memory devices counts
load_back range (Device device undo) done a b is of_load memory devices counts exists = rw is record {
  memory = memory;
  devices = devices;
  csrs = λ executed. ap uncounted counts ∙ counted_back a.csrs;
  exists = exists;
}
load_back range (Memory addr width old) done a b is of_load memory devices counts exists = absurd of_load
load_back range (Trap was) done a b is of_load memory devices counts exists = absurd of_load
load_back range (Csr was) done a b is of_load memory devices counts exists = absurd of_load

-- a store to RAM
pub stored_back : (range : RamRange) (change : Change) (done : Performed) (a b : Arch) → done.change ≡ change → memory_back range change b.ram ≡ a.ram → devices_back change b.devices ≡ a.devices →
    csrs_back change b.csrs ≡ uncounted b.csrs → b.csrs ≡ counted a.csrs → IsRestorableChange change → TakesBack range done a b
stored_back range change done a b is memory devices alike counts exists = rw is record {
  memory = memory;
  devices = devices;
  csrs = λ executed. alike ∙ ap uncounted counts ∙ counted_back a.csrs;
  exists = exists;
}

-- the count behind a store to a device that was executed
by_room : (full : Bool) (next byte : ℕ) (a : Arch) → is_executed (if full then code.Full else code.On) ≡ true →
    uncounted (if full then a else record (finished None 0 next a) { output = with_note (note.Out byte) a.output }).csrs ≡ a.csrs
by_room true next byte a executed = cc
by_room false next byte a executed = counted_back a.csrs

pub concluded_back : (limit next : ℕ) (what : Note) (stepped : Stepped) (a b : Arch) → stepped ≡ stepped_by limit a.output what → b ≡ concluded limit what next a →
    is_executed stepped ≡ true → uncounted b.csrs ≡ a.csrs
concluded_back limit next note.Nothing stepped a b is made executed = ap (λ (x : Arch). uncounted x.csrs) made ∙ counted_back a.csrs
concluded_back limit next (note.Out byte) stepped a b is made executed =
    ap (λ (x : Arch). uncounted x.csrs) made ∙ by_room (nat_le limit (length a.output)) next byte a (ap is_executed (sym is) ∙ executed)
concluded_back limit next (note.End halt) stepped a b is made executed = ap (λ (x : Arch). uncounted x.csrs) made ∙ counted_back a.csrs
