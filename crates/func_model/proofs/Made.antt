-- The state behind a part of an instruction, put together from what the code's calls ensure.
use Rattle.std.proofs.Common.{◌≡◌, ℕ, Bool, Option, Some, None, refl, ap, sym, ◌∙◌}
use Rattle.fsim_base.specs.declared.access.Width.{Width}
use Rattle.fsim_base.specs.declared.access.RamRange.{RamRange}
use Rattle.fsim_base.specs.declared.access.Access.TheVariants as access
use Rattle.rv_exec.specs.Load.{loaded_value}
use Rattle.device_bus.specs.Bus.{Devices}
use Rattle.mono_model.specs.Arch.{Arch, trapped}
use Rattle.mono_model.specs.Effect.{with_access}
use Rattle.mono_model.specs.Result.{raw_at, spot_of, csr_value}
use Rattle.mono_model.specs.Sequence.{seen_in}
use Rattle.func_model.specs.declared.hart.Hart.{Hart}
use Rattle.func_model.specs.Hart.{arch_of}
use Rattle.fsim_base.specs.Number.{wrap_sum}
use Rattle.rv_decode.specs.declared.insn.Insn.{Insn}
use Rattle.rv_decode.specs.Class.{dest_of}
use Rattle.machine_csr.specs.declared.csrs.Csrs.{Csrs}
use Rattle.machine_csr.specs.declared.csrs.CsrWrite.{CsrWrite}
use Rattle.machine_csr.specs.Csr.{csr_written}
use Rattle.machine_csr.specs.Trap.{trap_left, return_address}
use Rattle.func_model.specs.Steps.{finished, read_devices, load_done, load_made, csr_made, mret_made}

-- a trap of a hart that is as it was
pub trap_made : (cause mtval : ℕ) (hart hart' : Hart) (d d' : Devices) (b : Arch) → hart' ≡ hart → d' ≡ d →
    b ≡ trapped cause mtval hart'.pc (arch_of hart' d') → b ≡ trapped cause mtval (arch_of hart d).pc (arch_of hart d)
unfolding arch_of
trap_made cause mtval hart hart' d d' b same alike made =
    made ∙ ap (λ h. trapped cause mtval h.pc (arch_of h d')) same ∙ ap (λ e. trapped cause mtval hart.pc (arch_of hart e)) alike

-- a load that can't be made
pub load_none : (range : RamRange) (destination : Option ℕ) (next addr : ℕ) (width : Width) (signed : Bool) (time : Option ℕ) (hart hart' : Hart) (d d' : Devices) (b : Arch) →
    None ≡ raw_at (seen_in time (arch_of hart d)) addr width (spot_of range addr width) → hart' ≡ hart → d' ≡ d →
    b ≡ trapped 5 addr hart'.pc (arch_of hart' d') → b ≡ load_made range destination next addr width signed time (arch_of hart d)
load_none range destination next addr width signed time hart hart' d d' b raw same alike made =
    trap_made 5 addr hart hart' d d' b same alike made ∙ ap (λ r. load_done range destination next addr width signed r (arch_of hart d)) raw

-- the devices behind a read
pub read_none : (range : RamRange) (addr : ℕ) (width : Width) (raw : Option ℕ) (d : Devices) → raw ≡ None → read_devices raw range addr width d ≡ d
read_none range addr width raw d none = rw none refl

pub read_some : (range : RamRange) (addr : ℕ) (width : Width) (given : ℕ) (raw : Option ℕ) (d : Devices) → raw ≡ Some given →
    read_devices raw range addr width d ≡ with_access (access.Load addr width (spot_of range addr width)) 0 d
read_some range addr width given raw d some = rw some refl

-- a register written behind a change of the devices
pub finished_devices : (destination : Option ℕ) (value next : ℕ) (hart : Hart) (d d' : Devices) →
    finished destination value next (arch_of hart d') ≡ record (finished destination value next (arch_of hart d)) { devices = d' }
unfolding arch_of
finished_devices destination value next hart d d' = refl

pub devices_in : (hart : Hart) (d : Devices) → (arch_of hart d).devices ≡ d
unfolding arch_of
devices_in hart d = refl

-- a load that is made
pub load_some : (range : RamRange) (destination : Option ℕ) (next addr : ℕ) (width : Width) (signed : Bool) (time : Option ℕ) (raw value : ℕ) (hart hart' : Hart) (d d' : Devices) (b : Arch) →
    Some raw ≡ raw_at (seen_in time (arch_of hart d)) addr width (spot_of range addr width) → hart' ≡ hart →
    d' ≡ with_access (access.Load addr width (spot_of range addr width)) 0 d → value ≡ loaded_value width signed raw →
    b ≡ finished destination value next (arch_of hart' d') → b ≡ load_made range destination next addr width signed time (arch_of hart d)
load_some range destination next addr width signed time raw value hart hart' d d' b there same changed is made =
    made
    ∙ ap (λ h. finished destination value next (arch_of h d')) same
    ∙ ap (λ v. finished destination v next (arch_of hart d')) is
    ∙ finished_devices destination (loaded_value width signed raw) next hart d d'
    ∙ ap (λ e. record (finished destination (loaded_value width signed raw) next (arch_of hart d)) { devices = e }) (changed ∙ ap (with_access (access.Load addr width (spot_of range addr width)) 0) (sym (devices_in hart d)))
    ∙ ap (λ r. load_done range destination next addr width signed r (arch_of hart d)) there

-- MRET
pub mret_done : (a b : Arch) (csrs : Csrs) (next : ℕ) → csrs ≡ trap_left a.csrs → next ≡ return_address a.csrs →
    b ≡ finished None 0 next (record a { csrs = csrs }) → b ≡ mret_made a
mret_done a b csrs next left address made =
    made ∙ ap (λ n. finished None 0 n (record a { csrs = csrs })) address ∙ ap (λ (s : Csrs). finished None 0 (return_address a.csrs) (record a { csrs = s })) left

-- a CSR instruction
pub csr_done : (word : ℕ) (insn : Insn) (time : Option ℕ) (access : Option (ℕ × CsrWrite)) (value given : ℕ) (write : CsrWrite) (csrs : Csrs) (next : ℕ) (destination : Option ℕ) (a b : Arch) →
    access ≡ Some (value, write) → given ≡ csr_value insn time value → csrs ≡ csr_written write a.csrs → next ≡ wrap_sum a.pc 4 → destination ≡ dest_of insn →
    b ≡ finished destination given next (record a { csrs = csrs }) → b ≡ csr_made word insn time access a
csr_done word insn time access value given write csrs next destination a b is served written sum register made =
    rw is
    (made
    ∙ ap (λ d. finished d given next (record a { csrs = csrs })) register
    ∙ ap (λ v. finished (dest_of insn) v next (record a { csrs = csrs })) served
    ∙ ap (λ n. finished (dest_of insn) (csr_value insn time value) n (record a { csrs = csrs })) sum
    ∙ ap (λ (s : Csrs). finished (dest_of insn) (csr_value insn time value) (wrap_sum a.pc 4) (record a { csrs = s })) written)
