-- A slot that does little where it leaves: what is tested of it, what it changes, and that the next may follow.
use Rattle.std.proofs.Common.{◌≡◌, ℕ, ◌+◌, ◌<◌, ◌&&◌, if◌then◌else◌, nat_le, Bool, false, Option, Some, None, List, is_some, refl, ap, ◌∙◌, arith}
use Rattle.fsim_base.specs.Number.{bits_of}
use Rattle.fsim_base.specs.declared.access.Access.{Access}
use Rattle.fsim_base.specs.declared.access.Access.TheVariants as access
use Rattle.fsim_base.specs.declared.access.Spot.{Spot}
use Rattle.fsim_base.specs.declared.access.Width.{Width}
use Rattle.fsim_base.specs.declared.instruction.Flow.{Flow}
use Rattle.fsim_base.specs.declared.instruction.Flow.TheVariants as flow
use Rattle.fsim_base.specs.declared.instruction.Halt.{Halt}
use Rattle.branch_predictor.specs.Predictor.{trained}
use Rattle.cache_timing.specs.Caches.{CachesState}
use Rattle.cache_timing.specs.declared.params.AllCaches.{AllCaches}
use Rattle.reorder_buffer.specs.declared.slot.Slot.{Slot}
use Rattle.rv_decode.specs.Decode.{decode_of}
use Rattle.mono_model.specs.Found.{found_word, flow_in}
use Rattle.mono_model.specs.Commit.{branch_count, caches_after}
use Rattle.mono_model.specs.Setup.{predictor_params, caches_params}
use Rattle.mono_model.specs.declared.setup.Setup.{Setup}
use Rattle.timing_side.specs.Slots.{found_in}
use Rattle.timing_side.specs.Timing.{Timing}
use Rattle.timing_side.specs.Commit as phase
use Rattle.timing_side.specs.Commit.{committed, leaving_by, leaving_done}
use Rattle.timing_core.specs.Retiring.{noted, told, IsQuiet, TeachesNothing, TouchesNothing}
use Rattle.timing_core.proofs.Opcodes.{plain_flow}
use Rattle.timing_core.proofs.Leaving.{retires_is}

-- a low opcode is of neither branches nor jumps
pub low_flow : (word : ℕ) → bits_of word 6 0 < 0x40 → flow_in (found_word word (decode_of word)) ≡ flow.Plain
low_flow word low = plain_flow word (record {
  branch = λ is. absurd (omega (arith, low, is));
  jalr = λ is. absurd (omega (arith, low, is));
  jal = λ is. absurd (omega (arith, low, is));
  mret = λ is. absurd (omega (arith, low, is));
})

-- it leaves, and the next may follow
pub quiet_leaves : (s : Setup) (slot : Slot) (rest : List Slot) (t : Timing) → IsQuiet slot →
    leaving_done s slot rest slot.cause t ≡ phase.leaves (committed s slot rest t)
quiet_leaves s slot rest t quiet =
    retires_is s slot rest slot.cause t (ap is_some quiet.cause) (ap (λ (sends : Bool). sends && nat_le s.output t.output) quiet.sends)
    ∙ ap (λ (fence : Bool). leaving_by fence slot.halt (committed s slot rest t)) quiet.fence
    ∙ ap (λ (halt : Option Halt). leaving_by false halt (committed s slot rest t)) quiet.halt

-- what is no store touches no cache
pub stores_none : (p : AllCaches) (made : Access) (it : CachesState) → ((addr : ℕ) (width : Width) (spot : Spot) → made ≡ access.Store addr width spot → ⊥) →
    caches_after p made it ≡ it
stores_none p access.Nothing it other = refl
stores_none p (access.Load addr width spot) it other = refl
stores_none p (access.Store addr width spot) it other = absurd (other addr width spot refl)

-- what of it changes nothing
pub notes_nothing : (s : Setup) (slot : Slot) (t : Timing) → TeachesNothing slot → TouchesNothing slot → noted s slot t ≡ t
unfolding trained
notes_nothing s slot t taught touched =
    let predictor : trained (predictor_params s.params) t.predictor slot.addr (flow_in (found_in slot)) slot.next ≡ t.predictor =
    ap (λ (f : Flow). trained (predictor_params s.params) t.predictor slot.addr f slot.next) taught in
    let branches : t.counts.branches + branch_count (flow_in (found_in slot)) ≡ t.counts.branches = omega (arith, ap branch_count taught) in
    λ i. record t { predictor = predictor i; caches = touched (caches_params s.params) t.caches i; counts = record t.counts { branches = branches i } }

pub tells_nothing : (slot : Slot) (t : Timing) → slot.sends ≡ false → told slot t ≡ t
tells_nothing slot t none =
    let Sent : Bool → ℕ = λ b. if b then 1 else 0 in
    let unsent : Sent slot.sends ≡ 0 = ap Sent none in
    let output : t.output + Sent slot.sends ≡ t.output = omega (arith, unsent) in
    λ i. record t { output = output i }

-- what is tested, as it is said
pub not_some : {A : Type 0} (o : Option A) → is_some o ≡ false → o ≡ None
not_some None none = refl
not_some (Some x) none = absurd (cc)
