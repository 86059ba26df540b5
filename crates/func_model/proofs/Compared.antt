-- mtimecmp as it is kept beside the devices.
use Rattle.std.proofs.Common.{◌≡◌, ℕ, if◌then◌else◌, ap, sym, ◌∙◌}
use Rattle.device_bus.specs.Bus.{Devices}
use Rattle.undo_journal.specs.declared.past.Change.{Change}
use Rattle.undo_journal.specs.declared.past.Change.TheVariants.{Nothing, Memory, Device, Trap, Csr}
use Rattle.mono_model.specs.Arch.{Arch, compare_of}
use Rattle.func_model.specs.Undo.{is_device, devices_back}

-- behind a change, by what takes it back
pub compare_kept : (change : Change) (cmp found : ℕ) (before after : Devices) → devices_back change after ≡ before → cmp ≡ compare_of before →
    found ≡ (if is_device change then compare_of after else cmp) → found ≡ compare_of after
compare_kept Nothing cmp found before after back same is = is ∙ same ∙ ap compare_of (sym back)
compare_kept (Memory addr width old) cmp found before after back same is = is ∙ same ∙ ap compare_of (sym back)
compare_kept (Device device undo) cmp found before after back same is = is
compare_kept (Trap was) cmp found before after back same is = is ∙ same ∙ ap compare_of (sym back)
compare_kept (Csr was) cmp found before after back same is = is ∙ same ∙ ap compare_of (sym back)

-- where a change is taken back
pub compare_back : (change : Change) (cmp found : ℕ) (before after : Devices) → after ≡ devices_back change before → cmp ≡ compare_of before →
    found ≡ (if is_device change then compare_of after else cmp) → found ≡ compare_of after
compare_back Nothing cmp found before after back same is = is ∙ same ∙ ap compare_of (sym back)
compare_back (Memory addr width old) cmp found before after back same is = is ∙ same ∙ ap compare_of (sym back)
compare_back (Device device undo) cmp found before after back same is = is
compare_back (Trap was) cmp found before after back same is = is ∙ same ∙ ap compare_of (sym back)
compare_back (Csr was) cmp found before after back same is = is ∙ same ∙ ap compare_of (sym back)

-- of the state that is stood for
pub compare_in : (cmp : ℕ) (x a : Arch) → x ≡ a → cmp ≡ compare_of a.devices → cmp ≡ compare_of x.devices
compare_in cmp x a here same = same ∙ ap (λ (y : Arch). compare_of y.devices) (sym here)

pub compare_for : (cmp : ℕ) (x a : Arch) → x ≡ a → cmp ≡ compare_of x.devices → cmp ≡ compare_of a.devices
compare_for cmp x a here same = same ∙ ap (λ (y : Arch). compare_of y.devices) here
