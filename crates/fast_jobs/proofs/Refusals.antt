-- A fault of an image, a machine file or a script is the refusal of it.
use Rattle.std.proofs.Common.{◌≡◌, ◌≢◌, true, ℕ, List, Some, Err, refl, ap}
use Rattle.std.specs.Prelude.{option_map}
use Rattle.fsim_base.specs.declared.access.RamRange.{RamRange}
use Rattle.elf_image.specs.declared.fault.ImageFault.{ImageFault}
use Rattle.elf_image.specs.declared.fault.ImageFault.TheVariants as image
use Rattle.elf_image.specs.Image.{image_fault, image_of}
use Rattle.machine_file.specs.declared.fault.MachineFault.{MachineFault}
use Rattle.machine_file.specs.declared.fault.MachineFault.TheVariants as machine
use Rattle.machine_file.specs.File.{machine_fault, params_of}
use Rattle.back_debug.specs.declared.script.ScriptFault.{ScriptFault}
use Rattle.back_debug.specs.declared.script.ScriptFault.TheVariants as script
use Rattle.back_debug.specs.Script.{commands_of, first_bad_line}
use Rattle.report_text.specs.declared.status.Status.TheVariants.{BadScript, Image, Machine, Memory}
use Rattle.report_text.specs.SweepText.{is_sweep_refusal}
use Rattle.fast_jobs.specs.Gives.{unless}
use Rattle.fast_jobs.specs.Stages.{image_in, machine_in, script_in}
use Rattle.fast_jobs.specs.Refusal.{refused_image, refused_machine, refused_script}

pub refused_image-told : (ram : RamRange) (bytes : List ℕ) (fault : ImageFault)
    → (fault ≢ image.Memory → image_fault bytes ram ≡ Some fault)
    → refused_image fault ≢ Memory → image_in ram bytes ≡ Err (refused_image fault)
unfolding image_in
refused_image-told ram bytes image.Memory told other = absurd (other refl)
refused_image-told ram bytes fault told other =
    ap (λ f. unless (option_map Image f) (image_of bytes)) (told (λ same. cc))

pub refused_machine-told : (bytes : List ℕ) (fault : MachineFault)
    → (fault ≢ machine.Memory → machine_fault bytes ≡ Some fault)
    → refused_machine fault ≢ Memory → machine_in bytes ≡ Err (refused_machine fault)
unfolding machine_in
refused_machine-told bytes machine.Memory told other = absurd (other refl)
refused_machine-told bytes fault told other =
    ap (λ f. unless (option_map Machine f) (params_of bytes)) (told (λ same. cc))

pub refused_script-told : (bytes : List ℕ) (fault : ScriptFault)
    → ((line : ℕ) → fault ≡ script.BadLine line → first_bad_line bytes ≡ Some line)
    → refused_script fault ≢ Memory → script_in bytes ≡ Err (refused_script fault)
unfolding script_in
refused_script-told bytes (script.BadLine line) told other =
    ap (λ f. unless (option_map BadScript f) (commands_of bytes)) (told line refl)
refused_script-told bytes script.Memory told other = absurd (other refl)

-- a sweep has a line for it
pub refused_image-line : (fault : ImageFault) → refused_image fault ≢ Memory → is_sweep_refusal (refused_image fault) ≡ true
refused_image-line image.Memory other = absurd (other refl)
refused_image-line fault other = refl

pub refused_machine-line : (fault : MachineFault) → refused_machine fault ≢ Memory → is_sweep_refusal (refused_machine fault) ≡ true
refused_machine-line machine.Memory other = absurd (other refl)
refused_machine-line fault other = refl
