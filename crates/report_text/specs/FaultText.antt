-- The exit status and the line of each answer.
use Rattle.std.specs.Prelude.{ℕ, Bool, true, false, List, [], ◌++◌, codes, decimal}
use Rattle.std.specs.Fmt.{signed_decimal}
use Rattle.elf_image.specs.declared.fault.ImageFault.{ImageFault}
use Rattle.elf_image.specs.declared.fault.ImageFault.TheVariants as image
use Rattle.machine_file.specs.declared.fault.MachineFault.{MachineFault}
use Rattle.machine_file.specs.declared.fault.MachineFault.TheVariants as machine
use Rattle.mono_model.specs.Report.{line_feed}
use Rattle.report_text.specs.declared.status.Role.{Role}
use Rattle.report_text.specs.declared.status.Role.TheVariants as role
use Rattle.report_text.specs.declared.status.Status.{Status}
use Rattle.report_text.specs.declared.status.Status.TheVariants.{Pass, Fail, Limit, OutputFull}
use Rattle.report_text.specs.declared.status.Status.TheVariants.{Running, Shown, Usage, Image}
use Rattle.report_text.specs.declared.status.Status.TheVariants.{Machine, Missing, ReadFault}
use Rattle.report_text.specs.declared.status.Status.TheVariants.{WriteFault, Memory, TooLong}
use Rattle.report_text.specs.declared.status.Status.TheVariants.{BadPlan, BadScript, Sets, TooMuchText}

-- the exit status
abbrev pub status_number : Status → ℕ
status_number Pass = 0
status_number (Fail code) = 1
status_number Limit = 2
status_number OutputFull = 3
status_number Running = 4
status_number Shown = 5
status_number Usage = 10
status_number (Image fault) = 11
status_number (Machine fault) = 12
status_number (Missing role) = 13
status_number (ReadFault role) = 14
status_number WriteFault = 15
status_number Memory = 16
status_number (TooLong role limit) = 17
status_number (BadPlan place) = 18
status_number (BadScript line) = 21
status_number (Sets named) = 22
status_number (TooMuchText pages) = 23

-- what is wrong with an image or a machine file has a line; want of memory is an answer of its own
-- and no fault of theirs
abbrev pub has_image_line : ImageFault → Bool
has_image_line image.Memory = false
has_image_line fault = true

abbrev pub has_machine_line : MachineFault → Bool
has_machine_line machine.Memory = false
has_machine_line fault = true

-- the answer has a line; those of a run and that of the sink's fault have none
abbrev pub has_line : Status → Bool
has_line (Image fault) = has_image_line fault
has_line (Machine fault) = has_machine_line fault
has_line Pass = false
has_line (Fail code) = false
has_line Limit = false
has_line OutputFull = false
has_line Running = false
has_line Shown = false
has_line WriteFault = false
has_line status = true

abbrev pub role_text : Role → List ℕ
role_text role.Image = codes "image"
role_text role.Machine = codes "machine"
role_text role.Plan = codes "plan"
role_text role.Input = codes "input"
role_text role.Script = codes "script"
role_text role.Packets = codes "packets"

abbrev pub image_fault_text : ImageFault → List ℕ
image_fault_text image.Short = codes "short"
image_fault_text image.Magic = codes "magic"
image_fault_text image.Class = codes "class"
image_fault_text image.Endian = codes "endian"
image_fault_text image.FileType = codes "file type"
image_fault_text image.Machine = codes "machine"
image_fault_text image.EntrySize = codes "entry size"
image_fault_text (image.Count n) = codes "count " ++ decimal n
image_fault_text image.TableOutside = codes "table outside"
image_fault_text (image.FileOutside i) = codes "file outside " ++ decimal i
image_fault_text (image.Larger i) = codes "larger " ++ decimal i
image_fault_text (image.OutsideRam i) = codes "outside ram " ++ decimal i
image_fault_text (image.Overlap i j) = codes "overlap " ++ decimal i ++ codes " " ++ decimal j
image_fault_text image.Memory = []

abbrev pub machine_fault_text : MachineFault → List ℕ
machine_fault_text machine.NotToml = codes "not toml"
machine_fault_text (machine.Unknown key) = codes "unknown " ++ key
machine_fault_text (machine.Kind key) = codes "kind " ++ key
machine_fault_text (machine.Range key value) =
    codes "range " ++ key ++ codes " " ++ signed_decimal value
machine_fault_text (machine.Power key value) =
    codes "power " ++ key ++ codes " " ++ signed_decimal value
machine_fault_text machine.Memory = []

-- the line of words that are none, with all commands
unfoldable pub usage_text : List ℕ
usage_text =
    codes "fast: usage: fast func IMAGE, run IMAGE MACHINE, sched IMAGE MACHINE PLAN, "
    ++ codes "soak SEED, back IMAGE SCRIPT, inorder IMAGE MACHINE PLAN, sweep IMAGE MACHINES, "
    ++ codes "trace IMAGE MACHINE, stack IMAGE MACHINE, profile IMAGE MACHINE, "
    ++ codes "count IMAGE, gdb IMAGE" ++ line_feed

-- the line of an answer that has one
unfoldable pub fault_text : Status → List ℕ
fault_text Usage = usage_text
fault_text (Image fault) = codes "fast: image: " ++ image_fault_text fault ++ line_feed
fault_text (Machine fault) = codes "fast: machine: " ++ machine_fault_text fault ++ line_feed
fault_text (Missing role) = codes "fast: missing: " ++ role_text role ++ line_feed
fault_text (ReadFault role) = codes "fast: read fault: " ++ role_text role ++ line_feed
fault_text Memory = codes "fast: no memory" ++ line_feed
fault_text (TooLong role limit) =
    codes "fast: too long: " ++ role_text role ++ codes " " ++ decimal limit ++ line_feed
fault_text (BadPlan place) = codes "fast: bad plan: " ++ decimal place ++ line_feed
fault_text (BadScript line) = codes "fast: bad script: " ++ decimal line ++ line_feed
fault_text (Sets named) = codes "fast: sets: " ++ decimal named ++ line_feed
fault_text (TooMuchText pages) = codes "fast: too much text: " ++ decimal pages ++ line_feed
fault_text status = []
