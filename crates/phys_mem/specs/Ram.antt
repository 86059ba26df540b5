-- RAM and its text as maps from address to byte (RISC-V unprivileged manual, section 1.4, and chapter "Zifencei": a fetch
-- sees the stores before the last FENCE.I).
use Rattle.std.specs.Prelude.{ℕ, ◌-◌, ◌/◌, ◌%◌, Bool, ◌&&◌, if◌then◌else◌, List, [], slice_index_or, Option, Some, None}
use Rattle.std.specs.Global.{Box}
use Rattle.fsim_base.specs.declared.access.RamRange.{RamRange}
use Rattle.fsim_base.specs.declared.access.Width.{Width}
use Rattle.fsim_base.specs.Memory.{from_bytes, put_bytes}
use Rattle.fsim_base.specs.Range.{is_inside}
use Rattle.fsim_base.specs.Width.{width_bytes}
use Rattle.phys_mem.specs.declared.ram.Ram.{Ram}
use Rattle.phys_mem.specs.declared.page.TextPage.{TextPage}
use Rattle.phys_mem.specs.PageBytes.{bytes_of}
use Rattle.phys_mem.specs.Page.{marked_in, copied_in}

-- the place of an address's page among those of RAM; pages begin at multiples of 4,096
abbrev pub page_of : RamRange → ℕ → ℕ
page_of range addr = addr / 4096 - range.base / 4096

-- memory as pages keep it: the byte at each address of RAM, and 0 elsewhere
unfoldable pub memory_of : RamRange → List (List ℕ) → (ℕ → ℕ)
memory_of range pages = λ addr.
    if is_inside range addr 1 then bytes_of (slice_index_or pages (page_of range addr) []) (addr % 4096) else 0

-- which addresses are text, as marks keep it
unfoldable pub marks_of : RamRange → List (Option (Box TextPage)) → (ℕ → Bool)
marks_of range texts = λ addr.
    is_inside range addr 1 && marked_in (slice_index_or texts (page_of range addr) None) (addr % 4096)

-- the text as copies keep it: the byte at each of its addresses, and 0 elsewhere
unfoldable pub copies_of : RamRange → List (Option (Box TextPage)) → (ℕ → ℕ)
copies_of range texts = λ addr.
    if marks_of range texts addr then copied_in (slice_index_or texts (page_of range addr) None) (addr % 4096) else 0

-- the addresses of RAM
abbrev pub range_of : Ram → RamRange
range_of ram = ram.range

-- RAM: the byte at each of its addresses, and 0 elsewhere
unfoldable pub ram_of : Ram → (ℕ → ℕ)
ram_of ram = memory_of ram.range ram.pages

-- which addresses are text
unfoldable pub exec_of : Ram → (ℕ → Bool)
exec_of ram = marks_of ram.range ram.texts.items

-- the text: the byte that fetch reads at each of its addresses, and 0 elsewhere
unfoldable pub text_of : Ram → (ℕ → ℕ)
text_of ram = copies_of ram.range ram.texts.items

-- memory as text: its bytes where they are text, and 0 elsewhere
abbrev pub text_from : (ℕ → Bool) → (ℕ → ℕ) → (ℕ → ℕ)
text_from is_text memory = λ addr. if is_text addr then memory addr else 0

-- the value of an access, where it lies in RAM
abbrev pub loaded : RamRange → (ℕ → ℕ) → ℕ → Width → Option ℕ
loaded range memory addr width =
    if is_inside range addr (width_bytes width) then Some (from_bytes (width_bytes width) addr memory) else None

-- memory after a store, which changes nothing outside RAM
abbrev pub stored : RamRange → (ℕ → ℕ) → ℕ → Width → ℕ → (ℕ → ℕ)
stored range memory addr width value =
    if is_inside range addr (width_bytes width) then put_bytes (width_bytes width) addr value memory else memory
