-- The table and what is read as the code has them.
use Rattle.std.specs.Prelude.{[], ◌∷◌, option_map}
use Rattle.toml.specs.View.{view}
use Rattle.machine_file.specs.Table.{Wanted, number, power, pages, pages_of_ram, text, Key, Row}
use Rattle.machine_file.specs.Table.{key_text}
use Rattle.machine_file.specs.File.{Held, left_out, held_value, no_section}
use Rattle.machine_file.specs.declared.table.Wanted.{Wanted as WantedInCode}
use Rattle.machine_file.specs.declared.table.Wanted.TheVariants.{Number, Power, Pages, PagesOfRam}
use Rattle.machine_file.specs.declared.table.Wanted.TheVariants.{TextOfTwo, TextOfThree}
use Rattle.machine_file.specs.declared.table.Key.{Key as KeyInCode}
use Rattle.machine_file.specs.declared.table.Row.{Row as RowInCode}
use Rattle.machine_file.specs.declared.held_value.Held.{Held as HeldInCode}
use Rattle.machine_file.specs.declared.held_value.Held.TheVariants.{LeftOut, Value, NoSection}
use Rattle.machine_file.specs.declared.cause.Cause.{Cause}
use Rattle.machine_file.specs.declared.cause.Cause.TheVariants as cause
use Rattle.machine_file.specs.declared.fault.MachineFault.{MachineFault}
use Rattle.machine_file.specs.declared.fault.MachineFault.TheVariants as fault

abbrev pub wanted_of : WantedInCode → Wanted
wanted_of (Number low high) = number low high
wanted_of (Power low high) = power low high
wanted_of (Pages low high) = pages low high
wanted_of (PagesOfRam low high) = pages_of_ram low high
wanted_of (TextOfTwo a b) = text (a.now ∷ b.now ∷ [])
wanted_of (TextOfThree a b c) = text (a.now ∷ b.now ∷ c.now ∷ [])

abbrev pub key_of : KeyInCode → Key
key_of k = record { top = k.top.now; inside = option_map (λ n. n.now) k.inside }

abbrev pub row_of : RowInCode → Row
row_of r = record { key = key_of r.key; wanted = wanted_of r.wanted; default = r.default }

abbrev pub held_of : HeldInCode → Held
held_of LeftOut = left_out
held_of (Value v) = held_value (view v.now)
held_of NoSection = no_section

-- the fault that a cause makes
abbrev pub fault_of : Cause → MachineFault
fault_of (cause.Unknown key) = fault.Unknown (key_text (key_of key))
fault_of (cause.Kind key) = fault.Kind (key_text (key_of key))
fault_of (cause.Range key value) = fault.Range (key_text (key_of key)) value
fault_of (cause.Power key value) = fault.Power (key_text (key_of key)) value
