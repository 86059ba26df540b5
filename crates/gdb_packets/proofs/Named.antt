-- Which row of the named packets a content is of.
use Rattle.std.proofs.Common.{◌≡◌, ℕ, List, Some, None, codes, refl, ap}
use Rattle.gdb_packets.specs.Packet.{after_text, description_in, monitor_in, named_packet, or_malformed}
use Rattle.gdb_packets.specs.declared.packet.Packet.{Packet}
use Rattle.gdb_packets.specs.declared.packet.Packet.TheVariants.{Supported}

abbrev Lacks : List ℕ → List ℕ → Type 0
Lacks text content = None ≡ after_text text content

abbrev Has : List ℕ → List ℕ → List ℕ → Type 0
Has text content rest = Some rest ≡ after_text text content

pub second : (content rest : List ℕ) (asks : Packet) → Lacks (codes "vCont;") content → Has (codes "qXfer:features:read:target.xml:") content rest → asks ≡ or_malformed (description_in rest) → Some asks ≡ named_packet content
second content rest asks first has is = rw (← first, ← has) (ap Some is)

pub third : (content rest : List ℕ) (asks : Packet) → Lacks (codes "vCont;") content → Lacks (codes "qXfer:features:read:target.xml:") content → Has (codes "qRcmd,") content rest → asks ≡ or_malformed (monitor_in rest) → Some asks ≡ named_packet content
third content rest asks first second has is = rw (← first, ← second, ← has) (ap Some is)

pub fourth : (content rest : List ℕ) → Lacks (codes "vCont;") content → Lacks (codes "qXfer:features:read:target.xml:") content → Lacks (codes "qRcmd,") content → Has (codes "qSupported:") content rest → Some Supported ≡ named_packet content
fourth content rest first second third has = rw (← first, ← second, ← third, ← has) refl

pub no_row : (content : List ℕ) → Lacks (codes "vCont;") content → Lacks (codes "qXfer:features:read:target.xml:") content → Lacks (codes "qRcmd,") content → Lacks (codes "qSupported:") content → None ≡ named_packet content
no_row content first second third fourth = rw (← first, ← second, ← third, ← fourth) refl
