use Rattle.std.proofs.Common.{◌+◌}
use Rattle.disassembly.proofs.text.WordText.+hex.Given as goal

abbrev pub decreases-hex : goal.decreases-hex
decreases-hex l = l.number + l.width
