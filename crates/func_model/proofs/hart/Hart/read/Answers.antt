use Rattle.std.proofs.Common.{rules, ◌≡◌, is_some, false, Some}
use Rattle.device_bus.specs.Bus.{find_of}
use Rattle.phys_mem.specs.Ram.{ram_of, range_of, loaded}
use Rattle.func_model.proofs.Loads.{device_read}
use Rattle.func_model.proofs.hart.Hart.read.Goals as goal

pub returns-clause-devices : goal.returns-clause-devices
returns-clause-devices g c =
    let none : is_some (loaded (range_of c.args.self.now.memory) (ram_of c.args.self.now.memory) c.args.addr c.args.width) ≡ false = search rules in
    let there : find_of c.args.addr c.args.width ≡ Some c.in-Some-find.place = search rules in
    device_read (range_of c.args.self.now.memory) (ram_of c.args.self.now.memory) c.args.addr c.args.width c.in-Some-find.place c.unwrap_or.result c.args.bus.now c.load-raw.new.self c.requires.aligned none there c.load-raw.ensures.devices
