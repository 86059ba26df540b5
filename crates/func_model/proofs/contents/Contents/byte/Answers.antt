use Rattle.std.proofs.Common.{rules, ◌≡◌, false, is_some, ◌∙◌}
use Rattle.fsim_base.specs.declared.access.Width.TheVariants.{Byte}
use Rattle.phys_mem.specs.Ram.{ram_of, range_of, loaded}
use Rattle.func_model.specs.Hart.{arch_of}
use Rattle.func_model.proofs.Seeing.{no_ram, ram_byte}
use Rattle.func_model.proofs.contents.Contents.byte.Goals as goal

pub returns-in-Some-clause-byte : goal.returns-in-Some-clause-byte
unfolding arch_of
returns-in-Some-clause-byte g c =
    ram_byte (range_of c.args.self.now.hart.memory) (arch_of c.args.self.now.hart c.args.self.now.bus) c.args.time c.args.addr c.in-Some.byte c.in-Some.ensures.value

pub returns-in-None-clause-byte : goal.returns-in-None-clause-byte
unfolding arch_of
returns-in-None-clause-byte g c =
    let none : is_some (loaded (range_of c.args.self.now.hart.memory) (ram_of c.args.self.now.hart.memory) c.args.addr Byte) ≡ false = search rules in
    c.device_byte.ensures.byte ∙ no_ram (range_of c.args.self.now.hart.memory) (arch_of c.args.self.now.hart c.args.self.now.bus) c.args.time c.args.addr none
