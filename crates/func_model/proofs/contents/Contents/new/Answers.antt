use Rattle.std.proofs.Common.{arith, ℕ, length, ◌≤◌, ap, sym, ◌∙◌, subst}
use Rattle.device_bus.specs.Bus.{opening_devices}
use Rattle.elf_image.specs.Sound.{IsSound}
use Rattle.mono_model.specs.Arch.{start, compare_of}
use Rattle.func_model.specs.Hart.{arch_of}
use Rattle.mono_model.proofs.Sound.{setup_facts}
use Rattle.func_model.proofs.Reported.{zeros_at}
use Rattle.func_model.proofs.contents.Contents.new.Goals as goal

pub start-requires : goal.start-requires
start-requires g c = record { input = let P : _ → Type 0 = λ xs. length {A = ℕ} xs ≤ 16777216 in subst P (sym c.as_slice.ensures.same) (setup_facts c.args.setup.now c.requires.sound).input }

pub new-requires : goal.new-requires
new-requires g c = record { sound = subst (IsSound c.args.setup.now.image) (sym c.ram_range.ensures.range) (setup_facts c.args.setup.now c.requires.sound).image }

pub returns-clause-opened : goal.returns-clause-opened
unfolding arch_of start
returns-clause-opened g c = record {
  arch = λ i. record {
    pc = c.args.setup.now.image.entry;
    regs = λ r. zeros_at 32 r i;
    ram = c.in_ok-memory.ensures.ram i;
    text = c.in_ok-memory.ensures.text i;
    csrs = c.new-2.ensures.opening i;
    devices = (c.in_ok-start.ensures.started ∙ ap opening_devices c.as_slice.ensures.same) i;
    output = c.in-Ok.ensures.items i;
  };
  exec = c.in_ok-memory.ensures.exec;
  range = c.in_ok-memory.ensures.range ∙ c.ram_range.ensures.range;
  compare = c.compare-cmp.ensures.compare ∙ ap compare_of (c.in_ok-start.ensures.started ∙ ap opening_devices c.as_slice.ensures.same);
}

pub overflow_add-room : goal.overflow_add-room
overflow_add-room g c = record { fits = omega (arith, (setup_facts c.args.setup.now c.requires.sound).output, c.requires.ahead) }
