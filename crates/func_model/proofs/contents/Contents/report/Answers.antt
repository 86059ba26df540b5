use Rattle.std.proofs.Common.{rules, ◌≡◌, ◌-◌, length, sym, ◌∙◌}
use Rattle.func_model.specs.Hart.{arch_of}
use Rattle.func_model.proofs.Reported.{counted_final, final_made, registers_are}
use Rattle.func_model.proofs.contents.Contents.report.Goals as goal

pub returns : goal.returns
unfolding arch_of
returns g c =
    let whole : length c.args.self.now.hart.regs ≡ 32 = search rules in
    let sized : c.len.result ≡ length c.args.self.now.hart.output.items = search rules in
    let same : _ ≡ counted_final c.args.end (c.args.made - c.args.self.now.hart.csrs.retired) c.args.interrupts (arch_of c.args.self.now.hart c.args.self.now.bus) =
    λ i. record {
      end = c.args.end;
      stats = record {
        version = 0;
        cycles = 0;
        instructions = c.args.self.now.hart.csrs.retired;
        exceptions = c.saturating_sub.ensures i;
        interrupts = c.args.interrupts;
        replays = 0;
        fetched = 0;
        squashed = 0;
        branches = 0;
        mispredicted = 0;
        icache_accesses = 0;
        icache_misses = 0;
        dcache_accesses = 0;
        dcache_misses = 0;
        l2_accesses = 0;
        l2_misses = 0;
        writebacks = 0;
        output = sized i;
      };
      pc = c.args.self.now.hart.pc;
      regs = sym (registers_are c.args.self.now.hart.regs whole) i;
      csrs = c.args.self.now.hart.csrs;
      cmp = c.compare.ensures.compare i;
    } in
    record {
      reported = λ s m h ended counted excepted.
          same ∙ final_made c.args.end (c.args.made - c.args.self.now.hart.csrs.retired) c.args.interrupts (arch_of c.args.self.now.hart c.args.self.now.bus) m h.arch ended counted excepted;
    }
