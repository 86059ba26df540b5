-- What is reported of a functional side that holds the state of a machine.
use Rattle.std.proofs.Common.{◌≡◌, length, ap, sym, ◌∙◌}
use Rattle.mono_model.specs.declared.setup.Setup.{Setup}
use Rattle.mono_model.specs.declared.final_state.End.{End}
use Rattle.mono_model.specs.declared.final_state.Stats.{Stats}
use Rattle.mono_model.specs.declared.final_state.Final.{Final}
use Rattle.mono_model.specs.Final.{final_of}
use Rattle.mono_model.specs.Machine.{Machine, machine_final, stats_of}
use Rattle.func_model.specs.declared.walk.Walk.{Walk}
use Rattle.func_model.specs.Hart.{arch_of}
use Rattle.func_model.specs.Contents.{ContentsStandFor}
use Rattle.func_model.specs.Side.{arch_in}
use Rattle.func_model.proofs.Reported.{registers_are}

-- the registers of a side that holds a state, with an end and counts
registers_reported : {D : Type 0} (end : End) (stats : Stats) (side : Walk D) → length side.contents.hart.regs ≡ 32 →
    (let it : Final = record { end = end; stats = stats; pc = (arch_in side).pc; regs = (arch_in side).regs; csrs = (arch_in side).csrs; cmp = (arch_in side).cmp } in it)
    ≡ final_of end stats (arch_of side.contents.hart side.contents.bus)
unfolding arch_of
registers_reported end stats side whole = λ i. record {
  end = end;
  stats = stats;
  pc = (arch_in side).pc;
  regs = sym (registers_are side.contents.hart.regs whole) i;
  csrs = (arch_in side).csrs;
  cmp = (arch_in side).cmp;
}

pub reports : {D : Type 0} (s : Setup) (m : Machine) (side : Walk D) (end : End) (stats : Stats) → ContentsStandFor s m.arch side.contents → length side.contents.hart.regs ≡ 32 →
    end ≡ m.end → stats ≡ stats_of s m →
    (let it : Final = record { end = end; stats = stats; pc = (arch_in side).pc; regs = (arch_in side).regs; csrs = (arch_in side).csrs; cmp = (arch_in side).cmp } in it)
    ≡ machine_final s m
unfolding machine_final
reports s m side end stats holds whole end_is stats_is =
    registers_reported end stats side whole
    ∙ ap (final_of end stats) holds.arch
    ∙ ap (λ (e : End). final_of e stats m.arch) end_is
    ∙ ap (λ (t : Stats). final_of m.end t m.arch) stats_is
