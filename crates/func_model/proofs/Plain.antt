-- Instructions whose undo steps are plain are taken back: their registers one by one, and the rest once for all.
use Rattle.std.proofs.Common.{◌≡◌, ℕ, suc, ◌+◌, ◌-◌, ◌<◌, ◌≤◌, List, [], ◌∷◌, length, get_or, slice_index, drop, if◌then◌else◌, refl, ap, sym, ◌∙◌, arith}
use Rattle.std.specs.List.{All}
use Rattle.std.proofs.lemmas.List.{drop_all, drop_more, length-drop}
use Rattle.std.proofs.lemmas.List.Elements.{All-head, All-tail, All-nil, All-cons, All-same}
use Rattle.fsim_base.specs.declared.access.RamRange.{RamRange}
use Rattle.undo_journal.specs.declared.past.Past.{Past}
use Rattle.undo_journal.specs.Journal.{IsPlain}
use Rattle.mono_model.specs.Arch.{Arch, compare_of}
use Rattle.func_model.specs.declared.hart.Hart.{Hart}
use Rattle.device_bus.specs.Bus.{Devices}
use Rattle.func_model.specs.Hart.{arch_of}
use Rattle.func_model.specs.Undo.{undone, all_undone, register_in, registers_back, all_registers_back, memory_back, csrs_back, devices_back, uncounted, shortened}

-- one of them
one_undone : (range : RamRange) (past : Past) (a : Arch) → IsPlain past → undone range past a ≡ record a { pc = past.addr; regs = registers_back (register_in past) a.regs; csrs = uncounted a.csrs }
unfolding undone
one_undone range past a plain = λ i. record a {
  pc = past.addr;
  regs = registers_back (register_in past) a.regs;
  ram = memory_back range (plain.nothing i) a.ram;
  csrs = csrs_back (plain.nothing i) a.csrs;
  devices = devices_back (plain.nothing i) a.devices;
  output = if plain.silent i then shortened a.output else a.output;
}

-- the address of the oldest one
abbrev pub first_address : List Past → ℕ → ℕ
first_address [] pc = pc
first_address (past ∷ later) pc = past.addr

-- a state with its next address, registers and count put back
abbrev pub plainly_back : List Past → Arch → Arch
plainly_back steps a = record a {
  pc = first_address steps a.pc;
  regs = all_registers_back steps a.regs;
  csrs = record a.csrs { retired = a.csrs.retired - length steps };
}

pub plain_undone : (range : RamRange) (steps : List Past) (a : Arch) → All IsPlain steps → all_undone range steps a ≡ plainly_back steps a
plain_undone range [] a plain = λ i. record a { csrs = record a.csrs { retired = none a.csrs.retired i } }
  where
    none : (n : ℕ) → n ≡ n - 0
    none n = omega arith
plain_undone range (past ∷ later) a plain =
    ap (undone range past) (plain_undone range later a (All-tail IsPlain past later plain))
    ∙ one_undone range past (plainly_back later a) (All-head IsPlain past later plain)
    ∙ λ i. record a { pc = past.addr; regs = all_registers_back (past ∷ later) a.regs; csrs = record a.csrs { retired = one_more a.csrs.retired (length later) i } }
  where
    one_more : (n k : ℕ) → n - k - 1 ≡ n - suc k
    one_more n k = omega arith

-- mtimecmp stays
pub plain_compare : (range : RamRange) (steps : List Past) (a : Arch) → All IsPlain steps → compare_of (all_undone range steps a).devices ≡ compare_of a.devices
plain_compare range steps a plain = ap (λ (x : Arch). compare_of x.devices) (plain_undone range steps a plain)

-- the registers by their numbers
abbrev pub numbered : Hart → (ℕ → ℕ)
numbered hart = λ register. slice_index hart.regs register

-- what holds as registers are put back, those of the steps from a place on
pub record Putting (steps : List Past) (left : ℕ) (opened hart : Hart) : Type 0 where
  pub within : left ≤ length steps
  pub plain : All IsPlain (drop left steps)
  pub regs : numbered hart ≡ all_registers_back (drop left steps) (numbered opened)
  pub others : hart ≡ record opened { regs = hart.regs }

pub putting_start : (steps : List Past) (hart : Hart) → Putting steps (length steps) hart hart
putting_start steps hart =
    let none : drop (length steps) steps ≡ [] = drop_all (length steps) steps (omega arith) in
    record {
      within = omega arith;
      plain = All-same IsPlain (drop (length steps) steps) [] none (All-nil IsPlain);
      regs = ap (λ (later : List Past). all_registers_back later (numbered hart)) (sym none);
      others = refl;
    }

pub putting_more : (steps : List Past) (left : ℕ) (opened hart next : Hart) (d : Past) → Putting steps left opened hart → 0 < left → IsPlain (get_or steps (left - 1) d) →
    numbered next ≡ registers_back (register_in (get_or steps (left - 1) d)) (numbered hart) → next ≡ record hart { regs = next.regs } → Putting steps (left - 1) opened next
putting_more steps left opened hart next d at some plain regs others =
    let past = get_or steps (left - 1) d in
    let behind : left - 1 + 1 ≡ left = omega arith in
    let front : drop (left - 1) steps ≡ past ∷ drop left steps =
    drop_more steps (left - 1) d (omega (arith, at.within)) ∙ ap (λ (n : ℕ). past ∷ drop n steps) behind in
    record {
      within = omega (arith, at.within);
      plain = All-same IsPlain (drop (left - 1) steps) (past ∷ drop left steps) front (All-cons IsPlain past (drop left steps) plain at.plain);
      regs = regs ∙ ap (registers_back (register_in past)) at.regs ∙ ap (λ (later : List Past). all_registers_back later (numbered opened)) (sym front);
      others = others ∙ ap (λ (h : Hart). record h { regs = next.regs }) at.others;
    }

-- the hart with its registers put back, and the next address and the count, where there is anything to put back
module _ (range : RamRange) (steps : List Past) (left : ℕ) (opened hart : Hart) (devices : Devices) (plain : All IsPlain (drop left steps))
    (regs : numbered hart ≡ all_registers_back (drop left steps) (numbered opened)) (others : hart ≡ record opened { regs = hart.regs }) where
  pub restored : (d : Past) (retired : ℕ) → left < length steps → retired ≡ hart.csrs.retired - (length steps - left) →
      arch_of (record hart { pc = (get_or steps left d).addr; csrs = record hart.csrs { retired = retired } }) devices ≡ all_undone range (drop left steps) (arch_of opened devices)
  unfolding arch_of
  restored d retired some fewer =
      let before = arch_of opened devices in
      let first : (get_or steps left d).addr ≡ first_address (drop left steps) opened.pc =
      ap (λ (later : List Past). first_address later opened.pc) (sym (drop_more steps left d some)) in
      let count : retired ≡ opened.csrs.retired - length (drop left steps) =
      fewer ∙ ap (λ (h : Hart). h.csrs.retired - (length steps - left)) others ∙ ap (λ (n : ℕ). opened.csrs.retired - n) (sym (length-drop left steps)) in
      let put : Hart → Arch = λ h. arch_of (record h { pc = (get_or steps left d).addr; csrs = record h.csrs { retired = retired } }) devices in
      ap put others
      ∙ (λ i. record before { pc = first i; regs = regs i; csrs = record before.csrs { retired = count i } })
      ∙ sym (plain_undone range (drop left steps) before plain)

  pub unrestored : length steps ≤ left → arch_of hart devices ≡ all_undone range (drop left steps) (arch_of opened devices)
  unfolding arch_of
  unrestored none =
      let before = arch_of opened devices in
      let empty : drop left steps ≡ [] = drop_all left steps none in
      let same : numbered hart ≡ numbered opened = regs ∙ ap (λ (later : List Past). all_registers_back later (numbered opened)) empty in
      ap (λ (h : Hart). arch_of h devices) others
      ∙ (λ i. record before { regs = same i })
      ∙ ap (λ (later : List Past). all_undone range later before) (sym empty)
