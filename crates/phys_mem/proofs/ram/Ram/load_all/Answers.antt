use Rattle.std.proofs.Common.{◌≡◌, ◌∙◌, suc, ◌-◌, ◌<◌, drop, length, ap, sym, subst, arith}
use Rattle.elf_image.specs.Load.{segments_byte, in_executable}
use Rattle.elf_image.specs.Sound.{IsPlaced}
use Rattle.phys_mem.specs.Segment.{with_bytes, with_segment}
use Rattle.phys_mem.proofs.Loading.{segments_byte-drop, in_executable-drop}
use Rattle.phys_mem.proofs.ram.Ram.load_all.Goals as goal

pub loop-i-preserved : goal.loop-i-preserved
loop-i-preserved c =
    let segments = c.args.segments.now in
    let s = c.index-segments-i.result in
    let i = c.loop-i.i - 1 in
    let next : c.loop-i.i ≡ suc i = omega arith in
    let within : i < length segments = omega arith in
    let placed : IsPlaced c.args.self.now.range s = subst (IsPlaced c.args.self.now.range) (sym c.index-segments-i.is) (c.requires.placed i s within) in
    record {
      range = c.in_ok-load_segment.ensures.range ∙ c.loop-i.invariant.range;
      ram = c.in_ok-load_segment.ensures.ram ∙ ap (with_bytes s.addr s.bytes) (c.loop-i.invariant.ram ∙ ap (λ n. segments_byte (drop n segments)) next) ∙ segments_byte-drop segments i s within c.index-segments-i.is placed.filled c.requires.apart;
      exec = c.in_ok-load_segment.ensures.exec ∙ ap (with_segment s) (c.loop-i.invariant.exec ∙ ap (λ n. in_executable (drop n segments)) next) ∙ in_executable-drop segments i s within c.index-segments-i.is;
    }
