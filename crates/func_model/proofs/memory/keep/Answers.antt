use Rattle.std.proofs.Common.{rules, ◌≡◌, ◌<◌, ◌^◌, ◌∙◌, ℕ, Option, Some, unwrap_or, ap, sym, subst, arith}
use Rattle.rv_decode.specs.declared.insn.Insn.{Insn}
use Rattle.rv_exec.specs.Bare.{bare_of}
use Rattle.rv_decode.specs.Class.{sources_of, dest_of, class_of}
use Rattle.rv_decode.specs.Decode.{decode_of}
use Rattle.rv_decode.specs.Fits.{Fits}
use Rattle.rv_decode.proofs.Spelled.{spelled_fits}
use Rattle.mono_model.specs.Found.{known}
use Rattle.phys_mem.specs.Ram.{exec_of, text_of}
use Rattle.func_model.specs.Hart.{found_by}
use Rattle.func_model.proofs.Bare.{registers_exist}
use Rattle.func_model.proofs.Written.{kept_told}
use Rattle.func_model.proofs.memory.keep.Goals as goal

-- a word spells the instruction that was decoded
spelled : (word : ℕ) (insn : Insn) (decoded : Option Insn) → word < 2 ^ 32 → decoded ≡ decode_of word → decoded ≡ Some insn → Fits insn
spelled word insn decoded below row is = spelled_fits insn (word, below, sym row ∙ is)

pub new-requires : goal.new-requires
new-requires c = record { fits = spelled c.in-Some.word c.in-Some-decode.insn c.decode.result (search rules) c.decode.ensures.row c.in-Some-decode.is }

pub returns-clause-text : goal.returns-clause-text
unfolding found_by
returns-clause-text c = λ stamp is was.
    let fits : Fits c.in-Some-decode.insn = spelled c.in-Some.word c.in-Some-decode.insn c.decode.result (search rules) c.decode.ensures.row c.in-Some-decode.is in
    record {
      found = λ within. subst (λ a. known c.new.result.word c.new.result.insn ≡ found_by (exec_of c.args.ram.now) (text_of c.args.ram.now) a) {x = c.args.addr} (omega (arith, is)) (rw (c.new.ensures.word, c.new.ensures.insn) (search rules));
      below = omega (arith, is);
      fits = λ within. record {
        fits = subst Fits (sym c.new.ensures.insn) fits;
        bare = c.new.ensures.bare ∙ ap bare_of (sym c.new.ensures.insn);
        first = c.new.ensures.first ∙ ap (λ (i : Insn). unwrap_or (sources_of i).0 0) (sym c.new.ensures.insn);
        second = c.new.ensures.second ∙ ap (λ (i : Insn). unwrap_or (sources_of i).1 0) (sym c.new.ensures.insn);
        first_exists = subst (λ n. n < 32) (sym c.new.ensures.first) (registers_exist c.in-Some-decode.insn fits).first;
        second_exists = subst (λ n. n < 32) (sym c.new.ensures.second) (registers_exist c.in-Some-decode.insn fits).second;
        destination = c.new.ensures.destination ∙ ap dest_of (sym c.new.ensures.insn);
        written = (kept_told c.in-Some-decode.insn _ _ fits c.new.ensures.destination c.new.ensures.written).written;
        written_exists = (kept_told c.in-Some-decode.insn _ _ fits c.new.ensures.destination c.new.ensures.written).exists;
        class = c.new.ensures.class ∙ ap class_of (sym c.new.ensures.insn);
      };
    }
