use Rattle.std.proofs.Common.{rules, ◌≡◌, ◌∙◌, ◌/◌, ◌%◌, ◌+◌, ◌^◌, ◌≤◌, ℕ, Bool, List, length, set, subst, sym, All, arith}
use Rattle.std.proofs.lemmas.List.{length-set}
use Rattle.std.proofs.lemmas.List.Elements.{All-set}
use Rattle.mono_model.specs.Found.{known}
use Rattle.phys_mem.specs.Ram.{exec_of, text_of}
use Rattle.func_model.specs.declared.memory.TextInsn.{TextInsn}
use Rattle.func_model.specs.Hart.{found_by, DecodedFits}
use Rattle.func_model.specs.Memory.{IsOfText}
use Rattle.func_model.proofs.memory.Memory.fetch.Goals as goal
use Rattle.func_model.proofs.memory.Memory.fetch.Goals.{then-kept-key+in_default, else-kept-key}

-- what is kept, of a text with a stamp
abbrev Kept : (is_text : ℕ → Bool) (text : ℕ → ℕ) (stamp : ℕ) → List TextInsn → Type 0
Kept is_text text stamp insns = (length insns ≡ 131072) × (2 ^ 32 ≤ stamp) × (stamp + 2 ^ 32 ≤ 2 ^ 64) × All (IsOfText is_text text stamp) insns

-- one of them in place of another
kept_with : (is_text : ℕ → Bool) (text : ℕ → ℕ) (stamp : ℕ) (insns : List TextInsn) (place : ℕ) (kept : TextInsn) → Kept is_text text stamp insns → IsOfText is_text text stamp kept → Kept is_text text stamp (set insns place kept)
kept_with is_text text stamp insns place kept was here = (length-set insns place kept ∙ was.0, was.1, was.2, All-set (IsOfText is_text text stamp) insns place kept here was.3)

pub invariant_of-self : goal.invariant_of-self
invariant_of-self c =
    let is_text : ℕ → Bool = exec_of c.self.inside.ram in
    let text : ℕ → ℕ = text_of c.self.inside.ram in
    let stamp : ℕ = c.self.inside.stamp in
    let P : TextInsn → Type 0 = IsOfText is_text text stamp in
    let place : ℕ = c.args.addr / 4 % 131072 in
    let found : P c.index_mut-kept.result.now = subst P (sym c.index_mut-kept.ensures.value) (c.self.invariant.3 place c.index_mut-kept.result.now (omega (arith, c.self.invariant.0))) in
    kept_with is_text text stamp c.self.inside.insns.items place c.keep.new.kept c.self.invariant (c.keep.ensures.text stamp (search rules) found)

-- what is handed out is what fetch finds at the address
found_at : (is_text : ℕ → Bool) (text : ℕ → ℕ) (stamp addr : ℕ) (kept : TextInsn) → kept.key ≡ stamp + addr → IsOfText is_text text stamp kept → (known kept.decoded.word kept.decoded.insn ≡ found_by is_text text addr) × DecodedFits kept.decoded
found_at is_text text stamp addr kept is of = (
  subst (λ a. known kept.decoded.word kept.decoded.insn ≡ found_by is_text text a) (omega (arith, is)) (of.found (omega (arith, is))),
  of.fits (omega (arith, is)),
)

-- what stands in the place then
here : (c : goal.After-self-2-1) → IsOfText (exec_of c.self.inside.ram) (text_of c.self.inside.ram) c.self.inside.stamp c.if-kept-key.kept × (c.if-kept-key.kept.key ≡ c.self.inside.stamp + c.args.addr)
here c =
    let P : TextInsn → Type 0 = IsOfText (exec_of c.self.inside.ram) (text_of c.self.inside.ram) c.self.inside.stamp in
    let place : ℕ = c.args.addr / 4 % 131072 in
    let found : P c.index_mut-kept.result.now = subst P (sym c.index_mut-kept.ensures.value) (c.self.invariant.3 place c.index_mut-kept.result.now (omega (arith, c.self.invariant.0))) in
    elim c.if-kept-key.branch [
      | then-kept-key+in_default w ↦ (subst P (sym w.kept-is) (w.in_default.ensures.text c.self.inside.stamp (search rules) found), search rules)
      | else-kept-key w ↦ (subst P (sym w.kept-is) found, search rules)
    ]

pub invariant_of-self-2 : goal.invariant_of-self-2
invariant_of-self-2 c =
    kept_with (exec_of c.self.inside.ram) (text_of c.self.inside.ram) c.self.inside.stamp c.self.inside.insns.items (c.args.addr / 4 % 131072) c.if-kept-key.kept c.self.invariant (here c).0

pub returns-clause-found : goal.returns-clause-found
returns-clause-found c =
    subst (λ ram. known c.if-kept-key.kept.decoded.word c.if-kept-key.kept.decoded.insn ≡ found_by (exec_of ram) (text_of ram) c.args.addr) c.self.view_is
    (found_at (exec_of c.self.inside.ram) (text_of c.self.inside.ram) c.self.inside.stamp c.args.addr c.if-kept-key.kept (here c).1 (here c).0).0

pub returns-clause-fits : goal.returns-clause-fits
returns-clause-fits c =
    (found_at (exec_of c.self.inside.ram) (text_of c.self.inside.ram) c.self.inside.stamp c.args.addr c.if-kept-key.kept (here c).1 (here c).0).1
