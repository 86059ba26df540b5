-- One instruction of a run, put together from what the hart ensures.
use Rattle.std.proofs.Common.{◌≡◌, ℕ, ◌&&◌, Bool, true, false, Option, Some, None, is_none, refl, ap, sym, subst, ◌∙◌}
use Rattle.fsim_base.specs.declared.access.RamRange.{RamRange}
use Rattle.rv_exec.specs.Eval.{eval_of}
use Rattle.elf_image.specs.declared.image.Image.{Image}
use Rattle.elf_image.specs.Load.{is_executable}
use Rattle.device_bus.specs.declared.undo.Note.TheVariants as note
use Rattle.mono_model.specs.declared.setup.Setup.{Setup}
use Rattle.mono_model.specs.Setup.{ram_range}
use Rattle.machine_csr.specs.Trap.{timer_pending, timer_interrupt}
use Rattle.mono_model.specs.Arch.{Arch, synced, trapped, compare_of}
use Rattle.mono_model.specs.Found.{Found, found_at, is_fence_i}
use Rattle.mono_model.specs.Result.{Result, executed}
use Rattle.fsim_base.specs.declared.cause.Cause.{Cause}
use Rattle.mono_model.specs.Effect.{effect, note_of, is_fence_result}
use Rattle.mono_model.specs.Sequence.{found_next, result_at}
use Rattle.mono_model.proofs.Found.{fence_i_is}
use Rattle.phys_mem.specs.Ram.{text_from}
use Rattle.func_model.specs.Hart.{found_by}
use Rattle.func_model.specs.declared.performed.Stepped.{Stepped}
use Rattle.func_model.specs.Steps.{behind, result_of, stepped_by}
use Rattle.func_model.specs.Contents.{after_instruction, before}

pub found_same : (image : Image) (text : ℕ → ℕ) (addr : ℕ) → found_by (is_executable image) text addr ≡ found_at image text addr
unfolding found_by found_at
found_same image text addr = refl

pub result_same : (s : Setup) (time : Option ℕ) (a : Arch) → result_of (ram_range s.params) (found_next s a) time a ≡ result_at s time a
unfolding result_at
result_same s time a = refl

-- a FENCE.I has no cause and sends nothing
pub fence_plain : (range : RamRange) (found : Found) (time : Option ℕ) (a : Arch) → is_fence_i found ≡ true → (result_of range found time a).cause ≡ None
unfolding executed eval_of
fence_plain range found time a is =
    let P : Found → Type 0 = λ f. (result_of range f time a).cause ≡ None in
    subst P (sym (fence_i_is found is).is) refl

pub fence_silent : (range : RamRange) (found : Found) (time : Option ℕ) (a : Arch) → is_fence_i found ≡ true → note_of (result_of range found time a) a ≡ note.Nothing
unfolding executed eval_of
fence_silent range found time a is =
    let P : Found → Type 0 = λ f. note_of (result_of range f time a) a ≡ note.Nothing in
    subst P (sym (fence_i_is found is).is) refl

pub after_plain : (s : Setup) (found : Found) (r : Result) (time : ℕ) (a b : Arch) → is_fence_i found ≡ false → b ≡ behind s.output found r (Some time) a → b ≡ after_instruction s found r time a
after_plain s found r time a b fence made = rw fence made

fenced_is : (fence : Bool) (cause : Option Cause) → fence ≡ true → cause ≡ None → (fence && is_none cause) ≡ true
fenced_is fence cause is none = rw (is, none) refl

pub after_fence : (s : Setup) (found : Found) (r : Result) (time : ℕ) (a b c : Arch) (is_text : ℕ → Bool) → is_fence_i found ≡ true → r.cause ≡ None → note_of r a ≡ note.Nothing →
    is_text ≡ is_executable s.image → b ≡ behind s.output found r (Some time) a → c ≡ record b { text = text_from is_text b.ram } → c ≡ after_instruction s found r time a
unfolding synced
after_fence s found r time a b c is_text fence plain silent exec made synced_is =
    let e : b ≡ effect found r (Some time) a.pc a = rw silent at made in
    let fenced : is_fence_result found r ≡ true = fenced_is (is_fence_i found) r.cause fence plain in
    rw (silent, fenced)
    (synced_is ∙ ap (λ (t : ℕ → Bool). record b { text = text_from t b.ram }) exec ∙ ap (λ (x : Arch). record x { text = text_from (is_executable s.image) x.ram }) e)

-- what the hart found, did and answered, in the words of the run
pub met_found : (s : Setup) (is_text : ℕ → Bool) (found : Found) (b a : Arch) → is_text ≡ is_executable s.image → b ≡ a → found ≡ found_by is_text b.text b.pc → found ≡ found_next s a
met_found s is_text found b a exec arch is =
    is ∙ ap (λ (t : ℕ → Bool). found_by t b.text b.pc) exec ∙ found_same s.image b.text b.pc ∙ ap (λ (x : Arch). found_at s.image x.text x.pc) arch

pub met_behind : (s : Setup) (time : Option ℕ) (limit : ℕ) (range : RamRange) (found : Found) (b a c : Arch) → limit ≡ s.output → range ≡ ram_range s.params → b ≡ a → found ≡ found_next s a →
    c ≡ behind limit found (result_of range found time b) time b → c ≡ behind s.output (found_next s a) (result_at s time a) time a
met_behind s time limit range found b a c el er ea ef made =
    made
    ∙ ap (λ (l : ℕ). behind l found (result_of range found time b) time b) el
    ∙ ap (λ (r : RamRange). behind s.output found (result_of r found time b) time b) er
    ∙ ap (λ (x : Arch). behind s.output found (result_of (ram_range s.params) found time x) time x) ea
    ∙ ap (λ (f : Found). behind s.output f (result_of (ram_range s.params) f time a) time a) ef
    ∙ ap (λ (r : Result). behind s.output (found_next s a) r time a) (result_same s time a)

pub met_stepped : (s : Setup) (time : Option ℕ) (limit : ℕ) (range : RamRange) (found : Found) (b a : Arch) (stepped : Stepped) → limit ≡ s.output → range ≡ ram_range s.params → b ≡ a → found ≡ found_next s a →
    stepped ≡ stepped_by limit b.output (note_of (result_of range found time b) b) → stepped ≡ stepped_by s.output a.output (note_of (result_at s time a) a)
met_stepped s time limit range found b a stepped el er ea ef made =
    made
    ∙ ap (λ (l : ℕ). stepped_by l b.output (note_of (result_of range found time b) b)) el
    ∙ ap (λ (r : RamRange). stepped_by s.output b.output (note_of (result_of r found time b) b)) er
    ∙ ap (λ (x : Arch). stepped_by s.output x.output (note_of (result_of (ram_range s.params) found time x) x)) ea
    ∙ ap (λ (f : Found). stepped_by s.output a.output (note_of (result_of (ram_range s.params) f time a) a)) ef
    ∙ ap (λ (r : Result). stepped_by s.output a.output (note_of r a)) (result_same s time a)

-- the timer interrupt
pub pending_is : (b a : Arch) (time cmp : ℕ) (pending : Bool) → b ≡ a → cmp ≡ compare_of a.devices → pending ≡ timer_pending b.csrs time cmp → pending ≡ timer_pending a.csrs time (compare_of a.devices)
pending_is b a time cmp pending arch compared is =
    is ∙ ap (λ (x : Arch). timer_pending x.csrs time cmp) arch ∙ ap (λ (c : ℕ). timer_pending a.csrs time c) compared

pub before_idle : (time : ℕ) (a : Arch) → timer_pending a.csrs time (compare_of a.devices) ≡ false → a ≡ before time a
before_idle time a idle = rw idle refl

pub before_trap : (time : ℕ) (a : Arch) → timer_pending a.csrs time (compare_of a.devices) ≡ true → trapped timer_interrupt 0 a.pc a ≡ before time a
before_trap time a due = rw due refl
