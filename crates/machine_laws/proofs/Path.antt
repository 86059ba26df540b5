-- How the states of a path follow from one another, from what is committed on.
use Rattle.std.proofs.Common.{◌≡◌, ℕ, zero, suc, ◌+◌, ◌≤◌, ◌<◌, if◌then◌else◌, ◌==◌, Bool, true, false, Option, Some, None, List, [], ◌∷◌, refl, ap, sym, ◌∙◌, subst, arith, inl, inr}
use Rattle.std.proofs.lemmas.Bool.{cases_lt, eqb-true}
use Rattle.fsim_base.specs.declared.cause.Cause.{Cause}
use Rattle.rollback_cmds.specs.declared.order.Order.{Order}
use Rattle.rollback_cmds.specs.declared.order.Order.TheVariants.{Set, Commit, Interrupt, Time, Stop, Sync}
use Rattle.mono_model.specs.declared.setup.Setup.{Setup}
use Rattle.mono_model.specs.Arch.{Arch, trapped}
use Rattle.mono_model.specs.Found.{Found}
use Rattle.mono_model.specs.Result.{Result}
use Rattle.mono_model.specs.Effect.{effect, effect_by, retired}
use Rattle.mono_model.specs.Sequence.{seq, found_next, result_at}
use Rattle.mono_model.specs.Path.{path, time_of}
use Rattle.mono_model.proofs.Path.{path_next, path_below, path_at_set, path_commit, path_stop}
use Rattle.machine_laws.specs.Relation.{Within}

-- b is what execution makes of a, but for the address
abbrev pub Follows : Setup → Option ℕ → Arch → Arch → Type 0
Follows s time a b = b ≡ record (seq s time a) { pc = b.pc }

follows_seq : (s : Setup) (time : Option ℕ) (a b : Arch) → b ≡ seq s time a → Follows s time a b
follows_seq s time a b is = let P : Arch → Type 0 = λ x. x ≡ record (seq s time a) { pc = x.pc } in subst P (sym is) refl

follows_same : (s : Setup) (time : Option ℕ) (a b c d : Arch) → a ≡ c → b ≡ d → Follows s time c d → Follows s time a b
follows_same s time a b c d first second f =
    let P : Arch → Type 0 = λ x. Follows s time x b in
    let Q : Arch → Type 0 = λ x. Follows s time c x in
    subst P (sym first) (subst Q (sym second) f)

follows_moved : (s : Setup) (time : Option ℕ) (a b : Arch) (addr : ℕ) → Follows s time a b → Follows s time a (record b { pc = addr })
follows_moved s time a b addr f = ap (λ (x : Arch). record x { pc = addr }) f

-- from what is committed on, each state of the path follows from the one before it
set_steps : (s : Setup) (m addr : ℕ) (os : List Order) (n : ℕ) → Follows s (time_of os n) (path s os n) (path s os (suc n)) →
    Follows s (time_of os n) (path s (Set m addr ∷ os) n) (path s (Set m addr ∷ os) (suc n))
set_steps s m addr os n f = elim (cases_lt n m) [
  | inl under ↦ elim (cases_lt (suc n) m) [
    | inl below ↦
        follows_same s (time_of os n) _ _ _ _ (path_below s (Set m addr) os n under) (path_below s (Set m addr) os (suc n) below) f
    | inr from ↦
        let e : m ≡ suc n = omega arith in
        let at : path s (Set m addr ∷ os) (suc n) ≡ record (path s os (suc n)) { pc = addr } =
        subst (λ (k : ℕ). path s (Set m addr ∷ os) k ≡ record (path s os k) { pc = addr }) e (path_at_set s m addr os) in
        follows_same s (time_of os n) _ _ _ _ (path_below s (Set m addr) os n under) at (follows_moved s (time_of os n) _ _ addr f)
  ]
  | inr from ↦ follows_seq s (time_of os n) _ _ (path_next s (Set m addr ∷ os) n from)
]

pub path_steps : (s : Setup) (os : List Order) (d n : ℕ) → Within os d → d ≤ n → Follows s (time_of os n) (path s os n) (path s os (suc n))
path_steps s [] d n within from = follows_seq s None _ _ (path_next s [] n tt)
path_steps s (Set m addr ∷ os) d n within from = set_steps s m addr os n (path_steps s os d n within from)
path_steps s (Commit m ∷ os) d n within from =
    let P : (ℕ → Arch) → Type 0 = λ p. Follows s (time_of os n) (p n) (p (suc n)) in
    subst P (sym (path_commit s m os)) (path_steps s os d n within from)
path_steps s (Interrupt m ∷ os) d n within from =
    follows_seq s None _ _ (path_next s (Interrupt m ∷ os) n (let on : m ≤ d = within.0 in omega arith))
path_steps s (Time m v ∷ os) d n within from =
    follows_seq s (time_of (Time m v ∷ os) n) _ _ (path_next s (Time m v ∷ os) n (let on : m ≤ d = within.0 in omega arith))
path_steps s (Stop m ∷ os) d n within from =
    let P : (ℕ → Arch) → Type 0 = λ p. Follows s (time_of os n) (p n) (p (suc n)) in
    subst P (sym (path_stop s m os)) (path_steps s os d n within from)
path_steps s (Sync m ∷ os) d n within from =
    follows_seq s (time_of os n) _ _ (path_next s (Sync m ∷ os) n (let on : m ≤ d = within.0 in omega arith))

-- beyond what is committed no instruction was given a time
pub time_none : (os : List Order) (d n : ℕ) → Within os d → d < n → time_of os n ≡ None
time_none [] d n within beyond = refl
time_none (Set m addr ∷ os) d n within beyond = time_none os d n within beyond
time_none (Commit m ∷ os) d n within beyond = time_none os d n within beyond
time_none (Interrupt m ∷ os) d n within beyond = refl
time_none (Time m v ∷ os) d n within beyond =
    by_test (n == m) refl
  where
    by_test : (b : Bool) → (n == m) ≡ b → (if b then Some v else None) ≡ None
    by_test true is = let e : n ≡ m = eqb-true n m is in let on : m ≤ d = within.0 in absurd (omega arith)
    by_test false is = refl
time_none (Stop m ∷ os) d n within beyond = time_none os d n within beyond
time_none (Sync m ∷ os) d n within beyond = time_none os d n within.1 beyond

-- the orders stay within a later number
pub within_after : (os : List Order) (n m : ℕ) → n ≤ m → Within os n → Within os m
within_after [] n m later within = tt
within_after (Set k addr ∷ os) n m later within = within_after os n m later within
within_after (Commit k ∷ os) n m later within = within_after os n m later within
within_after (Interrupt k ∷ os) n m later within = (let on : k ≤ n = within.0 in omega arith, within_after os n m later within.1)
within_after (Time k v ∷ os) n m later within = (let on : k ≤ n = within.0 in omega arith, within_after os n m later within.1)
within_after (Stop k ∷ os) n m later within = within_after os n m later within
within_after (Sync k ∷ os) n m later within = (let on : k ≤ n = within.0 in omega arith, within_after os n m later within.1)

-- execution leaves what fetch sees
effect_text : (cause : Option Cause) (found : Found) (r : Result) (time : Option ℕ) (addr : ℕ) (a : Arch) → (effect_by cause found r time addr a).text ≡ a.text
unfolding retired trapped
effect_text None found r time addr a = refl
effect_text (Some cause) found r time addr a = refl

pub seq_text : (s : Setup) (time : Option ℕ) (a : Arch) → (seq s time a).text ≡ a.text
unfolding seq effect
seq_text s time a = effect_text (result_at s time a).cause (found_next s a) (result_at s time a) time a.pc a

follows_text : (s : Setup) (time : Option ℕ) (a b : Arch) → Follows s time a b → b.text ≡ a.text
follows_text s time a b f = ap (λ (x : Arch). x.text) f ∙ seq_text s time a

-- fetch sees the same at every instruction from what is committed on
pub path_text : (s : Setup) (os : List Order) (d k : ℕ) → Within os d → (path s os (d + k)).text ≡ (path s os d).text
path_text s os d zero within = let e : d + zero ≡ d = omega arith in ap (λ (n : ℕ). (path s os n).text) e
path_text s os d (suc k) within =
    let e : d + suc k ≡ suc (d + k) = omega arith in
    ap (λ (n : ℕ). (path s os n).text) e
    ∙ follows_text s (time_of os (d + k)) (path s os (d + k)) (path s os (suc (d + k))) (path_steps s os d (d + k) within (omega arith))
    ∙ path_text s os d k within
