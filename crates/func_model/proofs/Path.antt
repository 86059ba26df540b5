-- Where a path goes on, and how many instructions retire along it.
use Rattle.std.proofs.Common.{◌≡◌, refl, ℕ, zero, suc, ◌+◌, ◌-◌, ◌≤◌, Option, None, List, [], ◌∷◌, sym, subst, arith, inl, inr}
use Rattle.std.proofs.lemmas.Bool.{cases_lt}
use Rattle.rollback_cmds.specs.declared.order.Order.{Order}
use Rattle.rollback_cmds.specs.declared.order.Order.TheVariants.{Set, Commit, Interrupt, Time, Stop, Sync}
use Rattle.mono_model.specs.declared.setup.Setup.{Setup}
use Rattle.mono_model.specs.Arch.{Arch, start, trapped, interrupted, synced}
use Rattle.mono_model.specs.Sequence.{seq, found_next, result_at}
use Rattle.mono_model.specs.Path.{path, time_of, runs, spliced, GoesOn}
use Rattle.mono_model.proofs.Path.{spliced_below, spliced_from}
use Rattle.func_model.proofs.Counts.{effect_retired}

-- it goes on from an order that bends it, and past one that doesn't
pub goes_on_set : (m addr : ℕ) (os : List Order) → GoesOn (Set m addr ∷ os) m
goes_on_set m addr os = omega arith

pub goes_on_interrupt : (m : ℕ) (os : List Order) → GoesOn (Interrupt m ∷ os) m
goes_on_interrupt m os = omega arith

pub goes_on_time : (m v : ℕ) (os : List Order) → GoesOn (Time m v ∷ os) m
goes_on_time m v os = omega arith

pub goes_on_sync : (m : ℕ) (os : List Order) → GoesOn (Sync m ∷ os) m
goes_on_sync m os = omega arith

-- one instruction retires at most
seq_retired : (s : Setup) (time : Option ℕ) (a : Arch) → (seq s time a).csrs.retired ≤ a.csrs.retired + 1
unfolding seq
seq_retired s time a = omega (arith, effect_retired (found_next s a) (result_at s time a) time a.pc a)

runs_retired : (s : Setup) (times : ℕ → Option ℕ) (first count : ℕ) (a : Arch) → (runs s times first count a).csrs.retired ≤ a.csrs.retired + count
runs_retired s times first zero a = omega arith
runs_retired s times first (suc count) a =
    omega (arith, runs_retired s times first count a, seq_retired s (times (first + count)) (runs s times first count a))

spliced_retired : (s : Setup) (times : ℕ → Option ℕ) (below : ℕ → Arch) (m : ℕ) (a : Arch) → ((k : ℕ) → (below k).csrs.retired ≤ k) → a.csrs.retired ≤ m →
    (n : ℕ) → (spliced s times below m a n).csrs.retired ≤ n
spliced_retired s times below m a lower at n = elim (cases_lt n m) [
  | inl under ↦ subst (λ (x : Arch). x.csrs.retired ≤ n) (sym (spliced_below s times below m a n under)) (lower n)
  | inr from ↦ subst (λ (x : Arch). x.csrs.retired ≤ n) (sym (spliced_from s times below m a n from)) (omega (arith, runs_retired s times m (n - m) a))
]

start_retired : (s : Setup) → (start s).csrs.retired ≡ 0
unfolding start
start_retired s = refl

interrupted_retired : (a : Arch) → (interrupted a).csrs.retired ≡ a.csrs.retired
unfolding trapped
interrupted_retired a = refl

synced_retired : (s : Setup) (a : Arch) → (synced s a).csrs.retired ≡ a.csrs.retired
unfolding synced
synced_retired s a = refl

-- before instruction `n` no more than `n` instructions retired
pub retired_within : (s : Setup) (os : List Order) (n : ℕ) → (path s os n).csrs.retired ≤ n
unfolding path
retired_within s [] n = omega (arith, runs_retired s (λ k. None) 0 n (start s), start_retired s)
retired_within s (Set m addr ∷ os) n =
    spliced_retired s (time_of os) (path s os) m (record (path s os m) { pc = addr }) (retired_within s os) (retired_within s os m) n
retired_within s (Commit m ∷ os) n = retired_within s os n
retired_within s (Interrupt m ∷ os) n =
    spliced_retired s (λ k. None) (path s os) m (interrupted (path s os m)) (retired_within s os)
    (omega (arith, retired_within s os m, interrupted_retired (path s os m))) n
retired_within s (Time m v ∷ os) n = spliced_retired s (time_of (Time m v ∷ os)) (path s os) m (path s os m) (retired_within s os) (retired_within s os m) n
retired_within s (Stop m ∷ os) n = retired_within s os n
retired_within s (Sync m ∷ os) n =
    spliced_retired s (time_of os) (path s os) m (synced s (path s os m)) (retired_within s os)
    (omega (arith, retired_within s os m, synced_retired s (path s os m))) n
