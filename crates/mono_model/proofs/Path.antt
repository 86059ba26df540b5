-- How a path goes on, and where an order bends it.
use Rattle.std.proofs.Common.{◌≡◌, ℕ, zero, suc, ◌+◌, ◌-◌, ◌≤◌, ◌<◌, nat_lt, Option, None, List, [], ◌∷◌, refl, ap, sym, ◌∙◌, arith}
use Rattle.std.proofs.lemmas.Bool.{lt-ltb, le-ltb, cond-true, cond-false}
use Rattle.rollback_cmds.specs.declared.order.Order.{Order}
use Rattle.rollback_cmds.specs.declared.order.Order.TheVariants.{Set, Commit, Interrupt, Time, Stop, Sync}
use Rattle.mono_model.specs.declared.setup.Setup.{Setup}
use Rattle.mono_model.specs.Arch.{Arch, start, interrupted, synced}
use Rattle.mono_model.specs.Sequence.{seq}
use Rattle.mono_model.specs.Path.{path, time_of, runs, spliced, GoesOn}
use Rattle.mono_model.specs.Demand.{number_of}

-- a spliced path below its number, at it, and from one instruction to the next
module _ (s : Setup) (times : ℕ → Option ℕ) (below : ℕ → Arch) (m : ℕ) (a : Arch) where
  pub spliced_below : (n : ℕ) → n < m → spliced s times below m a n ≡ below n
  spliced_below n under = cond-true (nat_lt n m) (below n) (runs s times m (n - m) a) (lt-ltb n m under)

  pub spliced_from : (n : ℕ) → m ≤ n → spliced s times below m a n ≡ runs s times m (n - m) a
  spliced_from n from = cond-false (nat_lt n m) (below n) (runs s times m (n - m) a) (le-ltb n m from)

  pub spliced_at : spliced s times below m a m ≡ a
  spliced_at =
      let e : m - m ≡ zero = omega arith in
      spliced_from m (omega arith) ∙ ap (λ (k : ℕ). runs s times m k a) e

  pub spliced_next : (n : ℕ) → m ≤ n → spliced s times below m a (suc n) ≡ seq s (times n) (spliced s times below m a n)
  spliced_next n from =
      let e : suc n - m ≡ suc (n - m) = omega arith in
      let f : m + (n - m) ≡ n = omega arith in
      spliced_from (suc n) (omega arith)
      ∙ ap (λ (k : ℕ). runs s times m k a) e
      ∙ ap (λ (k : ℕ). seq s (times k) (runs s times m (n - m) a)) f
      ∙ ap (λ (x : Arch). seq s (times n) x) (sym (spliced_from n from))

-- the path goes on by execution
pub path_next : (s : Setup) (os : List Order) (n : ℕ) → GoesOn os n → path s os (suc n) ≡ seq s (time_of os n) (path s os n)
unfolding path
path_next s [] n on = refl
path_next s (Set m addr ∷ os) n on = spliced_next s (time_of os) (path s os) m (record (path s os m) { pc = addr }) n on
path_next s (Commit m ∷ os) n on = path_next s os n on
path_next s (Interrupt m ∷ os) n on = spliced_next s (λ k. None) (path s os) m (interrupted (path s os m)) n on
path_next s (Time m v ∷ os) n on = spliced_next s (time_of (Time m v ∷ os)) (path s os) m (path s os m) n on
path_next s (Stop m ∷ os) n on = path_next s os n on
path_next s (Sync m ∷ os) n on = spliced_next s (time_of os) (path s os) m (synced s (path s os m)) n on

-- an order leaves the path below its number
pub path_below : (s : Setup) (o : Order) (os : List Order) (n : ℕ) → n < number_of o → path s (o ∷ os) n ≡ path s os n
unfolding path
path_below s (Set m addr) os n under = spliced_below s (time_of os) (path s os) m (record (path s os m) { pc = addr }) n under
path_below s (Commit m) os n under = refl
path_below s (Interrupt m) os n under = spliced_below s (λ k. None) (path s os) m (interrupted (path s os m)) n under
path_below s (Time m v) os n under = spliced_below s (time_of (Time m v ∷ os)) (path s os) m (path s os m) n under
path_below s (Stop m) os n under = refl
path_below s (Sync m) os n under = spliced_below s (time_of os) (path s os) m (synced s (path s os m)) n under

-- the state at an order's number
pub path_at_set : (s : Setup) (m addr : ℕ) (os : List Order) → path s (Set m addr ∷ os) m ≡ record (path s os m) { pc = addr }
unfolding path
path_at_set s m addr os = spliced_at s (time_of os) (path s os) m (record (path s os m) { pc = addr })

pub path_at_interrupt : (s : Setup) (m : ℕ) (os : List Order) → path s (Interrupt m ∷ os) m ≡ interrupted (path s os m)
unfolding path
path_at_interrupt s m os = spliced_at s (λ k. None) (path s os) m (interrupted (path s os m))

pub path_at_time : (s : Setup) (m v : ℕ) (os : List Order) → path s (Time m v ∷ os) m ≡ path s os m
unfolding path
path_at_time s m v os = spliced_at s (time_of (Time m v ∷ os)) (path s os) m (path s os m)

pub path_at_sync : (s : Setup) (m : ℕ) (os : List Order) → path s (Sync m ∷ os) m ≡ synced s (path s os m)
unfolding path
path_at_sync s m os = spliced_at s (time_of os) (path s os) m (synced s (path s os m))

-- an order that doesn't bend it leaves all of the path
pub path_commit : (s : Setup) (m : ℕ) (os : List Order) → path s (Commit m ∷ os) ≡ path s os
unfolding path
path_commit s m os = λ i n. path s os n

pub path_stop : (s : Setup) (m : ℕ) (os : List Order) → path s (Stop m ∷ os) ≡ path s os
unfolding path
path_stop s m os = λ i n. path s os n

pub path-commit : (s : Setup) (m : ℕ) (os : List Order) (n : ℕ) → path s (Commit m ∷ os) n ≡ path s os n
unfolding path
path-commit s m os n = refl

pub path-stop : (s : Setup) (m : ℕ) (os : List Order) (n : ℕ) → path s (Stop m ∷ os) n ≡ path s os n
unfolding path
path-stop s m os n = refl

pub path_first : (s : Setup) → path s [] 0 ≡ start s
unfolding path
path_first s = refl

-- it goes on from later instructions too
pub goes_on_after : (os : List Order) (n m : ℕ) → n ≤ m → GoesOn os n → GoesOn os m
goes_on_after [] n m later on = tt
goes_on_after (Set k addr ∷ os) n m later on = omega arith
goes_on_after (Commit k ∷ os) n m later on = goes_on_after os n m later on
goes_on_after (Interrupt k ∷ os) n m later on = omega arith
goes_on_after (Time k v ∷ os) n m later on = omega arith
goes_on_after (Stop k ∷ os) n m later on = goes_on_after os n m later on
goes_on_after (Sync k ∷ os) n m later on = omega arith

pub goes_on_more : (os : List Order) (n : ℕ) → GoesOn os n → GoesOn os (n + 1)
goes_on_more os n on = goes_on_after os n (n + 1) (omega arith) on
