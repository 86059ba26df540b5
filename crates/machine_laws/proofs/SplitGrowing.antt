-- What a functional side has committed of the output is the beginning of the run's.
use Rattle.std.proofs.Common.{◌≡◌, ℕ, zero, ◌+◌, ◌-◌, ◌≤◌, ◌<◌, Option, None, List, [], ◌∷◌, ◌++◌, refl, ap, sym, ◌∙◌, subst, arith, ⊎_elim, append_assoc}
use Rattle.std.proofs.lemmas.Bool.{cases_lt}
use Rattle.rollback_cmds.specs.declared.order.Order.{Order}
use Rattle.rollback_cmds.specs.declared.order.Order.TheVariants.{Set, Commit, Interrupt, Time, Stop, Sync}
use Rattle.mono_model.specs.declared.setup.Setup.{Setup}
use Rattle.mono_model.specs.Arch.{Arch, start, trapped, interrupted, synced}
use Rattle.mono_model.specs.Path.{path, time_of, runs, spliced}
use Rattle.mono_model.specs.Machine.{Machine}
use Rattle.mono_model.specs.Cycle.{mono}
use Rattle.mono_model.specs.Demand.{Place, told}
use Rattle.mono_model.specs.Split.{Split}
use Rattle.mono_model.proofs.Path.{spliced_below, spliced_from}
use Rattle.machine_laws.specs.Numbers.{last_commit, AreNumbered, AreAtCommit}
use Rattle.machine_laws.specs.Output.{GrowsTo}
use Rattle.machine_laws.specs.Reached.{IsReached}
use Rattle.machine_laws.specs.SplitLaw.{IsRunIn}
use Rattle.machine_laws.specs.Told.{AreTold}
use Rattle.machine_laws.specs.DemandRun.{DemandRun}
use Rattle.machine_laws.proofs.Growing.{grows_none, grows_on, grows_to}
use Rattle.machine_laws.proofs.Halting.{run_halts}
use Rattle.machine_laws.proofs.Laws.{IsDemandRun, grows_on as told_on, still_from}
use Rattle.machine_laws.proofs.MonoRun.{mono_laws}
use Rattle.machine_laws.proofs.OutputGrows.{seq_grows}
use Rattle.machine_laws.proofs.SplitOutput.{output_kept, told_kept}
use Rattle.machine_laws.proofs.SplitReached.{reached_run}
use Rattle.machine_laws.proofs.SplitStaying.{rises, obeyed_first}

-- Steps only add to the output.
runs_grow : (s : Setup) (times : ℕ → Option ℕ) (first : ℕ) (a : Arch) (n m : ℕ) → n ≤ m
    → GrowsTo (runs s times first n a).output (runs s times first m a).output
runs_grow s times first a =
    grows_to (λ (x : Arch). x.output) (λ (n : ℕ). runs s times first n a)
    (λ n. seq_grows s (times (first + n)) (runs s times first n a))

between : (a b c d : List ℕ) → a ≡ c → b ≡ d → GrowsTo c d → GrowsTo a b
between a b c d first second grows =
    subst (λ (x : List ℕ). GrowsTo x b) (sym first) (subst (λ (x : List ℕ). GrowsTo c x) (sym second) grows)

-- So does a path that is bent at a number, where the bend leaves the output and the path below it only adds to it.
splices_grow : (s : Setup) (times : ℕ → Option ℕ) (below : ℕ → Arch) (m : ℕ) (a : Arch) → GrowsTo (below m).output a.output
    → ((i j : ℕ) → i ≤ j → GrowsTo (below i).output (below j).output)
    → (i j : ℕ) → i ≤ j → GrowsTo (spliced s times below m a i).output (spliced s times below m a j).output
splices_grow s times below m a bend grows i j later =
    ⊎_elim both (λ from. ⊎_elim (over from) (beyond from) (cases_lt i m)) (cases_lt j m)
  where
    out : ℕ → List ℕ
    out n = (spliced s times below m a n).output

    before : (n : ℕ) → n < m → out n ≡ (below n).output
    before n under = ap (λ (x : Arch). x.output) (spliced_below s times below m a n under)

    after : (n : ℕ) → m ≤ n → out n ≡ (runs s times m (n - m) a).output
    after n from = ap (λ (x : Arch). x.output) (spliced_from s times below m a n from)

    both : j < m → GrowsTo (out i) (out j)
    both under = between (out i) (out j) (below i).output (below j).output (before i (omega arith)) (before j under) (grows i j later)

    over : m ≤ j → i < m → GrowsTo (out i) (out j)
    over from under =
        let last = runs s times m (j - m) a in
        between (out i) (out j) (below i).output last.output (before i under) (after j from)
        (grows_on (below i).output (below m).output last.output (grows i m (omega arith))
        (grows_on (below m).output a.output last.output bend (runs_grow s times m a zero (j - m) (omega arith))))

    beyond : m ≤ j → m ≤ i → GrowsTo (out i) (out j)
    beyond from there =
        between (out i) (out j) (runs s times m (i - m) a).output (runs s times m (j - m) a).output
        (after i there) (after j from) (runs_grow s times m a (i - m) (j - m) (omega arith))

-- Along a path the output only grows.
pub path_grows : (s : Setup) (os : List Order) (i j : ℕ) → i ≤ j → GrowsTo (path s os i).output (path s os j).output
unfolding path trapped synced
path_grows s [] i j later = runs_grow s (λ k. None) zero (start s) i j later
path_grows s (Set m addr ∷ os) i j later =
    splices_grow s (time_of os) (path s os) m (record (path s os m) { pc = addr }) (grows_none (path s os m).output) (path_grows s os) i j later
path_grows s (Commit m ∷ os) i j later = path_grows s os i j later
path_grows s (Interrupt m ∷ os) i j later =
    splices_grow s (time_of (Interrupt m ∷ os)) (path s os) m (interrupted (path s os m)) (grows_none (path s os m).output) (path_grows s os) i j later
path_grows s (Time m v ∷ os) i j later =
    splices_grow s (time_of (Time m v ∷ os)) (path s os) m (path s os m) (grows_none (path s os m).output) (path_grows s os) i j later
path_grows s (Stop m ∷ os) i j later = path_grows s os i j later
path_grows s (Sync m ∷ os) i j later =
    splices_grow s (time_of os) (path s os) m (synced s (path s os m)) (grows_none (path s os m).output) (path_grows s os) i j later

-- Orders obeyed after others leave the output that these commit, and commit no less.
commit_kept : (s : Setup) (os later : List Order) → AreNumbered s (later ++ os) → AreAtCommit (later ++ os)
    → (path s (later ++ os) (last_commit os)).output ≡ (path s os (last_commit os)).output
commit_kept s os [] numbered kinds = refl
commit_kept s os (o ∷ later) numbered kinds =
    output_kept s o (later ++ os) (last_commit os) (omega (arith, numbered.0.least, rises os later kinds.1))
    ∙ commit_kept s os later numbered.1 kinds.1

commit_grows : (s : Setup) (os later : List Order) → AreNumbered s (later ++ os) → AreAtCommit (later ++ os)
    → GrowsTo (path s os (last_commit os)).output (path s (later ++ os) (last_commit (later ++ os))).output
commit_grows s os later numbered kinds =
    subst (λ (b : List ℕ). GrowsTo b (path s (later ++ os) (last_commit (later ++ os))).output) (commit_kept s os later numbered kinds)
    (path_grows s (later ++ os) (last_commit os) (last_commit (later ++ os)) (rises os later kinds))

module _ {s : Setup} {r : DemandRun} (laws : IsDemandRun s r) where
  -- what is committed under the orders told is the machine's output
  told_is : (k : ℕ) → (r.places k).run.demand.machine.arch.output ≡ (path s (told (r.places k)) (last_commit (told (r.places k)))).output
  told_is k =
      let p : Place = r.places k in
      ap (λ (a : Arch). a.output) (laws.related k).arch ∙ told_kept s p (laws.owes k)
      ∙ ap (λ (n : ℕ). (path s (told p) n).output) (laws.done k)

  -- so what the first orders told commit is the beginning of the output at the end
  pub told_begin : 1 ≤ s.cycles → (k : ℕ) (front os : List Order) → told (r.places k) ≡ front ++ os
      → GrowsTo (path s os (last_commit os)).output (r.places r.bound).run.demand.machine.arch.output
  told_begin limited k front os first =
      let last = r.bound + k in
      let still : r.places last ≡ r.places r.bound = still_from laws limited last (omega arith) in
      let more = told_on laws k r.bound in
      let later = more.later ++ front in
      let all : told (r.places last) ≡ later ++ os =
      more.orders ∙ ap (λ (l : List Order). more.later ++ l) first ∙ sym (append_assoc more.later front os) in
      let written : (path s (later ++ os) (last_commit (later ++ os))).output ≡ (r.places r.bound).run.demand.machine.arch.output =
      ap (λ (l : List Order). (path s l (last_commit l)).output) (sym all) ∙ sym (told_is last)
      ∙ ap (λ (p : Place). p.run.demand.machine.arch.output) still in
      subst (λ (b : List ℕ). GrowsTo (path s os (last_commit os)).output b) written
      (commit_grows s os later (subst (AreNumbered s) all (laws.numbered last)) (subst AreAtCommit all (laws.kinds last)))

  -- and so is what the functional side has committed
  pub committed_begins : 1 ≤ s.cycles → (x : Split) → IsRunIn s r x
      → GrowsTo (path s x.obeyed x.committed_number).output (r.places r.bound).run.demand.machine.arch.output
  committed_begins limited x is =
      let first = obeyed_first laws x is in
      subst (λ (n : ℕ). GrowsTo (path s x.obeyed n).output (r.places r.bound).run.demand.machine.arch.output) (sym is.counted.committed)
      (told_begin limited is.steps first.later x.obeyed first.is)

-- of the monolithic machine's run
pub split_begins : (s : Setup) (x : Split) → 1 ≤ s.cycles → IsReached s x
    → GrowsTo (path s x.obeyed x.committed_number).output (mono s s.cycles).arch.output
split_begins s x limited reached =
    subst (λ (m : Machine). GrowsTo (path s x.obeyed x.committed_number).output m.arch.output) (run_halts s limited).machine
    (committed_begins (mono_laws s) limited x (reached_run s x reached))

pub orders_begin_output : (s : Setup) (os : List Order) (n : ℕ) → 1 ≤ s.cycles → AreTold s os → n ≤ last_commit os
    → GrowsTo (path s os n).output (mono s s.cycles).arch.output
orders_begin_output s os n limited are most =
    grows_on (path s os n).output (path s os (last_commit os)).output (mono s s.cycles).arch.output
    (path_grows s os n (last_commit os) most)
    (subst (λ (m : Machine). GrowsTo (path s os (last_commit os)).output m.arch.output) (run_halts s limited).machine
    (told_begin (mono_laws s) limited are.steps [] os are.are))
