-- What each step of the demand run makes of the orders told, of the number of the record to fetch and of the count of
-- records fetched.
use Rattle.std.proofs.Common.{◌≡◌, ℕ, zero, suc, ◌+◌, ◌-◌, ◌≤◌, ◌==◌, not, Bool, true, false, List, ◌∷◌, length, drop, refl, ap, sym, ◌∙◌, arith}
use Rattle.std.proofs.lemmas.Bool.{eq-eqb, ne_eqb}
use Rattle.rollback_cmds.specs.declared.order.Order.{Order}
use Rattle.rollback_cmds.specs.declared.order.Order.TheVariants.{Commit, Stop}
use Rattle.mono_model.specs.declared.setup.Setup.{Setup}
use Rattle.mono_model.specs.Demand.{next, Run, turn_at, turn, Place, step_by, step, told, needs_entry}
use Rattle.mono_model.specs.Split.{is_halted, has_appended}
use Rattle.machine_laws.proofs.SplitTurns.{IsOpening, MadeBy, quiet, commits_to, opens_at, both_at, stops_at, one, Turned, turn_turned}

-- which orders of a turn aren't told yet: none, or the one that opens an epoch behind a Commit
pub data Owes (p : Place) : Type 0 where
  owes_none : p.owed ≡ 0 → Owes p
  owes_one : p.owed ≡ 1 → (m : ℕ) (o : Order) (os : List Order) → p.run.demand.orders ≡ o ∷ Commit m ∷ os → IsOpening (next p.run.demand) o → is_halted p.run.at ≡ false → Owes p

-- `n` is the number of the record to fetch before the step, or one more where it appends one
pub data Steps (n : ℕ) (p q : Place) : Type 0 where
  tells_none : p.owed ≡ 0 → told q ≡ told p → next q.run.demand ≡ n → q.owed ≡ 0 → is_halted q.run.at ≡ false → Steps n p q
  tells_commit : (m : ℕ) → p.owed ≡ 0 → told q ≡ Commit m ∷ told p → m ≤ next q.run.demand → next q.run.demand ≤ n → (q.owed ≡ 0 → next q.run.demand ≡ n) → is_halted q.run.at ≡ false → Steps n p q
  tells_opening : (o : Order) → told q ≡ o ∷ told p → IsOpening (next q.run.demand) o → next q.run.demand ≤ n → q.owed ≡ 0 → is_halted q.run.at ≡ false → Steps n p q
  tells_stop : (m : ℕ) → told q ≡ Stop m ∷ told p → m ≤ n → q.owed ≡ 0 → is_halted q.run.at ≡ true → Steps n p q

pub record Stepped (p q : Place) : Type 0 where
  pub appends : Bool
  pub has : has_appended p q ≡ appends
  pub needs : appends ≡ true → needs_entry p ≡ true
  pub made : Steps (next p.run.demand + one appends) p q
  pub owes : Owes q

has_by : (a : Bool) (before after : ℕ) → after ≡ before + one a → not (after == before) ≡ a
has_by true before after is = ap not (ne_eqb after before (λ same. omega arith))
has_by false before after is = ap not (eq-eqb after before (omega arith))

told_is : (k j : ℕ) (xs ys : List Order) → k ≡ j → xs ≡ ys → drop k xs ≡ drop j ys
told_is k j xs ys e is = ap (λ (i : ℕ). drop i xs) e ∙ ap (λ (l : List Order). drop j l) is

-- a turn is made
module _ (r behind : Run) (a : Bool) where
  before : Place
  before = record { run = r; owed = 0 }

  after : Place
  after = record { run = behind; owed = length behind.demand.orders - length r.demand.orders - 1 }

  steps_by : MadeBy (next r.demand + one a) (next behind.demand) (is_halted behind.at) r.demand.orders behind.demand.orders → Steps (next r.demand + one a) before after
  unfolding before after
  steps_by (quiet is to on) =
      let none : after.owed ≡ 0 = omega (arith, ap (λ (l : List Order). length l) is) in
      tells_none refl (told_is after.owed 0 behind.demand.orders r.demand.orders none is) to none on
  steps_by (commits_to m is most to on) =
      let none : after.owed ≡ 0 = omega (arith, ap (λ (l : List Order). length l) is) in
      tells_commit m refl (told_is after.owed 0 behind.demand.orders (Commit m ∷ r.demand.orders) none is) most (omega arith) (λ all. to) on
  steps_by (opens_at o is opens to on) =
      let none : after.owed ≡ 0 = omega (arith, ap (λ (l : List Order). length l) is) in
      tells_opening o (told_is after.owed 0 behind.demand.orders (o ∷ r.demand.orders) none is) opens to none on
  steps_by (both_at m o is opens most to on) =
      let some : after.owed ≡ 1 = omega (arith, ap (λ (l : List Order). length l) is) in
      tells_commit m refl (told_is after.owed 1 behind.demand.orders (o ∷ Commit m ∷ r.demand.orders) some is) most to (λ all. absurd (omega arith)) on
  steps_by (stops_at m is most on) =
      let none : after.owed ≡ 0 = omega (arith, ap (λ (l : List Order). length l) is) in
      tells_stop m (told_is after.owed 0 behind.demand.orders (Stop m ∷ r.demand.orders) none is) most none on

  owes_by : MadeBy (next r.demand + one a) (next behind.demand) (is_halted behind.at) r.demand.orders behind.demand.orders → Owes after
  unfolding after
  owes_by (quiet is to on) = owes_none (omega (arith, ap (λ (l : List Order). length l) is))
  owes_by (commits_to m is most to on) = owes_none (omega (arith, ap (λ (l : List Order). length l) is))
  owes_by (opens_at o is opens to on) = owes_none (omega (arith, ap (λ (l : List Order). length l) is))
  owes_by (both_at m o is opens most to on) = owes_one (omega (arith, ap (λ (l : List Order). length l) is)) m o r.demand.orders is opens on
  owes_by (stops_at m is most on) = owes_none (omega (arith, ap (λ (l : List Order). length l) is))

pub by_turn : (r behind : Run) → Turned r.at r.demand behind → Stepped (record { run = r; owed = 0 }) (record { run = behind; owed = length behind.demand.orders - length r.demand.orders - 1 })
unfolding before after
by_turn r behind turned = record {
  appends = turned.appends;
  has = has_by turned.appends r.demand.machine.counts.fetched behind.demand.machine.counts.fetched turned.fetched;
  needs = turned.try;
  made = steps_by r behind turned.appends turned.made;
  owes = owes_by r behind turned.appends turned.made;
}

-- an order that was owed is told
pub by_owed : (r : Run) (owed : ℕ) → Owes (record { run = r; owed = suc owed }) → Stepped (record { run = r; owed = suc owed }) (record { run = r; owed = owed })
by_owed r owed (owes_none is) = absurd (omega arith)
by_owed r owed (owes_one is m o os orders opens on) =
    let none : owed ≡ 0 = omega arith in
    let n = next r.demand in
    record {
      appends = false;
      has = has_by false r.demand.machine.counts.fetched r.demand.machine.counts.fetched (omega arith);
      needs = λ e. cc;
      made = tells_opening o (told_is owed 0 r.demand.orders (o ∷ Commit m ∷ os) none orders ∙ ap (λ (l : List Order). o ∷ l) (sym (told_is (suc owed) 1 r.demand.orders (o ∷ Commit m ∷ os) is orders))) opens (omega arith) none on;
      owes = owes_none none;
    }

by_step : (s : Setup) (owed : ℕ) (r : Run) → is_halted r.at ≡ false → Owes (record { run = r; owed = owed }) → Stepped (record { run = r; owed = owed }) (step_by s owed r)
unfolding turn
by_step s zero r on owes = by_turn r (turn_at s r.at r.demand) (turn_turned s r.at r.demand on)
by_step s (suc owed) r on owes = by_owed r owed owes

pub step_stepped : (s : Setup) (p : Place) → is_halted p.run.at ≡ false → Owes p → Stepped p (step s p)
unfolding step
step_stepped s p on owes = by_step s p.owed p.run on owes
