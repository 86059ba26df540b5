-- A step of the timing side is that of the demand run.
use Rattle.std.proofs.Common.{◌≡◌, ◌≤◌, ℕ, suc, ◌+◌, ◌-◌, ◌^◌, ◌==◌, ◌||◌, min, if◌then◌else◌, IfSome, Bool, true, false, Option, Some, None, List, [], ◌∷◌, ◌++◌, take, drop, length, length-append, refl, ap, sym, ◌∙◌, subst, arith}
use Rattle.std.proofs.lemmas.Bool.{eq-eqb}
use Rattle.rollback_cmds.specs.declared.order.Order.{Order}
use Rattle.rollback_cmds.specs.declared.order.Order.TheVariants.{Commit, Stop}
use Rattle.rollback_cmds.specs.Order.{opens_epoch_of}
use Rattle.trace_entry.specs.declared.Entry.{Entry}
use Rattle.mono_model.specs.declared.setup.Setup.{Setup}
use Rattle.mono_model.specs.Path.{entry, openings}
use Rattle.mono_model.specs.Demand.{next, At, Place, told, needs_entry, needed_entry}
use Rattle.mono_model.specs.Split.{is_halted, told_by, opens, has_appended, held_after}
use Rattle.machine_laws.proofs.SplitSteps.{Owes, owes_none, owes_one, Steps, tells_none, tells_commit, tells_opening, tells_stop, Stepped}
use Rattle.machine_laws.proofs.SplitTurns.{one}
use Rattle.machine_laws.proofs.SplitEntries.{no_opening}
use Rattle.machine_laws.proofs.SplitAhead.{dropped_by}
use Rattle.machine_laws.proofs.Telling.{by_none, by_one}
use Rattle.timing_core.specs.declared.orders.Orders.{Orders}
use Rattle.timing_core.specs.Orders.{newest_first, orders_in}
use Rattle.time_model.specs.declared.state.TimingState.{TimingState}
use Rattle.time_model.specs.declared.turn.Turn.{Turn}
use Rattle.time_model.specs.Turns.{turn_told}
use Rattle.time_model.specs.Piped.{Piped, IsPiped, place_of}
use Rattle.time_model.specs.Standing.{SideStandsFor, owed_in, untold, is_told_out, IsMade}
use Rattle.time_model.specs.Telling.{behind_first, kept_by, told_behind}
use Rattle.time_model.specs.Turning.{IsTold}
use Rattle.time_model.proofs.Owing.{stands_at}

-- a run that isn't over goes on
pub goes_on : (p : Place) → Owes p → is_told_out p ≡ false → is_halted p.run.at ≡ false
goes_on p owes on = by_test (is_halted p.run.at) refl owes
  where
    by_test : (b : Bool) → is_halted p.run.at ≡ b → Owes p → is_halted p.run.at ≡ false
    by_test false is owes = is
    by_test true is (owes_none none) = let zero_is : (p.owed == 0) ≡ true = eq-eqb p.owed 0 none in cc
    by_test true is (owes_one some m o os orders opens still) = still

-- The held entry stays the one that is needed.
module _ (s : Setup) (p q : Place) (x : Stepped p q) (h : Option Entry) (right : p.owed ≡ 0 → IfSome h (λ e. e ≡ needed_entry s p)) (all : q.owed ≡ 0) where
  abbrev IsNeeded : Option Entry → Type 0
  IsNeeded held = IfSome held (λ e. e ≡ needed_entry s q)

  none_needed : held_after (told_by p q) p q h ≡ None → IsNeeded (held_after (told_by p q) p q h)
  none_needed none = subst IsNeeded (sym none) tt

  if_needed : (b : Bool) → IsNeeded h → IsNeeded (if b then None else h)
  if_needed true is = tt
  if_needed false is = is

  -- with the same number, and no epoch opened
  same_needed : p.owed ≡ 0 → needed_entry s q ≡ needed_entry s p → IsNeeded h
  same_needed none same = subst (λ (n : Entry). IfSome h (λ e. e ≡ n)) (sym same) (right none)

  settled : (r : Place) → r.owed ≡ 0 → needed_entry s r ≡ entry s (told r) (next r.run.demand)
  settled r none = ap (λ (k : ℕ). entry s (drop k r.run.demand.orders) (next r.run.demand)) (sym none)

  by_list : (later : List Order) → openings later ≡ 0 → p.owed ≡ 0 → told q ≡ later ++ told p → next q.run.demand ≡ next p.run.demand + one x.appends →
      IsNeeded (held_after (told_by p q) p q h)
  by_list later none owes told_is to = by_test x.appends refl
    where
      by_test : (b : Bool) → x.appends ≡ b → IsNeeded (held_after (told_by p q) p q h)
      by_test true is = none_needed (appended_drops (opens (told_by p q)) (has_appended p q) (x.has ∙ is))
        where
          appended_drops : (a b : Bool) → b ≡ true → (if a || b then None else h) ≡ None
          appended_drops true b is = refl
          appended_drops false true is = refl
          appended_drops false false is = cc
      by_test false is =
          let same : next q.run.demand ≡ next p.run.demand = omega (arith, to, ap one is) in
          let needed : needed_entry s q ≡ needed_entry s p =
          settled q all ∙ ap (λ (os : List Order). entry s os (next q.run.demand)) told_is ∙ no_opening s later (told p) (next q.run.demand) none
          ∙ ap (entry s (told p)) same ∙ sym (settled p owes) in
          if_needed (opens (told_by p q) || has_appended p q) (same_needed owes needed)

  by_opening : (o : Order) → told q ≡ o ∷ told p → opens_epoch_of o ≡ true → IsNeeded (held_after (told_by p q) p q h)
  by_opening o told_is opened = none_needed (dropped_by (told_by p q) p q h (ap opens (by_one p q o told_is) ∙ opened))

  by_steps : Steps (next p.run.demand + one x.appends) p q → IsNeeded (held_after (told_by p q) p q h)
  by_steps (tells_none owes told_is to none on) = by_list [] refl owes told_is to
  by_steps (tells_commit m owes told_is least most to on) = by_list (Commit m ∷ []) refl owes told_is (to all)
  by_steps (tells_opening o told_is opening most none on) = by_opening o told_is opening.opens
  by_steps (tells_stop m told_is most none on) = by_opening (Stop m) told_is refl

  pub held_needed : IsNeeded (held_after (told_by p q) p q h)
  held_needed = by_steps x.made

-- the epoch behind an order
abbrev pub raised : Option Order → ℕ → ℕ
raised told epoch = if opens told then epoch + 1 else epoch

raised_is : (b : Bool) (epoch : ℕ) → (if b then 1 else 0) + epoch ≡ (if b then epoch + 1 else epoch)
raised_is true epoch = omega arith
raised_is false epoch = omega arith

-- Of the orders that stand to be told, two at most, the first is told, and a second is owed.
record IsTelling (p q : Place) (first second : Option Order) : Type 0 where
  first_is : first ≡ told_by p q
  owed : owed_in (behind_first first second) ≡ untold q
  epoch : raised first (openings (told p)) ≡ openings (told q)

telling_of : (p q : Place) (first second : Option Order) → newest_first first second ++ told p ≡ q.run.demand.orders → q.owed ≡ length (newest_first first second) - 1 → IsTelling p q first second
telling_of p q None second orders count =
    let none : q.owed ≡ 0 = omega (arith, count) in
    let same : told q ≡ told p = ap (λ (k : ℕ). drop k q.run.demand.orders) none ∙ sym orders in
    record {
      first_is = sym (by_none p q same);
      owed = ap (λ (k : ℕ). take k q.run.demand.orders) (sym none);
      epoch = ap openings (sym same);
    }
telling_of p q (Some o) None orders count =
    let none : q.owed ≡ 0 = omega (arith, count) in
    let one : told q ≡ o ∷ told p = ap (λ (k : ℕ). drop k q.run.demand.orders) none ∙ sym orders in
    record {
      first_is = sym (by_one p q o one);
      owed = ap (λ (k : ℕ). take k q.run.demand.orders) (sym none);
      epoch = sym (raised_is (opens_epoch_of o) (openings (told p))) ∙ ap openings (sym one);
    }
telling_of p q (Some o) (Some more) orders count =
    let some : q.owed ≡ 1 = omega (arith, count) in
    let one : told q ≡ o ∷ told p = ap (λ (k : ℕ). drop k q.run.demand.orders) some ∙ ap (λ (l : List Order). drop 1 l) (sym orders) in
    record {
      first_is = sym (by_one p q o one);
      owed = sym (ap (λ (k : ℕ). take k q.run.demand.orders) some ∙ ap (λ (l : List Order). take 1 l) (sym orders));
      epoch = sym (raised_is (opens_epoch_of o) (openings (told p))) ∙ ap openings (sym one);
    }

-- so many of them are left, whether they are those of a turn or were owed
left_over : (p q : Place) → Owes p → (p.owed ≡ 0 → q.owed ≡ length q.run.demand.orders - length p.run.demand.orders - 1) →
    ((more : ℕ) → p.owed ≡ suc more → q ≡ record { run = p.run; owed = more }) → (due : List Order) → due ++ told p ≡ q.run.demand.orders → q.owed ≡ length due - 1
left_over p q (owes_none none) turned owing due is =
    let all : told p ≡ p.run.demand.orders = ap (λ (k : ℕ). drop k p.run.demand.orders) none in
    let count = turned none in
    omega (arith, count, ap (λ (l : List Order). length l) is, length-append due (told p), ap (λ (l : List Order). length l) all)
left_over p q (owes_one some m o os orders opens on) turned owing due is =
    let same : q ≡ record { run = p.run; owed = 0 } = owing 0 some in
    let rest : told p ≡ Commit m ∷ os = ap (λ (k : ℕ). drop k p.run.demand.orders) some ∙ ap (λ (l : List Order). drop 1 l) orders in
    omega (
      arith,
      ap (λ (x : Place). x.owed) same,
      ap (λ (x : Place). length x.run.demand.orders) same,
      ap (λ (l : List Order). length l) orders,
      ap (λ (l : List Order). length l) is,
      length-append due (told p),
      ap (λ (l : List Order). length l) rest,
    )

epoch_is : (b : Bool) (epoch : ℕ) → epoch ≤ 2 ^ 44 → (if b then min (epoch + 1) (2 ^ 64 - 1) else epoch) ≡ (if b then epoch + 1 else epoch)
epoch_is true epoch small = omega arith
epoch_is false epoch small = refl

kept_is : (a b : Bool) (h : Option Entry) → (if a then None else (if b then None else h)) ≡ (if a || b then None else h)
kept_is true b h = refl
kept_is false true h = refl
kept_is false false h = refl

-- a side behind the first of a turn's orders
abbrev pub told_side : {P A : Type 0} → TimingState P A → Orders → TimingState P A
told_side mid orders = record mid { telling = told_behind orders mid.telling }

module _ {P A : Type 0} (piped : Piped P A) (laws : IsPiped piped) (s : Setup) (k : ℕ) where
  -- what the next step makes
  next_stepped : is_told_out (place_of piped s k) ≡ false → Stepped (place_of piped s k) (place_of piped s (suc k))
  next_stepped on = laws.stepped s k (goes_on (place_of piped s k) (laws.owes s k) on)

  -- only a try appends
  pub none_appended : is_told_out (place_of piped s k) ≡ false → needs_entry (place_of piped s k) ≡ false → has_appended (place_of piped s k) (place_of piped s (suc k)) ≡ false
  none_appended on needs = by_test x.appends refl
    where
      x : Stepped (place_of piped s k) (place_of piped s (suc k))
      x = next_stepped on

      by_test : (b : Bool) → x.appends ≡ b → has_appended (place_of piped s k) (place_of piped s (suc k)) ≡ false
      by_test false is = x.has ∙ is
      by_test true is = let needed = x.needs is in cc

  -- a step that is made
  pub step_made : (old mid : TimingState P A) (orders : Orders) (turn : Turn) → piped.allows s → SideStandsFor piped s k old → is_told_out (place_of piped s k) ≡ false → IsTold piped s k old mid orders →
      mid.telling.epoch ≡ old.telling.epoch → turn ≡ turn_told orders.first (piped.seen old.at) → IsMade piped s k old (told_side mid orders) turn
  step_made old mid orders turn allowed h on due same turn_is =
      let p = place_of piped s k in
      let q = place_of piped s (suc k) in
      let count = left_over p q (laws.owes s k) (laws.turned s k) (laws.owing s k) (orders_in orders) due.orders in
      let is : IsTelling p q orders.first orders.second = telling_of p q orders.first orders.second due.orders count in
      let held_is : kept_by orders.first mid.telling.held ≡ held_after (told_by p q) p q old.telling.held =
      ap (λ (m : Option Entry). kept_by orders.first m) due.held ∙ kept_is (opens orders.first) (has_appended p q) old.telling.held
      ∙ ap (λ (o : Option Order). held_after o p q old.telling.held) is.first_is in
      let epoch : mid.telling.epoch ≡ openings (told p) = same ∙ h.epoch in
      let small : mid.telling.epoch ≤ 2 ^ 44 = omega (arith, epoch, laws.epoch s k allowed) in
      record {
        stands = record {
          pipeline = due.stands;
          owed = is.owed;
          epoch = epoch_is (opens orders.first) mid.telling.epoch small ∙ ap (λ (e : ℕ). raised orders.first e) epoch ∙ is.epoch;
          held = λ all. subst (λ (e : Option Entry). IfSome e (λ e. e ≡ needed_entry s q)) (sym held_is) (held_needed s p q (next_stepped on) old.telling.held h.held all);
        };
        held = held_is;
        turn_is = turn_is ∙ ap (λ (o : Option Order). turn_told o (piped.seen old.at)) is.first_is ∙ ap (λ (at : At). turn_told (told_by p q) at) (stands_at piped laws s k old h);
      }
