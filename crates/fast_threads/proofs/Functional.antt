-- The functional side at its end of the queues: each of its turns keeps what it stands for.
use Rattle.std.proofs.Common.{◌≡◌, ℕ, ◌+◌, ◌≤◌, ◌<◌, ◌↔◌, Bool, true, false, if◌then◌else◌, Option, Some, None, IfSome, OnSome, IfNone, IsNone, List, [], ◌∷◌, ◌++◌, length, refl, ap, sym, ◌∙◌, subst, arith, inl, inr}
use Rattle.rollback_cmds.specs.declared.order.Order.{Order}
use Rattle.rollback_cmds.specs.declared.order.Order.TheVariants.{Set, Commit, Interrupt, Time, Stop, Sync}
use Rattle.rollback_cmds.specs.Order.{opens_epoch_of}
use Rattle.trace_entry.specs.declared.Entry.{Entry}
use Rattle.mono_model.specs.declared.setup.Setup.{Setup}
use Rattle.mono_model.specs.Setup.{is_setup}
use Rattle.mono_model.specs.Path.{entry}
use Rattle.mono_model.specs.Demand.{number_of, first, order, entry_in}
use Rattle.mono_model.proofs.Sound.{setup_facts}
use Rattle.machine_laws.proofs.NextOrder.{may_obey_next}
use Rattle.machine_laws.proofs.OrderSteps.{told_named}
use Rattle.side_laws.proofs.Goes.{along_start, along_produced, along_obeyed, along_end}
use Rattle.side_laws.proofs.Obeying.{may_obey, may_produce}
use Rattle.func_model.specs.declared.walk.Walk.{Walk}
use Rattle.func_model.specs.Walk.{WalkStandsFor, IsFresh, IsForward, IsAtRest, IsProduced, IsObeyed, position_by}
use Rattle.trace_ring.specs.Ring.{Follows}
use Rattle.trace_ring.specs.Orders.{IsInPlace}
use Rattle.trace_ring.specs.Ends.{FuncAt, func_start, func_pushed, func_taken}
use Rattle.machine_laws.specs.Told.{HasName}
use Rattle.machine_laws.specs.NextOrder.{MayObeyNext}
use Rattle.side_laws.specs.Along.{MayObey, MayProduce}
use Rattle.fast_threads.specs.Workers.{GoesOn, IsFuncAt, HasObeyed, HasGoneOn}
use Rattle.fast_threads.specs.Session.{HoldsEnd}

first_zero : (s : Setup) → first s 0 ≡ 0
unfolding first
first_zero s = refl

-- at the start of a run
pub func_starts : {D : Type 0} (s : Setup) (side : Walk D) → is_setup s ≡ true → WalkStandsFor s [] side → IsFresh side → IsFuncAt (func_start s) side None
func_starts s side sound stands fresh = record {
  sound = sound;
  orders = [];
  taken = refl;
  along = along_start s side stands fresh;
  epochs = tt;
  goes_on = fresh.position ∙ sym (first_zero s) ∙ ap (first s) (sym fresh.epoch);
}

pub none_obeyed : {D : Type 0} (s : Setup) (count : ℕ) (side : Walk D) → count ≡ 0 → WalkStandsFor s [] side → IsFresh side → HasObeyed s count side []
none_obeyed s count side none stands fresh = record { count_is = none; along = along_start s side stands fresh }

-- where an order that opens an epoch leads
opening_position : (o : Order) (n : ℕ) → opens_epoch_of o ≡ true → position_by o n ≡ number_of o
opening_position (Set m addr) n opens = refl
opening_position (Commit m) n opens = cc
opening_position (Interrupt m) n opens = refl
opening_position (Time m v) n opens = refl
opening_position (Stop m) n opens = refl
opening_position (Sync m) n opens = refl

other_position : (o : Order) (n : ℕ) → opens_epoch_of o ≡ false → position_by o n ≡ n
other_position (Set m addr) n opens = cc
other_position (Commit m) n opens = refl
other_position (Interrupt m) n opens = cc
other_position (Time m v) n opens = cc
other_position (Stop m) n opens = cc
other_position (Sync m) n opens = cc

-- a later epoch begins with the number that opens it
begins : (s : Setup) (last : Option (ℕ × ℕ)) (below epoch n : ℕ) → IfSome last (λ l. l.0 ≤ below) → below < epoch → n ≡ first s epoch → Follows s last epoch n
begins s None below epoch n epochs above is = is
begins s (Some l) below epoch n epochs above is = inr (omega (arith, epochs, above), is)

-- no later epoch
up_to : (last : Option (ℕ × ℕ)) (m n : ℕ) → IfSome last (λ l. l.0 ≤ m) → m ≤ n → IfSome last (λ l. l.0 ≤ n)
up_to None m n is more = tt
up_to (Some l) m n is more = omega (arith, is, more)

same_follows : (s : Setup) (last : Option (ℕ × ℕ)) (e f m n : ℕ) → f ≡ e → n ≡ m → Follows s last e m → Follows s last f n
same_follows s last e f m n epoch number is =
    subst (λ (k : ℕ). Follows s last f k) (sym number) (subst (λ (k : ℕ). Follows s last k m) (sym epoch) is)

module _ {D : Type 0} (end : FuncAt) (side : Walk D) (computed : Option Entry) (is : IsFuncAt end side computed) where
  some_cycles : 1 ≤ end.setup.cycles
  some_cycles = (setup_facts end.setup is.sound).some_cycle

  pub func_may_produce : MayProduce side
  func_may_produce = may_produce end.setup is.orders side is.sound is.along

  pub func_holds_end : side.is_stopped ≡ true → HoldsEnd end.setup side.contents
  func_holds_end stopped = along_end end.setup is.orders side some_cycles is.along stopped

  module _ (o : Order) (at : IsInPlace end.setup end.taken o) where
    next_order : order end.setup (length is.orders) ≡ Some o
    next_order = subst (λ (n : ℕ). order end.setup n ≡ Some o) is.taken at

    pub func_may_obey : MayObey o side
    func_may_obey = may_obey end.setup is.orders o side is.sound is.along next_order

    module _ (new : Walk D) (stands : (s : Setup) (os : List Order) → WalkStandsFor s os side → WalkStandsFor s (o ∷ os) new) (moved : IsObeyed o side new) where
      behind : WalkStandsFor end.setup (o ∷ is.orders) new
      behind = stands end.setup is.orders is.along.stands

      next_may : MayObeyNext end.setup is.orders o
      next_may = may_obey_next end.setup is.orders o some_cycles is.along.told next_order

      later : side.epoch ≤ new.epoch
      later = omega (arith, moved.epoch)

      -- the epoch that it opens begins at its number
      opened : opens_epoch_of o ≡ true → GoesOn (func_taken end) new None
      opened opens =
          let one : new.epoch ≡ side.epoch + 1 = moved.epoch ∙ ap (λ (b : Bool). side.epoch + (if b then 1 else 0)) opens in
          begins end.setup end.last side.epoch new.epoch new.position is.epochs (omega (arith, one))
          (moved.position ∙ opening_position o side.position opens ∙ sym (next_may.opening opens) ∙ ap (first end.setup) (sym behind.holds.epoch))

      same_epoch : opens_epoch_of o ≡ false → new.epoch ≡ side.epoch
      same_epoch opens =
          let none : new.epoch ≡ side.epoch + 0 = moved.epoch ∙ ap (λ (b : Bool). side.epoch + (if b then 1 else 0)) opens in
          omega (arith, none)

      kept : opens_epoch_of o ≡ false → (c : Option Entry) → GoesOn end side c → GoesOn (func_taken end) new c
      kept opens None goes =
          same_follows end.setup end.last side.epoch new.epoch side.position new.position
          (same_epoch opens)
          (moved.position ∙ other_position o side.position opens) goes
      kept opens (Some e) goes = record {
        named = goes.named;
        follows = goes.follows;
        epoch = goes.epoch ∙ sym (same_epoch opens);
        position = moved.position ∙ other_position o side.position opens ∙ goes.position;
      }

      obeyed_with : (c : Option Entry) → GoesOn (func_taken end) new c → IsFuncAt (func_taken end) new c
      obeyed_with c goes = record {
        sound = is.sound;
        orders = o ∷ is.orders;
        taken = omega (arith, is.taken);
        along = along_obeyed end.setup is.orders o side new some_cycles is.along next_order behind moved;
        epochs = up_to end.last side.epoch new.epoch is.epochs later;
        goes_on = goes;
      }

      -- one order more was obeyed
      pub func_goes_on : (end_behind : FuncAt) → end_behind ≡ func_taken end → (os : List Order) → HasGoneOn end.setup end.taken side os → HasGoneOn end_behind.setup end_behind.taken new os
      func_goes_on end_behind taken os on =
          let P : FuncAt → Type 0 = λ e. HasGoneOn {D = D} e.setup e.taken new os in
          let all : List Order = on.later ++ os in
          let next : order end.setup (length all) ≡ Some o = subst (λ (n : ℕ). order end.setup n ≡ Some o) on.obeyed.count_is at in
          subst P (sym taken) (record {
            later = o ∷ on.later;
            obeyed = record {
              count_is = omega (arith, on.obeyed.count_is);
              along = along_obeyed end.setup all o side new some_cycles on.obeyed.along next (stands end.setup all on.obeyed.along.stands) moved;
            };
          })

      pub func_opened : (end_behind : FuncAt) → end_behind ≡ func_taken end → opens_epoch_of o ≡ true → IsFuncAt end_behind new None
      func_opened end_behind taken opens =
          let P : FuncAt → Type 0 = λ e. IsFuncAt {D = D} e new None in
          subst P (sym taken) (obeyed_with None (opened opens))

      pub func_obeyed : (end_behind : FuncAt) → end_behind ≡ func_taken end → opens_epoch_of o ≡ false → IsFuncAt end_behind new computed
      func_obeyed end_behind taken opens =
          let P : FuncAt → Type 0 = λ e. IsFuncAt {D = D} e new computed in
          subst P (sym taken) (obeyed_with computed (kept opens computed is.goes_on))

-- an entry is computed, or none
module _ {D : Type 0} (end : FuncAt) (side : Walk D) (is : IsFuncAt end side None) (new : Walk D) where
  pub func_computed : (result : Option Entry) → ((s : Setup) (os : List Order) → WalkStandsFor s os side → IsProduced s os side new result) →
      IfSome result (λ e. IsForward side new) → (IsNone result ↔ IsAtRest side) → IfNone result (new ≡ side) → IsFuncAt end new result
  func_computed None produced moved none same =
      let P : Walk D → Type 0 = λ w. IsFuncAt {D = D} end w None in
      subst P (sym same) is
  func_computed (Some e) produced moved none same =
      let s = end.setup in
      let made : IsProduced s is.orders side new (Some e) = produced s is.orders is.along.stands in
      let there : Entry = entry s is.orders side.position in
      let named : HasName s is.orders side.position = told_named s is.orders side.position (setup_facts s is.sound).some_cycle is.along.told in
      let epoch : e.epoch ≡ side.epoch = ap (λ (x : Entry). x.epoch) made.entry_is ∙ named.epoch ∙ sym is.along.stands.holds.epoch in
      let number : e.number ≡ side.position = ap (λ (x : Entry). x.number) made.entry_is ∙ named.number in
      let P : Entry → Type 0 = λ x. x ≡ entry_in s x.epoch x.number in
      record {
        sound = is.sound;
        orders = is.orders;
        taken = is.taken;
        along = along_produced s is.orders side new is.along made.stands moved (λ rest. cc (none.1 rest));
        epochs = up_to end.last side.epoch new.epoch is.epochs (omega (arith, moved.others.epoch));
        goes_on = record {
          named = subst P (sym made.entry_is) named.named;
          follows = same_follows s end.last side.epoch e.epoch side.position e.number epoch number is.goes_on;
          epoch = epoch ∙ sym moved.others.epoch;
          position = moved.position ∙ ap (λ (n : ℕ). n + 1) (sym number);
        };
      }

-- and no order was obeyed
pub func_stays_on : {D : Type 0} (s : Setup) (count : ℕ) (side new : Walk D) (result : Option Entry) → ((s : Setup) (os : List Order) → WalkStandsFor s os side → IsProduced s os side new result) →
    IfSome result (λ e. IsForward side new) → (IsNone result ↔ IsAtRest side) → IfNone result (new ≡ side) → (os : List Order) → HasGoneOn s count side os → HasGoneOn s count new os
func_stays_on {D} s count side new None produced moved none same os on =
    let P : Walk D → Type 0 = λ w. HasGoneOn {D = D} s count w os in
    subst P (sym same) on
func_stays_on s count side new (Some e) produced moved none same os on =
    let all : List Order = on.later ++ os in
    let along = on.obeyed.along in
    record {
      later = on.later;
      obeyed = record {
        count_is = on.obeyed.count_is;
        along = along_produced s all side new along (produced s all along.stands).stands moved (λ rest. cc (none.1 rest));
      };
    }

-- how many entries wait or are handed out tells nothing of the side
looks : {D : Type 0} (end : FuncAt) (side : Walk D) (c : Option Entry) (known waiting : ℕ) → GoesOn end side c → GoesOn (record end { known = known; waiting = waiting }) side c
looks end side None known waiting goes = goes
looks end side (Some e) known waiting goes = record { named = goes.named; follows = goes.follows; epoch = goes.epoch; position = goes.position }

pub func_looks : {D : Type 0} (end after : FuncAt) (side : Walk D) (computed : Option Entry) (known waiting : ℕ) → IsFuncAt end side computed → after ≡ record end { known = known; waiting = waiting } →
    IsFuncAt after side computed
func_looks {D} end after side computed known waiting is same =
    let P : FuncAt → Type 0 = λ x. IsFuncAt {D = D} x side computed in
    subst P (sym same) (record {
      sound = is.sound;
      orders = is.orders;
      taken = is.taken;
      along = is.along;
      epochs = is.epochs;
      goes_on = looks end side computed known waiting is.goes_on;
    })

-- the computed entry was pushed
pub func_pushes : {D : Type 0} (end after : FuncAt) (side : Walk D) (e : Entry) (known waiting : ℕ) → IsFuncAt end side (Some e) → after ≡ func_pushed end e known waiting → IsFuncAt after side None
func_pushes {D} end after side e known waiting is pushed =
    let P : FuncAt → Type 0 = λ x. IsFuncAt {D = D} x side None in
    subst P (sym pushed) (record {
      sound = is.sound;
      orders = is.orders;
      taken = is.taken;
      along = is.along;
      epochs = let same = is.goes_on.epoch in omega arith;
      goes_on = inl (sym is.goes_on.epoch, is.goes_on.position);
    })

-- where the entry comes back nothing has changed
pub func_same : {D : Type 0} (end end_behind : FuncAt) (side : Walk D) (computed : Option Entry) → IsFuncAt end side computed → end_behind ≡ end → IsFuncAt end_behind side computed
func_same {D} end end_behind side computed is same =
    let P : FuncAt → Type 0 = λ x. IsFuncAt {D = D} x side computed in
    subst P (sym same) is

pub func_with : {D : Type 0} (end : FuncAt) (side : Walk D) (computed other : Option Entry) → computed ≡ other → IsFuncAt end side computed → IsFuncAt end side other
func_with {D} end side computed other same is =
    let P : Option Entry → Type 0 = λ o. IsFuncAt {D = D} end side o in
    subst P same is

-- what is said of a result that is some
pub if_some : {A : Type 0} (r : Option A) (a : A) (P : A → Type 0) → r ≡ Some a → IfSome r P → P a
if_some {A} r a P is holds = let Q : Option A → Type 0 = λ x. IfSome x P in subst Q is holds

pub on_some : {A : Type 0} (r : Option A) (a : A) (P : Type 0) → r ≡ Some a → OnSome r P → P
on_some {A} r a P is holds = let Q : Option A → Type 0 = λ x. OnSome x P in subst Q is holds
