-- What the two ends of a line know once a value was pushed or handed out.
use Rattle.std.proofs.Common.{◌≡◌, ℕ, ◌+◌, ◌-◌, ◌≤◌, ◌<◌, Option, Some, Result, Ok, Err, OnOk, IfSome, List, [], ◌∷◌, ◌++◌, length, take, drop, refl, sym, ap, subst, ◌∙◌, arith, length-append, length-drop, length-take-le, append_assoc, append-nil}
use Rattle.std.proofs.lemmas.Option.{IfSome_then}
use Rattle.std.proofs.lemmas.List.{take-append-drop, drop-drop}
use Rattle.std.proofs.Math.Seq.{take-append_seam, drop-append_seam}
use Rattle.mono_model.specs.declared.setup.Setup.{Setup}
use Rattle.trace_entry.specs.declared.Entry.{Entry}
use Rattle.rollback_cmds.specs.declared.order.Order.{Order}
use Rattle.trace_ring.specs.declared.line.View.{View}
use Rattle.trace_ring.specs.Ring.{last_of}
use Rattle.trace_ring.specs.Line.{Allowed, view_of, with_group, OutletAt, outlet_at, InletAt, inlet_at, IsOutlet, IsInlet, has_pushed, has_taken}
use Rattle.trace_ring.specs.Ends.{FuncAt, func_at, func_pushed, TimeAt, time_at, time_pushed, time_taken}
use Rattle.trace_ring.proofs.LineSteps.{allowed_both, allowed_there}

take_all : {X : Type 0} (xs : List X) → take (length xs) xs ≡ xs
take_all [] = refl
take_all {X = X} (x ∷ xs) = ap (λ (zs : List X). x ∷ zs) (take_all xs)

one_more : {X : Type 0} (xs : List X) (x : X) → length (xs ++ x ∷ []) ≡ length xs + 1
one_more xs x = length-append xs (x ∷ [])

-- a value is pushed
module _ {T : Type 0} (allows : Setup → List T → T → Type 0) (v : View T) (outgoing : List T) (size bound pushed known : ℕ) (is : IsOutlet allows v outgoing size bound pushed known)
    (x : T) (may : allows v.setup (v.values ++ outgoing) x) where
  pub joined : Allowed (allows v.setup) v.values (outgoing ++ x ∷ [])
  joined = allowed_both (allows v.setup) outgoing (x ∷ []) v.values is.allowed (may, tt)

  all : v.values ++ (outgoing ++ x ∷ []) ≡ (v.values ++ outgoing) ++ x ∷ []
  all = sym (append_assoc v.values outgoing (x ∷ []))

  count : pushed + 1 ≡ length (v.values ++ (outgoing ++ x ∷ []))
  count = let was = is.pushed_is in omega (arith, one_more (v.values ++ outgoing) x, ap (λ (zs : List T). length zs) all)

  module _ (room : length (v.values ++ outgoing) < known + bound) where
    pub waits : length (outgoing ++ x ∷ []) < size → IsOutlet allows v (outgoing ++ x ∷ []) size bound (pushed + 1) known
    waits few = record {
      pushes = is.pushes;
      allowed = joined;
      size_is = is.size_is;
      few = few;
      pushed_is = count;
      within = let was = is.pushed_is in omega (arith, room);
    }

    pub goes : (w : View T) → w ≡ with_group v (outgoing ++ x ∷ []) → IsOutlet allows w [] size bound (pushed + 1) known
    goes w gone = subst (λ (u : View T). IsOutlet allows u [] size bound (pushed + 1) known) (sym gone) (record {
      pushes = is.pushes;
      allowed = tt;
      size_is = is.size_is;
      few = is.size_is.0;
      pushed_is = count ∙ ap (λ (zs : List T). length zs) (sym (append-nil (v.values ++ (outgoing ++ x ∷ []))));
      within = let was = is.pushed_is in omega (arith, room);
    })

  pub waits_seen : outlet_at v (outgoing ++ x ∷ []) bound known ≡ has_pushed (outlet_at v outgoing bound known) x known (length (outgoing ++ x ∷ []))
  waits_seen = ap (λ (zs : List T). record { setup = v.setup; bound = bound; values = zs; known = known; waiting = length (outgoing ++ x ∷ []) }) all

  pub goes_seen : (w : View T) → w ≡ with_group v (outgoing ++ x ∷ []) → outlet_at w [] bound known ≡ has_pushed (outlet_at v outgoing bound known) x known 0
  goes_seen w gone = ap (λ (u : View T). outlet_at u [] bound known) gone
      ∙ ap (λ (zs : List T). record { setup = v.setup; bound = bound; values = zs; known = known; waiting = 0 }) (append-nil (v.values ++ (outgoing ++ x ∷ [])) ∙ all)

-- all that waited went into the queue
module _ {T : Type 0} (allows : Setup → List T → T → Type 0) (v : View T) (outgoing : List T) (size bound pushed known : ℕ) (is : IsOutlet allows v outgoing size bound pushed known)
    (w : View T) (gone : w ≡ with_group v outgoing) where
  pub flushed : IsOutlet allows w [] size bound pushed known
  flushed = subst (λ (u : View T). IsOutlet allows u [] size bound pushed known) (sym gone) (record {
    pushes = is.pushes;
    allowed = tt;
    size_is = is.size_is;
    few = is.size_is.0;
    pushed_is = is.pushed_is ∙ ap (λ (zs : List T). length zs) (sym (append-nil (v.values ++ outgoing)));
    within = is.within;
  })

  pub flushed_seen : outlet_at w [] bound known ≡ record (outlet_at v outgoing bound known) { waiting = 0 }
  flushed_seen = ap (λ (u : View T). outlet_at u [] bound known) gone
      ∙ ap (λ (zs : List T). record { setup = v.setup; bound = bound; values = zs; known = known; waiting = 0 }) (append-nil (v.values ++ outgoing))

-- a value is handed out
module _ {T : Type 0} (allows : Setup → List T → T → Type 0) (v : View T) (arrived : List T) (handed taken : ℕ) (is : IsInlet allows v arrived handed taken)
    (x : T) (value : drop handed arrived ≡ x ∷ drop (handed + 1) arrived) where
  abbrev rest : List T
  rest = drop (handed + 1) arrived

  at : drop taken v.values ≡ x ∷ rest
  at = is.left ∙ value

  split : v.values ≡ take taken v.values ++ x ∷ rest
  split = sym (take-append-drop taken v.values) ∙ ap (λ (zs : List T). take taken v.values ++ zs) at

  long : length (take taken v.values) ≡ taken
  long = length-take-le taken v.values is.within

  left_more : taken + 1 ≤ length v.values
  left_more =
      let there : length (drop taken v.values) ≡ length (x ∷ rest) = ap (λ (zs : List T). length zs) at in
      let count = length-drop taken v.values in
      omega arith

  pub taken_more : take (taken + 1) v.values ≡ take taken v.values ++ x ∷ []
  taken_more =
      let front : List T = take taken v.values ++ x ∷ [] in
      let count : taken + 1 ≡ length front = omega (arith, one_more (take taken v.values) x, long) in
      ap (λ (zs : List T). take (taken + 1) zs) (split ∙ sym (append_assoc (take taken v.values) (x ∷ []) rest))
      ∙ ap (λ (n : ℕ). take n (front ++ rest)) count ∙ take-append_seam front rest

  pub handed_on : IsInlet allows v arrived (handed + 1) (taken + 1)
  handed_on = record {
    takes = is.takes;
    allowed = is.allowed;
    left = sym (drop-drop 1 taken v.values) ∙ ap (λ (zs : List T). drop 1 zs) at;
    within = left_more;
  }

  pub may_come : allows v.setup (take taken v.values) x
  may_come = allowed_there (allows v.setup) (take taken v.values) x rest [] (subst (λ (zs : List T). Allowed (allows v.setup) [] zs) split is.allowed)

  pub handed_seen : inlet_at v (taken + 1) ≡ has_taken (inlet_at v taken) x
  handed_seen = ap (λ (zs : List T). record { setup = v.setup; values = zs }) taken_more

-- a group came out of the queue once all were handed out
module _ {T : Type 0} (allows : Setup → List T → T → Type 0) (v : View T) (arrived : List T) (handed taken : ℕ) (is : IsInlet allows v arrived handed taken)
    (done : length arrived ≤ handed) (w : View T) (group : List T) (came : w ≡ with_group v group) (may : Allowed (allows v.setup) [] (v.values ++ group)) where
  none_left : taken ≡ length v.values
  none_left =
      let same : length (drop taken v.values) ≡ length (drop handed arrived) = ap (λ (zs : List T). length zs) is.left in
      let one = length-drop taken v.values in
      let other = length-drop handed arrived in
      let within = is.within in
      omega (arith, done)

  here : taken ≤ length (v.values ++ group)
  here = omega (arith, none_left, length-append v.values group)

  behind : drop taken (v.values ++ group) ≡ group
  behind = ap (λ (n : ℕ). drop n (v.values ++ group)) none_left ∙ drop-append_seam v.values group

  pub filled : IsInlet allows w group 0 taken
  filled = subst (λ (u : View T). IsInlet allows u group 0 taken) (sym came) (record { takes = is.takes; allowed = may; left = behind; within = here })

  front : take taken (v.values ++ group) ≡ take taken v.values
  front = ap (λ (n : ℕ). take n (v.values ++ group)) none_left ∙ take-append_seam v.values group ∙ sym (ap (λ (n : ℕ). take n v.values) none_left ∙ take_all v.values)

  pub filled_seen : inlet_at w taken ≡ inlet_at v taken
  filled_seen = ap (λ (u : View T). inlet_at u taken) came ∙ ap (λ (zs : List T). record { setup = v.setup; values = zs }) front

last_is : (xs : List Entry) (x : Entry) → last_of (xs ++ x ∷ []) ≡ Some (x.epoch, x.number)
last_is [] x = refl
last_is (y ∷ []) x = refl
last_is (y ∷ z ∷ zs) x = last_is (z ∷ zs) x

-- so of the ends of both queues
pub func_pushes : (o : OutletAt Entry) (i : InletAt Order) (x : Entry) (known waiting : ℕ) → func_at (has_pushed o x known waiting) i ≡ func_pushed (func_at o i) x known waiting
func_pushes o i x known waiting k =
    record { setup = o.setup; pushed = one_more o.values x k; last = last_is o.values x k; known = known; waiting = waiting; taken = length i.values }

pub time_takes : (o : OutletAt Order) (i : InletAt Entry) (x : Entry) → time_at o (has_taken i x) ≡ time_taken (time_at o i) x
time_takes o i x k =
    record { setup = o.setup; pushed = length o.values; known = o.known; waiting = o.waiting; taken = one_more i.values x k; last = last_is i.values x k }

-- and of what a call of an end gives
pub func_joins : {E : Type 0} (r : Result (Unit {0}) E) (o new : OutletAt Entry) (i : InletAt Order) (x : Entry) (old : FuncAt) → func_at o i ≡ old
    → OnOk r (new ≡ has_pushed o x new.known new.waiting) → OnOk r (func_at new i ≡ func_pushed old x new.known new.waiting)
func_joins (Ok u) o new i x old was more =
    ap (λ (a : OutletAt Entry). func_at a i) more ∙ func_pushes o i x new.known new.waiting ∙ ap (λ (e : FuncAt). func_pushed e x new.known new.waiting) was
func_joins (Err e) o new i x old was more = tt

pub time_gives : (given : Option Entry) (o : OutletAt Order) (i new : InletAt Entry) (old : TimeAt) → time_at o i ≡ old
    → IfSome given (λ x. new ≡ has_taken i x) → IfSome given (λ x. time_at o new ≡ time_taken old x)
time_gives given o i new old was more = IfSome_then given more (λ x next.
    ap (λ (a : InletAt Entry). time_at o a) next ∙ time_takes o i x ∙ ap (λ (e : TimeAt). time_taken e x) was)
