-- A try that is made with an entry at once is that of the side which holds it.
use Rattle.std.proofs.Common.{◌≡◌, ℕ, true, false, ◌&&◌, is_none, if◌then◌else◌, Bool, Option, Some, None, refl, ap, sym, ◌∙◌}
use Rattle.std.proofs.lemmas.Bool.{and_parts}
use Rattle.rollback_cmds.specs.declared.order.Order.{Order}
use Rattle.trace_entry.specs.declared.Entry.{Entry}
use Rattle.mono_model.specs.declared.setup.Setup.{Setup}
use Rattle.mono_model.specs.Demand.{At, interrupting, committing, completing, issuing, trying, ending, stopping, halted, is_try, needed_entry}
use Rattle.mono_model.specs.Split.{is_halted}
use Rattle.time_model.specs.declared.fetched.Fetched.{Fetched}
use Rattle.time_model.specs.declared.state.TimingState.{TimingState}
use Rattle.time_model.specs.declared.side.Taken.TheVariants.{Used, Dropped}
use Rattle.time_model.specs.declared.turn.Turn.{Turn}
use Rattle.time_model.specs.declared.turn.Turn.TheVariants.{Want, Moved}
use Rattle.time_model.specs.Turns.{turn_told, order_told, is_ending}
use Rattle.time_model.specs.Piped.{Piped, IsPiped, place_of, IsFetched}
use Rattle.time_model.specs.Running.{start, more, Steps, is_silent, IsRunInCycle}
use Rattle.time_model.specs.Standing.{SideStandsFor, IsStanding, IsRight, wants_in, over_in}
use Rattle.time_model.specs.Turning.{IsTold}
use Rattle.time_model.specs.Feeding.{holding, IsFed}
use Rattle.time_model.proofs.Sides.{waiting_step, try_holds, fetched_due}

-- where an entry is wanted, the next turn is a try, all is told and none is held
pub record IsWanting {P A : Type 0} (piped : Piped P A) (side : TimingState P A) : Type 0 where
  pub try : is_try (piped.seen side.at) ≡ true
  pub told : side.telling.owed ≡ None
  pub none : side.telling.held ≡ None

empty : {A : Type 0} (o : Option A) → is_none o ≡ true → o ≡ None
empty None is = refl
empty (Some a) is = cc

-- with the entry held it wants none
and_none : (b : Bool) → (b && false) ≡ false
and_none true = refl
and_none false = refl

and_not : (a b : Bool) → b ≡ false → (a && b) ≡ false
and_not true b is = is
and_not false b is = refl

try_goes : (at : At) → is_try at ≡ true → is_halted at ≡ false
try_goes interrupting try = cc
try_goes committing try = cc
try_goes completing try = cc
try_goes issuing try = cc
try_goes (trying tries) try = refl
try_goes ending try = cc
try_goes stopping try = cc
try_goes halted try = cc

same_held : (e f : Entry) → ◌≡◌ {A = Option Entry} (Some e) (Some f) → e ≡ f
same_held e f is = cc

-- what is told of a step has the step's order
pub told_turn : (o : Option Order) (at : At) → order_told (turn_told o at) ≡ o
told_turn (Some o) at = refl
told_turn None interrupting = refl
told_turn None committing = refl
told_turn None completing = refl
told_turn None issuing = refl
told_turn None (trying tries) = refl
told_turn None ending = refl
told_turn None stopping = refl
told_turn None halted = refl

-- a try ends no cycle
try_ends : (at : At) → is_try at ≡ true → is_ending at ≡ false
try_ends interrupting try = refl
try_ends committing try = refl
try_ends completing try = refl
try_ends issuing try = refl
try_ends (trying tries) try = refl
try_ends ending try = cc
try_ends stopping try = refl
try_ends halted try = refl

pub try_untold : (at : At) → is_try at ≡ true → turn_told None at ≡ Moved
try_untold interrupting try = refl
try_untold committing try = refl
try_untold completing try = refl
try_untold issuing try = refl
try_untold (trying tries) try = refl
try_untold ending try = cc
try_untold stopping try = refl
try_untold halted try = refl

module _ {P A : Type 0} (piped : Piped P A) (laws : IsPiped piped) where
  pub holding_stands : (s : Setup) (k : ℕ) (e : Entry) (side : TimingState P A) → SideStandsFor piped s k side → e ≡ needed_entry s (place_of piped s k) → SideStandsFor piped s k (holding e side)
  holding_stands s k e side h needed = record { pipeline = h.pipeline; owed = h.owed; epoch = h.epoch; held = λ all. needed }

  pub holding_standing : (e : Entry) (side : TimingState P A) → IsRight piped e side → e.epoch ≡ side.telling.epoch → IsStanding piped (holding e side)
  holding_standing e side is same = record {
    setup = is.setup;
    sound = is.sound;
    steps = is.steps;
    stands = holding_stands is.setup is.steps e side is.stands (is.needed same);
  }

  pub wanting : (side : TimingState P A) → wants_in piped side ≡ true → IsWanting piped side
  unfolding wants_in
  wanting side wants =
      let parts = and_parts (is_none side.telling.owed && is_try (piped.seen side.at)) (is_none side.telling.held) wants in
      let rest = and_parts (is_none side.telling.owed) (is_try (piped.seen side.at)) parts.0 in
      record { try = rest.1; told = empty side.telling.owed rest.0; none = empty side.telling.held parts.1 }

  pub wants_by : (side : TimingState P A) → side.telling.owed ≡ None → is_try (piped.seen side.at) ≡ true → side.telling.held ≡ None → wants_in piped side ≡ true
  unfolding wants_in
  wants_by side told try none =
      ap (λ (o : Option Order). is_none o && is_try (piped.seen side.at) && is_none side.telling.held) told
      ∙ ap (λ (b : Bool). b && is_none side.telling.held) try ∙ ap (λ (o : Option Entry). is_none o) none

  pub holding_free : (e : Entry) (side : TimingState P A) → wants_in piped (holding e side) ≡ false
  unfolding wants_in
  holding_free e side = and_none (is_none side.telling.owed && is_try (piped.seen side.at))

  pub holding_goes : (e : Entry) (side : TimingState P A) → is_try (piped.seen side.at) ≡ true → over_in piped (holding e side) ≡ false
  holding_goes e side try = and_not (is_none side.telling.owed) (is_halted (piped.seen side.at)) (try_goes (piped.seen side.at) try)

  -- a try was made with the entry that is held
  pub try_due : (e : Entry) (side new : TimingState P A) (fetched : Fetched) → side.telling.owed ≡ None → wants_in piped side ≡ false → is_try (piped.seen side.at) ≡ true → side.telling.held ≡ Some e →
      IsFetched piped e side.pipeline side.at new.pipeline new.at fetched → new.telling.held ≡ (if fetched.appended then None else side.telling.held) →
      (s : Setup) (k : ℕ) → piped.allows s → SideStandsFor piped s k side → IsTold piped s k side new fetched.orders
  try_due e side new fetched told free try holds made held = λ s k allowed h.
      let n = needed_entry s (place_of piped s k) in
      let needed : e ≡ n = same_held e n (sym holds ∙ try_holds piped laws s k side h told free try) in
      fetched_due piped laws s k side h new e fetched allowed told needed made held

  -- a run of one step, or of one that is followed by one that wants an entry
  pub run_once : (old new : TimingState P A) (turn : Turn) → Steps piped old new turn → IsRunInCycle piped old new turn
  run_once old new turn step = record { behind = old; silent = start; last = step }

  pub run_wants : (old new : TimingState P A) (turn : Turn) → is_try (piped.seen old.at) ≡ true → Steps piped old new turn → is_silent turn ≡ true → wants_in piped new ≡ true → IsRunInCycle piped old new Want
  run_wants old new turn try step silent wants = record {
    behind = new;
    silent = more old new turn start (record { made = step; inner = and_not (is_none old.telling.owed) (is_ending (piped.seen old.at)) (try_ends (piped.seen old.at) try) }) silent;
    last = λ s k allowed h. waiting_step piped laws s k new h wants;
  }

  -- an entry of the side's epoch, and one of another
  pub fed_used : (e : Entry) (old new : TimingState P A) (turn : Turn) → e.epoch ≡ old.telling.epoch → IsRunInCycle piped (holding e old) new turn → IsFed piped e old new turn
  fed_used e old new turn same run = record {
    answer = Used;
    taken = holding e old;
    used = λ is. refl;
    dropped = λ is. absurd (no is);
    by_epoch = (λ is. same, λ is. refl);
    run = run;
  }
    where
      no : Used ≡ Dropped → ⊥
      no is = cc

  pub fed_dropped : (e : Entry) (old : TimingState P A) → wants_in piped old ≡ true → (e.epoch ≡ old.telling.epoch → ⊥) → IsFed piped e old old Want
  fed_dropped e old wants other = record {
    answer = Dropped;
    taken = old;
    used = λ is. absurd (no is);
    dropped = λ is. refl;
    by_epoch = (λ is. absurd (no is), λ is. absurd (other is));
    run = run_once old old Want (λ s k allowed h. waiting_step piped laws s k old h wants);
  }
    where
      no : Dropped ≡ Used → ⊥
      no is = cc
