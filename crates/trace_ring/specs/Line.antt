-- The rule of a line, which goes from one end to the other: what was pushed is what was taken and
-- then what the queue holds, and each value came by the law after those before it. A group that is
-- pushed or taken stands for so many values that are pushed or taken one after the other.
use Rattle.std.specs.Prelude.{◌≡◌, ◌⊎◌, ℕ, ◌≤◌, ◌+◌, ◌<◌, List, [], ◌∷◌, ◌++◌, length, take, drop}
use Rattle.mono_model.specs.declared.setup.Setup.{Setup}
use Rattle.trace_ring.specs.NoRun.{no_setup}
use Rattle.trace_ring.specs.declared.role.Role.{Role}
use Rattle.trace_ring.specs.declared.role.Role.TheVariants.{Alone, Pushes, Takes}
use Rattle.trace_ring.specs.declared.line.View.{View}
use Rattle.crossbeam_queue.specs.Passes.{Pass}

-- each of xs is allowed after `before` and those of xs in front of it
abbrev pub Allowed : {T : Type 0} → (List T → T → Type 0) → List T → List T → Type 0
Allowed allows before [] = Unit {0}
Allowed allows before (x ∷ xs) = allows before x × Allowed allows (before ++ x ∷ []) xs

-- the values of groups, one group after the other
abbrev pub all_of : {T : Type 0} → List (List T) → List T
all_of [] = []
all_of (group ∷ groups) = group ++ all_of groups

abbrev pub view_of : {T : Type 0} → Role → Setup → List T → View T
view_of role setup values = record { role = role; setup = setup; values = values }

-- before the second pass is given
abbrev pub fresh : {T : Type 0} → View T
fresh = view_of Alone no_setup []

-- the values of one more group went through this end, one after the other
abbrev pub with_group : {T : Type 0} → View T → List T → View T
with_group v group = record v { values = v.values ++ group }

-- the groups between the two ends, the oldest first, once both have a pass
pub record Between {T : Type 0} (allows : Setup → List T → T → Type 0) (groups : List (List T))
    (views : List (View T)) : Type 0 where
  -- the setup of both ends
  pub setup : Setup
  -- the values that were taken
  pub taken : List T
  -- what was pushed is what was taken and then what is between
  pub passes : views ≡ view_of Pushes setup (taken ++ all_of groups) ∷ view_of Takes setup taken ∷ []
  pub allowed : Allowed (allows setup) [] (taken ++ all_of groups)

-- the rule: until the second pass is given the queue is empty
abbrev pub Lined : {T : Type 0} → (Setup → List T → T → Type 0) → List (List T) → List (View T)
    → Type 0
Lined allows groups views = ((views ≡ fresh ∷ []) × (groups ≡ [])) ⊎ Between allows groups views

-- the view of a pass
abbrev pub seen : {T V : Type 0} → Pass T V → V
seen pass = pass.me.0.client

-- how many values go over in one group, where at most so many may be under way
abbrev pub IsGroupSize : ℕ → ℕ → Type 0
IsGroupSize bound size = (0 < size) × (size ≤ 4) × (size ≤ bound)

-- what callers see of the end that pushes: its setup, how many values may be under way, those that
-- were pushed, how many of them are known to be handed out, and how many wait here
pub record OutletAt (T : Type 0) : Type 0 where
  pub setup : Setup
  pub bound : ℕ
  pub values : List T
  pub known : ℕ
  pub waiting : ℕ

abbrev pub outlet_at : {T : Type 0} → View T → List T → ℕ → ℕ → OutletAt T
outlet_at v outgoing bound known =
    record {
      setup = v.setup;
      bound = bound;
      values = v.values ++ outgoing;
      known = known;
      waiting = length outgoing;
    }

-- and of the end that takes: its setup, and the values that were handed out
pub record InletAt (T : Type 0) : Type 0 where
  pub setup : Setup
  pub values : List T

abbrev pub inlet_at : {T : Type 0} → View T → ℕ → InletAt T
inlet_at v taken = record { setup = v.setup; values = take taken v.values }

-- Those that wait to go into the queue come by the law after those that went into it, and no more
-- are under way than may be.
pub record IsOutlet {T : Type 0} (allows : Setup → List T → T → Type 0) (v : View T)
    (outgoing : List T) (size bound pushed known : ℕ) : Type 0 where
  pub pushes : v.role ≡ Pushes
  pub allowed : Allowed (allows v.setup) v.values outgoing
  pub size_is : IsGroupSize bound size
  pub few : length outgoing < size
  pub pushed_is : pushed ≡ length (v.values ++ outgoing)
  pub within : pushed ≤ known + bound

-- Those of the group that came last which weren't handed out are the last ones of all that came.
pub record IsInlet {T : Type 0} (allows : Setup → List T → T → Type 0) (v : View T)
    (arrived : List T) (handed taken : ℕ) : Type 0 where
  pub takes : v.role ≡ Takes
  pub allowed : Allowed (allows v.setup) [] v.values
  pub left : drop taken v.values ≡ drop handed arrived
  pub within : taken ≤ length v.values

-- one more value was pushed; how many are known to be handed out may have been read anew
abbrev pub has_pushed : {T : Type 0} → OutletAt T → T → ℕ → ℕ → OutletAt T
has_pushed o x known waiting =
    record o { values = o.values ++ x ∷ []; known = known; waiting = waiting }

abbrev pub has_read : {T : Type 0} → OutletAt T → ℕ → OutletAt T
has_read o known = record o { known = known }

-- all that waited went into the queue
abbrev pub is_flushed : {T : Type 0} → OutletAt T → OutletAt T
is_flushed o = record o { waiting = 0 }

-- one more value was handed out
abbrev pub has_taken : {T : Type 0} → InletAt T → T → InletAt T
has_taken i x = record i { values = i.values ++ x ∷ [] }
