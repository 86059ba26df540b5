-- What a timing side makes of a step, by what it wants and whether its run is over.
use Rattle.std.proofs.Common.{◌≡◌, ℕ, suc, ◌==◌, ◌&&◌, if◌then◌else◌, is_none, IfSome, IfNone, Bool, true, false, Option, Some, None, List, [], ◌∷◌, ◌++◌, drop, refl, ap, sym, ◌∙◌, subst}
use Rattle.std.proofs.lemmas.Bool.{and_parts, eqb-true}
use Rattle.std.proofs.lemmas.List.{take-append-drop}
use Rattle.rollback_cmds.specs.declared.order.Order.{Order}
use Rattle.trace_entry.specs.declared.Entry.{Entry}
use Rattle.mono_model.specs.declared.setup.Setup.{Setup}
use Rattle.mono_model.specs.Path.{openings}
use Rattle.mono_model.specs.Demand.{is_try, Place, told, needs_entry, needed_entry}
use Rattle.machine_laws.proofs.SplitEntries.{needs_on}
use Rattle.machine_laws.proofs.SplitSteps.{Owes, owes_none, owes_one}
use Rattle.timing_core.specs.declared.orders.Orders.{Orders}
use Rattle.timing_core.specs.Orders.{orders_in}
use Rattle.time_model.specs.declared.fetched.Fetched.{Fetched}
use Rattle.time_model.specs.declared.state.TimingState.{TimingState}
use Rattle.time_model.specs.declared.telling.Telling.{Telling}
use Rattle.time_model.specs.declared.turn.Turn.{Turn}
use Rattle.time_model.specs.declared.turn.Turn.TheVariants as turn
use Rattle.time_model.specs.Piped.{Piped, IsPiped, place_of, IsNext, IsTurned, MayTry, IsFetched}
use Rattle.time_model.specs.Standing.{SideStandsFor, IsStanding, owed_in, untold, wants_in, over_in, is_told_out, IsMade, IsStep}
use Rattle.time_model.specs.Telling.{telling_start, behind_first, told_behind}
use Rattle.time_model.specs.Turns.{turn_told}
use Rattle.time_model.specs.Running.{Steps}
use Rattle.time_model.specs.Turning.{IsTold}
use Rattle.time_model.proofs.Owing.{stands_owed, stands_at, stands_wants, stands_over}
use Rattle.time_model.proofs.Steps.{none_appended, told_side, step_made}

-- where an order is owed, it is one
data OwesMore (p : Place) : Type 0 where
  owes_more : (more : ℕ) → p.owed ≡ suc more → OwesMore p

owes_some : (p : Place) → Owes p → (p.owed == 0) ≡ false → OwesMore p
owes_some p (owes_none none) some = let zero_is : (p.owed == 0) ≡ true = ap (λ (k : ℕ). k == 0) none in cc
owes_some p (owes_one one m o os orders opens on) some = owes_more 0 one

pub holds_by : (needed : Entry) (held : Option Entry) → IfSome held (λ e. e ≡ needed) → is_none held ≡ false → held ≡ Some needed
holds_by needed None right some = cc
holds_by needed (Some e) right some = ap Some right

-- where none is told none is owed
pub untold_free : (told first second owed : Option Order) → told ≡ first → owed ≡ behind_first first second → IfNone told (owed ≡ None)
untold_free None first second owed told is = is ∙ ap (λ (o : Option Order). behind_first o second) (sym told)
untold_free (Some o) first second owed told is = tt

none_held : (h : Option Entry) → is_none h ≡ true → h ≡ None
none_held None e = refl
none_held (Some e) none = cc

module _ {P A : Type 0} (piped : Piped P A) (laws : IsPiped piped) where
  -- the start of a run
  pub start_stands : (s : Setup) (pipeline : P) → piped.stands s 0 pipeline piped.first → SideStandsFor piped s 0 (record { pipeline = pipeline; at = piped.first; telling = telling_start })
  start_stands s pipeline is =
      let begin = sym (laws.start s) in
      record {
        pipeline = is;
        owed = ap untold begin;
        epoch = ap (λ (p : Place). openings (told p)) begin;
        held = λ all. tt;
      }

  -- What a step says and leaves, where it waits, rests and goes on.
  module _ (s : Setup) (k : ℕ) (side : TimingState P A) (h : SideStandsFor piped s k side) where
    needs_of : wants_in piped side ≡ true → needs_entry (place_of piped s k) ≡ true
    needs_of wants = (and_parts (needs_entry (place_of piped s k)) (is_none side.telling.held) (sym (stands_wants piped laws s k side h) ∙ wants)).0

    not_over : needs_entry (place_of piped s k) ≡ true → is_told_out (place_of piped s k) ≡ false
    not_over needs = ap (λ (b : Bool). b && (place_of piped s k).owed == 0) (needs_on (place_of piped s k) needs)

    pub waiting_step : wants_in piped side ≡ true → IsStep piped s k side side turn.Want
    waiting_step wants = record {
      waits = λ needs none. (refl, refl);
      rests = λ over. let on = not_over (needs_of wants) in cc;
      goes = λ more on. let is = stands_wants piped laws s k side h in cc;
    }

    pub resting_step : wants_in piped side ≡ false → over_in piped side ≡ true → IsStep piped s k side side turn.Halted
    resting_step free over = record {
      waits = λ needs none. let on = not_over needs in let off = stands_over piped laws s k side h in cc;
      rests = λ off. (refl, refl);
      goes = λ more on. let off = stands_over piped laws s k side h in cc;
    }

    pub going_step : (new : TimingState P A) (what : Turn) → wants_in piped side ≡ false → over_in piped side ≡ false → (is_told_out (place_of piped s k) ≡ false → IsMade piped s k side new what) → IsStep piped s k side new what
    going_step new what free on made = record {
      waits = λ needs none. absurd (wanting needs none (sym (stands_wants piped laws s k side h) ∙ free));
      rests = λ over. let off = stands_over piped laws s k side h in cc;
      goes = λ more still. made still;
    }
      where
        wanting : needs_entry (place_of piped s k) ≡ true → side.telling.held ≡ None → (needs_entry (place_of piped s k) && is_none side.telling.held) ≡ false → ⊥
        wanting needs none free = let absent : is_none side.telling.held ≡ true = ap (λ (o : Option Entry). is_none o) none in
            let both : (needs_entry (place_of piped s k) && is_none side.telling.held) ≡ true = (λ i. needs i && absent i) in cc

    -- where nothing is owed, nothing is at the place
    pub all_told : side.telling.owed ≡ None → (place_of piped s k).owed ≡ 0
    all_told none = eqb-true (place_of piped s k).owed 0 (sym (stands_owed piped laws s k side h) ∙ ap (λ (o : Option Order). is_none o) none)

    -- where a try comes next, the entry that the place needs is held
    pub try_holds : side.telling.owed ≡ None → wants_in piped side ≡ false → is_try (piped.seen side.at) ≡ true → side.telling.held ≡ Some (needed_entry s (place_of piped s k))
    unfolding wants_in
    try_holds none free try =
        let some : is_none side.telling.held ≡ false = (λ i. is_none (sym none i) && sym try i && is_none side.telling.held) ∙ free in
        holds_by (needed_entry s (place_of piped s k)) side.telling.held (h.held (all_told none)) some

    -- only a try needs an entry
    needs_not : is_try (piped.seen side.at) ≡ false → needs_entry (place_of piped s k) ≡ false
    needs_not plain = by_test ((place_of piped s k).owed == 0) (is_try (place_of piped s k).run.at) (ap is_try (sym (stands_at piped laws s k side h)) ∙ plain)
      where
        by_test : (a b : Bool) → b ≡ false → (if a then b else false) ≡ false
        by_test true b e = e
        by_test false b e = refl

    -- The orders that stand to be told: the owed one.
    pub owed_due : (o : Order) (behind : Option Order) (due : Orders) → over_in piped side ≡ false → side.telling.owed ≡ Some o → orders_in due ≡ o ∷ [] →
        IsTold piped s k side (record side { telling = record side.telling { owed = behind } }) due
    owed_due o behind due on some one = by_owes (owes_some (place_of piped s k) (laws.owes s k) owes)
      where
        owes : ((place_of piped s k).owed == 0) ≡ false
        owes = sym (stands_owed piped laws s k side h) ∙ ap (λ (x : Option Order). is_none x) some

        free : needs_entry (place_of piped s k) ≡ false
        free = ap (λ (b : Bool). if b then is_try (place_of piped s k).run.at else false) owes

        by_owes : OwesMore (place_of piped s k) → IsTold piped s k side (record side { telling = record side.telling { owed = behind } }) due
        by_owes (owes_more more is) =
            let p = place_of piped s k in
            let it : orders_in due ≡ untold p = one ∙ sym (ap owed_in some) ∙ h.owed in
            record {
              stands = laws.still s k more side.pipeline side.at is h.pipeline;
              orders = ap (λ (os : List Order). os ++ told p) it ∙ take-append-drop p.owed p.run.demand.orders
                  ∙ sym (ap (λ (q : Place). q.run.demand.orders) (laws.owing s k more is));
              held = ap (λ (b : Bool). if b then None else side.telling.held) (sym (none_appended piped laws s k (sym (stands_over piped laws s k side h) ∙ on) free));
            }

    -- the orders of a turn follow all that were made
    made_orders : (new : P) (next : A) (due : Orders) → side.telling.owed ≡ None → IsNext piped s k new next due → orders_in due ++ told (place_of piped s k) ≡ (place_of piped s (suc k)).run.demand.orders
    made_orders new next due none is = ap (λ (n : ℕ). orders_in due ++ drop n (place_of piped s k).run.demand.orders) (all_told none) ∙ is.orders

    -- or those of the turn that is made
    pub turned_due : (new : TimingState P A) (due : Orders) → piped.allows s → over_in piped side ≡ false → side.telling.owed ≡ None → is_try (piped.seen side.at) ≡ false →
        IsTurned piped side.pipeline side.at new.pipeline new.at due → new.telling.held ≡ side.telling.held → IsTold piped s k side new due
    turned_due new due allowed on none plain made keeps =
        let is : IsNext piped s k new.pipeline new.at due = made s k allowed h.pipeline (all_told none) in
        record {
          stands = is.stands;
          orders = made_orders new.pipeline new.at due none is;
          held = keeps ∙ ap (λ (b : Bool). if b then None else side.telling.held) (sym (none_appended piped laws s k (sym (stands_over piped laws s k side h) ∙ on) (needs_not plain)));
        }

    -- or of the try
    pub fetched_due : (new : TimingState P A) (entry : Entry) (fetched : Fetched) → piped.allows s → side.telling.owed ≡ None → entry ≡ needed_entry s (place_of piped s k) →
        IsFetched piped entry side.pipeline side.at new.pipeline new.at fetched → new.telling.held ≡ (if fetched.appended then None else side.telling.held) → IsTold piped s k side new fetched.orders
    fetched_due new entry fetched allowed none needed made held =
        let is : IsNext piped s k new.pipeline new.at fetched.orders = made.made s k allowed h.pipeline (all_told none) needed in
        record {
          stands = is.stands;
          orders = made_orders new.pipeline new.at fetched.orders none is;
          held = held ∙ ap (λ (b : Bool). if b then None else side.telling.held) (made.appended s k allowed h.pipeline (all_told none) needed);
        }

  -- a side stands after each step
  pub stands_after : (old new : TimingState P A) (what : Turn) → IsStanding piped old → Steps piped old new what → IsStanding piped new
  stands_after old new what is step = by_tests (needs_entry p) refl (is_none old.telling.held) refl (is_told_out p) refl
    where
      p : Place
      p = place_of piped is.setup is.steps

      made : IsStep piped is.setup is.steps old new what
      made = step is.setup is.steps is.sound is.stands

      same : new ≡ old → IsStanding piped new
      same e = subst (IsStanding piped) (sym e) is

      by_tests : (a : Bool) → needs_entry (place_of piped is.setup is.steps) ≡ a → (b : Bool) → is_none old.telling.held ≡ b → (c : Bool) → is_told_out (place_of piped is.setup is.steps) ≡ c → IsStanding piped new
      by_tests a needs b none true over = same (made.rests over).1
      by_tests true needs true none false on = same (made.waits needs (none_held old.telling.held none)).1
      by_tests true needs false none false on = record { setup = is.setup; sound = is.sound; steps = suc is.steps; stands = (made.goes (λ i. needs i && none i) on).stands }
      by_tests false needs b none false on = record { setup = is.setup; sound = is.sound; steps = suc is.steps; stands = (made.goes (λ i. needs i && none i) on).stands }

  -- the held entry may be tried
  pub may_try : (side : TimingState P A) → IsStanding piped side → side.telling.owed ≡ None → wants_in piped side ≡ false → is_try (piped.seen side.at) ≡ true → (entry : Entry) → side.telling.held ≡ Some entry →
      MayTry piped side.pipeline side.at entry
  may_try side is none free try entry held =
      let needed = try_holds is.setup is.steps side is.stands none free try in
      let same : entry ≡ needed_entry is.setup (place_of piped is.setup is.steps) = same_held entry (needed_entry is.setup (place_of piped is.setup is.steps)) (sym held ∙ needed) in
      record {
        setup = is.setup;
        allowed = is.sound;
        steps = is.steps;
        stands = is.stands.pipeline;
        told = all_told is.setup is.steps side is.stands none;
        tries = try;
        needed = same;
      }
    where
      same_held : (e f : Entry) → ◌≡◌ {A = Option Entry} (Some e) (Some f) → e ≡ f
      same_held e f is = cc

  -- where the first of the orders is told, that is a step
  pub due_told : (old mid : TimingState P A) (due : Orders) (told : Option Order) (behind : Telling) → wants_in piped old ≡ false → over_in piped old ≡ false →
      ((s : Setup) (k : ℕ) → piped.allows s → SideStandsFor piped s k old → IsTold piped s k old mid due) → mid.telling.epoch ≡ old.telling.epoch → told ≡ due.first → behind ≡ told_behind due mid.telling →
      Steps piped old (record mid { telling = behind }) (turn_told told (piped.seen old.at))
  due_told old mid due told behind free on made epoch first is =
      let turn = turn_told told (piped.seen old.at) in
      λ s k allowed h.
      subst (λ (t : Telling). IsStep piped s k old (record mid { telling = t }) turn) (sym is)
      (going_step s k old h (told_side mid due) turn free on
      (λ still. step_made piped laws s k old mid due turn allowed h still (made s k allowed h) epoch (ap (λ (o : Option Order). turn_told o (piped.seen old.at)) first)))
