-- An order that is obeyed bends the path.
use Rattle.std.proofs.Common.{◌≡◌, ◌⊎◌, inl, inr, ◌<◌, ℕ, ◌+◌, ◌≤◌, Bool, true, false, List, [], ◌∷◌, length, Option, refl, ap, sym, ◌∙◌, subst, arith}
use Rattle.rollback_cmds.specs.declared.order.Order.{Order}
use Rattle.rollback_cmds.specs.declared.order.Order.TheVariants.{Set, Commit, Interrupt, Time, Stop, Sync}
use Rattle.rollback_cmds.specs.Order.{opens_epoch_of}
use Rattle.undo_journal.specs.declared.past.Past.{Past}
use Rattle.mono_model.specs.declared.setup.Setup.{Setup}
use Rattle.mono_model.specs.Setup.{ram_range}
use Rattle.mono_model.specs.Arch.{Arch, interrupted, synced, trapped}
use Rattle.mono_model.specs.Path.{path, time_of, openings, GoesOn, has_stop}
use Rattle.mono_model.specs.Demand.{number_of}
use Rattle.func_model.specs.declared.contents.Contents.{Contents}
use Rattle.func_model.specs.declared.walk.Walk.{Walk}
use Rattle.func_model.specs.Contents.{ContentsStandFor}
use Rattle.func_model.specs.Walk.{LeadsBack, IsOnPath, WalkStandsFor, IsStanding, IsOver, IsSameBut, IsMoved, HasRoom, given_at, committed_of, bytes_before}
use Rattle.mono_model.proofs.Path.{path_below, path_at_set, path_at_interrupt, path_at_time, path_at_sync, path_commit, path_stop}
use Rattle.func_model.proofs.Leading.{leads_along}
use Rattle.func_model.proofs.Outputs.{bytes_before_is}
use Rattle.func_model.proofs.Reaching.{commit_running}
use Rattle.func_model.proofs.Walking.{ends_at, by_side}

-- how an order leaves the path: below its number as it was, at its number as it was but for the address
pub record Bends (s : Setup) (o : Order) (os : List Order) (n : ℕ) (pc : ℕ) : Type 0 where
  pub number : number_of o ≡ n
  pub opens : opens_epoch_of o ≡ true
  pub at : path s (o ∷ os) n ≡ record (path s os n) { pc = pc }

-- the output of the path up to an order's number stays
output_stays : (s : Setup) (o : Order) (os : List Order) (n pc k : ℕ) → Bends s o os n pc → k ≤ n → (path s (o ∷ os) k).output ≡ (path s os k).output
output_stays s o os n pc k bends within = by_side n k
    (λ least. let e : k ≡ n = omega arith in
    let P : ℕ → Type 0 = λ m. (path s (o ∷ os) m).output ≡ (path s os m).output in
    subst P (sym e) (ap (λ (a : Arch). a.output) bends.at))
    (λ below. ap (λ (a : Arch). a.output) (path_below s o os k (omega (arith, bends.number))))

opened_by : (o : Order) (os : List Order) (epoch : ℕ) → opens_epoch_of o ≡ true → epoch ≡ openings os → epoch + 1 ≡ openings (o ∷ os)
opened_by o os epoch opens is = rw opens (omega (arith, is))

-- a walk at the number of an order that leaves memory there as it is
pub bent_holds : {D : Type 0} (s : Setup) (o : Order) (os : List Order) (n pc : ℕ) (walk : Walk D) (contents : Contents D) (given : Option (ℕ × ℕ)) (stops : Bool) → IsOnPath s os walk →
    Bends s o os n pc → walk.position ≡ n → walk.committed ≤ n → ContentsStandFor s (record (path s os n) { pc = pc }) contents → contents.hart.room ≡ walk.contents.hart.room →
    ((k : ℕ) → given_at given k ≡ time_of (o ∷ os) k) →
    IsOnPath s (o ∷ os) (record walk { contents = contents; epoch = walk.epoch + 1; given = given; is_stopped = stops })
bent_holds {D} s o os n pc walk contents given stops h bends here from stands space times =
    let P : Arch → Type 0 = λ a. ContentsStandFor {D = D} s a contents in
    let Q : ℕ → Type 0 = λ k. ContentsStandFor {D = D} s (path s (o ∷ os) k) contents in
    let end : walk.committed + length walk.journal.steps ≡ n = ends_at walk.committed walk.position walk.journal.steps (omega (arith, here)) h.held ∙ here in
    let W : List ℕ → Type 0 = λ output. length output ≤ s.output in
    record {
      contents = subst Q (sym here) (subst P (sym bends.at) stands);
      back = leads_along (ram_range s.params) (path s os) (path s (o ∷ os)) n (λ k below. path_below s o os k (omega (arith, bends.number))) pc bends.at walk.committed walk.journal.steps end h.back;
      held = h.held;
      capacity = h.capacity;
      limit = h.limit;
      space = space ∙ h.space;
      given = times;
      epoch = opened_by o os walk.epoch bends.opens h.epoch;
      within = subst W (sym (output_stays s o os n pc walk.committed bends from)) h.within;
    }

-- a walk at the number of an order that is committed with it
pub record Settles (s : Setup) (o : Order) (os : List Order) (n : ℕ) (to : Arch) : Type 0 where
  pub opens : opens_epoch_of o ≡ true
  pub at : path s (o ∷ os) n ≡ to
  pub output : to.output ≡ (path s os n).output

no_steps : (steps : List Past) → length steps ≡ 0 → steps ≡ []
no_steps [] is = refl
no_steps (x ∷ xs) is = cc

pub settled_holds : {D : Type 0} (s : Setup) (o : Order) (os : List Order) (n : ℕ) (to : Arch) (walk : Walk D) (contents : Contents D) (given : Option (ℕ × ℕ)) → IsOnPath s os walk →
    Settles s o os n to → walk.position ≡ n → walk.committed ≡ n → ContentsStandFor s to contents → contents.hart.room ≡ walk.contents.hart.room →
    ((k : ℕ) → given_at given k ≡ time_of (o ∷ os) k) →
    IsOnPath s (o ∷ os) (record walk { contents = contents; epoch = walk.epoch + 1; given = given })
settled_holds {D} s o os n to walk contents given h settles here all stands space times =
    let P : Arch → Type 0 = λ a. ContentsStandFor {D = D} s a contents in
    let Q : ℕ → Type 0 = λ k. ContentsStandFor {D = D} s (path s (o ∷ os) k) contents in
    let none : walk.journal.steps ≡ [] = no_steps walk.journal.steps (omega (arith, h.held, here, all)) in
    let L : List Past → Type 0 = λ xs. LeadsBack (ram_range s.params) (path s (o ∷ os)) walk.committed xs in
    let W : ℕ → Type 0 = λ k. length (path s (o ∷ os) k).output ≤ s.output in
    let V : ℕ → Type 0 = λ k. length (path s os k).output ≤ s.output in
    let O : List ℕ → Type 0 = λ output. length output ≤ s.output in
    record {
      contents = subst Q (sym here) (subst P (sym settles.at) stands);
      back = subst L (sym none) tt;
      held = h.held;
      capacity = h.capacity;
      limit = h.limit;
      space = space ∙ h.space;
      given = times;
      epoch = opened_by o os walk.epoch settles.opens h.epoch;
      within = subst W (sym all) (subst O (sym (ap (λ (a : Arch). a.output) settles.at ∙ settles.output)) (subst V all h.within));
    }

-- what the contents stand for, where the walk is
pub contents_at : {D : Type 0} (s : Setup) (os : List Order) (n : ℕ) (walk : Walk D) → IsOnPath s os walk → walk.position ≡ n → ContentsStandFor s (path s os n) walk.contents
contents_at {D} s os n walk h here =
    let P : ℕ → Type 0 = λ k. ContentsStandFor {D = D} s (path s os k) walk.contents in
    subst P here h.contents

pub committed_position : {D : Type 0} (walk next : Walk D) (n : ℕ) → next ≡ record walk { journal = next.journal; committed = n } → next.position ≡ walk.position
committed_position {D} walk next n same = ap (λ (w : Walk D). w.position) same

-- each order
pub bends_set : (s : Setup) (m addr : ℕ) (os : List Order) → Bends s (Set m addr) os m addr
bends_set s m addr os = record { number = refl; opens = refl; at = path_at_set s m addr os }

pub bends_time : (s : Setup) (m v : ℕ) (os : List Order) → Bends s (Time m v) os m (path s os m).pc
bends_time s m v os = record { number = refl; opens = refl; at = path_at_time s m v os }

pub bends_stop : (s : Setup) (m : ℕ) (os : List Order) → Bends s (Stop m) os m (path s os m).pc
bends_stop s m os = record { number = refl; opens = refl; at = ap (λ (p : ℕ → Arch). p m) (path_stop s m os) }

pub settles_interrupt : (s : Setup) (m : ℕ) (os : List Order) → Settles s (Interrupt m) os m (interrupted (path s os m))
unfolding trapped
settles_interrupt s m os = record { opens = refl; at = path_at_interrupt s m os; output = refl }

pub settles_sync : (s : Setup) (m : ℕ) (os : List Order) → Settles s (Sync m) os m (synced s (path s os m))
unfolding synced
settles_sync s m os = record { opens = refl; at = path_at_sync s m os; output = refl }

-- a walk that stands where it holds, by its position
pub stands_at_number : {D : Type 0} (s : Setup) (o : Order) (os : List Order) (n : ℕ) (walk : Walk D) → IsOnPath s (o ∷ os) walk → walk.position ≡ n → GoesOn (o ∷ os) n →
    walk.committed ≡ committed_of (o ∷ os) → walk.is_stopped ≡ has_stop (o ∷ os) → WalkStandsFor s (o ∷ os) walk
stands_at_number s o os n walk h here on done stopped =
    let P : ℕ → Type 0 = λ k. GoesOn (o ∷ os) k in
    record { holds = h; done = done; stopped = stopped; on = λ still. subst P (sym here) on }

-- Commit leaves the path
pub commit_stands : {D : Type 0} (s : Setup) (os : List Order) (n : ℕ) (walk next : Walk D) → WalkStandsFor s os walk → IsOnPath s os next → next.position ≡ walk.position → next.is_stopped ≡ walk.is_stopped →
    next.committed ≡ n → WalkStandsFor s (Commit n ∷ os) next
commit_stands {D} s os n walk next h holds here still done =
    let P : (ℕ → Arch) → Type 0 = λ p. ContentsStandFor {D = D} s (p next.position) next.contents in
    let L : (ℕ → Arch) → Type 0 = λ p. LeadsBack (ram_range s.params) p next.committed next.journal.steps in
    let W : (ℕ → Arch) → Type 0 = λ p. length (p next.committed).output ≤ s.output in
    let G : ℕ → Type 0 = λ k. GoesOn os k in
    record {
      holds = record {
        contents = subst P (sym (path_commit s n os)) holds.contents;
        back = subst L (sym (path_commit s n os)) holds.back;
        held = holds.held;
        capacity = holds.capacity;
        limit = holds.limit;
        space = holds.space;
        given = holds.given;
        epoch = omega (arith, holds.epoch);
        within = subst W (sym (path_commit s n os)) holds.within;
      };
      done = done;
      stopped = still ∙ h.stopped;
      on = λ running. subst G (sym here) (h.on (sym still ∙ running));
    }

-- what is committed has room in the output
pub within_path : {D : Type 0} (s : Setup) (os : List Order) (walk : Walk D) (n : ℕ) → WalkStandsFor s os walk → (walk.position < n → walk.is_stopped ≡ false) → walk.committed ≤ n → bytes_before walk n ≤ walk.limit →
    length (path s os n).output ≤ s.output
within_path s os walk n h running from within = omega (arith, bytes_before_is s os walk h n running from, within, h.holds.limit)

-- what is committed on the way, and all else as the order makes it
pub settled_moved : {D : Type 0} (n : ℕ) (old mid walk : Walk D) (contents : Contents D) (given : Option (ℕ × ℕ)) → IsSameBut old mid → mid.position ≡ n →
    walk ≡ record mid { journal = walk.journal; committed = n } → walk.journal.room ≡ mid.journal.room →
    IsMoved n n old.is_stopped old (record walk { contents = contents; epoch = walk.epoch + 1; given = given })
settled_moved {D} n old mid walk contents given others here same room = record {
  position = ap (λ (w : Walk D). w.position) same ∙ here;
  committed = ap (λ (w : Walk D). w.committed) same;
  stopped = ap (λ (w : Walk D). w.is_stopped) same ∙ others.running;
  epoch = ap (λ (w : Walk D). w.epoch + 1) same ∙ ap (λ (e : ℕ). e + 1) others.epoch;
  room = room ∙ others.room;
  limit = ap (λ (w : Walk D). w.limit) same ∙ others.limit;
}

-- an order to commit, by its number
pub commit_from : (order : Order) (n k : ℕ) → order ≡ Commit n → k ≤ number_of order → k ≤ n
commit_from order n k is from = let P : Order → Type 0 = λ o. k ≤ number_of o in subst P is from

pub commit_within : {D : Type 0} (order : Order) (n : ℕ) (walk : Walk D) → order ≡ Commit n → HasRoom order walk walk.limit → bytes_before walk n ≤ walk.limit
commit_within order n walk is within = let P : Order → Type 0 = λ o. HasRoom o walk walk.limit in subst P is within

-- what an order to commit asks for
pub record MayCommit {D : Type 0} (order : Order) (walk : Walk D) : Type 0 where
  pub from : walk.committed ≤ number_of order
  pub reach : walk.is_stopped ≡ true → number_of order ≤ walk.position
  pub within : HasRoom order walk walk.limit

-- where it is obeyed, the walk stands for one order more
pub committed_stands : {D : Type 0} (s : Setup) (os : List Order) (order : Order) (n : ℕ) (walk next : Walk D) → order ≡ Commit n → MayCommit order walk → WalkStandsFor s os walk →
    (length (path s os n).output ≤ s.output → IsOnPath s os next) → next ≡ record walk { journal = next.journal; committed = n } → WalkStandsFor s (order ∷ os) next
committed_stands {D} s os order n walk next is may h holds same =
    let P : Order → Type 0 = λ o. WalkStandsFor {D = D} s (o ∷ os) next in
    let from = commit_from order n walk.committed is may.from in
    let within = within_path s os walk n h (commit_running order n walk is may.reach) from (commit_within order n walk is may.within) in
    subst P (sym is)
    (commit_stands s os n walk next h (holds within) (committed_position walk next n same) (ap (λ (w : Walk D). w.is_stopped) same) (ap (λ (w : Walk D). w.committed) same))

-- and one whose run is over stays so
pub committed_able : {D : Type 0} (order : Order) (n : ℕ) (walk next : Walk D) → order ≡ Commit n → MayCommit order walk → (IsStanding walk ⊎ IsOver walk) →
    ((s : Setup) (os : List Order) → IsOnPath s os walk → length (path s os n).output ≤ s.output → IsOnPath s os next) →
    next ≡ record walk { journal = next.journal; committed = n } → IsStanding next ⊎ IsOver next
committed_able {D} order n walk next is may able holds same =
    let P : Order → Type 0 = λ o. walk.is_stopped ≡ true → number_of o ≤ walk.position in
    let reach : walk.is_stopped ≡ true → n ≤ walk.position = subst P is may.reach in
    elim able [
      | inl standing ↦ inl (record {
        setup = standing.setup;
        orders = order ∷ standing.orders;
        stands = committed_stands standing.setup standing.orders order n walk next is may standing.stands
            (holds standing.setup standing.orders standing.stands.holds) same;
      })
      | inr over ↦ inr (record {
        stopped = ap (λ (w : Walk D). w.is_stopped) same ∙ over.stopped;
        here = omega (
          arith,
          commit_from order n walk.committed is may.from,
          reach over.stopped,
          over.here,
          ap (λ (w : Walk D). w.position) same,
          ap (λ (w : Walk D). w.committed) same,
        );
      })
    ]
