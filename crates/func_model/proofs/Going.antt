-- A walk that goes back by its journal, or on by execution.
use Rattle.std.proofs.Common.{◌≡◌, ℕ, suc, ◌+◌, ◌-◌, ◌≤◌, ◌<◌, List, [], ◌∷◌, ◌++◌, length, take, drop, refl, ap, sym, ◌∙◌, subst, arith}
use Rattle.std.specs.List.{All}
use Rattle.std.proofs.lemmas.List.{length-take, length-drop, drop-drop}
use Rattle.std.proofs.lemmas.List.Elements.{All-same, All-drop}
use Rattle.rollback_cmds.specs.declared.order.Order.{Order}
use Rattle.undo_journal.specs.declared.past.Past.{Past}
use Rattle.undo_journal.specs.Journal.{Log, from_number}
use Rattle.mono_model.specs.declared.setup.Setup.{Setup}
use Rattle.mono_model.specs.Setup.{ram_range}
use Rattle.mono_model.specs.Arch.{Arch}
use Rattle.mono_model.specs.Path.{path}
use Rattle.func_model.specs.declared.contents.Contents.{Contents}
use Rattle.func_model.specs.declared.walk.Walk.{Walk}
use Rattle.func_model.specs.Undo.{undone, all_undone, IsRestorable}
use Rattle.func_model.specs.Contents.{ContentsStandFor}
use Rattle.func_model.specs.Walk.{IsStep, LeadsBack, IsOnPath, WalkStandsFor, IsSameBut, IsOnSomePath, IsStanding}
use Rattle.func_model.proofs.Leading.{leads_less, leads_front, leads_newest, leads_all, leads_restorable, leads_from, length_from, drop_from}
use Rattle.func_model.proofs.Walking.{one_longer}

-- what holds as instructions are taken back until `n` is the next one
pub record Backing {D : Type 0} (n : ℕ) (opened walk : Walk D) : Type 0 where
  pub holds : (s : Setup) (os : List Order) → IsOnPath s os opened → IsOnPath s os walk
  pub others : IsSameBut opened walk
  pub within : walk.position ≤ opened.position
  pub above : n < opened.position → n ≤ walk.position
  pub stays : opened.position ≤ n → walk ≡ opened

pub backing_start : {D : Type 0} (n : ℕ) (walk : Walk D) → Backing n walk walk
backing_start n walk = record {
  holds = λ s os h. h;
  others = record { committed = refl; room = refl; running = refl; epoch = refl; limit = refl };
  within = omega arith;
  above = λ more. omega arith;
  stays = λ less. refl;
}

-- the journal's newest step, where the position is above what is committed
last_step : {D : Type 0} (s : Setup) (os : List Order) (walk : Walk D) (steps : List Past) (past : Past) → IsOnPath s os walk → walk.committed < walk.position → walk.journal.steps ≡ steps ++ past ∷ [] →
    LeadsBack (ram_range s.params) (path s os) walk.committed steps × IsStep (ram_range s.params) (path s os) (walk.position - 1) past
last_step s os walk steps past h above is =
    let L : List Past → Type 0 = λ xs. LeadsBack (ram_range s.params) (path s os) walk.committed xs in
    let both = leads_less (ram_range s.params) (path s os) walk.committed steps past (subst L is h.back) in
    let end : walk.committed + length steps ≡ walk.position - 1 =
    place walk.committed walk.position (length steps) (length walk.journal.steps) above h.held (ap (length {A = Past}) is ∙ one_longer steps past) in
    let S : ℕ → Type 0 = λ n. IsStep (ram_range s.params) (path s os) n past in
    (both.0, subst S end both.1)
  where
    place : (committed position count whole : ℕ) → committed < position → whole ≡ position - committed → whole ≡ count + 1 → committed + count ≡ position - 1
    place committed position count whole above held is = omega arith

pub last_restorable : {D : Type 0} (walk : Walk D) (journal : Log) (past : Past) → IsOnSomePath walk → walk.committed < walk.position →
    walk.journal ≡ record journal { steps = journal.steps ++ past ∷ [] } → IsRestorable past
last_restorable walk journal past holding above is =
    (last_step holding.setup holding.orders walk journal.steps past holding.holds above (ap (λ (j : Log). j.steps) is)).1.restorable

-- there is such a step
pub not_empty : {A : Type 0} {D : Type 0} (walk : Walk D) → IsOnSomePath walk → walk.committed < walk.position → walk.journal.steps ≡ [] → A
not_empty walk holding above empty =
    let none : length walk.journal.steps ≡ 0 = ap (length {A = Past}) empty in
    absurd (omega (arith, none, holding.holds.held))

-- one instruction is taken back
pub step_back_holds : {D : Type 0} (walk : Walk D) (contents : Contents D) (journal : Log) (past : Past) → walk.committed < walk.position →
    walk.journal ≡ record journal { steps = journal.steps ++ past ∷ [] } →
    ((s : Setup) (a : Arch) → ContentsStandFor s a walk.contents → ContentsStandFor s (undone (ram_range s.params) past a) contents) → contents.hart.room ≡ walk.contents.hart.room →
    (s : Setup) (os : List Order) → IsOnPath s os walk → IsOnPath s os (record walk { contents = contents; journal = journal; position = walk.position - 1 })
step_back_holds {D} walk contents journal past above is stands space s os now =
    let steps : walk.journal.steps ≡ journal.steps ++ past ∷ [] = ap (λ (j : Log). j.steps) is in
    let last = last_step s os walk journal.steps past now above steps in
    let P : Arch → Type 0 = λ a. ContentsStandFor {D = D} s a contents in
    let next : walk.position ≡ suc (walk.position - 1) = omega arith in
    record {
      contents = subst P (ap (undone (ram_range s.params) past) (ap (path s os) next) ∙ last.1.back) (stands s (path s os walk.position) now.contents);
      back = last.0;
      held = fewer walk.position walk.committed (length journal.steps) (length walk.journal.steps) (ap (length {A = Past}) steps ∙ one_longer journal.steps past) now.held;
      capacity = sym (ap (λ (j : Log). j.room) is) ∙ now.capacity;
      limit = now.limit;
      space = space ∙ now.space;
      given = now.given;
      epoch = now.epoch;
      within = now.within;
    }
  where
    fewer : (position committed count whole : ℕ) → whole ≡ count + 1 → whole ≡ position - committed → count ≡ position - 1 - committed
    fewer position committed count whole is held = omega arith

-- what the newest steps name exists
pub newest_restorable : {D : Type 0} (walk : Walk D) (run : List Past) → IsOnSomePath walk → run ≡ drop (length walk.journal.steps - length run) walk.journal.steps → All IsRestorable run
newest_restorable walk run holding is =
    let steps = walk.journal.steps in
    let all = leads_restorable (ram_range holding.setup.params) (path holding.setup holding.orders) walk.committed steps holding.holds.back in
    All-same IsRestorable run (drop (length steps - length run) steps) is (All-drop IsRestorable (length steps - length run) steps all)

-- of the newest steps those from a place on are taken back
pub steps_back_holds : {D : Type 0} (walk : Walk D) (contents : Contents D) (journal : Log) (run : List Past) (left : ℕ) → walk.committed < walk.position →
    run ≡ drop (length walk.journal.steps - length run) walk.journal.steps → length run ≤ length walk.journal.steps → left ≤ length run →
    journal ≡ record walk.journal { steps = take (length walk.journal.steps - (length run - left)) walk.journal.steps } →
    ((s : Setup) (a : Arch) → ContentsStandFor s a walk.contents → ContentsStandFor s (all_undone (ram_range s.params) (drop left run) a) contents) → contents.hart.room ≡ walk.contents.hart.room →
    (s : Setup) (os : List Order) → IsOnPath s os walk → IsOnPath s os (record walk { contents = contents; journal = journal; position = walk.position - (length run - left) })
steps_back_holds {D} walk contents journal run left above newest short within fewer stands space s os now =
    let range = ram_range s.params in
    let at = path s os in
    let steps = walk.journal.steps in
    let first = walk.committed in
    let kept : ℕ = length steps - (length run - left) in
    let place : length steps - length run + left ≡ kept = omega arith in
    let taken : drop left run ≡ drop kept steps = ap (λ (later : List Past). drop left later) newest ∙ drop-drop left (length steps - length run) steps ∙ ap (λ (n : ℕ). drop n steps) place in
    let end : walk.position ≡ first + kept + length (drop kept steps) = omega (arith, now.held, length-drop kept steps) in
    let here : first + kept ≡ walk.position - (length run - left) = omega (arith, now.held) in
    let back : all_undone range (drop left run) (at walk.position) ≡ at (walk.position - (length run - left)) =
    (λ i. all_undone range (taken i) (at (end i))) ∙ leads_all range at (first + kept) (drop kept steps) (leads_newest range at first kept steps now.back (omega arith)) ∙ ap at here in
    let left_steps : journal.steps ≡ take kept steps = ap (λ (j : Log). j.steps) fewer in
    let P : Arch → Type 0 = λ a. ContentsStandFor {D = D} s a contents in
    let L : List Past → Type 0 = λ xs. LeadsBack range at first xs in
    record {
      contents = subst P back (stands s (at walk.position) now.contents);
      back = subst L (sym left_steps) (leads_front range at first kept steps now.back);
      held = ap (length {A = Past}) left_steps ∙ omega (arith, now.held, length-take kept steps);
      capacity = ap (λ (j : Log). j.room) fewer ∙ now.capacity;
      limit = now.limit;
      space = space ∙ now.space;
      given = now.given;
      epoch = now.epoch;
      within = now.within;
    }

-- what is taken back is on a path
pub backing_holding : {D : Type 0} (n : ℕ) (opened walk : Walk D) → (n < opened.position → IsOnSomePath opened) → Backing n opened walk → n < walk.position → IsOnSomePath walk
backing_holding n opened walk holding at more =
    let held = holding (omega (arith, at.within)) in
    record { setup = held.setup; orders = held.orders; holds = at.holds held.setup held.orders held.holds }

pub backing_more : {D : Type 0} (n : ℕ) (opened walk next : Walk D) → Backing n opened walk → n < walk.position →
    ((s : Setup) (os : List Order) → IsOnPath s os walk → IsOnPath s os next) → n ≤ next.position → next.position < walk.position → IsSameBut walk next → Backing n opened next
backing_more {D} n opened walk next at more holds above less same = record {
  holds = λ s os h. holds s os (at.holds s os h);
  others = record {
    committed = same.committed ∙ at.others.committed;
    room = same.room ∙ at.others.room;
    running = same.running ∙ at.others.running;
    epoch = same.epoch ∙ at.others.epoch;
    limit = same.limit ∙ at.others.limit;
  };
  within = omega (arith, at.within);
  above = λ up. above;
  stays = λ low. absurd (omega (arith, ap (λ (w : Walk D). w.position) (at.stays low)));
}

-- what holds as instructions are executed until `n` is the next one
pub record Onward {D : Type 0} (n : ℕ) (opened walk : Walk D) : Type 0 where
  pub stands : (s : Setup) (os : List Order) → WalkStandsFor s os opened → WalkStandsFor s os walk
  pub others : IsSameBut opened walk
  pub from : opened.position ≤ walk.position
  pub below : opened.position ≤ n → walk.position ≤ n
  pub stays : n < opened.position → walk ≡ opened

pub onward_start : {D : Type 0} (n : ℕ) (walk : Walk D) → Onward n walk walk
onward_start n walk = record {
  stands = λ s os h. h;
  others = record { committed = refl; room = refl; running = refl; epoch = refl; limit = refl };
  from = omega arith;
  below = λ less. less;
  stays = λ more. refl;
}

pub onward_standing : {D : Type 0} (n : ℕ) (opened walk : Walk D) → IsStanding opened → Onward n opened walk → IsStanding walk
onward_standing n opened walk standing at =
    record { setup = standing.setup; orders = standing.orders; stands = at.stands standing.setup standing.orders standing.stands }

pub onward_more : {D : Type 0} (n : ℕ) (opened walk next : Walk D) → Onward n opened walk → walk.position < n →
    ((s : Setup) (os : List Order) → WalkStandsFor s os walk → WalkStandsFor s os next) → next.position ≡ walk.position + 1 → IsSameBut walk next → Onward n opened next
onward_more {D} n opened walk next at less stands further others = record {
  stands = λ s os h. stands s os (at.stands s os h);
  others = record {
    committed = others.committed ∙ at.others.committed;
    room = others.room ∙ at.others.room;
    running = others.running ∙ at.others.running;
    epoch = others.epoch ∙ at.others.epoch;
    limit = others.limit ∙ at.others.limit;
  };
  from = omega (arith, at.from, further);
  below = λ low. omega (arith, further);
  stays = λ up. absurd (omega (arith, ap (λ (w : Walk D). w.position) (at.stays up)));
}

-- more is committed
pub committed_holds : {D : Type 0} (s : Setup) (os : List Order) (walk : Walk D) (n : ℕ) (journal : Log) → IsOnPath s os walk → walk.committed ≤ n →
    journal ≡ record walk.journal { steps = drop (n - walk.committed) walk.journal.steps } → length (path s os n).output ≤ s.output →
    IsOnPath s os (record walk { journal = journal; committed = n })
committed_holds s os walk n journal h from is within =
    let steps : journal.steps ≡ from_number n walk.journal.steps =
    ap (λ (j : Log). j.steps) is ∙ drop_from (ram_range s.params) (path s os) walk.committed n walk.journal.steps h.back from in
    let L : List Past → Type 0 = λ xs. LeadsBack (ram_range s.params) (path s os) n xs in
    record {
      contents = h.contents;
      back = subst L (sym steps) (leads_from (ram_range s.params) (path s os) walk.committed n walk.journal.steps h.back from);
      held = ap (length {A = Past}) steps ∙ length_from (ram_range s.params) (path s os) walk.committed n walk.journal.steps h.back from
          ∙ rest walk.committed walk.position n (length walk.journal.steps) from h.held;
      capacity = ap (λ (j : Log). j.room) is ∙ h.capacity;
      limit = h.limit;
      space = h.space;
      given = h.given;
      epoch = h.epoch;
      within = within;
    }
  where
    rest : (committed position n count : ℕ) → committed ≤ n → count ≡ position - committed → committed + count - n ≡ position - n
    rest committed position n count from held = omega arith
