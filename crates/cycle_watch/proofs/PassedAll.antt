-- All that stayed have advanced: what is kept then of the instructions under way.
use Rattle.std.proofs.Common.{◌≡◌, ◌∙◌, ℕ, ◌+◌, ◌≤◌, List, drop, length, length-drop, length-take, map, take, take-take, refl, sym, ap, arith}
use Rattle.std.specs.Prelude.{filter_map}
use Rattle.std.proofs.lemmas.List.{drop-map, length-map, take-map, take_all}
use Rattle.mono_model.specs.declared.params.Params.{Params}
use Rattle.insight_model.specs.declared.pipeline.Pipeline.{Pipeline}
use Rattle.insight_model.specs.Cause.{Charge}
use Rattle.insight_model.specs.Sight.{Shown, Sight}
use Rattle.insight_model.specs.Facts.{Facts, Kept, facts as cycle_facts, pairs}
use Rattle.insight_model.specs.Accesses.{kept_misses, load_access}
use Rattle.cycle_watch.specs.declared.facts.Facts.{Facts as FactsInCode}
use Rattle.cycle_watch.specs.declared.last.LastSight.{LastSight}
use Rattle.cycle_watch.specs.declared.mark.Mark.{Mark}
use Rattle.cycle_watch.specs.Shown.{shown_in}
use Rattle.cycle_watch.specs.Facts.{Follows, IsTold, Keeps, access_in, charge_in, window_in}
use Rattle.cycle_watch.specs.Known.{misses_in, origins_in}
use Rattle.cycle_watch.proofs.Passed.{PassedSoFar, pairs_so_far}
use Rattle.cycle_watch.proofs.Windows.{misses_cut, pairs_cut, pairs_length}

module _ (before after : Sight) (old was now : LastSight) (f : FactsInCode) (keeps : Keeps before old) (follows : Follows before after) (told : IsTold before after f)
    (cut : was.marks.items ≡ take f.kept (drop f.left old.marks.items)) (pipeline : was.pipeline ≡ old.pipeline) (params : was.params ≡ old.params)
    (s : PassedSoFar after.window f.cycle f.kept was now) where
  abbrev stayed : List Mark
  stayed = take f.kept (drop f.left old.marks.items)

  cut_again : take f.kept was.marks.items ≡ stayed
  cut_again = ap (take f.kept) cut ∙ take-take f.kept f.kept (drop f.left old.marks.items) (omega arith)

  few : length now.marks.items ≤ f.kept
  few = omega (arith, s.size, ap (length {A = Mark}) cut, length-take f.kept (drop f.left old.marks.items))

  all : take f.kept now.marks.items ≡ now.marks.items
  all = take_all f.kept now.marks.items few

  -- of the list of what each instruction has
  part : {A : Type 0} (g : Mark → A) → map g stayed ≡ take f.kept (drop f.left (map g old.marks.items))
  part g =
      sym (take-map g f.kept (drop f.left old.marks.items)) ∙ ap (take f.kept) (sym (drop-map g f.left old.marks.items))

  seen_cycle : f.cycle ≡ before.cycle
  unfolding cycle_facts
  seen_cycle = ap (λ (x : Facts). x.cycle) told.facts

  seen_kept : (cycle_facts before after).kept ≡ pairs (drop f.left before.window) (take f.kept after.window)
  seen_kept = ap (λ (x : Facts). x.kept) (sym told.facts)

  stayed_seen : window_in stayed ≡ take f.kept (drop f.left before.window)
  stayed_seen = part (λ (m : Mark). shown_in m.shown) ∙ ap (λ (w : List Shown). take f.kept (drop f.left w)) keeps.window

  pairs_all : pairs_so_far after.window f.kept was.marks.items ≡ (cycle_facts before after).kept
  pairs_all =
      ap (λ (ms : List Mark). pairs (window_in ms) (take f.kept after.window)) cut_again
      ∙ ap (λ (w : List Shown). pairs w (take f.kept after.window)) stayed_seen
      ∙ pairs_cut f.kept (drop f.left before.window) after.window
      ∙ sym seen_kept

  kept_few : length (cycle_facts before after).kept ≤ f.kept
  kept_few =
      omega (
        arith,
        ap (length {A = Kept}) seen_kept,
        pairs_length (drop f.left before.window) (take f.kept after.window)
            (omega (arith, length-take f.kept after.window, length-drop f.left before.window, told.left, told.kept, follows.kept)),
        length-take f.kept after.window,
      )

  pub window_all : window_in now.marks.items ≡ take f.kept after.window
  window_all = ap window_in (sym all) ∙ s.window

  pub misses_all : misses_in now.marks.items ≡ kept_misses old.pipeline old.params before.cycle (cycle_facts before after).kept (drop f.left (misses_in old.marks.items))
  misses_all =
      ap misses_in (sym all)
      ∙ s.misses
      ∙ (λ i. kept_misses (pipeline i) (params i) (seen_cycle i) (pairs_all i) ((ap misses_in cut_again ∙ part (λ (m : Mark). m.miss)) i))
      ∙ misses_cut old.pipeline old.params before.cycle (cycle_facts before after).kept f.kept (drop f.left (misses_in old.marks.items)) kept_few

  pub origins_all : origins_in now.marks.items ≡ take f.kept (drop f.left (origins_in old.marks.items))
  origins_all = ap origins_in (sym all) ∙ s.origins ∙ ap origins_in cut_again ∙ part (λ (m : Mark). charge_in m.origin)

  pub loads_all : map access_in now.loads.items ≡ filter_map (load_access old.pipeline) (cycle_facts before after).kept
  loads_all = s.loads ∙ (λ i. filter_map (load_access (pipeline i)) (pairs_all i))
