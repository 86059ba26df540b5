-- What flushed of the last instruction that left, and of those that stayed.
use Rattle.std.proofs.Common.{◌≡◌, ◌∙◌, ℕ, zero, suc, ◌+◌, ◌-◌, ◌≤◌, ◌<◌, nat_lt, Bool, true, false, if◌then◌else◌, is_some, Option, Some, None, List, drop, length, map, option_map, take, refl, sym, ap, arith}
use Rattle.std.specs.Prelude.{option_and_then, slice_get}
use Rattle.std.specs.List.{last_or}
use Rattle.std.specs.Option.{option_map_or}
use Rattle.std.proofs.lemmas.Bool.{le-ltb, lt-ltb}
use Rattle.std.proofs.lemmas.List.{drop-map, length-map}
use Rattle.std.proofs.lemmas.Option.{slice_get-map}
use Rattle.timing_core.specs.declared.counts.Counts.{Counts}
use Rattle.timing_core.specs.Counts.{counts_in}
use Rattle.mono_model.specs.Machine as machine
use Rattle.insight_model.specs.declared.cycle_cause.CycleCause.TheVariants as cause
use Rattle.insight_model.specs.Cause.{Charge, charge}
use Rattle.insight_model.specs.Sight.{Shown, Sight, is_fence_i_shown}
use Rattle.insight_model.specs.Facts.{addr_or, charge_where, or_else}
use Rattle.cycle_watch.specs.declared.last.LastSight.{LastSight}
use Rattle.cycle_watch.specs.declared.mark.Mark.{Mark}
use Rattle.cycle_watch.specs.Shown.{shown_in}
use Rattle.cycle_watch.specs.Facts.{Keeps, leaving_flush, staying_flush, window_in}
use Rattle.cycle_watch.proofs.Windows.{last_taken}

-- whether a count rose, by what is kept of it
module _ (before after : Sight) (last : LastSight) (counts : Counts) (keeps : Keeps before last) (seen : counts_in counts ≡ after.counts) where
  pub exceptions_rose : last.counts.exceptions < counts.exceptions → nat_lt before.counts.exceptions after.counts.exceptions ≡ true
  exceptions_rose rose = (λ i. nat_lt (sym keeps.noted.counts i).exceptions (sym seen i).exceptions) ∙ lt-ltb last.counts.exceptions counts.exceptions rose

  pub exceptions_stay : counts.exceptions ≤ last.counts.exceptions → nat_lt before.counts.exceptions after.counts.exceptions ≡ false
  exceptions_stay stay = (λ i. nat_lt (sym keeps.noted.counts i).exceptions (sym seen i).exceptions) ∙ le-ltb last.counts.exceptions counts.exceptions stay

  pub replays_stay : counts.replays ≤ last.counts.replays → nat_lt before.counts.replays after.counts.replays ≡ false
  replays_stay stay = (λ i. nat_lt (sym keeps.noted.counts i).replays (sym seen i).replays) ∙ le-ltb last.counts.replays counts.replays stay

  pub mispredicted_rose : last.counts.mispredicted < counts.mispredicted → nat_lt before.counts.mispredicted after.counts.mispredicted ≡ true
  mispredicted_rose rose = (λ i. nat_lt (sym keeps.noted.counts i).mispredicted (sym seen i).mispredicted) ∙ lt-ltb last.counts.mispredicted counts.mispredicted rose

  pub mispredicted_stay : counts.mispredicted ≤ last.counts.mispredicted → nat_lt before.counts.mispredicted after.counts.mispredicted ≡ false
  mispredicted_stay stay = (λ i. nat_lt (sym keeps.noted.counts i).mispredicted (sym seen i).mispredicted) ∙ le-ltb last.counts.mispredicted counts.mispredicted stay

-- the last that left
pub leaver_is : (marks : List Mark) (w : List Shown) (left : ℕ) (mark : Mark) → window_in marks ≡ w → (left ≡ 0 → ⊥) → left ≤ length marks → slice_get marks (left - 1) ≡ Some mark →
    last_or None (take left w) ≡ Some (shown_in mark.shown)
leaver_is marks w zero mark are some within here = absurd (some refl)
leaver_is marks w (suc n) mark are some within here =
    let same : suc n - 1 ≡ n = omega arith in
    let fit : n < length (window_in marks) = omega (arith, within, length-map marks (λ (m : Mark). shown_in m.shown)) in
    ap (λ (v : List Shown). last_or None (take (suc n) v)) (sym are)
    ∙ last_taken None (window_in marks) n fit
    ∙ slice_get-map (λ (m : Mark). shown_in m.shown) marks n
    ∙ ap (option_map (λ (m : Mark). shown_in m.shown)) (ap (slice_get marks) (sym same) ∙ here)

abbrev by_leaver : Bool → Bool → ℕ → Option Charge
by_leaver trapped fence addr = or_else (charge_where trapped (charge cause.Trap addr)) (charge_where fence (charge cause.Fence addr))

leaving_by : (before after : Sight) (leaver : Option Shown) (rec : Shown) (trapped fence : Bool) → leaver ≡ Some rec → nat_lt before.counts.exceptions after.counts.exceptions ≡ trapped →
    is_fence_i_shown rec ≡ fence → leaving_flush before after leaver ≡ by_leaver trapped fence rec.addr
leaving_by before after leaver rec trapped fence is trap fenced =
    ap (leaving_flush before after) is ∙ (λ i. by_leaver (trap i) (fenced i) rec.addr)

pub leaving_trap : (before after : Sight) (leaver : Option Shown) (rec : Shown) → leaver ≡ Some rec → nat_lt before.counts.exceptions after.counts.exceptions ≡ true →
    leaving_flush before after leaver ≡ Some (charge cause.Trap rec.addr)
leaving_trap before after leaver rec is trap = leaving_by before after leaver rec true (is_fence_i_shown rec) is trap refl

pub leaving_fence : (before after : Sight) (leaver : Option Shown) (rec : Shown) → leaver ≡ Some rec → nat_lt before.counts.exceptions after.counts.exceptions ≡ false →
    is_fence_i_shown rec ≡ true → leaving_flush before after leaver ≡ Some (charge cause.Fence rec.addr)
leaving_fence before after leaver rec is trap fence = leaving_by before after leaver rec false true is trap fence

pub leaving_none : (before after : Sight) (leaver : Option Shown) (rec : Shown) → leaver ≡ Some rec → nat_lt before.counts.exceptions after.counts.exceptions ≡ false →
    is_fence_i_shown rec ≡ false → leaving_flush before after leaver ≡ None
leaving_none before after leaver rec is trap fence = leaving_by before after leaver rec false false is trap fence

pub staying_wrong : (before after : Sight) (others : List Shown) (wrong : Option Shown) (rec : Shown) → nat_lt before.counts.replays after.counts.replays ≡ false → wrong ≡ Some rec →
    staying_flush before after others wrong ≡ Some (charge cause.Mispredict rec.addr)
staying_wrong before after others wrong rec none is =
    λ i. or_else (charge_where (none i) (charge cause.Replay (addr_or 0 (slice_get others 0)))) (charge_where (is_some (is i)) (charge cause.Mispredict (addr_or 0 (is i))))

-- the mispredicted one, as it is remembered
pub wrong_is : (marks : List Mark) (w : List Shown) (left : ℕ) (wrong : Option ℕ) (place : ℕ) (mark : Mark) → window_in marks ≡ w → wrong ≡ Some place → slice_get (drop left marks) place ≡ Some mark →
    option_and_then (slice_get (drop left w)) wrong ≡ Some (shown_in mark.shown)
wrong_is marks w left wrong place mark are is here =
    (λ i. option_and_then (slice_get (drop left (sym are i))) (is i))
    ∙ ap (λ (v : List Shown). slice_get v place) (drop-map (λ (m : Mark). shown_in m.shown) left marks)
    ∙ slice_get-map (λ (m : Mark). shown_in m.shown) (drop left marks) place
    ∙ ap (option_map (λ (m : Mark). shown_in m.shown)) here
