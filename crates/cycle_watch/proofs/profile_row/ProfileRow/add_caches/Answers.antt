use Rattle.std.proofs.Common.{◌≡◌, ◌∙◌, ◌+◌, ◌-◌, ◌<◌, ◌^◌, ℕ, suc, length, min, List, ap, arith}
use Rattle.std.specs.Prelude.{slice_set, slice_index}
use Rattle.cycle_watch.specs.declared.profile_row.ProfileRow.{ProfileRow}
use Rattle.cycle_watch.proofs.RowCaches.{added_step, added_to}
use Rattle.cycle_watch.proofs.profile_row.ProfileRow.add_caches.Goals as goal

pub loop-place-preserved : goal.loop-place-preserved
loop-place-preserved c =
    let old = c.args.self.now.caches in
    let rise = c.rise-rise.result in
    let place = c.loop-place.place in
    let now = c.loop-place.self.caches in
    let is : now ≡ added_to place old rise = c.loop-place.invariant.caches in
    let whole : length old ≡ 7 = omega arith in
    let seven : length rise ≡ 7 = ap (length {A = ℕ}) c.rise-rise.ensures.rise in
    let within : place < length old = omega (arith, whole) in
    let fit : place < length rise = omega (arith, seven) in
    let next : suc place ≡ place + 1 = omega arith in
    record {
      caches =
          ap (slice_set now place) c.saturating_add.ensures
          ∙ ap (λ (ns : List ℕ). slice_set ns place (min (slice_index ns place + slice_index rise place) (2 ^ 64 - 1))) is
          ∙ added_step old rise place within fit
          ∙ ap (λ (n : ℕ). added_to n old rise) next;
      rest = ap (λ (r : ProfileRow). record r { caches = slice_set now place c.saturating_add.result }) c.loop-place.invariant.rest;
    }
