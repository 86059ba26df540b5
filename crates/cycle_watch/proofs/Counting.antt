-- A stack of the cycles in which nothing happens.
use Rattle.std.proofs.Common.{◌≡◌, ◌∙◌, ◌-◌, ◌<◌, ◌++◌, List, length, length-append, arith}
use Rattle.mono_model.specs.declared.params.Params.{Params}
use Rattle.insight_model.specs.declared.pipeline.Pipeline.{Pipeline}
use Rattle.insight_model.specs.declared.pipeline.Pipeline.TheVariants.{Window}
use Rattle.insight_model.specs.Sight.{Sight}
use Rattle.insight_model.specs.Cycles.{Cycle, cycles_from}
use Rattle.cycle_watch.specs.declared.heads.Heads.{Heads}
use Rattle.cycle_watch.specs.declared.stack.Stacking.{Stacking}
use Rattle.cycle_watch.specs.Facts.{at_cycle}
use Rattle.cycle_watch.specs.Passing.{idle_between}
use Rattle.cycle_watch.specs.Counted.{IsStackOf, IsStackingBetween}
use Rattle.cycle_watch.proofs.Between.{cycles_count, facts_count}
use Rattle.cycle_watch.proofs.Stretches.{HasPassedIdle, PassesIdle, between_later}

abbrev pub heads_of : Stacking → Heads
heads_of stacking = stacking.heads

abbrev pub HasStacked : Unit {0} → Pipeline → Params → List Cycle → Stacking → Type 0
HasStacked it kind p run stacking = IsStackOf kind p run stacking.counts

abbrev pub MayStack : Sight → Stacking → Type 0
MayStack after stacking = IsStackingBetween stacking after

-- some stretches were counted since
abbrev pub HasStackedIdle : Sight → Stacking → Stacking → Type 0
HasStackedIdle after old now = HasPassedIdle heads_of HasStacked (MayStack after) after old now

-- and others may be
pub may_stack : (after : Sight) (now next : Stacking) → IsStackingBetween now after → now.heads.last.cycle < next.heads.last.cycle → PassesIdle heads_of HasStacked after now next → IsStackingBetween next after
may_stack after now next st on more =
    let others = idle_between now.heads.last.cycle next.heads.last.cycle after in
    let count : length (cycles_from Window st.between.params st.between.known others) ≡ next.heads.last.cycle - now.heads.last.cycle =
    cycles_count Window st.between.params st.between.known others
    ∙ facts_count (next.heads.last.cycle - now.heads.last.cycle) (at_cycle now.heads.last.cycle after) in
    record {
      between = between_later after now.heads next.heads st.between on more.stands;
      run = st.run ++ cycles_from Window st.between.params st.between.known others;
      counted = more.counted tt st.between.params st.between.known st.run st.between.stands st.counted;
      short = omega (arith, on, st.short, count, length-append st.run (cycles_from Window st.between.params st.between.known others));
    }
