use Rattle.std.proofs.Common.{◌-◌, arith}
use Rattle.cache_timing.proofs.Word.{grown_fits, IsAged-next}
use Rattle.cache_timing.proofs.ages.after_use.Goals as goal

pub overflow_mul-aged : goal.overflow_mul-aged
overflow_mul-aged c =
    omega (arith, grown_fits c.loop-way.aged 0 (c.args.ways - c.loop-way.way) c.loop-way.invariant.within (omega arith) (omega arith))

pub overflow_add-aged : goal.overflow_add-aged
overflow_add-aged c =
    omega (arith, grown_fits c.loop-way.aged c.age_after.result (c.args.ways - c.loop-way.way) c.loop-way.invariant.within (omega arith) (omega arith))

pub loop-way-preserved : goal.loop-way-preserved
loop-way-preserved c =
    IsAged-next c.args.ages c.args.ways c.args.used c.loop-way.way (c.loop-way.way - 1) c.loop-way.aged c.age_after.result
    (omega arith) (omega arith) c.age_after.ensures.within c.age_after.ensures.age c.loop-way.invariant
