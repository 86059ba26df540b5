use Rattle.std.specs.Vec.Iter.{into_iter_items}
use Rattle.fast_jobs.proofs.Sweeps.{items-three, taken-rest, taken-set, three-items}
use Rattle.fast_jobs.proofs.sweep.take_set.Goals as goal

pub returns-clause-order : goal.returns-clause-order
returns-clause-order g c =
    let old = into_iter_items c.args.devices.now in
    let one = into_iter_items c.next.new.self in
    let two = into_iter_items c.next-2.new.self in
    let rest = into_iter_items c.next-3.new.self in
    let x = c.unwrap-console.result in
    let y = c.unwrap-timer.result in
    let z = c.unwrap-finisher.result in
    taken-set g.D.Device.kind old rest c.push-3.new.list.items x y z
    (items-three old one two rest c.next.result c.next-2.result c.next-3.result x y z c.next.ensures.items c.unwrap-console.ensures
    c.next-2.ensures.items c.unwrap-timer.ensures c.next-3.ensures.items c.unwrap-finisher.ensures)
    (three-items c.new-set.result.items c.push.new.list.items c.push-2.new.list.items c.push-3.new.list.items x y z
    c.new-set.ensures.items c.in_ok-push.ensures.pushed c.in_ok-push-2.ensures.pushed c.in_ok-push-3.ensures.pushed) c.requires.some

pub returns-clause-left : goal.returns-clause-left
returns-clause-left g c =
    let old = into_iter_items c.args.devices.now in
    let one = into_iter_items c.next.new.self in
    let two = into_iter_items c.next-2.new.self in
    let rest = into_iter_items c.next-3.new.self in
    let x = c.unwrap-console.result in
    let y = c.unwrap-timer.result in
    let z = c.unwrap-finisher.result in
    taken-rest g.D.Device.kind old rest x y z
    (items-three old one two rest c.next.result c.next-2.result c.next-3.result x y z c.next.ensures.items c.unwrap-console.ensures
    c.next-2.ensures.items c.unwrap-timer.ensures c.next-3.ensures.items c.unwrap-finisher.ensures)
