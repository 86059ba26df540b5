use Rattle.std.proofs.Common.{◌≡◌, true}
use Rattle.mono_model.specs.Demand.{is_try}
use Rattle.inorder_machine.specs.Demand.{seen_at}
use Rattle.inorder_model.specs.declared.at.At.{At}
use Rattle.inorder_model.specs.declared.at.At.TheVariants.{Interrupting, Writing, Accessing, Executing, Issuing, Trying, Ending, Stopping, Halted}
use Rattle.inorder_model.specs.At.{at_in}
use Rattle.std.proofs.Common.{refl}
use Rattle.inorder_model.proofs.Numbers.{try_has_room, try_follows}
use Rattle.inorder_model.proofs.Turns.{fetched_by}
use Rattle.inorder_model.proofs.in_order.InorderTimingCorePipeline.fetch.Goals as goal

pub fetch-tried-requires-clause-room : goal.fetch-tried-requires-clause-room
fetch-tried-requires-clause-room c = try_has_room c.args.self.now c.args.next.now c.args.entry.now c.requires.tries

pub fetch-tried-requires-clause-next : goal.fetch-tried-requires-clause-next
fetch-tried-requires-clause-next c = try_follows c.args.self.now c.args.next.now c.args.entry.now c.requires.tries

trial : (at : At) → is_try (seen_at (at_in at)) ≡ true → at ≡ Trying
trial Interrupting try = cc
trial Writing try = cc
trial Accessing try = cc
trial Executing try = cc
trial Issuing try = cc
trial Trying try = refl
trial Ending try = cc
trial Stopping try = cc
trial Halted try = cc

pub returns-clause-fetched : goal.returns-clause-fetched
returns-clause-fetched c =
    let x = c.fetch-tried.ensures in
    fetched_by c.args.self.now c.fetch-tried.new.self c.args.entry.now c.fetch-tried.result
    (λ s l h small. record { inorder = x.kept s l h small; orders = x.orders s l h small; appended = x.appended s l h small })
    c.args.next.now (trial c.args.next.now c.requires.tries.tries)
