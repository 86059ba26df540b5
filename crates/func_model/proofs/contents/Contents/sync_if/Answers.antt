use Rattle.func_model.proofs.contents.Contents.sync_if.Goals as goal

pub returns-then-is_fence-clause-stands : goal.returns-then-is_fence-clause-stands
returns-then-is_fence-clause-stands g c = λ s a h. rw c.if-is_fence.true (c.sync.ensures.stands s a h)

pub returns-else-is_fence-clause-stands : goal.returns-else-is_fence-clause-stands
returns-else-is_fence-clause-stands g c = λ s a h. rw c.if-is_fence.false h
