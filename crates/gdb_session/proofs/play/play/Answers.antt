use Rattle.std.proofs.Common.{true, ap, sym}
use Rattle.gdb_model.specs.Description.{description}
use Rattle.gdb_model.specs.Registers.{register_at}
use Rattle.gdb_model.specs.Session.{Session}
use Rattle.gdb_model.specs.Talk.{has_bytes, has_memory, little_or_bad, memory_text, part_text, registers_text, reply_if}
use Rattle.gdb_session.proofs.Playing.{clear_stands, replied_puts, same_stands, set_puts, set_stands, with_quiet}
use Rattle.gdb_session.proofs.Talks.{grown_none}
use Rattle.gdb_session.proofs.play.play.Goals as goal

pub returns-in-Registers-clause-written : goal.returns-in-Registers-clause-written
returns-in-Registers-clause-written g c = λ s history held h.
    rw c.in-Registers.is (replied_puts s history held c.args.session.now (λ (o : Session). registers_text s o.at) c.registers_reply.result
    (g.K.Sink.faults c.args.sink.now) (g.K.Sink.faults c.put_reply.new.sink) (g.K.Sink.written c.args.sink.now) (g.K.Sink.written c.put_reply.new.sink) c.put_reply.result
    h (c.registers_reply.ensures.text s h.trail) c.put_reply.ensures.written)

pub returns-in-Register-clause-written : goal.returns-in-Register-clause-written
returns-in-Register-clause-written g c = λ s history held h.
    rw c.in-Register.is (replied_puts s history held c.args.session.now (λ (o : Session). little_or_bad (register_at s o.at c.in-Register.number)) c.register_reply.result
    (g.K.Sink.faults c.args.sink.now) (g.K.Sink.faults c.put_reply-in-Register.new.sink) (g.K.Sink.written c.args.sink.now) (g.K.Sink.written c.put_reply-in-Register.new.sink) c.put_reply-in-Register.result
    h (c.register_reply.ensures.text s h.trail) c.put_reply-in-Register.ensures.written)

pub returns-in-WriteRegister-clause-written : goal.returns-in-WriteRegister-clause-written
returns-in-WriteRegister-clause-written g c = λ s history held h.
    rw c.in-WriteRegister.is (replied_puts s history held c.args.session.now (λ (o : Session). reply_if (has_bytes c.in-WriteRegister.bytes (register_at s o.at c.in-WriteRegister.number))) (reply_if c.has_register.result)
    (g.K.Sink.faults c.args.sink.now) (g.K.Sink.faults c.put_answer.new.sink) (g.K.Sink.written c.args.sink.now) (g.K.Sink.written c.put_answer.new.sink) c.put_answer.result
    h (ap reply_if (c.has_register.ensures.same s h.trail)) c.put_answer.ensures.written)

pub returns-in-Memory-clause-stands : goal.returns-in-Memory-clause-stands
returns-in-Memory-clause-stands g c = λ s history held h. rw c.in-Memory.is (same_stands s history held c.args.session.now c.memory_reply.new.debugger h c.memory_reply.ensures.same)

pub returns-in-Memory-clause-written : goal.returns-in-Memory-clause-written
returns-in-Memory-clause-written g c = λ s history held h.
    rw c.in-Memory.is (replied_puts s history held c.args.session.now (λ (o : Session). memory_text s o.at c.in-Memory.address c.in-Memory.size) c.memory_reply.result
    (g.K.Sink.faults c.args.sink.now) (g.K.Sink.faults c.put_reply-in-Memory.new.sink) (g.K.Sink.written c.args.sink.now) (g.K.Sink.written c.put_reply-in-Memory.new.sink) c.put_reply-in-Memory.result
    h (c.memory_reply.ensures.text s h.trail) c.put_reply-in-Memory.ensures.written)

pub returns-in-WriteMemory-clause-stands : goal.returns-in-WriteMemory-clause-stands
returns-in-WriteMemory-clause-stands g c = λ s history held h. rw c.in-WriteMemory.is (same_stands s history held c.args.session.now c.has_memory.new.debugger h c.has_memory.ensures.unchanged)

pub returns-in-WriteMemory-clause-written : goal.returns-in-WriteMemory-clause-written
returns-in-WriteMemory-clause-written g c = λ s history held h.
    rw c.in-WriteMemory.is (replied_puts s history held c.args.session.now (λ (o : Session). reply_if (has_memory s o.at c.in-WriteMemory.address c.in-WriteMemory.size c.in-WriteMemory.bytes)) (reply_if c.has_memory.result)
    (g.K.Sink.faults c.args.sink.now) (g.K.Sink.faults c.put_answer-in-WriteMemory.new.sink) (g.K.Sink.written c.args.sink.now) (g.K.Sink.written c.put_answer-in-WriteMemory.new.sink) c.put_answer-in-WriteMemory.result
    h (ap reply_if (c.has_memory.ensures.same s h.trail)) c.put_answer-in-WriteMemory.ensures.written)

pub returns-in-SetPoint-clause-stands : goal.returns-in-SetPoint-clause-stands
returns-in-SetPoint-clause-stands g c = λ s history held h. rw c.in-SetPoint.is (set_stands s history held c.args.session.now c.in-SetPoint.point c.set.new.self c.set.result h c.set.ensures.set)

pub returns-in-SetPoint-clause-written : goal.returns-in-SetPoint-clause-written
returns-in-SetPoint-clause-written g c = λ s history held h.
    rw c.in-SetPoint.is (set_puts s history held c.args.session.now c.in-SetPoint.point c.set.new.self c.set.result
    (g.K.Sink.faults c.args.sink.now) (g.K.Sink.faults c.put_answer-in-SetPoint.new.sink) (g.K.Sink.written c.args.sink.now) (g.K.Sink.written c.put_answer-in-SetPoint.new.sink) c.put_answer-in-SetPoint.result h c.set.ensures.set c.put_answer-in-SetPoint.ensures.written)

pub returns-in-ClearPoint-clause-stands : goal.returns-in-ClearPoint-clause-stands
returns-in-ClearPoint-clause-stands g c = λ s history held h. rw c.in-ClearPoint.is (clear_stands s history held c.args.session.now c.in-ClearPoint.point c.clear.new.self h c.clear.ensures.cleared)

pub returns-in-Kill-clause-written : goal.returns-in-Kill-clause-written
returns-in-Kill-clause-written g c = λ s history held h. rw c.in-Kill.is (sym (grown_none (g.K.Sink.written c.args.sink.now)))

pub returns-in-NoAcks-clause-stands : goal.returns-in-NoAcks-clause-stands
returns-in-NoAcks-clause-stands g c = λ s history held h. rw c.in-NoAcks.is (with_quiet s history held c.args.session.now true h)

pub returns-in-Description-clause-written : goal.returns-in-Description-clause-written
returns-in-Description-clause-written g c = λ s history held h.
    rw c.in-Description.is (replied_puts s history held c.args.session.now (λ (o : Session). part_text description c.in-Description.place c.in-Description.size) c.description_reply.result
    (g.K.Sink.faults c.args.sink.now) (g.K.Sink.faults c.put_reply-in-Description.new.sink) (g.K.Sink.written c.args.sink.now) (g.K.Sink.written c.put_reply-in-Description.new.sink) c.put_reply-in-Description.result
    h c.description_reply.ensures.text c.put_reply-in-Description.ensures.written)

pub returns-in-ContinueBack-clause-stands : goal.returns-in-ContinueBack-clause-stands
returns-in-ContinueBack-clause-stands g c = λ s history held h. rw c.in-ContinueBack.is (c.go_back.ensures.stands s history held h)

pub returns-in-StepBack-clause-stands : goal.returns-in-StepBack-clause-stands
returns-in-StepBack-clause-stands g c = λ s history held h. rw c.in-StepBack.is (c.go_back-in-StepBack.ensures.stands s history held h)

pub returns-in-Supported-clause-written : goal.returns-in-Supported-clause-written
returns-in-Supported-clause-written g c = λ s history held h. rw c.in-Supported.is c.put_content-in-Supported.ensures.written

pub returns-in-Monitor-clause-stands : goal.returns-in-Monitor-clause-stands
returns-in-Monitor-clause-stands g c = λ s history held h. rw c.in-Monitor.is (c.play_command.ensures.stands s history held h)
