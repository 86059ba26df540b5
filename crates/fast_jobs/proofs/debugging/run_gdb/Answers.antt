use Rattle.std.proofs.Common.{◌≡◌, ◌∙◌, Err, sym, subst}
use Rattle.report_text.specs.FaultText.{fault_text}
use Rattle.report_text.specs.declared.status.Role.TheVariants.{Packets}
use Rattle.report_text.specs.declared.status.Status.{Status}
use Rattle.report_text.specs.declared.status.Status.TheVariants.{ReadFault}
use Rattle.gdb_model.specs.Talk.{start_talk}
use Rattle.gdb_session.specs.declared.serving.ServeFault.{ServeFault}
use Rattle.gdb_session.specs.Talk.{HasTalked as HasServed}
use Rattle.fast_jobs.specs.declared.job.Job.TheVariants.{Gdb}
use Rattle.fast_jobs.specs.Call.{WroteTo, hearing_of, writing_of}
use Rattle.fast_jobs.specs.Ending.{HasTalked}
use Rattle.fast_jobs.specs.Talking.{exchange_of}
use Rattle.fast_jobs.proofs.Talks.{talk-cut_off}
use Rattle.fast_jobs.proofs.debugging.run_gdb.Goals as goal

pub returns-in-Err-Read-clause-talked : goal.returns-in-Err-Read-clause-talked
returns-in-Err-Read-clause-talked g c =
    let s = c.args.setup.now in
    let history = c.args.history in
    let written = g.K.Sink.written in
    let faults = g.K.Sink.faults in
    let before = c.args.sink.now in
    let middle = c.answer_all.new.sink in
    let after = c.tell.new.sink in
    let hearing = hearing_of g.S.Source.heard g.S.Source.faults c.args.source.now c.answer_all.new.source in
    let refused : c.new-in-Err-Read.result ≡ ReadFault Packets = c.new-in-Err-Read.ensures.same in
    let told : c.tell.result ≡ ReadFault Packets = c.tell.ensures.same ∙ refused in
    let line = subst (λ (status : Status). WroteTo (writing_of written faults middle after) (fault_text status)) refused c.tell.ensures.line in
    let served = subst (λ (fault : ServeFault). HasServed history s start_talk (exchange_of hearing (writing_of written faults before middle)) (Err fault)) c.in-Err-Read.field-0-is
    c.in-Err-Read.ensures.talked in
    subst (λ (status : Status). HasTalked (Gdb s history) hearing (writing_of written faults before after) status) (sym told)
    (talk-cut_off history s hearing (written before) (written middle) (written after) (faults before) (faults middle) (faults after) c.answer_all.ensures.count served line)
