-- What is due of a talk where it begins, and what the answer to it is.
use Rattle.std.proofs.Common.{◌≡◌, ℕ, ◌≤◌, List, [], ◌++◌, length, drop, Option, Some, None, Ok, Err, inl, inr, refl, ap, sym, ◌∙◌, append-nil, unwrap_or}
use Rattle.std.proofs.Math.Seq.{drop-append_seam}
use Rattle.fsim_ports.specs.Sink.{grown}
use Rattle.fsim_ports.specs.Source.{IsPrompt}
use Rattle.fsim_ports.proofs.Writing.{breaks_second, grown_twice}
use Rattle.mono_model.specs.declared.setup.Setup.{Setup}
use Rattle.report_text.specs.declared.status.Role.TheVariants.{Packets}
use Rattle.report_text.specs.declared.status.Status.{Status}
use Rattle.report_text.specs.declared.status.Status.TheVariants.{Memory, ReadFault, Shown, WriteFault}
use Rattle.report_text.specs.FaultText.{fault_text}
use Rattle.gdb_model.specs.Talk.{session_text, start_talk, talk_text}
use Rattle.gdb_session.specs.declared.serving.ServeFault.TheVariants.{Read, Write}
use Rattle.gdb_session.specs.Talk.{IsDue, HasTalked as HasServed}
use Rattle.fast_jobs.specs.declared.job.Job.TheVariants.{Gdb}
use Rattle.fast_jobs.specs.Call.{Hearing, Writing, WroteTo}
use Rattle.fast_jobs.specs.Ending.{Broken, CutOff, HasTalked, Reported, Unopened}
use Rattle.fast_jobs.specs.Talking.{due_after, exchange_of}
use Rattle.fast_jobs.proofs.Outcomes.{grown-nothing}

-- nothing is due of no bytes
none-due : (history : ℕ) (s : Setup) (heard : List ℕ) → session_text history s (drop (length heard) heard) ≡ []
unfolding talk_text
none-due history s heard =
    let rest : drop (length heard) heard ≡ [] = ap (drop (length heard)) (sym (append-nil heard)) ∙ drop-append_seam heard [] in
    ap (session_text history s) rest

-- so all that is due is written where a talk begins
pub due-written : (history : ℕ) (s : Setup) (heard written : Option (List ℕ)) → IsPrompt (due_after history s heard written) heard written
due-written history s None written = tt
due-written history s (Some heard) None = tt
due-written history s (Some heard) (Some written) = sym (ap (λ text. written ++ text) (none-due history s heard) ∙ append-nil written)

-- and then what answers the bytes that are read
pub due-grows : (history : ℕ) (s : Setup) (heard written : Option (List ℕ)) → IsDue (due_after history s heard written) history s start_talk heard
due-grows history s None written = tt
due-grows history s (Some heard) written = λ bytes.
    let before : List ℕ = unwrap_or written [] in
    let none : before ≡ before ++ session_text history s (drop (length heard) heard) =
    sym (ap (λ text. before ++ text) (none-due history s heard) ∙ append-nil before) in
    ap (λ rest. before ++ session_text history s rest) (drop-append_seam heard bytes) ∙ ap (λ front. front ++ session_text history s bytes) none

-- a talk up to the end of standard input
pub talk-shown : (history : ℕ) (s : Setup) (hearing : Hearing) (sink : Writing) → HasServed history s start_talk (exchange_of hearing sink) (Ok tt) → HasTalked (Gdb s history) hearing sink Shown
talk-shown history s hearing sink served = record {
  heard = served.0;
  hears = served.1.heard;
  ends = Reported (record { answer = refl; going = λ is. cc; written = served.1.written });
  rose = λ is. cc;
  unheard = λ is. cc;
}

-- one whose text broke off
pub talk-broken : (history : ℕ) (s : Setup) (hearing : Hearing) (sink : Writing) → HasServed history s start_talk (exchange_of hearing sink) (Err Write) → HasTalked (Gdb s history) hearing sink WriteFault
talk-broken history s hearing sink served = record {
  heard = served.0;
  hears = served.1.heard;
  ends = Broken (record { answer = refl; written = served.1.breaks });
  rose = λ is. cc;
  unheard = λ is. cc;
}

-- one that standard input cut off: the line that says so comes after its text
pub talk-cut_off : (history : ℕ) (s : Setup) (hearing : Hearing) (before middle after : Option (List ℕ)) (first second third : ℕ) → first ≤ second
    → HasServed history s start_talk (exchange_of hearing (record { before = before; after = middle; faults = record { before = first; after = second } })) (Err Read)
    → WroteTo (record { before = middle; after = after; faults = record { before = second; after = third } }) (fault_text (ReadFault Packets))
    → HasTalked (Gdb s history) hearing (record { before = before; after = after; faults = record { before = first; after = third } }) (ReadFault Packets)
talk-cut_off history s hearing before middle after first second third later served line =
    let text : List ℕ = session_text history s served.0 in
    let fault : List ℕ = fault_text (ReadFault Packets) in
    let written : WroteTo (record { before = before; after = after; faults = record { before = first; after = third } }) (text ++ fault) = elim line [
      | inl whole ↦ inl (whole ∙ ap (λ w. grown w fault) served.1.answered.written ∙ grown_twice before text fault)
      | inr broken ↦ inr (breaks_second text served.1.answered.written later broken)
    ] in
    record {
      heard = served.0;
      hears = served.1.answered.heard;
      ends = CutOff (record { answer = refl; talk = refl; written = written });
      rose = λ is. served.1.rose;
      unheard = λ is. cc;
    }

-- one that found no memory
pub talk-unopened : (history : ℕ) (s : Setup) (hearing : Hearing) (sink : Writing) (status : Status) → status ≡ Memory → hearing.after ≡ hearing.before → WroteTo sink (fault_text Memory) →
    HasTalked (Gdb s history) hearing sink status
talk-unopened history s hearing sink status memory same written = record {
  heard = [];
  hears = same ∙ grown-nothing hearing.before;
  ends = Unopened (record { answer = memory; written = written });
  rose = λ is. cc;
  unheard = λ is. cc;
}

-- for the answers to a talk
pub ruleset talk_answers = (talk-shown, talk-broken, talk-cut_off, talk-unopened)
