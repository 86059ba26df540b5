-- A debugger that is answered, piece by piece.
use Rattle.std.proofs.Common.{◌≡◌, ℕ, ◌≤◌, List, [], ◌++◌, append_assoc, Option, Some, None, ap, sym, ◌∙◌, subst}
use Rattle.fsim_ports.specs.Sink.{Breaks, grown}
use Rattle.fsim_ports.specs.Source.{IsPrompt}
use Rattle.fsim_ports.proofs.Writing.{breaks_second, grown_twice}
use Rattle.mono_model.specs.declared.setup.Setup.{Setup}
use Rattle.gdb_model.specs.Talk.{Talk, after_bytes, talk_text}
use Rattle.gdb_session.specs.Talk.{IsDue, IsServed, TalkStandsFor}
use Rattle.gdb_session.specs.declared.stub.Stub.{Stub}
use Rattle.gdb_session.proofs.Talks.{after_append, grown_none, text_append}

-- what is due of further bytes
due_more : (due : List ℕ → List ℕ) (history : ℕ) (s : Setup) (talk : Talk) (heard : Option (List ℕ)) (bytes : List ℕ) → IsDue due history s talk heard →
    IsDue due history s (after_bytes history s talk bytes) (grown heard bytes)
due_more due history s talk None bytes is = tt
due_more due history s talk (Some heard) bytes is = λ more.
    ap due (append_assoc heard bytes more) ∙ is (bytes ++ more) ∙ ap (λ (t : List ℕ). due heard ++ t) (text_append history s talk bytes more)
    ∙ sym (append_assoc (due heard) (talk_text history s talk bytes) (talk_text history s (after_bytes history s talk bytes) more))
    ∙ ap (λ (t : List ℕ). t ++ talk_text history s (after_bytes history s talk bytes) more) (sym (is bytes))

-- and it is written
prompt_more : (due : List ℕ → List ℕ) (history : ℕ) (s : Setup) (talk : Talk) (heard written : Option (List ℕ)) (bytes : List ℕ) → IsDue due history s talk heard → IsPrompt due heard written →
    IsPrompt due (grown heard bytes) (grown written (talk_text history s talk bytes))
prompt_more due history s talk None written bytes is prompt = tt
prompt_more due history s talk (Some heard) None bytes is prompt = tt
prompt_more due history s talk (Some heard) (Some written) bytes is prompt =
    ap (λ (t : List ℕ). t ++ talk_text history s talk bytes) prompt ∙ sym (is bytes)

-- what holds once some bytes are answered
pub record Serving {D : Type 0} (opened now : Stub D) (heard_old heard_new written_old written_new : Option (List ℕ)) : Type 0 where
  pub bytes : List ℕ
  pub heard : heard_new ≡ grown heard_old bytes
  pub stands : (s : Setup) (history : ℕ) (talk : Talk) → TalkStandsFor s history talk opened → TalkStandsFor s history (after_bytes history s talk bytes) now
  pub written : (s : Setup) (history : ℕ) (talk : Talk) → TalkStandsFor s history talk opened → written_new ≡ grown written_old (talk_text history s talk bytes)

pub serving_start : {D : Type 0} (stub : Stub D) (heard written : Option (List ℕ)) → Serving stub stub heard heard written written
unfolding talk_text after_bytes
serving_start stub heard written = record {
  bytes = [];
  heard = sym (grown_none heard);
  stands = λ s history talk h. h;
  written = λ s history talk h. sym (grown_none written);
}

pub serving_more : {D : Type 0} (opened now later : Stub D) (heard_old heard_new heard_more written_old written_new written_more : Option (List ℕ)) (piece : List ℕ) →
    Serving opened now heard_old heard_new written_old written_new → heard_more ≡ grown heard_new piece →
    ((s : Setup) (history : ℕ) (talk : Talk) → TalkStandsFor s history talk now → TalkStandsFor s history (after_bytes history s talk piece) later) →
    ((s : Setup) (history : ℕ) (talk : Talk) → TalkStandsFor s history talk now → written_more ≡ grown written_new (talk_text history s talk piece)) →
    Serving opened later heard_old heard_more written_old written_more
serving_more opened now later heard_old heard_new heard_more written_old written_new written_more piece so heard stands written = record {
  bytes = so.bytes ++ piece;
  heard = heard ∙ ap (λ (w : Option (List ℕ)). grown w piece) so.heard ∙ grown_twice heard_old so.bytes piece;
  stands = λ s history talk h.
      let further : Talk = after_bytes history s talk so.bytes in
      subst (λ (t : Talk). TalkStandsFor s history t later) (sym (after_append history s talk so.bytes piece)) (stands s history further (so.stands s history talk h));
  written = λ s history talk h.
      let further : Talk = after_bytes history s talk so.bytes in
      written s history further (so.stands s history talk h)
      ∙ ap (λ (w : Option (List ℕ)). grown w (talk_text history s further piece)) (so.written s history talk h)
      ∙ grown_twice written_old (talk_text history s talk so.bytes) (talk_text history s further piece)
      ∙ ap (grown written_old) (sym (text_append history s talk so.bytes piece));
}

-- the sink fails within what answers a piece
pub serving_breaks : {D : Type 0} (s : Setup) (history : ℕ) (talk : Talk) (opened now : Stub D) (heard_old heard_new written_old written_new written_more : Option (List ℕ)) (piece : List ℕ) (before middle after : ℕ) →
    (so : Serving opened now heard_old heard_new written_old written_new) → TalkStandsFor s history talk opened → before ≤ middle →
    ((s : Setup) (history : ℕ) (talk : Talk) → TalkStandsFor s history talk now → Breaks (talk_text history s talk piece) middle after written_new written_more) →
    Breaks (talk_text history s talk (so.bytes ++ piece)) before after written_old written_more
serving_breaks s history talk opened now heard_old heard_new written_old written_new written_more piece before middle after so h later breaks =
    let further : Talk = after_bytes history s talk so.bytes in
    subst (λ (t : List ℕ). Breaks t before after written_old written_more) (sym (text_append history s talk so.bytes piece))
    (breaks_second (talk_text history s talk so.bytes) (so.written s history talk h) later (breaks s history further (so.stands s history talk h)))

-- it stays served
pub served_more : {D : Type 0} (due : List ℕ → List ℕ) (heard heard_more : Option (List ℕ)) (now later : Stub D) (piece : List ℕ) → IsServed due heard now → heard_more ≡ grown heard piece →
    ((s : Setup) (history : ℕ) (talk : Talk) → TalkStandsFor s history talk now → TalkStandsFor s history (after_bytes history s talk piece) later) → IsServed due heard_more later
served_more due heard heard_more now later piece served more stands = record {
  setup = served.setup;
  history = served.history;
  talk = after_bytes served.history served.setup served.talk piece;
  stands = stands served.setup served.history served.talk served.stands;
  due_is =
      subst (IsDue due served.history served.setup (after_bytes served.history served.setup served.talk piece)) (sym more)
      (due_more due served.history served.setup served.talk heard piece served.due_is);
}

pub prompt_stays : {D : Type 0} (due : List ℕ → List ℕ) (heard heard_more written written_more : Option (List ℕ)) (now : Stub D) (piece : List ℕ) → IsServed due heard now → IsPrompt due heard written →
    heard_more ≡ grown heard piece →
    ((s : Setup) (history : ℕ) (talk : Talk) → TalkStandsFor s history talk now → written_more ≡ grown written (talk_text history s talk piece)) → IsPrompt due heard_more written_more
prompt_stays due heard heard_more written written_more now piece served prompt more text =
    let told : written_more ≡ grown written (talk_text served.history served.setup served.talk piece) = text served.setup served.history served.talk served.stands in
    subst (λ (h : Option (List ℕ)). IsPrompt due h written_more) (sym more)
    (subst (IsPrompt due (grown heard piece)) (sym told)
    (prompt_more due served.history served.setup served.talk heard written piece served.due_is prompt))

pub serving_heard : {D : Type 0} (opened now : Stub D) (heard_old heard_new heard_more written_old written_new : Option (List ℕ)) (piece : List ℕ) →
    (so : Serving opened now heard_old heard_new written_old written_new) → heard_more ≡ grown heard_new piece → heard_more ≡ grown heard_old (so.bytes ++ piece)
serving_heard opened now heard_old heard_new heard_more written_old written_new piece so more =
    more ∙ ap (λ (w : Option (List ℕ)). grown w piece) so.heard ∙ grown_twice heard_old so.bytes piece
