-- What a stub stands for: a session, and the bytes that came.
use Rattle.std.specs.Prelude.{◌≡◌, ℕ, List, ◌++◌, Option, Some, None, Result, Ok, Err}
use Rattle.fsim_ports.specs.Count.{HasRisen}
use Rattle.fsim_ports.specs.Sink.{Breaks, grown}
use Rattle.mono_model.specs.declared.setup.Setup.{Setup}
use Rattle.gdb_packets.specs.Receiver.{StandsFor}
use Rattle.gdb_model.specs.Talk.{Talk, talk_text}
use Rattle.gdb_session.specs.declared.serving.ServeFault.{ServeFault}
use Rattle.gdb_session.specs.declared.serving.ServeFault.TheVariants.{Read, Write}
use Rattle.gdb_session.specs.declared.stub.Stub.{Stub}
use Rattle.gdb_session.specs.Standing.{SessionStandsFor}

pub record TalkStandsFor {D : Type 0} (s : Setup) (history : ℕ) (talk : Talk)
    (stub : Stub D) : Type 0 where
  pub session : SessionStandsFor s history talk.session stub.session
  pub stream : StandsFor talk.stream stub.receiver

-- of bytes that are read after these the talk's text is due
abbrev pub IsDue : (List ℕ → List ℕ) → ℕ → Setup → Talk → Option (List ℕ) → Type 0
IsDue due history s talk None = Unit {0}
IsDue due history s talk (Some heard) =
    (bytes : List ℕ) → due (heard ++ bytes) ≡ due heard ++ talk_text history s talk bytes

-- what is due is the text of the talk that a stub stands for
pub record IsServed {D : Type 0} (due : List ℕ → List ℕ) (heard : Option (List ℕ))
    (stub : Stub D) : Type 0 where
  pub setup : Setup
  pub history : ℕ
  pub talk : Talk
  pub stands : TalkStandsFor setup history talk stub
  pub due_is : IsDue due history setup talk heard

-- what a call found of a source and a sink, and how it left them
pub record Exchange : Type 0 where
  pub heard_before : Option (List ℕ)
  pub heard_after : Option (List ℕ)
  pub reads_before : ℕ
  pub reads_after : ℕ
  pub written_before : Option (List ℕ)
  pub written_after : Option (List ℕ)
  pub writes_before : ℕ
  pub writes_after : ℕ

-- these bytes were read, and the talk's text of them is written
pub record IsAnswered (history : ℕ) (s : Setup) (talk : Talk) (exchange : Exchange)
    (bytes : List ℕ) : Type 0 where
  pub heard : exchange.heard_after ≡ grown exchange.heard_before bytes
  pub written : exchange.written_after
      ≡ grown exchange.written_before (talk_text history s talk bytes)

-- the source failed after these bytes, all of which are answered
pub record IsCutOff (history : ℕ) (s : Setup) (talk : Talk) (exchange : Exchange)
    (bytes : List ℕ) : Type 0 where
  pub answered : IsAnswered history s talk exchange bytes
  pub rose : HasRisen exchange.reads_before exchange.reads_after

-- the sink failed within the text of these bytes
pub record IsBroken (history : ℕ) (s : Setup) (talk : Talk) (exchange : Exchange)
    (bytes : List ℕ) : Type 0 where
  pub heard : exchange.heard_after ≡ grown exchange.heard_before bytes
  pub breaks : Breaks (talk_text history s talk bytes) exchange.writes_before
      exchange.writes_after exchange.written_before exchange.written_after

-- what a talk may come to, with the bytes that were read
abbrev pub HasTalked : ℕ → Setup → Talk → Exchange → Result (Unit {0}) ServeFault → Type 0
HasTalked history s talk exchange (Ok done) = (bytes : List ℕ) × IsAnswered history s talk exchange bytes
HasTalked history s talk exchange (Err Read) = (bytes : List ℕ) × IsCutOff history s talk exchange bytes
HasTalked history s talk exchange (Err Write) = (bytes : List ℕ) × IsBroken history s talk exchange bytes
