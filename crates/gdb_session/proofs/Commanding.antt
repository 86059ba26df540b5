-- What a command does and tells.
use Rattle.std.proofs.Common.{◌≡◌, ℕ, ◌≤◌, Bool, true, false, List, [], ◌++◌, Option, Some, None, Result, if◌then◌else◌, refl, ap, sym, ◌∙◌, subst}
use Rattle.std.specs.Prelude.{codes}
use Rattle.std.specs.Str.{bytes_eq}
use Rattle.fsim_ports.specs.Sink.{Breaks, Puts, grown}
use Rattle.fsim_ports.specs.declared.outside.Failed.{Failed}
use Rattle.fsim_ports.proofs.Writing.{breaks_first, puts_second}
use Rattle.mono_model.specs.declared.setup.Setup.{Setup}
use Rattle.func_model.specs.History.{walk}
use Rattle.gdb_packets.specs.Frame.{frame}
use Rattle.gdb_packets.specs.Packet.{after_text}
use Rattle.gdb_model.specs.Answer.{shown_text}
use Rattle.gdb_model.specs.Session.{Session}
use Rattle.gdb_model.specs.Talk.{Played, by_position, commanded, good, marked_at, position_in, told, where_line}
use Rattle.gdb_session.specs.Commands.{command_of, obeyed, stop_at, stop_by, told_of}
use Rattle.gdb_session.specs.declared.monitor.Command.{Command}
use Rattle.gdb_session.specs.declared.monitor.Command.TheVariants as command
use Rattle.gdb_session.specs.declared.session.Session.{Session as CodeSession}
use Rattle.gdb_session.specs.Standing.{SessionStandsFor}

-- a command, as it is done and told
abbrev done : Setup → Command → Session → Played
done s command held = told (obeyed command held) (told_of s command held)

by_mark : (s : Setup) (held : Session) (at : Option ℕ) → marked_at at held ≡ done s (stop_by at) held
by_mark s held None = refl
by_mark s held (Some at) = refl

by_rest : (s : Setup) (held : Session) (rest : Option (List ℕ)) → by_position rest held ≡ done s (stop_at rest) held
by_rest s held None = refl
by_rest s held (Some word) = by_mark s held (position_in word)

by_tests : (s : Setup) (held : Session) (first second third : Bool) (rest : Option (List ℕ)) →
    (if first then told held (where_line s held) else if second then told held (walk s held.at).output else if third then told (record held { mark = None }) [] else by_position rest held)
    ≡ done s (if first then command.Where else if second then command.Output else if third then command.Stop None else stop_at rest) held
by_tests s held true second third rest = refl
by_tests s held false true third rest = refl
by_tests s held false false true rest = refl
by_tests s held false false false rest = by_rest s held rest

commanded_is : (s : Setup) (word : List ℕ) (held : Session) → commanded s word held ≡ done s (command_of word) held
commanded_is s word held =
    by_tests s held (bytes_eq word (codes "where")) (bytes_eq word (codes "output")) (bytes_eq word (codes "stop")) (after_text (codes "stop ") word)

pub command_stands : {D : Type 0} (s : Setup) (history : ℕ) (held : Session) (word : List ℕ) (command : Command) (new : CodeSession D) → command ≡ command_of word →
    SessionStandsFor s history (obeyed command held) new → SessionStandsFor s history (commanded s word held).session new
command_stands s history held word command new is h =
    subst (λ (o : Session). SessionStandsFor s history o new) (ap (λ (k : Command). obeyed k held) is ∙ sym (ap (λ (p : Played). p.session) (commanded_is s word held))) h

text_is : (s : Setup) (held : Session) (word : List ℕ) (command : Command) → command ≡ command_of word →
    shown_text (told_of s command held) ++ frame good ≡ (commanded s word held).text
text_is s held word command is =
    ap (λ (k : Command). shown_text (told_of s k held) ++ frame good) is ∙ sym (ap (λ (p : Played). p.text) (commanded_is s word held))

pub command_breaks : (s : Setup) (held : Session) (word : List ℕ) (command : Command) (before middle after : ℕ) (old new : Option (List ℕ)) → command ≡ command_of word →
    middle ≤ after → Breaks (shown_text (told_of s command held)) before middle old new → Breaks (commanded s word held).text before after old new
command_breaks s held word command before middle after old new is later broken =
    subst (λ (text : List ℕ). Breaks text before after old new) (text_is s held word command is) (breaks_first (frame good) later broken)

pub command_puts : (s : Setup) (held : Session) (word : List ℕ) (command : Command) (before middle after : ℕ) (old mid new : Option (List ℕ)) (r : Result (Unit {0}) Failed) → command ≡ command_of word →
    mid ≡ grown old (shown_text (told_of s command held)) → before ≤ middle → Puts (frame (codes "OK")) middle after mid new r → Puts (commanded s word held).text before after old new r
command_puts s held word command before middle after old mid new r is first later puts =
    subst (λ (text : List ℕ). Puts text before after old new r) (text_is s held word command is)
    (puts_second (shown_text (told_of s command held)) (frame good) after old new r first later puts)
