-- What packets change of a session in code, and what answers them.
use Rattle.std.proofs.Common.{◌≡◌, ℕ, ◌<◌, ◌≤◌, nat_lt, Bool, true, false, not, List, length, Option, Result, if◌then◌else◌, refl, ap, sym, ◌∙◌, subst, arith}
use Rattle.std.specs.Prelude.{filter}
use Rattle.std.proofs.lemmas.Grind.{common_steps}
use Rattle.std.specs.List.{list_any}
use Rattle.fsim_ports.specs.Sink.{Puts}
use Rattle.fsim_ports.specs.declared.outside.Failed.{Failed}
use Rattle.mono_model.specs.declared.final_state.End.{End}
use Rattle.mono_model.specs.declared.setup.Setup.{Setup}
use Rattle.func_model.specs.declared.trail.Trail.{Trail}
use Rattle.func_model.specs.History.{end_at, walk}
use Rattle.func_model.specs.Trail.{TrailStandsFor}
use Rattle.gdb_packets.specs.Frame.{frame}
use Rattle.gdb_packets.specs.declared.packet.Point.{Point}
use Rattle.gdb_model.specs.Session.{Session}
use Rattle.gdb_model.specs.Talk.{Played, bad, end_or_running, good, is_same, points_limit, replied, reply_if, set_point, where_line, with_point, without_point}
use Rattle.gdb_session.specs.Lines.{where_text}
use Rattle.gdb_session.specs.Points.{IsSet}
use Rattle.gdb_session.specs.Standing.{SessionStandsFor, session_in}
use Rattle.gdb_session.specs.declared.session.Session.{Session as CodeSession}
use Rattle.gdb_session.proofs.Sessions.{session_by}

-- a session with another part
pub with_points : {D : Type 0} (s : Setup) (history : ℕ) (held : Session) (old : CodeSession D) (points : List Point) → SessionStandsFor s history held old →
    SessionStandsFor s history (record held { points = points }) (record old { stops = record old.stops { points = points } })
with_points s history held old points h = record {
  trail = h.trail;
  history_is = h.history_is;
  session_is = ap (λ (o : Session). record o { points = points }) h.session_is;
}

pub with_mark : {D : Type 0} (s : Setup) (history : ℕ) (held : Session) (old : CodeSession D) (mark : Option ℕ) → SessionStandsFor s history held old →
    SessionStandsFor s history (record held { mark = mark }) (record old { stops = record old.stops { mark = mark } })
with_mark s history held old mark h = record {
  trail = h.trail;
  history_is = h.history_is;
  session_is = ap (λ (o : Session). record o { mark = mark }) h.session_is;
}

pub with_quiet : {D : Type 0} (s : Setup) (history : ℕ) (held : Session) (old : CodeSession D) (quiet : Bool) → SessionStandsFor s history held old →
    SessionStandsFor s history (record held { quiet = quiet }) (record old { quiet = quiet })
with_quiet s history held old quiet h = record {
  trail = h.trail;
  history_is = h.history_is;
  session_is = ap (λ (o : Session). record o { quiet = quiet }) h.session_is;
}

-- a debugger that has looked ahead
pub looked : {D : Type 0} (s : Setup) (history : ℕ) (held : Session) (old : CodeSession D) (now : Trail D) → SessionStandsFor s history held old → TrailStandsFor s now →
    now ≡ record old.debugger { contents = now.contents } → SessionStandsFor s history held (record old { debugger = now })
looked {D} s history held old now h stands others = record {
  trail = stands;
  history_is = ap (λ (t : Trail D). t.steps.capacity) others ∙ h.history_is;
  session_is =
      session_by (session_in (record old { debugger = now })) (session_in old) (ap (λ (t : Trail D). t.at) others) (ap (λ (t : Trail D). t.floor) others) refl refl refl refl
      ∙ h.session_is;
}

pub end_stays : {D : Type 0} (s : Setup) (old now : Trail D) → now ≡ record old { contents = now.contents } → end_or_running (end_at s old.at) ≡ end_or_running (end_at s now.at)
end_stays {D} s old now others = ap (λ (t : Trail D). end_or_running (end_at s t.at)) (sym others)

-- and one that has looked at what is there
pub same_stands : {D : Type 0} (s : Setup) (history : ℕ) (held : Session) (old : CodeSession D) (now : Trail D) → SessionStandsFor s history held old → now ≡ old.debugger →
    SessionStandsFor s history held (record old { debugger = now })
same_stands {D} s history held old now h same = subst (λ (t : Trail D). SessionStandsFor s history held (record old { debugger = t })) (sym same) h

-- the line that says where it stands
pub where_is : {D : Type 0} (s : Setup) (history : ℕ) (held : Session) (session : CodeSession D) (at floor output : ℕ) (end : End) (line : List ℕ) → SessionStandsFor s history held session →
    at ≡ session.debugger.at → floor ≡ session.debugger.floor → output ≡ length (walk s session.debugger.at).output → end ≡ end_or_running (end_at s session.debugger.at) →
    line ≡ where_text at floor output end → line ≡ where_line s held
where_is s history held session at floor output end line h at_is floor_is output_is end_is is =
    is ∙ ap (λ (n : ℕ). where_text n floor output end) at_is
    ∙ ap (λ (n : ℕ). where_text session.debugger.at n output end) floor_is
    ∙ ap (λ (n : ℕ). where_text session.debugger.at session.debugger.floor n end) output_is
    ∙ ap (where_text session.debugger.at session.debugger.floor (length (walk s session.debugger.at).output)) end_is
    ∙ ap (where_line s) h.session_is

-- a reply that a session determines
pub replied_puts : {D : Type 0} (s : Setup) (history : ℕ) (held : Session) (session : CodeSession D) (text : Session → List ℕ) (reply : List ℕ) (before after : ℕ) (old new : Option (List ℕ)) (r : Result (Unit {0}) Failed) →
    SessionStandsFor s history held session → reply ≡ text (session_in session) → Puts (frame reply) before after old new r → Puts (frame (text held)) before after old new r
replied_puts s history held session text reply before after old new r h is puts =
    subst (λ (t : List ℕ). Puts (frame t) before after old new r) (is ∙ ap text h.session_is) puts

-- a point that is set
set_by : (point : Point) (held : Session) (new : List Point) (answer there room : Bool) → IsSet point held.points new answer → list_any (is_same point) held.points ≡ there →
    nat_lt (length held.points) points_limit ≡ room →
    replied (record held { points = new }) (reply_if answer) ≡ (if there then replied held good else if room then replied (with_point point held) good else replied held bad)
set_by point held new answer true room is there_is room_is =
    let told = is.there there_is in
    λ i. replied (record held { points = told.1 i }) (reply_if (told.0 i))
set_by point held new answer false true is there_is room_is =
    let room : length held.points < points_limit = grind (arith, common_steps, room_is) in
    let told = is.added there_is room in
    λ i. replied (record held { points = told.1 i }) (reply_if (told.0 i))
set_by point held new answer false false is there_is room_is =
    let none : points_limit ≤ length held.points = grind (arith, common_steps, room_is) in
    let told = is.full there_is none in
    λ i. replied (record held { points = told.1 i }) (reply_if (told.0 i))

pub set_is : (point : Point) (held : Session) (new : List Point) (answer : Bool) → IsSet point held.points new answer →
    replied (record held { points = new }) (reply_if answer) ≡ set_point point held
set_is point held new answer is =
    set_by point held new answer (list_any (is_same point) held.points) (nat_lt (length held.points) points_limit) is refl refl

pub set_stands : {D : Type 0} (s : Setup) (history : ℕ) (held : Session) (old : CodeSession D) (point : Point) (new : List Point) (answer : Bool) → SessionStandsFor s history held old →
    IsSet point old.stops.points new answer → SessionStandsFor s history (set_point point held).session (record old { stops = record old.stops { points = new } })
set_stands s history held old point new answer h is =
    let at : IsSet point held.points new answer = subst (λ (o : Session). IsSet point o.points new answer) h.session_is is in
    subst (λ (p : Played). SessionStandsFor s history p.session (record old { stops = record old.stops { points = new } })) (set_is point held new answer at)
    (with_points s history held old new h)

pub set_puts : {D : Type 0} (s : Setup) (history : ℕ) (held : Session) (old : CodeSession D) (point : Point) (points : List Point) (answer : Bool) (before after : ℕ) (written new : Option (List ℕ)) (r : Result (Unit {0}) Failed) →
    SessionStandsFor s history held old → IsSet point old.stops.points points answer → Puts (frame (reply_if answer)) before after written new r → Puts (set_point point held).text before after written new r
set_puts s history held old point points answer before after written new r h is puts =
    let at : IsSet point held.points points answer = subst (λ (o : Session). IsSet point o.points points answer) h.session_is is in
    subst (λ (p : Played). Puts p.text before after written new r) (set_is point held points answer at) puts

-- a point that is cleared
pub clear_stands : {D : Type 0} (s : Setup) (history : ℕ) (held : Session) (old : CodeSession D) (point : Point) (new : List Point) → SessionStandsFor s history held old →
    new ≡ filter (λ other. not (is_same point other)) old.stops.points → SessionStandsFor s history (without_point point held) (record old { stops = record old.stops { points = new } })
clear_stands s history held old point new h is =
    let all : new ≡ (without_point point held).points = is ∙ ap (λ (o : Session). filter (λ other. not (is_same point other)) o.points) h.session_is in
    subst (λ (ps : List Point). SessionStandsFor s history (record held { points = ps }) (record old { stops = record old.stops { points = new } })) all
    (with_points s history held old new h)
