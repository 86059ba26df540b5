-- A session in code that goes forwards and backwards.
use Rattle.std.proofs.Common.{◌≡◌, ℕ, ◌-◌, min, max, List, ◌++◌, length, take, drop, ap, sym, ◌∙◌, subst}
use Rattle.std.proofs.lemmas.List.{drop_min, take_rest}
use Rattle.mono_model.specs.declared.setup.Setup.{Setup}
use Rattle.func_model.specs.declared.trail.Trail.{Trail}
use Rattle.func_model.specs.History.{walk}
use Rattle.back_debug.specs.Debugger.{floors}
use Rattle.gdb_packets.specs.Frame.{frame}
use Rattle.gdb_model.specs.Answer.{end_text, forth_text, shown_text, stop_reply}
use Rattle.gdb_model.specs.Session.{Session}
use Rattle.gdb_model.specs.Stops.{Range, Reason, Stopped, back, forth}
use Rattle.gdb_model.specs.Talk.{go_back, go_forth}
use Rattle.gdb_session.specs.Runs.{HasGoneBack, HasGoneForth}
use Rattle.gdb_session.specs.declared.runs.Reason.{Reason as CodeReason}
use Rattle.gdb_session.specs.declared.session.Session.{Session as CodeSession}
use Rattle.gdb_session.specs.declared.stops.Stops.{Stops}
use Rattle.gdb_session.specs.Standing.{SessionStandsFor, reason_in, session_in}

-- a session by its parts
pub session_by : (a b : Session) → a.at ≡ b.at → a.floor ≡ b.floor → a.points ≡ b.points → a.mark ≡ b.mark → a.shown ≡ b.shown → a.quiet ≡ b.quiet → a ≡ b
session_by a b at floor points mark shown quiet =
    λ i. record { at = at i; floor = floor i; points = points i; mark = mark i; shown = shown i; quiet = quiet i }

stopped_by : (a : Stopped) (at : ℕ) (reason : Reason) → at ≡ a.at → reason ≡ a.reason → a ≡ record { at = at; reason = reason }
stopped_by a at reason at_is reason_is = sym (λ i. record { at = at_is i; reason = reason_is i })

-- forwards
pub forth_stands : {D : Type 0} (s : Setup) (history : ℕ) (held : Session) (range : Range) (old new : CodeSession D) (reason : CodeReason) → SessionStandsFor s history held old →
    HasGoneForth s (forth s range (session_in old)) old.debugger new.debugger reason → new.stops ≡ old.stops → new.shown ≡ max old.shown (length (walk s new.debugger.at).output) → new.quiet ≡ old.quiet →
    SessionStandsFor s history (go_forth history s range held).session new
forth_stands s history held range old new reason h gone stops shown quiet =
    subst (λ (o : Session). SessionStandsFor s history (go_forth history s range o).session new) h.session_is (record {
      trail = gone.stopped_is.stands;
      history_is = gone.stopped_is.history_is ∙ h.history_is;
      session_is =
          session_by (session_in new) (go_forth history s range (session_in old)).session
          gone.stopped_is.at
          (gone.floor_is ∙ ap (λ (cap : ℕ). floors cap s old.debugger.at old.debugger.floor (new.debugger.at - old.debugger.at)) h.history_is
          ∙ ap (λ (n : ℕ). floors history s old.debugger.at old.debugger.floor (n - old.debugger.at)) gone.stopped_is.at)
          (ap (λ (x : Stops). x.points) stops)
          (ap (λ (x : Stops). x.mark) stops)
          (shown ∙ ap (λ (n : ℕ). max old.shown (length (walk s n).output)) gone.stopped_is.at)
          quiet;
    })

pub forth_text_is : {D : Type 0} (s : Setup) (history : ℕ) (held : Session) (range : Range) (old : CodeSession D) (now : Trail D) (reason : CodeReason) (output : List ℕ) → SessionStandsFor s history held old →
    HasGoneForth s (forth s range (session_in old)) old.debugger now reason → output ≡ (walk s now.at).output →
    (shown_text (drop old.shown output) ++ end_text output (reason_in reason)) ++ frame (stop_reply (reason_in reason)) ≡ (go_forth history s range held).text
forth_text_is s history held range old now reason output h gone is =
    ap (λ (out : List ℕ). (shown_text (drop old.shown out) ++ end_text out (reason_in reason)) ++ frame (stop_reply (reason_in reason))) is
    ∙ sym (ap (forth_text s (session_in old)) (stopped_by (forth s range (session_in old)) now.at (reason_in reason) gone.stopped_is.at gone.stopped_is.reason_is))
    ∙ ap (λ (o : Session). (go_forth history s range o).text) h.session_is

-- backwards
pub back_stands : {D : Type 0} (s : Setup) (history : ℕ) (held : Session) (range : Range) (old new : CodeSession D) (reason : CodeReason) → SessionStandsFor s history held old →
    HasGoneBack s (back s range (session_in old)) old.debugger new.debugger reason → new.stops ≡ old.stops → new.shown ≡ old.shown → new.quiet ≡ old.quiet →
    SessionStandsFor s history (go_back s range held).session new
back_stands s history held range old new reason h gone stops shown quiet =
    subst (λ (o : Session). SessionStandsFor s history (go_back s range o).session new) h.session_is (record {
      trail = gone.stopped_is.stands;
      history_is = gone.stopped_is.history_is ∙ h.history_is;
      session_is =
          session_by (session_in new) (go_back s range (session_in old)).session
          gone.stopped_is.at gone.floor_is (ap (λ (x : Stops). x.points) stops) (ap (λ (x : Stops). x.mark) stops) shown quiet;
    })

pub back_text_is : {D : Type 0} (s : Setup) (history : ℕ) (held : Session) (range : Range) (old : CodeSession D) (now : Trail D) (reason : CodeReason) → SessionStandsFor s history held old →
    HasGoneBack s (back s range (session_in old)) old.debugger now reason → frame (stop_reply (reason_in reason)) ≡ (go_back s range held).text
back_text_is s history held range old now reason h gone =
    ap (λ (r : Reason). frame (stop_reply r)) gone.stopped_is.reason_is ∙ ap (λ (o : Session). (go_back s range o).text) h.session_is

-- what is left of a text after so many bytes, where there are so many
pub rest_is : (text : List ℕ) (from n : ℕ) → from ≡ min n (length text) → take (length text - from) (drop from text) ≡ drop n text
rest_is text from n is = take_rest text from ∙ ap (λ (k : ℕ). drop k text) is ∙ drop_min n text
