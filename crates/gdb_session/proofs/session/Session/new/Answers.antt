use Rattle.std.proofs.Common.{refl}
use Rattle.gdb_session.proofs.Sessions.{session_by}
use Rattle.gdb_session.proofs.session.Session.new.Goals as goal

pub returns : goal.returns
returns g c = record {
  stands = record {
    trail = c.in_ok-debugger.ensures.stands;
    history_is = c.in_ok-debugger.ensures.opening.history_is;
    session_is = session_by _ _ c.in_ok-debugger.ensures.opening.at c.in_ok-debugger.ensures.opening.floor_is c.in_ok-points.ensures.none refl refl refl;
  };
}
