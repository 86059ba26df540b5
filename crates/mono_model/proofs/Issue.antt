-- What holds of a record that issues.
use Rattle.std.proofs.Common.{◌≡◌, ◌+◌, ◌&&◌, Bool, true, List, nat_le}
use Rattle.std.proofs.lemmas.Bool.{and_parts}
use Rattle.mono_model.specs.declared.setup.Setup.{Setup}
use Rattle.mono_model.specs.Window.{Record, class_at, is_waiting, busy_divisions}
use Rattle.mono_model.specs.Machine.{Machine}
use Rattle.mono_model.specs.Issue.{Passed, is_past_front, has_operands, class_allows, has_unit, ready_result, issues}

pub record Issues (s : Setup) (m : Machine) (p : Passed) (rec : Record) : Type 0 where
  pub past : is_past_front s.params m.cycle rec ≡ true
  pub waits : is_waiting rec ≡ true
  pub operands : has_operands m.arch p.older rec ≡ true
  pub allows : class_allows (class_at rec) (ready_result s m.arch p.older rec).access p.older ≡ true

pub issues_all : (s : Setup) (m : Machine) (p : Passed) (rec : Record) (younger : List Record) → issues s m p rec younger ≡ true → Issues s m p rec
issues_all s m p rec younger may =
    let unit : Bool = has_unit s.params (busy_divisions p.older + busy_divisions younger) p.used (class_at rec) in
    let allows : Bool = class_allows (class_at rec) (ready_result s m.arch p.older rec).access p.older in
    let operands : Bool = has_operands m.arch p.older rec in
    let past : Bool = is_past_front s.params m.cycle rec in
    let all = and_parts (past && operands && allows) unit may in
    let three = and_parts (past && operands) allows all.0 in
    let two = and_parts past operands three.0 in
    record {
      past = two.0;
      waits = (and_parts (is_waiting rec) (nat_le (rec.since + s.params.core_front) m.cycle) two.0).0;
      operands = two.1;
      allows = three.1;
    }
