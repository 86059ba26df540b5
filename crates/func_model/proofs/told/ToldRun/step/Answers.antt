use Rattle.std.proofs.Common.{◌≡◌, ◌∙◌, false, is_some, ap, sym, arith}
use Rattle.mono_model.specs.Final.{has_ended}
use Rattle.mono_model.specs.declared.setup.Setup.{Setup}
use Rattle.func_model.specs.History.{walk}
use Rattle.func_model.specs.Told.{ToldStandsFor}
use Rattle.func_model.proofs.Executing.{beyond_is, entry_out, full_step, made_below, on_step, over_step, retired_below, room_ahead}
use Rattle.func_model.proofs.told.ToldRun.step.Goals as goal

pub returns-then-has_ended : goal.returns-then-has_ended
returns-then-has_ended g c = record {
  told = λ s h. over_step s c.args.self.now h (sym c.has_ended.ensures.ended ∙ c.if-has_ended.true);
  standing = tt;
}

pub tell-told-requires : goal.tell-told-requires
tell-told-requires g c = record {
  count = omega (arith, retired_below c.args.self.now c.requires.standing (sym c.has_ended.ensures.ended ∙ c.if-has_ended.false));
  room = room_ahead c.args.self.now c.requires.standing;
}

pub overflow_add-self : goal.overflow_add-self
overflow_add-self g c = record { fits = omega (arith, made_below c.args.self.now c.requires.standing (sym c.has_ended.ensures.ended ∙ c.if-has_ended.false)) }

pub returns-then-is_beyond : goal.returns-then-is_beyond
returns-then-is_beyond g c = record {
  told = λ s h.
      let run = c.args.self.now in
      let entry = c.tell-told.ensures.entry s (walk s run.made) h.contents in
      let stands = c.tell-told.ensures.stands s (walk s run.made) h.contents in
      let sent = c.is_some.ensures ∙ ap is_some (entry_out s run.made c.tell-told.result.entry entry) in
      full_step s run (record run { contents = c.tell-told.new.self }) h (sym c.has_ended.ensures.ended ∙ c.if-has_ended.false)
      (sym (beyond_is s run.made run.limit c.tell-told.new.self c.is_some.result stands h.limit sent) ∙ sym c.is_beyond.ensures.beyond ∙ c.if-is_beyond.true);
  standing = tt;
}

pub returns : goal.returns
returns g c =
    let run = c.args.self.now in
    let going : has_ended run.end ≡ false = sym c.has_ended.ensures.ended ∙ c.if-has_ended.false in
    let step = λ (s : Setup) (h : ToldStandsFor s run).
    let entry = c.tell-told.ensures.entry s (walk s run.made) h.contents in
    let stands = c.tell-told.ensures.stands s (walk s run.made) h.contents in
    let sent = c.is_some.ensures ∙ ap is_some (entry_out s run.made c.tell-told.result.entry entry) in
    let room = sym (beyond_is s run.made run.limit c.tell-told.new.self c.is_some.result stands h.limit sent) ∙ sym c.is_beyond.ensures.beyond ∙ c.if-is_beyond.false in
    on_step s run c.tell-told.result c.sync_if.new.self c.end_behind-self.result c.executed_by.result h going entry (c.tell-told.ensures.fence s (walk s run.made) h.contents) room
    (c.sync_if.ensures.stands s _ stands) (c.sync_if.ensures.room ∙ c.tell-told.ensures.room) c.end_behind-self.ensures.end c.executed_by.ensures.executed in
    let on = step c.requires.standing.setup c.requires.standing.stands in
    record {
      told = step;
      standing = record { setup = c.requires.standing.setup; stands = on.on.stands };
    }
