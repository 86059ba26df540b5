use Rattle.func_model.specs.Hart.{found_in}
use Rattle.func_model.proofs.Telling.{named_found, step_is}
use Rattle.func_model.proofs.contents.Contents.carry_out.Goals as goal

pub returns-clause-step : goal.returns-clause-step
returns-clause-step g c = λ s a h.
    let found = found_in c.args.fetched in
    let did = c.execute-done in
    step_is s c.args.time c.args.self.now.hart.room c.args.number c.args.epoch c.args.self.now did.new.self did.new.bus c.compare_behind-self.result a found did.result c.named-named.result c.is_unserved-unserved.result c.told.result h
    c.requires.found did.ensures.told did.ensures.arch did.ensures.back did.ensures.exec did.ensures.range c.requires.room c.compare_behind-self.ensures.compare
    (named_found c.args.self.now.hart found c.word.result c.class.result c.destination-destination.result c.args.number c.args.epoch c.named-named.result
    c.named-named.ensures.named c.word.ensures.word c.class.ensures.class c.destination-destination.ensures.register)
    c.is_unserved-unserved.ensures.unserved c.told.ensures.entry c.told.ensures.past
