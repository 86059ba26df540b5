use Rattle.time_model.proofs.Idling.{passed}
use Rattle.time_model.proofs.out_of_order.TimingCorePipeline.pass_idle.Goals as goal

pub returns : goal.returns
returns c =
    let pass = c.pass_idle.ensures in
    record { quiet = passed c.args.self.now c.pass_idle.new.self c.args._at c.requires.ends pass.same pass.on pass.idle }
