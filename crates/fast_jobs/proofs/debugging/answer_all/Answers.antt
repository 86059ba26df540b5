use Rattle.std.proofs.Common.{ℕ, List, sym, subst}
use Rattle.fsim_ports.specs.Source.{IsPrompt}
use Rattle.gdb_model.specs.Talk.{start_talk}
use Rattle.gdb_session.specs.Talk.{IsDue}
use Rattle.fast_jobs.proofs.Talks.{due-grows, due-written}
use Rattle.fast_jobs.proofs.debugging.answer_all.Goals as goal

pub serve-requires-clause-prompt : goal.serve-requires-clause-prompt
serve-requires-clause-prompt g c =
    let heard = g.S.Source.heard c.args.source.now in
    let written = g.K.Sink.written c.args.sink.now in
    subst (λ (due : List ℕ → List ℕ). IsPrompt due heard written) (sym c.requires.due) (due-written c.args.history c.args.setup.now heard written)

pub serve-requires-clause-served : goal.serve-requires-clause-served
serve-requires-clause-served g c =
    let s = c.args.setup.now in
    let heard = g.S.Source.heard c.args.source.now in
    let written = g.K.Sink.written c.args.sink.now in
    record {
      setup = s;
      history = c.args.history;
      talk = start_talk;
      stands = c.requires.stands;
      due_is = subst (λ (due : List ℕ → List ℕ). IsDue due c.args.history s start_talk heard) (sym c.requires.due) (due-grows c.args.history s heard written);
    }

pub returns-clause-talked : goal.returns-clause-talked
returns-clause-talked g c = c.serve.ensures.talked c.args.setup.now c.args.history start_talk c.requires.stands
