use Rattle.std.proofs.Common.{map}
use Rattle.clap.specs.Values.{kind_of}
use Rattle.clap.specs.Words.{app_of, found_of, rows_of}
use Rattle.fast_cli.proofs.Parses.{simple_of_free, parsed-none, parsed-some}
use Rattle.fast_cli.proofs.command.parse.Goals as goal

pub returns-in-Ok-clause-ok : goal.returns-in-Ok-clause-ok
returns-in-Ok-clause-ok c =
    parsed-some (app_of c.args.command) (map (λ w. w.now) c.args.words.now) (rows_of (found_of c.in-Ok.matches)) (c.in-Ok.ensures.kinds c.requires.simple)
    (c.in-Ok.ensures.matches (simple_of_free (app_of c.args.command) c.requires.simple)).0

pub returns-in-Err-clause-words : goal.returns-in-Err-clause-words
returns-in-Err-clause-words c = λ told.
    parsed-none (app_of c.args.command) (map (λ w. w.now) c.args.words.now) (kind_of c.in-Err.error) (c.in-Err.ensures.kinds c.requires.simple)
    (λ memory. let wanted = c.refusal.ensures.memory.1 memory in cc)
