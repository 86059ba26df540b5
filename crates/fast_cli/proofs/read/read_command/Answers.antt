use Rattle.std.proofs.Common.{sym, subst}
use Rattle.fast_cli.specs.Command.{ReadsAs}
use Rattle.fast_cli.proofs.Forms.{command_reads}
use Rattle.fast_cli.proofs.read.read_command.Goals as goal

pub parse_form-requires-clause-reads : goal.parse_form-requires-clause-reads
parse_form-requires-clause-reads c =
    subst ReadsAs (sym c.form_for.ensures.form) (command_reads c.args.name)
