use Rattle.std.proofs.Common.{[], ◌∷◌, subst}
use Rattle.report_text.specs.declared.status.Role.TheVariants as role
use Rattle.fast_cli.specs.declared.line.Line.{Line}
use Rattle.fast_jobs.specs.Files.{file, files_of}
use Rattle.fast_jobs.specs.Reading.{AreWithin}
use Rattle.fast_jobs.proofs.Jobs.{input-behind_machine, input-behind_machine_alone, input-behind_machines}
use Rattle.fast_jobs.proofs.job.job_of.Goals as goal

pub func_job-requires-clause-input : goal.func_job-requires-clause-input
func_job-requires-clause-input c =
    let contents = c.args.contents.items in
    let within = subst (λ (line : Line). AreWithin (files_of line) contents) c.in-Func.is c.requires.within in
    input-behind_machine_alone (file role.Image c.in-Func.image) c.in-Func.machine c.in-Func.options contents within

pub count_job-requires-clause-input : goal.count_job-requires-clause-input
count_job-requires-clause-input c =
    let contents = c.args.contents.items in
    let within = subst (λ (line : Line). AreWithin (files_of line) contents) c.in-Count.is c.requires.within in
    input-behind_machine_alone (file role.Image c.in-Count.image) c.in-Count.machine c.in-Count.options contents within

pub gdb_job-requires-clause-input : goal.gdb_job-requires-clause-input
gdb_job-requires-clause-input c =
    let contents = c.args.contents.items in
    let within = subst (λ (line : Line). AreWithin (files_of line) contents) c.in-Gdb.is c.requires.within in
    input-behind_machine_alone (file role.Image c.in-Gdb.image) c.in-Gdb.machine c.in-Gdb.options contents within

pub back_job-requires-clause-input : goal.back_job-requires-clause-input
back_job-requires-clause-input c =
    let contents = c.args.contents.items in
    let within = subst (λ (line : Line). AreWithin (files_of line) contents) c.in-Back.is c.requires.within in
    input-behind_machine (file role.Image c.in-Back.image) c.in-Back.machine (file role.Script c.in-Back.script ∷ []) c.in-Back.options contents within

pub sweep_files-requires-clause-input : goal.sweep_files-requires-clause-input
sweep_files-requires-clause-input c =
    let contents = c.args.contents.items in
    let within = subst (λ (line : Line). AreWithin (files_of line) contents) c.in-Sweep.is c.requires.within in
    input-behind_machines (file role.Image c.in-Sweep.image) c.in-Sweep.machines (file role.Machine) c.in-Sweep.options contents within
