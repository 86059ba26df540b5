-- What the console reads of a job's files, and what is left where a stage was refused.
use Rattle.std.proofs.Common.{◌≡◌, ◌≢◌, ◌≤◌, ◌<◌, ◌+◌, ℕ, suc, true, false, List, [], ◌∷◌, ◌++◌, length, map, take, flat_map, get_or, append_assoc, append-nil, Option, Some, None, Result, Ok, Err, ap, sym, ◌∙◌, subst, arith}
use Rattle.std.proofs.Math.Seq.{take-suc}
use Rattle.std.proofs.lemmas.List.{length-map}
use Rattle.std.proofs.lemmas.Grind.{flat_map-append}
use Rattle.mono_model.specs.Setup.{input_limit}
use Rattle.report_text.specs.declared.status.Role.TheVariants as role
use Rattle.report_text.specs.declared.status.Status.{Status}
use Rattle.report_text.specs.declared.status.Status.TheVariants.{Memory}
use Rattle.fast_cli.specs.declared.line.Line.{Line}
use Rattle.fast_cli.specs.declared.line.Line.TheVariants as line
use Rattle.fast_cli.specs.declared.line.Options.{Options}
use Rattle.fast_jobs.specs.declared.files.NamedFile.{NamedFile}
use Rattle.fast_jobs.specs.Files.{file, file_if_named, input_of}
use Rattle.fast_jobs.specs.Gives.{Gives, ◌>>=◌}
use Rattle.mono_model.specs.declared.setup.Setup.{Setup}
use Rattle.fast_jobs.specs.declared.job.Job.{Job}
use Rattle.fast_jobs.specs.declared.job.Job.TheVariants.{Gdb, Single, Sweep}
use Rattle.fast_jobs.specs.declared.job.SingleJob.{SingleJob}
use Rattle.fast_jobs.specs.declared.job.SingleJob.TheVariants.{Run}
use Rattle.fast_jobs.specs.declared.sweep_files.SweepFiles.{SweepFiles}
use Rattle.fast_jobs.specs.SweepFiles.{swept}
use Rattle.fast_jobs.specs.Job.{back_job, behind_machine, bytes_at, count_job, func_job, gdb_job, inorder_job, inorder_run_job, is_still, is_talk, job_of, pipeline_job, placed_setup, profile_job, sched_job, single_job, soak_setup, stack_job, trace_job}
use Rattle.fast_jobs.specs.Reading.{AreWithin}

-- what the console reads, behind the other files, is within its limit
none-within : (name : Option (List ℕ)) (contents : List (List ℕ)) → AreWithin (file_if_named role.Input name) contents → length (bytes_at contents 0) ≤ input_limit
none-within None [] within = omega arith
none-within None (bytes ∷ contents) within = absurd within
none-within (Some name) [] within = absurd within
none-within (Some name) (bytes ∷ contents) within = within.0

pub input-behind : (files : List NamedFile) (options : Options) (contents : List (List ℕ)) → AreWithin (files ++ input_of options) contents
    → length (bytes_at contents (length files)) ≤ input_limit
input-behind [] options contents within = none-within options.input contents within
input-behind (file ∷ files) options [] within = absurd within
input-behind (file ∷ files) options (bytes ∷ contents) within = input-behind files options contents within.1

-- the same behind an image, a machine file, if there is one, and others
pub input-behind_machine : (image : NamedFile) (machine : Option (List ℕ)) (more : List NamedFile) (options : Options) (contents : List (List ℕ))
    → AreWithin (image ∷ file_if_named role.Machine machine ++ (more ++ input_of options)) contents
    → length (bytes_at contents (behind_machine machine + length more)) ≤ input_limit
input-behind_machine image None more options contents within =
    let place : length (image ∷ more) ≡ 1 + length more = omega arith in
    subst (λ (n : ℕ). length (bytes_at contents n) ≤ input_limit) place (input-behind (image ∷ more) options contents within)
input-behind_machine image (Some name) more options contents within =
    let place : length (image ∷ file role.Machine name ∷ more) ≡ 2 + length more = omega arith in
    subst (λ (n : ℕ). length (bytes_at contents n) ≤ input_limit) place (input-behind (image ∷ file role.Machine name ∷ more) options contents within)

-- and where there are no others
pub input-behind_machine_alone : (image : NamedFile) (machine : Option (List ℕ)) (options : Options) (contents : List (List ℕ))
    → AreWithin (image ∷ file_if_named role.Machine machine ++ input_of options) contents → length (bytes_at contents (behind_machine machine)) ≤ input_limit
input-behind_machine_alone image machine options contents within =
    let place : behind_machine machine + 0 ≡ behind_machine machine = omega arith in
    subst (λ (n : ℕ). length (bytes_at contents n) ≤ input_limit) place (input-behind_machine image machine [] options contents within)

-- the same behind an image and so many machine files
pub input-behind_machines : (image : NamedFile) (machines : List (List ℕ)) (named : List ℕ → NamedFile) (options : Options) (contents : List (List ℕ))
    → AreWithin (image ∷ map named machines ++ input_of options) contents → length (bytes_at contents (length machines + 1)) ≤ input_limit
input-behind_machines image machines named options contents within =
    let many : length (image ∷ map named machines) ≡ length machines + 1 = omega (arith, length-map machines named) in
    subst (λ (n : ℕ). length (bytes_at contents n) ≤ input_limit) many (input-behind (image ∷ map named machines) options contents within)

-- the files of one more row
pub named-next : {A : Type 0} (rows : A → List NamedFile) (all : List A) (i : ℕ) (row : A) (before files after : List NamedFile) → i < length all → row ≡ get_or all i row
    → after ≡ files ++ rows row → files ≡ before ++ flat_map rows (take i all) → after ≡ before ++ flat_map rows (take (i + 1) all)
named-next rows all i row before files after within at added so_far =
    let up : i + 1 ≡ suc i = omega arith in
    let grows : take (i + 1) all ≡ take i all ++ row ∷ [] =
    ap (λ (n : ℕ). take n all) up ∙ take-suc all i row within ∙ ap (λ r. take i all ++ r ∷ []) (sym at) in
    let more : flat_map rows (take (i + 1) all) ≡ flat_map rows (take i all) ++ rows row =
    ap (flat_map rows) grows ∙ flat_map-append rows (take i all) (row ∷ []) ∙ ap (λ fs. flat_map rows (take i all) ++ fs) (append-nil (rows row)) in
    added ∙ ap (λ fs. fs ++ rows row) so_far ∙ append_assoc before (flat_map rows (take i all)) (rows row) ∙ ap (λ fs. before ++ fs) (sym more)

-- what is left where a stage was refused
pub gives-through : {B : Type 0} (wanted result : Result B Status) (status : Status) → (y : Status) × (result ≡ Err y) × (y ≡ status) → (status ≢ Memory → wanted ≡ Err status) →
    Gives wanted result
gives-through wanted result status left refused = subst (Gives wanted) (sym (left.1 ∙ ap Err left.2)) refused

-- a line that is played on one thread asks for one run
never-sweep : {P : Type 0} (wanted : Result SingleJob Status) (files : SweepFiles) → single_job wanted ≡ Ok (Sweep files) → P
never-sweep (Ok job) files same = cc
never-sweep (Err status) files same = cc

never-swept : {P : Type 0} (setup : Result Setup Status) (history : ℕ) (files : SweepFiles) → (setup >>= λ made. Ok (Gdb made history)) ≡ Ok (Sweep files) → P
never-swept (Ok setup) history files same = cc
never-swept (Err status) history files same = cc

pub still-single : {P : Type 0} (asked : Line) (sets : ℕ) (contents : List (List ℕ)) (files : SweepFiles) → is_still asked ≡ true → job_of asked sets contents ≡ Ok (Sweep files) → P
unfolding gdb_job
still-single (line.Func image machine options) sets contents files still same = never-sweep (func_job machine options contents) files same
still-single (line.Run image machine pipeline threads options) sets contents files still same = never-sweep (pipeline_job pipeline options contents) files same
still-single (line.Sched image machine plan options) sets contents files still same = never-sweep (sched_job options contents) files same
still-single (line.Soak seed) sets contents files still same = never-sweep (Ok (Run (soak_setup seed))) files same
still-single (line.Back image script machine history options) sets contents files still same = never-sweep (back_job history machine options contents) files same
still-single (line.Inorder image machine (Some plan) options) sets contents files still same = never-sweep (inorder_job options contents) files same
still-single (line.Inorder image machine None options) sets contents files still same = never-sweep (inorder_run_job options contents) files same
still-single (line.Sweep image machines pipeline options) sets contents files still same = cc
still-single (line.Trace image machine from to pipeline options) sets contents files still same = never-sweep (trace_job pipeline from to options contents) files same
still-single (line.Stack image machine pipeline options) sets contents files still same = never-sweep (stack_job pipeline options contents) files same
still-single (line.Profile image machine pipeline options) sets contents files still same = never-sweep (profile_job pipeline options contents) files same
still-single (line.Count image machine options) sets contents files still same = never-sweep (count_job machine options contents) files same
still-single (line.Gdb image machine history options) sets contents files still same = never-swept (placed_setup machine options contents) history files same

-- a line that isn't played on one thread asks for no talk
same-job : (a b : Job) → ◌≡◌ {A = Result Job Status} (Ok a) (Ok b) → a ≡ b
same-job a b same = cc

no-job : {P : Type 0} (status : Status) (job : Job) → ◌≡◌ {A = Result Job Status} (Err status) (Ok job) → P
no-job status job same = cc

single-silent : (wanted : Result SingleJob Status) (job : Job) → single_job wanted ≡ Ok job → is_talk job ≡ false
single-silent (Ok one) job same = ap is_talk (sym (same-job (Single one) job same))
single-silent (Err status) job same = no-job status job same

sweep-silent : (wanted : Result SweepFiles Status) (job : Job) → (wanted >>= λ files. Ok (Sweep files)) ≡ Ok job → is_talk job ≡ false
sweep-silent (Ok files) job same = ap is_talk (sym (same-job (Sweep files) job same))
sweep-silent (Err status) job same = no-job status job same

never-moves : {P : Type 0} → true ≡ false → P
never-moves is = cc

pub moving-silent : (asked : Line) (sets : ℕ) (contents : List (List ℕ)) (job : Job) → is_still asked ≡ false → job_of asked sets contents ≡ Ok job → is_talk job ≡ false
moving-silent (line.Func image machine options) sets contents job moves same = never-moves moves
moving-silent (line.Run image machine pipeline threads options) sets contents job moves same = single-silent (pipeline_job pipeline options contents) job same
moving-silent (line.Sched image machine plan options) sets contents job moves same = never-moves moves
moving-silent (line.Soak seed) sets contents job moves same = single-silent (Ok (Run (soak_setup seed))) job same
moving-silent (line.Back image script machine history options) sets contents job moves same = never-moves moves
moving-silent (line.Inorder image machine plan options) sets contents job moves same = never-moves moves
moving-silent (line.Sweep image machines pipeline options) sets contents job moves same = sweep-silent (swept machines pipeline options sets contents) job same
moving-silent (line.Trace image machine from to pipeline options) sets contents job moves same = never-moves moves
moving-silent (line.Stack image machine pipeline options) sets contents job moves same = never-moves moves
moving-silent (line.Profile image machine pipeline options) sets contents job moves same = never-moves moves
moving-silent (line.Count image machine options) sets contents job moves same = never-moves moves
moving-silent (line.Gdb image machine history options) sets contents job moves same = never-moves moves
